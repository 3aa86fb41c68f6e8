-- Building, as it is told.
use mathlib.Core.Path.{◌≡◌, refl, sym, ap, ◌∙◌}
use mathlib.Core.Bool.{Bool, true, false, ◌&&◌}
use mathlib.Core.List.{List, [], ◌∷◌}
use Prim.Native.Nat.{ℕ, zero, suc, ◌+◌, ◌*◌, ◌≤◌, ◌<◌}
use native.Mathlib.Omega.{arith}
use borrow.Author.Tests.{ne_eqb, le-leb, lt-leb, leb-true}
use lib.ListN.{length, set, take, drop}
use Rattle.std.specs.Prelude.{Result, Ok, Err, ◌==◌}
use Rattle.laws.specs.Tests.{◌≤?◌, or_else, refuse}
use Rattle.laws.specs.Words.{zeros, filled}
use Rattle.laws.proofs.Tests.{by_test, true≢false, not_refused}
use Rattle.laws.proofs.Words.{zeros-length, filled_none, filled_more}
use Rattle.rules.specs.declared.NetlistCounts.{NetlistCounts}
use Rattle.rules.specs.declared.Rooms.{Rooms}
use Rattle.rules.specs.declared.Tally.{Tally}
use Rattle.rules.specs.declared.Refusal.{Refusal}
use Rattle.rules.specs.Netlist.{Netlist}
use Rattle.rules.specs.Bounds.{netlist_within, rooms_within}
use Rattle.rules.specs.Build.{graph_of, tally}
use Rattle.rules.specs.Refusals.{netlist_number, room_fits}
use Rattle.rules.specs.Tables.{held}
use Rattle.rules.specs.Answers.{BuildLengths, BuildTables, build_number, build_tables, answer_of, number_of, netlist_long, rooms_long}
use Rattle.roles.specs.Reading.{tables}
use Rattle.tells.proofs.Numbers.{number_of_lem}
use Rattle.tells.proofs.Telling.{held_same}
use Rattle.aig.specs.Building.{lengths_of, Answered}
use Rattle.capi.proofs.Few.{build_few}
use Rattle.capi.specs.Building.{tally_words, MadeTold, built_number, built_words, BuiltTold, starts_asked, graph_number, GraphBuilt}

-- ---- the starts that are asked with
pub starts_none : (room : ℕ) (starts r : List ℕ) → room < 5 → r ≡ take 0 (drop 0 starts) → r ≡ starts_asked room starts
starts_none room starts r l e = e ∙ sym (rw (lt-leb 5 room l))

pub starts_all : (room : ℕ) (starts : List ℕ) → 5 ≤ room → starts ≡ starts_asked room starts
starts_all room starts l = sym (rw (le-leb 5 room l))

-- ---- the counts
pub five_put : (ws : List ℕ) (a b c d e : ℕ) → ws ≡ zeros (length ws) → 5 ≤ length ws
    → set (set (set (set (set ws 0 a) 1 b) 2 c) 3 d) 4 e ≡ filled (a ∷ b ∷ c ∷ d ∷ e ∷ []) (length ws)
five_put ws a b c d e z l =
    ap (λ (w : List ℕ). set (set (set (set (set w 0 a) 1 b) 2 c) 3 d) 4 e) (z ∙ sym (filled_none (length ws)))
    ∙ ap (λ (w : List ℕ). set (set (set (set w 1 b) 2 c) 3 d) 4 e) (filled_more [] (length ws) a (omega arith))
    ∙ ap (λ (w : List ℕ). set (set (set w 2 c) 3 d) 4 e) (filled_more (a ∷ []) (length ws) b (omega arith))
    ∙ ap (λ (w : List ℕ). set (set w 3 d) 4 e) (filled_more (a ∷ b ∷ []) (length ws) c (omega arith))
    ∙ ap (λ (w : List ℕ). set w 4 e) (filled_more (a ∷ b ∷ c ∷ []) (length ws) d (omega arith))
    ∙ filled_more (a ∷ b ∷ c ∷ d ∷ []) (length ws) e (omega arith)

module _ (t : Tally) (n : List ℕ) where
  pub made_short : n ≡ zeros (length n) → length n < 5 → MadeTold t n n 2
  made_short z l = record { answer = sym (rw (lt-leb 5 (length n) l)); counts = z }

  pub made_done : (n' : List ℕ) → 5 ≤ length n → n' ≡ filled (tally_words t) (length n) → MadeTold t n n' 0
  made_done n' l e = record { answer = sym (rw (le-leb 5 (length n) l)); counts = e }

module _ (r : Result Tally Refusal) (n n₁ : List ℕ) (z : n₁ ≡ zeros (length n)) where
  long : length n₁ ≡ length n
  long = ap length z ∙ zeros-length (length n)

  pub built_zeroed : n₁ ≡ zeros (length n₁)
  built_zeroed = z ∙ ap zeros (sym long)

  pub built_made : (t : Tally) (n₂ : List ℕ) (k : ℕ) → r ≡ Ok t → MadeTold t n₁ n₂ k → BuiltTold r n n₂ k
  built_made t n₂ k e m = record {
    answer = m.answer ∙ ap (λ (x : ℕ). refuse 2 (5 ≤? x)) long ∙ ap (built_number (length n)) (sym e);
    counts = m.counts ∙ ap (λ (x : ℕ). held k (tally_words t) x) long ∙ ap (λ (x : Result Tally Refusal). held k (built_words x) (length n)) (sym e);
  }

  none-held : (k : ℕ) → zeros (length n) ≡ held k [] (length n)
  none-held zero = sym (filled_none (length n))
  none-held (suc k) = refl

  pub built_refused : (f : Refusal) (k : ℕ) → r ≡ Err f → k ≡ number_of f → BuiltTold r n n₁ k
  built_refused f k e q = record {
    answer = q ∙ ap (built_number (length n)) (sym e);
    counts = z ∙ none-held k ∙ ap (λ (x : Result Tally Refusal). held k (built_words x) (length n)) (sym e);
  }

-- ---- the number, with the starts that are asked with
full : (x b : Bool) (k r : ℕ) → b ≡ true → k ≡ or_else (refuse 1 x) r → k ≡ or_else (refuse 1 x) (or_else (refuse 2 b) k)
full true true k r t e = refl
full false true k r t e = e
full x false k r t e = true≢false false t refl

short : (x b y : Bool) (k z r : ℕ) → b ≡ false → y ≡ false → k ≡ or_else (refuse 1 x) (or_else (refuse 2 y) z) → k ≡ or_else (refuse 1 x) (or_else (refuse 2 b) r)
short true false false k z r f g e = e
short false false false k z r f g e = e
short x true y k z r f g e = true≢false true refl f
short x false true k z r f g e = true≢false true refl g

no_starts : (a b c d e : Bool) → b ≡ false → (a && b && c && d && e) ≡ false
no_starts true false c d e f = refl
no_starts false false c d e f = refl
no_starts a true c d e f = true≢false true refl f

and_fails_l : (x y : Bool) → x ≡ false → (x && y) ≡ false
and_fails_l false y f = refl
and_fails_l true y f = true≢false true refl f

told-number : (room k : ℕ) (t : Tally) → k ≤ 15 → (k ≡ 0 → 5 ≤ room) → built_number room (answer_of k t) ≡ k
told-number room zero t l f = rw (le-leb 5 room (f refl)) refl
told-number room (suc k) t l f = number_of_lem k (omega arith)

same_tables : (k : ℕ) (n₁ n : Netlist) (l : BuildLengths) → (k ≡ 0 → n₁ ≡ n) → build_tables k n₁ l ≡ build_tables k n l
same_tables zero n₁ n l f = ap (λ (x : Netlist). build_tables 0 x l) (f refl)
same_tables (suc k) n₁ n l f = refl

words_of : (k : ℕ) (t : Tally) → k ≡ 0 → built_words (answer_of k t) ≡ tally_words t
words_of k t z = ap (λ (x : ℕ). built_words (answer_of x t)) z

module _ (c : NetlistCounts) (rm : Rooms) (kinds starts list pins nets : List ℕ) (l : BuildLengths) (room : ℕ) where
  abbrev given : List ℕ → Netlist
  given s = tables kinds s list pins nets

  abbrev rest : List ℕ → ℕ
  rest s = or_else (netlist_number (given s)) (refuse 11 (room_fits (tally (graph_of (given s))) rm))

  number-says : (s : List ℕ) → build_number c rm (given s) l
      ≡ or_else (refuse 1 (netlist_within c && rooms_within rm)) (or_else (refuse 2 (netlist_long c (given s) && rooms_long c rm l)) (rest s))
  unfolding build_number
  number-says s = refl

  without : (netlist_long c (given []) && rooms_long c rm l) ≡ false
  without = and_fails_l (netlist_long c (given [])) (rooms_long c rm l)
      (no_starts (length kinds == c.cells) (0 == c.cells + 1) (length list == c.pins) (length pins == 5 * c.pins) (length nets == c.nets) (ne_eqb 0 (c.cells + 1) (λ e. omega (arith, e))))

  abbrev told : ℕ
  told = or_else (refuse 1 (netlist_within c && rooms_within rm)) (or_else (refuse 2 (5 ≤? room)) (build_number c rm (given starts) l))

  given_all : (5 ≤? room) ≡ true → starts_asked room starts ≡ starts
  given_all t = rw t refl

  given_none : (5 ≤? room) ≡ false → starts_asked room starts ≡ []
  given_none f = rw f refl

  as_told : build_number c rm (given (starts_asked room starts)) l ≡ told
  as_told = by_test (5 ≤? room)
      (λ t. ap (λ (s : List ℕ). build_number c rm (given s) l) (given_all t)
      ∙ full (netlist_within c && rooms_within rm) (5 ≤? room) (build_number c rm (given starts) l)
      (or_else (refuse 2 (netlist_long c (given starts) && rooms_long c rm l)) (rest starts)) t (number-says starts))
      (λ f. ap (λ (s : List ℕ). build_number c rm (given s) l) (given_none f)
      ∙ short (netlist_within c && rooms_within rm) (5 ≤? room) (netlist_long c (given []) && rooms_long c rm l) (build_number c rm (given []) l)
      (rest []) (build_number c rm (given starts) l) f without (number-says []))

  -- a success has room for the counts
  roomy : told ≡ 0 → (5 ≤? room) ≡ true
  roomy e =
      let p = not_refused 0 (netlist_within c && rooms_within rm) (or_else (refuse 2 (5 ≤? room)) (build_number c rm (given starts) l)) e in
      (not_refused 1 (5 ≤? room) (build_number c rm (given starts) l) p.1).0

  told_is : told ≡ graph_number room c rm (given starts) l
  unfolding graph_number
  told_is = refl

-- ---- the call
module _ (c : NetlistCounts) (rm : Rooms) (kinds starts list pins nets : List ℕ) (t₀ : BuildTables) (work n s : List ℕ) (t' : BuildTables) (w' n' : List ℕ) (a : Result Tally Refusal) (r : ℕ) where
  pub build-told : s ≡ starts_asked (length n) starts → Answered c rm (tables kinds s list pins nets) (lengths_of t₀ (length work)) w' t' a → BuiltTold a n n' r
      → GraphBuilt c rm kinds starts list pins nets (lengths_of t₀ (length work)) n t' n' w' r
  build-told es p q = record {
    answer = is ∙ told_is c rm kinds starts list pins nets l (length n);
    results = p.tables ∙ ap (λ (k : ℕ). build_tables k n₁ l) (number ∙ sym is) ∙ same_tables r n₁ n₀ l (λ z. same (sym is ∙ z));
    counts = q.counts ∙ held_same r (built_words a) (tally_words (tally (graph_of n₀))) (length n) (λ z.
        ap built_words p.answer ∙ words_of k (tally (graph_of n₁)) (number ∙ sym is ∙ z) ∙ ap (λ (x : Netlist). tally_words (tally (graph_of x))) (same (sym is ∙ z)));
    work = p.work;
  }
    where
      l : BuildLengths
      l = lengths_of t₀ (length work)

      n₁ : Netlist
      n₁ = tables kinds s list pins nets

      n₀ : Netlist
      n₀ = tables kinds starts list pins nets

      k : ℕ
      k = build_number c rm n₁ l

      d : ℕ
      d = told c rm kinds starts list pins nets l (length n)

      number : k ≡ d
      number = ap (λ (x : List ℕ). build_number c rm (tables kinds x list pins nets) l) es ∙ as_told c rm kinds starts list pins nets l (length n)

      same : d ≡ 0 → n₁ ≡ n₀
      same z = ap (λ (x : List ℕ). tables kinds x list pins nets) (es ∙ given_all c rm kinds starts list pins nets l (length n) (roomy c rm kinds starts list pins nets l (length n) z))

      is : r ≡ d
      is = q.answer ∙ ap (built_number (length n)) p.answer
          ∙ told-number (length n) k (tally (graph_of n₁)) (build_few c rm n₁ l) (λ z. leb-true 5 (length n) (roomy c rm kinds starts list pins nets l (length n) (sym number ∙ z))) ∙ number
