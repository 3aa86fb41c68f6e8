-- Words written behind those that a table holds: one, and those of a list that pass a test.
use mathlib.Core.Path.{◌≡◌, refl, sym, ap, subst, ◌∙◌}
use mathlib.Core.Bool.{Bool, true, false}
use mathlib.Core.List.{List, [], ◌∷◌, ◌++◌, append-nil, append_assoc}
use Prim.Native.Nat.{ℕ, zero, suc, ◌+◌, ◌*◌, ◌<◌, ◌≤◌}
use native.Mathlib.Numerals.{add-one}
use native.Mathlib.Omega.{arith}
use lib.ListN.{length, get_or, take, drop, set, length-set, length-append}
use lib.Seq.{take-suc, take_all}
use borrow.Author.Tests.{eq-eqb, ne_eqb}
use Rattle.laws.specs.Lists.{keep}
use Rattle.laws.specs.Words.{part}
use Rattle.laws.proofs.Bags.{keep_append}
use Rattle.laws.proofs.Words.{part_none, part-more, part_length, part_at, part_is, zero_from_more}
use Rattle.rules.specs.declared.GraphCounts.{GraphCounts}
use Rattle.reads.specs.Reads.{ins_of}
use Rattle.levels.specs.State.{Lefts}
use Rattle.members.specs.Set.{SetIn}
use Rattle.picks.specs.Tables.{picks, low_ins, take_test, free_test, Open, Full, Pushed}

-- ---- one word
module _ (t : List ℕ) (n v : ℕ) (o : Open t n) where
  pub push_full : length t ≤ n → Full t n (v ∷ []) t
  push_full l = record { small = omega arith; long = refl }

  pub push_one : n < length t → Pushed t n (v ∷ []) (set t n v) (n + 1)
  push_one l = record {
    count = refl;
    ready = record { inside = omega (arith, length-set t n v); zero = zero_from_more t n v o.zero };
    inside = omega (arith, length-set t n v);
    long = length-set t n v;
    words = let e : 0 + n ≡ n = omega arith in ap (λ (k : ℕ). part (set t k v) 0 (n + 1)) (sym e) ∙ part-more t 0 n v (omega arith);
    added = let e : n + 0 ≡ n = omega arith in let e' : 0 + 1 ≡ 1 = refl in
        ap (λ (k : ℕ). part (set t k v) n 1) (sym e) ∙ part-more t n 0 v (omega arith) ∙ ap (λ (x : List ℕ). x ++ (v ∷ [])) (part_none t n);
  }

-- ---- none, and more
pub pushed_none : (t : List ℕ) (n : ℕ) → Open t n → Pushed t n [] t n
pushed_none t n o = record { count = omega arith; ready = o; inside = o.inside; long = refl; words = sym (append-nil (part t 0 n)); added = part_none t n }

-- a part that two parts make
part_join : (w : List ℕ) (a i j : ℕ) → a + (i + j) ≤ length w → part w a (i + j) ≡ part w a i ++ part w (a + i) j
part_join w a i zero h = let e : i + 0 ≡ i = omega arith in ap (part w a) e ∙ sym (ap (λ (x : List ℕ). part w a i ++ x) (part_none w (a + i)) ∙ append-nil (part w a i))
part_join w a i (suc j) h =
    let e : i + suc j ≡ i + j + 1 = omega arith in
    let e' : suc j ≡ j + 1 = omega arith in
    let p : a + (i + j) ≡ a + i + j = omega arith in
    ap (part w a) e ∙ Rattle.laws.proofs.Words.part_suc w a (i + j) (omega arith)
    ∙ (λ k. part_join w a i j (omega arith) k ++ (get_or w (p k) 0 ∷ []))
    ∙ append_assoc (part w a i) (part w (a + i) j) (get_or w (a + i + j) 0 ∷ [])
    ∙ ap (λ (x : List ℕ). part w a i ++ x) (sym (ap (part w (a + i)) e' ∙ Rattle.laws.proofs.Words.part_suc w (a + i) j (omega arith)))

module _ (t : List ℕ) (n : ℕ) (ps t₁ : List ℕ) (n₁ : ℕ) (a : Pushed t n ps t₁ n₁) (qs t₂ : List ℕ) (n₂ : ℕ) where
  pub pushed_on : Pushed t₁ n₁ qs t₂ n₂ → Open t n → Pushed t n (ps ++ qs) t₂ n₂
  pushed_on b o =
      let count : n₂ ≡ n + length (ps ++ qs) = omega (arith, a.count, b.count, length-append ps qs) in
      let whole : part t₂ 0 n₂ ≡ part t 0 n ++ (ps ++ qs) = b.words ∙ ap (λ (x : List ℕ). x ++ qs) a.words ∙ append_assoc (part t 0 n) ps qs in
      record {
        count = count;
        ready = b.ready;
        inside = b.inside;
        long = b.long ∙ a.long;
        words = whole;
        added = part_is t₂ (ps ++ qs) n (omega (arith, count, b.inside))
            (λ j l.
            let e : 0 + (n + j) ≡ n + j = omega arith in
            let pl : length (part t 0 n) ≡ n = part_length t 0 n (omega (arith, o.inside)) in
            ap (λ (k : ℕ). get_or t₂ k 0) (sym e) ∙ sym (part_at t₂ 0 n₂ (n + j) (omega (arith, count)))
            ∙ ap (λ (x : List ℕ). get_or x (n + j) 0) whole
            ∙ ap (λ (k : ℕ). get_or (part t 0 n ++ (ps ++ qs)) (k + j) 0) (sym pl)
            ∙ lib.Seq.get_or-append-add (part t 0 n) (ps ++ qs) j 0);
      }

-- ---- those of a list that pass a test: the first i are done
pub record PushTo (f : ℕ → Bool) (l t₀ : List ℕ) (first : ℕ) (t : List ℕ) (n i : ℕ) : Type 0 where
  pub inside : i ≤ length l
  pub open₀ : Open t₀ first
  pub done : Pushed t₀ first (picks f (take i l)) t n
  pub same_length : length t ≡ length t₀

pub push_begins : (f : ℕ → Bool) (l t : List ℕ) (first : ℕ) → Open t first → PushTo f l t first t first 0
unfolding picks
push_begins f l t first o = record { inside = omega arith; open₀ = o; done = pushed_none t first o; same_length = refl }

module _ (f : ℕ → Bool) (l t₀ : List ℕ) (first : ℕ) (t : List ℕ) (n i : ℕ) (s : PushTo f l t₀ first t n i) where
  pub push_open : Open t n
  push_open = s.done.ready

  module _ (h : i < length l) (x : ℕ) (q : x ≡ get_or l i 0) (t' : List ℕ) where
    more : picks f (take (i + 1) l) ≡ picks f (take i l) ++ picks f (x ∷ [])
    unfolding picks
    more = ap (λ (k : ℕ). keep f (take k l)) (add-one i) ∙ ap (keep f) (take-suc l i 0 h) ∙ keep_append f (take i l) (get_or l i 0 ∷ [])
        ∙ ap (λ (y : ℕ). keep f (take i l) ++ keep f (y ∷ [])) (sym q)

    pub push_goes_on : (n' : ℕ) → Pushed t n (picks f (x ∷ [])) t' n' → PushTo f l t₀ first t' n' (i + 1)
    push_goes_on n' p = record {
      inside = omega arith;
      open₀ = s.open₀;
      done = subst (λ (y : List ℕ). Pushed t₀ first y t' n') (sym more) (pushed_on t₀ first (picks f (take i l)) t n s.done (picks f (x ∷ [])) t' n' p s.open₀);
      same_length = p.long ∙ s.same_length;
    }

    -- what is still to come makes the list no shorter
    shorter : length (picks f (take (i + 1) l)) ≤ length (picks f l)
    unfolding picks
    shorter = let e = keep_append f (take (i + 1) l) (drop (i + 1) l) in
        omega (arith, ap length (ap (keep f) (sym (lib.ListN.take-append-drop (i + 1) l)) ∙ e), length-append (keep f (take (i + 1) l)) (keep f (drop (i + 1) l)))

    pub push_fails : Full t n (picks f (x ∷ [])) t' → Full t₀ first (picks f l) t'
    push_fails p = record {
      small = omega (arith, p.small, s.same_length, s.done.count, ap length more, length-append (picks f (take i l)) (picks f (x ∷ [])), shorter);
      long = p.long ∙ s.same_length;
    }

  pub push_ends : length l ≤ i → Pushed t₀ first (picks f l) t n
  push_ends h = subst (λ (y : List ℕ). Pushed t₀ first (picks f y) t n) (take_all i l h) s.done

-- ---- the tests in the code's shape
module _ (f : ℕ → Bool) (x : ℕ) where
  pub test_no : (t : List ℕ) (n : ℕ) → Open t n → f x ≡ false → Pushed t n (picks f (x ∷ [])) t n
  unfolding picks
  test_no t n o e = rw e (pushed_none t n o)

  pub test_yes : f x ≡ true → picks f (x ∷ []) ≡ x ∷ []
  unfolding picks
  test_yes e = rw e

module _ (c : GraphCounts) (os ds rs : List ℕ) (m : ℕ) (w : List ℕ) (d e : ℕ) (b : Bool) (q : b ≡ low_ins m w d (ins_of c os ds rs e)) where
  pub take_no : (t : List ℕ) (n : ℕ) → Open t n → b ≡ false → Pushed t n (picks (take_test c os ds rs m w d) (e ∷ [])) t n
  unfolding take_test
  take_no t n o f = test_no (take_test c os ds rs m w d) e t n o (sym q ∙ f)

  pub take_yes : b ≡ true → picks (take_test c os ds rs m w d) (e ∷ []) ≡ e ∷ []
  unfolding take_test
  take_yes f = test_yes (take_test c os ds rs m w d) e (sym q ∙ f)

module _ (m : ℕ) (w : List ℕ) (p x : ℕ) (q : x ≡ get_or w (m + p) 0) where
  pub hand_no : (t : List ℕ) (n : ℕ) → Open t n → (x ≡ 0 → ⊥) → Pushed t n (picks (free_test m w) (p ∷ [])) t n
  unfolding free_test
  hand_no t n o z = test_no (free_test m w) p t n o (ne_eqb (get_or w (m + p) 0) 0 (λ e. z (q ∙ e)))

  pub hand_yes : x ≡ 0 → picks (free_test m w) (p ∷ []) ≡ p ∷ []
  unfolding free_test
  hand_yes z = test_yes (free_test m w) p (eq-eqb (get_or w (m + p) 0) 0 (sym q ∙ z))

-- ---- the loops over the words of a part
pub record PartTo (f : ℕ → Bool) (w : List ℕ) (a k : ℕ) (t₀ : List ℕ) (first : ℕ) (t : List ℕ) (n i : ℕ) : Type 0 where
  pub inside : i ≤ k
  pub long : a + k ≤ length w
  pub done : PushTo f (part w a k) t₀ first t n i
  pub same_length : length t ≡ length t₀

pub part_begins : (f : ℕ → Bool) (w : List ℕ) (a k : ℕ) (t : List ℕ) (first : ℕ) → a + k ≤ length w → Open t first → PartTo f w a k t first t first 0
part_begins f w a k t first h o = record { inside = omega arith; long = h; done = push_begins f (part w a k) t first o; same_length = refl }

module _ (f : ℕ → Bool) (w : List ℕ) (a k : ℕ) (t₀ : List ℕ) (first : ℕ) (t : List ℕ) (n i : ℕ) (s : PartTo f w a k t₀ first t n i) where
  pub part_open : Open t n
  part_open = s.done.done.ready

  k_is : length (part w a k) ≡ k
  k_is = part_length w a k s.long

  module _ (h : i < k) (x : ℕ) (q : x ≡ get_or w (a + i) 0) (t' : List ℕ) where
    x_is : x ≡ get_or (part w a k) i 0
    x_is = q ∙ sym (part_at w a k i h)

    pub part_goes_on : (n' : ℕ) → Pushed t n (picks f (x ∷ [])) t' n' → PartTo f w a k t₀ first t' n' (i + 1)
    part_goes_on n' p = let d = push_goes_on f (part w a k) t₀ first t n i s.done (omega (arith, k_is)) x x_is t' n' p in
        record { inside = omega arith; long = s.long; done = d; same_length = d.same_length }

    pub part_fails : Full t n (picks f (x ∷ [])) t' → Full t₀ first (picks f (part w a k)) t'
    part_fails p = push_fails f (part w a k) t₀ first t n i s.done (omega (arith, k_is)) x x_is t' p

  pub part_ends : k ≤ i → Pushed t₀ first (picks f (part w a k)) t n
  part_ends l = push_ends f (part w a k) t₀ first t n i s.done (omega (arith, k_is))

pub left_below : (w : List ℕ) (m n e i x : ℕ) → Lefts w m n e → i < n → x ≡ get_or w (8 * m + i) 0 → x < e
left_below w m n e i x l h q = omega (arith, l.inside i h)

pub set_below : (w : List ℕ) (m n i x : ℕ) → SetIn w (6 * m) m n → i < n → x ≡ get_or w (6 * m + i) 0 → x < m
set_below w m n i x s h q = omega (arith, s.inside i h)

pub left-part : (w : List ℕ) (m n e : ℕ) → Lefts w m n e → 8 * m + n ≤ length w
left-part w m n e l = l.long

pub set-part : (w : List ℕ) (m n : ℕ) → SetIn w (6 * m) m n → 6 * m + n ≤ length w
set-part w m n s = omega (arith, s.long, s.few)
