-- Readers that are done, of one pin, of an endpoint, of all endpoints taken.
use mathlib.Core.Path.{◌≡◌, refl, sym, ap, subst, ◌∙◌}
use mathlib.Core.List.{List, [], ◌∷◌, ◌++◌, append-nil}
use Prim.Native.Nat.{ℕ, ◌+◌, ◌-◌, ◌*◌, ◌/◌, ◌<◌, ◌≤◌}
use native.Mathlib.Numerals.{add-one}
use native.Mathlib.Omega.{arith}
use lib.ListN.{length, get_or, take, set, length-set}
use lib.Seq.{get_or-set_other, take-suc, take_all}
use borrow.Author.Tests.{lt-ltb, eq-eqb, ne_eqb}
use Rattle.std.specs.Prelude.{◌==◌}
use Rattle.laws.specs.Tests.{one}
use Rattle.laws.specs.Lists.{flat, over}
use Rattle.laws.specs.Sets.{remove}
use Rattle.laws.specs.Words.{part}
use Rattle.laws.proofs.Tests.{one_eq, one_ne}
use Rattle.laws.proofs.Bags.{flat-joined}
use Rattle.laws.proofs.Folds.{over-append}
use Rattle.laws.proofs.Words.{get_d_set, part-before, part_length, part_at}
use Rattle.rules.specs.declared.GraphCounts.{GraphCounts}
use Rattle.rules.specs.Stages.{read}
use Rattle.rules.specs.Answers.{endpoints}
use Rattle.members.specs.Set.{SetIn, Removed}
use Rattle.members.proofs.Frames.{within_none, within_on, within_more, within-set}
use Rattle.reads.specs.Reads.{Lent, reads_in, reads_long, ins_of, ins_to}
use Rattle.reads.proofs.Inputs.{ins_none, ins_step, ins_all}
use Rattle.levels.specs.State.{ReadsFit, only}
use Rattle.joins.specs.State.{Holds, ReadAll, Takens}

-- ---- one after the other
module _ (m : ℕ) where
  pub read_none : (w : List ℕ) (n : ℕ) → SetIn w (6 * m) m n → ReadAll m w n [] w n
  read_none w n s = record { holds = s; joins = λ j h. h; kept = within_none (5 * m) (8 * m) w }

  pub read_on : (u : List ℕ) (i : ℕ) (ps v : List ℕ) (j : ℕ) (qs w : List ℕ) (k : ℕ) → ReadAll m u i ps v j → ReadAll m v j qs w k → ReadAll m u i (ps ++ qs) w k
  read_on u i ps v j qs w k a b = record {
    holds = b.holds;
    joins = λ s h. subst (Holds m w k) (sym (over-append read s ps qs)) (b.joins (over read s ps) (a.joins s h));
    kept = within_on (5 * m) (8 * m) u v w a.kept b.kept;
  }

  -- a store at a reader leaves the set as it is
  pub set_same : (w : List ℕ) (n i v : ℕ) → i < 6 * m → SetIn w (6 * m) m n → SetIn (set w i v) (6 * m) m n
  set_same w n i v l s = record {
    few = s.few;
    room = s.room;
    long = rw (length-set w i v) s.long;
    once = λ p. rw (part-before w (6 * m) n i v l) (s.once p);
    inside = λ j lj. rw (get_or-set_other w i (6 * m + j) v 0 (omega arith)) (s.inside j lj);
    places = rw (part-before w (6 * m + m) m i v (omega arith), part-before w (6 * m) n i v l) s.places;
    beyond = λ j lj uj. get_or-set_other w i (6 * m + j) v 0 (omega arith) ∙ s.beyond j lj uj;
  }

-- ---- one pin
module _ (w : List ℕ) (m n o : ℕ) (s : SetIn w (6 * m) m n) (l : o < m) (r : ℕ) (er : r ≡ get_or w (5 * m + o) 0) where
  stored : (v : ℕ) → (p : ℕ) → p < m → (p ≡ o → v ≡ get_or w (5 * m + p) 0 - 1) → get_or (set w (5 * m + o) v) (5 * m + p) 0 ≡ get_or w (5 * m + p) 0 - one (p == o)
  stored v p lp e = get_d_set w (5 * m + o) (5 * m + p) v (λ (x : ℕ). x ≡ get_or w (5 * m + p) 0 - one (p == o)) (omega (arith, s.long))
      (λ d. let d' : p ≡ o = omega arith in omega (arith, e d', one_eq p o d'))
      (λ ne. omega (arith, one_ne p o (λ d. ne (omega arith))))

  pub more-read : 1 < r → ReadAll m w n (o ∷ []) (set w (5 * m + o) (r - 1)) n
  more-read h = record {
    holds = set_same m w n (5 * m + o) (r - 1) (omega arith) s;
    joins = λ j hj.
        let ne : j.readers o - 1 ≡ 0 → ⊥ = λ z. omega (arith, h, er, hj.readers o l, z) in
        record {
          members = part-before w (6 * m) n (5 * m + o) (r - 1) (omega arith) ∙ hj.members ∙ sym (rw (ne_eqb (j.readers o - 1) 0 ne));
          readers = λ p lp. stored (r - 1) p lp (λ d. omega (arith, er, ap (λ (x : ℕ). get_or w (5 * m + x) 0) d)) ∙ ap (λ (x : ℕ). x - one (p == o)) (hj.readers p lp);
        };
    kept = within-set (5 * m) (8 * m) w w (5 * m + o) (r - 1) (omega arith) (omega arith) (within_none (5 * m) (8 * m) w);
  }

  module _ (h : r ≤ 1) where
    pub last_set : SetIn (set w (5 * m + o) 0) (6 * m) m n
    last_set = set_same m w n (5 * m + o) 0 (omega arith) s

    pub last_read : (w' : List ℕ) (n' : ℕ) → Removed (set w (5 * m + o) 0) (6 * m) m n o w' n' → ReadAll m w n (o ∷ []) w' n'
    last_read w' n' d = record {
      holds = d.holds;
      joins = λ j hj.
          let z : j.readers o - 1 ≡ 0 = omega (arith, h, er, hj.readers o l) in
          record {
            members = d.members ∙ ap (λ (t : List ℕ). remove t o) (part-before w (6 * m) n (5 * m + o) 0 (omega arith) ∙ hj.members)
                ∙ sym (rw (eq-eqb (j.readers o - 1) 0 z));
            readers = λ p lp. d.kept.before (5 * m + p) (omega arith)
                ∙ stored 0 p lp (λ e. omega (arith, h, er, ap (λ (x : ℕ). get_or w (5 * m + x) 0) e)) ∙ ap (λ (x : ℕ). x - one (p == o)) (hj.readers p lp);
          };
      kept = within_on (5 * m) (8 * m) w (set w (5 * m + o) 0) w'
          (within-set (5 * m) (8 * m) w w (5 * m + o) 0 (omega arith) (omega arith) (within_none (5 * m) (8 * m) w))
          (within_more (6 * m) (6 * m + 2 * m) (5 * m) (8 * m) (set w (5 * m + o) 0) w' (omega arith) (omega arith) d.kept);
    }

pub last_long : (w : List ℕ) (i v a cap n o : ℕ) (w' : List ℕ) (n' : ℕ) → Removed (set w i v) a cap n o w' n' → length w' ≡ length w
last_long w i v a cap n o w' n' d = d.kept.long ∙ length-set w i v

-- ---- an input
module _ (w : List ℕ) (m n p : ℕ) where
  pub input_none : SetIn w (6 * m) m n → p ≡ 0 → ReadAll m w n (only p) w n
  input_none s z = subst (λ (q : ℕ). ReadAll m w n (only q) w n) (sym z) (read_none m w n s)

  pub input_read : (p ≡ 0 → ⊥) → (w' : List ℕ) (n' : ℕ) → ReadAll m w n (p ∷ []) w' n' → ReadAll m w n (only p) w' n'
  input_read ne w' n' r = let h : 0 < p = omega (arith, ne) in rw (lt-ltb 0 p h) r

-- ---- an endpoint: its first i literals are done
pub record ReadingIns (c : GraphCounts) (os ds rs : List ℕ) (m e k : ℕ) (w₀ : List ℕ) (n₀ : ℕ) (w : List ℕ) (n i : ℕ) : Type 0 where
  pub inside : i ≤ k
  pub many : k ≡ reads_long c e
  pub lent : Lent c os ds rs
  pub fit : ReadsFit c os ds rs m
  pub endpoint : e < endpoints c
  pub done : ReadAll m w₀ n₀ (ins_to c os ds rs e i) w n
  pub same_length : length w ≡ length w₀

module _ (c : GraphCounts) (os ds rs : List ℕ) (m e k : ℕ) where
  pub ins_begin : (w : List ℕ) (n : ℕ) → Lent c os ds rs → ReadsFit c os ds rs m → e < endpoints c → SetIn w (6 * m) m n → k ≡ reads_long c e
      → ReadingIns c os ds rs m e k w n w n 0
  ins_begin w n lent fit le s en = record {
    inside = omega arith;
    many = en;
    lent = lent;
    fit = fit;
    endpoint = le;
    done = subst (λ (l : List ℕ). ReadAll m w n l w n) (sym (ins_none c os ds rs e)) (read_none m w n s);
    same_length = refl;
  }

  module _ (w₀ : List ℕ) (n₀ : ℕ) (w : List ℕ) (n i : ℕ) (s : ReadingIns c os ds rs m e k w₀ n₀ w n i) where
    pub ins_set : SetIn w (6 * m) m n
    ins_set = s.done.holds

    module _ (l : i < k) where
      pub ins_number : i < reads_long c e
      ins_number = omega (arith, s.many)

      module _ (p : ℕ) (q : p ≡ get_or (reads_in c os ds rs e) i 0 / 2) where
        pub ins_pin : p < m
        ins_pin = omega (arith, s.fit.fit e i s.endpoint ins_number)

        pub ins_go_on : (w' : List ℕ) (n' : ℕ) → ReadAll m w n (only p) w' n' → ReadingIns c os ds rs m e k w₀ n₀ w' n' (i + 1)
        ins_go_on w' n' g = record {
          inside = omega arith;
          many = s.many;
          lent = s.lent;
          fit = s.fit;
          endpoint = s.endpoint;
          done = subst (λ (t : List ℕ). ReadAll m w₀ n₀ t w' n') (sym (ins_step c os ds rs e s.lent s.endpoint i p ins_number q))
              (read_on m w₀ n₀ (ins_to c os ds rs e i) w n (only p) w' n' s.done g);
          same_length = g.kept.long ∙ s.same_length;
        }

    pub ins_end : k ≤ i → ReadAll m w₀ n₀ (ins_of c os ds rs e) w n
    ins_end l = subst (λ (t : List ℕ). ReadAll m w₀ n₀ t w n) (ins_all c os ds rs e s.lent s.endpoint i (omega (arith, s.many))) s.done

-- ---- the endpoints taken: the first i are done
pub record ReadingTaken (c : GraphCounts) (os ds rs t : List ℕ) (first count m : ℕ) (w₀ : List ℕ) (n₀ : ℕ) (w : List ℕ) (n i : ℕ) : Type 0 where
  pub inside : i ≤ count
  pub lent : Lent c os ds rs
  pub fit : ReadsFit c os ds rs m
  pub takens : Takens t first count (endpoints c)
  pub long : first + count ≤ length t
  pub done : ReadAll m w₀ n₀ (flat (ins_of c os ds rs) (take i (part t first count))) w n
  pub same_length : length w ≡ length w₀

module _ (c : GraphCounts) (os ds rs t : List ℕ) (first count m : ℕ) where
  pub taken_begin : (w : List ℕ) (n : ℕ) → Lent c os ds rs → ReadsFit c os ds rs m → Takens t first count (endpoints c) → SetIn w (6 * m) m n
      → ReadingTaken c os ds rs t first count m w n w n 0
  taken_begin w n lent fit tk s = record { inside = omega arith; lent = lent; fit = fit; takens = tk; long = tk.long; done = read_none m w n s; same_length = refl }

  module _ (w₀ : List ℕ) (n₀ : ℕ) (w : List ℕ) (n i : ℕ) (s : ReadingTaken c os ds rs t first count m w₀ n₀ w n i) where
    pub taken_set : SetIn w (6 * m) m n
    taken_set = s.done.holds

    taken_long : length (part t first count) ≡ count
    taken_long = part_length t first count s.long

    module _ (l : i < count) (e : ℕ) (q : e ≡ get_or t (first + i) 0) where
      pub taken_endpoint : e < endpoints c
      taken_endpoint = omega (arith, s.takens.inside i l)

      pub taken_go_on : (w' : List ℕ) (n' : ℕ) → ReadAll m w n (ins_of c os ds rs e) w' n' → ReadingTaken c os ds rs t first count m w₀ n₀ w' n' (i + 1)
      taken_go_on w' n' g = record {
        inside = omega arith;
        lent = s.lent;
        fit = s.fit;
        takens = s.takens;
        long = s.long;
        done = subst (λ (x : List ℕ). ReadAll m w₀ n₀ x w' n') (sym more)
            (read_on m w₀ n₀ (flat (ins_of c os ds rs) (take i (part t first count))) w n (ins_of c os ds rs e) w' n' s.done g);
        same_length = g.kept.long ∙ s.same_length;
      }
        where
          more : flat (ins_of c os ds rs) (take (i + 1) (part t first count)) ≡ flat (ins_of c os ds rs) (take i (part t first count)) ++ ins_of c os ds rs e
          more = ap (λ (x : ℕ). flat (ins_of c os ds rs) (take x (part t first count))) (add-one i)
              ∙ ap (flat (ins_of c os ds rs)) (take-suc (part t first count) i 0 (omega (arith, taken_long)))
              ∙ flat-joined (ins_of c os ds rs) (take i (part t first count)) (get_or (part t first count) i 0 ∷ [])
              ∙ ap (λ (x : List ℕ). flat (ins_of c os ds rs) (take i (part t first count)) ++ x)
              (append-nil (ins_of c os ds rs (get_or (part t first count) i 0)) ∙ ap (ins_of c os ds rs) (part_at t first count i l ∙ sym q))

    pub taken_end : count ≤ i → ReadAll m w₀ n₀ (flat (ins_of c os ds rs) (part t first count)) w n
    taken_end l = subst (λ (x : List ℕ). ReadAll m w₀ n₀ (flat (ins_of c os ds rs) x) w n)
        (take_all i (part t first count) (omega (arith, taken_long))) s.done
