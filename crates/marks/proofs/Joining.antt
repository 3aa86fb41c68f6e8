-- One number more, and one too many.
use mathlib.Core.Path.{◌≡◌, refl, sym, ap, subst, ◌∙◌}
use mathlib.Core.Bool.{Bool, true, false, ◌&&◌}
use mathlib.Core.List.{List, [], ◌∷◌, ◌++◌}
use Prim.Native.Nat.{ℕ, ◌+◌, ◌≤◌, ◌<◌}
use native.Mathlib.Omega.{arith}
use lib.ListN.{get_or, set, length-set}
use lib.Seq.{get_or-set_same, get_or-set_other}
use borrow.Author.Tests.{eqb-true, eqb-false, le-ltb, lt-ltb, ne_eqb}
use Rattle.std.specs.Prelude.{◌==◌}
use Rattle.laws.specs.Tests.{◌<?◌, one}
use Rattle.laws.specs.Lists.{count, member, every}
use Rattle.laws.proofs.Tests.{by_test, true≢false, one_zero, one_set, one_eq, one_ne, and-false}
use Rattle.laws.proofs.Bags.{count-append, member_true, member_false, member_last, member_other, every_true, every_all}
use Rattle.rules.specs.Refusals.{below, no_repeat}
use Rattle.marks.specs.Marking.{Clear, Marks}

pub marks_begin : (w : List ℕ) (base limit : ℕ) → Clear w base limit → Marks w w base limit []
marks_begin w base limit c = record {
  long = c.long;
  marks = c.none;
  inside = λ p m. absurd (omega arith);
  once = λ p. omega arith;
  before = λ j l. refl;
  after = λ j l. refl;
  same_length = refl;
}

module _ (w₀ w : List ℕ) (base limit : ℕ) (seen : List ℕ) (m : Marks w₀ w base limit seen) (p : ℕ) where
  -- a number that is not marked yet joins
  module _ (l : p < limit) (z : get_or w (base + p) 0 ≡ 0) where
    new : member p seen ≡ false
    new = one_zero (member p seen) (sym (m.marks p l) ∙ z)

    fresh : count p seen ≡ 0
    fresh = member_false p seen new

    counts : (q : ℕ) → count q (seen ++ (p ∷ [])) ≡ count q seen + (one (q == p) + 0)
    counts q = count-append q seen (p ∷ [])

    mark_at : (q : ℕ) → q < limit → get_or (set w (base + p) 1) (base + q) 0 ≡ one (member q (seen ++ (p ∷ [])))
    mark_at q lq = by_test (q == p)
        (λ t. let e = eqb-true q p t in
        subst (λ (x : ℕ). get_or (set w (base + p) 1) (base + x) 0 ≡ one (member x (seen ++ (p ∷ [])))) (sym e)
        (get_or-set_same w (base + p) 1 0 (omega (arith, l, m.long)) ∙ sym (ap one (member_last p seen))))
        (λ f. let n = eqb-false q p f in
        get_or-set_other w (base + p) (base + q) 1 0 (λ e. n (omega (arith, e))) ∙ m.marks q lq ∙ sym (ap one (member_other p q seen n)))

    pub marks_more : Marks w₀ (set w (base + p) 1) base limit (seen ++ (p ∷ []))
    marks_more = record {
      long = rw (length-set w (base + p) 1) m.long;
      marks = mark_at;
      inside = λ q k. by_test (q == p)
          (λ t. rw (eqb-true q p t) l)
          (λ f. m.inside q (omega (arith, k, counts q, one_ne q p (eqb-false q p f))));
      once = λ q. by_test (q == p)
          (λ t. omega (arith, counts q, one_eq q p (eqb-true q p t), fresh, ap (λ (x : ℕ). count x seen) (eqb-true q p t)))
          (λ f. omega (arith, counts q, one_ne q p (eqb-false q p f), m.once q));
      before = λ j k. get_or-set_other w (base + p) j 1 0 (λ e. omega (arith, e, k)) ∙ m.before j k;
      after = λ j k. get_or-set_other w (base + p) j 1 0 (λ e. omega (arith, e, k, l)) ∙ m.after j k;
      same_length = length-set w (base + p) 1 ∙ m.same_length;
    }

  -- a number that is out of range, or is marked, stands in no set of numbers below the limit with those seen
  module _ (rest : List ℕ) where
    whole : List ℕ
    whole = seen ++ (p ∷ rest)

    here_too : 0 < count p (seen ++ (p ∷ rest))
    here_too = omega (arith, count-append p seen (p ∷ rest), one_eq p p refl)

    every_not : (f : ℕ → Bool) → f p ≡ false → every f (seen ++ (p ∷ rest)) ≡ false
    every_not f e = by_test (every f (seen ++ (p ∷ rest)))
        (λ t. true≢false (f p) (every_true f p (seen ++ (p ∷ rest)) t here_too) e)
        (λ g. g)

    pub too_large : limit ≤ p → (below limit (seen ++ (p ∷ rest)) && no_repeat (seen ++ (p ∷ rest))) ≡ false
    too_large l = rw (every_not (λ i. i <? limit) (le-ltb p limit l))

    pub seen_before : p < limit → (get_or w (base + p) 0 ≡ 0 → ⊥) → (below limit (seen ++ (p ∷ rest)) && no_repeat (seen ++ (p ∷ rest))) ≡ false
    seen_before l n =
        rw (every_not (λ i. count i (seen ++ (p ∷ rest)) == 1) (ne_eqb (count p (seen ++ (p ∷ rest))) 1 (λ e. omega (arith, e, twice))))
        (and-false (below limit (seen ++ (p ∷ rest))))
      where
        in_seen : 0 < count p seen
        in_seen = member_true p seen (one_set (member p seen) (λ e. n (m.marks p l ∙ e)))

        twice : 1 < count p (seen ++ (p ∷ rest))
        twice = omega (arith, count-append p seen (p ∷ rest), one_eq p p refl, in_seen)

-- a list that is marked whole is a set
pub whole_set : (w₀ w : List ℕ) (base limit : ℕ) (l : List ℕ) → Marks w₀ w base limit l → (below limit l && no_repeat l) ≡ true
whole_set w₀ w base limit l m =
    rw (every_all (λ i. i <? limit) l (λ x k. lt-ltb x limit (m.inside x k)), every_all (λ i. count i l == 1) l (λ x k. borrow.Author.Tests.eq-eqb (count x l) 1 (omega (arith, k, m.once x))))
