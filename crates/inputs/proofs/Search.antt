-- The search in the code's shape.
use mathlib.Core.Path.{◌≡◌, sym, ap, ◌∙◌}
use mathlib.Core.Bool.{Bool, true, false}
use mathlib.Core.List.{List, [], ◌∷◌, ◌++◌, map}
use Prim.Native.Nat.{ℕ, suc, ◌+◌, ◌/◌, ◌≤◌, ◌<◌}
use native.Mathlib.Omega.{arith}
use lib.ListN.{length, get_or, take, drop, length-append, take-append-drop, get_or-eq_default}
use lib.Seq.{drop-cons, get_or_at}
use borrow.Author.Tests.{eq-eqb, eqb-true}
use Rattle.std.specs.Prelude.{◌==◌}
use Rattle.laws.specs.Tests.{◌<?◌, one}
use Rattle.laws.specs.Lists.{keep}
use Rattle.laws.proofs.Tests.{by_test, true≢false, and_l, and_r}
use Rattle.laws.proofs.Bags.{map-append, keep_append}
use Rattle.rules.specs.declared.GraphCounts.{GraphCounts}
use Rattle.rules.specs.Graph.{pin_of}
use Rattle.rules.specs.Stages.{inputs_of}
use Rattle.rules.specs.Answers.{endpoints}
use Rattle.reads.specs.Reads.{Lent, reads_in, ins_of, ins_to, reads_long}
use Rattle.reads.proofs.Inputs.{ins_none, reads-length, ins_step, ins_all, long_few}
use Rattle.inputs.specs.Counting.{wanted, passed}

-- ---- so many inputs among the first j literals, none of them number i
pub record Seeking (c : GraphCounts) (os ds rs : List ℕ) (e i n seen j : ℕ) : Type 0 where
  pub all : n ≡ reads_long c e
  pub few : n ≤ 91
  pub inside : j ≤ n
  pub count : seen ≡ length (ins_to c os ds rs e j)
  pub below : seen ≤ i
  pub small : seen ≤ j

pub seek_begins : (c : GraphCounts) (os ds rs : List ℕ) (e i n : ℕ) → n ≡ reads_long c e → Seeking c os ds rs e i n 0 0
seek_begins c os ds rs e i n h = record {
  all = h;
  few = omega (arith, h, long_few c e);
  inside = omega arith;
  count = sym (ap length (ins_none c os ds rs e));
  below = omega arith;
  small = omega arith;
}

kept-one : (p : ℕ) → length (keep (λ x. 0 <? x) (p ∷ [])) ≡ passed p
kept-one p = by_test (0 <? p) (λ t. rw t) (λ f. rw f)

module _ (c : GraphCounts) (os ds rs : List ℕ) (e i n seen j : ℕ) (lent : Lent c os ds rs) (le : e < endpoints c) (s : Seeking c os ds rs e i n seen j) where
  module _ (p : ℕ) (l : j < n) (q : p ≡ get_or (reads_in c os ds rs e) j 0 / 2) where
    there : j < length (reads_in c os ds rs e)
    there = omega (arith, l, s.all, reads-length c os ds rs e lent le)

    -- the inputs are those among the first literals, then this one's, then the rest
    parts : ins_of c os ds rs e ≡ ins_to c os ds rs e j ++ (keep (λ x. 0 <? x) (p ∷ map pin_of (drop (suc j) (reads_in c os ds rs e))))
    unfolding ins_of ins_to
    parts =
        ap inputs_of (sym (take-append-drop j (reads_in c os ds rs e)))
        ∙ ap (keep (λ x. 0 <? x)) (map-append pin_of (take j (reads_in c os ds rs e)) (drop j (reads_in c os ds rs e)))
        ∙ keep_append (λ x. 0 <? x) (map pin_of (take j (reads_in c os ds rs e))) (map pin_of (drop j (reads_in c os ds rs e)))
        ∙ ap (λ (r : List ℕ). inputs_of (take j (reads_in c os ds rs e)) ++ keep (λ x. 0 <? x) (map pin_of r)) (drop-cons (reads_in c os ds rs e) j 0 there)
        ∙ ap (λ (x : ℕ). inputs_of (take j (reads_in c os ds rs e)) ++ keep (λ y. 0 <? y) (x ∷ map pin_of (drop (suc j) (reads_in c os ds rs e)))) (sym q)

    pub seek_finds : (r : Bool) → r ≡ wanted p seen i → r ≡ true → p ≡ get_or (ins_of c os ds rs e) i 0
    seek_finds r w t =
        let is_one : (0 <? p) ≡ true = and_l (0 <? p) (seen == i) (sym w ∙ t) in
        let number : seen ≡ i = eqb-true seen i (and_r (0 <? p) (seen == i) (sym w ∙ t)) in
        sym (ap (λ (x : List ℕ). get_or x i 0) (parts ∙ ap (λ (x : List ℕ). ins_to c os ds rs e j ++ x) (rw is_one))
        ∙ get_or_at (ins_to c os ds rs e j) p (keep (λ x. 0 <? x) (map pin_of (drop (suc j) (reads_in c os ds rs e)))) 0 i (sym s.count ∙ number))

    grown : length (ins_to c os ds rs e (j + 1)) ≡ seen + passed p
    grown = ap length (ins_step c os ds rs e lent le j p (omega (arith, l, s.all)) q)
        ∙ length-append (ins_to c os ds rs e j) (keep (λ x. 0 <? x) (p ∷ []))
        ∙ (λ k. sym s.count k + kept-one p k)

    pub seek_goes_on : (r : Bool) (k : ℕ) → r ≡ wanted p seen i → r ≡ false → k ≡ passed p → Seeking c os ds rs e i n (seen + k) (j + 1)
    seek_goes_on r k w f g = record {
      all = s.all;
      few = s.few;
      inside = omega (arith, l);
      count = ap (λ (x : ℕ). seen + x) g ∙ sym grown;
      below = by_test (0 <? p)
          (λ t. let ne : seen ≡ i → ⊥ = λ z. true≢false r (w ∙ rw (t, eq-eqb seen i z)) f in omega (arith, s.below, g, ap one t, ne))
          (λ z. omega (arith, s.below, g, ap one z));
      small = omega (arith, s.small, g, Rattle.laws.proofs.Tests.one_le (0 <? p));
    }

  pub seek_ends : n ≤ j → 0 ≡ get_or (ins_of c os ds rs e) i 0
  seek_ends l =
      let whole : ins_to c os ds rs e j ≡ ins_of c os ds rs e = ins_all c os ds rs e lent le j (omega (arith, l, s.all)) in
      sym (get_or-eq_default (ins_of c os ds rs e) 0 (omega (arith, s.below, s.count, ap length whole)))
