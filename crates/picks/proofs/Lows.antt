-- Whether the inputs of an endpoint are low, one literal after the other.
use mathlib.Core.Path.{◌≡◌, refl, sym, ap, ◌∙◌}
use mathlib.Core.Bool.{Bool, true, false, ◌&&◌}
use mathlib.Core.List.{List, [], ◌∷◌, ◌++◌, map}
use Prim.Native.Nat.{ℕ, zero, suc, ◌+◌, ◌*◌, ◌/◌, ◌<◌, ◌≤◌}
use native.Mathlib.Numerals.{add-one}
use native.Mathlib.Omega.{arith}
use lib.ListN.{length, get_or, drop}
use lib.Seq.{drop-cons}
use borrow.Author.Tests.{lt-ltb}
use Rattle.laws.specs.Tests.{◌<?◌, ◌≤?◌}
use Rattle.laws.specs.Lists.{keep, every}
use Rattle.laws.proofs.Bags.{every_append}
use Rattle.rules.specs.declared.GraphCounts.{GraphCounts}
use Rattle.rules.specs.Stages.{inputs_of}
use Rattle.rules.specs.Answers.{endpoints}
use Rattle.reads.specs.Reads.{Lent, reads_in, reads_long, ins_of}
use Rattle.reads.proofs.Inputs.{reads-length}
use Rattle.levels.specs.State.{ReadsFit, only}
use Rattle.joins.specs.State.{low_in}
use Rattle.picks.specs.Tables.{low_ins, ins_from}

module _ (m : ℕ) (w : List ℕ) (d p : ℕ) where
  pub low-none : p ≡ 0 → true ≡ low_ins m w d (only p)
  unfolding low_ins
  low-none z = sym (ap (λ (q : ℕ). every (low_in m w d) (only q)) z)

  pub low-one : (x : ℕ) → (p ≡ 0 → ⊥) → x ≡ get_or w (4 * m + p) 0 → (x ≤? d) ≡ low_ins m w d (only p)
  unfolding low_ins
  low-one x n e = let h : 0 < p = omega (arith, n) in ap (λ (y : ℕ). y ≤? d) e ∙ sym (rw (lt-ltb 0 p h) (and-true (get_or w (4 * m + p) 0 ≤? d)))
    where
      and-true : (b : Bool) → (b && true) ≡ b
      and-true true = refl
      and-true false = refl

all_gone : (c : GraphCounts) (os ds rs : List ℕ) (m : ℕ) (w : List ℕ) (d e i : ℕ) → length (reads_in c os ds rs e) ≤ i → low_ins m w d (ins_from c os ds rs e i) ≡ true
unfolding low_ins ins_from
all_gone c os ds rs m w d e i l = ap (λ (t : List ℕ). every (low_in m w d) (inputs_of t)) (gone (reads_in c os ds rs e) i l)
  where
    gone : (ls : List ℕ) (k : ℕ) → length ls ≤ k → drop k ls ≡ []
    gone ls k h = Rattle.laws.proofs.Bags.none_in (drop k ls) (λ x. none ls k x h)
      where
        none : (l : List ℕ) (j x : ℕ) → length l ≤ j → Rattle.laws.specs.Lists.count x (drop j l) ≡ 0
        none [] zero x q = refl
        none [] (suc j) x q = refl
        none (y ∷ l) zero x q = absurd (omega arith)
        none (y ∷ l) (suc j) x q = none l j x (omega arith)

-- the first i literals are low
pub record LowTo (c : GraphCounts) (os ds rs : List ℕ) (m : ℕ) (w : List ℕ) (d e n i : ℕ) : Type 0 where
  pub inside : i ≤ n
  pub many : n ≡ reads_long c e
  pub lent : Lent c os ds rs
  pub fit : ReadsFit c os ds rs m
  pub endpoint : e < endpoints c
  pub long : 8 * m ≤ length w
  pub so_far : low_ins m w d (ins_of c os ds rs e) ≡ low_ins m w d (ins_from c os ds rs e i)

module _ (c : GraphCounts) (os ds rs : List ℕ) (m : ℕ) (w : List ℕ) (d e n : ℕ) where
  pub low_begins : Lent c os ds rs → ReadsFit c os ds rs m → e < endpoints c → 8 * m ≤ length w → n ≡ reads_long c e → LowTo c os ds rs m w d e n 0
  unfolding ins_of ins_from
  low_begins lent fit le h en = record { inside = omega arith; many = en; lent = lent; fit = fit; endpoint = le; long = h; so_far = refl }

  module _ (i : ℕ) (s : LowTo c os ds rs m w d e n i) where
    module _ (l : i < n) where
      pub low-number : i < reads_long c e
      low-number = omega (arith, s.many)

      module _ (p : ℕ) (q : p ≡ get_or (reads_in c os ds rs e) i 0 / 2) where
        pub low_pin : p < m
        low_pin = omega (arith, s.fit.fit e i s.endpoint low-number)

        step : low_ins m w d (ins_from c os ds rs e i) ≡ (low_ins m w d (only p) && low_ins m w d (ins_from c os ds rs e (i + 1)))
        unfolding low_ins ins_from
        step = ap (λ (t : List ℕ). every (low_in m w d) (inputs_of t)) (drop-cons (reads_in c os ds rs e) i 0 (omega (arith, reads-length c os ds rs e s.lent s.endpoint, s.many)))
            ∙ ap (every (low_in m w d)) (first (get_or (reads_in c os ds rs e) i 0 / 2) (drop (suc i) (reads_in c os ds rs e)))
            ∙ every_append (low_in m w d) (only (get_or (reads_in c os ds rs e) i 0 / 2)) (inputs_of (drop (suc i) (reads_in c os ds rs e)))
            ∙ (λ j. every (low_in m w d) (only (sym q j)) && every (low_in m w d) (inputs_of (drop (sym (add-one i) j) (reads_in c os ds rs e))))
          where
            first : (x : ℕ) (ls : List ℕ) → keep (λ y. 0 <? y) (x ∷ map (λ l. l / 2) ls) ≡ only x ++ keep (λ y. 0 <? y) (map (λ l. l / 2) ls)
            first x ls = Rattle.laws.proofs.Bags.keep_append (λ y. 0 <? y) (x ∷ []) (map (λ l. l / 2) ls)

        module _ (b : Bool) (eb : b ≡ low_ins m w d (only p)) where
          pub low_goes_on : b ≡ true → LowTo c os ds rs m w d e n (i + 1)
          low_goes_on t = record {
            inside = omega arith;
            many = s.many;
            lent = s.lent;
            fit = s.fit;
            endpoint = s.endpoint;
            long = s.long;
            so_far = s.so_far ∙ step ∙ ap (λ (x : Bool). x && low_ins m w d (ins_from c os ds rs e (i + 1))) (sym eb ∙ t);
          }

          pub low_fails : b ≡ false → false ≡ low_ins m w d (ins_of c os ds rs e)
          low_fails f = sym (s.so_far ∙ step ∙ ap (λ (x : Bool). x && low_ins m w d (ins_from c os ds rs e (i + 1))) (sym eb ∙ f))

    pub low_ends : n ≤ i → true ≡ low_ins m w d (ins_of c os ds rs e)
    low_ends l = sym (s.so_far ∙ none)
      where
        none : low_ins m w d (ins_from c os ds rs e i) ≡ true
        none = all_gone c os ds rs m w d e i (omega (arith, reads-length c os ds rs e s.lent s.endpoint, s.many, l))
