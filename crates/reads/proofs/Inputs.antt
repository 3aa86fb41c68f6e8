-- An endpoint's inputs, one literal after the other: a literal of pin 0 adds none.
use mathlib.Core.Path.{◌≡◌, refl, sym, ap, ◌∙◌}
use mathlib.Core.List.{List, [], ◌∷◌, ◌++◌, map}
use Prim.Native.Nat.{ℕ, ◌+◌, ◌-◌, ◌/◌, ◌<◌, ◌≤◌}
use native.Mathlib.Numerals.{add-one}
use native.Mathlib.Omega.{arith}
use lib.ListN.{length, get_or, take, length-map, length-take}
use lib.Seq.{take-suc, take_all}
use borrow.Author.Tests.{ltb-true, ltb-false}
use Rattle.std.specs.Prelude.{if◌then◌else◌}
use Rattle.laws.specs.Tests.{◌<?◌}
use Rattle.laws.specs.Lists.{keep}
use Rattle.laws.proofs.Tests.{by_test, if_elim}
use Rattle.laws.proofs.Bags.{map-append, keep_append, length-keep}
use Rattle.laws.proofs.Ranges.{length-map-upto}
use Rattle.rules.specs.declared.GraphCounts.{GraphCounts}
use Rattle.rules.specs.Graph.{pin_of}
use Rattle.rules.specs.Stages.{inputs_of}
use Rattle.rules.specs.Answers.{endpoints}
use Rattle.reads.specs.Reads.{Lent, reads_in, ins_of, ins_to, reads_long, ram_read}
use Rattle.reads.proofs.Numbers.{output_reads, dff_reads_lem, ram_all, ram_reads_lem}

-- one literal more
step : (ls : List ℕ) (i : ℕ) → i < length ls → inputs_of (take (i + 1) ls) ≡ inputs_of (take i ls) ++ keep (λ p. 0 <? p) (get_or ls i 0 / 2 ∷ [])
step ls i l = ap (λ (n : ℕ). inputs_of (take n ls)) (add-one i) ∙ ap inputs_of (take-suc ls i 0 l)
    ∙ ap (keep (λ p. 0 <? p)) (map-append pin_of (take i ls) (get_or ls i 0 ∷ []))
    ∙ keep_append (λ p. 0 <? p) (map pin_of (take i ls)) (get_or ls i 0 / 2 ∷ [])

long_pos : (c : GraphCounts) (e : ℕ) → 0 < reads_long c e
unfolding reads_long
long_pos c e = if_elim (e <? c.outputs) 1 (if e <? c.outputs + c.dffs then 2 else 91) (λ (n : ℕ). 0 < n) (λ t. omega arith)
    (λ f. if_elim (e <? c.outputs + c.dffs) 2 91 (λ (n : ℕ). 0 < n) (λ t. omega arith) (λ g. omega arith))

pub long_few : (c : GraphCounts) (e : ℕ) → reads_long c e ≤ 91
unfolding reads_long
long_few c e = if_elim (e <? c.outputs) 1 (if e <? c.outputs + c.dffs then 2 else 91) (λ (n : ℕ). n ≤ 91) (λ t. omega arith)
    (λ f. if_elim (e <? c.outputs + c.dffs) 2 91 (λ (n : ℕ). n ≤ 91) (λ t. omega arith) (λ g. omega arith))

module _ (c : GraphCounts) (os ds rs : List ℕ) (e : ℕ) where
  pub ins_none : ins_to c os ds rs e 0 ≡ []
  unfolding ins_to
  ins_none = refl

  module _ (lent : Lent c os ds rs) (le : e < endpoints c) where
    pub reads-length : length (reads_in c os ds rs e) ≡ reads_long c e
    unfolding reads_long
    reads-length = by_test (e <? c.outputs)
        (λ t. rw t (outputs_long (ltb-true e c.outputs t)))
        (λ f. rw f (by_test (e <? c.outputs + c.dffs)
        (λ t. rw t (dffs_long (ltb-false e c.outputs f) (ltb-true e (c.outputs + c.dffs) t)))
        (λ g. rw g (rams_long (ltb-false e c.outputs f) (ltb-false e (c.outputs + c.dffs) g)))))
      where
        outputs_long : e < c.outputs → length (reads_in c os ds rs e) ≡ 1
        outputs_long l = ap length (output_reads c os ds rs lent e 0 le (long_pos c e) l)

        dffs_long : c.outputs ≤ e → e < c.outputs + c.dffs → length (reads_in c os ds rs e) ≡ 2
        dffs_long l k = ap length (dff_reads_lem c os ds rs lent e 0 le (long_pos c e) l (omega arith))

        rams_long : c.outputs ≤ e → c.outputs + c.dffs ≤ e → length (reads_in c os ds rs e) ≡ 91
        rams_long l k = ap length (ram_all c os ds rs lent e 0 le (long_pos c e) l (omega arith) ∙ ram_reads_lem rs (e - c.outputs - c.dffs))
            ∙ length-map-upto (ram_read rs (e - c.outputs - c.dffs)) 91

    module _ (i p : ℕ) (l : i < reads_long c e) (q : p ≡ get_or (reads_in c os ds rs e) i 0 / 2) where
      pub ins_step : ins_to c os ds rs e (i + 1) ≡ ins_to c os ds rs e i ++ keep (λ x. 0 <? x) (p ∷ [])
      unfolding ins_to
      ins_step = step (reads_in c os ds rs e) i (omega (arith, reads-length))
          ∙ ap (λ (x : ℕ). inputs_of (take i (reads_in c os ds rs e)) ++ keep (λ y. 0 <? y) (x ∷ [])) (sym q)

    pub ins_to_few : (i : ℕ) → length (ins_to c os ds rs e i) ≤ i
    unfolding ins_to
    ins_to_few i = omega (
      arith,
      length-keep (λ p. 0 <? p) (map pin_of (take i (reads_in c os ds rs e))),
      length-map (take i (reads_in c os ds rs e)) pin_of,
      length-take i (reads_in c os ds rs e),
    )

    pub ins_all : (i : ℕ) → reads_long c e ≤ i → ins_to c os ds rs e i ≡ ins_of c os ds rs e
    unfolding ins_to ins_of
    ins_all i l = ap inputs_of (take_all i (reads_in c os ds rs e) (omega (arith, reads-length)))

    pub ins_few : length (ins_of c os ds rs e) ≤ 91
    unfolding ins_of
    ins_few = omega (arith, length-keep (λ p. 0 <? p) (map pin_of (reads_in c os ds rs e)), length-map (reads_in c os ds rs e) pin_of, reads-length, long_few c e)
