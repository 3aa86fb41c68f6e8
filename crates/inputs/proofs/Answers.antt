-- The answer, one law for each way through the code.
use mathlib.Core.Path.{◌≡◌, sym, ap, ◌∙◌}
use mathlib.Core.Bool.{Bool, true, false, ◌&&◌}
use mathlib.Core.List.{List, [], ◌∷◌, map}
use Prim.Native.Nat.{ℕ, zero, suc, ◌*◌, ◌≤◌, ◌<◌}
use native.Mathlib.Omega.{arith}
use lib.ListN.{length, get_or, get_or-eq_default}
use borrow.Author.Tests.{lt-ltb, le-ltb, ltb-true, ltb-false, leb-true, eqb-true}
use Rattle.std.specs.Prelude.{Result, Ok, Err, ◌==◌}
use Rattle.laws.specs.Tests.{◌<?◌, ◌≤?◌}
use Rattle.laws.specs.Lists.{keep}
use Rattle.laws.proofs.Tests.{by_test, and_l, and_r}
use Rattle.rules.specs.declared.GraphCounts.{GraphCounts}
use Rattle.rules.specs.declared.Refusal.{Refusal}
use Rattle.rules.specs.declared.Refusal.TheVariants.{Bounds, Lengths, Index}
use Rattle.rules.specs.Bounds.{graph_within}
use Rattle.rules.specs.Graph.{pin_of}
use Rattle.rules.specs.Stages.{reads, inputs}
use Rattle.rules.specs.Tables.{graph_in}
use Rattle.rules.specs.Answers.{ends_long, endpoints, input_number, answer_of}
use Rattle.reads.specs.Reads.{Lent, records_of, ins_of, reads_in}

-- an input is a pin other than 0
pub kept_positive : (l : List ℕ) (i : ℕ) → i < length (keep (λ p. 0 <? p) l) → 0 < get_or (keep (λ p. 0 <? p) l) i 0
kept_positive [] i h = absurd (omega arith)
kept_positive (x ∷ l) i h = by_test (0 <? x)
    (λ t. rw t (at_head i (ltb-true 0 x t) (rw t at h) (λ k q. kept_positive l k q)))
    (λ f. rw f (kept_positive l i (rw f at h)))
  where
    at_head : (k : ℕ) → 0 < x → k < length (x ∷ keep (λ p. 0 <? p) l)
        → ((m : ℕ) → m < length (keep (λ p. 0 <? p) l) → 0 < get_or (keep (λ p. 0 <? p) l) m 0) → 0 < get_or (x ∷ keep (λ p. 0 <? p) l) k 0
    at_head zero pos q ih = pos
    at_head (suc k) pos q ih = ih k (omega (arith, q))

-- what passing 1 and 2 gives
pub lent_by : (c : GraphCounts) (os ds rs : List ℕ) → graph_within c ≡ true → ends_long c (records_of os ds rs) ≡ true → Lent c os ds rs
lent_by c os ds rs within long =
    let three = and_l ((c.pins ≤? 16777215) && (c.outputs ≤? 1048576) && (c.dffs ≤? 1048576)) (c.rams ≤? 1048576) within in
    let two = and_l ((c.pins ≤? 16777215) && (c.outputs ≤? 1048576)) (c.dffs ≤? 1048576) three in
    let both = and_l ((length os == c.outputs) && (length ds == 3 * c.dffs)) (length rs == 123 * c.rams) long in
    record {
      outputs_long = eqb-true (length os) c.outputs (and_l (length os == c.outputs) (length ds == 3 * c.dffs) both);
      dffs_long = eqb-true (length ds) (3 * c.dffs) (and_r (length os == c.outputs) (length ds == 3 * c.dffs) both);
      rams_long = eqb-true (length rs) (123 * c.rams) (and_r ((length os == c.outputs) && (length ds == 3 * c.dffs)) (length rs == 123 * c.rams) long);
      outputs_few = leb-true c.outputs 1048576 (and_r (c.pins ≤? 16777215) (c.outputs ≤? 1048576) two);
      dffs_few = leb-true c.dffs 1048576 (and_r ((c.pins ≤? 16777215) && (c.outputs ≤? 1048576)) (c.dffs ≤? 1048576) three);
      rams_few = leb-true c.rams 1048576 (and_r ((c.pins ≤? 16777215) && (c.outputs ≤? 1048576) && (c.dffs ≤? 1048576)) (c.rams ≤? 1048576) within);
    }

module _ (c : GraphCounts) (os ds rs : List ℕ) (e i : ℕ) (a : Bool) (ea : a ≡ graph_within c) where
  abbrev pub Answer : Result ℕ Refusal → Type 0
  Answer r = r ≡ answer_of (input_number c (records_of os ds rs) e i) (get_or (inputs (graph_in c (records_of os ds rs)) e) i 0)

  pub many : a ≡ false → Answer (Err Bounds)
  unfolding input_number
  many f = rw (sym ea ∙ f)

  module _ (ta : a ≡ true) (b : Bool) (eb : b ≡ ends_long c (records_of os ds rs)) where
    pub not_long : b ≡ false → Answer (Err Lengths)
    unfolding input_number
    not_long f = rw (sym ea ∙ ta, sym eb ∙ f)

    module _ (tb : b ≡ true) (n : ℕ) (en : n ≡ endpoints c) where
      pub no_endpoint : n ≤ e → Answer (Err Index)
      unfolding input_number
      no_endpoint l = rw (sym ea ∙ ta, sym eb ∙ tb, le-ltb e (endpoints c) (omega (arith, l, en)))

      pub lent : Lent c os ds rs
      lent = lent_by c os ds rs (sym ea ∙ ta) (sym eb ∙ tb)

      module _ (le : e < n) (p : ℕ) (ep : p ≡ get_or (ins_of c os ds rs e) i 0) where
        is_input : p ≡ get_or (inputs (graph_in c (records_of os ds rs)) e) i 0
        unfolding ins_of reads_in
        is_input = ep

        pub no_input : p ≡ 0 → Answer (Err Index)
        unfolding input_number
        no_input z = rw (sym ea ∙ ta, sym eb ∙ tb, lt-ltb e (endpoints c) (omega (arith, le, en)), le-ltb i (length (inputs (graph_in c (records_of os ds rs)) e)) past)
          where
            past : length (inputs (graph_in c (records_of os ds rs)) e) ≤ i
            past = by_test (i <? length (inputs (graph_in c (records_of os ds rs)) e))
                (λ t. absurd (omega (arith, z, is_input, kept_positive (map pin_of (reads (graph_in c (records_of os ds rs)) e)) i (ltb-true i (length (inputs (graph_in c (records_of os ds rs)) e)) t))))
                (ltb-false i (length (inputs (graph_in c (records_of os ds rs)) e)))

        pub the_input : (p ≡ 0 → ⊥) → Answer (Ok p)
        unfolding input_number
        the_input n' = rw (sym ea ∙ ta, sym eb ∙ tb, lt-ltb e (endpoints c) (omega (arith, le, en)), lt-ltb i (length (inputs (graph_in c (records_of os ds rs)) e)) there)
            (ap Ok is_input)
          where
            there : i < length (inputs (graph_in c (records_of os ds rs)) e)
            there = by_test (i <? length (inputs (graph_in c (records_of os ds rs)) e))
                (ltb-true i (length (inputs (graph_in c (records_of os ds rs)) e)))
                (λ f. absurd (n' (is_input ∙ get_or-eq_default (inputs (graph_in c (records_of os ds rs)) e) 0 (ltb-false i (length (inputs (graph_in c (records_of os ds rs)) e)) f))))
