-- The literals of an endpoint by number, in the code's shape, and its inputs one literal after the other.
use mathlib.Core.Path.{◌≡◌, refl, sym, ap, ◌∙◌}
use mathlib.Core.List.{List, [], ◌∷◌, map}
use Prim.Native.Nat.{ℕ, ◌+◌, ◌-◌, ◌*◌, ◌/◌, ◌%◌, ◌<◌, ◌≤◌}
use native.Mathlib.Omega.{arith}
use lib.ListN.{length, get_or}
use borrow.Author.Tests.{lt-ltb, le-ltb, eq-eqb, ne_eqb}
use Rattle.laws.specs.Lists.{upto}
use Rattle.laws.proofs.Ranges.{map-upto, length-map-upto}
use Rattle.rules.specs.declared.GraphCounts.{GraphCounts}
use Rattle.rules.specs.Graph.{no_record, no_ram}
use Rattle.rules.specs.Stages.{dff_reads, ram_reads}
use Rattle.rules.specs.Tables.{record_in, ram_in}
use Rattle.rules.specs.Answers.{endpoints}
use Rattle.reads.specs.Reads.{Lent, reads_in, reads_long, turn_word, ram_read}

-- ---- how many
module _ (c : GraphCounts) (e : ℕ) where
  pub long_output : e < c.outputs → 1 ≡ reads_long c e
  unfolding reads_long
  long_output l = sym (rw (lt-ltb e c.outputs l))

  module _ (lo : c.outputs ≤ e) where
    pub long_dff : e < c.outputs + c.dffs → 2 ≡ reads_long c e
    unfolding reads_long
    long_dff l = sym (rw (le-ltb e c.outputs lo, lt-ltb e (c.outputs + c.dffs) l))

    pub long_ram : c.outputs + c.dffs ≤ e → 91 ≡ reads_long c e
    unfolding reads_long
    long_ram l = sym (rw (le-ltb e c.outputs lo, le-ltb e (c.outputs + c.dffs) l))

-- ---- one of each in turn
module _ (ws : List ℕ) (x y j : ℕ) where
  pub turn_even : (v : ℕ) → j % 2 ≡ 0 → v ≡ get_or ws (x + j / 2) 0 → v ≡ turn_word ws x y j
  turn_even v e q = q ∙ sym (rw (eq-eqb (j % 2) 0 e))

  pub turn_odd : (v : ℕ) → (j % 2 ≡ 0 → ⊥) → v ≡ get_or ws (y + j / 2) 0 → v ≡ turn_word ws x y j
  turn_odd v e q = q ∙ sym (rw (ne_eqb (j % 2) 0 e))

module _ (ws : List ℕ) (k i : ℕ) where
  pub ram_first : (v : ℕ) → i ≡ 0 → v ≡ get_or ws (123 * k) 0 → v ≡ ram_read ws k i
  unfolding ram_read
  ram_first v z q = q ∙ sym (rw (eq-eqb i 0 z))

  module _ (n : i ≡ 0 → ⊥) where
    pub ram_address : (v : ℕ) → i < 27 → v ≡ turn_word ws (123 * k + 1) (123 * k + 46) (i - 1) → v ≡ ram_read ws k i
    unfolding ram_read
    ram_address v l q = q ∙ sym (rw (ne_eqb i 0 n, lt-ltb i 27 l))

    pub ram_data : (v : ℕ) → 27 ≤ i → v ≡ turn_word ws (123 * k + 59) (123 * k + 91) (i - 27) → v ≡ ram_read ws k i
    unfolding ram_read
    ram_data v l q = q ∙ sym (rw (ne_eqb i 0 n, le-ltb i 27 l))

-- what a RAM reads, all at once
pub ram_reads_lem : (ws : List ℕ) (k : ℕ) → ram_reads (ram_in ws k) ≡ map (ram_read ws k) (upto 91)
unfolding ram_read
ram_reads_lem ws k = refl

pub dff_first : (ws : List ℕ) (k i v : ℕ) → i ≡ 0 → v ≡ get_or ws (3 * k + 1) 0 → v ≡ get_or (dff_reads (record_in ws k)) i 0
dff_first ws k i v z q = q ∙ sym (ap (λ (n : ℕ). get_or (dff_reads (record_in ws k)) n 0) z)

pub dff_second : (ws : List ℕ) (k i v : ℕ) → (i ≡ 0 → ⊥) → i < 2 → v ≡ get_or ws (3 * k) 0 → v ≡ get_or (dff_reads (record_in ws k)) i 0
dff_second ws k i v n l q = let e : i ≡ 1 = omega (arith, n) in q ∙ sym (ap (λ (m : ℕ). get_or (dff_reads (record_in ws k)) m 0) e)

-- ---- an endpoint's literal
module _ (c : GraphCounts) (os ds rs : List ℕ) (lent : Lent c os ds rs) (e i : ℕ) (le : e < endpoints c) (li : i < reads_long c e) where
  dffs_count : length (map (record_in ds) (upto c.dffs)) ≡ c.dffs
  dffs_count = length-map-upto (record_in ds) c.dffs

  module _ (l : e < c.outputs) where
    pub output_inside : e < length os
    output_inside = omega (arith, lent.outputs_long)

    pub output_reads : reads_in c os ds rs e ≡ get_or os e 0 ∷ []
    unfolding reads_in
    output_reads = let q : e < length os = output_inside in rw (lt-ltb e (length os) q)

    pub read_output : (v : ℕ) → v ≡ get_or os e 0 → v ≡ get_or (reads_in c os ds rs e) i 0
    unfolding reads_long
    read_output v q =
        let z : i ≡ 0 = omega (arith, rw (lt-ltb e c.outputs l) at li) in
        q ∙ sym (ap (λ (n : ℕ). get_or (reads_in c os ds rs e) n 0) z ∙ ap (λ (t : List ℕ). get_or t 0 0) output_reads)

  module _ (lo : c.outputs ≤ e) where
    past : length os ≤ e
    past = omega (arith, lent.outputs_long)

    module _ (l : e - c.outputs < c.dffs) where
      pub dff_inside : 3 * (e - c.outputs) + 2 < length ds
      dff_inside = omega (arith, lent.dffs_long)

      pub dff_number : i < 2
      unfolding reads_long
      dff_number = let h : e < c.outputs + c.dffs = omega arith in rw (le-ltb e c.outputs lo, lt-ltb e (c.outputs + c.dffs) h) at li

      pub dff_reads_lem : reads_in c os ds rs e ≡ dff_reads (record_in ds (e - c.outputs))
      unfolding reads_in
      dff_reads_lem =
          let h : e < length os + length (map (record_in ds) (upto c.dffs)) = omega (arith, dffs_count, lent.outputs_long) in
          rw (le-ltb e (length os) past, lt-ltb e (length os + length (map (record_in ds) (upto c.dffs))) h)
          (ap dff_reads (ap (λ (n : ℕ). get_or (map (record_in ds) (upto c.dffs)) (e - n) no_record) lent.outputs_long
          ∙ map-upto (record_in ds) no_record c.dffs (e - c.outputs) l))

      pub read_dff : (v : ℕ) → v ≡ get_or (dff_reads (record_in ds (e - c.outputs))) i 0 → v ≡ get_or (reads_in c os ds rs e) i 0
      read_dff v q = q ∙ sym (ap (λ (t : List ℕ). get_or t i 0) dff_reads_lem)

    module _ (l : c.dffs ≤ e - c.outputs) where
      pub ram_inside : 123 * (e - c.outputs - c.dffs) + 123 < length rs + 1
      ram_inside = omega (arith, lent.rams_long)

      pub ram_number : i < 91
      unfolding reads_long
      ram_number = let h : c.outputs + c.dffs ≤ e = omega arith in rw (le-ltb e c.outputs lo, le-ltb e (c.outputs + c.dffs) h) at li

      pub ram_all : reads_in c os ds rs e ≡ ram_reads (ram_in rs (e - c.outputs - c.dffs))
      unfolding reads_in
      ram_all =
          let n : ℕ = length (map (record_in ds) (upto c.dffs)) in
          let h : length os + length (map (record_in ds) (upto c.dffs)) ≤ e = omega (arith, dffs_count, lent.outputs_long) in
          rw (le-ltb e (length os) past, le-ltb e (length os + length (map (record_in ds) (upto c.dffs))) h)
          (ap ram_reads ((λ j. get_or (map (ram_in rs) (upto c.rams)) (e - lent.outputs_long j - dffs_count j) no_ram)
          ∙ map-upto (ram_in rs) no_ram c.rams (e - c.outputs - c.dffs) (omega arith)))

      pub read_ram : (v : ℕ) → v ≡ ram_read rs (e - c.outputs - c.dffs) i → v ≡ get_or (reads_in c os ds rs e) i 0
      read_ram v q = q ∙ sym (ap (λ (t : List ℕ). get_or t i 0) (ram_all ∙ ram_reads_lem rs (e - c.outputs - c.dffs))
          ∙ map-upto (ram_read rs (e - c.outputs - c.dffs)) 0 91 i ram_number)
