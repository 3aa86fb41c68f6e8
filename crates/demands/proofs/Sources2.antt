-- The sources of the graph that is built can be given the bits that come from outside; the graph's bits then agree with its drivers.
use mathlib.Core.Path.{◌≡◌, refl, sym, ◌∙◌, ap, subst}
use mathlib.Core.Bool.{Bool, false}
use mathlib.Core.List.{List, [], ◌∷◌}
use Prim.Native.Nat.{ℕ, zero, suc, ◌<◌}
use native.Mathlib.Omega.{arith}
use lib.ListN.{length, get_or}
use Rattle.std.specs.Prelude.{if◌then◌else◌}
use Rattle.laws.specs.Lists.{count, member}
use Rattle.laws.proofs.Tests.{by_test}
use Rattle.laws.proofs.Bags.{member_true, is_member}
use Rattle.laws.proofs.Indices.{at_in, index_of, past, place, place_at}
use Rattle.rules.specs.declared.Driver.{Driver}
use Rattle.rules.specs.declared.Driver.TheVariants.{And, Port, Flag, Dff, Ram, Constant}
use Rattle.rules.specs.Netlist.{Netlist}
use Rattle.rules.specs.Cells.{Env}
use Rattle.rules.specs.Graph.{Graph, RamRow, driver_of, no_ram, ram_at}
use Rattle.rules.specs.Build.{step2, graph_of}
use Rattle.rules.specs.Work.{driver_bit, bit}
use Rattle.rules.specs.Tables.{counts_of, words_of}
use Rattle.rules.specs.Refusals.{Accepted}
use Rattle.rules.proofs.Tables.{clash}
use Rattle.rules.proofs.Roles.{ram_bit}
use Rattle.cuts.specs.Checked.{Checked}
use Rattle.cuts.proofs.Checked.{graph_checked}
use Rattle.builds.proofs.Sound.{driver_above}
use Rattle.builds.proofs.Agreeing.{env_bit, Agrees}
use Rattle.builds.proofs.Leaving.{Reads}
use Rattle.builds.proofs.Steps.{step2_behind}
use Rattle.builds.proofs.Rows.{ram_cells, ram_count, row_data, row-bit, ram_pin, ram_apart}
use Rattle.builds.proofs.Passes12.{built_sound, built_fits, built_back}
use Rattle.demands.specs.Demand2.{Sources}
use Rattle.demands.proofs.Bits.{bit_is}

-- ---- a RAM's pin: the first row that has it, and where it stands there
abbrev read_source : Env → ℕ → ℕ → List RamRow → Bool
read_source env c u [] = false
read_source env c u (r ∷ rs) = if member u r.read_data then env.read_bit c (place u r.read_data) else read_source env c u rs

read_source_lem : (env : Env) (c u : ℕ) (rs : List RamRow) (k i : ℕ) → k < length rs → get_or (get_or rs k no_ram).read_data i 0 ≡ u → 0 < u
    → ((j m : ℕ) → j < length rs → get_or (get_or rs j no_ram).read_data m 0 ≡ u → m ≡ i) → read_source env c u rs ≡ env.read_bit c i
read_source_lem env c u [] k i h e z only = absurd (omega arith)
read_source_lem env c u (r ∷ rs) zero i h e z only =
    let m : 0 < count u r.read_data = subst (λ (x : ℕ). 0 < count x r.read_data) e (at_in r.read_data i (past r.read_data i u e z)) in
    rw (is_member u r.read_data m) (ap (env.read_bit c) (only 0 (place u r.read_data) (omega arith) (place_at u r.read_data m).1))
read_source_lem env c u (r ∷ rs) (suc k) i h e z only = by_test (member u r.read_data)
    (λ t. rw t (ap (env.read_bit c) (only 0 (place u r.read_data) (omega arith) (place_at u r.read_data (member_true u r.read_data t)).1)))
    (λ f. rw f (read_source_lem env c u rs k i (omega arith) e z (λ j m hj. only (suc j) m (omega arith))))

abbrev source_by : Env → Graph → ℕ → Driver → Bool
source_by env g u (And a b) = false
source_by env g u (Port q) = env.port_bit q
source_by env g u (Flag q e) = env.flag_bit q e
source_by env g u (Dff c) = env.stored c
source_by env g u (Ram c) = read_source env c u g.rams
source_by env g u Constant = false

abbrev pub source : Env → Graph → ℕ → Bool
source env g u = source_by env g u (driver_of g u)

module _ (n : Netlist) (acc : Accepted n) where
  abbrev g : Graph
  g = graph_of n

  pub built_checked : Checked (graph_of n)
  built_checked = subst Checked (built_back n acc) (graph_checked (counts_of (graph_of n)) (words_of (graph_of n)) (built_fits n acc))

  -- a row's pin with a RAM's driver is the read-data pin of that row's cell
  row_cell : (k i u c : ℕ) → k < length g.rams → get_or (ram_at g k).read_data i 0 ≡ u → driver_of g u ≡ Ram c → (0 < u) × (u ≡ (step2 n).read_pin c i)
  row_cell k i u c h e d =
      let z : 0 < u = driver_above g.drivers (built_sound n acc) u (Ram c) d (λ e'. clash (cc)) in
      let hk : k < length (ram_cells n) = omega (arith, ram_count n) in
      let m : 0 < get_or (ram_at g k).read_data i 0 = omega (arith, z, e) in
      let q : u ≡ (step2 n).read_pin (get_or (ram_cells n) k 0) i = sym e ∙ row_data n k i hk (row-bit n k i hk m) in
      let w : Ram (get_or (ram_cells n) k 0) ≡ Ram c = sym (ram_pin n acc (get_or (ram_cells n) k 0) i (omega (arith, z, q))).1 ∙ ap (driver_of g) (sym q) ∙ d in
      let ec : get_or (ram_cells n) k 0 ≡ c = cc in
      (z, q ∙ ap (λ (x : ℕ). (step2 n).read_pin x i) ec)

  module _ (env : Env) where
    pub given : Sources env (graph_of n) (source env (graph_of n))
    given = record {
      ports = λ u q e. ap (source_by env g u) e;
      flags = λ u q d e. ap (source_by env g u) e;
      dffs = λ u c e. ap (source_by env g u) e;
      rams = λ k i u c h e d. let a = row_cell k i u c h e d in
          ap (source_by env g u) d ∙ read_source_lem env c u g.rams k i h e a.0
          (λ j m hj ej. let b = row_cell j m u c hj ej d in ram_apart n acc c m i (omega (arith, b.0, b.1)) (sym b.1 ∙ a.1));
    }

    -- ---- the graph's bits, with any such bits of the sources
    module _ (src : ℕ → Bool) (so : Sources env (graph_of n) src) where
      abbrev β : ℕ → Bool
      β = bit (graph_of n) src

      by_driver : (u : ℕ) (d : Driver) → driver_of g u ≡ d → β u ≡ driver_bit src β u d
      by_driver u d e = bit_is g built_checked src u ∙ ap (driver_bit src β u) e

      agree_at : (u : ℕ) (d : Driver) → driver_of g u ≡ d → β u ≡ env_bit env β u d
      agree_at u (And a b) e = by_driver u (And a b) e
      agree_at u (Port q) e = by_driver u (Port q) e ∙ so.ports u q e
      agree_at u (Flag q d) e = by_driver u (Flag q d) e ∙ so.flags u q d e
      agree_at u (Dff c) e = by_driver u (Dff c) e ∙ so.dffs u c e
      agree_at u (Ram c) e = refl
      agree_at u Constant e = by_driver u Constant e

      pub agrees : Agrees env (bit (graph_of n) src) (graph_of n).drivers
      agrees u h = agree_at u (driver_of g u) refl

      pub reads-right : Reads env (bit (graph_of n) src) (step2 n)
      reads-right c b m =
          let i = step2_behind n acc in
          let p = i.ram_from c b m in
          let hb : b < 32 = ram_bit n acc.tables p.0 c b p.1 p.3 in
          let a = ram_pin n acc c b m in
          let k = index_of (ram_cells n) c a.2 in
          let e : get_or (ram_at g k.0).read_data b 0 ≡ (step2 n).read_pin c b = row_data n k.0 b k.1 hb ∙ ap (λ (x : ℕ). (step2 n).read_pin x b) k.2 in
          by_driver ((step2 n).read_pin c b) (Ram c) a.1 ∙ so.rams k.0 b ((step2 n).read_pin c b) c (omega (arith, k.1, ram_count n)) e a.1
