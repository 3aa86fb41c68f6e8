-- The tally of the graph that is built, by what the steps made.
use mathlib.Core.Path.{◌≡◌, sym, ◌∙◌}
use Prim.Native.Nat.{◌+◌, ◌-◌}
use native.Mathlib.Omega.{arith}
use lib.ListN.{length}
use Rattle.rules.specs.declared.Tally.{Tally}
use Rattle.rules.specs.Netlist.{Netlist}
use Rattle.rules.specs.Build.{step2, step3, graph_of, gate_count, tally}
use Rattle.builds.proofs.Rows.{dff_count, ram_count}

abbrev pub made : Netlist → Tally
made n = record {
  pins = length (step3 n).drivers - 1;
  gates = gate_count (step3 n).drivers;
  outputs = length (step2 n).outs;
  dffs = length (step2 n).flops;
  rams = length (step3 n).rams;
}

pub tally_is : (n : Netlist) → tally (graph_of n) ≡ made n
tally_is n = λ i. record {
  pins = length (step3 n).drivers - 1;
  gates = gate_count (step3 n).drivers;
  outputs = length (step2 n).outs;
  dffs = dff_count n i;
  rams = ram_count n i;
}

-- a tally that was kept while building
pub tally-kept : (n : Netlist) (t : Tally) → length (step3 n).drivers ≡ t.pins + 1 → t.gates ≡ gate_count (step3 n).drivers
    → t.outputs ≡ length (step2 n).outs → t.dffs ≡ length (step2 n).flops → t.rams ≡ length (step3 n).rams → t ≡ tally (graph_of n)
tally-kept n t p g o d r =
    let e : t.pins ≡ length (step3 n).drivers - 1 = omega (arith, p) in
    (λ i. record { pins = e i; gates = g i; outputs = o i; dffs = d i; rams = r i }) ∙ sym (tally_is n)
