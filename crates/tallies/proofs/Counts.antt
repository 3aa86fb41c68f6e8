-- Each tally is the count of such entries: one entry more in a table is one more in its tally, and in no other.
use mathlib.Core.Path.{◌≡◌, refl, ap, ◌∙◌}
use mathlib.Core.Bool.{Bool, true, false}
use mathlib.Core.List.{List, [], ◌∷◌, ◌++◌}
use Prim.Native.Nat.{ℕ, ◌+◌, ◌-◌, ◌<◌}
use native.Mathlib.Omega.{arith}
use lib.ListN.{length, length-append}
use Rattle.std.specs.Prelude.{if◌then◌else◌}
use Rattle.laws.specs.Tests.{one}
use Rattle.laws.specs.Lists.{keep}
use Rattle.laws.proofs.Bags.{keep_append}
use Rattle.rules.specs.declared.Driver.{Driver}
use Rattle.rules.specs.declared.Record.{Record}
use Rattle.rules.specs.Graph.{Graph, RamRow}
use Rattle.rules.specs.Build.{is_gate, gate_count, tally}
use Rattle.tallies.specs.Counted.{gates_of, pin_counted, output_counted, dff_counted, ram_counted}

one_kept : (d : Driver) → length (keep is_gate (d ∷ [])) ≡ gates_of d
one_kept d = go (is_gate d)
  where
    go : (b : Bool) → length (if b then d ∷ [] else []) ≡ one b
    go true = refl
    go false = refl

gates_more : (ds : List Driver) (d : Driver) → gate_count (ds ++ (d ∷ [])) ≡ gate_count ds + gates_of d
gates_more ds d = ap length (keep_append is_gate ds (d ∷ [])) ∙ length-append (keep is_gate ds) (keep is_gate (d ∷ [])) ∙ ap (λ (k : ℕ). gate_count ds + k) (one_kept d)

module _ (ds : List Driver) (os : List ℕ) (fs : List Record) (rs : List RamRow) where
  abbrev graph : List Driver → List ℕ → List Record → List RamRow → Graph
  graph ds' os' fs' rs' = record { drivers = ds'; outputs = os'; dffs = fs'; rams = rs' }

  -- a driver at the end of a table that has pin 0
  pub pin_tallied : (d : Driver) → 0 < length ds → tally (graph (ds ++ (d ∷ [])) os fs rs) ≡ pin_counted d (tally (graph ds os fs rs))
  pin_tallied d h = λ i. record { pins = more i; gates = gates_more ds d i; outputs = length os; dffs = length fs; rams = length rs }
    where
      more : length (ds ++ (d ∷ [])) - 1 ≡ length ds - 1 + 1
      more = omega (arith, h, length-append ds (d ∷ []))

  pub output_tallied : (l : ℕ) → tally (graph ds (os ++ (l ∷ [])) fs rs) ≡ output_counted (tally (graph ds os fs rs))
  output_tallied l = λ i. record { pins = length ds - 1; gates = gate_count ds; outputs = length-append os (l ∷ []) i; dffs = length fs; rams = length rs }

  pub dff_tallied : (f : Record) → tally (graph ds os (fs ++ (f ∷ [])) rs) ≡ dff_counted (tally (graph ds os fs rs))
  dff_tallied f = λ i. record { pins = length ds - 1; gates = gate_count ds; outputs = length os; dffs = length-append fs (f ∷ []) i; rams = length rs }

  pub ram_tallied : (r : RamRow) → tally (graph ds os fs (rs ++ (r ∷ []))) ≡ ram_counted (tally (graph ds os fs rs))
  ram_tallied r = λ i. record { pins = length ds - 1; gates = gate_count ds; outputs = length os; dffs = length fs; rams = length-append rs (r ∷ []) i }
