-- The work words before building.
use Rattle.std.specs.Prelude.{Result, Ok, Err, ◌≡◌, List, ℕ, ◌*◌, ◌<◌, ◌≤◌, length, get_or}
use Rattle.rules.specs.declared.Refusal.{Refusal}
use Rattle.rules.specs.Answers.{done_of}
use Rattle.rules.specs.Netlist.{Netlist, size}
use Rattle.rules.specs.Build.{events}
use Rattle.rules.specs.Refusals.{netlist_number, Accepted}
use Rattle.roles.specs.Reading.{Fits}
use Rattle.orders.specs.State.{events_of}

-- the events of the visits, and nothing else
pub record Cleared (n : Netlist) (w : List ℕ) : Type 0 where
  pub long : 4 * size n ≤ length w
  pub order : events_of w (2 * size n) (2 * size n) ≡ events n
  pub before : (j : ℕ) → j < 2 * size n → get_or w j 0 ≡ 0
  pub after : (j : ℕ) → 4 * size n ≤ j → get_or w j 0 ≡ 0

-- an accepted netlist and words made ready
pub record MadeReady (n : Netlist) (w w' : List ℕ) : Type 0 where
  pub number : netlist_number n ≡ 0
  pub fits : Fits n
  pub accepted : Accepted n
  pub cleared : Cleared n w'
  pub size_kept : length w' ≡ length w

-- or the first test that refuses
pub record TurnedAway (n : Netlist) (w w' : List ℕ) (e : Refusal) : Type 0 where
  pub answer : Err e ≡ done_of (netlist_number n)
  pub size_kept : length w' ≡ length w

abbrev pub Prepared : Netlist → List ℕ → List ℕ → Result (Unit {0}) Refusal → Type 0
Prepared n w w' (Ok u) = MadeReady n w w'
Prepared n w w' (Err e) = TurnedAway n w w' e
