-- A record more, where a cell has none yet.
use Rattle.std.specs.Prelude.{Option, Some, None, List, ℕ, ◌+◌, get_or, set, if◌then◌else◌, ◌==◌}
use Rattle.laws.specs.Tests.{◌≤?◌}
use Rattle.rules.specs.declared.Tally.{Tally}
use Rattle.tallies.specs.Counted.{dff_counted, ram_counted}

abbrev pub counted : List ℕ → ℕ → ℕ → ℕ
counted w place made = if get_or w place 0 == 0 then made + 1 else made

abbrev pub numbered : List ℕ → ℕ → ℕ → List ℕ
numbered w place made = if get_or w place 0 == 0 then set w place (made + 1) else w

abbrev pub flops_counted : Tally → ℕ → ℕ → Option Tally
flops_counted t count room =
    if count == t.dffs then Some t
    else (if room ≤? t.dffs then None else Some (dff_counted t))

abbrev pub rams_counted : Tally → ℕ → ℕ → Option Tally
rams_counted t count room =
    if count == t.rams then Some t
    else (if room ≤? t.rams then None else Some (ram_counted t))
