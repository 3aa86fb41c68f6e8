-- 1 and 2 of building, by the lengths of its tables.
use Rattle.std.specs.Prelude.{Bool, ◌&&◌, ℕ, ◌+◌, ◌*◌, ◌==◌}
use Rattle.laws.specs.Tests.{◌≤?◌, or_else, refuse}
use Rattle.rules.specs.declared.NetlistCounts.{NetlistCounts}
use Rattle.rules.specs.declared.Rooms.{Rooms}
use Rattle.rules.specs.Bounds.{build_work, netlist_within, rooms_within}
use Rattle.netlist.specs.Tables.{long_by}
use Rattle.sizes.specs.declared.Sizes.{Sizes}

unfoldable pub records_long : Rooms → Sizes → Bool
records_long r s = (s.drivers == 3 * (r.pins + 1)) && (s.outputs == r.outputs) && (s.dffs == 3 * r.dffs) && (s.rams == 123 * r.rams)

unfoldable pub results_long : NetlistCounts → Rooms → Sizes → Bool
results_long c r s = (s.literals == c.pins) && (s.fanout_starts == r.pins + 2) && (s.fanouts == r.fanouts) && (build_work c.pins r.pins ≤? s.work)

unfoldable pub sizes_number : NetlistCounts → Rooms → Sizes → ℕ
sizes_number c r s =
    or_else (refuse 1 (netlist_within c && rooms_within r))
    (refuse 2 (long_by c s.kinds s.starts s.list s.pins s.nets && records_long r s && results_long c r s))
