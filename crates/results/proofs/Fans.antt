-- Fanouts made of a driver table that holds a list of drivers are those of the list.
use mathlib.Core.Path.{◌≡◌, subst}
use mathlib.Core.Bool.{Bool, true, false}
use mathlib.Core.List.{List}
use Prim.Native.Nat.{ℕ, ◌+◌, ◌*◌, ◌<◌, ◌≤◌}
use lib.ListN.{length}
use Rattle.laws.specs.Words.{filled}
use Rattle.rules.specs.declared.Driver.{Driver}
use Rattle.rules.specs.Build.{fanouts, fanout_starts, gate_count}
use Rattle.drivers.specs.Written.{Holds}
use Rattle.drivers.proofs.Rows.{holds_drivers}
use Rattle.fanouts.specs.Fans.{Fanned}
use Rattle.fanouts.proofs.Passes.{fanned_fits, fanned_starts, fanned_lists, unfanned_room}

module _ (ws : List ℕ) (ds : List Driver) (pins : ℕ) (h : Holds ws ds) (n : length ds ≡ pins + 1) (s l s' l' : List ℕ) (r : Bool) (f : Fanned ws pins s l s' l' r) where
  pub fans_fit : r ≡ true → 2 * gate_count ds ≤ length l
  fans_fit t = subst (λ (es : List Driver). 2 * gate_count es ≤ length l) (holds_drivers ws ds pins h n) (fanned_fits ws pins s l s' l' r f t)

  pub fans_starts : r ≡ true → s' ≡ filled (fanout_starts ds) (length s)
  fans_starts t = subst (λ (es : List Driver). s' ≡ filled (fanout_starts es) (length s)) (holds_drivers ws ds pins h n) (fanned_starts ws pins s l s' l' r f t)

  pub fans_lists : r ≡ true → l' ≡ filled (fanouts ds) (length l)
  fans_lists t = subst (λ (es : List Driver). l' ≡ filled (fanouts es) (length l)) (holds_drivers ws ds pins h n) (fanned_lists ws pins s l s' l' r f t)

  pub fans_no_room : r ≡ false → length l < 2 * gate_count ds
  fans_no_room e = subst (λ (es : List Driver). length l < 2 * gate_count es) (holds_drivers ws ds pins h n) (unfanned_room ws pins s l s' l' r f e)
