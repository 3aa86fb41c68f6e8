-- Bits of graph pins that agree with what the drivers so far say, where the sources' bits come from outside. Tables only grow, so the
-- agreement carries back to each earlier one.
use mathlib.Core.Path.{◌≡◌, ◌∙◌, ap}
use mathlib.Core.Bool.{Bool, false, ◌&&◌}
use mathlib.Core.List.{List}
use Prim.Native.Nat.{ℕ, ◌<◌}
use native.Mathlib.Omega.{arith}
use lib.ListN.{length}
use Rattle.rules.specs.declared.Driver.{Driver}
use Rattle.rules.specs.declared.Driver.TheVariants.{And, Port, Flag, Dff, Ram, Constant}
use Rattle.rules.specs.Graph.{driver_at}
use Rattle.rules.specs.Cells.{Env}
use Rattle.builds.proofs.Literals.{lit_of}
use Rattle.builds.proofs.Growing.{Keeps}
use Rattle.builds.proofs.Sound.{Sound}

-- a RAM's driver holds its cell only, not the bit: of its pins nothing is said here
abbrev pub env_bit : Env → (ℕ → Bool) → ℕ → Driver → Bool
env_bit env β u (And a b) = lit_of β a.word && lit_of β b.word
env_bit env β u (Port q) = env.port_bit q
env_bit env β u (Flag q e) = env.flag_bit q e
env_bit env β u (Dff c) = env.stored c
env_bit env β u (Ram c) = β u
env_bit env β u Constant = false

abbrev pub Agrees : Env → (ℕ → Bool) → List Driver → Type 0
Agrees env β ds = (u : ℕ) → u < length ds → β u ≡ env_bit env β u (driver_at ds u)

pub agrees_keeps : (env : Env) (β : ℕ → Bool) {ds es : List Driver} → Keeps ds es → Agrees env β es → Agrees env β ds
agrees_keeps env β {ds} {es} g a u h = a u (omega (arith, g.longer)) ∙ ap (env_bit env β u) (g.kept u h)

pub agrees_zero : (env : Env) (β : ℕ → Bool) (ds : List Driver) → Sound ds → Agrees env β ds → β 0 ≡ false
agrees_zero env β ds w a = a 0 w.start ∙ ap (env_bit env β 0) w.first
