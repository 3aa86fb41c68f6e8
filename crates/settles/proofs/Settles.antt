-- Clearing, stops and endpoints that leave, one after the other.
use mathlib.Core.Path.{◌≡◌, ap, ◌∙◌}
use mathlib.Core.List.{List}
use Prim.Native.Nat.{ℕ, ◌+◌, ◌*◌, ◌≤◌}
use native.Mathlib.Omega.{arith}
use lib.ListN.{length, get_or}
use Rattle.std.specs.Prelude.{if◌then◌else◌}
use Rattle.laws.specs.Lists.{member, over}
use Rattle.laws.specs.Sets.{remove}
use Rattle.laws.specs.Words.{part}
use Rattle.laws.proofs.Words.{part_same}
use Rattle.members.specs.Set.{SetIn}
use Rattle.clears.specs.State.{Used, Cleared, StopsAdded, Left}
use Rattle.settles.specs.State.{Settled}

-- a set whose words are as they were
pub set_same : (v w : List ℕ) (a cap n : ℕ) → length w ≡ length v → ((j : ℕ) → a ≤ j → get_or w j 0 ≡ get_or v j 0) → SetIn v a cap n → SetIn w a cap n
set_same v w a cap n l e s =
    let pm : part w a n ≡ part v a n = part_same w v a n (omega (arith, s.long, s.few)) (omega (arith, s.long, s.few)) (λ j lj uj. e j lj) in
    let pp : part w (a + cap) cap ≡ part v (a + cap) cap = part_same w v (a + cap) cap (omega (arith, s.long)) (omega (arith, s.long)) (λ j lj uj. e j (omega arith)) in
    record {
      few = s.few;
      room = s.room;
      long = omega (arith, s.long);
      once = λ p. rw pm (s.once p);
      inside = λ j lj. rw (e (a + j) (omega arith)) (s.inside j lj);
      places = rw (pp, pm) s.places;
      beyond = λ j lj uj. e (a + j) (omega arith) ∙ s.beyond j lj uj;
    }

module _ (m ends left : ℕ) (ps es w w₁ : List ℕ) (c : Cleared m w w₁) where
  pub settle_two : 8 * m ≤ length w → 2 * m ≤ length w₁
  settle_two h = omega (arith, c.long)

  module _ (s : SetIn w (8 * m) ends left) (w₂ : List ℕ) (a : StopsAdded m ps w₁ w₂) where
    pub settle_set : SetIn w₂ (8 * m) ends left
    settle_set = set_same w w₂ (8 * m) ends left (a.kept.long ∙ c.long) (λ j l. a.kept.after j (omega arith) ∙ c.rest j l) s

    pub settle_done : (w₃ : List ℕ) (n : ℕ) → Left m ends left es w₂ w₃ n → Settled m ends left ps es w w₃ n
    settle_done w₃ n d = record {
      long = d.kept.long ∙ a.kept.long ∙ c.long;
      marks = λ j l. d.kept.before j (omega arith) ∙ a.kept.before j l ∙ c.marks j l;
      stops = λ p l. d.kept.before (m + p) (omega arith) ∙ a.stops p l ∙ ap (λ (x : ℕ). if member p ps then 1 else x) (c.stops (m + p) (omega arith) (omega arith));
      middle = λ j l u. d.kept.before j u ∙ a.kept.after j l ∙ c.middle j l u;
      lefts = d.holds;
      members = d.members ∙ ap (λ (x : List ℕ). over remove x es)
          (part_same w₂ w (8 * m) left (omega (arith, a.kept.long, c.long, s.long, s.few)) (omega (arith, s.long, s.few)) (λ j l u. a.kept.after j (omega arith) ∙ c.rest j l));
    }

pub used_long : (m : ℕ) (w : List ℕ) (k size : ℕ) → Used m w k size → 8 * m ≤ length w
used_long m w k size u = u.long
