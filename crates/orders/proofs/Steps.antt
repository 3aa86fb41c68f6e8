-- One turn, in the code's shape.
use mathlib.Core.Path.{◌≡◌, refl, sym, ◌∙◌, ap, subst}
use mathlib.Core.List.{List, [], ◌∷◌, ◌++◌}
use Prim.Native.Nat.{ℕ, zero, suc, ◌+◌, ◌-◌, ◌*◌, ◌<◌, ◌≤◌}
use native.Mathlib.Omega.{arith}
use lib.ListN.{length, get_or, set, take, drop}
use Rattle.laws.specs.Lists.{count}
use Rattle.laws.proofs.Bags.{at_head}
use Rattle.laws.proofs.Events.{ins}
use Rattle.laws.proofs.Indices.{at_in, index_of}
use Rattle.roles.specs.Reading.{tables, Fits}
use Rattle.rules.specs.declared.Refusal.{Refusal}
use Rattle.orders.specs.declared.Place.{Place}
use Rattle.orders.specs.State.{goes_to, events_of, AllLeft, FirstNew, OnStack, Going, PinLeft, PinEntered, LoopMet, Turned}
use Rattle.orders.proofs.Looking.{goes_closed}
use Rattle.orders.proofs.Turns.{top_below_lem, pops, loop_met, pushes, below}

-- ---- a list at one of its places
parted : (l : List ℕ) (j : ℕ) → j < length l → l ≡ take j l ++ (get_or l j 0 ∷ drop (suc j) l)
parted [] j h = absurd (omega arith)
parted (x ∷ l) zero h = refl
parted (x ∷ l) (suc j) h = ap (λ (s : List ℕ). x ∷ s) (parted l j (omega arith))

in_take : (l : List ℕ) (j p : ℕ) → 0 < count p (take j l) → (i : ℕ) × (i < j) × (i < length l) × (get_or l i 0 ≡ p)
in_take [] zero p h = absurd (omega arith)
in_take [] (suc j) p h = absurd (omega arith)
in_take (x ∷ l) zero p h = absurd (omega arith)
in_take (x ∷ l) (suc j) p h = at_head p x (take j l) h
    (λ e. (0, omega arith, omega arith, sym e))
    (λ c. let w = in_take l j p c in (suc w.0, omega (arith, w.1), omega (arith, w.2), w.3))

same_there : (w : List ℕ) (x p : ℕ) → x ≡ p → 2 ≤ get_or w x 0 → 2 ≤ get_or w p 0
same_there w x p e h = subst (λ (y : ℕ). 2 ≤ get_or w y 0) e h

module _ (kinds starts list pins nets w : List ℕ) (h k : ℕ) (f : Fits (tables kinds starts list pins nets))
    (g : Going (goes_to (tables kinds starts list pins nets)) (length list) w h k) (pos : 0 < h) where
  abbrev nx : ℕ → List ℕ
  nx = goes_to (tables kinds starts list pins nets)

  abbrev m : ℕ
  m = length list

  abbrev t : ℕ
  t = get_or w (length list + h - 1) 0

  closed : (u o : ℕ) → u < m → 0 < count o (nx u) → o < m
  closed = goes_closed kinds starts list pins nets f

  pub top_inside : get_or w (length list + h - 1) 0 < length list
  top_inside = top_below_lem nx m w h k g pos

  pub step_loops : (e : Refusal) → OnStack (goes_to (tables kinds starts list pins nets) (get_or w (length list + h - 1) 0)) w e
      → LoopMet (goes_to (tables kinds starts list pins nets)) (length list) w w e
  step_loops e s =
      let i = at_in (nx t) s.place s.inside in
      record {
        refusal = s.refusal;
        pin = get_or (nx t) s.place 0;
        inside = closed t (get_or (nx t) s.place 0) top_inside i;
        chain = loop_met nx m w h k g pos closed (get_or (nx t) s.place 0) i s.open_there;
        kept = record { rest = λ j b. refl };
      }

  step_leaves : AllLeft (nx t) w → Turned nx m w h k (set (set w t 2) (2 * m + k) (2 * t + 1)) (h - 1) (k + 1)
  step_leaves s = pops nx m w h k g pos closed (λ o i. let x = index_of (nx t) o i in same_there w (get_or (nx t) x.0 0) o x.2 (s.left x.0 x.1))

  module _ (q : ℕ) (s : FirstNew (goes_to (tables kinds starts list pins nets) (get_or w (length list + h - 1) 0)) w q) where
    among : 0 < count q (nx t)
    among = rw s.pin (at_in (nx t) s.place s.inside)

    pub pin_inside : q < length list
    pin_inside = closed t q top_inside among

    new : ins q (events_of w (2 * m) k) ≡ 0
    new = omega (arith, g.marks q pin_inside, s.unmarked)

    pub room_left : h < length list
    room_left = omega (arith, below nx m w h k g q pin_inside new, g.low)

    step_enters : Turned nx m w h k (set (set (set w q 1) (m + h) q) (2 * m + k) (2 * q)) (h + 1) (k + 1)
    step_enters = pushes nx m w h k g pos closed (take s.place (nx t)) q (drop (suc s.place) (nx t))
        (parted (nx t) s.place s.inside ∙ ap (λ (o : ℕ). take s.place (nx t) ++ (o ∷ drop (suc s.place) (nx t))) (sym s.pin))
        (λ p c. let i = in_take (nx t) s.place p c in
        (subst (λ (x : ℕ). 0 < count x (nx t)) i.3 (at_in (nx t) i.0 i.2), same_there w (get_or (nx t) i.0 0) p i.3 (s.passed i.0 i.1)))
        among s.unmarked pin_inside new

-- the same by what the two functions that write say
module _ (kinds starts list pins nets w : List ℕ) (at : Place) (f : Fits (tables kinds starts list pins nets))
    (g : Going (goes_to (tables kinds starts list pins nets)) (length list) w at.height at.count) (pos : 0 < at.height) (w' : List ℕ) (at' : Place) where
  pub step_left : AllLeft (goes_to (tables kinds starts list pins nets) (get_or w (length list + at.height - 1) 0)) w
      → PinLeft (length list) (get_or w (length list + at.height - 1) 0) at w w' at' → Turned (goes_to (tables kinds starts list pins nets)) (length list) w at.height at.count w' at'.height at'.count
  step_left s l = rw (l.words, l.lower, l.more) (step_leaves kinds starts list pins nets w at.height at.count f g pos s)

  pub step_entered : (q : ℕ) → FirstNew (goes_to (tables kinds starts list pins nets) (get_or w (length list + at.height - 1) 0)) w q
      → PinEntered (length list) q at w w' at' → Turned (goes_to (tables kinds starts list pins nets)) (length list) w at.height at.count w' at'.height at'.count
  step_entered q s l = rw (l.words, l.higher, l.more) (step_enters kinds starts list pins nets w at.height at.count f g pos q s)
