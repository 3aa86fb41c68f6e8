-- The events one after the other: what is built before each, and what has been entered and left by then.
use mathlib.Core.Path.{◌≡◌, refl, sym, ap, subst, ◌∙◌}
use mathlib.Core.List.{List, [], ◌∷◌}
use Prim.Native.Nat.{ℕ, zero, suc, ◌+◌, ◌≤◌, ◌<◌}
use native.Mathlib.Omega.{arith}
use native.Mathlib.Numerals.{add-one}
use lib.ListN.{length, get_or, take}
use Rattle.laws.specs.Lists.{count}
use Rattle.laws.specs.Search.{Event, enter, leave}
use Rattle.laws.proofs.Folds.{over-take}
use Rattle.laws.proofs.Events.{ins, Proper, in_after, out_after}
use Rattle.rules.specs.Netlist.{Netlist, size}
use Rattle.rules.specs.Graph.{pin_of}
use Rattle.rules.specs.Build.{Role, out_port, dff_out, role, visits_of, next, events, act, start2, step1}
use Rattle.rules.specs.Refusals.{Accepted}
use Rattle.rules.proofs.Tables.{clash}
use Rattle.builds.proofs.Logics.{out_logic, visited_logic}
use Rattle.builds.proofs.Behind.{Behind}
use Rattle.builds.proofs.Steps.{visited, inside, behind_after}
use Rattle.visits.specs.Drafting.{event_at, state_at}

-- ---- a prefix of a proper order
module _ (nx : ℕ → List ℕ) where
  proper_take : (es : List Event) (i : ℕ) (ent lft : List ℕ) → Proper nx ent lft es → Proper nx ent lft (take i es)
  proper_take es zero ent lft r = tt
  proper_take [] (suc i) ent lft r = tt
  proper_take (enter u ∷ es) (suc i) ent lft r = (r.0, proper_take es i (u ∷ ent) lft r.1)
  proper_take (leave u ∷ es) (suc i) ent lft r = (r.0, r.1, r.2, proper_take es i ent (u ∷ lft) r.3)

  left_at : (es : List Event) (i : ℕ) (ent lft : List ℕ) (u : ℕ) → Proper nx ent lft es → i < length es → get_or es i (enter 0) ≡ leave u
      → (0 < count u (in_after ent (take i es))) × ((o : ℕ) → 0 < count o (nx u) → 0 < count o (out_after lft (take i es)))
  left_at [] i ent lft u r l e = absurd (omega arith)
  left_at (enter x ∷ es) zero ent lft u r l e = clash (cc)
  left_at (leave x ∷ es) zero ent lft u r l e =
      let q : x ≡ u = cc in subst (λ (y : ℕ). (0 < count y ent) × ((o : ℕ) → 0 < count o (nx y) → 0 < count o lft)) q (r.0, r.2)
  left_at (enter x ∷ es) (suc i) ent lft u r l e = left_at es i (x ∷ ent) lft u r.1 (omega (arith, l)) e
  left_at (leave x ∷ es) (suc i) ent lft u r l e = left_at es i ent (x ∷ lft) u r.3 (omega (arith, l)) e

ins_take : (es : List Event) (i p : ℕ) → ins p (take i es) ≤ ins p es
ins_take es zero p = omega arith
ins_take [] (suc i) p = omega arith
ins_take (enter u ∷ es) (suc i) p = omega (arith, ins_take es i p)
ins_take (leave u ∷ es) (suc i) p = ins_take es i p

-- ---- the events of an accepted netlist
module _ (n : Netlist) (acc : Accepted n) (i : ℕ) where
  behind_at : Behind n (in_after [] (take i (events n))) (out_after [] (take i (events n))) (state_at n i)
  unfolding state_at
  behind_at = behind_after n acc (take i (events n)) (proper_take (next n) (events n) i [] [] (visited n acc).0)
      (λ p m. inside n acc p (omega (arith, m, ins_take (events n) i p)))

  module _ (l : i < length (events n)) (p : ℕ) (e : event_at n i ≡ leave p) where
    now : (0 < count p (in_after [] (take i (events n)))) × ((o : ℕ) → 0 < count o (next n p) → 0 < count o (out_after [] (take i (events n))))
    unfolding event_at
    now = left_at (next n) (events n) i [] [] p (visited n acc).0 l e

    -- an output port's literal has a pin when the port is left
    pub port_fits : (q : ℕ) → p < size n → role n p ≡ out_port q → pin_of ((state_at n i).lits q) < length (state_at n i).drivers
    port_fits q lp r =
        let m : 0 < count q (next n p) = subst (λ (x : Role). 0 < count q (visits_of n x)) (sym r) (omega (arith, Rattle.laws.proofs.Tests.one_eq q q refl)) in
        behind_at.fits q (now.1 q m) (visited_logic n acc p q (role n p) lp (out_logic n acc p q lp r) refl m)

    -- so has a flip-flop's own pin
    pub own_fits : (c : ℕ) → role n p ≡ dff_out c → (state_at n i).flop_pin c < length (state_at n i).drivers
    own_fits c r = (behind_at.flop_made_lem p c now.0 r).1

pub state_next : (n : Netlist) (i : ℕ) → i < length (events n) → state_at n (i + 1) ≡ act n (state_at n i) (event_at n i)
unfolding state_at event_at
state_next n i l = ap (state_at n) (add-one i) ∙ over-take (act n) (start2 (step1 n)) (events n) i (enter 0) l
