-- A pin without a logic bit has the marker as its literal, by the parity of the INVs on the way; and no other pin has.
use mathlib.Core.Path.{◌≡◌, refl, sym, ◌∙◌, ap, subst}
use mathlib.Core.Bool.{Bool, true, false, not}
use mathlib.Core.List.{List, []}
use Prim.Native.Nat.{ℕ, ◌≤◌, ◌<◌}
use native.Mathlib.Omega.{arith}
use lib.ListN.{length, get_or}
use Rattle.laws.specs.Lists.{count}
use Rattle.laws.proofs.Bags.{here, put_same}
use Rattle.laws.proofs.Events.{proper_fold}
use Rattle.rules.specs.Netlist.{Netlist, size}
use Rattle.rules.specs.Cells.{Carried, Logic}
use Rattle.rules.specs.Graph.{opposite, opposite_if, marker}
use Rattle.rules.specs.Build.{Role, tied, wire, out_port, in_port, and_out, inv_out, buf_out, gate_out, dff_out, ram_out, nothing, role, visits_of, next, events, step1, Build, entering, leaving, act, start2, step2, graph_of, literals_of}
use Rattle.rules.specs.Refusals.{Accepted}
use Rattle.rules.proofs.Markers.{Marked, made, by_net, by_port, by_buf, by_inv, marked}
use Rattle.builds.proofs.Behind.{left_cases}
use Rattle.builds.proofs.Leaving.{leaving-lits}
use Rattle.builds.proofs.Steps.{all_out, visited, inside, all_left}
use Rattle.builds.proofs.Ends.{lit_fits}
use Rattle.builds.proofs.Rows.{lit_is, longer}

turn : (odd : Bool) → opposite (opposite_if odd marker) ≡ opposite_if (not odd) marker
turn true = refl
turn false = refl

entering-lits : (s : Build) (r : Role) (x : ℕ) → (entering s r).lits x ≡ s.lits x
entering-lits s (tied b) x = refl
entering-lits s (wire q) x = refl
entering-lits s (out_port q) x = refl
entering-lits s in_port x = refl
entering-lits s (and_out a b c d e) x = refl
entering-lits s (inv_out a) x = refl
entering-lits s (buf_out a) x = refl
entering-lits s (gate_out cp en) x = refl
entering-lits s (dff_out c) x = refl
entering-lits s (ram_out c b) x = refl
entering-lits s nothing x = refl

module _ (n : Netlist) where
  -- the pins left so far have their markers
  abbrev Marks : List ℕ → Build → Type 0
  Marks lft s = (p : ℕ) (odd : Bool) → 0 < count p lft → Marked n p odd → s.lits p ≡ opposite_if odd marker

  module _ (lft : List ℕ) (s : Build) (p : ℕ) (marks : Marks lft s) (done : (o : ℕ) → 0 < count o (next n p) → 0 < count o lft) where
    was : (r : Role) (q : ℕ) → role n p ≡ r → 0 < count q (visits_of n r) → 0 < count q lft
    was r q e m = done q (subst (λ (x : Role). 0 < count q (visits_of n x)) (sym e) m)

    now : (r : Role) (l : ℕ) → role n p ≡ r → (leaving n s p r).lits p ≡ l → (leaving n s p (role n p)).lits p ≡ l
    now r l e h = subst (λ (x : Role). (leaving n s p x).lits p ≡ l) (sym e) h

    marked_now : (odd : Bool) → Marked n p odd → (leaving n s p (role n p)).lits p ≡ opposite_if odd marker
    marked_now odd (made {cp = cp} {e = en} e) = now (gate_out cp en) marker e (put_same s.lits p marker)
    marked_now odd (by_net {q = q} e m) = now (wire q) (opposite_if odd marker) e (put_same s.lits p (s.lits q) ∙ marks q odd (was (wire q) q e (here q [])) m)
    marked_now odd (by_port {q = q} e m) = now (out_port q) (opposite_if odd marker) e (put_same s.lits p (s.lits q) ∙ marks q odd (was (out_port q) q e (here q [])) m)
    marked_now odd (by_buf {q = q} e m) = now (buf_out q) (opposite_if odd marker) e (put_same s.lits p (s.lits q) ∙ marks q odd (was (buf_out q) q e (here q [])) m)
    marked_now odd (by_inv {q = q} {odd = d} e m) = now (inv_out q) (opposite_if (not d) marker) e
        (put_same s.lits p (opposite (s.lits q)) ∙ ap opposite (marks q d (was (inv_out q) q e (here q [])) m) ∙ turn d)

  module _ (acc : Accepted n) where
    marks_built : Marks (all_out n acc) (step2 n)
    unfolding step2
    marks_built = proper_fold (next n) (act n) (λ ent lft s. Marks lft s) (λ p. p < size n)
        (λ ent lft s u h z m p odd w k. entering-lits s (role n u) p ∙ m p odd w k)
        (λ ent lft s u h was z done m p odd w k. left_cases n lft u p z w
        (λ e. subst (λ (x : ℕ). (leaving n s u (role n u)).lits x ≡ opposite_if odd marker) (sym e) (marked_now lft s u m done odd (subst (λ (x : ℕ). Marked n x odd) e k)))
        (λ w' ne. leaving-lits n s u (role n u) p ne ∙ m p odd w' k))
        (events n) [] [] (start2 (step1 n)) (visited n acc).0 (λ p m. inside n acc p (omega arith)) (λ p odd w. absurd (omega arith))

    -- 4,294,967,295, or 4,294,967,294 after an odd number of INVs
    pub marker-right : (p : ℕ) (odd : Bool) → p < size n → Carried n p odd → get_or (literals_of n) p 0 ≡ opposite_if odd marker
    marker-right p odd h k = lit_is n p h ∙ marks_built p odd (all_left n acc p h) (marked n p odd k)

    -- within the bound on graph pins no literal of a pin with a logic bit is one of these
    pub no_marker_else : length (graph_of n).drivers ≤ 16777216 → (p : ℕ) → p < size n → Logic n p → get_or (literals_of n) p 0 < 4294967294
    no_marker_else b p h l = omega (arith, lit_is n p h, lit_fits n acc p h l, longer n acc)
