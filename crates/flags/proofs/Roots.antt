-- A clock walk that ends at a port ends at a pin of the netlist, and its flag is known by its end alone.
use mathlib.Core.Path.{◌≡◌, refl, subst}
use mathlib.Core.List.{List, [], ◌∷◌}
use Prim.Native.Nat.{ℕ, zero, suc, ◌<◌}
use Rattle.laws.specs.Lists.{count}
use Rattle.laws.proofs.Bags.{here}
use Rattle.rules.specs.declared.Edge.{Edge}
use Rattle.rules.specs.declared.Driver.{Driver}
use Rattle.rules.specs.Netlist.{Netlist, size}
use Rattle.rules.specs.Cells.{other_edge}
use Rattle.rules.specs.Build.{Role, tied, wire, out_port, in_port, and_out, inv_out, buf_out, gate_out, dff_out, ram_out, nothing, role, visits_of, Walk, still, root, gated, strange, far, ask_driver, ask_last, ask_pin, walk_by, flag_of}
use Rattle.rules.specs.Refusals.{tables_number}
use Rattle.rules.proofs.Tables.{clash}
use Rattle.rules.proofs.Roles.{visit_fits}
use Rattle.clocks.specs.declared.WalkEnd.TheVariants.{Root}
use Rattle.clocks.specs.Walks.{end_of}
use Rattle.flags.specs.Flagging.{flag_at, PortWithin}

pub flag_end : (ds : List Driver) (w : Walk) → flag_of ds w ≡ flag_at ds (end_of w)
flag_end ds still = refl
flag_end ds (root q e) = refl
flag_end ds (gated w e) = flag_end ds w
flag_end ds strange = refl
flag_end ds far = refl

module _ (m : ℕ) where
  abbrev Good : Walk → Type 0
  Good w = (q : ℕ) (e : Edge) → end_of w ≡ Root q e → q < m

  good_still : Good still
  good_still q e s = clash (cc)

  good_strange : Good strange
  good_strange q e s = clash (cc)

  good_far : Good far
  good_far q e s = clash (cc)

  good_root : (q : ℕ) (e : Edge) → q < m → Good (root q e)
  good_root q e l q' e' s = let a : q ≡ q' = cc in subst (λ (x : ℕ). x < m) a l

  module _ (n : Netlist) where
    good_pin : (ask : ℕ → Walk) (r : Role) → ((q : ℕ) → 0 < count q (visits_of n r) → Good (ask q)) → Good (ask_pin ask r)
    good_pin ask (tied b) g = good_still
    good_pin ask (wire q) g = g q (here q [])
    good_pin ask (out_port q) g = good_strange
    good_pin ask in_port g = good_strange
    good_pin ask (and_out x y z a b) g = good_strange
    good_pin ask (inv_out a) g = good_strange
    good_pin ask (buf_out a) g = good_strange
    good_pin ask (gate_out cp en) g = good_strange
    good_pin ask (dff_out c) g = good_strange
    good_pin ask (ram_out c b) g = good_strange
    good_pin ask nothing g = good_strange

    good_last : (e : Edge) (q : ℕ) (r : Role) → q < m → Good (ask_last e q r)
    good_last e q (tied b) l = good_far
    good_last e q (wire x) l = good_far
    good_last e q (out_port x) l = good_far
    good_last e q in_port l = good_root q e l
    good_last e q (and_out x y z a b) l = good_far
    good_last e q (inv_out a) l = good_far
    good_last e q (buf_out a) l = good_far
    good_last e q (gate_out cp en) l = good_far
    good_last e q (dff_out c) l = good_far
    good_last e q (ram_out c b) l = good_far
    good_last e q nothing l = good_far

    good_driver : (go : Edge → ℕ → Walk) (e : Edge) (q : ℕ) (r : Role) → q < m → ((d : Edge) (x : ℕ) → 0 < count x (visits_of n r) → Good (go d x)) → Good (ask_driver go e q r)
    good_driver go e q (tied b) l g = good_strange
    good_driver go e q (wire x) l g = good_strange
    good_driver go e q (out_port x) l g = good_strange
    good_driver go e q in_port l g = good_root q e l
    good_driver go e q (and_out x y z a b) l g = good_strange
    good_driver go e q (inv_out a) l g = g (other_edge e) a (here a [])
    good_driver go e q (buf_out a) l g = g e a (here a [])
    good_driver go e q (gate_out cp en) l g = g e cp (here cp (en ∷ []))
    good_driver go e q (dff_out c) l g = good_strange
    good_driver go e q (ram_out c b) l g = good_strange
    good_driver go e q nothing l g = good_strange

module _ (n : Netlist) (acc : tables_number n ≡ 0) where
  walk_good : (left : ℕ) (e : Edge) (p : ℕ) → p < size n → Good (size n) (walk_by n left e p)
  walk_good zero e p l = good_pin (size n) n (λ q. ask_last e q (role n q)) (role n p)
      (λ q k. good_last (size n) n e q (role n q) (visit_fits n acc p q (role n p) l refl k))
  walk_good (suc left) e p l = good_pin (size n) n (λ q. ask_driver (walk_by n left) e q (role n q)) (role n p)
      (λ q k. let lq = visit_fits n acc p q (role n p) l refl k in
      good_driver (size n) n (walk_by n left) e q (role n q) lq (λ d x i. walk_good left d x (visit_fits n acc q x (role n q) lq refl i)))

  pub root_within : (left : ℕ) (e : Edge) (p : ℕ) → p < size n → PortWithin (size n) (end_of (walk_by n left e p))
  root_within left e p l = record { below = walk_good left e p l }
