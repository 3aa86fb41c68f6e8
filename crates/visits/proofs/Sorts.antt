-- What a pin is by what it makes, and what is there before an event.
use mathlib.Core.Path.{◌≡◌, refl, sym, ap, subst}
use mathlib.Core.Bool.{Bool, true, false}
use mathlib.Core.List.{List, [], ◌∷◌}
use Prim.Native.Nat.{ℕ, ◌<◌}
use lib.ListN.{length}
use Rattle.laws.specs.Tests.{one}
use Rattle.laws.specs.Lists.{count}
use Rattle.laws.specs.Search.{Event}
use Rattle.laws.proofs.Bags.{here}
use Rattle.rules.specs.declared.Tally.{Tally}
use Rattle.rules.specs.declared.Rooms.{Rooms}
use Rattle.rules.specs.Netlist.{Netlist, size}
use Rattle.rules.specs.Graph.{opposite_if, marker}
use Rattle.rules.specs.Build.{Role, tied, wire, out_port, in_port, and_out, inv_out, buf_out, gate_out, dff_out, ram_out, nothing, visits_of, Build, with_lit, entering, leaving, events}
use Rattle.rules.specs.Refusals.{Accepted}
use Rattle.rules.proofs.Tables.{clash}
use Rattle.roles.specs.Reading.{Fits, says}
use Rattle.roles.specs.declared.PinRole.{PinRole}
use Rattle.roles.specs.declared.PinRole.TheVariants as kind
use Rattle.drafts.specs.Layout.{index_at}
use Rattle.visits.specs.declared.Leaving.TheVariants.{Take, Copy, Output, Input, And, Flop, Ram}
use Rattle.visits.specs.Drafting.{Drafting, Listed, Before, ready, event_at, state_at, leaving_of}

-- ---- what a pin is, by what it makes
pub idle_role : (b : Build) (what : PinRole) → ((c : ℕ) → what ≡ kind.DffOut c → ⊥) → entering b (says what) ≡ b
idle_role b (kind.Tied x) h = refl
idle_role b (kind.Wire q) h = refl
idle_role b (kind.OutPort q) h = refl
idle_role b kind.InPort h = refl
idle_role b (kind.AndOut x y z a c) h = refl
idle_role b (kind.InvOut a) h = refl
idle_role b (kind.BufOut a) h = refl
idle_role b (kind.GateOut cp en) h = refl
idle_role b (kind.DffOut c) h = absurd (h c refl)
idle_role b (kind.RamOut c x) h = refl
idle_role b kind.Nothing h = refl

module _ (n : Netlist) (b : Build) (p : ℕ) where
  pub take-role : (r : Role) (v : ℕ) → leaving_of r ≡ Take v → leaving n b p r ≡ with_lit b p b.drivers v
  take-role (tied x) v e = let q : one x ≡ v = cc in ap (with_lit b p b.drivers) q
  take-role (wire q) v e = clash (cc)
  take-role (out_port q) v e = clash (cc)
  take-role in_port v e = clash (cc)
  take-role (and_out x y z a c) v e = clash (cc)
  take-role (inv_out a) v e = clash (cc)
  take-role (buf_out a) v e = clash (cc)
  take-role (gate_out cp en) v e = let q : marker ≡ v = cc in ap (with_lit b p b.drivers) q
  take-role (dff_out c) v e = clash (cc)
  take-role (ram_out c x) v e = clash (cc)
  take-role nothing v e = let q : 0 ≡ v = cc in ap (with_lit b p b.drivers) q

  pub copy_role : (r : Role) (q : ℕ) (x : Bool) → leaving_of r ≡ Copy q x → (leaving n b p r ≡ with_lit b p b.drivers (opposite_if x (b.lits q))) × (0 < count q (visits_of n r))
  copy_role (tied y) q x e = clash (cc)
  copy_role (wire a) q x e = let u : a ≡ q = cc in let v : false ≡ x = cc in
      ((λ i. with_lit b p b.drivers (opposite_if (v i) (b.lits (u i)))), subst (λ (y : ℕ). 0 < count q (y ∷ [])) (sym u) (here q []))
  copy_role (out_port a) q x e = clash (cc)
  copy_role in_port q x e = clash (cc)
  copy_role (and_out y y' z a c) q x e = clash (cc)
  copy_role (inv_out a) q x e = let u : a ≡ q = cc in let v : true ≡ x = cc in
      ((λ i. with_lit b p b.drivers (opposite_if (v i) (b.lits (u i)))), subst (λ (y : ℕ). 0 < count q (y ∷ [])) (sym u) (here q []))
  copy_role (buf_out a) q x e = let u : a ≡ q = cc in let v : false ≡ x = cc in
      ((λ i. with_lit b p b.drivers (opposite_if (v i) (b.lits (u i)))), subst (λ (y : ℕ). 0 < count q (y ∷ [])) (sym u) (here q []))
  copy_role (gate_out cp en) q x e = clash (cc)
  copy_role (dff_out c) q x e = clash (cc)
  copy_role (ram_out c y) q x e = clash (cc)
  copy_role nothing q x e = clash (cc)

pub output_role : (r : Role) (q : ℕ) → leaving_of r ≡ Output q → r ≡ out_port q
output_role (tied y) q e = clash (cc)
output_role (wire a) q e = clash (cc)
output_role (out_port a) q e = let u : a ≡ q = cc in ap out_port u
output_role in_port q e = clash (cc)
output_role (and_out x y z a c) q e = clash (cc)
output_role (inv_out a) q e = clash (cc)
output_role (buf_out a) q e = clash (cc)
output_role (gate_out cp en) q e = clash (cc)
output_role (dff_out c) q e = clash (cc)
output_role (ram_out c y) q e = clash (cc)
output_role nothing q e = clash (cc)

pub input_role : (r : Role) → leaving_of r ≡ Input → r ≡ in_port
input_role (tied y) e = clash (cc)
input_role (wire a) e = clash (cc)
input_role (out_port a) e = clash (cc)
input_role in_port e = refl
input_role (and_out x y z a c) e = clash (cc)
input_role (inv_out a) e = clash (cc)
input_role (buf_out a) e = clash (cc)
input_role (gate_out cp en) e = clash (cc)
input_role (dff_out c) e = clash (cc)
input_role (ram_out c y) e = clash (cc)
input_role nothing e = clash (cc)

pub and_role : (r : Role) (x y z : Bool) (a b : ℕ) → leaving_of r ≡ And x y z a b → r ≡ and_out x y z a b
and_role (tied y') x y z a b e = clash (cc)
and_role (wire q) x y z a b e = clash (cc)
and_role (out_port q) x y z a b e = clash (cc)
and_role in_port x y z a b e = clash (cc)
and_role (and_out x' y' z' a' b') x y z a b e =
    let ex : x' ≡ x = cc in let ey : y' ≡ y = cc in let ez : z' ≡ z = cc in let ea : a' ≡ a = cc in let eb : b' ≡ b = cc in λ i. and_out (ex i) (ey i) (ez i) (ea i) (eb i)
and_role (inv_out q) x y z a b e = clash (cc)
and_role (buf_out q) x y z a b e = clash (cc)
and_role (gate_out cp en) x y z a b e = clash (cc)
and_role (dff_out c) x y z a b e = clash (cc)
and_role (ram_out c y') x y z a b e = clash (cc)
and_role nothing x y z a b e = clash (cc)

pub stored-role : (r : Role) (c : ℕ) → leaving_of r ≡ Flop c → r ≡ dff_out c
stored-role (tied y) c e = clash (cc)
stored-role (wire a) c e = clash (cc)
stored-role (out_port a) c e = clash (cc)
stored-role in_port c e = clash (cc)
stored-role (and_out x y z a b) c e = clash (cc)
stored-role (inv_out a) c e = clash (cc)
stored-role (buf_out a) c e = clash (cc)
stored-role (gate_out cp en) c e = clash (cc)
stored-role (dff_out x) c e = let u : x ≡ c = cc in ap dff_out u
stored-role (ram_out x y) c e = clash (cc)
stored-role nothing c e = clash (cc)

pub read-role : (r : Role) (c x : ℕ) → leaving_of r ≡ Ram c x → r ≡ ram_out c x
read-role (tied y) c x e = clash (cc)
read-role (wire a) c x e = clash (cc)
read-role (out_port a) c x e = clash (cc)
read-role in_port c x e = clash (cc)
read-role (and_out x' y z a b) c x e = clash (cc)
read-role (inv_out a) c x e = clash (cc)
read-role (buf_out a) c x e = clash (cc)
read-role (gate_out cp en) c x e = clash (cc)
read-role (dff_out y) c x e = clash (cc)
read-role (ram_out c' x') c x e = let u : c' ≡ c = cc in let v : x' ≡ x = cc in λ i. ram_out (u i) (v i)
read-role nothing c x e = clash (cc)

module _ (n : Netlist) (rm : Rooms) (w ws os : List ℕ) (t : Tally) (at i p : ℕ) (e : Event) where
  pub fit_of : Before n rm w ws os t at i p e → Fits n
  fit_of (ready a b c d f g h j) = a

  pub acc_of : Before n rm w ws os t at i p e → Accepted n
  acc_of (ready a b c d f g h j) = b

  pub draft_of : Before n rm w ws os t at i p e → Drafting n rm w ws t (state_at n i)
  draft_of (ready a b c d f g h j) = c

  pub list_of : Before n rm w ws os t at i p e → Listed rm os (state_at n i)
  list_of (ready a b c d f g h j) = d

  pub index_of : Before n rm w ws os t at i p e → at ≡ index_at (size n) rm.pins
  index_of (ready a b c d f g h j) = f

  pub inside_of : Before n rm w ws os t at i p e → i < length (events n)
  inside_of (ready a b c d f g h j) = g

  pub event_of_lem : Before n rm w ws os t at i p e → event_at n i ≡ e
  event_of_lem (ready a b c d f g h j) = h

  pub below_of : Before n rm w ws os t at i p e → p < size n
  below_of (ready a b c d f g h j) = j
