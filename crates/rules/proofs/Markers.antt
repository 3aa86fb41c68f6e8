-- Markers by the roles of the pins: the same as `Carried`, and a pin has at most one.
use mathlib.Core.Path.{◌≡◌, refl, sym, ◌∙◌, ap, subst}
use mathlib.Core.Logic.{◌↔◌}
use mathlib.Core.Bool.{Bool, true, false, not}
use Prim.Native.Nat.{ℕ}
use native.Mathlib.Omega.{arith}
use Rattle.std.specs.Prelude.{◌==◌}
use Rattle.laws.proofs.Tests.{by_test, true≢false}
use Rattle.rules.specs.Netlist.{Netlist, cell_of, is_out, kind_of, Kind, inv, buf, clock_gate, pin_named, #A}
use Rattle.rules.specs.Cells.{Carried, Logic}
use Rattle.rules.specs.Cells.Carried.{from_gate, over_net, over_buf, over_inv}
use Rattle.rules.specs.Build.{Role, tied, wire, out_port, in_port, and_out, inv_out, buf_out, gate_out, dff_out, ram_out, nothing, role}
use Rattle.rules.proofs.Tables.{clash}
use Rattle.rules.proofs.Roles.{out_is, driven_is, wire_words, port_words, inv_words, buf_words, gate_words}

-- a marker on a pin, by what the visits of step 2 see
pub data Marked (n : Netlist) : ℕ → Bool → Type 0 where
  made : {p cp e : ℕ} → role n p ≡ gate_out cp e → Marked n p false
  by_net : {p q : ℕ} {odd : Bool} → role n p ≡ wire q → Marked n q odd → Marked n p odd
  by_port : {p q : ℕ} {odd : Bool} → role n p ≡ out_port q → Marked n q odd → Marked n p odd
  by_buf : {p q : ℕ} {odd : Bool} → role n p ≡ buf_out q → Marked n q odd → Marked n p odd
  by_inv : {p q : ℕ} {odd : Bool} → role n p ≡ inv_out q → Marked n q odd → Marked n p (not odd)

module _ (n : Netlist) where
  pub carried : (p : ℕ) (odd : Bool) → Marked n p odd → Carried n p odd
  carried p odd (made {cp = cp} {e = en} e) = let w = gate_words n p cp en e in from_gate w.0 w.1
  carried p odd (by_net {q = q} e m) = let w = wire_words n p q e in over_net q w.0 w.1 (carried q odd m)
  carried p odd (by_port {q = q} e m) = let w = port_words n p q e in over_net q w.0 w.1 (carried q odd m)
  carried p odd (by_buf {q = q} e m) = let w = buf_words n p q e in over_buf w.0 w.1 (subst (λ (x : ℕ). Carried n x odd) w.2 (carried q odd m))
  carried p odd (by_inv {q = q} {odd = d} e m) = let w = inv_words n p q e in over_inv w.0 w.1 (subst (λ (x : ℕ). Carried n x d) w.2 (carried q d m))

  pub marked : (p : ℕ) (odd : Bool) → Carried n p odd → Marked n p odd
  marked p odd (from_gate t e) = made (out_is n p clock_gate t e)
  marked p odd (over_net q f e m) = by_test (cell_of n p == 0)
      (λ t. by_port (driven_is n p q true f e t) (marked q odd m))
      (λ g. by_net (driven_is n p q false f e g) (marked q odd m))
  marked p odd (over_buf t e m) = by_buf (out_is n p buf t e) (marked (pin_named n (cell_of n p) #A) odd m)
  marked p odd (over_inv {odd = d} t e m) = by_inv (out_is n p inv t e) (marked (pin_named n (cell_of n p) #A) d m)

  pub marked_iff : (p : ℕ) (odd : Bool) → Marked n p odd ↔ Carried n p odd
  marked_iff p odd = (carried p odd, marked p odd)

  -- ---- a pin's marker is one
  apart : {P : Type 0} (p : ℕ) (k j : Kind) → kind_of n (cell_of n p) ≡ k → kind_of n (cell_of n p) ≡ j → (k ≡ j → ⊥) → P
  apart p k j e f ne = absurd (ne (sym e ∙ f))

  pub one-marker : (p : ℕ) (x y : Bool) → Carried n p x → Carried n p y → x ≡ y
  one-marker p x y (from_gate t e) (from_gate t' e') = refl
  one-marker p x y (from_gate t e) (over_net q f e' m) = true≢false (is_out n p) t f
  one-marker p x y (from_gate t e) (over_buf t' e' m) = apart p clock_gate buf e e' (λ z. clash (cc))
  one-marker p x y (from_gate t e) (over_inv t' e' m) = apart p clock_gate inv e e' (λ z. clash (cc))
  one-marker p x y (over_net q f e m) (from_gate t e') = true≢false (is_out n p) t f
  one-marker p x y (over_net q f e m) (over_net q' f' e' m') = let w : q ≡ q' = omega (arith, e, e') in one-marker q x y m (subst (λ (k : ℕ). Carried n k y) (sym w) m')
  one-marker p x y (over_net q f e m) (over_buf t e' m') = true≢false (is_out n p) t f
  one-marker p x y (over_net q f e m) (over_inv t e' m') = true≢false (is_out n p) t f
  one-marker p x y (over_buf t e m) (from_gate t' e') = apart p buf clock_gate e e' (λ z. clash (cc))
  one-marker p x y (over_buf t e m) (over_net q f e' m') = true≢false (is_out n p) t f
  one-marker p x y (over_buf t e m) (over_buf t' e' m') = one-marker (pin_named n (cell_of n p) #A) x y m m'
  one-marker p x y (over_buf t e m) (over_inv t' e' m') = apart p buf inv e e' (λ z. clash (cc))
  one-marker p x y (over_inv t e m) (from_gate t' e') = apart p inv clock_gate e e' (λ z. clash (cc))
  one-marker p x y (over_inv t e m) (over_net q f e' m') = true≢false (is_out n p) t f
  one-marker p x y (over_inv t e m) (over_buf t' e' m') = apart p inv buf e e' (λ z. clash (cc))
  one-marker p x y (over_inv {odd = d} t e m) (over_inv {odd = d'} t' e' m') = ap not (one-marker (pin_named n (cell_of n p) #A) d d' m m')

-- ---- a pin under a role that no marker passes has a logic bit
abbrev pub passes_marker : Role → Bool
passes_marker (tied b) = false
passes_marker (wire q) = true
passes_marker (out_port q) = true
passes_marker in_port = false
passes_marker (and_out x y z a b) = false
passes_marker (inv_out a) = true
passes_marker (buf_out a) = true
passes_marker (gate_out cp e) = true
passes_marker (dff_out c) = false
passes_marker (ram_out c b) = false
passes_marker nothing = false

mark_passes : (n : Netlist) (p : ℕ) (odd : Bool) → Marked n p odd → passes_marker (role n p) ≡ true
mark_passes n p odd (made e) = ap passes_marker e
mark_passes n p odd (by_net e m) = ap passes_marker e
mark_passes n p odd (by_port e m) = ap passes_marker e
mark_passes n p odd (by_buf e m) = ap passes_marker e
mark_passes n p odd (by_inv e m) = ap passes_marker e

pub logic_by : (n : Netlist) (p : ℕ) (r : Role) → role n p ≡ r → passes_marker r ≡ false → Logic n p
logic_by n p r e f odd m = true≢false (passes_marker (role n p)) (mark_passes n p odd (marked n p odd m)) (ap passes_marker e ∙ f)

-- and a logic bit comes from a logic bit
module _ (n : Netlist) (p q : ℕ) where
  pub logic_net : role n p ≡ wire q → Logic n p → Logic n q
  logic_net e l odd m = l odd (carried n p odd (by_net e (marked n q odd m)))

  pub logic_port : role n p ≡ out_port q → Logic n p → Logic n q
  logic_port e l odd m = l odd (carried n p odd (by_port e (marked n q odd m)))

  pub logic_buf : role n p ≡ buf_out q → Logic n p → Logic n q
  logic_buf e l odd m = l odd (carried n p odd (by_buf e (marked n q odd m)))

  pub logic_inv : role n p ≡ inv_out q → Logic n p → Logic n q
  logic_inv e l odd m = l (not odd) (carried n p (not odd) (by_inv e (marked n q odd m)))
