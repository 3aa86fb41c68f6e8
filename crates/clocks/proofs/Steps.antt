-- One step of a clock walk, in the code's shape.
use mathlib.Core.Path.{◌≡◌, refl, sym, ◌∙◌, ap, ap₂}
use mathlib.Core.Bool.{Bool}
use mathlib.Core.List.{List, [], ◌∷◌, ◌++◌}
use Prim.Native.Nat.{ℕ, zero, suc, ◌+◌, ◌-◌, ◌*◌, ◌<◌, ◌≤◌}
use native.Mathlib.Numerals.{add-one}
use native.Mathlib.Omega.{arith}
use lib.ListN.{length, get_or}
use borrow.Author.Tests.{eq-eqb, ne_eqb}
use Rattle.std.specs.Prelude.{if◌then◌else◌, ◌==◌}
use Rattle.laws.proofs.Bags.{here}
use Rattle.laws.proofs.Indices.{snoc_length, snoc_cases}
use Rattle.laws.proofs.Words.{word_past}
use Rattle.rules.specs.declared.Edge.{Edge}
use Rattle.rules.specs.Netlist.{Netlist}
use Rattle.rules.specs.Cells.{other_edge}
use Rattle.rules.specs.Build.{Role, tied, wire, out_port, in_port, and_out, inv_out, buf_out, gate_out, dff_out, ram_out, nothing, role, Walk, gated, ask_driver, ask_last, ask_pin, walk_by}
use Rattle.rules.proofs.Roles.{visit_fits}
use Rattle.roles.specs.declared.PinRole.{PinRole}
use Rattle.roles.specs.declared.PinRole.TheVariants.{Tied, Wire, OutPort, InPort, AndOut, InvOut, BufOut, GateOut, DffOut, RamOut, Nothing}
use Rattle.roles.specs.Reading.{tables, Fits, says}
use Rattle.clocks.specs.declared.WalkEnd.{WalkEnd}
use Rattle.clocks.specs.declared.WalkEnd.TheVariants.{Strange}
use Rattle.clocks.specs.declared.Walked.{Walked}
use Rattle.clocks.specs.Walks.{end_of, enables, told, plain, on_gate, driver_by}

-- ---- the E pins, one more at the end
at_snoc : (l : List ℕ) (x i : ℕ) → (if i == length l then x else get_or l i 0) ≡ get_or (l ++ (x ∷ [])) i 0
at_snoc l x i = snoc_cases l x 0 (λ (v : ℕ). (if i == length l then x else get_or l i 0) ≡ v) i
    (λ h. rw (ne_eqb i (length l) (λ e. absurd (omega (arith, h, e)))))
    (λ e. rw (eq-eqb i (length l) e))
    (λ h. rw (ne_eqb i (length l) (λ e. absurd (omega (arith, h, e)))) (word_past l i (omega (arith, h))))

gate-told : (w : Walk) (e i : ℕ) → on_gate (told w i) e i ≡ told (gated w e) i
gate-told w e i = ap₂ (λ (g : ℕ) (x : ℕ). Walked (end_of w) g x) (add-one (length (enables w)) ∙ sym (snoc_length (enables w) e 0)) (at_snoc (enables w) e i)
  where
    Walked : WalkEnd → ℕ → ℕ → Rattle.clocks.specs.declared.Walked.Walked
    Walked end g x = record { end = end; gates = g; enable = x }

-- ---- the two steps, by the role that is asked
module _ (n : Netlist) where
  walk_on : (left : ℕ) (e : Edge) (p : ℕ) → walk_by n left e p ≡ ask_pin (driver_by n left e) (role n p)
  walk_on zero e p = refl
  walk_on (suc left) e p = refl

  driver_on : (left : ℕ) (e : Edge) (q : ℕ) → (left ≡ 0 → ⊥) → driver_by n left e q ≡ ask_driver (walk_by n (left - 1)) e q (role n q)
  driver_on left e q m = let z : left ≡ suc (left - 1) = omega (arith, m) in ap (λ (l : ℕ). driver_by n l e q) z

  -- at most as many E pins as cells were left
  short_pin : (left : ℕ) (f : ℕ → Walk) → ((q : ℕ) → length (enables (f q)) ≤ left) → (r : Role) → length (enables (ask_pin f r)) ≤ left
  short_pin left f h (tied b) = omega arith
  short_pin left f h (wire x) = h x
  short_pin left f h (out_port x) = omega arith
  short_pin left f h in_port = omega arith
  short_pin left f h (and_out x y z a b) = omega arith
  short_pin left f h (inv_out a) = omega arith
  short_pin left f h (buf_out a) = omega arith
  short_pin left f h (gate_out cp en) = omega arith
  short_pin left f h (dff_out c) = omega arith
  short_pin left f h (ram_out c b) = omega arith
  short_pin left f h nothing = omega arith

  short_driver : (left : ℕ) (go : Edge → ℕ → Walk) (e : Edge) (q : ℕ) → ((f : Edge) (p : ℕ) → length (enables (go f p)) ≤ left) → (r : Role)
      → length (enables (ask_driver go e q r)) ≤ suc left
  short_driver left go e q h (tied b) = omega arith
  short_driver left go e q h (wire x) = omega arith
  short_driver left go e q h (out_port x) = omega arith
  short_driver left go e q h in_port = omega arith
  short_driver left go e q h (and_out x y z a b) = omega arith
  short_driver left go e q h (inv_out a) = omega (arith, h (other_edge e) a)
  short_driver left go e q h (buf_out a) = omega (arith, h e a)
  short_driver left go e q h (gate_out cp en) = omega (arith, h e cp, snoc_length (enables (go e cp)) en 0)
  short_driver left go e q h (dff_out c) = omega arith
  short_driver left go e q h (ram_out c b) = omega arith
  short_driver left go e q h nothing = omega arith

  short_last : (e : Edge) (q : ℕ) (r : Role) → length (enables (ask_last e q r)) ≤ 0
  short_last e q (tied b) = omega arith
  short_last e q (wire x) = omega arith
  short_last e q (out_port x) = omega arith
  short_last e q in_port = omega arith
  short_last e q (and_out x y z a b) = omega arith
  short_last e q (inv_out a) = omega arith
  short_last e q (buf_out a) = omega arith
  short_last e q (gate_out cp en) = omega arith
  short_last e q (dff_out c) = omega arith
  short_last e q (ram_out c b) = omega arith
  short_last e q nothing = omega arith

  short : (left : ℕ) (e : Edge) (p : ℕ) → length (enables (walk_by n left e p)) ≤ left
  short zero e p = short_pin zero (driver_by n zero e) (λ q. short_last e q (role n q)) (role n p)
  short (suc left) e p = short_pin (suc left) (driver_by n (suc left) e) (λ q. short_driver left (walk_by n left) e q (short left) (role n q)) (role n p)

-- ---- from an input pin
module _ (kinds starts list pins nets : List ℕ) (p : ℕ) (what : PinRole) (ew : says what ≡ role (tables kinds starts list pins nets) p) where
  abbrev n : Netlist
  n = tables kinds starts list pins nets

  pub driver_inside : (q : ℕ) → what ≡ Wire q → Fits (tables kinds starts list pins nets) → p < length list → q < length list
  driver_inside q e f l = visit_fits n f.accepted p q (wire q) l (sym ew ∙ ap says e) (here q [])

  module _ (left : ℕ) (e : Edge) (want : ℕ) (r : Walked) where
    by_role : (w : PinRole) → what ≡ w → r ≡ told (ask_pin (driver_by n left e) (says w)) want → r ≡ told (walk_by n left e p) want
    by_role w h er = er ∙ ap (λ (x : Walk). told x want) (ap (ask_pin (driver_by n left e)) (sym (ap says h) ∙ ew) ∙ sym (walk_on n left e p))

    pub pin_other : ((b : Bool) → what ≡ Tied b → ⊥) → ((q : ℕ) → what ≡ Wire q → ⊥) → r ≡ plain Strange
        → r ≡ told (walk_by (tables kinds starts list pins nets) left e p) want
    pin_other a b er = by_role what refl (strange_of what a b)
      where
        strange_of : (w : PinRole) → ((b : Bool) → w ≡ Tied b → ⊥) → ((q : ℕ) → w ≡ Wire q → ⊥) → r ≡ told (ask_pin (driver_by n left e) (says w)) want
        strange_of (Tied t) a b = absurd (a t refl)
        strange_of (Wire x) a b = absurd (b x refl)
        strange_of (OutPort x) a b = er
        strange_of InPort a b = er
        strange_of (AndOut x y z s t) a b = er
        strange_of (InvOut s) a b = er
        strange_of (BufOut s) a b = er
        strange_of (GateOut cp en) a b = er
        strange_of (DffOut c) a b = er
        strange_of (RamOut c s) a b = er
        strange_of Nothing a b = er

-- ---- from a driver
module _ (kinds starts list pins nets : List ℕ) (left q : ℕ) (what : PinRole) (ew : says what ≡ role (tables kinds starts list pins nets) q) where
  abbrev m : Netlist
  m = tables kinds starts list pins nets

  -- the pin that is asked next is one of the netlist
  module _ (f : Fits (tables kinds starts list pins nets)) (l : q < length list) where
    pub inv_inside : (x : ℕ) → what ≡ InvOut x → x < length list
    inv_inside x h = visit_fits m f.accepted q x (inv_out x) l (sym ew ∙ ap says h) (here x [])

    pub buf_inside : (x : ℕ) → what ≡ BufOut x → x < length list
    buf_inside x h = visit_fits m f.accepted q x (buf_out x) l (sym ew ∙ ap says h) (here x [])

    pub gate_inside : (x y : ℕ) → what ≡ GateOut x y → x < length list
    gate_inside x y h = visit_fits m f.accepted q x (gate_out x y) l (sym ew ∙ ap says h) (here x (y ∷ []))

  module _ (e : Edge) (want : ℕ) (r : Walked) where
    goes : (left ≡ 0 → ⊥) → (w : PinRole) → what ≡ w → r ≡ told (ask_driver (walk_by m (left - 1)) e q (says w)) want → r ≡ told (driver_by m left e q) want
    goes z w h er = er ∙ ap (λ (x : Walk). told x want) (ap (ask_driver (walk_by m (left - 1)) e q) (sym (ap says h) ∙ ew) ∙ sym (driver_on m left e q z))

    pub driver_gate : (left ≡ 0 → ⊥) → (x y : ℕ) (w : Walked) → what ≡ GateOut x y → w ≡ told (walk_by (tables kinds starts list pins nets) (left - 1) e x) want → r ≡ on_gate w y want
        → r ≡ told (driver_by (tables kinds starts list pins nets) left e q) want
    driver_gate z x y w h ew' er = goes z (GateOut x y) h (er ∙ ap (λ (v : Walked). on_gate v y want) ew' ∙ gate-told (walk_by m (left - 1) e x) y want)

pub gates_few : (kinds starts list pins nets : List ℕ) (left : ℕ) (e : Edge) (p want : ℕ) (w : Walked) → w ≡ told (walk_by (tables kinds starts list pins nets) (left - 1) e p) want
    → (left ≡ 0 → ⊥) → left ≤ 64 → w.gates < 64
gates_few kinds starts list pins nets left e p want w ew h l =
    omega (arith, ap (λ (v : Walked). v.gates) ew, short (tables kinds starts list pins nets) (left - 1) e p, h, l)

-- ---- the cells left fall
pub cell_falls : (t left : ℕ) → 2 * left ≡ t → (left ≡ 0 → ⊥) → 2 * (left - 1) + 1 < t
cell_falls t left e h = omega (arith, e, h)

pub pin_falls : (t left : ℕ) → 2 * left + 1 ≡ t → 2 * left < t
pin_falls t left e = omega (arith, e)

pub fewer_left : (left : ℕ) → left ≤ 64 → left - 1 ≤ 64
fewer_left left l = omega (arith, l)
