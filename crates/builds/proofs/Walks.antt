-- Clock walks that are not refused: an induction over them, what a trace makes, and that its literal has the clock pin's activity.
use mathlib.Core.Path.{◌≡◌, refl, ◌∙◌, ap, ap₂, subst}
use mathlib.Core.Bool.{Bool, false, ◌&&◌}
use mathlib.Core.List.{List, [], ◌∷◌}
use Prim.Native.Nat.{ℕ, zero, suc, ◌≤◌, ◌<◌}
use native.Mathlib.Omega.{arith}
use lib.ListN.{length}
use Rattle.laws.specs.Lists.{count, upto}
use Rattle.laws.proofs.Bags.{here, there, in_flat}
use Rattle.laws.proofs.Ranges.{upto_in}
use Rattle.rules.specs.declared.Edge.{Edge}
use Rattle.rules.specs.declared.Edge.TheVariants.{Rising}
use Rattle.rules.specs.declared.Driver.{Driver}
use Rattle.rules.specs.Netlist.{Netlist, cells, size, cell_of, pin_named, #E}
use Rattle.rules.specs.Cells.{Env, other_edge, Logic, Active}
use Rattle.rules.specs.Cells.Active.{at_constant, at_port, through_inv, through_buf, through_gate}
use Rattle.rules.specs.Graph.{pin_of}
use Rattle.rules.specs.Build.{Role, tied, wire, out_port, in_port, and_out, inv_out, buf_out, gate_out, dff_out, ram_out, nothing, role, visits_of, Walk, still, root, gated, strange, far, ask_driver, ask_last, ask_pin, walk_by, walk, clocks_of, trace}
use Rattle.rules.specs.Refusals.{walk_number, Accepted}
use Rattle.rules.proofs.Roles.{visit_fits, wire_words, tied_words, input_words, inv_words, buf_words, gate_words}
use Rattle.rules.proofs.Accepts.{walks_found}
use Rattle.builds.proofs.Literals.{lit_of}
use Rattle.builds.proofs.Growing.{Grows, grows_refl, grows_trans}
use Rattle.builds.proofs.Sound.{Sound}
use Rattle.builds.proofs.Agreeing.{Agrees, agrees_keeps}
use Rattle.builds.proofs.Ands.{and_grows, and_fits, and_sound, and_bit, flag_grows, flag_fits, flag_sound, flag_bit_lem}
use Rattle.builds.proofs.Logics.{gate_logic}

-- of an accepted netlist each clock pin's walk ends at a constant or a port
pub walk_found : (n : Netlist) → Accepted n → (c p : ℕ) → c < cells n → 0 < count p (clocks_of n c) → walk_number (walk n p) ≡ 0
walk_found n acc c p hc m = walks_found n acc.clocks_found p (in_flat (clocks_of n) c p (upto (cells n)) (omega (arith, upto_in (cells n) c hc)) m)

module _ (n : Netlist) (acc : Accepted n) where
  -- ---- what holds at the ends of walks, and is carried through each cell, holds of every walk
  module _ (P : ℕ → Edge → Walk → Type 0)
      (by_tied : (p : ℕ) (e : Edge) (b : Bool) → role n p ≡ tied b → P p e still)
      (by_port : (p q : ℕ) (e : Edge) → q < size n → role n p ≡ wire q → role n q ≡ in_port → P p e (root q e))
      (by_inv : (p q a : ℕ) (e : Edge) (w : Walk) → role n p ≡ wire q → role n q ≡ inv_out a → P a (other_edge e) w → P p e w)
      (by_buf : (p q a : ℕ) (e : Edge) (w : Walk) → role n p ≡ wire q → role n q ≡ buf_out a → P a e w → P p e w)
      (by-gate : (p q cp en : ℕ) (e : Edge) (w : Walk) → q < size n → en < size n → role n p ≡ wire q → role n q ≡ gate_out cp en → P cp e w → P p e (gated w en)) where
    eight : {X : Type 0} → ◌≡◌ {A = ℕ} 8 0 → X
    eight e = absurd (omega arith)

    nine : {X : Type 0} → ◌≡◌ {A = ℕ} 9 0 → X
    nine e = absurd (omega arith)

    into : (p q : ℕ) → p < size n → role n p ≡ wire q → q < size n
    into p q h e = visit_fits n acc.tables p q (wire q) h e (here q [])

    onward : (q o : ℕ) (r : Role) → q < size n → role n q ≡ r → 0 < count o (visits_of n r) → o < size n
    onward q o r h e m = visit_fits n acc.tables q o r h e m

    last_cell : (p q : ℕ) (e : Edge) (r : Role) → p < size n → role n p ≡ wire q → role n q ≡ r → walk_number (ask_last e q r) ≡ 0 → P p e (ask_last e q r)
    last_cell p q e (tied b) h ep eq w = nine w
    last_cell p q e (wire x) h ep eq w = nine w
    last_cell p q e (out_port x) h ep eq w = nine w
    last_cell p q e in_port h ep eq w = by_port p q e (into p q h ep) ep eq
    last_cell p q e (and_out x y z a b) h ep eq w = nine w
    last_cell p q e (inv_out a) h ep eq w = nine w
    last_cell p q e (buf_out a) h ep eq w = nine w
    last_cell p q e (gate_out cp en) h ep eq w = nine w
    last_cell p q e (dff_out c) h ep eq w = nine w
    last_cell p q e (ram_out c b) h ep eq w = nine w
    last_cell p q e nothing h ep eq w = nine w

    next_cell : (p q : ℕ) (e : Edge) (go : Edge → ℕ → Walk) → p < size n → ((d : Edge) (a : ℕ) → a < size n → walk_number (go d a) ≡ 0 → P a d (go d a))
        → (r : Role) → role n p ≡ wire q → role n q ≡ r → walk_number (ask_driver go e q r) ≡ 0 → P p e (ask_driver go e q r)
    next_cell p q e go h ih (tied b) ep eq w = eight w
    next_cell p q e go h ih (wire x) ep eq w = eight w
    next_cell p q e go h ih (out_port x) ep eq w = eight w
    next_cell p q e go h ih in_port ep eq w = by_port p q e (into p q h ep) ep eq
    next_cell p q e go h ih (and_out x y z a b) ep eq w = eight w
    next_cell p q e go h ih (inv_out a) ep eq w = by_inv p q a e (go (other_edge e) a) ep eq (ih (other_edge e) a (onward q a (inv_out a) (into p q h ep) eq (here a [])) w)
    next_cell p q e go h ih (buf_out a) ep eq w = by_buf p q a e (go e a) ep eq (ih e a (onward q a (buf_out a) (into p q h ep) eq (here a [])) w)
    next_cell p q e go h ih (gate_out cp en) ep eq w =
        by-gate p q cp en e (go e cp) (into p q h ep) (onward q en (gate_out cp en) (into p q h ep) eq (there en cp (en ∷ []) (here en []))) ep eq
        (ih e cp (onward q cp (gate_out cp en) (into p q h ep) eq (here cp (en ∷ []))) w)
    next_cell p q e go h ih (dff_out c) ep eq w = eight w
    next_cell p q e go h ih (ram_out c b) ep eq w = eight w
    next_cell p q e go h ih nothing ep eq w = eight w

    from_pin : (p : ℕ) (e : Edge) (ask : ℕ → Walk) → ((q : ℕ) → role n p ≡ wire q → walk_number (ask q) ≡ 0 → P p e (ask q))
        → (r : Role) → role n p ≡ r → walk_number (ask_pin ask r) ≡ 0 → P p e (ask_pin ask r)
    from_pin p e ask f (tied b) ep w = by_tied p e b ep
    from_pin p e ask f (wire q) ep w = f q ep w
    from_pin p e ask f (out_port q) ep w = eight w
    from_pin p e ask f in_port ep w = eight w
    from_pin p e ask f (and_out x y z a b) ep w = eight w
    from_pin p e ask f (inv_out a) ep w = eight w
    from_pin p e ask f (buf_out a) ep w = eight w
    from_pin p e ask f (gate_out cp en) ep w = eight w
    from_pin p e ask f (dff_out c) ep w = eight w
    from_pin p e ask f (ram_out c b) ep w = eight w
    from_pin p e ask f nothing ep w = eight w

    pub walk_ind : (k : ℕ) (e : Edge) (p : ℕ) → p < size n → walk_number (walk_by n k e p) ≡ 0 → P p e (walk_by n k e p)
    walk_ind zero e p h w = from_pin p e (λ q. ask_last e q (role n q)) (λ q ep w'. last_cell p q e (role n q) h ep refl w') (role n p) refl w
    walk_ind (suc k) e p h w = from_pin p e (λ q. ask_driver (walk_by n k) e q (role n q)) (λ q ep w'. next_cell p q e (walk_by n k) h (walk_ind k) (role n q) ep refl w') (role n p) refl w

-- ---- tracing
pub trace_grows : (lits : ℕ → ℕ) (ds : List Driver) (w : Walk) → Grows ds (trace ds lits w).drivers
trace_grows lits ds still = grows_refl ds
trace_grows lits ds (root q e) = flag_grows ds q e
trace_grows lits ds (gated w e) = grows_trans (trace_grows lits ds w) (and_grows (trace ds lits w).drivers (trace ds lits w).lit (lits e))
trace_grows lits ds strange = grows_refl ds
trace_grows lits ds far = grows_refl ds

-- the E pins on the way have literals
abbrev pub Enabled : (ℕ → ℕ) → ℕ → Walk → Type 0
Enabled lits k still = Unit {0}
Enabled lits k (root q e) = Unit {0}
Enabled lits k (gated w e) = Enabled lits k w × (pin_of (lits e) < k)
Enabled lits k strange = Unit {0}
Enabled lits k far = Unit {0}

pub trace_sound : (lits : ℕ → ℕ) (k : ℕ) (ds : List Driver) (w : Walk) → Sound ds → k ≤ length ds → Enabled lits k w
    → Sound (trace ds lits w).drivers × (pin_of (trace ds lits w).lit < length (trace ds lits w).drivers)
trace_sound lits k ds still s l f = (s, s.start)
trace_sound lits k ds (root q e) s l f = (flag_sound ds q e s, flag_fits ds q e)
trace_sound lits k ds (gated w e) s l f =
    let a = trace_sound lits k ds w s l f.0 in
    let le : pin_of (lits e) < length (trace ds lits w).drivers = omega (arith, f.1, (trace_grows lits ds w).keeps.longer) in
    (and_sound (trace ds lits w).drivers (trace ds lits w).lit (lits e) a.0 a.1 le, and_fits (trace ds lits w).drivers (trace ds lits w).lit (lits e) a.0.start a.1 le)
trace_sound lits k ds strange s l f = (s, s.start)
trace_sound lits k ds far s l f = (s, s.start)

module _ (n : Netlist) (acc : Accepted n) where
  pub walk_enabled : (lits : ℕ → ℕ) (k : ℕ) → ((q : ℕ) → q < size n → Logic n q → pin_of (lits q) < k) → (p : ℕ) → p < size n → walk_number (walk n p) ≡ 0 → Enabled lits k (walk n p)
  walk_enabled lits k f p h w = walk_ind n acc (λ p' e w'. Enabled lits k w') (λ p' e b ep. tt) (λ p' q e hq ep eq. tt) (λ p' q a e w' ep eq x. x) (λ p' q a e w' ep eq x. x)
      (λ p' q cp en e w' hq hen ep eq x. (x, f en hen (gate_logic n acc q cp en hq eq))) 64 Rising p h w

  pub traced : (lits : ℕ → ℕ) (k : ℕ) (ds : List Driver) → ((q : ℕ) → q < size n → Logic n q → pin_of (lits q) < k) → (p : ℕ) → p < size n → walk_number (walk n p) ≡ 0 → Sound ds → k ≤ length ds
      → Sound (trace ds lits (walk n p)).drivers × (pin_of (trace ds lits (walk n p)).lit < length (trace ds lits (walk n p)).drivers)
  traced lits k ds f p h w s l = trace_sound lits k ds (walk n p) s l (walk_enabled lits k f p h w)

  -- what a trace must give: a literal with the activity that the clock rules say
  abbrev Traced : Env → (ℕ → Bool) → (ℕ → Bool) → (ℕ → ℕ) → ℕ → Edge → Walk → Type 0
  Traced env v β lits p e w = (x : Bool) × Active n env v p e x × ((ds : List Driver) → Agrees env β (trace ds lits w).drivers → lit_of β (trace ds lits w).lit ≡ x)

  pub traced_bit : (env : Env) (v β : ℕ → Bool) (lits : ℕ → ℕ) → β 0 ≡ false → ((q : ℕ) → q < size n → Logic n q → lit_of β (lits q) ≡ v q)
      → (p : ℕ) → p < size n → walk_number (walk n p) ≡ 0 → Traced env v β lits p Rising (walk n p)
  traced_bit env v β lits tie f p h w = walk_ind n acc (Traced env v β lits)
      (λ p' e b ep. let wp = tied_words n p' b ep in (false, at_constant wp.0 wp.1, λ ds ag. tie))
      (λ p' q e hq ep eq. let wp = wire_words n p' q ep in let wq = input_words n acc.tables q hq eq in
      (env.flag_bit q e, at_port q wp.0 wp.1 wq.0 wq.1, λ ds ag. flag_bit_lem ds q e env β ag))
      (λ p' q a e w' ep eq x. let wp = wire_words n p' q ep in let wq = inv_words n q a eq in
      (x.0, through_inv q wp.0 wp.1 wq.0 wq.1 (subst (λ (k : ℕ). Active n env v k (other_edge e) x.0) wq.2 x.1), x.2))
      (λ p' q a e w' ep eq x. let wp = wire_words n p' q ep in let wq = buf_words n q a eq in
      (x.0, through_buf q wp.0 wp.1 wq.0 wq.1 (subst (λ (k : ℕ). Active n env v k e x.0) wq.2 x.1), x.2))
      (λ p' q cp en e w' hq hen ep eq x. let wp = wire_words n p' q ep in let wq = gate_words n q cp en eq in (
        x.0 && v (pin_named n (cell_of n q) #E),
        through_gate q wp.0 wp.1 wq.0 wq.1 (subst (λ (k : ℕ). Active n env v k e x.0) wq.2 x.1),
        λ ds ag. and_bit (trace ds lits w').drivers (trace ds lits w').lit (lits en) env β tie ag
            ∙ ap₂ (λ (j k : Bool). j && k)
            (x.2 ds (agrees_keeps env β (and_grows (trace ds lits w').drivers (trace ds lits w').lit (lits en)).keeps ag))
            (f en hen (gate_logic n acc q cp en hq eq) ∙ ap v wq.3),
      ))
      64 Rising p h w
