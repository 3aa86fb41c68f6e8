-- What a step leaves, one law for each way through the code.
use mathlib.Core.Path.{◌≡◌, refl, sym, ap, subst, ◌∙◌}
use mathlib.Core.Bool.{false}
use mathlib.Core.List.{List, [], ◌∷◌, ◌++◌}
use Prim.Native.Nat.{ℕ, ◌+◌, ◌-◌, ◌*◌, ◌≤◌, ◌<◌}
use native.Mathlib.Omega.{arith}
use lib.ListN.{length, set}
use borrow.Author.Tests.{eq-eqb, ne_eqb}
use Rattle.std.specs.Prelude.{◌==◌, Option, Some, None}
use Rattle.laws.specs.Tests.{one}
use Rattle.laws.specs.Words.{SameBelow}
use Rattle.laws.proofs.Tests.{by_test}
use Rattle.rules.specs.declared.Driver.{Driver}
use Rattle.rules.specs.declared.Literal.{Literal}
use Rattle.rules.specs.declared.Tally.{Tally}
use Rattle.rules.specs.Graph.{literal, gate, opposite, Made, and_of, or_not}
use Rattle.rules.specs.Build.{is_gate, gate_count}
use Rattle.rules.specs.Tables.{drivers_in}
use Rattle.rules.proofs.Tables.{clash}
use Rattle.drivers.specs.Written.{written}
use Rattle.drivers.proofs.Rows.{drivers_long_lem, written-length, one-longer}
use Rattle.tallies.specs.Counted.{pin_counted}
use Rattle.builds.proofs.Growing.{Keeps}
use Rattle.builds.proofs.Ands.{and_keeps, and_longer}
use Rattle.builds.proofs.Tallies.{and_only, gates_snoc}
use Rattle.gates.specs.declared.Step.{Step}
use Rattle.gates.specs.Step.{Ready, got, Grown, grown, full, Stepped}
use Rattle.gates.proofs.Steps.{ready_store, ready_pin}
use Rattle.drafts.specs.declared.Added.{Added}
use Rattle.drafts.specs.Table.{Table, drafted, pushed, set_reset, gate_counted, SameEnds, Extends, made}
use Rattle.drafts.specs.Table as table

pub below_refl : (a : ℕ) (w : List ℕ) → SameBelow a w w
below_refl a w = record { long = refl; same = λ j l. refl }

pub below_trans : {a : ℕ} {u v w : List ℕ} → SameBelow a u v → SameBelow a v w → SameBelow a u w
below_trans f g = record { long = g.long ∙ f.long; same = λ j l. g.same j l ∙ f.same j l }

pub ends_refl : (t : Tally) → SameEnds t t
ends_refl t = record { outputs = refl; dffs = refl; rams = refl }

pub ends_trans : {t u v : Tally} → SameEnds t u → SameEnds u v → SameEnds t v
ends_trans f g = record { outputs = g.outputs ∙ f.outputs; dffs = g.dffs ∙ f.dffs; rams = g.rams ∙ f.rams }

-- a word before the index is written
pub table_store : (at : ℕ) (w ws : List ℕ) (t : Tally) (i v : ℕ) → i < at → Table at w ws t → Table at (set w i v) ws t
table_store at w ws t i v l h = record { ready = ready_store at w ws t.pins i v l h.ready; gates = h.gates; few = h.few }

-- ---- a pin that is no gate
module _ (at : ℕ) (w ws : List ℕ) (t : Tally) (d : Driver) (h : Table at w ws t) where
  long : length (drafted ws t) ≡ t.pins + 1
  long = drivers_long_lem ws t.pins

  more : length (drafted ws t ++ (d ∷ [])) ≡ t.pins + 1 + 1
  more = one-longer (drafted ws t) d ∙ ap (λ (k : ℕ). k + 1) long

  pub push_full : length ws < 3 * (t.pins + 1) + 3
      → Extends at (pushed (drafted ws t) d) w ws t w ws None
  push_full l = table.full refl (omega (arith, l, more)) refl refl

  pub push_made : (ws' : List ℕ) (more' : Tally) → is_gate d ≡ false → 3 * (t.pins + 1) + 3 ≤ length ws → ws' ≡ written ws (t.pins + 1) d → more' ≡ pin_counted d t
      → Extends at (pushed (drafted ws t) d) w ws t w ws' (Some (record { lit = literal (2 * (t.pins + 1)); tally = more' }))
  push_made ws' more' g l e f = subst
      (λ (x : Tally). Extends at (pushed (drafted ws t) d) w ws t w ws' (Some (record { lit = literal (2 * (t.pins + 1)); tally = x }))) (sym f)
      (subst (λ (x : List ℕ). Extends at (pushed (drafted ws t) d) w ws t w x (Some (record { lit = literal (2 * (t.pins + 1)); tally = pin_counted d t }))) (sym e)
      (made (record { lit = literal (2 * (t.pins + 1)); tally = pin_counted d t }) refl (ap (λ (k : ℕ). 2 * k) (sym long)) (record { ready = step.0; gates = counted; few = few }) step.1
      (record { outputs = refl; dffs = refl; rams = refl }) (below_refl at w) (written-length ws (t.pins + 1) d)))
    where
      step : Ready at w (written ws (t.pins + 1) d) (t.pins + 1) × (drivers_in (written ws (t.pins + 1) d) (t.pins + 1) ≡ drafted ws t ++ (d ∷ []))
      step = ready_pin at w ws t.pins d g (omega (arith, l)) h.ready

      no_gate : one (is_gate d) ≡ 0
      no_gate = ap one g

      counted : (t.gates + one (is_gate d)) ≡ gate_count (drivers_in (written ws (t.pins + 1) d) (t.pins + 1))
      counted = ap (λ (k : ℕ). k + one (is_gate d)) h.gates ∙ sym (gates_snoc (drafted ws t) d) ∙ ap gate_count (sym step.1)

      few : t.gates + one (is_gate d) ≤ t.pins + 1
      few = omega (arith, no_gate, h.few)

-- ---- a tally with a gate more, or not
module _ (t : Tally) (pins : ℕ) where
  pub counted_same : pins ≡ t.pins → t ≡ gate_counted t pins
  counted_same e = rw (eq-eqb pins t.pins e)

  pub counted-more : (r : Tally) → (pins ≡ t.pins → ⊥) → r ≡ pin_counted (gate 0 0) t → r ≡ gate_counted t pins
  counted-more r e f = f ∙ rw (ne_eqb pins t.pins e)

-- ---- the AND
module _ (at : ℕ) (w ws : List ℕ) (t : Tally) (a b : ℕ) (h : Table at w ws t) where
  abbrev m : Made
  m = and_of (drafted ws t) a b

  before : length (drafted ws t) ≡ t.pins + 1
  before = drivers_long_lem ws t.pins

  keeps : Keeps (drafted ws t) m.drivers
  keeps = and_keeps (drafted ws t) a b

  next : length m.drivers ≤ length (drafted ws t) + 1
  next = omega (arith, and_longer (drafted ws t) a b)

  -- how the pins have grown
  pub and_grown : (w' ws' : List ℕ) (r : Option Step) (s : Step) → Stepped at w ws t.pins a b w' ws' r → r ≡ Some s
      → (t.pins ≤ s.pins) × (s.pins ≤ t.pins + 1) × (s.pins + 1 ≡ length m.drivers) × (s.lit ≡ literal m.lit) × Grown at m w ws w' ws' r
  and_grown w' ws' r s (grown g) e =
      let both : Some s ≡ got (literal m.lit) (length m.drivers - 1) = sym e ∙ g.answer in
      let is : s ≡ record { lit = literal m.lit; pins = length m.drivers - 1 } = cc in
      let same : s.pins ≡ length m.drivers - 1 = ap (λ (x : Step). x.pins) is in
      (omega (arith, same, before, keeps.longer), omega (arith, same, before, next), omega (arith, same, before, keeps.longer), ap (λ (x : Step). x.lit) is, g)
  and_grown w' ws' r s (full g) e = let z : None ≡ Some s = sym g.answer ∙ e in clash (cc)

  pub count_needs : (w' ws' : List ℕ) (s : Step) → Stepped at w ws t.pins a b w' ws' (Some s)
      → (t.pins ≤ 16777215) × ((t.gates ≤ t.pins) × ((t.pins ≤ s.pins) × (s.pins ≤ 16777215)))
  count_needs w' ws' s e =
      let g = and_grown w' ws' (Some s) s e refl in
      (omega (arith, h.ready.long, h.ready.bounded), (h.few, (g.0, omega (arith, g.2, g.4.room, h.ready.bounded))))

  gate-count : (k : ℕ) → t.pins ≤ k → k ≤ t.pins + 1 → k + 1 ≡ length m.drivers
      → ((gate_counted t k).gates ≡ gate_count m.drivers) × ((gate_counted t k).pins ≡ k) × ((gate_counted t k).gates ≤ k) × SameEnds t (gate_counted t k)
  gate-count k l u e = by_test (k == t.pins)
      (λ y. let q : k ≡ t.pins = borrow.Author.Tests.eqb-true k t.pins y in
      rw y (omega (arith, o, e, q, before, h.gates), sym q, omega (arith, q, h.few), ends_refl t))
      (λ n. let q : k ≡ t.pins + 1 = omega (arith, l, u, borrow.Author.Tests.eqb-false k t.pins n) in
      rw n (omega (arith, o, e, q, before, h.gates), sym q, omega (arith, q, h.few), record { outputs = refl; dffs = refl; rams = refl }))
    where
      o : gate_count m.drivers + length (drafted ws t) ≡ gate_count (drafted ws t) + length m.drivers
      o = (and_only (drafted ws t) a b).counted

  pub and_made : (w' ws' : List ℕ) (s : Step) (more : Tally) → Stepped at w ws t.pins a b w' ws' (Some s) → more ≡ gate_counted t s.pins
      → Extends at m w ws t w' ws' (Some (record { lit = s.lit; tally = more }))
  and_made w' ws' s more e f =
      let g = and_grown w' ws' (Some s) s e refl in
      let c = gate-count s.pins g.0 g.1 g.2 in
      let n : more.pins ≡ s.pins = ap (λ (x : Tally). x.pins) f ∙ c.1 in
      let p : length m.drivers - 1 ≡ more.pins = omega (arith, n, g.2) in
      let ds : drafted ws' more ≡ m.drivers = ap (drivers_in ws') (sym p) ∙ g.4.drivers in
      made (record { lit = s.lit; tally = more }) refl (ap (λ (x : Literal). x.word) g.3)
      (record {
        ready = subst (Ready at w' ws') p g.4.ready;
        gates = ap (λ (x : Tally). x.gates) f ∙ c.0 ∙ ap gate_count (sym ds);
        few = omega (arith, n, ap (λ (x : Tally). x.gates) f, c.2);
      })
      ds (subst (SameEnds t) (sym f) c.3) g.4.below g.4.same_length

-- ---- what a step leaves that fits
pub record Extended (at : ℕ) (m : Made) (w ws : List ℕ) (t : Tally) (w' ws' : List ℕ) (a : Added) : Type 0 where
  pub lit : a.lit.word ≡ m.lit
  pub table : Table at w' ws' a.tally
  pub drivers : drafted ws' a.tally ≡ m.drivers
  pub ends : SameEnds t a.tally
  pub below : SameBelow at w w'
  pub long : length ws' ≡ length ws

module _ (at : ℕ) (m : Made) (w ws : List ℕ) (t : Tally) (w' ws' : List ℕ) where
  pub extended : (a : Added) → Extends at m w ws t w' ws' (Some a) → Extended at m w ws t w' ws' a
  extended a (made b e l c d g i j) =
      let s : b ≡ a = cc in
      subst (Extended at m w ws t w' ws') s (record { lit = l; table = c; drivers = d; ends = g; below = i; long = j })
  extended a (table.full e b c d) = let z : Some a ≡ None = e in clash (cc)

  -- where a step has no room, a longer one has none
  pub longer_full : (k : Made) → length m.drivers ≤ length k.drivers → Extends at m w ws t w' ws' None → Extends at k w ws t w' ws' None
  longer_full k l (made b e c d g i j u) = let z : None ≡ Some b = e in clash (cc)
  longer_full k l (table.full e b c d) = table.full e (omega (arith, b, l)) c d

-- ---- "v or not w", and one step after another
module _ (at : ℕ) (w ws : List ℕ) (t : Tally) (v x : ℕ) (other : Literal) (w' ws' : List ℕ) (o : other.word ≡ opposite v) where
  pub or_made : (step : Added) (turned : Literal) → Extends at (and_of (drafted ws t) other.word x) w ws t w' ws' (Some step) → turned.word ≡ opposite step.lit.word
      → Extends at (or_not (drafted ws t) v x) w ws t w' ws' (Some (record { lit = turned; tally = step.tally }))
  or_made step turned s f =
      let e = extended at (and_of (drafted ws t) (opposite v) x) w ws t w' ws' step (subst (λ (y : ℕ). Extends at (and_of (drafted ws t) y x) w ws t w' ws' (Some step)) o s) in
      made (record { lit = turned; tally = step.tally }) refl (f ∙ ap opposite e.lit) e.table e.drivers e.ends e.below e.long

-- the AND that follows "v or not s"
module _ (at : ℕ) (w ws : List ℕ) (t : Tally) (v s r : ℕ) (w₁ ws₁ : List ℕ) where
  abbrev both : Made
  both = set_reset (drafted ws t) v s r

  pub set_full : Extends at (or_not (drafted ws t) v s) w ws t w₁ ws₁ None → Extends at (set_reset (drafted ws t) v s r) w ws t w₁ ws₁ None
  set_full = longer_full at (or_not (drafted ws t) v s) w ws t w₁ ws₁ both (and_keeps (or_not (drafted ws t) v s).drivers (or_not (drafted ws t) v s).lit r).longer

  module _ (one : Added) (step : Extends at (or_not (drafted ws t) v s) w ws t w₁ ws₁ (Some one)) where
    pub set-table : Table at w₁ ws₁ one.tally
    set-table = (extended at (or_not (drafted ws t) v s) w ws t w₁ ws₁ one step).table

    pub set_then : (w₂ ws₂ : List ℕ) (two : Option Added) → Extends at (and_of (drafted ws₁ one.tally) one.lit.word r) w₁ ws₁ one.tally w₂ ws₂ two
        → Extends at (set_reset (drafted ws t) v s r) w ws t w₂ ws₂ two
    set_then w₂ ws₂ two s₂ = from (subst (λ (l : ℕ). Extends at (and_of (or_not (drafted ws t) v s).drivers l r) w₁ ws₁ one.tally w₂ ws₂ two) e.lit
        (subst (λ (ds : List Driver). Extends at (and_of ds one.lit.word r) w₁ ws₁ one.tally w₂ ws₂ two) e.drivers s₂))
      where
        e : Extended at (or_not (drafted ws t) v s) w ws t w₁ ws₁ one
        e = extended at (or_not (drafted ws t) v s) w ws t w₁ ws₁ one step

        from : Extends at both w₁ ws₁ one.tally w₂ ws₂ two → Extends at both w ws t w₂ ws₂ two
        from (made b q l c d g i j) = made b q l c d (ends_trans e.ends g) (below_trans e.below i) (j ∙ e.long)
        from (table.full q b c d) = table.full q (omega (arith, b, e.long)) (c ∙ e.below.long) (d ∙ e.long)
