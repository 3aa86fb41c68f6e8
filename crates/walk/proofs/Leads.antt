-- Where a walk goes from a pin, by the words of its driver and its stop.
use mathlib.Core.Path.{◌≡◌, refl, sym, ap, subst, ◌∙◌}
use mathlib.Core.Bool.{true, false, ◌&&◌}
use mathlib.Core.List.{List, [], ◌∷◌}
use Prim.Native.Nat.{ℕ, zero, suc, ◌+◌, ◌-◌, ◌*◌, ◌<◌, ◌≤◌}
use native.Mathlib.Omega.{arith}
use borrow.Author.Tests.{eqb-true, eqb-false, ne_eqb, leb-true, ltb-true, ltb-false}
use lib.ListN.{get_or}
use Rattle.std.specs.Prelude.{Option, Some, if◌then◌else◌, ◌==◌}
use Rattle.laws.specs.Tests.{◌<?◌, ◌≤?◌}
use Rattle.laws.specs.Lists.{count, member}
use Rattle.laws.proofs.Tests.{by_test, and_l, and_r, if_true, if_false}
use Rattle.laws.proofs.Bags.{at_head}
use Rattle.laws.proofs.Ranges.{map-upto, map_past, of_upto}
use Rattle.rules.specs.declared.Driver.{Driver}
use Rattle.rules.specs.declared.Driver.TheVariants.{Port, Dff, Ram, Constant}
use Rattle.rules.specs.Graph.{Graph, gate, operands, driver_at}
use Rattle.rules.specs.Tables.{decode, decode_at, unused, flag_in, driver_or, drivers_in}
use Rattle.rules.specs.Refusals.{operand_fits, driver_fits, drivers_fit}
use Rattle.rules.specs.Stages.{back}
use Rattle.walk.specs.State.{goes, tag_of, first_of, second_of, Operands}

-- ---- three words that are no gate's lead nowhere
abbrev leads : Option Driver → List ℕ
leads d = operands (driver_or d)

unused_leads : (b : ℕ) (d : Driver) → operands d ≡ [] → leads (unused b d) ≡ []
unused_leads b d e = by_test (b == 0) (λ t. rw t e) (λ f. rw f)

flag_leads : (a b : ℕ) → leads (flag_in a b) ≡ []
flag_leads a b = by_test (b == 0) (λ t. rw t) (λ f. by_test (b == 1) (λ t. rw (f, t)) (λ g. rw (f, g)))

constant_leads : (a b : ℕ) → leads (decode 0 a b) ≡ []
constant_leads a b = by_test (a == 0) (λ t. rw t (unused_leads b Constant refl)) (λ f. rw f)

past_leads : (t a b : ℕ) → leads (decode (suc (suc (suc (suc (suc (suc t)))))) a b) ≡ []
past_leads t a b =
    rw (
      ne_eqb s 0 (λ z. omega (arith, z)),
      ne_eqb s 1 (λ z. omega (arith, z)),
      ne_eqb s 2 (λ z. omega (arith, z)),
      ne_eqb s 3 (λ z. omega (arith, z)),
      ne_eqb s 4 (λ z. omega (arith, z)),
      ne_eqb s 5 (λ z. omega (arith, z)),
    )
  where
    s : ℕ
    s = suc (suc (suc (suc (suc (suc t)))))

no_gate : (t a b : ℕ) → (t ≡ 1 → ⊥) → operands (driver_or (decode t a b)) ≡ []
no_gate zero a b n = constant_leads a b
no_gate (suc zero) a b n = absurd (n refl)
no_gate (suc (suc zero)) a b n = unused_leads b (Port a) refl
no_gate (suc (suc (suc zero))) a b n = flag_leads a b
no_gate (suc (suc (suc (suc zero)))) a b n = unused_leads b (Dff a) refl
no_gate (suc (suc (suc (suc (suc zero))))) a b n = unused_leads b (Ram a) refl
no_gate (suc (suc (suc (suc (suc (suc t)))))) a b n = past_leads t a b

-- those of a gate say it
pub says-gate : (ws : List ℕ) (p : ℕ) → tag_of ws p ≡ 1 → decode_at ws p ≡ Some (gate (get_or ws (3 * p + 1) 0) (get_or ws (3 * p + 2) 0))
unfolding decode_at
says-gate ws p e = ap (λ (t : ℕ). decode t (get_or ws (3 * p + 1) 0) (get_or ws (3 * p + 2) 0)) e

pub says_none : (ws : List ℕ) (p : ℕ) → (tag_of ws p ≡ 1 → ⊥) → operands (driver_or (decode_at ws p)) ≡ []
unfolding decode_at
says_none ws p n = no_gate (get_or ws (3 * p) 0) (get_or ws (3 * p + 1) 0) (get_or ws (3 * p + 2) 0) n

module _ (ws : List ℕ) (m : ℕ) (low : 1 ≤ m) where
  m_is : m - 1 + 1 ≡ m
  m_is = omega arith

  pub driver_in : (u : ℕ) → u < m → driver_at (drivers_in ws (m - 1)) u ≡ driver_or (decode_at ws u)
  driver_in u l = map-upto (λ v. driver_or (decode_at ws v)) Constant (m - 1 + 1) u (omega arith)

  pub driver_past : (u : ℕ) → m ≤ u → driver_at (drivers_in ws (m - 1)) u ≡ Constant
  driver_past u l = map_past (λ v. driver_or (decode_at ws v)) Constant (m - 1 + 1) u (omega arith)

  module _ (handed : List ℕ) (u : ℕ) where
    pub goes_stop : member u handed ≡ true → goes ws m handed u ≡ []
    goes_stop e = if_true (member u handed) [] (operands (driver_at (drivers_in ws (m - 1)) u)) e

    goes_on : member u handed ≡ false → goes ws m handed u ≡ operands (driver_at (drivers_in ws (m - 1)) u)
    goes_on e = if_false (member u handed) [] (operands (driver_at (drivers_in ws (m - 1)) u)) e

    pub goes_source : u < m → (tag_of ws u ≡ 1 → ⊥) → goes ws m handed u ≡ []
    goes_source l n = by_test (member u handed) goes_stop (λ f. goes_on f ∙ ap operands (driver_in u l) ∙ says_none ws u n)

    pub goes_gate : u < m → member u handed ≡ false → tag_of ws u ≡ 1 → goes ws m handed u ≡ first_of ws u ∷ second_of ws u ∷ []
    goes_gate l f e = goes_on f ∙ ap operands (driver_in u l ∙ ap driver_or (says-gate ws u e))

    pub goes_past : m ≤ u → goes ws m handed u ≡ []
    goes_past l = by_test (member u handed) goes_stop (λ f. goes_on f ∙ ap operands (driver_past u l))

  -- ---- where the drivers fit, operands are smaller and none is pin 0
  module _ (fits : drivers_fit ws (m - 1) ≡ true) where
    gate_fits : (u : ℕ) → u < m → tag_of ws u ≡ 1
        → (operand_fits u (get_or ws (3 * u + 1) 0) && operand_fits u (get_or ws (3 * u + 2) 0) && (get_or ws (3 * u + 1) 0 ≤? get_or ws (3 * u + 2) 0)) ≡ true
    gate_fits u l e = sym (ap (driver_fits u) (says-gate ws u e)) ∙ of_upto (λ v. driver_fits v (decode_at ws v)) (m - 1 + 1) u fits (omega arith)

    both_fit : (u : ℕ) → u < m → tag_of ws u ≡ 1 → (operand_fits u (get_or ws (3 * u + 1) 0) && operand_fits u (get_or ws (3 * u + 2) 0)) ≡ true
    both_fit u l e = and_l (operand_fits u (get_or ws (3 * u + 1) 0) && operand_fits u (get_or ws (3 * u + 2) 0)) (get_or ws (3 * u + 1) 0 ≤? get_or ws (3 * u + 2) 0)
        (gate_fits u l e)

    first_fits : (u : ℕ) → u < m → tag_of ws u ≡ 1 → operand_fits u (get_or ws (3 * u + 1) 0) ≡ true
    first_fits u l e = and_l (operand_fits u (get_or ws (3 * u + 1) 0)) (operand_fits u (get_or ws (3 * u + 2) 0)) (both_fit u l e)

    second_fits : (u : ℕ) → u < m → tag_of ws u ≡ 1 → operand_fits u (get_or ws (3 * u + 2) 0) ≡ true
    second_fits u l e = and_r (operand_fits u (get_or ws (3 * u + 1) 0)) (operand_fits u (get_or ws (3 * u + 2) 0)) (both_fit u l e)

    pub operands_fit : Operands ws m
    operands_fit = record {
      first_low = λ u l e. leb-true 1 (first_of ws u) (and_l (1 ≤? first_of ws u) (first_of ws u <? u) (first_fits u l e));
      first_less = λ u l e. ltb-true (first_of ws u) u (and_r (1 ≤? first_of ws u) (first_of ws u <? u) (first_fits u l e));
      second_low = λ u l e. leb-true 1 (second_of ws u) (and_l (1 ≤? second_of ws u) (second_of ws u <? u) (second_fits u l e));
      second_less = λ u l e. ltb-true (second_of ws u) u (and_r (1 ≤? second_of ws u) (second_of ws u <? u) (second_fits u l e));
    }

    -- so a walk leads to smaller pins only
    pub goes_below : (handed : List ℕ) (u o : ℕ) → 0 < count o (goes ws m handed u) → o < u
    goes_below handed u o c = by_test (u <? m)
        (λ t. inner (ltb-true u m t))
        (λ f. none (goes_past handed u (ltb-false u m f)))
      where
        none : goes ws m handed u ≡ [] → o < u
        none e = absurd (omega (arith, subst (λ (l : List ℕ). 0 < count o l) e c))

        two : u < m → tag_of ws u ≡ 1 → member u handed ≡ false → o < u
        two l e f = at_head o (first_of ws u) (second_of ws u ∷ []) (subst (λ (s : List ℕ). 0 < count o s) (goes_gate handed u l f e) c)
            (λ q. omega (arith, operands_fit.first_less u l e))
            (λ c'. at_head o (second_of ws u) [] c' (λ q. omega (arith, operands_fit.second_less u l e)) (λ z. absurd (omega arith)))

        inner : u < m → o < u
        inner l = by_test (member u handed)
            (λ t. none (goes_stop handed u t))
            (λ f. by_test (tag_of ws u == 1)
            (λ t. two l (eqb-true (tag_of ws u) 1 t) f)
            (λ g. none (goes_source handed u l (eqb-false (tag_of ws u) 1 g))))

-- a walk over a table of pins + 1 rows goes as the rules say, of any graph that has its drivers
pub goes_back : (ws : List ℕ) (pins : ℕ) (handed : List ℕ) (g : Graph) → g.drivers ≡ drivers_in ws pins → goes ws (pins + 1) handed ≡ back g handed
goes_back ws pins handed g e =
    let q : pins + 1 - 1 ≡ pins = omega arith in
    let d : drivers_in ws (pins + 1 - 1) ≡ g.drivers = ap (drivers_in ws) q ∙ sym e in
    λ i u. if member u handed then [] else operands (driver_at (d i) u)
