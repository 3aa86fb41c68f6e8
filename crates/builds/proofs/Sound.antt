-- Driver tables as refusal 12 wants them, and how one driver more keeps them so.
use mathlib.Core.Path.{◌≡◌, refl, sym, ◌∙◌, ap}
use mathlib.Core.List.{List, [], ◌∷◌, ◌++◌}
use Prim.Native.Nat.{ℕ, zero, suc, ◌≤◌, ◌<◌}
use native.Mathlib.Omega.{arith}
use lib.ListN.{length, get_or-eq_default}
use borrow.Author.Tests.{ltb-true, ltb-false}
use Rattle.laws.specs.Tests.{◌<?◌}
use Rattle.laws.proofs.Tests.{by_test}
use Rattle.laws.proofs.Indices.{snoc_length, snoc_kept, snoc_cases}
use Rattle.rules.specs.declared.Edge.{Edge}
use Rattle.rules.specs.declared.Literal.{Literal}
use Rattle.rules.specs.declared.Driver.{Driver}
use Rattle.rules.specs.declared.Driver.TheVariants.{Port, Flag, Dff, Ram, Constant}
use Rattle.rules.specs.Graph.{literal, pin_of, gate, driver_at}
use Rattle.rules.proofs.Tables.{clash}

-- a gate's two literals are told by its driver
pub gate_same : (a b x y : ℕ) → gate a b ≡ gate x y → (a ≡ x) × (b ≡ y)
gate_same a b x y e =
    let p : literal a ≡ literal x = cc in
    let q : literal b ≡ literal y = cc in
    (ap (λ (l : Literal). l.word) p, ap (λ (l : Literal). l.word) q)

-- a gate's operand pins are at least 1 and below k, and the smaller literal is first
abbrev pub Operands : ℕ → ℕ → ℕ → Type 0
Operands k a b = (1 ≤ pin_of a) × (pin_of a < k) × (1 ≤ pin_of b) × (pin_of b < k) × (a ≤ b)

pub record Sound (ds : List Driver) : Type 0 where
  -- pin 0 is the constant, and no other is
  pub start : 0 < length ds
  pub first : driver_at ds 0 ≡ Constant
  pub rest : (u : ℕ) → 0 < u → u < length ds → driver_at ds u ≡ Constant → ⊥
  pub gates : (u a b : ℕ) → driver_at ds u ≡ gate a b → Operands u a b
  -- no pair twice, no flag twice
  pub pairs : (u w a b : ℕ) → driver_at ds u ≡ gate a b → driver_at ds w ≡ gate a b → u ≡ w
  pub flags : (u w q : ℕ) (e : Edge) → driver_at ds u ≡ Flag q e → driver_at ds w ≡ Flag q e → u ≡ w

-- only the constant stands alone
pub sound_start : Sound (Constant ∷ [])
sound_start = record {
  start = omega arith;
  first = refl;
  rest = λ u z h e. omega arith;
  gates = λ u a b e. other u (gate a b) e (λ e'. clash (cc));
  pairs = λ u w a b e. other u (gate a b) e (λ e'. clash (cc));
  flags = λ u w q d e. other u (Flag q d) e (λ e'. clash (cc));
}
  where
    other : {P : Type 0} (u : ℕ) (d : Driver) → driver_at (Constant ∷ []) u ≡ d → (Constant ≡ d → ⊥) → P
    other zero d e f = absurd (f e)
    other (suc u) d e f = absurd (f e)

-- a driver that is none of the old ones
abbrev pub Fresh : List Driver → Driver → Type 0
Fresh ds d = (w : ℕ) → w < length ds → driver_at ds w ≡ d → ⊥

-- a driver that may come next
pub record Fits (ds : List Driver) (d : Driver) : Type 0 where
  pub no_constant : d ≡ Constant → ⊥
  pub gate_fits : (a b : ℕ) → d ≡ gate a b → Operands (length ds) a b
  pub gate_fresh : (a b : ℕ) → d ≡ gate a b → Fresh ds d
  pub flag_fresh : (q : ℕ) (e : Edge) → d ≡ Flag q e → Fresh ds d

pub port_may : (ds : List Driver) (q : ℕ) → Fits ds (Port q)
port_may ds q = record { no_constant = λ e. clash (cc); gate_fits = λ a b e. clash (cc); gate_fresh = λ a b e. clash (cc); flag_fresh = λ p d e. clash (cc) }

pub dff_may : (ds : List Driver) (c : ℕ) → Fits ds (Dff c)
dff_may ds c = record { no_constant = λ e. clash (cc); gate_fits = λ a b e. clash (cc); gate_fresh = λ a b e. clash (cc); flag_fresh = λ p d e. clash (cc) }

pub ram_may : (ds : List Driver) (c : ℕ) → Fits ds (Ram c)
ram_may ds c = record { no_constant = λ e. clash (cc); gate_fits = λ a b e. clash (cc); gate_fresh = λ a b e. clash (cc); flag_fresh = λ p d e. clash (cc) }

-- what stood at one place does so in a longer table
once : (ds : List Driver) (d x : Driver) → ((u w : ℕ) → driver_at ds u ≡ x → driver_at ds w ≡ x → u ≡ w) → (x ≡ Constant → ⊥) → (d ≡ x → Fresh ds d)
    → (u w : ℕ) → driver_at (ds ++ (d ∷ [])) u ≡ x → driver_at (ds ++ (d ∷ [])) w ≡ x → u ≡ w
once ds d x old notc fresh u w = snoc_cases ds d Constant (λ c. c ≡ x → driver_at (ds ++ (d ∷ [])) w ≡ x → u ≡ w) u
    (λ hu eu. snoc_cases ds d Constant (λ c. c ≡ x → u ≡ w) w
    (λ hw ew. old u w eu ew)
    (λ hw ew. absurd (fresh ew u hu (eu ∙ sym ew)))
    (λ hw ew. absurd (notc (sym ew))))
    (λ hu eu. snoc_cases ds d Constant (λ c. c ≡ x → u ≡ w) w
    (λ hw ew. absurd (fresh eu w hw (ew ∙ sym eu)))
    (λ hw ew. hu ∙ sym hw)
    (λ hw ew. absurd (notc (sym ew))))
    (λ hu eu ew. absurd (notc (sym eu)))

pub snoc_sound : (ds : List Driver) (d : Driver) → Sound ds → Fits ds d → Sound (ds ++ (d ∷ []))
snoc_sound ds d w f = record {
  start = omega (arith, snoc_length ds d d);
  first = snoc_kept ds d Constant 0 w.start ∙ w.first;
  rest = λ u z. snoc_cases ds d Constant (λ c. u < length (ds ++ (d ∷ [])) → c ≡ Constant → ⊥) u
      (λ h k. w.rest u z h) (λ h k. f.no_constant) (λ h k e. omega (arith, snoc_length ds d d));
  gates = λ u a b. snoc_cases ds d Constant (λ c. c ≡ gate a b → Operands u a b) u
      (λ h e. w.gates u a b e)
      (λ h e. let g = f.gate_fits a b e in (g.0, omega (arith, g.1), g.2, omega (arith, g.3), g.4))
      (λ h e. clash (cc));
  pairs = λ u v a b. once ds d (gate a b) (λ u' v'. w.pairs u' v' a b) (λ e. clash (cc)) (λ e. f.gate_fresh a b e) u v;
  flags = λ u v q e. once ds d (Flag q e) (λ u' v'. w.flags u' v' q e) (λ e'. clash (cc)) (λ e'. f.flag_fresh q e e') u v;
}

-- a driver other than the constant stands below the length, and above 0
pub driver_inside : (ds : List Driver) (u : ℕ) (d : Driver) → driver_at ds u ≡ d → (d ≡ Constant → ⊥) → u < length ds
driver_inside ds u d e notc = by_test (u <? length ds) (λ t. ltb-true u (length ds) t)
    (λ f. absurd (notc (sym e ∙ get_or-eq_default ds Constant (ltb-false u (length ds) f))))

pub driver_above : (ds : List Driver) → Sound ds → (u : ℕ) (d : Driver) → driver_at ds u ≡ d → (d ≡ Constant → ⊥) → 0 < u
driver_above ds w zero d e notc = absurd (notc (sym e ∙ w.first))
driver_above ds w (suc u) d e notc = omega arith
