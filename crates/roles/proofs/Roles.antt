-- Roles and visits, in the code's shape.
use mathlib.Core.Path.{◌≡◌, refl, sym, ◌∙◌, ap, ap₂}
use mathlib.Core.Logic.{◌⊎◌, inl, inr}
use mathlib.Core.Bool.{Bool, true, false}
use mathlib.Core.List.{List, [], ◌∷◌}
use Prim.Native.Nat.{ℕ, zero, suc, ◌+◌, ◌-◌, ◌*◌, ◌/◌, ◌%◌, ◌<◌}
use native.Mathlib.Omega.{arith}
use lib.ListN.{length, get_or}
use borrow.Author.Tests.{eq-eqb, ne_eqb}
use Rattle.std.specs.Prelude.{Option, Some, None, ◌==◌}
use Rattle.std.specs.Option.{unwrap_or}
use Rattle.laws.specs.Tests.{one}
use Rattle.laws.specs.Lists.{keep}
use Rattle.laws.proofs.Tests.{by_test}
use Rattle.rules.specs.Netlist.{Netlist, Kind, top, and2, inv, buf, dff, clock_gate, ram, unfit, cell_of, kind_of, named, pin_named}
use Rattle.rules.specs.Build.{Role, and_out, in_role, out_role, role, visits_of, next}
use Rattle.rules.proofs.Roles.{out_is, in_is, dff_words}
use Rattle.kinds.specs.Slots.{kind_word}
use Rattle.roles.specs.declared.PinRole.{PinRole}
use Rattle.roles.specs.declared.PinRole.TheVariants.{Tied, Wire, OutPort, InPort, AndOut, InvOut, BufOut, GateOut, DffOut, RamOut, Nothing}
use Rattle.roles.specs.Reading.{tables, Fits, either_in, entry_of, cell_pins, kind_at, and_as, says}
use Rattle.roles.proofs.Entries.{entry_first, entry_next, entry_none}
use Rattle.roles.proofs.Fitting.{cell_inside}

-- ---- the first pin with a name
-- the same name twice is that name
pub either_same : (pins : List ℕ) (m : ℕ) (l : List ℕ) → either_in pins m m l ≡ keep (λ p. get_or pins (5 * p + 1) 0 == m) l
either_same pins m [] = refl
either_same pins m (x ∷ l) = by_test (get_or pins (5 * x + 1) 0 == m)
    (λ t. rw t (ap (λ (s : List ℕ). x ∷ s) (either_same pins m l)))
    (λ f. rw f (either_same pins m l))

first_of : (l : List ℕ) → unwrap_or (entry_of l 0) 0 ≡ get_or l 0 0
unfolding entry_of
first_of [] = refl
first_of (x ∷ l) = refl

pub named_first : (starts list pins : List ℕ) (c m : ℕ) (e : Option ℕ) → e ≡ entry_of (either_in pins m m (cell_pins starts list c)) 0
    → (r : ℕ) → r ≡ unwrap_or e 0 → r ≡ pin_named (tables [] starts list pins []) c m
named_first starts list pins c m e h r o =
    o ∙ ap (λ (o : Option ℕ). unwrap_or o 0) (h ∙ ap (λ (l : List ℕ). entry_of l 0) (either_same pins m (cell_pins starts list c)))
    ∙ first_of (named (tables [] starts list pins []) c m)

-- ---- the digits of an AND2
abbrev bits : ℕ → ℕ → ℕ → Role
bits d a b = and_out (d % 2 == 1) (d / 2 % 2 == 1) (d / 4 == 1) a b

told_by : (x y z : Bool) (a b : ℕ) → bits (one x + 2 * one y + 4 * one z) a b ≡ and_out x y z a b
told_by true true true a b = refl
told_by true true false a b = refl
told_by true false true a b = refl
told_by true false false a b = refl
told_by false true true a b = refl
told_by false true false a b = refl
told_by false false true a b = refl
told_by false false false a b = refl

pub and_told : (k d a b : ℕ) → d ≡ kind_word k 31 → 0 < k → k < 6 → and_out (d % 2 == 1) (d / 2 % 2 == 1) (d / 4 == 1) a b ≡ and_as (kind_at k) a b
and_told zero d a b e p l = absurd (omega arith)
and_told (suc zero) d a b e p l = rw e
and_told (suc (suc zero)) d a b e p l = rw e
and_told (suc (suc (suc zero))) d a b e p l = rw e
and_told (suc (suc (suc (suc zero)))) d a b e p l = rw e
and_told (suc (suc (suc (suc (suc zero))))) d a b e p l = rw e
and_told (suc (suc (suc (suc (suc (suc k)))))) d a b e p l = absurd (omega arith)

-- ---- a pin
-- an out pin's role does not read the nets
no_nets : (kinds starts list pins nets : List ℕ) (c p : ℕ) (k : Kind) → out_role (tables kinds starts list pins []) c p k ≡ out_role (tables kinds starts list pins nets) c p k
no_nets kinds starts list pins nets c p top = refl
no_nets kinds starts list pins nets c p (and2 x y z) = refl
no_nets kinds starts list pins nets c p inv = refl
no_nets kinds starts list pins nets c p buf = refl
no_nets kinds starts list pins nets c p dff = refl
no_nets kinds starts list pins nets c p clock_gate = refl
no_nets kinds starts list pins nets c p ram = refl
no_nets kinds starts list pins nets c p unfit = refl

module _ (kinds starts list pins nets : List ℕ) (p c d : ℕ) (ec : c ≡ get_or pins (5 * p + 0) 0) (ed : d ≡ get_or pins (5 * p + 3) 0) where
  abbrev whole : Netlist
  whole = tables kinds starts list pins nets

  pub role_out : d ≡ 1 → (r : PinRole) → says r ≡ out_role (tables kinds starts list pins []) c p (kind_at (get_or kinds c 0)) → says r ≡ role (tables kinds starts list pins nets) p
  role_out t r e = e ∙ no_nets kinds starts list pins nets c p (kind_at (get_or kinds c 0)) ∙ ap (λ (x : ℕ). out_role whole x p (kind_at (get_or kinds x 0))) ec ∙ sym (out_is whole p (kind_of whole (cell_of whole p)) (eq-eqb (get_or pins (5 * p + 3) 0) 1 (sym ed ∙ t)) refl)

  pub role_in : (d ≡ 1 → ⊥) → (t : ℕ) → t ≡ get_or pins (5 * p + 4) 0 → (r : PinRole) → says r ≡ in_role (c == 0) (get_or nets t 0) → says r ≡ role (tables kinds starts list pins nets) p
  role_in m t et r e = e ∙ ap₂ (λ (x : ℕ) (y : ℕ). in_role (x == 0) (get_or nets y 0)) ec et ∙ sym (in_is whole p (ne_eqb (get_or pins (5 * p + 3) 0) 1 (λ q. m (ed ∙ q))))

-- ---- entries of short lists
module _ (x k : ℕ) where
  pub one_first : k ≡ 0 → Some x ≡ entry_of (x ∷ []) k
  one_first e = sym (ap (entry_of (x ∷ [])) e ∙ entry_first x [])

  one_past : (j : ℕ) → k ≡ suc j → None ≡ entry_of (x ∷ []) k
  one_past j e = sym (ap (entry_of (x ∷ [])) e ∙ entry_next x [] j ∙ entry_none j)

  pub one_none : (k ≡ 0 → ⊥) → None ≡ entry_of (x ∷ []) k
  one_none m = one_past (k - 1) (omega (arith, m))

module _ (x y k : ℕ) where
  pub two_first : k ≡ 0 → Some x ≡ entry_of (x ∷ y ∷ []) k
  two_first e = sym (ap (entry_of (x ∷ y ∷ [])) e ∙ entry_first x (y ∷ []))

  pub two_second : k ≡ 1 → Some y ≡ entry_of (x ∷ y ∷ []) k
  two_second e = sym (ap (entry_of (x ∷ y ∷ [])) e ∙ entry_next x (y ∷ []) 0 ∙ entry_first y [])

  pub two_none : (k ≡ 0 → ⊥) → (k ≡ 1 → ⊥) → None ≡ entry_of (x ∷ y ∷ []) k
  two_none m m' = let e : k ≡ suc (suc (k - 2)) = omega (arith, m, m') in
      sym (ap (entry_of (x ∷ y ∷ [])) e ∙ entry_next x (y ∷ []) (suc (k - 2)) ∙ entry_next y [] (k - 2) ∙ entry_none (k - 2))

-- ---- visits
module _ (kinds starts list pins nets : List ℕ) (p k : ℕ) (what : PinRole) (e : says what ≡ role (tables kinds starts list pins nets) p) where
  abbrev m : Netlist
  m = tables kinds starts list pins nets

  on : (w : PinRole) → what ≡ w → (r : Option ℕ) → r ≡ entry_of (visits_of m (says w)) k → r ≡ entry_of (next m p) k
  on w ew r er = er ∙ ap (λ (x : Role). entry_of (visits_of m x) k) (sym (ap says ew) ∙ e)

  pub visit_none : ((b : Bool) × (what ≡ Tied b)) ⊎ ((what ≡ InPort) ⊎ (((c : ℕ) × (b : ℕ) × (what ≡ RamOut c b)) ⊎ (what ≡ Nothing)))
      → None ≡ entry_of (next (tables kinds starts list pins nets) p) k
  visit_none (inl (b, ew)) = on (Tied b) ew None (sym (entry_none k))
  visit_none (inr (inl ew)) = on InPort ew None (sym (entry_none k))
  visit_none (inr (inr (inl (c, b, ew)))) = on (RamOut c b) ew None (sym (entry_none k))
  visit_none (inr (inr (inr ew))) = on Nothing ew None (sym (entry_none k))

  module _ (r : Option ℕ) (q : ℕ) (er : r ≡ entry_of (q ∷ []) k) where
    pub visit_driver : (what ≡ Wire q) ⊎ (what ≡ OutPort q) → r ≡ entry_of (next (tables kinds starts list pins nets) p) k
    visit_driver (inl ew) = on (Wire q) ew r er
    visit_driver (inr ew) = on (OutPort q) ew r er

    pub visit_input : (what ≡ InvOut q) ⊎ (what ≡ BufOut q) → r ≡ entry_of (next (tables kinds starts list pins nets) p) k
    visit_input (inl ew) = on (InvOut q) ew r er
    visit_input (inr ew) = on (BufOut q) ew r er

  module _ (r : Option ℕ) (a b : ℕ) (er : r ≡ entry_of (a ∷ b ∷ []) k) where
    pub visit_and : (x y z : Bool) → what ≡ AndOut x y z a b → r ≡ entry_of (next (tables kinds starts list pins nets) p) k
    visit_and x y z ew = on (AndOut x y z a b) ew r er

    pub visit-gate : what ≡ GateOut a b → r ≡ entry_of (next (tables kinds starts list pins nets) p) k
    visit-gate ew = on (GateOut a b) ew r er

  module _ (c : ℕ) (ew : what ≡ DffOut c) where
    pub visit_flop : (r : Option ℕ) → r ≡ entry_of (either_in pins 6 7 (cell_pins starts list c)) k → r ≡ entry_of (next (tables kinds starts list pins nets) p) k
    visit_flop r er = on (DffOut c) ew r er

    pub flop_cell : Fits (tables kinds starts list pins nets) → p < length list → c + 1 < length starts
    flop_cell f l =
        let w = dff_words m p c (sym e ∙ ap says ew) in
        omega (arith, cell_inside kinds starts list pins nets f p l c (sym w.2), f.starts_long)
