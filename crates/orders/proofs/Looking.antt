-- One look at the visits of a pin, in the code's shape.
use mathlib.Core.Path.{◌≡◌, refl, sym, ◌∙◌, ap, subst}
use mathlib.Core.List.{List, [], ◌∷◌}
use Prim.Native.Nat.{ℕ, zero, suc, ◌+◌, ◌-◌, ◌<◌, ◌≤◌}
use native.Mathlib.Omega.{arith}
use lib.ListN.{length, get_or, take, drop}
use Rattle.laws.specs.Lists.{count}
use Rattle.laws.proofs.Tests.{by_test}
use Rattle.laws.proofs.Bags.{length-keep}
use Rattle.laws.proofs.Indices.{at_in}
use Rattle.rules.specs.Netlist.{Netlist, size, pins_of, name_of}
use Rattle.rules.specs.Build.{Role, tied, wire, out_port, in_port, and_out, inv_out, buf_out, gate_out, dff_out, ram_out, nothing, role, visits_of, next}
use Rattle.rules.proofs.Tables.{clash}
use Rattle.rules.proofs.Roles.{next_closed}
use Rattle.roles.specs.Reading.{tables, Fits, entry_of}
use Rattle.roles.proofs.Entries.{entry_first, entry_next, entry_none}
use Rattle.orders.specs.State.{goes_to, AllLeft, FirstNew, OnStack}
use borrow.Author.Tests.{ltb-true, ltb-false}
use Rattle.std.specs.Prelude.{Some, None, ◌==◌}
use Rattle.rules.specs.declared.Refusal.TheVariants.{Loop}
use Rattle.laws.specs.Tests.{◌<?◌}
use mathlib.Core.Bool.{◌||◌}

-- ---- entries
at_entry : (l : List ℕ) (k q : ℕ) → Some q ≡ entry_of l k → (k < length l) × (q ≡ get_or l k 0)
at_entry [] k q e = let z : Some q ≡ None = e ∙ entry_none k in clash (cc)
at_entry (x ∷ l) zero q e = let z : Some q ≡ Some x = e ∙ entry_first x l in (omega arith, cc)
at_entry (x ∷ l) (suc k) q e = let i = at_entry l k q (e ∙ entry_next x l k) in (omega (arith, i.0), i.1)

past_entries : (l : List ℕ) (k : ℕ) → None ≡ entry_of l k → length l ≤ k
past_entries [] k e = omega arith
past_entries (x ∷ l) zero e = let z : None ≡ Some x = e ∙ entry_first x l in clash (cc)
past_entries (x ∷ l) (suc k) e = omega (arith, past_entries l k (e ∙ entry_next x l k))

-- ---- where visits go
module _ (kinds starts list pins nets : List ℕ) (f : Fits (tables kinds starts list pins nets)) where
  abbrev n : Netlist
  n = tables kinds starts list pins nets

  pub goes_closed : (u o : ℕ) → u < length list → 0 < count o (goes_to (tables kinds starts list pins nets) u) → o < length list
  unfolding goes_to
  goes_closed u o h m = next_closed n f.accepted u o h m

take_short : {A : Type 0} (k : ℕ) (l : List A) → length (take k l) ≤ length l
take_short zero l = omega arith
take_short (suc k) [] = omega arith
take_short (suc k) (x ∷ l) = omega (arith, take_short k l)

drop_short : {A : Type 0} (k : ℕ) (l : List A) → length (drop k l) ≤ length l
drop_short zero l = omega arith
drop_short (suc k) [] = omega arith
drop_short (suc k) (x ∷ l) = omega (arith, drop_short k l)

few_of : (n : Netlist) (r : Role) → length (visits_of n r) ≤ size n + 2
few_of n (tied b) = omega arith
few_of n (wire q) = omega arith
few_of n (out_port q) = omega arith
few_of n in_port = omega arith
few_of n (and_out x y z a b) = omega arith
few_of n (inv_out a) = omega arith
few_of n (buf_out a) = omega arith
few_of n (gate_out cp e) = omega arith
few_of n (dff_out c) = omega (
  arith,
  length-keep (λ p. (name_of n p == 6) || (name_of n p == 7)) (pins_of n c),
  take_short (get_or n.starts (c + 1) 0 - get_or n.starts c 0) (drop (get_or n.starts c 0) n.list),
  drop_short (get_or n.starts c 0) n.list,
)
few_of n (ram_out c b) = omega arith
few_of n nothing = omega arith

visits_few : (kinds starts list pins nets : List ℕ) (p : ℕ) → length (goes_to (tables kinds starts list pins nets) p) ≤ length list + 2
unfolding goes_to
visits_few kinds starts list pins nets p = few_of (tables kinds starts list pins nets) (role (tables kinds starts list pins nets) p)

-- ---- the look along the places: all before were left
pub record Looking (l w : List ℕ) (bound k : ℕ) : Type 0 where
  pub few : length l ≤ bound
  pub near : k ≤ bound
  pub passed : (j : ℕ) → j < k → 2 ≤ get_or w (get_or l j 0) 0

pub looking_begins : (kinds starts list pins nets w : List ℕ) (p : ℕ) → Looking (goes_to (tables kinds starts list pins nets) p) w (length list + 2) 0
looking_begins kinds starts list pins nets w p = record {
  few = visits_few kinds starts list pins nets p;
  near = omega arith;
  passed = λ j l. absurd (omega arith);
}

module _ (kinds starts list pins nets w : List ℕ) (p k : ℕ) (s : Looking (goes_to (tables kinds starts list pins nets) p) w (length list + 2) k) where
  abbrev places : List ℕ
  places = goes_to (tables kinds starts list pins nets) p

  pub look_past : None ≡ entry_of (next (tables kinds starts list pins nets) p) k → AllLeft (goes_to (tables kinds starts list pins nets) p) w
  unfolding goes_to
  look_past e = record { left = λ j b. s.passed j (omega (arith, b, past_entries (next (tables kinds starts list pins nets) p) k e)) }

  module _ (q : ℕ) (e : Some q ≡ entry_of (next (tables kinds starts list pins nets) p) k) where
    there : (k < length places) × (q ≡ get_or places k 0)
    unfolding goes_to
    there = at_entry (next (tables kinds starts list pins nets) p) k q e

    pub look_inside : Fits (tables kinds starts list pins nets) → p < length list → length list ≤ length w → q < length w
    look_inside f l b = omega (arith, goes_closed kinds starts list pins nets f p q l (subst (λ (x : ℕ). 0 < count x places) (sym there.1) (at_in places k there.0)), b)

    pub look_enters : get_or w q 0 ≡ 0 → FirstNew (goes_to (tables kinds starts list pins nets) p) w q
    look_enters z = record { place = k; inside = there.0; pin = there.1; unmarked = z; passed = s.passed }

    pub look_loops : get_or w q 0 ≡ 1 → OnStack (goes_to (tables kinds starts list pins nets) p) w Loop
    look_loops z = record { refusal = refl; place = k; inside = there.0; open_there = ap (λ (x : ℕ). get_or w x 0) (sym there.1) ∙ z }

    pub look_falls : length (goes_to (tables kinds starts list pins nets) p) - (k + 1) < length (goes_to (tables kinds starts list pins nets) p) - k
    look_falls = omega (arith, there.0)

    pub look_goes_on : (get_or w q 0 ≡ 0 → ⊥) → (get_or w q 0 ≡ 1 → ⊥) → Looking (goes_to (tables kinds starts list pins nets) p) w (length list + 2) (k + 1)
    look_goes_on a b = record {
      few = s.few;
      near = omega (arith, there.0, s.few);
      passed = λ j c. by_test (j <? k) (λ y. s.passed j (ltb-true j k y))
          (λ f. let i : j ≡ k = omega (arith, c, ltb-false j k f) in
          let x : get_or places j 0 ≡ q = ap (λ (y : ℕ). get_or places y 0) i ∙ sym there.1 in
          subst (λ (y : ℕ). 2 ≤ get_or w y 0) (sym x) (omega (arith, a, b)));
    }
