-- Several numbers join one after the other.
use mathlib.Core.Path.{◌≡◌, refl, sym, ap, subst, ◌∙◌}
use mathlib.Core.List.{List, []}
use Prim.Native.Nat.{ℕ, ◌+◌, ◌*◌, ◌<◌, ◌≤◌}
use native.Mathlib.Numerals.{add-one}
use native.Mathlib.Omega.{arith}
use lib.ListN.{length, get_or, take}
use lib.Seq.{take_all}
use Rattle.laws.specs.Lists.{over, upto}
use Rattle.laws.specs.Sets.{insert}
use Rattle.laws.specs.Words.{part}
use Rattle.laws.proofs.Folds.{over-take}
use Rattle.laws.proofs.Ranges.{upto_out, length-upto}
use Rattle.laws.proofs.Sets.{insert_new}
use Rattle.laws.proofs.Words.{part_none, part_length}
use Rattle.members.specs.Set.{Within, SetIn, Inserted, InsertedAll, FilledUp}
use Rattle.members.proofs.Frames.{within_none, within_on}

-- ---- the first i of a list have joined
pub record Inserting (list w₀ : List ℕ) (a cap : ℕ) (w : List ℕ) (n i : ℕ) : Type 0 where
  pub inside : i ≤ length list
  pub holds : SetIn w a cap n
  pub members : part w a n ≡ over insert [] (take i list)
  pub kept : Within a (a + 2 * cap) w₀ w
  pub same_length : length w ≡ length w₀

pub insert_begins : (list w : List ℕ) (a cap : ℕ) → SetIn w a cap 0 → Inserting list w a cap w 0 0
insert_begins list w a cap s = record { inside = omega arith; holds = s; members = part_none w a; kept = within_none a (a + 2 * cap) w; same_length = refl }

pub insert_goes_on : (list w₀ : List ℕ) (a cap : ℕ) (w : List ℕ) (n i x : ℕ) (w' : List ℕ) (n' : ℕ) → Inserting list w₀ a cap w n i → i < length list
    → x ≡ get_or list i 0 → Inserted w a cap n x w' n' → Inserting list w₀ a cap w' n' (i + 1)
insert_goes_on list w₀ a cap w n i x w' n' s l e d = record {
  inside = omega arith;
  holds = d.holds;
  members = d.members ∙ (λ k. insert (s.members k) (e k)) ∙ sym (over-take insert [] list i 0 l) ∙ ap (λ (k : ℕ). over insert [] (take k list)) (sym (add-one i));
  kept = within_on a (a + 2 * cap) w₀ w w' s.kept d.kept;
  same_length = d.kept.long ∙ s.same_length;
}

pub insert_ends : (list w₀ : List ℕ) (a cap : ℕ) (w : List ℕ) (n i : ℕ) → Inserting list w₀ a cap w n i → length list ≤ i → InsertedAll list w₀ a cap w n
insert_ends list w₀ a cap w n i s l = record { holds = s.holds; members = s.members ∙ ap (over insert []) (take_all i list l); kept = s.kept }

-- ---- the numbers below i have joined
pub record FillingUp (w₀ : List ℕ) (a cap : ℕ) (w : List ℕ) (n i : ℕ) : Type 0 where
  pub inside : i ≤ cap
  pub count : n ≡ i
  pub room : cap ≤ 16777216
  pub holds : SetIn w a cap n
  pub members : part w a n ≡ upto i
  pub kept : Within a (a + 2 * cap) w₀ w
  pub same_length : length w ≡ length w₀

pub fill_begins : (w : List ℕ) (a cap : ℕ) → SetIn w a cap 0 → FillingUp w a cap w 0 0
fill_begins w a cap s = record { inside = omega arith; count = refl; room = s.room; holds = s; members = part_none w a; kept = within_none a (a + 2 * cap) w; same_length = refl }

pub fill_goes_on : (w₀ : List ℕ) (a cap : ℕ) (w : List ℕ) (n i : ℕ) (w' : List ℕ) (n' : ℕ) → FillingUp w₀ a cap w n i → i < cap
    → Inserted w a cap n i w' n' → FillingUp w₀ a cap w' n' (i + 1)
fill_goes_on w₀ a cap w n i w' n' s l d =
    let e : part w' a n' ≡ upto (i + 1) = d.members ∙ ap (λ (t : List ℕ). insert t i) s.members ∙ insert_new (upto i) i (upto_out i i (omega arith)) ∙ ap upto (sym (add-one i)) in
    record {
      inside = omega arith;
      count = sized w' a cap n' d.holds (i + 1) e;
      room = s.room;
      holds = d.holds;
      members = e;
      kept = within_on a (a + 2 * cap) w₀ w w' s.kept d.kept;
      same_length = d.kept.long ∙ s.same_length;
    }
  where
    sized : (w : List ℕ) (a cap n : ℕ) → SetIn w a cap n → (k : ℕ) → part w a n ≡ upto k → n ≡ k
    sized w a cap n s k e = sym (part_length w a n (omega (arith, s.long, s.few))) ∙ ap length e ∙ length-upto k

pub fill_ends : (w₀ : List ℕ) (a cap : ℕ) (w : List ℕ) (n i : ℕ) → FillingUp w₀ a cap w n i → cap ≤ i → FilledUp w₀ a cap w
fill_ends w₀ a cap w n i s l =
    let e : i ≡ cap = omega (arith, s.inside) in
    let q : n ≡ cap = s.count ∙ e in
    record {
      holds = subst (λ (k : ℕ). SetIn w a cap k) q s.holds;
      members = sym (ap (part w a) q) ∙ s.members ∙ ap upto e;
      kept = s.kept;
    }
