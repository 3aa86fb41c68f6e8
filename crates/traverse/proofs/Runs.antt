-- The visits that are asked: of the roots given, or of the pins from 1 upward.
use mathlib.Core.Path.{◌≡◌, refl, sym, ap, ◌∙◌}
use mathlib.Core.List.{List, [], ◌∷◌, ◌++◌}
use Prim.Native.Nat.{ℕ, ◌+◌, ◌≤◌}
use native.Mathlib.Numerals.{add-one}
use native.Mathlib.Omega.{arith}
use borrow.Author.Tests.{lt-ltb}
use Rattle.laws.specs.Tests.{◌<?◌}
use Rattle.laws.specs.Lists.{over, upto}
use Rattle.laws.proofs.Bags.{keep_append}
use Rattle.laws.proofs.Folds.{over_snoc}
use Rattle.laws.proofs.Visits.{visit_at}
use Rattle.walk.specs.State.{goes, list_of, Stops, Going, Kept, Visited, AllVisited}
use Rattle.walk.proofs.Visits.{kept-none, kept_on, stops_kept}
use Rattle.traverse.specs.Answer.{upward}

upward-more : (p : ℕ) → 1 ≤ p → upward (p + 1) ≡ upward p ++ (p ∷ [])
upward-more p l =
    ap upward (add-one p) ∙ keep_append (λ q. 0 <? q) (upto p) (p ∷ [])
    ∙ ap (λ (s : List ℕ). upward p ++ s) (rw (lt-ltb 0 p l))

-- the pins from 1 up to p are visited
pub record VisitingUp (ws : List ℕ) (m : ℕ) (v : List ℕ) (w : List ℕ) (k p : ℕ) : Type 0 where
  pub going : Going ws m w 0 k
  pub kept : Kept m v w
  pub list : (handed : List ℕ) → Stops v m handed → list_of w m k ≡ over (visit_at (goes ws m handed)) (list_of v m 0) (upward p)

pub up_begins : (ws : List ℕ) (m : ℕ) (w : List ℕ) → Going ws m w 0 0 → VisitingUp ws m w w 0 1
up_begins ws m w g = record { going = g; kept = kept-none m w; list = λ handed st. refl }

pub up_goes_on : (ws : List ℕ) (m : ℕ) (v w : List ℕ) (k p : ℕ) (w' : List ℕ) (k' : ℕ)
    → VisitingUp ws m v w k p → 1 ≤ p → Visited ws m w k p w' k' → VisitingUp ws m v w' k' (p + 1)
up_goes_on ws m v w k p w' k' b l d = record {
  going = d.going;
  kept = kept_on m v w w' b.kept d.kept;
  list = λ handed st.
      d.list handed (stops_kept m v w handed b.kept st)
      ∙ ap (λ (vis : List ℕ). visit_at (goes ws m handed) vis p) (b.list handed st)
      ∙ sym (over_snoc (visit_at (goes ws m handed)) (list_of v m 0) (upward p) p)
      ∙ ap (over (visit_at (goes ws m handed)) (list_of v m 0)) (sym (upward-more p l));
}

pub up_ends : (ws : List ℕ) (m : ℕ) (v w : List ℕ) (k p : ℕ) → VisitingUp ws m v w k p → p ≤ m → m ≤ p → AllVisited ws m (upward m) v 0 w k
up_ends ws m v w k p b l r =
    let e : p ≡ m = omega arith in
    record {
      going = b.going;
      kept = b.kept;
      list = λ handed st. b.list handed st ∙ ap (λ (n : ℕ). over (visit_at (goes ws m handed)) (list_of v m 0) (upward n)) e;
    }
