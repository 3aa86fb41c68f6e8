-- A search with a stack of tasks, places to enter and to leave, for a program that does something at both events.
use mathlib.Core.Path.{◌≡◌, refl, sym, ◌∙◌, ap, subst}
use mathlib.Core.List.{List, [], ◌∷◌, ◌++◌}
use Prim.Native.Nat.{ℕ, suc, ◌<◌}
use native.Mathlib.Omega.{arith}
use Rattle.laws.specs.Lists.{count, member, over}
use Rattle.laws.specs.Search.{visit, visits, Event, explore, Chain}
use Rattle.laws.specs.Search.Event.{enter, leave}
use Rattle.laws.specs.Search.Chain.{step}
use Rattle.laws.proofs.Tests.{by_test}
use Rattle.laws.proofs.Bags.{member_true, member_false, at_head, here, there}
use Rattle.laws.proofs.Visits.{visit_at, visit_again, visit_new}
use Rattle.laws.proofs.Loops.{on}
use Rattle.laws.proofs.Events.{ins, explore_at, Apart, explore_again, explore_new}

-- places to enter, above other tasks
abbrev pub entries : List ℕ → List Event → List Event
entries [] st = st
entries (o ∷ os) st = enter o ∷ entries os st

-- the places that are open
abbrev pub open' : List Event → List ℕ
open' [] = []
open' (enter u ∷ st) = open' st
open' (leave u ∷ st) = u ∷ open' st

abbrev pub place_of : Event → ℕ
place_of (enter u) = u
place_of (leave u) = u

pub open_entries : (os : List ℕ) (st : List Event) → open' (entries os st) ≡ open' st
open_entries [] st = refl
open_entries (o ∷ os) st = open_entries os st

-- ---- where places lead to smaller ones only
module _ (nx : ℕ → List ℕ) where
  abbrev pub finish : List Event → List ℕ → List ℕ
  finish [] out = out
  finish (enter u ∷ st) out = finish st (visit nx (suc u) out u)
  finish (leave u ∷ st) out = finish st (out ++ (u ∷ []))

  finish_entries : (os : List ℕ) (st : List Event) (out : List ℕ) → finish (entries os st) out ≡ finish st (over (visit_at nx) out os)
  finish_entries [] st out = refl
  finish_entries (o ∷ os) st out = finish_entries os st (visit nx (suc o) out o)

  pub finish_start : (us : List ℕ) → finish (entries us []) [] ≡ visits nx us
  finish_start us = finish_entries us [] []

  -- each task above an open place is below it: so a place to enter is not open
  abbrev pub Nested : List Event → Type 0
  Nested [] = Unit {0}
  Nested (t ∷ st) = ((v : ℕ) → 0 < count v (open' st) → place_of t < v) × Nested st

  pub not_open : (u : ℕ) (st : List Event) → Nested (enter u ∷ st) → count u (open' st) ≡ 0
  not_open u st w = by_test (member u (open' st)) (λ t. absurd (omega (arith, w.0 u (member_true u (open' st) t)))) (λ f. member_false u (open' st) f)

  nested_entries : (os : List ℕ) (st : List Event) → Nested st → ((o v : ℕ) → 0 < count o os → 0 < count v (open' st) → o < v) → Nested (entries os st)
  nested_entries [] st w h = w
  nested_entries (o ∷ os) st w h = ((λ v m. h o v (here o os) (subst (λ (l : List ℕ). 0 < count v l) (open_entries os st) m)), nested_entries os st w (λ o' v m k. h o' v (there o' o os m) k))

  pub nested_start : (us : List ℕ) → Nested (entries us [])
  nested_start us = nested_entries us [] tt (λ o v m k. absurd (omega arith))

  -- the turns: the place is there already, it is new, or what it leads to is done
  module _ (below : (u o : ℕ) → 0 < count o (nx u) → o < u) where
    pub finish_old : (u : ℕ) (st : List Event) (out : List ℕ) → 0 < count u out → finish (enter u ∷ st) out ≡ finish st out
    finish_old u st out m = ap (finish st) (visit_again nx below out u m)

    pub finish_new : (u : ℕ) (st : List Event) (out : List ℕ) → count u out ≡ 0 → finish (enter u ∷ st) out ≡ finish (entries (nx u) (leave u ∷ st)) out
    finish_new u st out n = ap (finish st) (visit_new nx below out u n) ∙ sym (finish_entries (nx u) (leave u ∷ st) out)

    pub finish_leave : (u : ℕ) (st : List Event) (out : List ℕ) → finish (leave u ∷ st) out ≡ finish st (out ++ (u ∷ []))
    finish_leave u st out = refl

    pub nested_new : (u : ℕ) (st : List Event) → Nested (enter u ∷ st) → Nested (entries (nx u) (leave u ∷ st))
    nested_new u st w = nested_entries (nx u) (leave u ∷ st) (w.0, w.1) (λ o v m k. at_head v u (open' st) k
        (λ e. rw e (below u o m)) (λ k'. omega (arith, below u o m, w.0 v k')))

-- ---- where they may lead anywhere
module _ (nx : ℕ → List ℕ) where
  -- each open place leads by a chain of steps to each task above it: so a place to enter that is open lies on a way back
  abbrev pub Leads : List Event → Type 0
  Leads [] = Unit {0}
  Leads (t ∷ st) = ((w : ℕ) → 0 < count w (open' st) → Chain nx w (place_of t)) × Leads st

  pub leads_loop : (u : ℕ) (st : List Event) → Leads (enter u ∷ st) → 0 < count u (open' st) → Chain nx u u
  leads_loop u st l m = l.0 u m

  leads_entries : (os : List ℕ) (st : List Event) → Leads st → ((o w : ℕ) → 0 < count o os → 0 < count w (open' st) → Chain nx w o) → Leads (entries os st)
  leads_entries [] st l h = l
  leads_entries (o ∷ os) st l h = ((λ w m. h o w (here o os) (subst (λ (x : List ℕ). 0 < count w x) (open_entries os st) m)), leads_entries os st l (λ o' w m k. h o' w (there o' o os m) k))

  pub leads_new : (u : ℕ) (st : List Event) → Leads (enter u ∷ st) → Leads (entries (nx u) (leave u ∷ st))
  leads_new u st l = leads_entries (nx u) (leave u ∷ st) (l.0, l.1) (λ o w m k. at_head w u (open' st) k
      (λ e. subst (λ (x : ℕ). Chain nx x o) (sym e) (step m)) (λ k'. on nx o (l.0 w k') m))

  pub leads_start : (us : List ℕ) → Leads (entries us [])
  leads_start us = leads_entries us [] tt (λ o w m k. absurd (omega arith))

  -- what is written once the stack is done, where there are n places
  abbrev pub finish_all : ℕ → List Event → List Event → List Event
  finish_all n [] out = out
  finish_all n (enter u ∷ st) out = finish_all n st (explore nx (suc n) out u)
  finish_all n (leave u ∷ st) out = finish_all n st (out ++ (leave u ∷ []))

  all_entries : (n : ℕ) (os : List ℕ) (st out : List Event) → finish_all n (entries os st) out ≡ finish_all n st (over (explore_at nx n) out os)
  all_entries n [] st out = refl
  all_entries n (o ∷ os) st out = all_entries n os st (explore nx (suc n) out o)

  pub all_start : (n : ℕ) (us : List ℕ) → finish_all n (entries us []) [] ≡ over (explore_at nx n) [] us
  all_start n us = all_entries n us [] []

  module _ (n : ℕ) (closed : (u o : ℕ) → u < n → 0 < count o (nx u) → o < n) where
    pub all_old : (u : ℕ) (st out : List Event) → 0 < ins u out → finish_all n (enter u ∷ st) out ≡ finish_all n st out
    all_old u st out m = ap (finish_all n st) (explore_again nx n out u m)

    pub all_new : (u : ℕ) (st out : List Event) → u < n → Apart n out → ins u out ≡ 0
        → finish_all n (enter u ∷ st) out ≡ finish_all n (entries (nx u) (leave u ∷ st)) (out ++ (enter u ∷ []))
    all_new u st out h a z = ap (finish_all n st) (explore_new nx n closed out u h a z) ∙ sym (all_entries n (nx u) (leave u ∷ st) (out ++ (enter u ∷ [])))

    pub all_leave : (u : ℕ) (st out : List Event) → finish_all n (leave u ∷ st) out ≡ finish_all n st (out ++ (leave u ∷ []))
    all_leave u st out = refl
