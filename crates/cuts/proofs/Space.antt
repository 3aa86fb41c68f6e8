-- The set as a program holds it: each pin once, a pin that joins is new to it, and it never has more pins than the graph.
use Rattle.std.specs.Prelude.{Option}
use mathlib.Core.Path.{◌≡◌, sym, ap, subst}
use mathlib.Core.Bool.{Bool}
use mathlib.Core.List.{List, [], ◌∷◌, ◌++◌}
use Prim.Native.Nat.{ℕ, ◌≤◌, ◌<◌}
use native.Mathlib.Omega.{arith}
use lib.ListN.{length}
use Rattle.laws.specs.Lists.{count, member, over}
use Rattle.laws.specs.Sets.{insert}
use Rattle.laws.proofs.Tests.{by_test}
use Rattle.laws.proofs.Bags.{member_true, member_false, count-append, in_left, in_right, here}
use Rattle.laws.proofs.Sets.{insert-once, insert_cases}
use Rattle.rules.specs.Graph.{Graph, pin_count}
use Rattle.rules.specs.Stages.{back, order, low, Joining, read, join, start}
use Rattle.cuts.specs.Checked.{Checked}
use Rattle.cuts.proofs.Lists.{fits_from_one}
use Rattle.cuts.proofs.Order.{order-once, order_fits}
use Rattle.cuts.proofs.Joining.{reads_sub, begun, join_by, join_yes, join_no, joins_only}

-- ---- each pin once
abbrev pub Once : Joining → Type 0
Once s = (p : ℕ) → count p s.set ≤ 1

pub once-reads : (os : List ℕ) (s : Joining) → Once s → Once (over read s os)
once-reads os s h p = omega (arith, h p, reads_sub os s p)

pub once_join : (nx : ℕ → List ℕ) (ok : ℕ → Bool) (s : Joining) (u : ℕ) → Once s → Once (join_by nx ok s u)
once_join nx ok s u h = by_test (ok u)
    (λ t. subst Once (join_yes nx ok s u t) (once-reads (nx u) (begun s u) (λ p. insert-once s.set u p h)))
    (λ f. subst Once (join_no nx ok s u f) h)

pub once_joins : (nx : ℕ → List ℕ) (ok : ℕ → Bool) (us : List ℕ) (s : Joining) → Once s → Once (over (join_by nx ok) s us)
once_joins nx ok [] s h = h
once_joins nx ok (u ∷ us) s h = once_joins nx ok us (join_by nx ok s u) (once_join nx ok s u h)

module _ (g : Graph) (ck : Checked g) (left before : List ℕ) (d : Option ℕ) where
  -- a set of pins visited, each once, has at most as many as the graph has pins
  pub visited_few : (s : Joining) → Once s → ((p : ℕ) → 0 < count p s.set → 0 < count p (order g left before)) → length s.set ≤ pin_count g
  visited_few s h k = fits_from_one (pin_count g) s.set h (λ p m. order_fits g ck left before p (k p m))

  pub order_few : length (order g left before) ≤ pin_count g
  order_few = fits_from_one (pin_count g) (order g left before) (order-once g ck left before) (order_fits g ck left before)

  -- behind the pins of `seen`, where u comes next
  module _ (seen rest : List ℕ) (u : ℕ) (is : order g left before ≡ seen ++ (u ∷ rest)) where
    abbrev at_u : Joining
    at_u = over (join g before d) (start g left before) seen

    -- only pins seen have joined
    joined_seen : (p : ℕ) → 0 < count p at_u.set → 0 < count p seen
    joined_seen = joins_only (back g before) (low g before d) (λ p. 0 < count p seen) seen (start g left before) (λ p m. absurd (omega arith)) (λ p m t. m)

    -- so u is new, and to insert it is to put it at the end
    pub joins_new : count u at_u.set ≡ 0
    joins_new = by_test (member u at_u.set)
        (λ t. absurd (omega (arith, joined_seen u (member_true u at_u.set t), order-once g ck left before u, ap (count u) is, count-append u seen (u ∷ rest), here u rest)))
        (λ f. member_false u at_u.set f)

    -- and there is room for it
    pub joins_few : length (insert at_u.set u) ≤ pin_count g
    joins_few = visited_few (begun at_u u)
        (λ p. insert-once at_u.set u p (once_joins (back g before) (low g before d) seen (start g left before) (λ q. omega arith)))
        (λ p m. subst (λ (l : List ℕ). 0 < count p l) (sym is) (insert_cases at_u.set u p m
        (λ e. subst (λ (z : ℕ). 0 < count z (seen ++ (u ∷ rest))) (sym e) (in_right u seen (u ∷ rest) (here u rest)))
        (λ m'. in_left p seen (u ∷ rest) (joined_seen p m'))))
