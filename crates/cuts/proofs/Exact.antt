-- A split hands on exactly the low pins, not handed on before, that have a reader left; each once.
use Rattle.std.specs.Prelude.{Option}
use mathlib.Core.Path.{◌≡◌}
use mathlib.Core.Logic.{◌↔◌}
use mathlib.Core.Bool.{Bool, true, not}
use mathlib.Core.List.{List, ◌++◌}
use Prim.Native.Nat.{ℕ, ◌≤◌, ◌<◌}
use native.Mathlib.Omega.{arith}
use borrow.Author.Tests.{ltb-true, ltb-false, not-true}
use Rattle.laws.specs.Tests.{◌<?◌}
use Rattle.laws.specs.Lists.{count, member, keep, every, flat}
use Rattle.laws.proofs.Tests.{by_test}
use Rattle.laws.proofs.Bags.{member_true, member_false, no_member, count-append, in_flat, of_flat, keep_true, keep_le, count-keep}
use Rattle.rules.specs.Graph.{Graph}
use Rattle.rules.specs.Stages.{inputs, back, order, low, final, split}
use Rattle.cuts.specs.Checked.{Checked}
use Rattle.cuts.specs.Onward.{ReaderLeft, gate_left, endpoint_left, Onward}
use Rattle.cuts.proofs.Order.{order_ranked, visited_read}
use Rattle.cuts.proofs.Joining.{remaining, stays, may}
use Rattle.cuts.proofs.Gone.{set-once, still_read}

module _ (g : Graph) (left before : List ℕ) (d : Option ℕ) where
  abbrev nx : ℕ → List ℕ
  nx = back g before

  abbrev ok : ℕ → Bool
  ok = low g before d

  abbrev tk : ℕ → Bool
  tk e = every (low g before d) (inputs g e)

  abbrev us : List ℕ
  us = order g left before

  -- how many readers of p are left
  abbrev rest : ℕ → ℕ
  rest p = remaining nx (inputs g) ok tk us left p

  abbrev fresh : ℕ → Bool
  fresh q = not (member q before)

  reader_left : (p : ℕ) → 0 < rest p → ReaderLeft g left before d p
  reader_left p r = by_test (0 <? count p (flat nx (keep (λ x. not (ok x)) us)))
      (λ t. of_flat nx p (keep (λ x. not (ok x)) us) (ltb-true 0 (count p (flat nx (keep (λ x. not (ok x)) us))) t) (λ u m k.
      gate_left u (omega (arith, m, keep_le (λ x. not (ok x)) u us)) (not-true (ok u) (keep_true (λ x. not (ok x)) u us m)) k))
      (λ f. of_flat (inputs g) p (keep (λ x. not (tk x)) left) (omega (arith, r, ltb-false 0 (count p (flat nx (keep (λ x. not (ok x)) us))) f)) (λ e m k.
      endpoint_left e (omega (arith, m, keep_le (λ x. not (tk x)) e left)) (not-true (tk e) (keep_true (λ x. not (tk x)) e left m)) k))

  left_reader : (p : ℕ) → ReaderLeft g left before d p → 0 < rest p
  left_reader p (gate_left u m f k) =
      omega (arith, in_flat nx u p (keep (λ x. not (ok x)) us) (rw (count-keep (λ x. not (ok x)) u us (rw f)) m) k)
  left_reader p (endpoint_left e m f k) =
      omega (arith, in_flat (inputs g) e p (keep (λ x. not (tk x)) left) (rw (count-keep (λ x. not (tk x)) e left (rw f)) m) k)

  -- of what is in the set at the end, what was not handed on before
  pub handed_in : (p : ℕ) → count p (split g left before d).handed ≤ count p (final g left before d).set
  unfolding split
  handed_in p = keep_le fresh p (final g left before d).set

  pub handed_new : (p : ℕ) → 0 < count p (split g left before d).handed → count p before ≡ 0
  unfolding split
  handed_new p m = member_false p before (not-true (member p before) (keep_true fresh p (final g left before d).set m))

  pub handed_visited : (p : ℕ) → 0 < count p (split g left before d).handed → 0 < count p (order g left before)
  handed_visited p m = (may nx (inputs g) ok tk us left p (omega (arith, m, handed_in p))).0

  pub handed_low : (p : ℕ) → 0 < count p (split g left before d).handed → low g before d p ≡ true
  handed_low p m = (may nx (inputs g) ok tk us left p (omega (arith, m, handed_in p))).1

  pub hands : (p : ℕ) → Onward g left before d p → 0 < count p (split g left before d).handed
  unfolding split
  hands p w = rw (count-keep fresh p (final g left before d).set (rw (no_member p before w.is_new)))
      (stays nx (inputs g) ok tk us left p w.visited w.is_low (left_reader p w.reader))

  module _ (ck : Checked g) where
    pub handed_onward : (p : ℕ) → 0 < count p (split g left before d).handed → Onward g left before d p
    handed_onward p m = record {
      visited = handed_visited p m;
      is_low = handed_low p m;
      is_new = handed_new p m;
      reader = reader_left p (still_read nx (inputs g) ok tk us left (order_ranked g ck left before) p (visited_read g ck left before p (handed_visited p m))
          (omega (arith, m, handed_in p)));
    }

    pub handed_exactly : (p : ℕ) → (0 < count p (split g left before d).handed) ↔ Onward g left before d p
    handed_exactly p = (handed_onward p, hands p)

    pub handed_once : (p : ℕ) → count p (split g left before d).handed ≤ 1
    handed_once p = by_test (member p (split g left before d).handed)
        (λ t. omega (
          arith,
          handed_in p,
          set-once nx (inputs g) ok tk us left (order_ranked g ck left before) p
              (visited_read g ck left before p (handed_visited p (member_true p (split g left before d).handed t))),
        ))
        (λ f. omega (arith, member_false p (split g left before d).handed f))

    -- the pins handed on so far stay without repeats, so that to append is to insert
    pub handed_apart : ((p : ℕ) → count p before ≤ 1) → (p : ℕ) → count p (before ++ (split g left before d).handed) ≤ 1
    handed_apart h p = by_test (member p (split g left before d).handed)
        (λ t. omega (
          arith,
          count-append p before (split g left before d).handed,
          handed_once p,
          handed_new p (member_true p (split g left before d).handed t),
        ))
        (λ f. omega (arith, count-append p before (split g left before d).handed, member_false p (split g left before d).handed f, h p))
