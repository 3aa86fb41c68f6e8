-- While pins join and endpoints are taken, as a program's loops meet it: a pin that has joined and has a reader left is in the set, what is
-- removed is there, and no reader count falls below 0.
use mathlib.Core.Path.{◌≡◌, sym, ap, subst}
use mathlib.Core.Bool.{Bool, true}
use mathlib.Core.List.{List, [], ◌∷◌, ◌++◌, append_assoc}
use Prim.Native.Nat.{ℕ, ◌+◌, ◌-◌, ◌<◌}
use native.Mathlib.Omega.{arith}
use borrow.Author.Tests.{eqb-true, eqb-false, leb-true, le-leb}
use Rattle.std.specs.Prelude.{Option, None, Some, ◌==◌}
use Rattle.laws.specs.Lists.{count, every, flat, over}
use Rattle.laws.specs.Sets.{insert, remove}
use Rattle.laws.specs.Search.{level}
use Rattle.laws.proofs.Tests.{by_test, one_eq, true≢false}
use Rattle.laws.proofs.Bags.{count-append, at_head, of_append, in_left, every_true, reads_fit, flat_append, flat_keep, keep_le, keep_true, here}
use Rattle.laws.proofs.Sets.{count-remove_other, count_removes, insert_le, count-insert-same}
use Rattle.laws.proofs.Levels.{level_lt}
use Rattle.laws.proofs.Visits.{Ranked}
use Rattle.rules.specs.Graph.{Graph}
use Rattle.rules.specs.Stages.{inputs, back, within, order, low, takes, split, Joining, read, join, start, joined, take}
use Rattle.cuts.specs.Checked.{Checked}
use Rattle.cuts.proofs.Operands.{back_below}
use Rattle.cuts.proofs.Order.{in_order, order_ranked}
use Rattle.cuts.proofs.Next.{taken_le}
use Rattle.cuts.proofs.Joining.{begun, join_by, take_by, join_yes, join_no, reads_readers, joins_readers, takes_readers}

-- ---- every pin of `seen` that may join and has a reader left is in the set
abbrev pub Live : (ℕ → Bool) → List ℕ → Joining → Type 0
Live ok seen s = (p : ℕ) → 0 < count p seen → ok p ≡ true → 0 < s.readers p → 0 < count p s.set

module _ (ok : ℕ → Bool) where
  pub live_read : (seen : List ℕ) (s : Joining) (o : ℕ) → Live ok seen s → Live ok seen (read s o)
  live_read seen s o live p m k r = by_test (s.readers o - 1 == 0)
      (λ t. rw t (by_test (p == o)
      (λ y. absurd (omega (arith, r, one_eq p o (eqb-true p o y), eqb-true (s.readers o - 1) 0 t, ap s.readers (eqb-true p o y))))
      (λ f. rw (count-remove_other s.set o p (eqb-false p o f)) (live p m k (omega (arith, r))))))
      (λ n. rw n (live p m k (omega (arith, r))))

  pub live_reads : (seen os : List ℕ) (s : Joining) → Live ok seen s → Live ok seen (over read s os)
  live_reads seen [] s live = live
  live_reads seen (o ∷ os) s live = live_reads seen os (read s o) (live_read seen s o live)

  pub live_begun : (seen : List ℕ) (s : Joining) (u : ℕ) → Live ok seen s → Live ok (seen ++ (u ∷ [])) (begun s u)
  live_begun seen s u live p m k r = of_append p seen (u ∷ []) m
      (λ m'. omega (arith, live p m' k r, insert_le s.set u p))
      (λ m'. at_head p u [] m'
      (λ e. subst (λ (z : ℕ). 0 < count z (insert s.set u)) (sym e) (count-insert-same s.set u))
      (λ z. absurd (omega arith)))

  pub live_join : (nx : ℕ → List ℕ) (seen : List ℕ) (s : Joining) (u : ℕ) → Live ok seen s → Live ok (seen ++ (u ∷ [])) (join_by nx ok s u)
  live_join nx seen s u live = by_test (ok u)
      (λ t. subst (Live ok (seen ++ (u ∷ []))) (join_yes nx ok s u t) (live_reads (seen ++ (u ∷ [])) (nx u) (begun s u) (live_begun seen s u live)))
      (λ f. subst (Live ok (seen ++ (u ∷ []))) (join_no nx ok s u f) (λ p m k r. of_append p seen (u ∷ []) m
      (λ m'. live p m' k r)
      (λ m'. at_head p u [] m' (λ e. true≢false (ok u) (subst (λ (z : ℕ). ok z ≡ true) e k) f) (λ z. absurd (omega arith)))))

  pub live_joins : (nx : ℕ → List ℕ) (us seen : List ℕ) (s : Joining) → Live ok seen s → Live ok (seen ++ us) (over (join_by nx ok) s us)
  live_joins nx [] seen s live = λ p m k r. of_append p seen [] m (λ m'. live p m' k r) (λ z. absurd (omega arith))
  live_joins nx (u ∷ us) seen s live =
      subst (λ (l : List ℕ). Live ok l (over (join_by nx ok) s (u ∷ us))) (append_assoc seen (u ∷ []) us)
      (live_joins nx us (seen ++ (u ∷ [])) (join_by nx ok s u) (live_join nx seen s u live))

  pub live_takes : (ins : ℕ → List ℕ) (seen es : List ℕ) (s : Joining) → Live ok seen s → Live ok seen (over (take_by ins) s es)
  live_takes ins seen [] s live = live
  live_takes ins seen (e ∷ es) s live = live_takes ins seen es (over read s (ins e)) (live_reads seen (ins e) s live)

-- ---- what a low pin reads is low
module _ (g : Graph) (ck : Checked g) (before : List ℕ) (d : Option ℕ) where
  pub low_down : (u o : ℕ) → 0 < count o (back g before u) → low g before d u ≡ true → low g before d o ≡ true
  low_down u o m = go d
    where
      go : (d' : Option ℕ) → within d' (level (back g before) u) ≡ true → within d' (level (back g before) o) ≡ true
      go None t = t
      go (Some n) t = le-leb (level (back g before) o) n
          (omega (arith, level_lt (back g before) (back_below g ck before) u o m, leb-true (level (back g before) u) n t))

-- ---- each read finds a reader to count down, and the pin in the set
ranked_behind : (nx : ℕ → List ℕ) (us before rest : List ℕ) (u o : ℕ) → Ranked nx before (us ++ (u ∷ rest)) → 0 < count o (nx u)
    → 0 < count o before + count o us
ranked_behind nx [] before rest u o r m = omega (arith, r.1 o m)
ranked_behind nx (x ∷ us) before rest u o r m = omega (arith, ranked_behind nx us (x ∷ before) rest u o r.2 m)

parts_at : (o : ℕ) (os os₁ os₂ : List ℕ) → os ≡ os₁ ++ (o ∷ os₂) → count o os₁ < count o os
parts_at o os os₁ os₂ e = omega (arith, ap (count o) e, count-append o os₁ (o ∷ os₂), here o os₂)

module _ (g : Graph) (ck : Checked g) (left before : List ℕ) (d : Option ℕ) where
  abbrev nx : ℕ → List ℕ
  nx = back g before

  abbrev ok : ℕ → Bool
  ok = low g before d

  -- a low pin u that joins behind those of `seen`, and its operand o, behind os₁
  module _ (seen rest : List ℕ) (u : ℕ) (is : order g left before ≡ seen ++ (u ∷ rest)) (is_low : low g before d u ≡ true)
      (os₁ os₂ : List ℕ) (o : ℕ) (reads-it : back g before u ≡ os₁ ++ (o ∷ os₂)) where
    abbrev at_u : Joining
    at_u = over (join g before d) (start g left before) seen

    in_back : 0 < count o (back g before u)
    in_back = omega (arith, parts_at o (back g before u) os₁ os₂ reads-it)

    pub operand_waits : 0 < (over read (begun at_u u) os₁).readers o
    operand_waits = omega (
      arith,
      reads_readers os₁ (begun at_u u) o,
      joins_readers nx ok seen (start g left before) o,
      reads_fit nx ok seen rest u o,
      ap (λ (l : List ℕ). count o (flat nx l)) is,
      count-append o (flat nx (order g left before)) (flat (inputs g) left),
      parts_at o (back g before u) os₁ os₂ reads-it,
    )

    pub operand_there : 0 < count o (over read (begun at_u u) os₁).set
    operand_there = live_reads ok (seen ++ (u ∷ [])) os₁ (begun at_u u)
        (live_begun ok seen at_u u (live_joins ok nx seen [] (start g left before) (λ p m k r. absurd (omega arith)))) o
        (in_left o seen (u ∷ []) (omega (arith, ranked_behind nx seen [] rest u o (subst (Ranked nx []) is (order_ranked g ck left before)) in_back)))
        (low_down g ck before d u o in_back is_low) operand_waits

  -- an endpoint e taken behind those of `done`, and its input i, behind is₁
  module _ (done rest : List ℕ) (e : ℕ) (is : takes g left before d ≡ done ++ (e ∷ rest))
      (is₁ is₂ : List ℕ) (i : ℕ) (reads-it : inputs g e ≡ is₁ ++ (i ∷ is₂)) where
    abbrev at_e : Joining
    at_e = over (take g) (joined g left before d) done

    in_taken : 0 < count e (takes g left before d)
    in_taken = omega (arith, parts_at e (takes g left before d) done rest is)

    in_inputs : 0 < count i (inputs g e)
    in_inputs = omega (arith, parts_at i (inputs g e) is₁ is₂ reads-it)

    pub input_waits : 0 < (over read at_e is₁).readers i
    input_waits = omega (
      arith,
      reads_readers is₁ at_e i,
      takes_readers (inputs g) done (joined g left before d) i,
      joins_readers nx ok (order g left before) (start g left before) i,
      count-append i (flat nx (order g left before)) (flat (inputs g) left),
      flat_keep nx ok (order g left before) i,
      flat_keep (inputs g) (λ x. every ok (inputs g x)) left i,
      ap (λ (l : List ℕ). count i (flat (inputs g) l)) is,
      flat_append (inputs g) done (e ∷ rest) i,
      count-append i (inputs g e) (flat (inputs g) rest),
      parts_at i (inputs g e) is₁ is₂ reads-it,
    )

    pub input_there : 0 < count i (over read at_e is₁).set
    input_there = live_reads ok us is₁ at_e (live_takes ok (inputs g) us done (joined g left before d)
        (live_joins ok nx us [] (start g left before) (λ p m k r. absurd (omega arith)))) i
        (in_order g ck left before e i (omega (arith, in_taken, keep_le (λ x. every ok (inputs g x)) e left)) in_inputs)
        (every_true ok i (inputs g e) (keep_true (λ x. every ok (inputs g x)) e left in_taken) in_inputs)
        input_waits
      where
        us : List ℕ
        us = order g left before

  -- an endpoint taken is there when it leaves the endpoints left
  pub taken_there : (done rest : List ℕ) (e : ℕ) → (split g left before d).taken ≡ done ++ (e ∷ rest) → 0 < count e (over remove left done)
  taken_there done rest e is = omega (arith, count_removes left done e, taken_le g left before d e, parts_at e (split g left before d).taken done rest is)
