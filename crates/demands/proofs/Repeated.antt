-- What a level that is asked for twice in a row loses. Its second split has a difference of 0. All that is low there was handed on before, so
-- it hands nothing on and counts as the last; and every endpoint that is left is deeper, so it takes none of them.
use mathlib.Core.Path.{◌≡◌, sym, ◌∙◌, ap}
use mathlib.Core.Bool.{true}
use mathlib.Core.List.{List, [], ◌∷◌, ◌++◌}
use Prim.Native.Nat.{ℕ, ◌+◌, ◌-◌, ◌≤◌, ◌<◌}
use native.Mathlib.Omega.{arith}
use borrow.Author.Tests.{ltb-true, leb-true, le-leb}
use Rattle.std.specs.Prelude.{Option, None, Some, if◌then◌else◌}
use Rattle.laws.specs.Tests.{◌<?◌, ◌≤?◌}
use Rattle.laws.specs.Lists.{count, member, every, upto, is_nil}
use Rattle.laws.specs.Search.{level}
use Rattle.laws.proofs.Tests.{by_test, if_true, and_l, and_r}
use Rattle.laws.proofs.Bags.{count-append, member_true, member_false, none_in}
use Rattle.laws.proofs.Sets.{count_removes}
use Rattle.laws.proofs.Ranges.{upto_in}
use Rattle.rules.specs.Graph.{Graph}
use Rattle.rules.specs.Stages.{endpoint_count, inputs, back, low, split, Stage, Row, row, stages_from}
use Rattle.rules.specs.Tables.{all_taken}
use Rattle.rules.specs.Refusals.{rising}
use Rattle.cuts.specs.Checked.{Checked}
use Rattle.cuts.specs.Depths.{depth, Leveled}
use Rattle.cuts.proofs.Exact.{handed_visited, handed_low, handed_new}
use Rattle.cuts.proofs.Next.{left_next, before_next, taken_le, low_taken, high_left}
use Rattle.cuts.proofs.Endings.{all_taken_lem}
use Rattle.cuts.proofs.Stages.{Climbs, climbs_next, climbs_first, onward_by}
use Rattle.cuts.proofs.Depths.{leveled_first, leveled_next, next_high, taken_by_depth}
use Rattle.demands.specs.Demand3.{RepeatedLevel}

-- ---- whatever the levels, no endpoint is taken twice
pub taken_within : (g : Graph) (bs : List ℕ) (a : ℕ) (left before : List ℕ) (e : ℕ) → count e (all_taken (stages_from g a left before bs)) ≤ count e left
unfolding stages_from
taken_within g [] a left before e = omega (arith, taken_le g left before None e, count-append e (split g left before None).taken [])
taken_within g (b ∷ bs) a left before e =
    let d : Option ℕ = Some (b - a) in
    let s : Stage = split g left before d in
    let rest : List Row = stages_from g b (left_next g left before d) (before_next g left before d) bs in
    onward_by (λ rows. count e (all_taken rows) ≤ count e left) a b s rest
    (λ z. omega (arith, taken_le g left before d e, count-append e s.taken []))
    (λ n. omega (
      arith,
      taken_le g left before d e,
      count-append e s.taken (all_taken rest),
      count_removes left s.taken e,
      taken_within g bs b (left_next g left before d) (before_next g left before d) e,
    ))

rising_last : (c : ℕ) (l : List ℕ) (b : ℕ) → rising (c ∷ (l ++ (b ∷ []))) ≡ true → c < b
rising_last c [] b r = ltb-true c b (and_l (c <? b) true r)
rising_last c (x ∷ l) b r = omega (arith, ltb-true c x (and_l (c <? x) (rising (x ∷ (l ++ (b ∷ [])))) r), rising_last x l b (and_r (c <? x) (rising (x ∷ (l ++ (b ∷ [])))) r))

module _ (g : Graph) (ck : Checked g) where
  -- ---- the second split
  module _ (left before : List ℕ) (a b : ℕ) (le : a ≤ b) (at : Leveled g a left before) where
    abbrev left' : List ℕ
    left' = left_next g left before (Some (b - a))

    abbrev before' : List ℕ
    before' = before_next g left before (Some (b - a))

    again_none : (split g left' before' (Some (b - b))).handed ≡ []
    again_none = none_in (split g left' before' (Some (b - b))).handed (λ p. by_test (member p (split g left' before' (Some (b - b))).handed)
        (λ t. let m : 0 < count p (split g left' before' (Some (b - b))).handed = member_true p (split g left' before' (Some (b - b))).handed t in
        let new : count p before' ≡ 0 = handed_new g left' before' (Some (b - b)) p m in
        absurd (omega (
          arith,
          leb-true (level (back g before') p) (b - b) (handed_low g left' before' (Some (b - b)) p m),
          (leveled_next g ck left before a b le at).ahead p (handed_visited g left' before' (Some (b - b)) p m) new,
          next_high g ck left before a b le at p (handed_visited g left' before' (Some (b - b)) p m) new,
        )))
        (λ f. member_false p (split g left' before' (Some (b - b))).handed f))

    again_stages : (later : List ℕ) → stages_from g b left' before' (b ∷ later) ≡ row b None (split g left' before' (Some (b - b))) ∷ []
    unfolding stages_from
    again_stages later = if_true (is_nil (split g left' before' (Some (b - b))).handed) _ _ (ap is_nil again_none)

    -- so the level's two splits together take the endpoints that are not deeper than it
    again_takes : (later : List ℕ) (e : ℕ) → 0 < count e left
        → count e ((split g left before (Some (b - a))).taken ++ all_taken (stages_from g b left' before' (b ∷ later))) ≡ (if depth g e ≤? b then count e left else 0)
    again_takes later e m = rw (again_stages later) (by_test (depth g e ≤? b)
        (λ t. rw t (omega (
          arith,
          sums,
          low_taken g left before (Some (b - a)) e (taken_by_depth g ck left before a b le at e m ∙ t),
          taken_le g left' before' (Some (b - b)) e,
          count_removes left (split g left before (Some (b - a))).taken e,
        )))
        (λ f. let out : count e (split g left before (Some (b - a))).taken ≡ 0 = high_left g left before (Some (b - a)) e (taken_by_depth g ck left before a b le at e m ∙ f) in
        rw f (omega (
          arith,
          sums,
          out,
          high_left g left' before' (Some (b - b)) e
              (taken_by_depth g ck left' before' b b (omega arith) (leveled_next g ck left before a b le at) e
              (omega (arith, m, out, count_removes left (split g left before (Some (b - a))).taken e)) ∙ f),
        ))))
      where
        sums : count e ((split g left before (Some (b - a))).taken ++ ((split g left' before' (Some (b - b))).taken ++ []))
            ≡ count e (split g left before (Some (b - a))).taken + count e (split g left' before' (Some (b - b))).taken
        sums = omega (
          arith,
          count-append e (split g left before (Some (b - a))).taken ((split g left' before' (Some (b - b))).taken ++ []),
          count-append e (split g left' before' (Some (b - b))).taken [],
        )

  -- ---- all stages
  pub repeated_from : (first : List ℕ) (b : ℕ) (later : List ℕ) (a : ℕ) (left before : List ℕ) → Climbs before a (first ++ (b ∷ [])) → Leveled g a left before
      → (e : ℕ) → 0 < count e left
      → count e (all_taken (stages_from g a left before (first ++ (b ∷ b ∷ later)))) ≡ (if depth g e ≤? b then count e left else 0)
  unfolding stages_from
  repeated_from [] b later a left before c at e m =
      let d : Option ℕ = Some (b - a) in
      let s : Stage = split g left before d in
      onward_by (λ rows. count e (all_taken rows) ≡ (if depth g e ≤? b then count e left else 0)) a b s
      (stages_from g b (left_next g left before d) (before_next g left before d) (b ∷ later))
      (λ z. rw (sym (taken_by_depth g ck left before a b c.0 at e m) ∙ all_taken_lem g ck left before (b - a) c.1 z e m)
      (omega (arith, count-append e s.taken [], low_taken g left before d e (all_taken_lem g ck left before (b - a) c.1 z e m))))
      (λ n. again_takes left before a b c.0 at later e m)
  repeated_from (x ∷ first) b later a left before c at e m =
      let d : Option ℕ = Some (x - a) in
      let s : Stage = split g left before d in
      let rest : List Row = stages_from g x (left_next g left before d) (before_next g left before d) (first ++ (b ∷ b ∷ later)) in
      let below : x < b = rising_last x first b c.2 in
      onward_by (λ rows. count e (all_taken rows) ≡ (if depth g e ≤? b then count e left else 0)) a x s rest
      (λ z. let low' : every (low g before d) (inputs g e) ≡ true = all_taken_lem g ck left before (x - a) c.1 z e m in
      rw (le-leb (depth g e) b (omega (arith, leb-true (depth g e) x (sym (taken_by_depth g ck left before a x c.0 at e m) ∙ low'))))
      (omega (arith, count-append e s.taken [], low_taken g left before d e low')))
      (λ n. by_test (depth g e ≤? x)
      (λ t. rw (le-leb (depth g e) b (omega (arith, leb-true (depth g e) x t)))
      (omega (
        arith,
        count-append e s.taken (all_taken rest),
        low_taken g left before d e (taken_by_depth g ck left before a x c.0 at e m ∙ t),
        taken_within g (first ++ (b ∷ b ∷ later)) x (left_next g left before d) (before_next g left before d) e,
        count_removes left s.taken e,
      )))
      (λ f. let out : count e s.taken ≡ 0 = high_left g left before d e (taken_by_depth g ck left before a x c.0 at e m ∙ f) in
      let same : count e (left_next g left before d) ≡ count e left = omega (arith, out, count_removes left s.taken e) in
      count-append e s.taken (all_taken rest) ∙ rw out (omega (
        arith,
        repeated_from first b later x (left_next g left before d) (before_next g left before d)
            (climbs_next (before_next g left before d) x (first ++ (b ∷ [])) c.2) (leveled_next g ck left before a x c.0 at) e (omega (arith, m, same)),
        ap (λ (k : ℕ). if depth g e ≤? b then k else 0) same,
      ))))

pub repeated_level : RepeatedLevel
repeated_level g first b later ck rises e h =
    repeated_from g ck first b later 0 (upto (endpoint_count g)) [] (climbs_first (first ++ (b ∷ [])) rises) (leveled_first g ck (upto (endpoint_count g))) e
    (omega (arith, upto_in (endpoint_count g) e h))
    ∙ ap (λ (k : ℕ). if depth g e ≤? b then k else 0) (upto_in (endpoint_count g) e h)
