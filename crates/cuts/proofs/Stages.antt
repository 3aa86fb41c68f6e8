-- The stages by induction: each is the split of its own difference, and the stages end with a split that takes all that is left.
use Rattle.std.specs.Prelude.{Option, None, Some}
use mathlib.Core.Path.{◌≡◌, refl, sym, ◌∙◌, ap₂}
use mathlib.Core.Logic.{◌⊎◌, inl, inr}
use mathlib.Core.Bool.{true, false}
use mathlib.Core.List.{List, [], ◌∷◌}
use Prim.Native.Nat.{ℕ, ◌-◌, ◌≤◌, ◌<◌}
use native.Mathlib.Omega.{arith}
use borrow.Author.Tests.{ltb-true}
use Rattle.laws.specs.Tests.{◌<?◌}
use Rattle.laws.specs.Lists.{count, every, is_nil}
use Rattle.laws.proofs.Tests.{by_test, and_l, and_r}
use Rattle.laws.proofs.Bags.{nil_is}
use Rattle.rules.specs.Graph.{Graph}
use Rattle.rules.specs.Stages.{inputs, low, split, Stage, Row, row, onward, stages_from}
use Rattle.rules.specs.Refusals.{rising, something_read}
use Rattle.cuts.specs.Checked.{Checked}
use Rattle.cuts.specs.Turns.{difference, InTurn, Ladder}
use Rattle.cuts.proofs.Lists.{keep_all, some_in}
use Rattle.cuts.proofs.Next.{left_next, before_next, taken_is}
use Rattle.cuts.proofs.Endings.{all_taken_lem, last_takes, last_hands_none, next-reads}

-- ---- the levels that are left: each but the very first is above the one before it
abbrev pub Climbs : List ℕ → ℕ → List ℕ → Type 0
Climbs before a [] = Unit {0}
Climbs before a (b ∷ bs) = (a ≤ b) × ((0 < b - a) ⊎ (before ≡ [])) × (rising (b ∷ bs) ≡ true)

pub climbs_next : (before : List ℕ) (b : ℕ) (bs : List ℕ) → rising (b ∷ bs) ≡ true → Climbs before b bs
climbs_next before b [] r = tt
climbs_next before b (c ∷ bs) r =
    let l : b < c = ltb-true b c (and_l (b <? c) (rising (c ∷ bs)) r) in
    (omega arith, inl (omega arith), and_r (b <? c) (rising (c ∷ bs)) r)

pub climbs_first : (bs : List ℕ) → rising bs ≡ true → Climbs [] 0 bs
climbs_first [] r = tt
climbs_first (b ∷ bs) r = (omega arith, inr refl, r)

-- ---- a split either ends the stages or goes on
pub onward_by : (P : List Row → Type 0) (a b : ℕ) (s : Stage) (rest : List Row)
    → (s.handed ≡ [] → P (row a None s ∷ [])) → (is_nil s.handed ≡ false → P (row a (Some b) s ∷ rest)) → P (onward a b s rest)
onward_by P a b s rest p q = by_test (is_nil s.handed) (λ t. rw t (p (nil_is s.handed t))) (λ f. rw f (q f))

same-stage : (s t : Stage) → s.handed ≡ t.handed → s.taken ≡ t.taken → s ≡ t
same-stage s t h k = ap₂ (λ x y. record { handed = x; taken = y }) h k

-- why the stages end here: no level is left, or all endpoints left fall below the next one
abbrev pub Ends : Graph → ℕ → List ℕ → List ℕ → List ℕ → Type 0
Ends g a left before [] = Unit {0}
Ends g a left before (b ∷ bs) = (a ≤ b) × ((e : ℕ) → 0 < count e left → every (low g before (Some (b - a))) (inputs g e) ≡ true)

-- a stage is the split of its own difference
abbrev pub IsSplit : Graph → List ℕ → List ℕ → Row → Type 0
IsSplit g left before r = r.stage ≡ split g left before (difference r.lower r.upper)

module _ (g : Graph) (ck : Checked g) where
  takes_all : (left before : List ℕ) (d : Option ℕ) → ((e : ℕ) → 0 < count e left → every (low g before d) (inputs g e) ≡ true)
      → (split g left before d).taken ≡ left
  takes_all left before d h = taken_is g left before d ∙ keep_all (λ e. every (low g before d) (inputs g e)) left h

  pub last_taken : (left before : List ℕ) → (split g left before None).taken ≡ left
  last_taken left before = takes_all left before None (λ e m. last_takes g ck left before e)

  -- where nothing is handed on, the split is the one without an upper end
  pub split_ends : (left before : List ℕ) (d : ℕ) → (0 < d) ⊎ (before ≡ []) → (split g left before (Some d)).handed ≡ []
      → split g left before (Some d) ≡ split g left before None
  split_ends left before d h z = same-stage (split g left before (Some d)) (split g left before None)
      (z ∙ sym (last_hands_none g ck left before))
      (takes_all left before (Some d) (all_taken_lem g ck left before d h z) ∙ sym (last_taken left before))

  pub stages_by : (Q : List ℕ → ℕ → List ℕ → List ℕ → List Row → Type 0)
      → ((bs : List ℕ) (a : ℕ) (left before : List ℕ) → Ends g a left before bs → Q bs a left before (row a None (split g left before None) ∷ []))
      → ((b : ℕ) (bs : List ℕ) (a : ℕ) (left before : List ℕ) (rest : List Row) → a ≤ b → is_nil (split g left before (Some (b - a))).handed ≡ false
      → Q bs b (left_next g left before (Some (b - a))) (before_next g left before (Some (b - a))) rest
      → Q (b ∷ bs) a left before (row a (Some b) (split g left before (Some (b - a))) ∷ rest))
      → (bs : List ℕ) (a : ℕ) (left before : List ℕ) → Climbs before a bs → Q bs a left before (stages_from g a left before bs)
  unfolding stages_from
  stages_by Q last more [] a left before c = last [] a left before tt
  stages_by Q last more (b ∷ bs) a left before c =
      let d : Option ℕ = Some (b - a) in
      let s : Stage = split g left before d in
      let rest : List Row = stages_from g b (left_next g left before d) (before_next g left before d) bs in
      onward_by (Q (b ∷ bs) a left before) a b s rest
      (λ z. rw (split_ends left before (b - a) c.1 z) (last (b ∷ bs) a left before (c.0, all_taken_lem g ck left before (b - a) c.1 z)))
      (λ n. more b bs a left before rest c.0 n
      (stages_by Q last more bs b (left_next g left before d) (before_next g left before d) (climbs_next (before_next g left before d) b bs c.2)))

  -- ---- what holds of each stage in turn, by what holds where a stage begins
  pub stages_turn : (P : List ℕ → List ℕ → Row → Type 0) (I : ℕ → List ℕ → List ℕ → Type 0)
      → ((a : ℕ) (left before : List ℕ) → I a left before → P left before (row a None (split g left before None)))
      → ((a b : ℕ) (left before : List ℕ) → a ≤ b → I a left before → P left before (row a (Some b) (split g left before (Some (b - a)))))
      → ((a b : ℕ) (left before : List ℕ) → a ≤ b → is_nil (split g left before (Some (b - a))).handed ≡ false → I a left before
      → I b (left_next g left before (Some (b - a))) (before_next g left before (Some (b - a))))
      → (bs : List ℕ) (a : ℕ) (left before : List ℕ) → Climbs before a bs → I a left before → InTurn P left before (stages_from g a left before bs)
  stages_turn P I last more next = stages_by (λ bs a left before rows. I a left before → InTurn P left before rows)
      (λ bs a left before _ i. (last a left before i, tt))
      (λ b bs a left before rest le n ih i. (more a b left before le i, ih (next a b left before le n i)))

  pub stages-split : (bs : List ℕ) (a : ℕ) (left before : List ℕ) → Climbs before a bs
      → InTurn (IsSplit g) left before (stages_from g a left before bs)
  stages-split bs a left before c =
      stages_turn (IsSplit g) (λ _ _ _. Unit {0}) (λ _ _ _ _. refl) (λ _ _ _ _ _ _. refl) (λ _ _ _ _ _ _ _. tt) bs a left before c tt

  -- their ends are the levels asked for
  ladder_more : (b : ℕ) (bs : List ℕ) (a : ℕ) (s : Stage) (rest : List Row) → Ladder b bs rest → Ladder a (b ∷ bs) (row a (Some b) s ∷ rest)
  ladder_more b bs a s [] w = absurd w
  ladder_more b bs a s (r ∷ rest) w = (refl, refl, w)

  pub stages_ladder : (bs : List ℕ) (a : ℕ) (left before : List ℕ) → Climbs before a bs → Ladder a bs (stages_from g a left before bs)
  stages_ladder = stages_by (λ bs a left before rows. Ladder a bs rows)
      (λ bs a left before _. (refl, refl))
      (λ b bs a left before rest le n ih. ladder_more b bs a (split g left before (Some (b - a))) rest ih)

  -- each split has an input to visit, the last one too
  pub stages-read : (bs : List ℕ) (a : ℕ) (left before : List ℕ) → Climbs before a bs → something_read g left ≡ true
      → InTurn (λ l b r. something_read g l ≡ true) left before (stages_from g a left before bs)
  stages-read = stages_turn (λ l b r. something_read g l ≡ true) (λ a l b. something_read g l ≡ true) (λ _ _ _ i. i) (λ _ _ _ _ _ i. i)
      (λ a b l f le n i. some_in (split g l f (Some (b - a))).handed n (λ p m. next-reads g ck l f (Some (b - a)) p m))

-- what follows from it stage by stage
pub turn_map : (P Q : List ℕ → List ℕ → Row → Type 0) → ((left before : List ℕ) (r : Row) → P left before r → Q left before r)
    → (rows : List Row) (left before : List ℕ) → InTurn P left before rows → InTurn Q left before rows
turn_map P Q f [] left before w = tt
turn_map P Q f (r ∷ rows) left before w = (f left before r w.0, turn_map P Q f rows _ _ w.1)
