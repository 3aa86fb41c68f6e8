-- Demand 3: no endpoint is lost, no bit is wrong, no chain of gates is too long.
--
-- What it rests on, all of it short:
--   rules, Stages: `stages g splits`, the stages that document 01 makes of a graph;
--   rules, Work: `lit_bit`, a literal's bit in the whole graph; `worked`, the stages worked in order, where the first can read the bits of
--     sources, a later one only what earlier ones kept of the pins that they handed on, and the constant, and what a stage may not read has
--     no bit, so that a wrong cut shows as a missing answer; `GateChain`, gates in a row within a stage;
--   cuts, Checked: what refusal 12 leaves of a graph; cuts, Onward: which pins are handed on; cuts, Turns: stages in a row; cuts, Depths:
--     levels in the whole graph.
-- Pins and endpoints are numbers. `count x l` is how often x stands in the list l, so `0 < count x l` says that it is in it.
-- It is proved in proofs/Demand3, for the tables of the calls in proofs/Demand3Calls; that it fails with equal levels is in
-- proofs/EqualLevels, what such levels lose in proofs/Repeated, and that it speaks of something in proofs/Sharp.
use Rattle.std.specs.Prelude.{Option, Some, ◌≡◌, ◌↔◌, Bool, true, ◌&&◌, List, [], ◌∷◌, ◌++◌, map, ℕ, ◌+◌, ◌-◌, ◌≤◌, ◌<◌, length, if◌then◌else◌}
use Rattle.laws.specs.Tests.{◌≤?◌}
use Rattle.laws.specs.Lists.{count, every, upto}
use Rattle.rules.specs.Graph.{Graph, pin_count}
use Rattle.rules.specs.Stages.{endpoint_count, reads, inputs, low, split, Row, stages}
use Rattle.rules.specs.Work.{lit_bit, source_bits, Answer, worked, GateChain, stage_roots}
use Rattle.rules.specs.Refusals.{rising, something_read}
use Rattle.rules.specs.Tables.{all_handed, all_taken}
use Rattle.cuts.specs.Checked.{Checked}
use Rattle.cuts.specs.Onward.{Onward}
use Rattle.cuts.specs.Turns.{difference, InTurn, Ladder}
use Rattle.cuts.specs.Depths.{depth, first_reaching, first_at_least, row_at, Leveled}

-- ---- what is right: each endpoint with the bits that the literals it reads have in the whole graph
abbrev pub right : Graph → (ℕ → Bool) → List ℕ → List Answer
right g src es = map (λ e. record { endpoint = e; values = map (λ l. Some (lit_bit g src l)) (reads g e) }) es

-- ---- a chain of AND gates in a stage with a finite upper end has at most upper − lower gates
abbrev pub Short : Graph → List ℕ → List ℕ → Row → Type 0
Short g left before r = (b u k : ℕ) → r.upper ≡ Some b → GateChain g before (stage_roots g r.stage) u k → k ≤ b - r.lower

-- ---- a stage hands on exactly the pins that are visited, low, not handed on before, and still read
abbrev pub HandsOn : Graph → List ℕ → List ℕ → Row → Type 0
HandsOn g left before r = (p : ℕ) → (0 < count p r.stage.handed) ↔ Onward g left before (difference r.lower r.upper) p

-- ---- of each stage in turn; before the first all endpoints are left and no pin is handed on
abbrev pub EachStage : Graph → (List ℕ → List ℕ → Row → Type 0) → List Row → Type 0
EachStage g P rows = InTurn P (upto (endpoint_count g)) [] rows

-- ---- what holds of the stages of a graph
pub record LegalCut (g : Graph) (splits : List ℕ) (rows : List Row) : Type 0 where
  -- 1. each endpoint is in exactly one stage, and nothing else is in any
  pub once : (e : ℕ) → e < endpoint_count g → count e (all_taken rows) ≡ 1
  pub only : (e : ℕ) → 0 < count e (all_taken rows) → e < endpoint_count g
  -- 2. worked in order, every literal that an endpoint reads gets its bit of the whole graph, for all bits of the sources
  pub bits : (src : ℕ → Bool) → worked g (source_bits g src) [] rows ≡ right g src (all_taken rows)
  -- 3. no chain is too long
  pub short : EachStage g (Short g) rows
  -- 4. what is handed on, no pin twice
  pub handed : EachStage g (HandsOn g) rows
  pub handed_once : (p : ℕ) → count p (all_handed rows) ≤ 1
  -- 5. which stage: the first whose upper end is at least the endpoint's depth in the whole graph; as asked for, that of the first split
  -- level that is at least its depth. Levels within a stage are levels of the whole graph counted from the stage's lower end
  pub place : (e : ℕ) → e < endpoint_count g → count e (row_at rows (first_reaching (depth g e) rows)).stage.taken ≡ 1
  pub planned : (e : ℕ) → e < endpoint_count g → first_reaching (depth g e) rows ≡ first_at_least (depth g e) splits
  pub levels : EachStage g (λ left before r. Leveled g r.lower left before) rows
  -- 6. the ends are the levels asked for; how many there are of each; and no split lacks an input
  pub ladder : Ladder 0 splits rows
  pub taken_all : length (all_taken rows) ≡ endpoint_count g
  pub handed_few : length (all_handed rows) ≤ pin_count g
  pub rows_few : length rows ≤ length splits + 1
  pub reading : EachStage g (λ left before r. something_read g left ≡ true) rows

-- for each graph that the check accepts in which some endpoint reads a pin other than 0, and all admitted levels
abbrev pub LegalWhere : (List ℕ → Bool) → Type 0
LegalWhere admitted = (g : Graph) (splits : List ℕ) → Checked g → something_read g (upto (endpoint_count g)) ≡ true → admitted splits ≡ true
    → LegalCut g splits (stages g splits)

-- levels that may be equal
abbrev pub never_falling : List ℕ → Bool
never_falling [] = true
never_falling (a ∷ []) = true
never_falling (a ∷ b ∷ bs) = (a ≤? b) && never_falling (b ∷ bs)

-- strictly increasing levels: proved
abbrev pub Demand3 : Type 0
Demand3 = LegalWhere rising

-- equal levels allowed: refuted
abbrev pub WithEqualLevels : Type 0
WithEqualLevels = LegalWhere never_falling

-- a level that is asked for twice in a row loses exactly the endpoints that are deeper than it, whatever levels follow
abbrev pub RepeatedLevel : Type 0
RepeatedLevel = (g : Graph) (first : List ℕ) (b : ℕ) (later : List ℕ) → Checked g → rising (first ++ (b ∷ [])) ≡ true
    → (e : ℕ) → e < endpoint_count g → count e (all_taken (stages g (first ++ (b ∷ b ∷ later)))) ≡ (if depth g e ≤? b then 1 else 0)

-- ---- what holds of a split asked alone
pub record LegalSplit (g : Graph) (chosen before : List ℕ) (d : Option ℕ) : Type 0 where
  pub taken : (e : ℕ) → count e (split g chosen before d).taken ≡ (if every (low g before d) (inputs g e) then count e chosen else 0)
  pub handed : (p : ℕ) → (0 < count p (split g chosen before d).handed) ↔ Onward g chosen before d p
  pub handed_once : (p : ℕ) → count p (split g chosen before d).handed ≤ 1
  pub handed_few : length (split g chosen before d).handed ≤ pin_count g
