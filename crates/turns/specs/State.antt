-- One stage: where it begins and what it leaves.
use Rattle.std.specs.Prelude.{Some, Result, Ok, Err, ◌≡◌, ◌⊎◌, Bool, false, List, [], ◌∷◌, ℕ, ◌+◌, ◌*◌, ◌<◌, ◌≤◌, length}
use Rattle.laws.specs.Lists.{count, over, is_nil}
use Rattle.laws.specs.Sets.{remove}
use Rattle.laws.specs.Words.{part}
use Rattle.rules.specs.declared.GraphTables.{GraphTables}
use Rattle.rules.specs.declared.GraphCounts.{GraphCounts}
use Rattle.rules.specs.Tables.{graph_in, end_marker}
use Rattle.rules.specs.Stages.{Stage, split}
use Rattle.rules.specs.Refusals.{something_read}
use Rattle.rules.specs.Answers.{endpoints}
use Rattle.graphs.specs.Parts.{lent as words_of}
use Rattle.walk.specs.State.{Stops}
use Rattle.picks.specs.Tables.{Open, Pushed}
use Rattle.splits.specs.State.{Idle}
use Rattle.asked.specs.Answer.{Sound}
use Rattle.turns.specs.declared.Run.{Run}
use Rattle.turns.specs.declared.Plan.{Plan}
use Rattle.turns.specs.declared.Step.{Step}
use Rattle.turns.specs.declared.Step.TheVariants.{More, Last}
use Rattle.turns.specs.declared.Outcome.{Outcome}
use Rattle.turns.specs.declared.NoRoom.{NoRoom}

-- the pins handed on before are those of the table, and they are the stops
pub record Before (m : ℕ) (w h : List ℕ) (n : ℕ) : Type 0 where
  pub stops : Stops w m (part h 0 n)
  pub inside : (p : ℕ) → 0 < count p (part h 0 n) → p < m

pub record Turn (c : GraphCounts) (ws os ds rs w l h t : List ℕ) (at : Run) : Type 0 where
  pub sound : Sound c ws os ds rs (length w)
  pub idle : Idle ws (c.pins + 1) (endpoints c) w at.left
  pub before : Before (c.pins + 1) w h at.handed
  pub rows_open : Open l at.rows
  pub handed_open : Open h at.handed
  pub taken_open : Open t at.taken
  pub handed_few : length h ≤ 16777215
  pub taken_few : length t ≤ 16777215

-- the stage as the rules say it
unfoldable pub stage_in : GraphCounts → List ℕ → List ℕ → List ℕ → List ℕ → List ℕ → List ℕ → Run → ℕ → Stage
stage_in c ws os ds rs w h at d = split (graph_in c (words_of ws os ds rs)) (part w (8 * (c.pins + 1)) at.left) (part h 0 at.handed) (Some d)

-- the last stage: it hands nothing on; what it told is whether something is read
pub record Ended (c : GraphCounts) (ws os ds rs w l h t : List ℕ) (at : Run) (d : ℕ) (w' l' h' t' : List ℕ) (told : Bool) (r : Plan) : Type 0 where
  pub read : told ≡ something_read (graph_in c (words_of ws os ds rs)) (part w (8 * (c.pins + 1)) at.left)
  pub none_handed : (stage_in c ws os ds rs w h at d).handed ≡ []
  pub handed : Pushed h at.handed (stage_in c ws os ds rs w h at d).handed h' r.handed
  pub taken : Pushed t at.taken (stage_in c ws os ds rs w h at d).taken t' r.taken
  pub rows : Pushed l at.rows (at.lower ∷ end_marker ∷ 0 ∷ length (stage_in c ws os ds rs w h at d).taken ∷ []) l' r.rows
  pub work_long : length w' ≡ length w

-- any other stage, and where the next one begins
pub record GoesOn (c : GraphCounts) (ws os ds rs w l h t : List ℕ) (at : Run) (upper d : ℕ) (w' l' h' t' : List ℕ) (told : Bool) (r : Run) : Type 0 where
  pub read : told ≡ something_read (graph_in c (words_of ws os ds rs)) (part w (8 * (c.pins + 1)) at.left)
  pub some_handed : is_nil (stage_in c ws os ds rs w h at d).handed ≡ false
  pub handed : Pushed h at.handed (stage_in c ws os ds rs w h at d).handed h' r.handed
  pub taken : Pushed t at.taken (stage_in c ws os ds rs w h at d).taken t' r.taken
  pub rows : Pushed l at.rows (at.lower ∷ upper ∷ length (stage_in c ws os ds rs w h at d).handed ∷ length (stage_in c ws os ds rs w h at d).taken ∷ []) l' r.rows
  pub lower : r.lower ≡ upper
  pub idle : Idle ws (c.pins + 1) (endpoints c) w' r.left
  pub left : part w' (8 * (c.pins + 1)) r.left ≡ over remove (part w (8 * (c.pins + 1)) at.left) (stage_in c ws os ds rs w h at d).taken
  pub before : Before (c.pins + 1) w' h' r.handed
  pub work_long : length w' ≡ length w

-- a table has too little room; whether something is read is told all the same
pub record Stopped (c : GraphCounts) (ws os ds rs w l h t : List ℕ) (at : Run) (d : ℕ) (w' l' h' t' : List ℕ) (e : NoRoom) : Type 0 where
  pub read : e.read ≡ something_read (graph_in c (words_of ws os ds rs)) (part w (8 * (c.pins + 1)) at.left)
  pub narrow : (length l < at.rows + 4)
      ⊎ ((length h < at.handed + length (stage_in c ws os ds rs w h at d).handed) ⊎ (length t < at.taken + length (stage_in c ws os ds rs w h at d).taken))
  pub work_long : length w' ≡ length w
  pub rows_long : length l' ≡ length l
  pub handed_long : length h' ≡ length h
  pub taken_long : length t' ≡ length t

-- the last stage or any other
abbrev pub Stepped : GraphCounts → List ℕ → List ℕ → List ℕ → List ℕ → List ℕ → List ℕ → List ℕ → List ℕ → Run → ℕ → ℕ → List ℕ → List ℕ → List ℕ → List ℕ → Bool → Step → Type 0
Stepped c ws os ds rs w l h t at upper d w' l' h' t' told (Last r) = Ended c ws os ds rs w l h t at d w' l' h' t' told r
Stepped c ws os ds rs w l h t at upper d w' l' h' t' told (More r) = GoesOn c ws os ds rs w l h t at upper d w' l' h' t' told r

-- what a stage leaves
abbrev pub Turned : GraphCounts → List ℕ → List ℕ → List ℕ → List ℕ → List ℕ → List ℕ → List ℕ → List ℕ → Run → ℕ → ℕ → List ℕ → List ℕ → List ℕ → List ℕ → Result Outcome NoRoom → Type 0
Turned c ws os ds rs w l h t at upper d w' l' h' t' (Ok o) = Stepped c ws os ds rs w l h t at upper d w' l' h' t' o.read o.step
Turned c ws os ds rs w l h t at upper d w' l' h' t' (Err e) = Stopped c ws os ds rs w l h t at d w' l' h' t' e

-- ---- the same of a lent graph
abbrev pub TurnIn : GraphTables → List ℕ → List ℕ → List ℕ → List ℕ → Run → Type 0
TurnIn g = Turn g.ends.counts g.drivers.now g.ends.outputs.now g.ends.dffs.now g.ends.rams.now

abbrev pub TurnedIn : GraphTables → List ℕ → List ℕ → List ℕ → List ℕ → Run → ℕ → ℕ → List ℕ → List ℕ → List ℕ → List ℕ → Result Outcome NoRoom → Type 0
TurnedIn g = Turned g.ends.counts g.drivers.now g.ends.outputs.now g.ends.dffs.now g.ends.rams.now
