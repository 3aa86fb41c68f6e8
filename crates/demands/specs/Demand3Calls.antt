-- Demand 3 of the calls: over the tables that they are given, and of the tables that they leave.
use Rattle.std.specs.Prelude.{Option, None, Some, ◌≡◌, true, List, [], ◌∷◌, ℕ, zero, suc, length, get_or, take, drop, if◌then◌else◌, ◌==◌}
use Rattle.laws.specs.Lists.{upto}
use Rattle.rules.specs.declared.GraphCounts.{GraphCounts}
use Rattle.rules.specs.Graph.{Graph}
use Rattle.rules.specs.Stages.{endpoint_count, Row, row, stages}
use Rattle.rules.specs.Refusals.{rising, something_read}
use Rattle.rules.specs.Tables.{GraphWords, graph_in, end_marker, all_handed, all_taken, held}
use Rattle.rules.specs.Answers.{check_graph_number, split_number, stages_number, stage_rows}
use Rattle.demands.specs.Demand3.{LegalCut, LegalSplit}

-- ---- a graph that the check accepts
abbrev pub OfCheck : Type 0
OfCheck = (c : GraphCounts) (t : GraphWords) (work : ℕ) (splits : List ℕ) → check_graph_number c t work ≡ 0
    → something_read (graph_in c t) (upto (endpoint_count (graph_in c t))) ≡ true → rising splits ≡ true
    → LegalCut (graph_in c t) splits (stages (graph_in c t) splits)

-- ---- a split asked alone, of any endpoints and handed-on pins that it accepts
abbrev pub OfSplit : Type 0
OfSplit = (c : GraphCounts) (t : GraphWords) (chosen before : List ℕ) (level handed taken work : ℕ)
    → split_number c t chosen before level handed taken work ≡ 0 → LegalSplit (graph_in c t) chosen before (Some level)

-- ---- the stages read back from the tables that a call leaves: n rows, and what they hand on and take, one stage after the other
abbrev pub upper_in : ℕ → Option ℕ
upper_in b = if b == end_marker then None else Some b

abbrev pub rows_in : ℕ → List ℕ → List ℕ → List ℕ → List Row
rows_in zero ws hs ts = []
rows_in (suc n) ws hs ts =
    row (get_or ws 0 0) (upper_in (get_or ws 1 0)) (record { handed = take (get_or ws 2 0) hs; taken = take (get_or ws 3 0) ts })
    ∷ rows_in n (drop 4 ws) (drop (get_or ws 2 0) hs) (drop (get_or ws 3 0) ts)

-- a call for stages that is not refused: they are a legal cut, and the tables that it leaves say them
pub record CallKeeps (g : Graph) (splits : List ℕ) (rows : List Row) (rows_long handed taken : ℕ) : Type 0 where
  pub legal : LegalCut g splits rows
  pub written : rows_in (length rows) (held 0 (stage_rows rows) rows_long) (held 0 (all_handed rows) handed) (held 0 (all_taken rows) taken) ≡ rows

abbrev pub OfStages : Type 0
OfStages = (c : GraphCounts) (t : GraphWords) (splits : List ℕ) (rows rows_long handed taken work : ℕ)
    → stages_number c t splits rows rows_long handed taken work ≡ 0
    → CallKeeps (graph_in c t) splits (stages (graph_in c t) splits) rows_long handed taken
