-- What an endpoint reads, by number, in the words of a graph.
use Rattle.std.specs.Prelude.{◌≡◌, List, [], ℕ, ◌+◌, ◌-◌, ◌*◌, ◌/◌, ◌%◌, ◌≤◌, length, get_or, take, if◌then◌else◌, ◌==◌}
use Rattle.laws.specs.Tests.{◌<?◌}
use Rattle.rules.specs.declared.EndTables.{EndTables}
use Rattle.rules.specs.declared.GraphCounts.{GraphCounts}
use Rattle.rules.specs.Stages.{reads, inputs_of}
use Rattle.rules.specs.Tables.{GraphWords, graph_in}

-- the record words are as long as the counts say, and these are within their bounds
pub record Lent (c : GraphCounts) (os ds rs : List ℕ) : Type 0 where
  pub outputs_long : length os ≡ c.outputs
  pub dffs_long : length ds ≡ 3 * c.dffs
  pub rams_long : length rs ≡ 123 * c.rams
  pub outputs_few : c.outputs ≤ 1048576
  pub dffs_few : c.dffs ≤ 1048576
  pub rams_few : c.rams ≤ 1048576

-- the words of a graph's records
abbrev pub records_of : List ℕ → List ℕ → List ℕ → GraphWords
records_of os ds rs = record { drivers = []; outputs = os; dffs = ds; rams = rs }

-- what an endpoint reads; it reads no driver
unfoldable pub reads_in : GraphCounts → List ℕ → List ℕ → List ℕ → ℕ → List ℕ
reads_in c os ds rs e = reads (graph_in c (records_of os ds rs)) e

-- the pins that it reads, pin 0 not counted
unfoldable pub ins_of : GraphCounts → List ℕ → List ℕ → List ℕ → ℕ → List ℕ
ins_of c os ds rs e = inputs_of (reads_in c os ds rs e)

-- those among its first i literals
unfoldable pub ins_to : GraphCounts → List ℕ → List ℕ → List ℕ → ℕ → ℕ → List ℕ
ins_to c os ds rs e i = inputs_of (take i (reads_in c os ds rs e))

unfoldable pub reads_long : GraphCounts → ℕ → ℕ
reads_long c e = if e <? c.outputs then 1 else (if e <? c.outputs + c.dffs then 2 else 91)

-- one of each in turn, by number
abbrev pub turn_word : List ℕ → ℕ → ℕ → ℕ → ℕ
turn_word ws x y j = if j % 2 == 0 then get_or ws (x + j / 2) 0 else get_or ws (y + j / 2) 0

unfoldable pub ram_read : List ℕ → ℕ → ℕ → ℕ
ram_read ws k i =
    if i == 0 then get_or ws (123 * k) 0
    else (if i <? 27 then turn_word ws (123 * k + 1) (123 * k + 46) (i - 1) else turn_word ws (123 * k + 59) (123 * k + 91) (i - 27))

-- ---- the same of lent tables
abbrev pub LentIn : EndTables → Type 0
LentIn ends = Lent ends.counts ends.outputs.now ends.dffs.now ends.rams.now

abbrev pub ins_in : EndTables → ℕ → List ℕ
ins_in ends = ins_of ends.counts ends.outputs.now ends.dffs.now ends.rams.now
