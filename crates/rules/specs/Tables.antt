-- How a graph and its stages lie in lent words, and what a lent table holds after a call.
use Rattle.std.specs.Prelude.{Option, None, Some, List, [], ◌∷◌, ◌++◌, map, ℕ, zero, suc, ◌+◌, ◌-◌, ◌*◌, length, get_or, if◌then◌else◌, ◌==◌}
use Rattle.laws.specs.Lists.{flat, upto}
use Rattle.laws.specs.Words.{zeros, filled}
use Rattle.rules.specs.declared.Edge.{Edge}
use Rattle.rules.specs.declared.Edge.TheVariants.{Rising, Falling}
use Rattle.rules.specs.declared.Driver.{Driver}
use Rattle.rules.specs.declared.Driver.TheVariants.{And, Port, Flag, Dff, Ram, Constant}
use Rattle.rules.specs.declared.Record.{Record}
use Rattle.rules.specs.declared.GraphCounts.{GraphCounts}
use Rattle.rules.specs.declared.NetlistTables.{NetlistTables}
use Rattle.rules.specs.declared.GraphTables.{GraphTables}
use Rattle.rules.specs.declared.EndTables.{EndTables}
use Rattle.rules.specs.Netlist.{Netlist}
use Rattle.rules.specs.Graph.{gate, RamRow, Graph}
use Rattle.rules.specs.Stages.{Row}

-- ---- a driver in three words: tag, a, b
abbrev pub edge_word : Edge → ℕ
edge_word Rising = 0
edge_word Falling = 1

abbrev pub driver_words : Driver → List ℕ
driver_words Constant = 0 ∷ 0 ∷ 0 ∷ []
driver_words (And a b) = 1 ∷ a.word ∷ b.word ∷ []
driver_words (Port q) = 2 ∷ q ∷ 0 ∷ []
driver_words (Flag q e) = 3 ∷ q ∷ edge_word e ∷ []
driver_words (Dff c) = 4 ∷ c ∷ 0 ∷ []
driver_words (Ram c) = 5 ∷ c ∷ 0 ∷ []

-- what three words say; a word that a case does not use is 0, else they are none of the cases
abbrev pub unused : ℕ → Driver → Option Driver
unused b d = if b == 0 then Some d else None

abbrev pub flag_in : ℕ → ℕ → Option Driver
flag_in a b = if b == 0 then Some (Flag a Rising) else (if b == 1 then Some (Flag a Falling) else None)

abbrev pub decode : ℕ → ℕ → ℕ → Option Driver
decode t a b =
    if t == 0 then (if a == 0 then unused b Constant else None)
    else (if t == 1 then Some (gate a b)
    else (if t == 2 then unused b (Port a)
    else (if t == 3 then flag_in a b
    else (if t == 4 then unused b (Dff a)
    else (if t == 5 then unused b (Ram a) else None)))))

unfoldable pub decode_at : List ℕ → ℕ → Option Driver
decode_at ws u = decode (get_or ws (3 * u) 0) (get_or ws (3 * u + 1) 0) (get_or ws (3 * u + 2) 0)

-- ---- the records in words
abbrev pub record_words : Record → List ℕ
record_words r = r.next ∷ r.enable ∷ r.pin ∷ []

abbrev pub ram_words : RamRow → List ℕ
ram_words r =
    r.read_enable ∷ (r.read_address ++ (r.read_data ++ (r.write_address ++ (r.write_enable ++ r.write_data))))

-- the n words from a on
abbrev pub words_from : List ℕ → ℕ → ℕ → List ℕ
words_from ws a n = map (λ i. get_or ws (a + i) 0) (upto n)

abbrev pub record_in : List ℕ → ℕ → Record
record_in ws k = record { next = get_or ws (3 * k) 0; enable = get_or ws (3 * k + 1) 0; pin = get_or ws (3 * k + 2) 0 }

abbrev pub ram_in : List ℕ → ℕ → RamRow
ram_in ws k = record {
  read_enable = get_or ws (123 * k) 0;
  read_address = words_from ws (123 * k + 1) 13;
  read_data = words_from ws (123 * k + 14) 32;
  write_address = words_from ws (123 * k + 46) 13;
  write_enable = words_from ws (123 * k + 59) 32;
  write_data = words_from ws (123 * k + 91) 32;
}

-- ---- a netlist and a graph as they are handed in
abbrev pub netlist_in : NetlistTables → Netlist
netlist_in n = record { kinds = n.kinds.now; starts = n.starts.now; list = n.list.now; pins = n.pins.now; nets = n.nets.now }

pub record GraphWords : Type 0 where
  pub drivers : List ℕ
  pub outputs : List ℕ
  pub dffs : List ℕ
  pub rams : List ℕ

abbrev pub words_in : GraphTables → GraphWords
words_in g = record { drivers = g.drivers.now; outputs = g.ends.outputs.now; dffs = g.ends.dffs.now; rams = g.ends.rams.now }

-- where no driver is read
abbrev pub ends_in : EndTables → GraphWords
ends_in e = record { drivers = []; outputs = e.outputs.now; dffs = e.dffs.now; rams = e.rams.now }

-- a driver that is none of the cases is refused; until then it stands as the constant
abbrev pub driver_or : Option Driver → Driver
driver_or (Some d) = d
driver_or None = Constant

abbrev pub drivers_in : List ℕ → ℕ → List Driver
drivers_in ws pins = map (λ u. driver_or (decode_at ws u)) (upto (pins + 1))

abbrev pub graph_in : GraphCounts → GraphWords → Graph
graph_in c t = record {
  drivers = drivers_in t.drivers c.pins;
  outputs = t.outputs;
  dffs = map (record_in t.dffs) (upto c.dffs);
  rams = map (ram_in t.rams) (upto c.rams);
}

-- a graph as it would be handed in
abbrev pub counts_of : Graph → GraphCounts
counts_of g = record { pins = length g.drivers - 1; outputs = length g.outputs; dffs = length g.dffs; rams = length g.rams }

abbrev pub words_of : Graph → GraphWords
words_of g = record { drivers = flat driver_words g.drivers; outputs = g.outputs; dffs = flat record_words g.dffs; rams = flat ram_words g.rams }

-- ---- the stages in words: lower, upper (4,294,967,295: no upper end), how many pins are handed on, how many endpoints are taken
abbrev pub end_marker : ℕ
end_marker = 4294967295

abbrev pub upper_word : Option ℕ → ℕ
upper_word (Some b) = b
upper_word None = end_marker

abbrev pub row_words : Row → List ℕ
row_words r = r.lower ∷ upper_word r.upper ∷ length r.stage.handed ∷ length r.stage.taken ∷ []

abbrev pub all_handed : List Row → List ℕ
all_handed rows = flat (λ r. r.stage.handed) rows

abbrev pub all_taken : List Row → List ℕ
all_taken rows = flat (λ r. r.stage.taken) rows

-- ---- what a lent result table of a room's length holds after a call with this number: the result and then 0, or only 0
abbrev pub held : ℕ → List ℕ → ℕ → List ℕ
held zero ws room = filled ws room
held (suc k) ws room = zeros room
