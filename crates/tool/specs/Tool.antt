-- The answer text of a graph, and of a text that was read no further.
use Rattle.std.specs.Prelude.{List, [], ◌∷◌, ◌++◌, ℕ, ◌+◌, ◌*◌, min, codes}
use Rattle.laws.specs.Words.{part}
use Rattle.rules.specs.declared.Tally.{Tally}
use Rattle.rules.specs.declared.GraphCounts.{GraphCounts}
use Rattle.rules.specs.declared.Refusal.{Refusal}
use Rattle.rules.specs.declared.Refusal.TheVariants.{Bounds}
use Rattle.rules.specs.Answers.{number_of}
use Rattle.texts.specs.declared.Fault.{Fault}
use Rattle.texts.specs.declared.Fault.TheVariants.{NotRecord, OutOfOrder, NotNumber, WrongNumbers}
use Rattle.sheets.specs.declared.TextRefusal.{TextRefusal}
use Rattle.sheets.specs.declared.TextRefusal.TheVariants.{Bounds as TooLarge, Broken}
use Rattle.answers.specs.Printing.{field_bytes, line_bytes, rows_bytes, numbered_bytes}
use Rattle.answers.specs.Answer.{drivers_bytes, dff_word, ram_word}

abbrev pub pins_word : List ℕ
pins_word = codes "pins"

abbrev pub lit_word : List ℕ
lit_word = codes "lit"

abbrev pub output_word : List ℕ
output_word = codes "output"

abbrev pub starts_word : List ℕ
starts_word = codes "starts"

abbrev pub fanouts_word : List ℕ
fanouts_word = codes "fanouts"

-- the pins, the literals of m netlist pins, and the drivers
unfoldable pub pins_bytes : Tally → ℕ → List ℕ → List ℕ → List ℕ
pins_bytes t m literals drivers = line_bytes pins_word (t.pins ∷ []) ++ (numbered_bytes lit_word literals 0 m ++ drivers_bytes drivers 0 (t.pins + 1))

-- the records
unfoldable pub records_bytes : GraphCounts → List ℕ → List ℕ → List ℕ → List ℕ
records_bytes c outputs dffs rams = rows_bytes output_word 1 c.outputs outputs ++ (rows_bytes dff_word 3 c.dffs dffs ++ rows_bytes ram_word 123 c.rams rams)

-- the fanouts
unfoldable pub fanouts_bytes : Tally → List ℕ → List ℕ → List ℕ
fanouts_bytes t starts fanouts = line_bytes starts_word (part starts 0 (t.pins + 2)) ++ line_bytes fanouts_word (part fanouts 0 (2 * t.gates))

-- ---- a text that is not accepted
abbrev pub refused_word : List ℕ
refused_word = codes "refused"

-- what is wrong with a broken line, in words: "not cell, pin, net or split", "out of order", "not a number", "wrong numbers"
abbrev pub not_record : List ℕ
not_record = codes "\tnot cell, pin, net or split\n"

abbrev pub out_of_order : List ℕ
out_of_order = codes "\tout of order\n"

abbrev pub not_number : List ℕ
not_number = codes "\tnot a number\n"

abbrev pub wrong_numbers : List ℕ
wrong_numbers = codes "\twrong numbers\n"

abbrev pub wrong_bytes : Fault → List ℕ
wrong_bytes NotRecord = not_record
wrong_bytes OutOfOrder = out_of_order
wrong_bytes NotNumber = not_number
wrong_bytes WrongNumbers = wrong_numbers

-- 17, the number of the line, and the words
unfoldable pub broken_bytes : ℕ → Fault → List ℕ
broken_bytes line fault = refused_word ++ (field_bytes 17 ++ (field_bytes line ++ wrong_bytes fault))

-- the number of a refusal
abbrev pub refusal_bytes : Refusal → List ℕ
refusal_bytes refusal = line_bytes refused_word (number_of refusal ∷ [])

-- 1 for a text that is too large, or the broken line
abbrev pub refused_bytes : TextRefusal → List ℕ
refused_bytes TooLarge = refusal_bytes Bounds
refused_bytes (Broken line fault) = broken_bytes (min line 262144) fault
