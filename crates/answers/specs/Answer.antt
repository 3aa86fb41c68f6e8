-- The answer text: a graph and its stages, line by line.
use Rattle.std.specs.Prelude.{List, [], ◌∷◌, ◌++◌, ℕ, zero, suc, ◌+◌, ◌*◌, get_or, if◌then◌else◌, ◌==◌, codes}
use Rattle.laws.specs.Words.{part}
use Rattle.texts.specs.Text.{tab}
use Rattle.answers.specs.Printing.{field_bytes, line_bytes}

-- what drives a pin: its words in the driver table
abbrev pub const_word : List ℕ
const_word = codes "const"

abbrev pub and_word : List ℕ
and_word = codes "and"

abbrev pub port_word : List ℕ
port_word = codes "port"

abbrev pub flag_word : List ℕ
flag_word = codes "flag"

abbrev pub dff_word : List ℕ
dff_word = codes "dff"

abbrev pub ram_word : List ℕ
ram_word = codes "ram"

abbrev pub driver_word : List ℕ
driver_word = codes "driver"

-- "rising" and "falling" with a tab before and a newline behind
abbrev pub rising_end : List ℕ
rising_end = codes "\trising\n"

abbrev pub falling_end : List ℕ
falling_end = codes "\tfalling\n"

-- the rest of the line behind `driver PIN` and a tab, by the tag
unfoldable pub flag_bytes : ℕ → ℕ → List ℕ
flag_bytes a b = flag_word ++ (field_bytes a ++ (if b == 0 then rising_end else falling_end))

unfoldable pub source_bytes : ℕ → ℕ → ℕ → List ℕ
source_bytes tag a b =
    if tag == 0 then line_bytes const_word []
    else (if tag == 1 then line_bytes and_word (a ∷ b ∷ [])
    else (if tag == 2 then line_bytes port_word (a ∷ [])
    else (if tag == 3 then flag_bytes a b
    else (if tag == 4 then line_bytes dff_word (a ∷ []) else line_bytes ram_word (a ∷ [])))))

unfoldable pub driver_bytes : ℕ → ℕ → ℕ → ℕ → List ℕ
driver_bytes i tag a b = driver_word ++ (field_bytes i ++ ((tab ∷ []) ++ source_bytes tag a b))

unfoldable pub driver_at : List ℕ → ℕ → List ℕ
driver_at ds i = driver_bytes i (get_or ds (3 * i) 0) (get_or ds (3 * i + 1) 0) (get_or ds (3 * i + 2) 0)

-- n pins from i on
unfoldable pub drivers_bytes : List ℕ → ℕ → ℕ → List ℕ
drivers_bytes ds i zero = []
drivers_bytes ds i (suc n) = driver_at ds i ++ drivers_bytes ds (i + 1) n

-- a stage: its ends, what it hands on and what it takes
abbrev pub stage_word : List ℕ
stage_word = codes "stage"

abbrev pub hand_word : List ℕ
hand_word = codes "hand"

abbrev pub ends_word : List ℕ
ends_word = codes "ends"

abbrev pub open_end : List ℕ
open_end = codes "\tend\n"

-- a stage without upper end has 4,294,967,295 for it
unfoldable pub ends_bytes : ℕ → ℕ → List ℕ
ends_bytes lower upper =
    if upper == 4294967295 then stage_word ++ (field_bytes lower ++ open_end) else line_bytes stage_word (lower ∷ upper ∷ [])

-- the stage of row i; those before handed on h pins and took t endpoints
unfoldable pub stage_at : List ℕ → List ℕ → List ℕ → ℕ → ℕ → ℕ → List ℕ
stage_at rows handed taken i h t =
    ends_bytes (get_or rows (4 * i) 0) (get_or rows (4 * i + 1) 0)
    ++ (line_bytes hand_word (part handed h (get_or rows (4 * i + 2) 0)) ++ line_bytes ends_word (part taken t (get_or rows (4 * i + 3) 0)))

-- n stages from row i on
unfoldable pub stages_bytes : List ℕ → List ℕ → List ℕ → ℕ → ℕ → ℕ → ℕ → List ℕ
stages_bytes rows handed taken i h t zero = []
stages_bytes rows handed taken i h t (suc n) =
    stage_at rows handed taken i h t ++ stages_bytes rows handed taken (i + 1) (h + get_or rows (4 * i + 2) 0) (t + get_or rows (4 * i + 3) 0) n
