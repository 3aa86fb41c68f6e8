-- What the rules' pins of a kind come to as one word a name, and what such a word allows.
use Rattle.std.specs.Prelude.{Bool, not, ◌&&◌, List, [], ◌∷◌, ℕ, ◌+◌, ◌*◌, ◌/◌, ◌%◌, max, get_or, if◌then◌else◌, ◌==◌}
use Rattle.laws.specs.Tests.{◌<?◌, one}
use Rattle.laws.specs.Lists.{any, keep}
use Rattle.rules.specs.Netlist.{Slot, slots, Kind, top, and2, inv, buf, dff, clock_gate, ram, unfit, kind_table}

-- the pins of a kind with a name
abbrev pub slots_named : ℕ → List Slot → List Slot
slots_named m ss = keep (λ s. m == s.name) ss

abbrev pub most_bits : List Slot → ℕ
most_bits [] = 0
most_bits (s ∷ ss) = max s.bits (most_bits ss)

-- how many bits, 64 more if one may be in, 128 more if out, 256 more if one must be there
abbrev pub word_of : List Slot → ℕ
word_of ss = most_bits ss + 64 * one (any (λ s. not s.out) ss) + 128 * one (any (λ s. s.out) ss) + 256 * one (any (λ s. s.must) ss)

-- the inversion digits of an AND2_xy_z
abbrev pub digits : Kind → ℕ
digits top = 0
digits (and2 x y z) = one x + 2 * one y + 4 * one z
digits inv = 0
digits buf = 0
digits dff = 0
digits clock_gate = 0
digits ram = 0
digits unfit = 0

abbrev pub word_by : Kind → ℕ → ℕ
word_by k m = if m == 31 then digits k else word_of (slots_named m (slots k))

-- by the kind's number
abbrev pub kind_word : ℕ → ℕ → ℕ
kind_word k m = word_by (get_or kind_table k unfit) m

abbrev pub slot_allows : ℕ → ℕ → ℕ → Bool
slot_allows word bit direction =
    (bit <? word % 64) && (if direction == 1 then word / 128 % 2 == 1 else word / 64 % 2 == 1)
