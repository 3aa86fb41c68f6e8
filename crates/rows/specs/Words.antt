-- The words of a RAM's row that are read off the literals of its pins.
use Rattle.std.specs.Prelude.{Bool, ◌&&◌, List, ℕ, ◌+◌, ◌-◌, ◌*◌, ◌/◌, get_or, if◌then◌else◌, ◌==◌}
use Rattle.laws.specs.Tests.{◌<?◌}
use Rattle.laws.specs.Lists.{first_or}
use Rattle.rules.specs.Netlist.{Netlist, named_bit, #R_ADDR, #R_DATA, #W_ADDR, #W_DATA, #W_EN}
use Rattle.activity.specs.Traced.{lits}

-- a pin has this name and bit
abbrev pub has_bit : List ℕ → ℕ → ℕ → ℕ → Bool
has_bit pins m b p = (get_or pins (5 * p + 1) 0 == m) && (get_or pins (5 * p + 2) 0 == b)

-- the literal of a cell's pin with a name and a bit; 0 where there is none
abbrev pub bit_lit : Netlist → ℕ → ℕ → ℕ → ℕ
bit_lit n c m b = first_or 0 (lits n) (named_bit n c m b)

-- word j: 0 for the read enable, the write enables as their pins say
unfoldable pub plain_word : Netlist → ℕ → ℕ → ℕ
plain_word n c j =
    if j == 0 then 0
    else (if j <? 14 then bit_lit n c #R_ADDR (j - 1)
    else (if j <? 46 then bit_lit n c #R_DATA (j - 14) / 2
    else (if j <? 59 then bit_lit n c #W_ADDR (j - 46)
    else (if j <? 91 then bit_lit n c #W_EN (j - 59) else bit_lit n c #W_DATA (j - 91)))))
