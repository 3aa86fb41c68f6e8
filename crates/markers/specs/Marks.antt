-- Markers in words, and how they are worked out along the events.
use Rattle.std.specs.Prelude.{Option, None, Some, ◌≡◌, Bool, true, false, List, [], ◌∷◌, ℕ, zero, suc, ◌+◌, ◌*◌, ◌<◌, ◌≤◌, length, get_or, set}
use Rattle.laws.specs.Lists.{count}
use Rattle.rules.specs.Netlist.{Netlist, size}
use Rattle.rules.specs.Build.{Role, tied, wire, out_port, in_port, and_out, inv_out, buf_out, gate_out, dff_out, ram_out, nothing, role, events}
use Rattle.rules.specs.Refusals.{loop_free, mark}
use Rattle.orders.specs.State.{events_of}

abbrev pub mark_word : Option Bool → ℕ
mark_word None = 0
mark_word (Some false) = 1
mark_word (Some true) = 2

abbrev pub turned : ℕ → ℕ
turned zero = 0
turned (suc zero) = 2
turned (suc (suc zero)) = 1
turned (suc (suc (suc k))) = 0

-- the pins that a pin takes a marker from
abbrev pub taken_from : Role → List ℕ
taken_from (tied b) = []
taken_from (wire q) = q ∷ []
taken_from (out_port q) = q ∷ []
taken_from in_port = []
taken_from (and_out x y z a b) = []
taken_from (inv_out a) = a ∷ []
taken_from (buf_out a) = a ∷ []
taken_from (gate_out cp e) = []
taken_from (dff_out c) = []
taken_from (ram_out c b) = []
taken_from nothing = []

pub record Inside (m : ℕ) (r : Role) : Type 0 where
  pub below : (o : ℕ) → 0 < count o (taken_from r) → o < m

-- a pin's word, by the words from m on
abbrev pub word_by : List ℕ → ℕ → Role → ℕ
word_by w m (tied b) = 0
word_by w m (wire q) = get_or w (m + q) 0
word_by w m (out_port q) = get_or w (m + q) 0
word_by w m in_port = 0
word_by w m (and_out x y z a b) = 0
word_by w m (inv_out a) = turned (get_or w (m + a) 0)
word_by w m (buf_out a) = get_or w (m + a) 0
word_by w m (gate_out cp e) = 1
word_by w m (dff_out c) = 0
word_by w m (ram_out c b) = 0
word_by w m nothing = 0

unfoldable pub marked : Netlist → List ℕ → ℕ → List ℕ
marked n w p = set w (size n + p) (word_by w (size n) (role n p))

-- work words as the visits leave them
pub record LaidOut (n : Netlist) (w : List ℕ) : Type 0 where
  pub long : 4 * size n ≤ length w
  pub free : loop_free n ≡ true
  pub order : events_of w (2 * size n) (2 * size n) ≡ events n

pub record Marked (n : Netlist) (w w' : List ℕ) : Type 0 where
  pub marks : (p : ℕ) → p < size n → get_or w' (size n + p) 0 ≡ mark_word (mark n p)
  pub before : (j : ℕ) → j < size n → get_or w' j 0 ≡ get_or w j 0
  pub after : (j : ℕ) → 2 * size n ≤ j → get_or w' j 0 ≡ get_or w j 0
