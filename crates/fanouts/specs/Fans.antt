-- What the fanouts of a driver table are answered and left, and the state of the three passes that make them: count, sum up, fill from the back.
use Rattle.std.specs.Prelude.{◌≡◌, Result, Bool, List, [], ◌∷◌, map, ℕ, zero, suc, ◌+◌, ◌-◌, ◌*◌, ◌<◌, ◌≤◌, length, get_or, set, if◌then◌else◌, ◌==◌}
use Rattle.laws.specs.Tests.{◌≤?◌, refuse}
use Rattle.laws.specs.Lists.{count, keep, flat, upto}
use Rattle.rules.specs.declared.Refusal.{Refusal}
use Rattle.rules.specs.Build.{down_from, fanouts, fanout_starts, gate_count}
use Rattle.rules.specs.Tables.{drivers_in, held}
use Rattle.rules.specs.Answers.{done_of, fanouts_number}
use Rattle.walk.specs.State.{tag_of, first_of, second_of}

-- the whole promise: s and l are the starts and the lists as they were lent, s' and l' as they come back
pub record FannedOut (ws : List ℕ) (pins : ℕ) (s l s' l' : List ℕ) (r : Result (Unit {0}) Refusal) : Type 0 where
  pub answer : r ≡ done_of (fanouts_number pins ws (length s) (length l))
  pub held_starts : s' ≡ held (fanouts_number pins ws (length s) (length l)) (fanout_starts (drivers_in ws pins)) (length s)
  pub held_lists : l' ≡ held (fanouts_number pins ws (length s) (length l)) (fanouts (drivers_in ws pins)) (length l)

-- the same of a checked table and of results that are 0, which may all be longer: r says whether the lists have room
pub record Fanned (ws : List ℕ) (pins : ℕ) (s l s' l' : List ℕ) (r : Bool) : Type 0 where
  pub answer : r ≡ (2 * gate_count (drivers_in ws pins) ≤? length l)
  pub held_starts : s' ≡ held (refuse 11 r) (fanout_starts (drivers_in ws pins)) (length s)
  pub held_lists : l' ≡ held (refuse 11 r) (fanouts (drivers_in ws pins)) (length l)

-- ---- what is read: the pins of a gate's operands, by its words, and those of all gates below u
unfoldable pub operands_of : List ℕ → ℕ → List ℕ
operands_of ws u = if tag_of ws u == 1 then first_of ws u ∷ second_of ws u ∷ [] else []

unfoldable pub readings : List ℕ → ℕ → List ℕ
readings ws u = flat (operands_of ws) (upto u)

-- the gates below u that read p, in falling order
unfoldable pub readers_of : List ℕ → ℕ → ℕ → List ℕ
readers_of ws u p = flat (λ v. map (λ o. v) (keep (λ o. o == p) (operands_of ws v))) (down_from u)

-- ---- one pass counts
-- what counting the gate u asks of the table of counts
pub record Countable (ws s : List ℕ) (u : ℕ) : Type 0 where
  pub first_in : tag_of ws u ≡ 1 → first_of ws u < length s
  pub second_in : tag_of ws u ≡ 1 → second_of ws u < length s
  pub few : (p : ℕ) → get_or s p 0 ≤ 33554432

-- ---- the next sums up
-- the first n words of a table, summed up
unfoldable pub sum_to : List ℕ → ℕ → ℕ
sum_to w zero = 0
sum_to w (suc n) = sum_to w n + get_or w n 0

-- the first n words are sums, the rest is as it was
pub record Summed (w : List ℕ) (n : ℕ) (w' : List ℕ) : Type 0 where
  pub long : length w' ≡ length w
  pub sums : (j : ℕ) → j < n → get_or w' j 0 ≡ sum_to w (suc j)
  pub rest : (j : ℕ) → n ≤ j → get_or w' j 0 ≡ get_or w j 0

-- how often the pins below n stand in a list
unfoldable pub counts_to : List ℕ → ℕ → ℕ
counts_to l zero = 0
counts_to l (suc n) = counts_to l n + count n l

-- ---- the last fills: each reader is put before those that stand already
pub record Fan : Type 0 where
  pub starts : List ℕ
  pub lists : List ℕ

abbrev pub fan : List ℕ → List ℕ → Fan
fan s l = record { starts = s; lists = l }

abbrev pub put_before : ℕ → Fan → ℕ → Fan
put_before u f o = fan (set f.starts o (get_or f.starts o 0 - 1)) (set f.lists (get_or f.starts o 0 - 1) u)

-- what putting the gate u asks of the tables
pub record Roomy (ws s l : List ℕ) (u : ℕ) : Type 0 where
  pub first_in : tag_of ws u ≡ 1 → first_of ws u < length s
  pub first_some : tag_of ws u ≡ 1 → 0 < get_or s (first_of ws u) 0
  pub first_room : tag_of ws u ≡ 1 → get_or s (first_of ws u) 0 ≤ length l
  pub second_in : tag_of ws u ≡ 1 → second_of ws u < length s
  pub second_some : tag_of ws u ≡ 1 → 0 < get_or (set s (first_of ws u) (get_or s (first_of ws u) 0 - 1)) (second_of ws u) 0
  pub second_room : tag_of ws u ≡ 1 → get_or (set s (first_of ws u) (get_or s (first_of ws u) 0 - 1)) (second_of ws u) 0 ≤ length l

-- the lists R of the pins below m stand in the table, each up to its end; the starts say where they begin
pub record Placed (ends : ℕ → ℕ) (m : ℕ) (R : ℕ → List ℕ) (s l : List ℕ) : Type 0 where
  pub long : m < length s
  pub room : ends m ≤ length l
  pub starts : (p : ℕ) → p < m → get_or s p 0 + length (R p) ≡ ends (suc p)
  pub last : get_or s m 0 ≡ ends m
  pub past : (j : ℕ) → m < j → get_or s j 0 ≡ 0
  pub lists : (p j : ℕ) → p < m → j < length (R p) → get_or l (get_or s p 0 + j) 0 ≡ get_or (R p) j 0
  pub rest : (j : ℕ) → ends m ≤ j → get_or l j 0 ≡ 0

-- the gates below u are put, each before all smaller ones
pub record Placing (ws : List ℕ) (m : ℕ) (s l : List ℕ) (u : ℕ) : Type 0 where
  pub placed : Placed (counts_to (readings ws m)) m (readers_of ws u) s l
