-- Netlist tables that fit: what lies within what.
use mathlib.Core.Path.{◌≡◌, sym, ◌∙◌, ap}
use mathlib.Core.List.{List}
use Prim.Native.Nat.{ℕ, zero, suc, ◌+◌, ◌-◌, ◌*◌, ◌<◌, ◌≤◌}
use native.Mathlib.Omega.{arith}
use lib.ListN.{length, get_or}
use Rattle.laws.specs.Words.{part}
use Rattle.laws.proofs.Indices.{at_in}
use Rattle.laws.proofs.Words.{part_length, part_at}
use Rattle.rules.specs.Netlist.{Netlist, cells, size, start_of}
use Rattle.rules.proofs.Tables.{last_start, starts_rise, in_cell, cell_fits, net_fits_lem}
use Rattle.roles.specs.Reading.{tables, Fits, Laid, cell_pins}

module _ (n : Netlist) (f : Fits n) where
  -- by how many cells follow
  upward : (k c : ℕ) → c + k ≤ cells n → start_of n c ≤ start_of n (c + k)
  upward zero c l = let e : c + 0 ≡ c = omega arith in omega (arith, ap (start_of n) e)
  upward (suc k) c l =
      let e : c + suc k ≡ c + k + 1 = omega arith in
      omega (arith, upward k c (omega arith), starts_rise n f.accepted (c + k) (omega arith), ap (start_of n) e)

  start-within : (c : ℕ) → c ≤ cells n → start_of n c ≤ size n
  start-within c l =
      let e : c + (cells n - c) ≡ cells n = omega arith in
      omega (arith, upward (cells n - c) c (omega arith), last_start n f.accepted, ap (start_of n) e)

  module _ (c j : ℕ) (l : c < cells n) (a : start_of n c ≤ j) (b : j < start_of n (c + 1)) where
    abbrev i : ℕ
    i = j - start_of n c

    abbrev k : ℕ
    k = start_of n (c + 1) - start_of n c

    at_j : get_or (cell_pins n.starts n.list c) i 0 ≡ get_or n.list j 0
    unfolding part
    at_j = let e : start_of n c + i ≡ j = omega arith in part_at n.list (start_of n c) k i (omega arith) ∙ ap (λ (x : ℕ). get_or n.list x 0) e

    long : length (cell_pins n.starts n.list c) ≡ k
    unfolding part
    long = part_length n.list (start_of n c) k (omega (arith, start-within (c + 1) (omega arith), a, b))

    named_inside : get_or n.list j 0 < size n
    named_inside = rw (sym at_j) (in_cell n f.accepted c (get_or (cell_pins n.starts n.list c) i 0) l (at_in (cell_pins n.starts n.list c) i (omega (arith, long, a, b)))).0

  lists_laid : Laid n.starts n.list n.pins
  lists_laid = record {
    rise = λ c l. starts_rise n f.accepted c (omega (arith, f.starts_long));
    within = λ c l. start-within c (omega (arith, f.starts_long));
    entries = λ c j l a b. omega (arith, named_inside c j (omega (arith, f.starts_long)) a b, f.pins_long);
  }

module _ (kinds starts list pins nets : List ℕ) (f : Fits (tables kinds starts list pins nets)) where
  pub laid : Laid starts list pins
  laid = lists_laid (tables kinds starts list pins nets) f

  module _ (p : ℕ) (l : p < length list) where
    pub pin_long : (i : ℕ) → i < 5 → 5 * p + i < length pins
    pin_long i b = omega (arith, f.pins_long)

    pub cell_inside : (c : ℕ) → c ≡ get_or pins (5 * p + 0) 0 → c < length kinds
    cell_inside c e = rw e (cell_fits (tables kinds starts list pins nets) f.accepted p l)

    pub net_inside : (t : ℕ) → t ≡ get_or pins (5 * p + 4) 0 → t < length nets
    net_inside t e = rw e (net_fits_lem (tables kinds starts list pins nets) f.accepted p l)

  -- an entry of a cell's list is one of the pins
  pub entry_inside : (c i : ℕ) → c < length kinds → i < get_or starts (c + 1) 0 - get_or starts c 0 → get_or list (get_or starts c 0 + i) 0 < length list
  entry_inside c i l b = named_inside (tables kinds starts list pins nets) f c (get_or starts c 0 + i) l (omega arith) (omega arith)
