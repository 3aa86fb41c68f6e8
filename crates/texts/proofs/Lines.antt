-- A line as a record, and all lines of a text.
use mathlib.Core.Path.{◌≡◌, refl, sym, ◌∙◌, ap, subst}
use mathlib.Core.Bool.{Bool, true, false}
use mathlib.Core.List.{List, [], ◌∷◌, ◌++◌}
use Prim.Native.Nat.{ℕ, zero, suc, ◌+◌, ◌-◌, ◌<◌, ◌≤◌}
use native.Mathlib.Omega.{arith}
use borrow.Author.Tests.{le-leb, lt-leb, true-ltb, false-ltb}
use lib.ListN.{length, get_or, take, drop, set, length-append}
use Rattle.std.specs.Prelude.{Option, Some, None, Result, Ok, Err}
use Rattle.std.specs.Ordering.{partial_lt}
use Rattle.laws.specs.Tests.{◌<?◌, ◌≤?◌}
use Rattle.laws.specs.Lists.{every, over}
use Rattle.laws.proofs.Tests.{by_test, if_true, if_false}
use Rattle.texts.specs.declared.Sort.{Sort}
use Rattle.texts.specs.declared.Sort.TheVariants.{Cell, Pin, Net, Split}
use Rattle.texts.specs.contracts.SortPartialOrd.TheImpl.{partial_cmp-value}
use Rattle.texts.specs.declared.Reading.{Reading}
use Rattle.texts.specs.declared.Fault.TheVariants.{NotRecord, OutOfOrder, NotNumber, WrongNumbers}
use Rattle.texts.specs.declared.BrokenText.TheVariants.{TooLong}
use Rattle.texts.specs.declared.BrokenText.{BrokenText}
use Rattle.texts.specs.declared.Taken.{Taken}
use Rattle.texts.specs.Text.{before, lines, fields, stored, tab, newline}
use Rattle.texts.specs.Reading.{Held, is_number, numbers_of, sort_of, rank, sort_in, first_of, rest_of, shaped, broken, counted, placed, placed_read, word_read, line_read, reading_in, line_numbers, line_starts, more, begun, nothing, reading_of}
use Rattle.texts.specs.Meanings.{Until, count_of, Taking, fields_from, Fits, Placed, Line, Text}
use Rattle.texts.proofs.Bytes.{before-take, until_part, fields_first, lines_go_on, stored-append, stored-length}

-- ---- the fields behind a record's word
single : (t : List ℕ) (i v : ℕ) → set t i v ≡ stored t i (v ∷ [])
unfolding stored
single t i v = refl

module _ (r : Reading) (sort : Sort) (fs : List (List ℕ)) where
  read_not_number : every is_number fs ≡ false → Err (broken r (length (numbers_of fs)) NotNumber) ≡ placed_read r sort fs
  unfolding placed_read
  read_not_number e = rw e

  read_misshaped : every is_number fs ≡ true → shaped sort (length (numbers_of fs)) (get_or (numbers_of fs) 0 0) ≡ false → Err (broken r (length (numbers_of fs)) WrongNumbers) ≡ placed_read r sort fs
  unfolding placed_read
  read_misshaped e m = rw (e, m)

  read_good : every is_number fs ≡ true → shaped sort (length (numbers_of fs)) (get_or (numbers_of fs) 0 0) ≡ true → Ok (counted r (length (numbers_of fs)) sort) ≡ placed_read r sort fs
  unfolding placed_read
  read_good e m = rw (e, m)

counted_numbers : (r : Reading) (n : ℕ) (sort : Sort) → (counted r n sort).numbers ≡ r.numbers + n
counted_numbers r n Cell = refl
counted_numbers r n Pin = refl
counted_numbers r n Net = refl
counted_numbers r n Split = refl

module _ (s : List ℕ) (at : ℕ) (sort : Sort) (r : Reading) (numbers starts numbers' starts' : List ℕ)
    (p : starts' ≡ set starts r.lines r.numbers) (behind : 0 < at) where
  made : (t : Result Taken ℕ) → Taking s at numbers r.numbers numbers' t → (q : Result Reading BrokenText) → q ≡ placed_read r sort (fields_from s at) → (reading_in q).numbers ≡ r.numbers + count_of t
      → Placed r sort (fields_from s at) numbers starts q numbers' starts' (length s)
  made t g q e n = record {
    reading = e;
    numbers_stored = g.stores;
    starts_stored = p ∙ single starts r.lines r.numbers;
    few = omega (arith, n, g.few);
  }

  pub placed_not_number : (n : ℕ) → Taking s at numbers r.numbers numbers' (Err n) → (b : BrokenText) → b ≡ broken r n NotNumber
      → Placed r sort (fields_from s at) numbers starts (Err b) numbers' starts' (length s)
  placed_not_number n g b e = made (Err n) g (Err b)
      (ap Err (e ∙ ap (λ (k : ℕ). broken r k NotNumber) g.counts) ∙ read_not_number r sort (fields_from s at) (sym g.numbers))
      (ap (λ (x : BrokenText). (reading_in (Err x)).numbers) e)

  module _ (t : Taken) (g : Taking s at numbers r.numbers numbers' (Ok t)) (b : Bool) (se : b ≡ shaped sort t.count t.first) where
    same : shaped sort (length (numbers_of (fields_from s at))) (get_or (numbers_of (fields_from s at)) 0 0) ≡ b
    same = sym (se ∙ ap (λ (k : ℕ). shaped sort k t.first) g.counts ∙ ap (λ (k : ℕ). shaped sort (length (numbers_of (fields_from s at))) k) g.begins)

    pub placed_misshaped : b ≡ false → (q : BrokenText) → q ≡ broken r t.count WrongNumbers
        → Placed r sort (fields_from s at) numbers starts (Err q) numbers' starts' (length s)
    placed_misshaped f q e = made (Ok t) g (Err q)
        (ap Err (e ∙ ap (λ (k : ℕ). broken r k WrongNumbers) g.counts) ∙ read_misshaped r sort (fields_from s at) (sym g.numbers) (same ∙ f))
        (ap (λ (x : BrokenText). (reading_in (Err x)).numbers) e)

    pub placed_good : b ≡ true → (q : Reading) → q ≡ counted r t.count sort
        → Placed r sort (fields_from s at) numbers starts (Ok q) numbers' starts' (length s)
    placed_good f q e = made (Ok t) g (Ok q)
        (ap Ok (e ∙ ap (λ (k : ℕ). counted r k sort) g.counts) ∙ read_good r sort (fields_from s at) (sym g.numbers) (same ∙ f))
        (ap (λ (x : Reading). x.numbers) e ∙ counted_numbers r t.count sort)

-- ---- a line
nothing_stored : (t : List ℕ) (i : ℕ) → t ≡ stored t i []
unfolding stored
nothing_stored t i = refl

-- the order that Rust derives is that of the ranks
rank_less : (a b : Sort) → partial_lt partial_cmp-value.it a b ≡ (rank a <? rank b)
rank_less Cell Cell = refl
rank_less Cell Pin = refl
rank_less Cell Net = refl
rank_less Cell Split = refl
rank_less Pin Cell = refl
rank_less Pin Pin = refl
rank_less Pin Net = refl
rank_less Pin Split = refl
rank_less Net Cell = refl
rank_less Net Pin = refl
rank_less Net Net = refl
rank_less Net Split = refl
rank_less Split Cell = refl
rank_less Split Pin = refl
rank_less Split Net = refl
rank_less Split Split = refl

pub sort_before : (a b : Sort) → true ≡ partial_lt partial_cmp-value.it a b → rank a < rank b
sort_before a b e = true-ltb (rank a) (rank b) (e ∙ rank_less a b)

pub sort_behind : (a b : Sort) → false ≡ partial_lt partial_cmp-value.it a b → rank b ≤ rank a
sort_behind a b e = false-ltb (rank a) (rank b) (e ∙ rank_less a b)

module _ (s : List ℕ) (e : ℕ) (u : Until s 0 9 e) where
  word_of : take e s ≡ first_of (fields s)
  word_of =
      let q : e ≡ length (before tab s) = omega (arith, u.is) in
      ap (λ (k : ℕ). take k s) q ∙ before-take tab s ∙ sym (ap first_of (fields_first s))

  rest_of_lem : fields_from s (e + 1) ≡ rest_of (fields s)
  rest_of_lem =
      let q : e + 1 ≡ length (before tab s) + 1 = omega (arith, u.is) in
      ap (λ (k : ℕ). fields_from s k) q ∙ sym (ap rest_of (fields_first s))

  sort_is : (found : Option Sort) → found ≡ sort_of (take e s) → sort_in s ≡ found
  sort_is found se = sym (se ∙ ap sort_of word_of)

  read_as : (found : Option Sort) (r : Reading) → found ≡ sort_of (take e s) → word_read r found (rest_of (fields s)) ≡ line_read r s
  unfolding line_read
  read_as found r se = sym (ap (λ (o : Option Sort). word_read r o (rest_of (fields s))) (sort_is found se))

  module _ (r : Reading) (numbers starts : List ℕ) where
    not_placed : placed r.latest (sort_in s) ≡ false → (b : BrokenText) → Err b ≡ line_read r s → (reading_in (Err b)).numbers ≡ r.numbers + 0 → Line s r numbers starts (Err b) numbers starts
    not_placed f b w n = record {
      reading = w;
      numbers_stored = nothing_stored numbers r.numbers ∙ ap (λ (vs : List ℕ). stored numbers r.numbers vs) (sym (if_false (placed r.latest (sort_in s)) (numbers_of (rest_of (fields s))) [] f));
      starts_stored = nothing_stored starts r.lines ∙ ap (λ (vs : List ℕ). stored starts r.lines vs) (sym (if_false (placed r.latest (sort_in s)) (r.numbers ∷ []) [] f));
      few = omega (arith, n);
    }

    pub line_no_word : None ≡ sort_of (take e s) → (b : BrokenText) → b ≡ broken r 0 NotRecord → Line s r numbers starts (Err b) numbers starts
    line_no_word se b w = not_placed (ap (λ (o : Option Sort). placed r.latest o) (sort_is None se)) b (ap Err w ∙ read_as None r se) (ap (λ (x : BrokenText). (reading_in (Err x)).numbers) w)

    module _ (sort : Sort) (se : Some sort ≡ sort_of (take e s)) where
      pub line_early : rank sort < rank r.latest → (b : BrokenText) → b ≡ broken r 0 OutOfOrder → Line s r numbers starts (Err b) numbers starts
      line_early l b w =
          let f : (rank r.latest ≤? rank sort) ≡ false = lt-leb (rank r.latest) (rank sort) l in
          not_placed (ap (λ (o : Option Sort). placed r.latest o) (sort_is (Some sort) se) ∙ f) b
          (ap Err w ∙ sym (if_false (rank r.latest ≤? rank sort) (placed_read r sort (rest_of (fields s))) (Err (broken r 0 OutOfOrder)) f) ∙ read_as (Some sort) r se)
          (ap (λ (x : BrokenText). (reading_in (Err x)).numbers) w)

      pub line_placed : (q : Result Reading BrokenText) (numbers' starts' : List ℕ) → rank r.latest ≤ rank sort
          → Placed r sort (fields_from s (e + 1)) numbers starts q numbers' starts' (length s) → Line s r numbers starts q numbers' starts'
      line_placed q numbers' starts' l p =
          let t : (rank r.latest ≤? rank sort) ≡ true = le-leb (rank r.latest) (rank sort) l in
          let b : placed r.latest (sort_in s) ≡ true = ap (λ (o : Option Sort). placed r.latest o) (sort_is (Some sort) se) ∙ t in
          record {
            reading = p.reading ∙ ap (λ (fs : List (List ℕ)). placed_read r sort fs) rest_of_lem
                ∙ sym (if_true (rank r.latest ≤? rank sort) (placed_read r sort (rest_of (fields s))) (Err (broken r 0 OutOfOrder)) t) ∙ read_as (Some sort) r se;
            numbers_stored = p.numbers_stored ∙ ap (λ (fs : List (List ℕ)). stored numbers r.numbers (numbers_of fs)) rest_of_lem
                ∙ ap (λ (vs : List ℕ). stored numbers r.numbers vs) (sym (if_true (placed r.latest (sort_in s)) (numbers_of (rest_of (fields s))) [] b));
            starts_stored = p.starts_stored ∙ ap (λ (vs : List ℕ). stored starts r.lines vs) (sym (if_true (placed r.latest (sort_in s)) (r.numbers ∷ []) [] b));
            few = p.few;
          }

-- ---- a line that is not broken
pub record Kept (r q : Reading) (line : List ℕ) : Type 0 where
  pub lines : q.lines ≡ r.lines + 1
  pub numbers : q.numbers ≡ r.numbers + length (line_numbers r.latest line)
  pub starts : length (line_starts r.latest r.numbers line) ≡ 1
  pub cells : q.cells ≤ r.cells + 1
  pub pins : q.pins ≤ r.pins + 1
  pub nets : q.nets ≤ r.nets + 1
  pub splits : q.splits ≤ r.splits + 1

-- a record more is one line more, and at most one more of each sort
record More (r q : Reading) (n : ℕ) : Type 0 where
  lines : q.lines ≡ r.lines + 1
  numbers : q.numbers ≡ r.numbers + n
  cells : q.cells ≤ r.cells + 1
  pins : q.pins ≤ r.pins + 1
  nets : q.nets ≤ r.nets + 1
  splits : q.splits ≤ r.splits + 1

counted_more : (r : Reading) (n : ℕ) (sort : Sort) → More r (counted r n sort) n
counted_more r n Cell = record { lines = refl; numbers = refl; cells = omega arith; pins = omega arith; nets = omega arith; splits = omega arith }
counted_more r n Pin = record { lines = refl; numbers = refl; cells = omega arith; pins = omega arith; nets = omega arith; splits = omega arith }
counted_more r n Net = record { lines = refl; numbers = refl; cells = omega arith; pins = omega arith; nets = omega arith; splits = omega arith }
counted_more r n Split = record { lines = refl; numbers = refl; cells = omega arith; pins = omega arith; nets = omega arith; splits = omega arith }

not_both : {P : Type 0} (q : Reading) (b : BrokenText) (x : Result Reading BrokenText) → Ok q ≡ x → x ≡ Err b → P
not_both q b x e f = cc

same_reading : (q p : Reading) (x : Result Reading BrokenText) → Ok q ≡ x → x ≡ Ok p → q ≡ p
same_reading q p x e f = cc

module _ (r : Reading) (line : List ℕ) where
  kept : (sort : Sort) → placed r.latest (sort_in line) ≡ true → (q : Reading) → q ≡ counted r (length (numbers_of (rest_of (fields line)))) sort → Kept r q line
  kept sort b q e = record {
    lines = m.lines;
    numbers = m.numbers ∙ ap (λ (vs : List ℕ). r.numbers + length vs) (sym (if_true (placed r.latest (sort_in line)) (numbers_of (rest_of (fields line))) [] b));
    starts = ap length (if_true (placed r.latest (sort_in line)) (r.numbers ∷ []) [] b);
    cells = m.cells;
    pins = m.pins;
    nets = m.nets;
    splits = m.splits;
  }
    where
      m : More r q (length (numbers_of (rest_of (fields line))))
      m = subst (λ (x : Reading). More r x (length (numbers_of (rest_of (fields line))))) (sym e) (counted_more r (length (numbers_of (rest_of (fields line)))) sort)

  kept_as : (found : Option Sort) → sort_in line ≡ found → (q : Reading) → Ok q ≡ word_read r found (rest_of (fields line)) → Kept r q line
  unfolding placed_read
  kept_as None f q e = not_both q (broken r 0 NotRecord) _ e refl
  kept_as (Some sort) f q e = by_test (rank r.latest ≤? rank sort)
      (λ u. by_test (every is_number (rest_of (fields line)))
      (λ v. by_test (shaped sort (length (numbers_of (rest_of (fields line)))) (get_or (numbers_of (rest_of (fields line))) 0 0))
      (λ w. kept sort (ap (λ (o : Option Sort). placed r.latest o) f ∙ u) q (same_reading q (counted r (length (numbers_of (rest_of (fields line)))) sort) _ e (rw (u, v, w))))
      (λ w. not_both q (broken r (length (numbers_of (rest_of (fields line)))) WrongNumbers) _ e (rw (u, v, w))))
      (λ v. not_both q (broken r (length (numbers_of (rest_of (fields line)))) NotNumber) _ e (rw (u, v))))
      (λ u. not_both q (broken r 0 OutOfOrder) _ e (rw u))

  pub line_kept : (q : Reading) → Ok q ≡ line_read r line → Kept r q line
  unfolding line_read
  line_kept q e = kept_as (sort_in line) refl q e

-- ---- all lines
abbrev pub held_by : Result Reading BrokenText → List ℕ → List ℕ → Held
held_by r ns ss = record { reading = r; numbers = ns; starts = ss }

pub record Going (text numbers₀ starts₀ numbers starts : List ℕ) (r : Reading) (at : ℕ) : Type 0 where
  pub ns : List ℕ
  pub ss : List ℕ
  pub numbers_stored : numbers ≡ stored numbers₀ 0 ns
  pub starts_stored : starts ≡ stored starts₀ 0 ss
  pub numbers_count : length ns ≡ r.numbers
  pub starts_count : length ss ≡ r.lines
  pub rest : over more (held_by (Ok r) ns ss) (lines (drop at text)) ≡ over more (nothing (Ok begun)) (lines text)
  pub lines_few : r.lines ≤ at
  pub numbers_few : r.numbers ≤ at
  pub cells : r.cells ≤ r.lines
  pub pins : r.pins ≤ r.lines
  pub nets : r.nets ≤ r.lines
  pub splits : r.splits ≤ r.lines
  pub inside : at ≤ length text + 1
  pub numbers_long : length numbers ≡ length numbers₀
  pub starts_long : length starts ≡ length starts₀

pub going_begins : (text numbers starts : List ℕ) (r : Reading) → r ≡ begun → Going text numbers starts numbers starts r 0
going_begins text numbers starts r e = subst (λ (x : Reading). Going text numbers starts numbers starts x 0) (sym e) (record {
  ns = [];
  ss = [];
  numbers_stored = nothing_stored numbers 0;
  starts_stored = nothing_stored starts 0;
  numbers_count = refl;
  starts_count = refl;
  rest = refl;
  lines_few = omega arith;
  numbers_few = omega arith;
  cells = omega arith;
  pins = omega arith;
  nets = omega arith;
  splits = omega arith;
  inside = omega arith;
  numbers_long = refl;
  starts_long = refl;
})

more_good : (r : Reading) (ns ss line : List ℕ)
    → more (held_by (Ok r) ns ss) line ≡ held_by (line_read r line) (ns ++ line_numbers r.latest line) (ss ++ line_starts r.latest r.numbers line)
unfolding more
more_good r ns ss line = refl

over-broken : (b : BrokenText) (ns ss : List ℕ) (ls : List (List ℕ)) → over more (held_by (Err b) ns ss) ls ≡ held_by (Err b) ns ss
unfolding more
over-broken b ns ss [] = refl
over-broken b ns ss (l ∷ ls) = over-broken b ns ss ls

drop_all : (n : ℕ) (l : List ℕ) → length l ≤ n → drop n l ≡ []
drop_all zero [] h = refl
drop_all (suc n) [] h = refl
drop_all zero (x ∷ xs) h = absurd (omega (arith, h))
drop_all (suc n) (x ∷ xs) h = drop_all n xs (omega (arith, h))

text_read : (text : List ℕ) → length text ≤ 262144 → reading_of text ≡ over more (nothing (Ok begun)) (lines text)
unfolding reading_of
text_read text l = if_true (length text ≤? 262144) (over more (nothing (Ok begun)) (lines text)) (nothing (Err TooLong)) (le-leb (length text) 262144 l)

text_of : (text numbers₀ starts₀ : List ℕ) (r : Result Reading BrokenText) (ns ss numbers starts : List ℕ) → length text ≤ 262144
    → held_by r ns ss ≡ over more (nothing (Ok begun)) (lines text) → numbers ≡ stored numbers₀ 0 ns → starts ≡ stored starts₀ 0 ss → Text text numbers₀ starts₀ r numbers starts
text_of text numbers₀ starts₀ r ns ss numbers starts l e n s =
    let q : held_by r ns ss ≡ reading_of text = e ∙ sym (text_read text l) in
    record {
      reading = ap (λ (h : Held). h.reading) q;
      numbers_stored = n ∙ ap (λ (h : Held). stored numbers₀ 0 h.numbers) q;
      starts_stored = s ∙ ap (λ (h : Held). stored starts₀ 0 h.starts) q;
    }

stored_on : (t ws vs t' t'' : List ℕ) (n : ℕ) → t' ≡ stored t 0 ws → length ws ≡ n → t'' ≡ stored t' n vs → t'' ≡ stored t 0 (ws ++ vs)
stored_on t ws vs t' t'' n e c f =
    let q : 0 + length ws ≡ n = omega (arith, c) in
    f ∙ ap (λ (l : List ℕ). stored l n vs) e ∙ ap (λ (k : ℕ). stored (stored t 0 ws) k vs) (sym q) ∙ sym (stored-append ws vs t 0)

module _ (text numbers₀ starts₀ numbers starts : List ℕ) (r : Reading) (at : ℕ) (g : Going text numbers₀ starts₀ numbers starts r at) (fits : length text ≤ 262144) where
  pub going_fits : (e : ℕ) → Until text at 10 e → Fits r (length (take (e - at) (drop at text)) + 1)
  going_fits e u = record {
    lines = omega (arith, g.lines_few, long, u.is, u.inside);
    numbers = omega (arith, g.numbers_few, long, u.is, u.inside);
    cells = g.cells;
    pins = g.pins;
    nets = g.nets;
    splits = g.splits;
  }
    where
      long : length (take (e - at) (drop at text)) ≡ length (before newline (drop at text))
      long = ap length (until_part text at 10 e u)

  pub going_ends : length text ≤ at → Text text numbers₀ starts₀ (Ok r) numbers starts
  unfolding lines
  going_ends l = text_of text numbers₀ starts₀ (Ok r) g.ns g.ss numbers starts fits (sym (ap (λ (x : List ℕ). over more (held_by (Ok r) g.ns g.ss) (lines x)) none_left) ∙ g.rest) g.numbers_stored g.starts_stored
    where
      none_left : drop at text ≡ []
      none_left = drop_all at text l

  module _ (e : ℕ) (inside : at < length text) (u : Until text at 10 e) (q : Result Reading BrokenText) (numbers' starts' : List ℕ)
      (line : Line (take (e - at) (drop at text)) r numbers starts q numbers' starts') where
    line_same : take (e - at) (drop at text) ≡ before newline (drop at text)
    line_same = until_part text at 10 e u

    line' : Line (before newline (drop at text)) r numbers starts q numbers' starts'
    line' = subst (λ (x : List ℕ). Line x r numbers starts q numbers' starts') line_same line

    next : over more (held_by q (g.ns ++ line_numbers r.latest (before newline (drop at text))) (g.ss ++ line_starts r.latest r.numbers (before newline (drop at text)))) (lines (drop (e + 1) text))
        ≡ over more (nothing (Ok begun)) (lines text)
    next =
        let k : e + 1 ≡ at + length (before newline (drop at text)) + 1 = omega (arith, u.is) in
        ap (λ (n : ℕ). over more (held_by q (g.ns ++ line_numbers r.latest (before newline (drop at text))) (g.ss ++ line_starts r.latest r.numbers (before newline (drop at text)))) (lines (drop n text))) k
        ∙ ap (λ (x : Result Reading BrokenText). over more (held_by x (g.ns ++ line_numbers r.latest (before newline (drop at text))) (g.ss ++ line_starts r.latest r.numbers (before newline (drop at text)))) (lines (drop (at + length (before newline (drop at text)) + 1) text))) line'.reading
        ∙ sym (ap (λ (h : Held). over more h (lines (drop (at + length (before newline (drop at text)) + 1) text))) (more_good r g.ns g.ss (before newline (drop at text))))
        ∙ sym (ap (λ (ls : List (List ℕ)). over more (held_by (Ok r) g.ns g.ss) ls) (lines_go_on text at inside))
        ∙ g.rest

    numbers_now : numbers' ≡ stored numbers₀ 0 (g.ns ++ line_numbers r.latest (before newline (drop at text)))
    numbers_now = stored_on numbers₀ g.ns (line_numbers r.latest (before newline (drop at text))) numbers numbers' r.numbers g.numbers_stored g.numbers_count line'.numbers_stored

    starts_now : starts' ≡ stored starts₀ 0 (g.ss ++ line_starts r.latest r.numbers (before newline (drop at text)))
    starts_now = stored_on starts₀ g.ss (line_starts r.latest r.numbers (before newline (drop at text))) starts starts' r.lines g.starts_stored g.starts_count line'.starts_stored

    pub going_breaks : (b : BrokenText) → q ≡ Err b → Text text numbers₀ starts₀ (Err b) numbers' starts'
    going_breaks b n = text_of text numbers₀ starts₀ (Err b) (g.ns ++ line_numbers r.latest (before newline (drop at text))) (g.ss ++ line_starts r.latest r.numbers (before newline (drop at text))) numbers' starts' fits
        (sym (over-broken b (g.ns ++ line_numbers r.latest (before newline (drop at text))) (g.ss ++ line_starts r.latest r.numbers (before newline (drop at text))) (lines (drop (e + 1) text)))
        ∙ ap (λ (x : Result Reading BrokenText). over more (held_by x (g.ns ++ line_numbers r.latest (before newline (drop at text))) (g.ss ++ line_starts r.latest r.numbers (before newline (drop at text)))) (lines (drop (e + 1) text))) (sym n) ∙ next)
        numbers_now starts_now

    pub going_on : (r' : Reading) → q ≡ Ok r' → Going text numbers₀ starts₀ numbers' starts' r' (e + 1)
    going_on r' z = record {
      ns = g.ns ++ line_numbers r.latest (before newline (drop at text));
      ss = g.ss ++ line_starts r.latest r.numbers (before newline (drop at text));
      numbers_stored = numbers_now;
      starts_stored = starts_now;
      numbers_count = length-append g.ns (line_numbers r.latest (before newline (drop at text))) ∙ omega (arith, g.numbers_count, k.numbers);
      starts_count = length-append g.ss (line_starts r.latest r.numbers (before newline (drop at text))) ∙ omega (arith, g.starts_count, k.lines, k.starts);
      rest = ap (λ (x : Result Reading BrokenText). over more (held_by x (g.ns ++ line_numbers r.latest (before newline (drop at text))) (g.ss ++ line_starts r.latest r.numbers (before newline (drop at text)))) (lines (drop (e + 1) text))) (sym z) ∙ next;
      lines_few = omega (arith, k.lines, g.lines_few, u.is);
      numbers_few = omega (arith, ap (λ (x : Result Reading BrokenText). (reading_in x).numbers) z, line'.few, g.numbers_few, u.is);
      cells = omega (arith, k.lines, k.cells, g.cells);
      pins = omega (arith, k.lines, k.pins, g.pins);
      nets = omega (arith, k.lines, k.nets, g.nets);
      splits = omega (arith, k.lines, k.splits, g.splits);
      inside = omega (arith, u.inside);
      numbers_long = ap length numbers_now ∙ stored-length (g.ns ++ line_numbers r.latest (before newline (drop at text))) numbers₀ 0;
      starts_long = ap length starts_now ∙ stored-length (g.ss ++ line_starts r.latest r.numbers (before newline (drop at text))) starts₀ 0;
    }
      where
        k : Kept r r' (before newline (drop at text))
        k = line_kept r (before newline (drop at text)) r' (sym z ∙ line'.reading)

pub text_long : (text numbers starts : List ℕ) → 262144 < length text → Text text numbers starts (Err TooLong) numbers starts
unfolding reading_of
text_long text numbers starts l =
    let q : reading_of text ≡ nothing (Err TooLong) = if_false (length text ≤? 262144) (over more (nothing (Ok begun)) (lines text)) (nothing (Err TooLong)) (lt-leb (length text) 262144 l) in
    record {
      reading = sym (ap (λ (h : Held). h.reading) q);
      numbers_stored = nothing_stored numbers 0 ∙ sym (ap (λ (h : Held). stored numbers 0 h.numbers) q);
      starts_stored = nothing_stored starts 0 ∙ sym (ap (λ (h : Held). stored starts 0 h.starts) q);
    }
