-- The three passes, one after the other, over tables that may be longer than the pins ask.
use mathlib.Core.Path.{◌≡◌, sym, ap, ◌∙◌}
use mathlib.Core.Bool.{Bool, true, false}
use mathlib.Core.List.{List}
use Prim.Native.Nat.{ℕ, suc, ◌+◌, ◌*◌, ◌<◌, ◌≤◌}
use native.Mathlib.Omega.{arith}
use borrow.Author.Tests.{ltb-true, ltb-false, le-leb, lt-leb, leb-true, leb-false}
use lib.ListN.{length, get_or}
use Rattle.laws.specs.Tests.{◌<?◌, refuse}
use Rattle.laws.specs.Lists.{count, over}
use Rattle.laws.specs.Words.{zeros, filled}
use Rattle.laws.proofs.Tests.{by_test}
use Rattle.laws.proofs.Words.{zeros_at, word_past, bump, bumps, bumps_length}
use Rattle.rules.specs.Build.{fanouts, fanout_starts, gate_count}
use Rattle.rules.specs.Tables.{drivers_in, held}
use Rattle.walk.specs.State.{Operands}
use Rattle.fanouts.specs.Fans.{Fanned, readings, sum_to, Summed, counts_to, Placing}
use Rattle.fanouts.proofs.Readings.{readings_few, readings_in, readers_none, counts_all}
use Rattle.fanouts.proofs.Sums.{sum_counts}
use Rattle.fanouts.proofs.Ties.{gates_read, starts_filled, lists_filled}

-- ---- s and l are the starts and the lists as they are lent
module _ (ws : List ℕ) (pins : ℕ) (s l : List ℕ) (few : pins ≤ 16777215) (fit : Operands ws (pins + 1))
    (size : pins + 2 ≤ length s) (es : s ≡ zeros (length s)) (el : l ≡ zeros (length l)) where
  abbrev m : ℕ
  m = pins + 1

  abbrev all : List ℕ
  all = readings ws m

  start_zero : (j : ℕ) → get_or s j 0 ≡ 0
  start_zero j = ap (λ (w : List ℕ). get_or w j 0) es ∙ zeros_at (length s) j

  list_zero : (j : ℕ) → get_or l j 0 ≡ 0
  list_zero j = ap (λ (w : List ℕ). get_or w j 0) el ∙ zeros_at (length l) j

  -- nothing from m on is read
  none_past : (p : ℕ) → m ≤ p → count p all ≡ 0
  none_past p h = by_test (0 <? count p all)
      (λ t. absurd (omega (arith, h, readings_in ws m fit p (ltb-true 0 (count p all) t))))
      (λ f. omega (arith, ltb-false 0 (count p all) f))

  -- ---- s₂ holds the counts
  module _ (s₂ : List ℕ) (e₂ : s₂ ≡ over bump s all) where
    size₂ : length s₂ ≡ length s
    size₂ = ap length e₂ ∙ bumps_length all s

    count_at : (p : ℕ) → p < length s → get_or s₂ p 0 ≡ count p all
    count_at p h = ap (λ (w : List ℕ). get_or w p 0) e₂ ∙ bumps all s p h ∙ omega (arith, start_zero p)

    zero_past : (p : ℕ) → m ≤ p → get_or s₂ p 0 ≡ 0
    zero_past p h = by_test (p <? length s)
        (λ t. count_at p (ltb-true p (length s) t) ∙ none_past p h)
        (λ f. word_past s₂ p (omega (arith, size₂, ltb-false p (length s) f)))

    sum_at : (n : ℕ) → n ≤ pins + 2 → sum_to s₂ n ≡ counts_to all n
    sum_at n h = sum_counts s₂ all n (λ p b. count_at p (omega arith))

    all_counted : (n : ℕ) → m ≤ n → counts_to all n ≡ length all
    all_counted n h = counts_all all n (λ x c. omega (arith, readings_in ws m fit x c))

    pub sum_asks : sum_to s₂ (pins + 1 + 1) ≤ 4294967295
    sum_asks = omega (arith, sum_at (pins + 1 + 1) (omega arith), all_counted (pins + 1 + 1) (omega arith), readings_few ws m)

    -- ---- s₃ holds where the lists end
    module _ (s₃ : List ℕ) (q : Summed s₂ (pins + 1 + 1) s₃) where
      size₃ : length s₃ ≡ length s
      size₃ = q.long ∙ size₂

      end_at : (p : ℕ) → p < pins + 2 → get_or s₃ p 0 ≡ counts_to all (suc p)
      end_at p h = q.sums p (omega arith) ∙ sum_at (suc p) h

      module _ (t : ℕ) (et : t ≡ get_or s₃ (pins + 1) 0) where
        total_is : t ≡ counts_to all m
        total_is = et ∙ end_at m (omega arith) ∙ all_counted (suc m) (omega arith) ∙ sym (all_counted m (omega arith))

        gates_are : 2 * gate_count (drivers_in ws pins) ≡ t
        gates_are = gates_read ws pins fit ∙ sym total_is

        pub no_room : (s₄ : List ℕ) → length l < t → s₄ ≡ zeros (length s₃) → Fanned ws pins s l s₄ l false
        no_room s₄ h e₄ = record {
          answer = sym (lt-leb (2 * gate_count (drivers_in ws pins)) (length l) (omega (arith, gates_are)));
          held_starts = e₄ ∙ ap zeros size₃;
          held_lists = el;
        }

        module _ (h : t ≤ length l) where
          pub placing_begins : Placing ws (pins + 1) s₃ l 0
          placing_begins = record {
            placed = record {
              long = omega (arith, size₃);
              room = omega (arith, total_is);
              starts = λ p b. omega (arith, end_at p (omega arith), ap length (readers_none ws p));
              last = sym et ∙ total_is;
              past = λ j b. q.rest j (omega arith) ∙ zero_past j (omega arith);
              lists = λ p j b c. absurd (omega (arith, c, ap length (readers_none ws p)));
              rest = λ j b. list_zero j;
            };
          }

          pub fans_out : (s₅ l₅ : List ℕ) → length s₅ ≡ length s₃ → length l₅ ≡ length l → Placing ws (pins + 1) s₅ l₅ (pins + 1) → Fanned ws pins s l s₅ l₅ true
          fans_out s₅ l₅ a b g = record {
            answer = sym (le-leb (2 * gate_count (drivers_in ws pins)) (length l) (omega (arith, gates_are)));
            held_starts = starts_filled ws pins s₅ l₅ g ∙ ap (filled (fanout_starts (drivers_in ws pins))) (a ∙ size₃);
            held_lists = lists_filled ws pins s₅ l₅ g ∙ ap (filled (fanouts (drivers_in ws pins))) b;
          }

-- ---- what the answer says, one law for each
module _ (ws : List ℕ) (pins : ℕ) (s l s' l' : List ℕ) (r : Bool) (f : Fanned ws pins s l s' l' r) where
  abbrev gates : ℕ
  gates = gate_count (drivers_in ws pins)

  pub fanned_fits : r ≡ true → 2 * gates ≤ length l
  fanned_fits t = leb-true (2 * gates) (length l) (sym f.answer ∙ t)

  pub fanned_starts : r ≡ true → s' ≡ filled (fanout_starts (drivers_in ws pins)) (length s)
  fanned_starts t = f.held_starts ∙ ap (λ (b : Bool). held (refuse 11 b) (fanout_starts (drivers_in ws pins)) (length s)) t

  pub fanned_lists : r ≡ true → l' ≡ filled (fanouts (drivers_in ws pins)) (length l)
  fanned_lists t = f.held_lists ∙ ap (λ (b : Bool). held (refuse 11 b) (fanouts (drivers_in ws pins)) (length l)) t

  pub unfanned_room : r ≡ false → length l < 2 * gates
  unfanned_room e = leb-false (2 * gates) (length l) (sym f.answer ∙ e)

  pub unfanned_starts : r ≡ false → s' ≡ zeros (length s)
  unfanned_starts e = f.held_starts ∙ ap (λ (b : Bool). held (refuse 11 b) (fanout_starts (drivers_in ws pins)) (length s)) e

  pub unfanned_lists : r ≡ false → l' ≡ zeros (length l)
  unfanned_lists e = f.held_lists ∙ ap (λ (b : Bool). held (refuse 11 b) (fanouts (drivers_in ws pins)) (length l)) e
