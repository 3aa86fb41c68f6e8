-- A RAM in step 3, in the code's shape.
use mathlib.Core.Path.{◌≡◌, refl, sym, ap, ap₂, subst, ◌∙◌}
use mathlib.Core.Bool.{Bool, true, false}
use mathlib.Core.List.{List, []}
use Prim.Native.Nat.{ℕ, zero, suc, ◌+◌, ◌-◌, ◌*◌, ◌<◌, ◌≤◌}
use native.Mathlib.Numerals.{add-one}
use native.Mathlib.Omega.{arith}
use lib.ListN.{length, get_or, set, length-set, take, drop}
use lib.Seq.{get_or-set_same, get_or-set_other}
use borrow.Author.Tests.{eq-eqb, ne_eqb, lt-ltb, ltb-true, ltb-false, eqb-true, eqb-false, leb-true, leb-false}
use Rattle.std.specs.Prelude.{Option, Some, None, ◌==◌}
use Rattle.std.proofs.lemmas.Option.{IfSome_then}
use Rattle.laws.specs.Tests.{◌<?◌, ◌≤?◌}
use Rattle.laws.specs.Lists.{count, member}
use Rattle.laws.specs.Words.{part}
use Rattle.laws.proofs.Tests.{by_test}
use Rattle.laws.proofs.Bags.{member_true, member_false, keep_le}
use Rattle.laws.proofs.Indices.{place, place_at}
use Rattle.laws.proofs.Words.{part_in}
use Rattle.rules.specs.declared.Driver.{Driver}
use Rattle.rules.specs.declared.Literal.{Literal}
use Rattle.rules.specs.declared.Tally.{Tally}
use Rattle.rules.specs.Netlist.{Netlist, pins_of, ram}
use Rattle.rules.specs.Graph.{Made, and_of}
use Rattle.rules.specs.Build.{is_clock, walk, step2}
use Rattle.tallies.specs.Counted.{ram_counted}
use Rattle.builds.proofs.Growing.{Keeps, keeps_refl, keeps_trans}
use Rattle.builds.proofs.Ands.{and_keeps}
use Rattle.builds.proofs.Walks.{trace_grows}
use Rattle.words.proofs.Tables.{Writing, writing_begins, writing_goes_on}
use Rattle.roles.specs.Reading.{Laid, either_in, has_name, cell_pins, entry_of, kind_at}
use Rattle.roles.proofs.Fitting.{laid}
use Rattle.drafts.specs.declared.Draft.{Draft}
use Rattle.drafts.specs.Table.{drivers_of, made, Open, Adds}
use Rattle.drafts.specs.Layout.{number_in}
use Rattle.activity.specs.Traced.{lits, Going, IsGoing, start_at, entry_traced}
use Rattle.drafts.proofs.Drafting.{loans_refl}
use Rattle.activity.proofs.Composing.{nothing_made, adds_longer, adds_extended, adds_going, adds_goes_on, adds_onward}
use Rattle.activity.proofs.Tracing.{entry_in}
use Rattle.flops.specs.declared.Pair.{Pair}
use Rattle.flops.specs.Flopped.{Known, Both, Doubles}
use Rattle.flops.proofs.Flopping.{known, pair_stops}
use Rattle.rows.specs.Words.{plain_word}
use Rattle.memories.specs.Remembered.{clock_at, clocks_made, reads_first, turned, ram_clocks, bits_made, BitsDone, enable_of, row_made, row_word, ClockedDone, ram_made, RowDone, RamDone, begun, fresh, short}
use Rattle.memories.proofs.Begun.{begun_pin}

-- ---- the clocks
pub entry_keeps : (n : Netlist) (ds : List Driver) (e : Option ℕ) → Keeps ds (entry_traced n ds e).drivers
entry_keeps n ds (Some p) = (trace_grows (lits n) ds (walk n p)).keeps
entry_keeps n ds None = keeps_refl ds

module _ (kinds : List ℕ) (c : ℕ) (e : kind_at (get_or kinds c 0) ≡ ram) where
  pub read_named : is_clock (kind_at (get_or kinds c 0)) 11 ≡ true
  read_named = rw e

  pub write_named : is_clock (kind_at (get_or kinds c 0)) 14 ≡ true
  write_named = rw e

module _ (n : Netlist) (d : Draft) (c : ℕ) (d₁ : Draft) where
  abbrev first : Made
  first = entry_traced n (drivers_of d) (clock_at n c 0)

  abbrev second : Made
  second = entry_traced n first.drivers (clock_at n c 1)

  pub clocks_stop : Adds (entry_traced n (drivers_of d) (entry_of (either_in n.pins 11 14 (cell_pins n.starts n.list c)) 0)) d d₁ None
      → Doubles (clocks_made n (drivers_of d) c) d d₁ None
  clocks_stop s = pair_stops first d d₁ (clocks_made n (drivers_of d) c) s (entry_keeps n first.drivers (clock_at n c 1))

  module _ (one : Literal) (s : Adds (entry_traced n (drivers_of d) (entry_of (either_in n.pins 11 14 (cell_pins n.starts n.list c)) 0)) d d₁ (Some one)) where
    pub clocks_going : IsGoing n d → IsGoing n d₁
    clocks_going g = adds_going first d d₁ one s n g (entry_keeps n (drivers_of d) (clock_at n c 0))

    module _ (d₂ : Draft) where
      then_second : (r : Option Literal) → Adds (entry_traced n (drivers_of d₁) (entry_of (either_in n.pins 11 14 (cell_pins n.starts n.list c)) 1)) d₁ d₂ r → Adds second d d₂ r
      then_second = adds_onward first d d₁ one s (λ ds. entry_traced n ds (clock_at n c 1)) d₂

      pub second_stops : Adds (entry_traced n (drivers_of d₁) (entry_of (either_in n.pins 11 14 (cell_pins n.starts n.list c)) 1)) d₁ d₂ None
          → Doubles (clocks_made n (drivers_of d) c) d d₂ None
      second_stops s₂ = record { step = then_second None s₂; first = tt }

      pub clocks_made_lem : (two : Literal) → Adds (entry_traced n (drivers_of d₁) (entry_of (either_in n.pins 11 14 (cell_pins n.starts n.list c)) 1)) d₁ d₂ (Some two)
          → Doubles (clocks_made n (drivers_of d) c) d d₂ (Some (record { first = one; second = two }))
      clocks_made_lem two s₂ = record { step = then_second (Some two) s₂; first = (adds_extended first d d₁ one s).lit }

-- which is which
module _ (starts list pins : List ℕ) (c : ℕ) (found : Option ℕ) (h : found ≡ entry_of (either_in pins 11 14 (cell_pins starts list c)) 0) where
  module _ (p : ℕ) (e : found ≡ Some p) where
    pub name_place : Laid starts list pins → c + 1 < length starts → 5 * p + 1 < length pins
    unfolding part
    name_place l b = part_in list (get_or starts c 0) (get_or starts (c + 1) 0 - get_or starts c 0) p (omega (arith, l.rise c b, l.within (c + 1) b))
        (omega (arith, entry_in (either_in pins 11 14 (cell_pins starts list c)) 0 p (sym h ∙ e), keep_le (has_name pins 11 14) p (cell_pins starts list c)))
        (λ j i q. omega (arith, q, l.entries c (get_or starts c 0 + j) b (omega arith) (omega (arith, l.rise c b, i))))

    pub name_told : (name : ℕ) → name ≡ get_or pins (5 * p + 1) 0 → (name == 11) ≡ reads_first pins (entry_of (either_in pins 11 14 (cell_pins starts list c)) 0)
    name_told name en = ap (λ (x : ℕ). x == 11) en ∙ sym (ap (reads_first pins) (sym h ∙ e))

  pub name_none : found ≡ None → true ≡ reads_first pins (entry_of (either_in pins 11 14 (cell_pins starts list c)) 0)
  name_none e = sym (ap (reads_first pins) (sym h ∙ e))

module _ (n : Netlist) (d : Draft) (c : ℕ) (d₁ : Draft) where
  abbrev b : Both
  b = clocks_made n (drivers_of d) c

  -- whichever is the read clock, the pins that are made are the same
  pub ram_clocks_stop : Doubles (clocks_made n (drivers_of d) c) d d₁ None → Doubles (ram_clocks n (drivers_of d) c) d d₁ None
  ram_clocks_stop h = by_turn (reads_first n.pins (clock_at n c 0))
    where
      by_turn : (x : Bool) → Doubles (turned x b) d d₁ None
      by_turn true = h
      by_turn false = record { step = adds_longer (start_at b.drivers b.second) d d₁ (start_at b.drivers b.first) (omega arith) h.step; first = tt }

  module _ (so : Bool) (both : Pair) (es : so ≡ reads_first n.pins (entry_of (either_in n.pins 11 14 (cell_pins n.starts n.list c)) 0))
      (h : Doubles (clocks_made n (drivers_of d) c) d d₁ (Some both)) where
    pub clocks_so : so ≡ true → Doubles (ram_clocks n (drivers_of d) c) d d₁ (Some both)
    clocks_so e = subst (λ (x : Bool). Doubles (turned x b) d d₁ (Some both)) (sym e ∙ es) h

    pub clocks-turned : so ≡ false → Doubles (ram_clocks n (drivers_of d) c) d d₁ (Some (record { first = both.second; second = both.first }))
    clocks-turned e = let l = adds_extended (start_at b.drivers b.second) d d₁ both.second h.step in
        subst (λ (x : Bool). Doubles (turned x b) d d₁ (Some (record { first = both.second; second = both.first }))) (sym e ∙ es) (record {
          step = record { loans = h.step.loans; extends = made (record { lit = both.first; tally = d₁.tally }) refl h.first l.table l.drivers l.ends l.below l.long };
          first = l.lit;
        })

-- ---- the write enables
bits_to : (ds : List Driver) (l : ℕ) (f : ℕ → ℕ) (i k d : ℕ) → d ≡ k + i → Keeps (bits_made ds l f i).drivers (bits_made ds l f d).drivers
bits_to ds l f i zero d e = let q : d ≡ i = omega (arith, e) in
    subst (λ (x : ℕ). Keeps (bits_made ds l f i).drivers (bits_made ds l f x).drivers) (sym q) (keeps_refl (bits_made ds l f i).drivers)
bits_to ds l f i (suc k) d e = let q : d ≡ suc (d - 1) = omega (arith, e) in
    subst (λ (x : ℕ). Keeps (bits_made ds l f i).drivers (bits_made ds l f x).drivers) (sym q)
    (keeps_trans (bits_to ds l f i k (d - 1) (omega (arith, e))) (and_keeps (bits_made ds l f (d - 1)).drivers (f (d - 1)) l))

pub bits_longer : (ds : List Driver) (l : ℕ) (f : ℕ → ℕ) (i k : ℕ) → i ≤ k → Keeps (bits_made ds l f i).drivers (bits_made ds l f k).drivers
bits_longer ds l f i k h = bits_to ds l f i (k - i) k (omega (arith, h))

pub bits_same : (ds : List Driver) (l : ℕ) (f g : ℕ → ℕ) (k : ℕ) → ((i : ℕ) → i < k → f i ≡ g i) → bits_made ds l f k ≡ bits_made ds l g k
bits_same ds l f g zero h = refl
bits_same ds l f g (suc k) h = ap₂ (λ (m : Made) (x : ℕ). and_of m.drivers x l) (bits_same ds l f g k (λ i b. h i (omega (arith, b)))) (h k (omega arith))

pub record Enabling (d₀ : Draft) (from l : ℕ) (rams₀ : List ℕ) (d : Draft) (rams : List ℕ) (i : ℕ) (lit : Literal) : Type 0 where
  pub inside : i ≤ 32
  pub steps : Adds (bits_made (drivers_of d₀) l (λ j. get_or rams₀ (from + j) 0) i) d₀ d (Some lit)
  pub words : Writing rams₀ from (λ j. (bits_made (drivers_of d₀) l (λ k. get_or rams₀ (from + k) 0) (suc j)).lit) i rams

pub enabling_begins : (d : Draft) (from : ℕ) (l : Literal) (rams : List ℕ) → Open d → Enabling d from l.word rams d rams 0 l
enabling_begins d from l rams h = record {
  inside = omega arith;
  steps = record { loans = loans_refl d; extends = nothing_made d.at d.work.now d.drivers.now d.tally l h };
  words = writing_begins rams from _;
}

module _ (d₀ : Draft) (from l : ℕ) (rams₀ : List ℕ) (d : Draft) (rams : List ℕ) (i : ℕ) (lit : Literal) (h : Enabling d₀ from l rams₀ d rams i lit) where
  abbrev f : ℕ → ℕ
  f j = get_or rams₀ (from + j) 0

  abbrev up_to : ℕ → Made
  up_to k = bits_made (drivers_of d₀) l f k

  pub enabling_ends : 32 ≤ i → BitsDone d₀ from l rams₀ d rams (Some lit)
  enabling_ends b = let e : i ≡ 32 = omega (arith, b, h.inside) in record {
    step = subst (λ (k : ℕ). Adds (up_to k) d₀ d (Some lit)) e h.steps;
    words = subst (λ (k : ℕ). Writing rams₀ from (λ j. (up_to (suc j)).lit) k rams) e h.words;
    long = h.words.long;
  }

  module _ (b : i < 32) (d' : Draft) where
    then_this : (r : Option Literal) → Adds (and_of (drivers_of d) (get_or rams (from + i) 0) l) d d' r → Adds (up_to (suc i)) d₀ d' r
    then_this r s = subst (λ (x : ℕ). Adds (and_of (up_to i).drivers x l) d₀ d' r) (h.words.after (from + i) (omega arith))
        (adds_onward (up_to i) d₀ d lit h.steps (λ ds. and_of ds (get_or rams (from + i) 0) l) d' r s)

    pub enabling_goes_on : (step : Literal) → Adds (and_of (drivers_of d) (get_or rams (from + i) 0) l) d d' (Some step) → from + 32 ≤ length rams₀
        → Enabling d₀ from l rams₀ d' (set rams (from + i) step.word) (i + 1) step
    enabling_goes_on step s r = record {
      inside = omega (arith, b);
      steps = subst (λ (k : ℕ). Adds (up_to k) d₀ d' (Some step)) (sym (add-one i)) (then_this (Some step) s);
      words = writing_goes_on rams₀ from (λ j. (up_to (suc j)).lit) i rams step.word h.words (omega (arith, r, b))
          (adds_extended (up_to (suc i)) d₀ d' step (then_this (Some step) s)).lit;
    }

    pub enabling_fails : Adds (and_of (drivers_of d) (get_or rams (from + i) 0) l) d d' None → BitsDone d₀ from l rams₀ d' rams None
    enabling_fails s = record {
      step = adds_longer (up_to (suc i)) d₀ d' (up_to 32) (bits_longer (drivers_of d₀) l f (suc i) 32 (omega (arith, b))).longer (then_this None s);
      words = tt;
      long = h.words.long;
    }

-- ---- the row
module _ (n : Netlist) (c k : ℕ) (d : Draft) (read write : ℕ) (rams rams₁ rams₂ rams₃ : List ℕ) (d' : Draft) (r : Option Literal)
    (room : 123 * k + 123 ≤ length rams) (filled : Writing rams (123 * k) (plain_word n c) 123 rams₁) (e₂ : rams₂ ≡ set rams₁ (123 * k) read)
    (h : BitsDone d (123 * k + 59) write rams₂ d' rams₃ r) where
  abbrev a : ℕ
  a = 123 * k

  other₂ : (j : ℕ) → (j ≡ a → ⊥) → get_or rams₂ j 0 ≡ get_or rams₁ j 0
  other₂ j ne = ap (λ (x : List ℕ). get_or x j 0) e₂ ∙ get_or-set_other rams₁ a j read 0 ne

  enables_are : (i : ℕ) → i < 32 → get_or rams₂ (a + 59 + i) 0 ≡ enable_of n c i
  enables_are i b = let e : a + 59 + i ≡ a + (59 + i) = omega arith in
      other₂ (a + 59 + i) (omega arith) ∙ ap (λ (x : ℕ). get_or rams₁ x 0) e ∙ filled.done (59 + i) (omega (arith, b))

  same_to : (i : ℕ) → i ≤ 32 → bits_made (drivers_of d) write (λ j. get_or rams₂ (a + 59 + j) 0) i ≡ row_made n c (drivers_of d) write i
  same_to i b = bits_same (drivers_of d) write (λ j. get_or rams₂ (a + 59 + j) 0) (enable_of n c) i (λ j b'. enables_are j (omega (arith, b, b')))

  ge_leb : (x y : ℕ) → x ≤ y → (x ≤? y) ≡ true
  ge_leb x y b = by_test (x ≤? y) (λ z. z) (λ z. absurd (omega (arith, b, leb-false x y z)))

  word_read : (j : ℕ) → j ≡ 0 → row_word n c (drivers_of d) read write j ≡ read
  unfolding row_word
  word_read j e = rw (eq-eqb j 0 e)

  word_enable : (j : ℕ) → 59 ≤ j → j < 91 → row_word n c (drivers_of d) read write j ≡ (row_made n c (drivers_of d) write (suc (j - 59))).lit
  unfolding row_word
  word_enable j b below = rw (ne_eqb j 0 (λ e. absurd (omega (arith, e, b))), ge_leb 59 j b, lt-ltb j 91 below)

  lt-leb : (x y : ℕ) → y < x → (x ≤? y) ≡ false
  lt-leb x y b = by_test (x ≤? y) (λ z. absurd (omega (arith, b, leb-true x y z))) (λ z. z)

  ge_ltb : (x y : ℕ) → y ≤ x → (x <? y) ≡ false
  ge_ltb x y b = by_test (x <? y) (λ z. absurd (omega (arith, b, ltb-true x y z))) (λ z. z)

  word_low : (j : ℕ) → (j ≡ 0 → ⊥) → j < 59 → row_word n c (drivers_of d) read write j ≡ plain_word n c j
  unfolding row_word
  word_low j ne b = rw (ne_eqb j 0 ne, lt-leb 59 j b)

  word_high : (j : ℕ) → 91 ≤ j → row_word n c (drivers_of d) read write j ≡ plain_word n c j
  unfolding row_word
  word_high j b = rw (ne_eqb j 0 (λ e. absurd (omega (arith, e, b))), ge_leb 59 j (omega (arith, b)), ge_ltb j 91 b)

  module _ (s : Writing rams₂ (a + 59) (λ i. (bits_made (drivers_of d) write (λ j. get_or rams₂ (a + 59 + j) 0) (suc i)).lit) 32 rams₃) where
    at_zero : (j : ℕ) → j ≡ 0 → get_or rams₃ (a + j) 0 ≡ row_word n c (drivers_of d) read write j
    at_zero j e = let q : a + j ≡ a = omega (arith, e) in
        ap (λ (x : ℕ). get_or rams₃ x 0) q ∙ s.before a (omega arith) ∙ ap (λ (x : List ℕ). get_or x a 0) e₂
        ∙ get_or-set_same rams₁ a read 0 (omega (arith, room, filled.long)) ∙ sym (word_read j e)

    at_enable : (j : ℕ) → 59 ≤ j → j < 91 → get_or rams₃ (a + j) 0 ≡ row_word n c (drivers_of d) read write j
    at_enable j b below = let q : a + j ≡ a + 59 + (j - 59) = omega (arith, b) in
        ap (λ (x : ℕ). get_or rams₃ x 0) q ∙ s.done (j - 59) (omega (arith, b, below)) ∙ ap (λ (m : Made). m.lit) (same_to (suc (j - 59)) (omega (arith, b, below))) ∙ sym (word_enable j b below)

    at_low : (j : ℕ) → (j ≡ 0 → ⊥) → j < 59 → get_or rams₃ (a + j) 0 ≡ row_word n c (drivers_of d) read write j
    at_low j ne b = s.before (a + j) (omega (arith, b)) ∙ other₂ (a + j) (λ e. ne (omega (arith, e))) ∙ filled.done j (omega (arith, b)) ∙ sym (word_low j ne b)

    at_high : (j : ℕ) → 91 ≤ j → j < 123 → get_or rams₃ (a + j) 0 ≡ row_word n c (drivers_of d) read write j
    at_high j b below = s.after (a + j) (omega (arith, b)) ∙ other₂ (a + j) (λ e. absurd (omega (arith, b, e))) ∙ filled.done j below ∙ sym (word_high j b)

    row_words_lem : Writing rams a (row_word n c (drivers_of d) read write) 123 rams₃
    row_words_lem = record {
      long = s.long ∙ ap length e₂ ∙ length-set rams₁ a read ∙ filled.long;
      done = λ j b. by_test (j == 0)
          (λ y. at_zero j (eqb-true j 0 y))
          (λ f. by_test (j <? 59)
          (λ y. at_low j (eqb-false j 0 f) (ltb-true j 59 y))
          (λ g. by_test (j <? 91)
          (λ y. at_enable j (ltb-false j 59 g) (ltb-true j 91 y))
          (λ g'. at_high j (ltb-false j 91 g') b)));
      before = λ j b. s.before j (omega (arith, b)) ∙ other₂ j (λ e. absurd (omega (arith, b, e))) ∙ filled.before j b;
      after = λ j b. s.after j (omega (arith, b)) ∙ other₂ j (λ e. absurd (omega (arith, b, e))) ∙ filled.after j b;
    }

  pub row_done : ClockedDone n c k d read write rams d' rams₃ r
  row_done = record {
    step = subst (λ (m : Made). Adds m d d' r) (same_to 32 (omega arith)) h.step;
    row = IfSome_then r h.words (λ _. row_words_lem);
    long = h.long ∙ ap length e₂ ∙ length-set rams₁ a read ∙ filled.long;
  }

pub turned_keeps : (n : Netlist) (ds : List Driver) (c : ℕ) (b : Bool) → Keeps ds (turned b (clocks_made n ds c)).drivers
turned_keeps n ds c true = keeps_trans (entry_keeps n ds (clock_at n c 0)) (entry_keeps n (entry_traced n ds (clock_at n c 0)).drivers (clock_at n c 1))
turned_keeps n ds c false = keeps_trans (entry_keeps n ds (clock_at n c 0)) (entry_keeps n (entry_traced n ds (clock_at n c 0)).drivers (clock_at n c 1))

module _ (n : Netlist) (d : Draft) (c k : ℕ) (rams : List ℕ) (d₁ : Draft) where
  abbrev x : Both
  x = ram_clocks n (drivers_of d) c

  abbrev m : Made
  m = start_at x.drivers x.second

  pub ram_stops : Doubles (ram_clocks n (drivers_of d) c) d d₁ None → RowDone n c k d rams d₁ rams None
  ram_stops h = record {
    step = adds_longer m d d₁ (ram_made n (drivers_of d) c 32) (bits_longer x.drivers x.second (enable_of n c) 0 32 (omega arith)).longer h.step;
    row = tt;
    long = refl;
  }

  module _ (clocks : Pair) (h : Doubles (ram_clocks n (drivers_of d) c) d d₁ (Some clocks)) where
    pub ram_known : IsGoing n d → Known n d₁.work.now
    ram_known g = known n d₁ (adds_going m d d₁ clocks.second h.step n g (turned_keeps n (drivers_of d) c (reads_first n.pins (clock_at n c 0))))

    pub ram_then : (d₂ : Draft) (rams₂ : List ℕ) (r : Option Literal) → ClockedDone n c k d₁ clocks.first.word clocks.second.word rams d₂ rams₂ r → RowDone n c k d rams d₂ rams₂ r
    ram_then d₂ rams₂ r e = let after = adds_extended m d d₁ clocks.second h.step in record {
      step = adds_goes_on m d d₁ clocks.second h.step (ram_made n (drivers_of d) c 32) d₂ r
          (subst (λ (y : Made). Adds y d₁ d₂ r) (ap₂ (λ (ds : List Driver) (y : ℕ). row_made n c ds y 32) after.drivers after.lit) e.step);
      row = IfSome_then r e.row (λ _. subst (λ (g : ℕ → ℕ). Writing rams (123 * k) g 123 rams₂)
          (ap₂ (λ (ds : List Driver) (y : ℕ). row_word n c ds clocks.first.word y) after.drivers after.lit ∙ ap (λ (y : ℕ). row_word n c x.drivers y x.second) h.first));
      long = e.long;
    }

-- ---- where the row stands
number_cases : (l : List ℕ) (x k : ℕ) → k ≡ number_in l x → ((k ≡ 0 → ⊥) → (0 < count x l) × (k - 1 ≡ place x l)) × (k ≡ 0 → count x l ≡ 0)
unfolding number_in
number_cases l x k e = by_test (member x l)
    (λ t. let q : k ≡ suc (place x l) = e ∙ rw t in (λ ne. (member_true x l t, omega (arith, q)), λ z. absurd (omega (arith, q, z))))
    (λ f. let q : k ≡ 0 = e ∙ rw f in (λ ne. absurd (ne q), λ z. member_false x l f))

module _ (n : Netlist) (w : List ℕ) (c start end : ℕ) (k : Known n w) (l : c < length n.kinds) (kd : kind_at (get_or n.kinds c 0) ≡ ram)
    (es : start ≡ get_or n.starts c 0) (ee : end ≡ get_or n.starts (c + 1) 0) where
  long : c + 1 < length n.starts
  long = omega (arith, l, k.fits.starts_long)

  pub number_place : 6 * length n.list + start < length w
  number_place = omega (arith, es, (laid n.kinds n.starts n.list n.pins n.nets k.fits).within c (omega (arith, long)), k.wide)

  no_list : start ≡ end → pins_of n c ≡ []
  no_list e = let q : get_or n.starts (c + 1) 0 - get_or n.starts c 0 ≡ 0 = omega (arith, es, ee, e) in ap (λ (i : ℕ). take i (drop (get_or n.starts c 0) n.list)) q

  pub number-none : start ≡ end → 0 ≡ number_in (step2 n).rams c
  unfolding number_in
  number-none e = by_test (member c (step2 n).rams)
      (λ t. let a = begun_pin n k.accepted c (member_true c (step2 n).rams t) in
      let m : 0 < count a.0 [] = subst (λ (y : List ℕ). 0 < count a.0 y) (no_list e) a.1 in absurd (omega (arith, m)))
      (λ f. rw f)

  pub number-told : (start ≡ end → ⊥) → (r : ℕ) → r ≡ get_or w (6 * length n.list + start) 0 → r ≡ number_in (step2 n).rams c
  number-told ne r er = er ∙ ap (λ (i : ℕ). get_or w (6 * length n.list + i) 0) es
      ∙ k.written.ram_numbers c l kd (omega (arith, ne, es, ee, (laid n.kinds n.starts n.list n.pins n.nets k.fits).rise c long, ap (λ (i : ℕ). get_or n.starts i 0) (add-one c)))

module _ (n : Netlist) (c number : ℕ) (e : number ≡ number_in (step2 n).rams c) (d : Draft) (rams : List ℕ) where
  pub begun_room : (number ≡ 0 → ⊥) → length (step2 n).rams ≤ d.tally.rams → 123 * d.tally.rams ≤ length rams → 123 * (number - 1) + 123 ≤ length rams
  begun_room ne a b = let q = (number_cases (step2 n).rams c number e).0 ne in omega (arith, a, b, q.1, (place_at c (step2 n).rams q.0).0)

  pub begun_done : (d' : Draft) (rams' : List ℕ) (r : Option Literal) → (number ≡ 0 → ⊥) → RowDone n c (number - 1) d rams d' rams' r → RamDone n c d rams d' rams' r
  begun_done d' rams' r ne h = let q = (number_cases (step2 n).rams c number e).0 ne in begun q.0 (subst (λ (i : ℕ). RowDone n c i d rams d' rams' r) q.1 h)

  module _ (z : number ≡ 0) where
    absent : count c (step2 n).rams ≡ 0
    absent = (number_cases (step2 n).rams c number e).1 z

    pub fresh_short : length rams < 123 * d.tally.rams + 123 → RamDone n c d rams d rams None
    fresh_short l = short absent (omega (arith, l)) refl (loans_refl d) refl refl refl

    pub fresh_done : (more : Tally) (d' : Draft) (rams' : List ℕ) (r : Option Literal) → 123 * d.tally.rams + 123 ≤ length rams → more ≡ ram_counted d.tally
        → RowDone n c d.tally.rams (record d { tally = more }) rams d' rams' r → RamDone n c d rams d' rams' r
    fresh_done more d' rams' r l em h = fresh absent (omega (arith, l)) (subst (λ (i : Tally). RowDone n c d.tally.rams (record d { tally = i }) rams d' rams' r) em h)

pub going_more : (n : Netlist) (d : Draft) (more : Tally) → IsGoing n d → more ≡ ram_counted d.tally → IsGoing n (record d { tally = more })
going_more n d more g e = subst (Going n d.at d.work.now d.drivers.now) (sym e)
    (record { grounded = g.grounded; table = record { ready = g.table.ready; gates = g.table.gates; few = g.table.few }; keeps = g.keeps })
