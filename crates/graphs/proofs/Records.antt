-- What the code tests, one part after the other, is what refusal 12 says of records, outputs and literals.
use mathlib.Core.Path.{◌≡◌, refl, sym, ap, ◌∙◌}
use mathlib.Core.Bool.{Bool, true, false, ◌&&◌}
use mathlib.Core.List.{List, [], ◌∷◌, ◌++◌, map}
use Prim.Native.Nat.{ℕ, zero, suc, ◌+◌, ◌-◌, ◌*◌, ◌/◌, ◌%◌, ◌<◌}
use native.Mathlib.Omega.{arith}
use lib.ListN.{length, get_or}
use borrow.Author.Tests.{lt-ltb, le-ltb, leb-true, leb-false}
use Rattle.laws.specs.Tests.{◌<?◌, ◌≤?◌}
use Rattle.laws.specs.Lists.{every, keep, flat, upto}
use Rattle.laws.proofs.Tests.{by_test}
use Rattle.laws.proofs.Bags.{every_append, flat-joined, map-append, map_same}
use Rattle.laws.proofs.Ranges.{in_upto}
use Rattle.rules.specs.declared.GraphCounts.{GraphCounts}
use Rattle.rules.specs.declared.Record.{Record}
use Rattle.rules.specs.Graph.{pin_of, RamRow}
use Rattle.rules.specs.Tables.{drivers_in, record_in, ram_in, words_from, graph_in}
use Rattle.rules.specs.Refusals.{below, no_repeat, is_dff, is_ram, ram_literals, records_fit}
use Rattle.drivers.proofs.Rows.{drivers_long_lem}
use Rattle.graphs.specs.Parts.{dff_pins_in, read_word, ram_pins_in, pins_fit, dff_literals_fit, ram_row_fits, ram_literals_fit, pins_match, pins_ok, records_ok}

-- ---- lists of rows
map-map : {A B C : Type 0} (f : B → C) (g : A → B) (l : List A) → map f (map g l) ≡ map (λ x. f (g x)) l
map-map f g [] = refl
map-map f g (x ∷ l) = ap (λ (r : List _). f (g x) ∷ r) (map-map f g l)

flat_map : {A B C : Type 0} (f : B → List C) (g : A → B) (l : List A) → flat f (map g l) ≡ flat (λ x. f (g x)) l
flat_map f g [] = refl
flat_map f g (x ∷ l) = ap (λ (r : List _). f (g x) ++ r) (flat_map f g l)

every-flat : {A : Type 0} (p : ℕ → Bool) (f : A → List ℕ) (l : List A) → every p (flat f l) ≡ every (λ x. every p (f x)) l
every-flat p f [] = refl
every-flat p f (x ∷ l) = every_append p (f x) (flat f l) ∙ ap (λ (b : Bool). every p (f x) && b) (every-flat p f l)

every_map : {A : Type 0} (p : ℕ → Bool) (f : A → ℕ) (l : List A) → every p (map f l) ≡ every (λ x. p (f x)) l
every_map p f [] = refl
every_map p f (x ∷ l) = ap (λ (b : Bool). p (f x) && b) (every_map p f l)

every_as : {A : Type 0} (p q : A → Bool) (l : List A) → ((x : A) → p x ≡ q x) → every p l ≡ every q l
every_as p q [] h = refl
every_as p q (x ∷ l) h = λ i. h x i && every_as p q l h i

-- ---- the numbers below a sum
upto-sum : (a b : ℕ) → upto (a + b) ≡ upto a ++ map (λ j. a + j) (upto b)
upto-sum a zero = ap upto (let e : a + 0 ≡ a = omega arith in e) ∙ sym (mathlib.Core.List.append-nil (upto a))
upto-sum a (suc b) =
    ap upto (let e : a + suc b ≡ suc (a + b) = omega arith in e)
    ∙ ap (λ (l : List ℕ). l ++ ((a + b) ∷ [])) (upto-sum a b)
    ∙ mathlib.Core.List.append_assoc (upto a) (map (λ j. a + j) (upto b)) ((a + b) ∷ [])
    ∙ ap (λ (l : List ℕ). upto a ++ l) (sym (map-append (λ j. a + j) (upto b) (b ∷ [])))

-- ---- the read data of all RAMs, 32 words of each
row_words_lem : (ws : List ℕ) (k : ℕ) → map (read_word ws) (map (λ j. 32 * k + j) (upto 32)) ≡ words_from ws (123 * k + 14) 32
row_words_lem ws k = map-map (read_word ws) (λ j. 32 * k + j) (upto 32)
    ∙ map_same (λ j. read_word ws (32 * k + j)) (λ j. get_or ws (123 * k + 14 + j) 0) (upto 32)
    (λ j m. ap (λ (i : ℕ). get_or ws i 0) (place j (in_upto 32 j m)))
  where
    place : (j : ℕ) → j < 32 → 123 * ((32 * k + j) / 32) + 14 + (32 * k + j) % 32 ≡ 123 * k + 14 + j
    place j l = omega arith

read_all : (ws : List ℕ) (n : ℕ) → flat (λ k. words_from ws (123 * k + 14) 32) (upto n) ≡ map (read_word ws) (upto (32 * n))
read_all ws zero = refl
read_all ws (suc n) =
    flat-joined (λ k. words_from ws (123 * k + 14) 32) (upto n) (n ∷ [])
    ∙ (λ i. read_all ws n i ++ (sym (row_words_lem ws n) i ++ []))
    ∙ ap (λ (l : List ℕ). map (read_word ws) (upto (32 * n)) ++ l) (mathlib.Core.List.append-nil (map (read_word ws) (map (λ j. 32 * n + j) (upto 32))))
    ∙ sym (map-append (read_word ws) (upto (32 * n)) (map (λ j. 32 * n + j) (upto 32)))
    ∙ ap (map (read_word ws)) (sym (upto-sum (32 * n) 32))
    ∙ ap (λ (k : ℕ). map (read_word ws) (upto k)) (let e : 32 * n + 32 ≡ 32 * suc n = omega arith in e)

-- ---- the literals of a part of a row
part_fits : (ws : List ℕ) (at n pins : ℕ) → every (λ l. pin_of l ≤? pins) (words_from ws at n) ≡ pins_fit ws at n pins
part_fits ws at n pins = every_map (λ l. pin_of l ≤? pins) (λ i. get_or ws (at + i) 0) (upto n)

-- parts that lie one behind the other
parts_fit : (ws : List ℕ) (at a b pins : ℕ) → (pins_fit ws at a pins && pins_fit ws (at + a) b pins) ≡ pins_fit ws at (a + b) pins
parts_fit ws at a b pins =
    (λ i. pins_fit ws at a pins && sym (part_fits ws (at + a) b pins) i)
    ∙ (λ i. sym (part_fits ws at a pins) i && every (λ l. pin_of l ≤? pins) (words_from ws (at + a) b))
    ∙ sym (every_append (λ l. pin_of l ≤? pins) (words_from ws at a) (words_from ws (at + a) b))
    ∙ ap (every (λ l. pin_of l ≤? pins)) joined
    ∙ part_fits ws at (a + b) pins
  where
    joined : words_from ws at a ++ words_from ws (at + a) b ≡ words_from ws at (a + b)
    joined =
        ap (λ (l : List ℕ). words_from ws at a ++ l)
        (map_same (λ i. get_or ws (at + a + i) 0) (λ i. get_or ws (at + (a + i)) 0) (upto b) (λ j m. ap (λ (k : ℕ). get_or ws k 0) (let e : at + a + j ≡ at + (a + j) = omega arith in e))
        ∙ sym (map-map (λ i. get_or ws (at + i) 0) (λ j. a + j) (upto b)))
        ∙ sym (map-append (λ i. get_or ws (at + i) 0) (upto a) (map (λ j. a + j) (upto b)))
        ∙ ap (map (λ i. get_or ws (at + i) 0)) (sym (upto-sum a b))

-- ---- a record's literals
dff_row : (ws : List ℕ) (pins k : ℕ) → every (λ l. pin_of l ≤? pins) ((record_in ws k).next ∷ (record_in ws k).enable ∷ []) ≡ pins_fit ws (3 * k) 2 pins
dff_row ws pins k = λ i. (pin_of (get_or ws (first i) 0) ≤? pins) && ((pin_of (get_or ws (3 * k + 1) 0) ≤? pins) && true)
  where
    first : 3 * k ≡ 3 * k + 0
    first = omega arith

pub dff_literals_lem : (ws : List ℕ) (n pins : ℕ)
    → every (λ l. pin_of l ≤? pins) (flat (λ r. r.next ∷ r.enable ∷ []) (map (record_in ws) (upto n))) ≡ dff_literals_fit ws n pins
dff_literals_lem ws n pins =
    ap (every (λ l. pin_of l ≤? pins)) (flat_map (λ (r : Record). r.next ∷ r.enable ∷ []) (record_in ws) (upto n))
    ∙ every-flat (λ l. pin_of l ≤? pins) (λ k. (record_in ws k).next ∷ (record_in ws k).enable ∷ []) (upto n)
    ∙ every_as (λ k. every (λ l. pin_of l ≤? pins) ((record_in ws k).next ∷ (record_in ws k).enable ∷ [])) (λ k. pins_fit ws (3 * k) 2 pins) (upto n) (dff_row ws pins)

and_five : (a b c d e : Bool) → (a && (b && (c && (d && e)))) ≡ (((a && true) && b) && (c && (d && e)))
and_five true b c d e = refl
and_five false b c d e = refl

ram_row_lem : (ws : List ℕ) (pins k : ℕ) → every (λ l. pin_of l ≤? pins) (ram_literals (ram_in ws k)) ≡ ram_row_fits ws (123 * k) pins
ram_row_lem ws pins k =
    ap (λ (b : Bool). lit (get_or ws (123 * k) 0) && b)
    (every_append lit (ram_in ws k).read_address ((ram_in ws k).write_address ++ ((ram_in ws k).write_enable ++ (ram_in ws k).write_data))
    ∙ (λ i. part_fits ws (123 * k + 1) 13 pins i && (every_append lit (ram_in ws k).write_address ((ram_in ws k).write_enable ++ (ram_in ws k).write_data)
    ∙ (λ j. part_fits ws (123 * k + 46) 13 pins j && (every_append lit (ram_in ws k).write_enable (ram_in ws k).write_data
    ∙ (λ n. part_fits ws (123 * k + 59) 32 pins n && part_fits ws (123 * k + 91) 32 pins n)) j)) i))
    ∙ and_five (lit (get_or ws (123 * k) 0)) (pins_fit ws (123 * k + 1) 13 pins) (pins_fit ws (123 * k + 46) 13 pins) (pins_fit ws (123 * k + 59) 32 pins) (pins_fit ws (123 * k + 91) 32 pins)
    ∙ (λ i. (single i && pins_fit ws (123 * k + 1) 13 pins) && (pins_fit ws (123 * k + 46) 13 pins && (pins_fit ws (59_is i) 32 pins && pins_fit ws (91_is i) 32 pins)))
    ∙ (λ i. parts_fit ws (123 * k) 1 13 pins i && (pins_fit ws (123 * k + 46) 13 pins && parts_fit ws (123 * k + 46 + 13) 32 32 pins i))
    ∙ ap (λ (b : Bool). pins_fit ws (123 * k) 14 pins && b) (parts_fit ws (123 * k + 46) 13 64 pins)
  where
    lit : ℕ → Bool
    lit l = pin_of l ≤? pins

    single : (lit (get_or ws (123 * k) 0) && true) ≡ pins_fit ws (123 * k) 1 pins
    single = ap (λ (j : ℕ). lit (get_or ws j 0) && true) (let e : 123 * k ≡ 123 * k + 0 = omega arith in e)

    59_is : 123 * k + 59 ≡ 123 * k + 46 + 13
    59_is = omega arith

    91_is : 123 * k + 91 ≡ 123 * k + 46 + 13 + 32
    91_is = omega arith

pub ram_literals_lem : (ws : List ℕ) (n pins : ℕ) → every (λ l. pin_of l ≤? pins) (flat ram_literals (map (ram_in ws) (upto n))) ≡ ram_literals_fit ws n pins
ram_literals_lem ws n pins =
    ap (every (λ l. pin_of l ≤? pins)) (flat_map ram_literals (ram_in ws) (upto n))
    ∙ every-flat (λ l. pin_of l ≤? pins) (λ k. ram_literals (ram_in ws k)) (upto n)
    ∙ every_as (λ k. every (λ l. pin_of l ≤? pins) (ram_literals (ram_in ws k))) (λ k. ram_row_fits ws (123 * k) pins) (upto n) (ram_row_lem ws pins)

-- ---- output literals: a pin up to the count is a literal below twice the pins and pin 0
output_literals : (os : List ℕ) (pins : ℕ) → every (λ l. pin_of l ≤? pins) os ≡ below (2 * (pins + 1)) os
output_literals os pins = every_as (λ l. pin_of l ≤? pins) (λ l. l <? 2 * (pins + 1)) os (λ l. by_test (pin_of l ≤? pins)
    (λ t. t ∙ sym (lt-ltb l (2 * (pins + 1)) (omega (arith, leb-true (pin_of l) pins t))))
    (λ f. f ∙ sym (le-ltb l (2 * (pins + 1)) (omega (arith, leb-false (pin_of l) pins f)))))

-- ---- all of it
order_parts : (a b o d r n : Bool) → (((a && b) && (o && (d && r))) && n) ≡ ((a && b) && ((o && n) && (d && r)))
order_parts false b o d r n = refl
order_parts true false o d r n = refl
order_parts true true false d r n = refl
order_parts true true true false r true = refl
order_parts true true true false r false = refl
order_parts true true true true true true = refl
order_parts true true true true true false = refl
order_parts true true true true false true = refl
order_parts true true true true false false = refl

pub in_order : (c : GraphCounts) (drivers outputs dffs rams : List ℕ)
    → records_ok drivers outputs dffs c.dffs rams c.rams c.pins
    ≡ records_fit (graph_in c (record { drivers = drivers; outputs = outputs; dffs = dffs; rams = rams }))
in_order c drivers outputs dffs rams = sym
    ((λ i. ((pins_match is_dff (dff_pins_lem i) (drivers_in drivers c.pins) && pins_match is_ram (ram_pins_lem i) (drivers_in drivers c.pins))
    && every (λ l. pin_of l ≤? pins_are i) (outputs ++ (dff_lits ++ ram_lits))) && no_repeat outputs)
    ∙ ap (λ (b : Bool). (pins_ok drivers dffs c.dffs rams c.rams c.pins && b) && no_repeat outputs)
    (every_append (λ l. pin_of l ≤? c.pins) outputs (dff_lits ++ ram_lits)
    ∙ (λ i. output_literals outputs c.pins i
    && (every_append (λ l. pin_of l ≤? c.pins) dff_lits ram_lits ∙ (λ j. dff_literals_lem dffs c.dffs c.pins j && ram_literals_lem rams c.rams c.pins j)) i))
    ∙ order_parts (pins_match is_dff (dff_pins_in dffs c.dffs) (drivers_in drivers c.pins)) (pins_match is_ram (ram_pins_in rams c.rams) (drivers_in drivers c.pins))
    (below (2 * (c.pins + 1)) outputs) (dff_literals_fit dffs c.dffs c.pins) (ram_literals_fit rams c.rams c.pins) (no_repeat outputs))
  where
    dff_lits : List ℕ
    dff_lits = flat (λ r. r.next ∷ r.enable ∷ []) (map (record_in dffs) (upto c.dffs))

    ram_lits : List ℕ
    ram_lits = flat ram_literals (map (ram_in rams) (upto c.rams))

    pins_are : length (drivers_in drivers c.pins) - 1 ≡ c.pins
    pins_are = omega (arith, drivers_long_lem drivers c.pins)

    dff_pins_lem : map (λ (r : Record). r.pin) (map (record_in dffs) (upto c.dffs)) ≡ dff_pins_in dffs c.dffs
    dff_pins_lem = map-map (λ (r : Record). r.pin) (record_in dffs) (upto c.dffs)

    ram_pins_lem : keep (λ p. 0 <? p) (flat (λ (r : RamRow). r.read_data) (map (ram_in rams) (upto c.rams))) ≡ ram_pins_in rams c.rams
    ram_pins_lem = ap (keep (λ p. 0 <? p)) (flat_map (λ (r : RamRow). r.read_data) (ram_in rams) (upto c.rams) ∙ read_all rams c.rams)
