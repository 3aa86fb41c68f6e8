-- A graph's words say the graph: each driver, record and RAM row is read back from where it lies.
use Rattle.std.specs.Prelude.{Some}
use mathlib.Core.Path.{◌≡◌, refl, sym, ◌∙◌, ap, subst}
use mathlib.Core.List.{List, [], ◌∷◌, ◌++◌, map}
use Prim.Native.Nat.{ℕ, zero, suc, ◌+◌, ◌-◌, ◌*◌, ◌≤◌, ◌<◌}
use native.Mathlib.Nat.{mul-zero, mul-suc}
use native.Mathlib.Omega.{arith}
use lib.ListN.{length, get_or, length-append, get_or-append}
use lib.Seq.{get_or-append-add, ext_get_or}
use Rattle.laws.specs.Lists.{flat, upto}
use Rattle.laws.proofs.Ranges.{length-map-upto, map-upto}
use Rattle.rules.specs.declared.Edge.TheVariants.{Rising, Falling}
use Rattle.rules.specs.declared.Driver.{Driver}
use Rattle.rules.specs.declared.Driver.TheVariants.{And, Port, Flag, Dff, Ram, Constant}
use Rattle.rules.specs.declared.Record.{Record}
use Rattle.rules.specs.Graph.{driver_at, RamRow, Graph, no_record, no_ram}
use Rattle.rules.specs.Tables.{driver_words, decode, decode_at, record_words, ram_words, words_from, record_in, ram_in, driver_or, drivers_in, graph_in}
use Rattle.rules.specs.Tables.{counts_of, words_of}

-- ---- rows of m words, one behind the other
module _ {A : Type 0} (f : A → List ℕ) (m : ℕ) (d : A) where
  pub flat-length : (xs : List A) → ((k : ℕ) → k < length xs → length (f (get_or xs k d)) ≡ m) → length (flat f xs) ≡ m * length xs
  flat-length [] h = omega (arith, mul-zero m)
  flat-length (x ∷ xs) h = omega (arith, length-append (f x) (flat f xs), h 0 (omega arith), flat-length xs (λ k l. h (suc k) (omega arith)), mul-suc m (length xs))

  pub flat_at : (xs : List A) → ((k : ℕ) → k < length xs → length (f (get_or xs k d)) ≡ m) → (k i : ℕ) → k < length xs → i < m
      → get_or (flat f xs) (m * k + i) 0 ≡ get_or (f (get_or xs k d)) i 0
  flat_at [] h k i l b = absurd (omega arith)
  flat_at (x ∷ xs) h zero i l b =
      let e : m * 0 + i ≡ i = omega arith in
      ap (λ (j : ℕ). get_or (f x ++ flat f xs) j 0) e ∙ get_or-append (f x) (flat f xs) 0 i (omega (arith, h 0 (omega arith)))
  flat_at (x ∷ xs) h (suc k) i l b =
      let e : m * suc k + i ≡ length (f x) + (m * k + i) = omega (arith, h 0 (omega arith), mul-suc m k) in
      ap (λ (j : ℕ). get_or (f x ++ flat f xs) j 0) e ∙ get_or-append-add (f x) (flat f xs) (m * k + i) 0 ∙ flat_at xs (λ j b'. h (suc j) (omega arith)) k i (omega arith) b

  -- the first word of a row
  pub flat_first : (xs : List A) → ((k : ℕ) → k < length xs → length (f (get_or xs k d)) ≡ m) → (k : ℕ) → k < length xs → 0 < m
      → get_or (flat f xs) (m * k) 0 ≡ get_or (f (get_or xs k d)) 0 0
  flat_first xs h k l b = let e : m * k ≡ m * k + 0 = omega arith in ap (λ (j : ℕ). get_or (flat f xs) j 0) e ∙ flat_at xs h k 0 l b

-- a list read back entry by entry
pub map_back : {A : Type 0} (d : A) (xs : List A) (f : ℕ → A) (n : ℕ) → length xs ≡ n → ((k : ℕ) → k < n → f k ≡ get_or xs k d) → map f (upto n) ≡ xs
map_back d xs f n e h = ext_get_or d (map f (upto n)) xs (length-map-upto f n ∙ sym e)
    (λ i l. let b : i < n = omega (arith, l, length-map-upto f n) in map-upto f d n i b ∙ h i b)

-- ---- drivers
three : (d : Driver) → length (driver_words d) ≡ 3
three Constant = refl
three (And a b) = refl
three (Port q) = refl
three (Flag q e) = refl
three (Dff c) = refl
three (Ram c) = refl

says : (d : Driver) → decode (get_or (driver_words d) 0 0) (get_or (driver_words d) 1 0) (get_or (driver_words d) 2 0) ≡ Some d
says Constant = refl
says (And a b) = refl
says (Port q) = refl
says (Flag q Rising) = refl
says (Flag q Falling) = refl
says (Dff c) = refl
says (Ram c) = refl

module _ (ds : List Driver) where
  pub driver_words_lem : length (flat driver_words ds) ≡ 3 * length ds
  driver_words_lem = flat-length driver_words 3 Constant ds (λ k h. three (driver_at ds k))

  -- the words of a driver say it
  pub words_say : (u : ℕ) → u < length ds → decode_at (flat driver_words ds) u ≡ Some (driver_at ds u)
  unfolding decode_at
  words_say u h =
      let s : (k : ℕ) → k < length ds → length (driver_words (driver_at ds k)) ≡ 3 = λ k l. three (driver_at ds k) in
      rw (flat_first driver_words 3 Constant ds s u h (omega arith), flat_at driver_words 3 Constant ds s u 1 h (omega arith), flat_at driver_words 3 Constant ds s u 2 h (omega arith)) (says (driver_at ds u))

  pub drivers_back : 0 < length ds → drivers_in (flat driver_words ds) (length ds - 1) ≡ ds
  drivers_back z = map_back Constant ds (λ u. driver_or (decode_at (flat driver_words ds) u)) (length ds - 1 + 1) (omega arith) (λ u h. ap driver_or (words_say u (omega arith)))

-- ---- flip-flop records
module _ (rs : List Record) where
  pub record_words_lem : length (flat record_words rs) ≡ 3 * length rs
  record_words_lem = flat-length record_words 3 no_record rs (λ k h. refl)

  pub record_back : (k : ℕ) → k < length rs → record_in (flat record_words rs) k ≡ get_or rs k no_record
  record_back k h = rw (flat_first record_words 3 no_record rs (λ j l. refl) k h (omega arith), flat_at record_words 3 no_record rs (λ j l. refl) k 1 h (omega arith), flat_at record_words 3 no_record rs (λ j l. refl) k 2 h (omega arith))

  pub records_back : map (record_in (flat record_words rs)) (upto (length rs)) ≡ rs
  records_back = map_back no_record rs (record_in (flat record_words rs)) (length rs) refl record_back

-- ---- RAM rows, whose parts have the lengths of document 01
pub record Shaped (r : RamRow) : Type 0 where
  pub read_address : length r.read_address ≡ 13
  pub read_data : length r.read_data ≡ 32
  pub write_address : length r.write_address ≡ 13
  pub write_enable : length r.write_enable ≡ 32
  pub write_data : length r.write_data ≡ 32

-- behind a first part of known length
skip : (xs ys : List ℕ) (n k : ℕ) → length xs ≡ n → get_or (xs ++ ys) (n + k) 0 ≡ get_or ys k 0
skip xs ys n k e = subst (λ (j : ℕ). get_or (xs ++ ys) (j + k) 0 ≡ get_or ys k 0) e (get_or-append-add xs ys k 0)

keep_in : (xs ys : List ℕ) (n k : ℕ) → length xs ≡ n → k < n → get_or (xs ++ ys) k 0 ≡ get_or xs k 0
keep_in xs ys n k e h = get_or-append xs ys 0 k (omega arith)

module _ (r : RamRow) (s : Shaped r) where
  abbrev from_data : List ℕ
  from_data = r.read_data ++ (r.write_address ++ (r.write_enable ++ r.write_data))

  abbrev from_write : List ℕ
  from_write = r.write_address ++ (r.write_enable ++ r.write_data)

  pub ram_length : length (ram_words r) ≡ 123
  ram_length = omega (
    arith,
    length-append r.read_address from_data,
    length-append r.read_data from_write,
    length-append r.write_address (r.write_enable ++ r.write_data),
    length-append r.write_enable r.write_data,
    s.read_address,
    s.read_data,
    s.write_address,
    s.write_enable,
    s.write_data,
  )

  -- where each part lies
  at_1 : (i : ℕ) → i < 13 → get_or (ram_words r) (1 + i) 0 ≡ get_or r.read_address i 0
  at_1 i h = let e : 1 + i ≡ suc i = omega arith in rw e (keep_in r.read_address from_data 13 i s.read_address h)

  at_14 : (i : ℕ) → get_or (ram_words r) (14 + i) 0 ≡ get_or from_data i 0
  at_14 i = let e : 14 + i ≡ suc (13 + i) = omega arith in rw e (skip r.read_address from_data 13 i s.read_address)

  at_46 : (i : ℕ) → get_or (ram_words r) (46 + i) 0 ≡ get_or from_write i 0
  at_46 i = let e : 46 + i ≡ 14 + (32 + i) = omega arith in rw e (at_14 (32 + i) ∙ skip r.read_data from_write 32 i s.read_data)

  at_59 : (i : ℕ) → get_or (ram_words r) (59 + i) 0 ≡ get_or (r.write_enable ++ r.write_data) i 0
  at_59 i = let e : 59 + i ≡ 46 + (13 + i) = omega arith in rw e (at_46 (13 + i) ∙ skip r.write_address (r.write_enable ++ r.write_data) 13 i s.write_address)

  at_91 : (i : ℕ) → get_or (ram_words r) (91 + i) 0 ≡ get_or r.write_data i 0
  at_91 i = let e : 91 + i ≡ 59 + (32 + i) = omega arith in rw e (at_59 (32 + i) ∙ skip r.write_enable r.write_data 32 i s.write_enable)

  -- the same, of a longer list of words in which the row lies
  module _ (ws : List ℕ) (a : ℕ) (lies : (j : ℕ) → j < 123 → get_or ws (a + j) 0 ≡ get_or (ram_words r) j 0) where
    part-back : (l : List ℕ) (b m : ℕ) → length l ≡ m → b + m ≤ 123 → ((i : ℕ) → i < m → get_or (ram_words r) (b + i) 0 ≡ get_or l i 0) → words_from ws (a + b) m ≡ l
    part-back l b m e h f = map_back 0 l (λ i. get_or ws (a + b + i) 0) m e
        (λ i k. let q : a + b + i ≡ a + (b + i) = omega arith in ap (λ (j : ℕ). get_or ws j 0) q ∙ lies (b + i) (omega arith) ∙ f i k)

    pub row_back : (first : get_or ws a 0 ≡ r.read_enable) → ◌≡◌ {A = RamRow} (record {
      read_enable = get_or ws a 0;
      read_address = words_from ws (a + 1) 13;
      read_data = words_from ws (a + 14) 32;
      write_address = words_from ws (a + 46) 13;
      write_enable = words_from ws (a + 59) 32;
      write_data = words_from ws (a + 91) 32;
    }) r
    row_back first = rw (
      first,
      part-back r.read_address 1 13 s.read_address (omega arith) at_1,
      part-back r.read_data 14 32 s.read_data (omega arith) (λ i h. at_14 i ∙ keep_in r.read_data from_write 32 i s.read_data h),
      part-back r.write_address 46 13 s.write_address (omega arith) (λ i h. at_46 i ∙ keep_in r.write_address (r.write_enable ++ r.write_data) 13 i s.write_address h),
      part-back r.write_enable 59 32 s.write_enable (omega arith) (λ i h. at_59 i ∙ keep_in r.write_enable r.write_data 32 i s.write_enable h),
      part-back r.write_data 91 32 s.write_data (omega arith) (λ i h. at_91 i),
    )

module _ (rs : List RamRow) (shaped : (k : ℕ) → k < length rs → Shaped (get_or rs k no_ram)) where
  pub ram_words_lem : length (flat ram_words rs) ≡ 123 * length rs
  ram_words_lem = flat-length ram_words 123 no_ram rs (λ k h. ram_length (get_or rs k no_ram) (shaped k h))

  pub ram_back : (k : ℕ) → k < length rs → ram_in (flat ram_words rs) k ≡ get_or rs k no_ram
  ram_back k h =
      let s : (j : ℕ) → j < length rs → length (ram_words (get_or rs j no_ram)) ≡ 123 = λ j l. ram_length (get_or rs j no_ram) (shaped j l) in
      row_back (get_or rs k no_ram) (shaped k h) (flat ram_words rs) (123 * k) (λ j b. flat_at ram_words 123 no_ram rs s k j h b) (flat_first ram_words 123 no_ram rs s k h (omega arith))

  pub rams_back : map (ram_in (flat ram_words rs)) (upto (length rs)) ≡ rs
  rams_back = map_back no_ram rs (ram_in (flat ram_words rs)) (length rs) refl ram_back

-- ---- the whole graph
pub graph_back : (g : Graph) → 0 < length g.drivers → ((k : ℕ) → k < length g.rams → Shaped (get_or g.rams k no_ram)) → graph_in (counts_of g) (words_of g) ≡ g
graph_back g z shaped = rw (drivers_back g.drivers z, records_back g.dffs, rams_back g.rams shaped)
