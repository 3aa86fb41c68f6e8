-- Step 3 cell by cell, and the records and rows that it ends with, by the drivers that each cell began with.
use mathlib.Core.Path.{◌≡◌, refl, sym, ap, ap₂, subst, ◌∙◌}
use mathlib.Core.Bool.{true, false}
use mathlib.Core.List.{List, ◌++◌, map}
use Prim.Native.Nat.{ℕ, zero, suc, ◌+◌, ◌-◌, ◌<◌, ◌≤◌}
use native.Mathlib.Omega.{arith}
use lib.ListN.{length, get_or, length-append, get_or-append}
use lib.Seq.{get_or-append-add}
use borrow.Author.Tests.{ltb-true, ltb-false, lt-ltb, eqb-true, eqb-false, eq-eqb, ne_eqb, leb-true, leb-false}
use Rattle.std.specs.Prelude.{◌==◌}
use Rattle.laws.specs.Tests.{◌<?◌, ◌≤?◌}
use Rattle.laws.specs.Lists.{count, upto, first_or, member}
use Rattle.laws.specs.Sets.{insert}
use Rattle.laws.proofs.Tests.{by_test}
use Rattle.laws.proofs.Bags.{put_same, keep_le, first_same, member_true, member_false, count_other}
use Rattle.laws.proofs.Folds.{over_snoc, walk_inv}
use Rattle.laws.proofs.Ranges.{in_upto, map-upto, length-map-upto}
use Rattle.laws.proofs.Sets.{insert_old, insert_new}
use Rattle.laws.proofs.Indices.{snoc_kept, snoc_length}
use Rattle.rules.specs.declared.Driver.{Driver}
use Rattle.rules.specs.declared.Record.{Record}
use Rattle.rules.specs.Netlist.{Netlist, cells, name_of, pins_of, kind_of, Kind, top, and2, inv, buf, dff, clock_gate, ram, unfit, named, #R_ADDR, #R_CLK, #R_DATA, #W_ADDR, #W_DATA}
use Rattle.rules.specs.Graph.{RamRow}
use Rattle.rules.specs.Tables.{ram_words}
use Rattle.rules.specs.Build.{is_clock, clocks_of, Ends, end_cell, start3, step2, step3, record_of, ram_row_of}
use Rattle.rules.specs.Refusals.{Accepted}
use Rattle.rules.proofs.Tables.{clash, in_cell}
use Rattle.builds.proofs.Growing.{keeps_refl}
use Rattle.builds.proofs.Ends.{Holding, end_holds, start3_holds}
use Rattle.builds.proofs.Sizes.{Further, further_trans, end_further}
use Rattle.activity.specs.Traced.{lits}
use Rattle.flops.specs.Flopped.{flop_made, flop_record}
use Rattle.rows.specs.Words.{bit_lit, plain_word}
use Rattle.rows.proofs.Filling.{word_read, word_data, word_write, word_last}
use Rattle.memories.specs.Remembered.{ram_clocks, row_word, ram_made, ram_word}
use Rattle.memories.proofs.Begun.{read_half}
use Rattle.ends.specs.Ended.{ends_at}
use Rattle.ends.proofs.Cells.{Left, end_left, flop_law, ram_rams, ram_writes, ram_read_lem, plain_law}

pub kind_cases : {P : Type 0} (k : Kind) → (k ≡ dff → P) → (k ≡ ram → P) → ((k ≡ dff → ⊥) → (k ≡ ram → ⊥) → P) → P
kind_cases top a b c = c (λ e. clash (cc)) (λ e. clash (cc))
kind_cases (and2 x y z) a b c = c (λ e. clash (cc)) (λ e. clash (cc))
kind_cases inv a b c = c (λ e. clash (cc)) (λ e. clash (cc))
kind_cases buf a b c = c (λ e. clash (cc)) (λ e. clash (cc))
kind_cases dff a b c = a refl
kind_cases clock_gate a b c = c (λ e. clash (cc)) (λ e. clash (cc))
kind_cases ram a b c = b refl
kind_cases unfit a b c = c (λ e. clash (cc)) (λ e. clash (cc))

-- ---- so many cells, and one more
module _ (n : Netlist) where
  pub ends_none : ends_at n 0 ≡ start3 (step2 n)
  unfolding ends_at
  ends_none = refl

  pub ends_next : (i : ℕ) → ends_at n (suc i) ≡ end_cell n (lits n) (ends_at n i) i
  unfolding ends_at
  ends_next i = over_snoc (end_cell n (lits n)) (start3 (step2 n)) (upto i) i

  pub ends_last : ends_at n (cells n) ≡ step3 n
  unfolding ends_at step3
  ends_last = refl

  onward : (i d k : ℕ) → k ≡ d + i → Further (ends_at n i) (ends_at n k)
  onward i zero k e = let q : k ≡ i = omega (arith, e) in subst (λ (x : ℕ). Further (ends_at n i) (ends_at n x)) (sym q) (record { pins = keeps_refl (ends_at n i).drivers; rams = omega arith })
  onward i (suc d) k e = let q : k ≡ suc (k - 1) = omega (arith, e) in
      subst (λ (x : ℕ). Further (ends_at n i) (ends_at n x)) (sym q)
      (further_trans (onward i d (k - 1) (omega (arith, e))) (subst (Further (ends_at n (k - 1))) (sym (ends_next (k - 1))) (end_further n (lits n) (ends_at n (k - 1)) (k - 1))))

  -- what the whole needs is no less than what is needed so far
  pub further_whole : (i : ℕ) → i ≤ cells n → Further (ends_at n i) (step3 n)
  further_whole i l = subst (Further (ends_at n i)) ends_last (onward i (cells n - i) (cells n) (omega (arith, l)))

module _ (n : Netlist) (acc : Accepted n) where
  pub holding : (i : ℕ) → i ≤ cells n → Holding n acc (ends_at n i)
  unfolding ends_at
  holding i l = walk_inv (Holding n acc) (end_cell n (lits n)) (upto i) (start3 (step2 n)) (λ t c m h. end_holds n acc t c (omega (arith, l, in_upto i c m)) h) (start3_holds n acc)

  -- ---- no later cell changes what a cell has made
  record Since (c : ℕ) (s e : Ends) : Type 0 where
    pub nexts : e.nexts c ≡ s.nexts c
    pub enables : e.enables c ≡ s.enables c
    pub writes : e.writes c ≡ s.writes c
    pub active : (q : ℕ) → 0 < count q (pins_of n c) → e.active q ≡ s.active q

  module _ (c : ℕ) (lc : c < cells n) where
    other_clock : (d q : ℕ) → d < cells n → (c ≡ d → ⊥) → 0 < count q (pins_of n c) → count q (clocks_of n d) ≡ 0
    other_clock d q ld ne m = by_test (0 <? count q (clocks_of n d))
        (λ y. absurd (ne (sym (in_cell n acc.tables c q lc m).1
        ∙ (in_cell n acc.tables d q ld (omega (arith, ltb-true 0 (count q (clocks_of n d)) y, keep_le (λ p. is_clock (kind_of n d) (name_of n p)) q (pins_of n d)))).1)))
        (λ f. omega (arith, ltb-false 0 (count q (clocks_of n d)) f))

    later : (d k : ℕ) → k ≤ cells n → k ≡ d + suc c → Since c (ends_at n (suc c)) (ends_at n k)
    later zero k l e = let q : k ≡ suc c = omega (arith, e) in
        subst (λ (x : ℕ). Since c (ends_at n (suc c)) (ends_at n x)) (sym q) (record { nexts = refl; enables = refl; writes = refl; active = λ p m. refl })
    later (suc d) k l e =
        let q : k ≡ suc (k - 1) = omega (arith, e) in
        let h = later d (k - 1) (omega (arith, l)) (omega (arith, e)) in
        let g : Left n (k - 1) (ends_at n (k - 1)) (ends_at n (suc (k - 1))) = subst (Left n (k - 1) (ends_at n (k - 1))) (sym (ends_next n (k - 1))) (end_left n (k - 1) (ends_at n (k - 1))) in
        let ne : c ≡ k - 1 → ⊥ = λ i. absurd (omega (arith, i, e)) in
        subst (λ (x : ℕ). Since c (ends_at n (suc c)) (ends_at n x)) (sym q) (record {
          nexts = g.nexts c ne ∙ h.nexts;
          enables = g.enables c ne ∙ h.enables;
          writes = g.writes c ne ∙ h.writes;
          active = λ p m. g.active p (other_clock (k - 1) p (omega (arith, l, e)) ne m) ∙ h.active p m;
        })

    since : Since c (ends_at n (suc c)) (step3 n)
    since = subst (Since c (ends_at n (suc c))) (ends_last n) (later (cells n - suc c) (cells n) (omega arith) (omega (arith, lc)))

    abbrev ds : List Driver
    ds = (ends_at n c).drivers

    -- ---- a flip-flop's record
    pub final_record : kind_of n c ≡ dff → record_of (step2 n) (step3 n) c ≡ flop_record n ds c
    final_record k = let law = ends_next n c ∙ flop_law n acc (ends_at n c) c lc k in ap₂ made (since.nexts ∙ ap (λ (e : Ends). e.nexts c) law ∙ put_same (ends_at n c).nexts c (flop_made n ds c).first)
        (since.enables ∙ ap (λ (e : Ends). e.enables c) law ∙ put_same (ends_at n c).enables c (flop_made n ds c).second)
      where
        made : ℕ → ℕ → Record
        made x y = record { next = x; enable = y; pin = (step2 n).flop_pin c }

    -- ---- a RAM's row
    module _ (k : kind_of n c ≡ ram) where
      read-final : first_or 0 (step3 n).active (named n c #R_CLK) ≡ (ram_clocks n ds c).first
      read-final = first_same (step3 n).active (ends_at n (suc c)).active 0 (named n c #R_CLK)
          (λ q m. since.active q (omega (arith, m, keep_le (λ p. name_of n p == #R_CLK) q (pins_of n c))))
          ∙ ap (λ (e : Ends). first_or 0 e.active (named n c #R_CLK)) (ends_next n c) ∙ ram_read_lem n acc (ends_at n c) c lc k

      write_final : (i : ℕ) → i < 32 → (step3 n).writes c i ≡ (ram_made n ds c (suc i)).lit
      write_final i b = ap (λ (g : ℕ → ℕ). g i) since.writes ∙ ap (λ (e : Ends). e.writes c i) (ends_next n c) ∙ ram_writes n acc (ends_at n c) c lc k i b

      abbrev row : RamRow
      row = ram_row_of n (step2 n) (step3 n) c

      -- the parts of the row
      abbrev p1 : List ℕ
      p1 = map (λ i. bit_lit n c #R_ADDR i) (upto 13)

      abbrev p2 : List ℕ
      p2 = map ((step2 n).read_pin c) (upto 32)

      abbrev p3 : List ℕ
      p3 = map (λ i. bit_lit n c #W_ADDR i) (upto 13)

      abbrev p4 : List ℕ
      p4 = map ((step3 n).writes c) (upto 32)

      abbrev p5 : List ℕ
      p5 = map (λ i. bit_lit n c #W_DATA i) (upto 32)

      skip : (xs ys : List ℕ) (m i : ℕ) → length xs ≡ m → m ≤ i → get_or (xs ++ ys) i 0 ≡ get_or ys (i - m) 0
      skip xs ys m i e l = let q : i ≡ length xs + (i - m) = omega (arith, e, l) in ap (λ (x : ℕ). get_or (xs ++ ys) x 0) q ∙ get_or-append-add xs ys (i - m) 0

      within : (xs ys : List ℕ) (m i : ℕ) → length xs ≡ m → i < m → get_or (xs ++ ys) i 0 ≡ get_or xs i 0
      within xs ys m i e l = get_or-append xs ys 0 i (omega (arith, e, l))

      from_1 : (j : ℕ) → 1 ≤ j → get_or (ram_words row) j 0 ≡ get_or (p1 ++ (p2 ++ (p3 ++ (p4 ++ p5)))) (j - 1) 0
      from_1 zero l = absurd (omega (arith, l))
      from_1 (suc j) l = let q : suc j - 1 ≡ j = omega arith in ap (λ (x : ℕ). get_or (p1 ++ (p2 ++ (p3 ++ (p4 ++ p5)))) x 0) (sym q)

      long_1 : length p1 ≡ 13
      long_1 = length-map-upto (λ i. bit_lit n c #R_ADDR i) 13

      long_2 : length p2 ≡ 32
      long_2 = length-map-upto ((step2 n).read_pin c) 32

      long_3 : length p3 ≡ 13
      long_3 = length-map-upto (λ i. bit_lit n c #W_ADDR i) 13

      long_4 : length p4 ≡ 32
      long_4 = length-map-upto ((step3 n).writes c) 32

      from_14 : (j : ℕ) → 14 ≤ j → get_or (ram_words row) j 0 ≡ get_or (p2 ++ (p3 ++ (p4 ++ p5))) (j - 14) 0
      from_14 j l = let q : j - 1 - 13 ≡ j - 14 = omega arith in
          from_1 j (omega (arith, l)) ∙ skip p1 (p2 ++ (p3 ++ (p4 ++ p5))) 13 (j - 1) long_1 (omega (arith, l)) ∙ ap (λ (x : ℕ). get_or (p2 ++ (p3 ++ (p4 ++ p5))) x 0) q

      from_46 : (j : ℕ) → 46 ≤ j → get_or (ram_words row) j 0 ≡ get_or (p3 ++ (p4 ++ p5)) (j - 46) 0
      from_46 j l = let q : j - 14 - 32 ≡ j - 46 = omega arith in
          from_14 j (omega (arith, l)) ∙ skip p2 (p3 ++ (p4 ++ p5)) 32 (j - 14) long_2 (omega (arith, l)) ∙ ap (λ (x : ℕ). get_or (p3 ++ (p4 ++ p5)) x 0) q

      from_59 : (j : ℕ) → 59 ≤ j → get_or (ram_words row) j 0 ≡ get_or (p4 ++ p5) (j - 59) 0
      from_59 j l = let q : j - 46 - 13 ≡ j - 59 = omega arith in
          from_46 j (omega (arith, l)) ∙ skip p3 (p4 ++ p5) 13 (j - 46) long_3 (omega (arith, l)) ∙ ap (λ (x : ℕ). get_or (p4 ++ p5) x 0) q

      from_91 : (j : ℕ) → 91 ≤ j → get_or (ram_words row) j 0 ≡ get_or p5 (j - 91) 0
      from_91 j l = let q : j - 59 - 32 ≡ j - 91 = omega arith in
          from_59 j (omega (arith, l)) ∙ skip p4 p5 32 (j - 59) long_4 (omega (arith, l)) ∙ ap (λ (x : ℕ). get_or p5 x 0) q

      -- the words that the code writes
      ge_leb : (x y : ℕ) → x ≤ y → (x ≤? y) ≡ true
      ge_leb x y b = by_test (x ≤? y) (λ z. z) (λ z. absurd (omega (arith, b, leb-false x y z)))

      lt-leb : (x y : ℕ) → y < x → (x ≤? y) ≡ false
      lt-leb x y b = by_test (x ≤? y) (λ z. absurd (omega (arith, b, leb-true x y z))) (λ z. z)

      ge_ltb : (x y : ℕ) → y ≤ x → (x <? y) ≡ false
      ge_ltb x y b = by_test (x <? y) (λ z. absurd (omega (arith, b, ltb-true x y z))) (λ z. z)

      word_first : (j : ℕ) → j ≡ 0 → ram_word n ds c j ≡ (ram_clocks n ds c).first
      unfolding row_word
      word_first j e = rw (eq-eqb j 0 e)

      word_low : (j : ℕ) → (j ≡ 0 → ⊥) → j < 59 → ram_word n ds c j ≡ plain_word n c j
      unfolding row_word
      word_low j ne b = rw (ne_eqb j 0 ne, lt-leb 59 j b)

      word_bit : (j : ℕ) → 59 ≤ j → j < 91 → ram_word n ds c j ≡ (ram_made n ds c (suc (j - 59))).lit
      unfolding row_word
      word_bit j b d = rw (ne_eqb j 0 (λ e. absurd (omega (arith, e, b))), ge_leb 59 j b, lt-ltb j 91 d)

      word_high : (j : ℕ) → 91 ≤ j → ram_word n ds c j ≡ plain_word n c j
      unfolding row_word
      word_high j b = rw (ne_eqb j 0 (λ e. absurd (omega (arith, e, b))), ge_leb 59 j (omega (arith, b)), ge_ltb j 91 b)

      at_low : (j : ℕ) → (j ≡ 0 → ⊥) → j < 59 → get_or (ram_words row) j 0 ≡ plain_word n c j
      at_low j ne b = by_test (j <? 14)
          (λ y. let l = ltb-true j 14 y in
          from_1 j (omega (arith, ne)) ∙ within p1 (p2 ++ (p3 ++ (p4 ++ p5))) 13 (j - 1) long_1 (omega (arith, l, ne)) ∙ word_read n c j ne l _ (map-upto (λ i. bit_lit n c #R_ADDR i) 0 13 (j - 1) (omega (arith, l, ne))))
          (λ f. let g = ltb-false j 14 f in by_test (j <? 46)
          (λ y. let l = ltb-true j 46 y in
          from_14 j g ∙ within p2 (p3 ++ (p4 ++ p5)) 32 (j - 14) long_2 (omega (arith, l, g)) ∙ map-upto ((step2 n).read_pin c) 0 32 (j - 14) (omega (arith, l, g))
          ∙ read_half n acc c (j - 14) lc k ∙ word_data n c j ne g l (bit_lit n c #R_DATA (j - 14)) refl)
          (λ f'. let g' = ltb-false j 46 f' in
          from_46 j g' ∙ within p3 (p4 ++ p5) 13 (j - 46) long_3 (omega (arith, b, g')) ∙ word_write n c j ne g g' b _ (map-upto (λ i. bit_lit n c #W_ADDR i) 0 13 (j - 46) (omega (arith, b, g')))))

      pub final-row : (j : ℕ) → j < 123 → ram_word n ds c j ≡ get_or (ram_words row) j 0
      final-row j b = by_test (j == 0)
          (λ y. let e = eqb-true j 0 y in word_first j e ∙ sym (ap (λ (x : ℕ). get_or (ram_words row) x 0) e ∙ read-final))
          (λ f. let ne = eqb-false j 0 f in by_test (j <? 59)
          (λ y. word_low j ne (ltb-true j 59 y) ∙ sym (at_low j ne (ltb-true j 59 y)))
          (λ f'. let g = ltb-false j 59 f' in by_test (j <? 91)
          (λ y. let l = ltb-true j 91 y in
          word_bit j g l ∙ sym (from_59 j g ∙ within p4 p5 32 (j - 59) long_4 (omega (arith, l, g)) ∙ map-upto ((step3 n).writes c) 0 32 (j - 59) (omega (arith, l, g)) ∙ write_final (j - 59) (omega (arith, l, g))))
          (λ f''. let g' = ltb-false j 91 f'' in
          word_high j g' ∙ sym (from_91 j g' ∙ word_last n c j ne (omega (arith, g')) (omega (arith, g')) g g' _ (map-upto (λ i. bit_lit n c #W_DATA i) 0 32 (j - 91) (omega (arith, b, g')))))))

      pub row_long : length (ram_words row) ≡ 123
      row_long = omega (
        arith,
        length-append p1 (p2 ++ (p3 ++ (p4 ++ p5))),
        length-append p2 (p3 ++ (p4 ++ p5)),
        length-append p3 (p4 ++ p5),
        length-append p4 p5,
        long_1,
        long_2,
        long_3,
        long_4,
        length-map-upto (λ i. bit_lit n c #W_DATA i) 32,
      )

  -- ---- the RAMs that have a row: those of step 2, in their places, and new ones below i
  pub record Listed (i : ℕ) (l : List ℕ) : Type 0 where
    pub longer : length (step2 n).rams ≤ length l
    pub kept : (k : ℕ) → k < length (step2 n).rams → get_or l k 0 ≡ get_or (step2 n).rams k 0
    pub new : (c : ℕ) → count c (step2 n).rams ≡ 0 → i ≤ c → count c l ≡ 0

  listed_more : (i : ℕ) (l : List ℕ) → Listed i l → Listed (suc i) l
  listed_more i l h = record { longer = h.longer; kept = h.kept; new = λ c z b. h.new c z (omega (arith, b)) }

  listed_with : (i : ℕ) (l : List ℕ) → Listed i l → Listed (suc i) (insert l i)
  listed_with i l h = by_test (member i l)
      (λ y. subst (Listed (suc i)) (sym (insert_old l i (member_true i l y))) (listed_more i l h))
      (λ f. subst (Listed (suc i)) (sym (insert_new l i (member_false i l f))) (record {
        longer = omega (arith, h.longer, snoc_length l i 0);
        kept = λ k b. snoc_kept l i 0 k (omega (arith, b, h.longer)) ∙ h.kept k b;
        new = λ c z b. count_other i c l (λ e. absurd (omega (arith, e, b))) ∙ h.new c z (omega (arith, b));
      }))

  pub flop_rams : (i : ℕ) → i < cells n → kind_of n i ≡ dff → (ends_at n (suc i)).rams ≡ (ends_at n i).rams
  flop_rams i l k = ap (λ (e : Ends). e.rams) (ends_next n i ∙ flop_law n acc (ends_at n i) i l k)

  pub with_rams : (i : ℕ) → i < cells n → kind_of n i ≡ ram → (ends_at n (suc i)).rams ≡ insert (ends_at n i).rams i
  with_rams i l k = ap (λ (e : Ends). e.rams) (ends_next n i) ∙ ram_rams n acc (ends_at n i) i l k

  pub plain-next : (i : ℕ) → i < cells n → (kind_of n i ≡ dff → ⊥) → (kind_of n i ≡ ram → ⊥) → ends_at n (suc i) ≡ ends_at n i
  plain-next i l nd nr = ends_next n i ∙ plain_law n acc (ends_at n i) i l nd nr

  pub listed : (i : ℕ) → i ≤ cells n → Listed i (ends_at n i).rams
  listed zero l = subst (Listed 0) (sym (ap (λ (e : Ends). e.rams) (ends_none n))) (record { longer = omega arith; kept = λ k b. refl; new = λ c z b. z })
  listed (suc i) l = let h = listed i (omega (arith, l)) in let b : i < cells n = omega (arith, l) in kind_cases (kind_of n i)
      (λ k. subst (Listed (suc i)) (sym (flop_rams i b k)) (listed_more i (ends_at n i).rams h))
      (λ k. subst (Listed (suc i)) (sym (with_rams i b k)) (listed_with i (ends_at n i).rams h))
      (λ nd nr. subst (Listed (suc i)) (sym (ap (λ (e : Ends). e.rams) (plain-next i b nd nr))) (listed_more i (ends_at n i).rams h))
