-- The lists lie one behind the other and each names pins of its own cell alone: so each pin stands once in its own cell's list exactly where
-- the whole list is a set of the numbers below its length.
use mathlib.Core.Path.{◌≡◌, sym, ◌∙◌, ap, subst}
use mathlib.Core.Bool.{true, not, ◌&&◌}
use mathlib.Core.List.{List, ◌∷◌}
use Prim.Native.Nat.{ℕ, zero, suc, ◌+◌, ◌-◌, ◌*◌, ◌<◌, ◌≤◌}
use native.Mathlib.Numerals.{add-one}
use native.Mathlib.Omega.{arith}
use lib.ListN.{length, get_or, take, drop, take-append-drop}
use borrow.Author.Tests.{ltb-true, ltb-false, lt-ltb, eqb-true, eqb-false, eq-eqb, ne_eqb}
use Rattle.std.specs.Prelude.{◌==◌}
use Rattle.laws.specs.Tests.{◌<?◌}
use Rattle.laws.specs.Lists.{count, member, keep, every, upto}
use Rattle.laws.specs.Words.{part}
use Rattle.laws.proofs.Tests.{by_test, one_eq, one_ne, and_l, and_r, bits_same, both_true}
use Rattle.laws.proofs.Bags.{count-append, at_head, member_true, member_false, every_true, every_all, count-keep}
use Rattle.laws.proofs.Indices.{at_in, index_of}
use Rattle.laws.proofs.Ranges.{every_upto, of_upto}
use Rattle.laws.proofs.Counting.{length_parts, fits}
use Rattle.laws.proofs.Words.{part_length, part_at}
use Rattle.rules.specs.Refusals.{below, no_repeat}
use Rattle.pins.specs.Words.{pin_at}
use Rattle.lists.specs.Parts.{cell_list, own, Starts, fitting}
use Rattle.netlist.specs.Tables.{once, Listed}

-- ---- counting
-- a list in which every number below n stands is at least that long
covers : (n : ℕ) (l : List ℕ) → ((p : ℕ) → p < n → 0 < count p l) → n ≤ length l
covers zero l h = omega arith
covers (suc n) l h =
    let k : List ℕ = keep (λ y. not (n == y)) l in
    omega (arith, length_parts n l, h n (omega arith), covers n k (λ p q. kept p q))
  where
    kept : (p : ℕ) → p < n → 0 < count p (keep (λ y. not (n == y)) l)
    kept p q = rw (count-keep (λ y. not (n == y)) p l (rw (ne_eqb n p (λ e. omega (arith, e, q))))) (h p (omega arith))

-- if it is no longer, each stands there once
covers_once : (n : ℕ) (l : List ℕ) → ((p : ℕ) → p < n → 0 < count p l) → length l ≤ n → (p : ℕ) → p < n → count p l ≤ 1
covers_once n l h k p q = omega (arith, k, length_parts p l, covers n (p ∷ keep (λ y. not (p == y)) l) others)
  where
    others : (x : ℕ) → x < n → 0 < count x (p ∷ keep (λ y. not (p == y)) l)
    others x m = by_test (p == x)
        (λ t. omega (arith, one_eq x p (sym (eqb-true p x t))))
        (λ f. omega (arith, h x m, count-keep (λ y. not (p == y)) x l (rw f)))

-- a list of n different numbers below n has them all
all_there : (n : ℕ) (l : List ℕ) → ((p : ℕ) → count p l ≤ 1) → ((p : ℕ) → 0 < count p l → p < n) → n ≤ length l → (p : ℕ) → p < n → 0 < count p l
all_there n l o b h p q = by_test (member p l) (λ t. member_true p l t)
    (λ f. let z = member_false p l f in
    absurd (omega (
      arith,
      h,
      fits n (p ∷ l)
          (λ x. by_test (x == p)
          (λ t. let e = eqb-true x p t in omega (arith, one_eq x p e, z, ap (λ (y : ℕ). count y l) e))
          (λ g. omega (arith, one_ne x p (eqb-false x p g), o x)))
          (λ x m. at_head x p l m (λ e. omega (arith, e, q)) (λ m'. b x m')),
    )))

pub part_le : (p n a : ℕ) (l : List ℕ) → count p (take n (drop a l)) ≤ count p l
part_le p n a l =
    omega (
      arith,
      count-append p (take a l) (drop a l),
      ap (count p) (take-append-drop a l),
      count-append p (take n (drop a l)) (drop n (drop a l)),
      ap (count p) (take-append-drop n (drop a l)),
    )

-- ---- where an entry lies
module _ (starts : List ℕ) (cells size : ℕ) (s : Starts starts cells size) where
  segment_below : {P : Type 0} (k j : ℕ) → k ≤ cells → j < get_or starts k 0 → ((c : ℕ) → c < k → get_or starts c 0 ≤ j → j < get_or starts (c + 1) 0 → P) → P
  segment_below zero j h l k = absurd (omega (arith, s.first))
  segment_below (suc m) j h l k = by_test (j <? get_or starts m 0)
      (λ t. segment_below m j (omega arith) (ltb-true j (get_or starts m 0) t) (λ c a b d. k c (omega arith) b d))
      (λ f. k m (omega arith) (ltb-false j (get_or starts m 0) f) (subst (λ (x : ℕ). j < get_or starts x 0) (sym (add-one m)) l))

  pub segment : {P : Type 0} (j : ℕ) → j < size → ((c : ℕ) → c < cells → get_or starts c 0 ≤ j → j < get_or starts (c + 1) 0 → P) → P
  segment j l k = segment_below cells j (omega arith) (omega (arith, s.last)) k

module _ (starts list : List ℕ) (cells : ℕ) (s : Starts starts cells (length list)) (c j : ℕ) (l : c < cells) (a : get_or starts c 0 ≤ j) (b : j < get_or starts (c + 1) 0) where
  pub entry_in : 0 < count (get_or list j 0) (cell_list starts list c)
  unfolding part
  entry_in =
      let from : ℕ = get_or starts c 0 in
      let n : ℕ = get_or starts (c + 1) 0 - get_or starts c 0 in
      let e : get_or (part list from n) (j - from) 0 ≡ get_or list j 0 = part_at list from n (j - from) (omega arith) ∙ ap (λ (x : ℕ). get_or list x 0) (omega arith) in
      subst (λ (x : ℕ). 0 < count x (cell_list starts list c)) e
      (at_in (part list from n) (j - from) (omega (arith, part_length list from n (omega (arith, s.within (c + 1) (omega arith))))))

-- ---- a pin stands once in its own cell's list
module _ (starts list pins : List ℕ) (cells : ℕ) (s : Starts starts cells (length list)) (f : every (fitting starts list pins) (upto cells) ≡ true)
    (w : (p : ℕ) → p < length list → pin_at pins 0 p < cells) where
  pub owned : (c p : ℕ) → c < cells → 0 < count p (cell_list starts list c) → (p < length list) × (pin_at pins 0 p ≡ c)
  unfolding fitting
  owned c p h m =
      let t : own pins (length list) c p ≡ true = every_true (own pins (length list) c) p (cell_list starts list c) (of_upto (fitting starts list pins) cells c f h) m in
      (ltb-true p (length list) (and_l (p <? length list) (pin_at pins 0 p == c) t), eqb-true (pin_at pins 0 p) c (and_r (p <? length list) (pin_at pins 0 p == c) t))

  pub entry_owned : (j : ℕ) → j < length list → get_or list j 0 < length list
  entry_owned j l = segment starts cells (length list) s j l (λ c h a b. (owned c (get_or list j 0) h (entry_in starts list cells s c j h a b)).0)

  all_below : below (length list) list ≡ true
  all_below = every_all (λ i. i <? length list) list
      (λ x m. let i = index_of list x m in lt-ltb x (length list) (subst (λ (y : ℕ). y < length list) i.2 (entry_owned i.0 i.1)))

  in_own : (p : ℕ) → 0 < count p list → 0 < count p (cell_list starts list (pin_at pins 0 p))
  in_own p m =
      let i = index_of list p m in
      segment starts cells (length list) s i.0 i.1 (λ c h a b.
      let q : 0 < count p (cell_list starts list c) = subst (λ (y : ℕ). 0 < count y (cell_list starts list c)) i.2 (entry_in starts list cells s c i.0 h a b) in
      subst (λ (k : ℕ). 0 < count p (cell_list starts list k)) (sym (owned c p h q).1) q)

  from_set : no_repeat list ≡ true → every (once starts list pins) (upto (length list)) ≡ true
  from_set t = every_upto (once starts list pins) (length list) (λ p l. eq-eqb (count p (cell_list starts list (pin_at pins 0 p))) 1
      (omega (
        arith,
        single p,
        in_own p (all_there (length list) list single inside (omega arith) p l),
        part_le p (get_or starts (pin_at pins 0 p + 1) 0 - get_or starts (pin_at pins 0 p) 0) (get_or starts (pin_at pins 0 p) 0) list,
      )))
    where
      single : (p : ℕ) → count p list ≤ 1
      single p = by_test (member p list)
          (λ y. omega (arith, eqb-true (count p list) 1 (every_true (λ i. count i list == 1) p list t (member_true p list y))))
          (λ n. omega (arith, member_false p list n))

      inside : (p : ℕ) → 0 < count p list → p < length list
      inside p m = ltb-true p (length list) (every_true (λ i. i <? length list) p list all_below m)

  pub once-single : every (once starts list pins) (upto (length list)) ≡ true → (p : ℕ) → count p list ≤ 1
  once-single t p = by_test (member p list)
      (λ y. covers_once (length list) list have (omega arith) p (ltb-true p (length list) (every_true (λ i. i <? length list) p list all_below (member_true p list y))))
      (λ n. omega (arith, member_false p list n))
    where
      have : (q : ℕ) → q < length list → 0 < count q list
      have q l = omega (
        arith,
        eqb-true (count q (cell_list starts list (pin_at pins 0 q))) 1 (of_upto (once starts list pins) (length list) q t l),
        part_le q (get_or starts (pin_at pins 0 q + 1) 0 - get_or starts (pin_at pins 0 q) 0) (get_or starts (pin_at pins 0 q) 0) list,
      )

  to_set : every (once starts list pins) (upto (length list)) ≡ true → no_repeat list ≡ true
  to_set t = every_all (λ i. count i list == 1) list (λ x m. eq-eqb (count x list) 1 (omega (arith, m, once-single t x)))

  pub set-once : (below (length list) list && no_repeat list) ≡ every (once starts list pins) (upto (length list))
  set-once = bits_same (below (length list) list && no_repeat list) (every (once starts list pins) (upto (length list)))
      (λ t. from_set (and_r (below (length list) list) (no_repeat list) t))
      (λ t. both_true (below (length list) list) (no_repeat list) all_below (to_set t))

  pub listed_facts : 5 * length list ≤ length pins → every (once starts list pins) (upto (length list)) ≡ true → Listed starts list pins cells
  listed_facts long t = record {
    starts_are = s;
    long = long;
    cell = w;
    own_cell = owned;
    once_there = λ p l. eqb-true (count p (cell_list starts list (pin_at pins 0 p))) 1 (of_upto (once starts list pins) (length list) p t l);
    below = entry_owned;
    single = once-single t;
  }
