-- A subset by places: those of handed-on pins lead, so each half is a part of the list; and what is picked by it.
use mathlib.Core.Path.{◌≡◌, refl, sym, ap, subst, ◌∙◌}
use mathlib.Core.Bool.{Bool, true, false, ◌&&◌}
use mathlib.Core.List.{List, [], ◌∷◌}
use Prim.Native.Nat.{ℕ, zero, suc, ◌+◌, ◌-◌, ◌<◌, ◌≤◌}
use native.Mathlib.Numerals.{add-one}
use native.Mathlib.Omega.{arith}
use lib.ListN.{length, get_or, take, drop, set, length-set, length-map, length-drop}
use lib.Seq.{drop-cons, drop-length, take_all, get_or-drop, length-take-le}
use borrow.Author.Tests.{le-leb, lt-leb, le-ltb, leb-true, ltb-true, ltb-false}
use Rattle.std.specs.Prelude.{Result, Ok, Err}
use Rattle.laws.specs.Tests.{◌<?◌, ◌≤?◌, or_else, refuse}
use Rattle.laws.specs.Lists.{keep, every}
use Rattle.laws.specs.Words.{zeros, filled, part}
use Rattle.laws.proofs.Tests.{by_test, and_l, and_r, and_both, or_zero, last_refused}
use Rattle.laws.proofs.Bags.{map-append, map_same}
use Rattle.laws.proofs.Indices.{every_at}
use Rattle.laws.proofs.Words.{zeros-length, filled_none, filled_more, part_suc, part_none, part_length}
use Rattle.rules.specs.declared.Refusal.{Refusal}
use Rattle.rules.specs.declared.Refusal.TheVariants.{Bounds, Room, Index}
use Rattle.rules.specs.declared.StageSize.{StageSize}
use Rattle.rules.specs.Stages.{Stage, subset}
use Rattle.rules.specs.Tables.{held}
use Rattle.rules.specs.Refusals.{below, handed_first}
use Rattle.rules.specs.Answers.{answer_of, done_of, stage_size, subset_number, stage_fits}
use Rattle.walk.proofs.Answered.{number_zero, answered, refused_too, held_none}
use Rattle.subsets.specs.Answer.{stage_of, leading, all_from, lists_fit, places_number, placed, Places, Ready, Subsetted}

-- ---- the loop that finds where they end
pub leading_le : (h : ℕ) (is : List ℕ) → leading h is ≤ length is
leading_le h [] = omega arith
leading_le h (i ∷ is) = by_test (i <? h) (λ t. rw t (omega (arith, leading_le h is))) (λ f. rw f (omega arith))

pub record Leading (h : ℕ) (is : List ℕ) (i : ℕ) : Type 0 where
  pub inside : i ≤ length is
  pub so_far : leading h is ≡ i + leading h (drop i is)

-- ---- the loop that tests the rest
pub record FromOn (h : ℕ) (is : List ℕ) (a i : ℕ) : Type 0 where
  pub inside : i ≤ length is
  pub so_far : every (λ j. h ≤? j) (drop a is) ≡ every (λ j. h ≤? j) (drop i is)

pub from_begins : (h : ℕ) (is : List ℕ) (a : ℕ) → a ≤ length is → FromOn h is a a
from_begins h is a l = record { inside = l; so_far = refl }

module _ (h : ℕ) (is : List ℕ) (a i : ℕ) (s : FromOn h is a i) where
  step : i < length is → every (λ j. h ≤? j) (drop i is) ≡ ((h ≤? get_or is i 0) && every (λ j. h ≤? j) (drop (suc i) is))
  step l = ap (every (λ j. h ≤? j)) (drop-cons is i 0 l)

  pub from_goes_on : (p : ℕ) → i < length is → p ≡ get_or is i 0 → h ≤ p → FromOn h is a (i + 1)
  from_goes_on p l q k' = let k : h ≤ get_or is i 0 = omega arith in record {
    inside = omega arith;
    so_far = s.so_far ∙ step l ∙ rw (le-leb h (get_or is i 0) k) (ap (λ (n : ℕ). every (λ j. h ≤? j) (drop n is)) (sym (add-one i)));
  }

  pub from_fails : (p : ℕ) → i < length is → p ≡ get_or is i 0 → p < h → false ≡ all_from is a h
  unfolding all_from
  from_fails p l q k' = let k : get_or is i 0 < h = omega arith in sym (s.so_far ∙ step l ∙ rw (lt-leb h (get_or is i 0) k))

  pub from_ends : length is ≤ i → true ≡ all_from is a h
  unfolding all_from
  from_ends l = let e : i ≡ length is = omega (arith, s.inside) in
      sym (s.so_far ∙ ap (every (λ j. h ≤? j)) (ap (λ (n : ℕ). drop n is) e ∙ drop-length is))

-- ---- handed-on pins first: then the places before and behind are the two halves
pub first_is : (h : ℕ) (is : List ℕ) → handed_first h is ≡ every (λ j. h ≤? j) (drop (leading h is) is)
first_is h [] = refl
first_is h (i ∷ is) = by_test (i <? h)
    (λ t. rw t (first_is h is))
    (λ f. rw (f, le-leb h i (ltb-false i h f)) refl)

rest_keep : (h : ℕ) (is : List ℕ) → every (λ j. h ≤? j) is ≡ true → (keep (λ i. i <? h) is ≡ []) × (keep (λ i. h ≤? i) is ≡ is)
rest_keep h [] e = (refl, refl)
rest_keep h (i ∷ is) e = and_both (h ≤? i) (every (λ j. h ≤? j) is) e (λ a b.
    let w = rest_keep h is b in
    ((rw (le-ltb i h (leb-true h i a)) w.0), rw a (ap (λ (l : List ℕ). i ∷ l) w.1)))

pub halves : (h : ℕ) (is : List ℕ) → every (λ j. h ≤? j) (drop (leading h is) is) ≡ true
    → (keep (λ i. i <? h) is ≡ take (leading h is) is) × (keep (λ i. h ≤? i) is ≡ drop (leading h is) is)
halves h [] = λ e. (refl, refl)
halves h (i ∷ is) = by_test (i <? h)
    (λ t e. let w = halves h is (rw t at e) in
    (rw t (ap (λ (l : List ℕ). i ∷ l) w.0), rw (t, lt-leb h i (ltb-true i h t)) w.1))
    (λ f e. let w = rest_keep h (i ∷ is) (rw f at e) in (rw f (rw f at w.0), rw f w.1))

lead_at : (h i : ℕ) (is : List ℕ) → (i <? h) ≡ true → ((k : ℕ) → k < leading h is → get_or is k 0 < h) → (k : ℕ) → k < suc (leading h is) → get_or (i ∷ is) k 0 < h
lead_at h i is t r zero l = ltb-true i h t
lead_at h i is t r (suc k) l = r k (omega arith)

leads : (h : ℕ) (is : List ℕ) (j : ℕ) → j < leading h is → get_or is j 0 < h
leads h [] = λ j l. absurd (omega arith)
leads h (i ∷ is) = by_test (i <? h)
    (λ t. rw t (lead_at h i is t (leads h is)))
    (λ f j l. absurd (omega (arith, rw f at l)))

-- ---- what is picked: the first j of n places
pub record Picked (t is : List ℕ) (a n h : ℕ) (o₀ o : List ℕ) (j : ℕ) : Type 0 where
  pub inside : j ≤ n
  pub words : o ≡ filled (placed t h (part is a j)) (length o₀)
  pub places : Places is a n h (length t)
  pub long : n ≤ length o₀
  pub same_length : length o ≡ length o₀
  pub list_long : a + n ≤ length is

pub pick_begins : (t is : List ℕ) (a n h : ℕ) (o : List ℕ) → Places is a n h (length t) → o ≡ zeros (length o) → n ≤ length o → Picked t is a n h o o 0
pick_begins t is a n h o p z l = record {
  inside = omega arith;
  words = z ∙ sym (filled_none (length o)) ∙ ap (λ (l : List ℕ). filled (placed t h l) (length o)) (sym (part_none is a));
  places = p;
  long = l;
  same_length = refl;
  list_long = p.long;
}

module _ (t is : List ℕ) (a n h : ℕ) (o₀ o : List ℕ) (j : ℕ) (s : Picked t is a n h o₀ o j) (l : j < n) where
  pub pick_least : (p : ℕ) → p ≡ get_or is (a + j) 0 → h ≤ p
  pick_least p e = omega (arith, s.places.least j l)

  pub pick_inside : (p : ℕ) → p ≡ get_or is (a + j) 0 → p - h < length t
  pick_inside p e = omega (arith, s.places.inside j l)

  done_length : length (placed t h (part is a j)) ≡ j
  done_length = length-map (part is a j) (λ i. get_or t (i - h) 0) ∙ part_length is a j (omega (arith, s.list_long))

  pub pick_goes_on : (p v : ℕ) → p ≡ get_or is (a + j) 0 → v ≡ get_or t (p - h) 0 → Picked t is a n h o₀ (set o j v) (j + 1)
  pick_goes_on p v' ep ev = subst (λ (x : ℕ). Picked t is a n h o₀ (set o j x) (j + 1)) (sym (ev ∙ ap (λ (x : ℕ). get_or t (x - h) 0) ep)) stored
    where
      stored : Picked t is a n h o₀ (set o j (get_or t (get_or is (a + j) 0 - h) 0)) (j + 1)
      stored =
          let v : ℕ = get_or t (get_or is (a + j) 0 - h) 0 in
          let b : List ℕ = placed t h (part is a j) in
          record {
            inside = omega arith;
            words =
                ap (λ (w : List ℕ). set w j v) s.words
                ∙ ap (λ (k : ℕ). set (filled b (length o₀)) k v) (sym done_length)
                ∙ filled_more b (length o₀) v (omega (arith, done_length, s.long))
                ∙ ap (λ (w : List ℕ). filled w (length o₀))
                (sym (map-append (λ i. get_or t (i - h) 0) (part is a j) (get_or is (a + j) 0 ∷ []))
                ∙ ap (placed t h) (sym (part_suc is a j (omega (arith, s.list_long)))));
            places = s.places;
            long = s.long;
            same_length = length-set o j v ∙ s.same_length;
            list_long = s.list_long;
          }

pub pick_ends : (t is : List ℕ) (a n h : ℕ) (o₀ o : List ℕ) (j : ℕ) → Picked t is a n h o₀ o j → n ≤ j → o ≡ filled (placed t h (part is a n)) (length o₀)
pick_ends t is a n h o₀ o j s l = let e : j ≡ n = omega (arith, s.inside) in
    s.words ∙ ap (λ (k : ℕ). filled (placed t h (part is a k)) (length o₀)) e

-- ---- 1: the lists and the rooms
pub record Few (h t i x y : ℕ) : Type 0 where
  pub handed : h ≤ 16777215
  pub taken : t ≤ 16777215
  pub places : i ≤ 16777215
  pub handed_room : x ≤ 16777215
  pub taken_room : y ≤ 16777215

pub lists_sound : (h t i x y : ℕ) (b : Bool) → b ≡ lists_fit h t i x y → b ≡ true → Few h t i x y
lists_sound h t i x y b e q =
    let a = h ≤? 16777215 in let b' = t ≤? 16777215 in let c = i ≤? 16777215 in let d = x ≤? 16777215 in let f = y ≤? 16777215 in
    let w : ((((a && b') && c) && d) && f) ≡ true = sym e ∙ q in
    let w4 = and_l (((a && b') && c) && d) f w in let w3 = and_l ((a && b') && c) d w4 in let w2 = and_l (a && b') c w3 in
    record {
      handed = leb-true h 16777215 (and_l a b' w2);
      taken = leb-true t 16777215 (and_r a b' w2);
      places = leb-true i 16777215 (and_r (a && b') c w3);
      handed_room = leb-true x 16777215 (and_r ((a && b') && c) d w4);
      taken_room = leb-true y 16777215 (and_r (((a && b') && c) && d) f w);
    }

-- ---- 15 and 11
module _ (h t : ℕ) (is : List ℕ) (n x y : ℕ) (en : n ≡ leading h is) where
  pub lead_within : n ≤ length is
  lead_within = omega (arith, leading_le h is)

  module _ (b : Bool) (eb : b ≡ below (h + t) is) where
    pub places_15 : b ≡ false → Err Index ≡ done_of (places_number h t is x y)
    unfolding places_number
    places_15 f = sym (rw (sym eb ∙ f))

    module _ (tb : b ≡ true) (d : Bool) (ed : d ≡ all_from is n h) where
      rest_is : all_from is (leading h is) h ≡ d
      rest_is = ap (λ (k : ℕ). all_from is k h) (sym en) ∙ sym ed

      pub places_15_order : d ≡ false → Err Index ≡ done_of (places_number h t is x y)
      unfolding places_number
      places_15_order f = sym (rw (sym eb ∙ tb, rest_is ∙ f))

      module _ (td : d ≡ true) where
        pub places_11 : x < n → Err Room ≡ done_of (places_number h t is x y)
        unfolding places_number
        places_11 l = let q : x < leading h is = omega arith in sym (rw (sym eb ∙ tb, rest_is ∙ td, lt-leb (leading h is) x q))

        module _ (lx : n ≤ x) where
          pub places_11_taken : y < length is - n → Err Room ≡ done_of (places_number h t is x y)
          unfolding places_number
          places_11_taken l =
              let q : leading h is ≤ x = omega arith in
              let q' : y < length is - leading h is = omega arith in
              sym (rw (sym eb ∙ tb, rest_is ∙ td, le-leb (leading h is) x q, lt-leb (length is - leading h is) y q'))

          pub places_0 : length is - n ≤ y → Ok tt ≡ done_of (places_number h t is x y)
          unfolding places_number
          places_0 l =
              let q : leading h is ≤ x = omega arith in
              let q' : length is - leading h is ≤ y = omega arith in
              sym (rw (sym eb ∙ tb, rest_is ∙ td, le-leb (leading h is) x q, le-leb (length is - leading h is) y q'))

-- ---- the whole number, and what it says
module _ (hs ts is : List ℕ) (x y : ℕ) where
  abbrev st : Stage
  st = stage_of hs ts

  pub number_early : lists_fit (length hs) (length ts) (length is) x y ≡ false → subset_number (stage_of hs ts) is x y ≡ 1
  unfolding subset_number
  number_early f = rw f

  -- the lengths of the two halves
  halves_long : all_from is (leading (length hs) is) (length hs) ≡ true
      → (length (subset (stage_of hs ts) is).handed ≡ leading (length hs) is) × (length (subset (stage_of hs ts) is).taken ≡ length is - leading (length hs) is)
  unfolding all_from
  halves_long e = let w = halves (length hs) is e in let l = leading_le (length hs) is in (
    (length-map (keep (λ i. i <? length hs) is) (λ i. get_or hs i 0) ∙ ap length w.0 ∙ length-take-le (leading (length hs) is) is l),
    length-map (keep (λ i. length hs ≤? i) is) (λ i. get_or ts (i - length hs) 0) ∙ ap length w.1 ∙ length-drop (leading (length hs) is) is,
  )

  fits_same : (a b : Bool) → (a ≡ true → b ≡ true → stage_fits (subset (stage_of hs ts) is) x y ≡ ((leading (length hs) is ≤? x) && (length is - leading (length hs) is ≤? y)))
      → or_else (refuse 15 (a && b)) (refuse 11 (stage_fits (subset (stage_of hs ts) is) x y))
      ≡ or_else (refuse 15 (a && b)) (refuse 11 ((leading (length hs) is ≤? x) && (length is - leading (length hs) is ≤? y)))
  fits_same true true h = ap (refuse 11) (h refl refl)
  fits_same true false h = refl
  fits_same false b h = refl

  pub number_later : lists_fit (length hs) (length ts) (length is) x y ≡ true → subset_number (stage_of hs ts) is x y ≡ places_number (length hs) (length ts) is x y
  unfolding subset_number places_number all_from
  number_later t =
      rw (t, first_is (length hs) is)
      (fits_same (below (length hs + length ts) is) (every (λ j. length hs ≤? j) (drop (leading (length hs) is) is))
      (λ _ e. let w = halves_long e in λ i. (w.0 i ≤? x) && (w.1 i ≤? y)))

-- what the number 0 says of the places
pub record PlacesSound (h t : ℕ) (is : List ℕ) (x y : ℕ) : Type 0 where
  pub inside : below (h + t) is ≡ true
  pub ordered : every (λ j. h ≤? j) (drop (leading h is) is) ≡ true
  pub handed_fits : leading h is ≤ x
  pub taken_fits : length is - leading h is ≤ y

pub places_sound : (h t : ℕ) (is : List ℕ) (x y : ℕ) → places_number h t is x y ≡ 0 → PlacesSound h t is x y
unfolding places_number all_from
places_sound h t is x y z =
    let a = below (h + t) is in let b = every (λ j. h ≤? j) (drop (leading h is) is) in
    let p = leading h is ≤? x in let q = length is - leading h is ≤? y in
    let w = or_zero (refuse 15 (a && b)) (refuse 11 (p && q)) z in
    let u = last_refused 14 (a && b) w.0 in let v = last_refused 10 (p && q) w.1 in
    record {
      inside = and_l a b u;
      ordered = and_r a b u;
      handed_fits = leb-true (leading h is) x (and_l p q v);
      taken_fits = leb-true (length is - leading h is) y (and_r p q v);
    }

-- ---- the number in the code's shape
module _ (hs ts is : List ℕ) (x y : ℕ) (b : Bool) (eb : b ≡ lists_fit (length hs) (length ts) (length is) x y) where
  pub subset_1 : b ≡ false → Err Bounds ≡ done_of (subset_number (stage_of hs ts) is x y)
  subset_1 f = sym (ap done_of (number_early hs ts is x y (sym eb ∙ f)))

  module _ (tb : b ≡ true) where
    pub handed_few : length hs ≤ 16777215
    handed_few = (lists_sound (length hs) (length ts) (length is) x y b eb tb).handed

    pub taken_few : length ts ≤ 16777215
    taken_few = (lists_sound (length hs) (length ts) (length is) x y b eb tb).taken

    pub subset_later : (r : Result (Unit {0}) Refusal) → r ≡ done_of (places_number (length hs) (length ts) is x y) → r ≡ done_of (subset_number (stage_of hs ts) is x y)
    subset_later r e = e ∙ sym (ap done_of (number_later hs ts is x y (sym eb ∙ tb)))

pub subset_sound : (hs ts is : List ℕ) (x y : ℕ) → subset_number (stage_of hs ts) is x y ≡ 0
    → (Few (length hs) (length ts) (length is) x y) × (PlacesSound (length hs) (length ts) is x y)
subset_sound hs ts is x y z = by_test (lists_fit (length hs) (length ts) (length is) x y)
    (λ t. (
      lists_sound (length hs) (length ts) (length is) x y true (sym t) refl,
      places_sound (length hs) (length ts) is x y (sym (number_later hs ts is x y t) ∙ z),
    ))
    (λ f. absurd (omega (arith, sym (number_early hs ts is x y f) ∙ z)))

-- ---- both halves: h₁ and t₁ are the tables, which are 0
module _ (hs ts is : List ℕ) (n : ℕ) (h₁ t₁ : List ℕ) (r : Ready (stage_of hs ts) is n h₁ t₁) where
  few : Few (length hs) (length ts) (length is) (length h₁) (length t₁)
  few = (subset_sound hs ts is (length h₁) (length t₁) r.number).0

  sound : PlacesSound (length hs) (length ts) is (length h₁) (length t₁)
  sound = (subset_sound hs ts is (length h₁) (length t₁) r.number).1

  lead_few : n ≤ length is
  lead_few = r.inside

  inside_at : (j : ℕ) → j < length is → get_or is j 0 < length hs + length ts
  inside_at j l = ltb-true (get_or is j 0) (length hs + length ts) (every_at (λ i. i <? length hs + length ts) 0 is j sound.inside l)

  rest_at : (j : ℕ) → j < length is - n → length hs ≤ get_or is (n + j) 0
  rest_at j l =
      let lk = leading_le (length hs) is in
      let d = drop (leading (length hs) is) is in
      let w = leb-true (length hs) (get_or d j 0) (every_at (λ i. length hs ≤? i) 0 d j sound.ordered (omega (arith, length-drop (leading (length hs) is) is, r.lead))) in
      omega (arith, w, get_or-drop (leading (length hs) is) is j 0, ap (λ (m : ℕ). get_or is (m + j) 0) r.lead)

  pub first_places : Places is 0 n 0 (length hs)
  first_places = record {
    long = omega (arith, lead_few);
    least = λ j l. omega arith;
    inside = λ j l. let q : 0 + j ≡ j = omega arith in omega (arith, r.lead, leads (length hs) is j (omega (arith, r.lead)), ap (λ (m : ℕ). get_or is m 0) q);
  }

  pub first_fits : n ≤ length h₁
  first_fits = omega (arith, sound.handed_fits, r.lead)

  pub second_places : Places is n (length is - n) (length hs) (length ts)
  second_places = record {
    long = omega (arith, lead_few);
    least = rest_at;
    inside = λ j l. omega (arith, inside_at (n + j) (omega (arith, lead_few)), rest_at j l);
  }

  pub second_fits : length is - n ≤ length t₁
  second_fits = omega (arith, sound.taken_fits, r.lead)

  first_part : placed hs 0 (part is 0 n) ≡ (subset (stage_of hs ts) is).handed
  unfolding part
  first_part = ap (λ (m : ℕ). placed hs 0 (take m is)) r.lead ∙ ap (placed hs 0) (sym (halves (length hs) is sound.ordered).0)
      ∙ map_same (λ i. get_or hs (i - 0) 0) (λ i. get_or hs i 0) (keep (λ i. i <? length hs) is) (λ i m. let q : i - 0 ≡ i = omega arith in ap (λ (j : ℕ). get_or hs j 0) q)

  second_part : placed ts (length hs) (part is n (length is - n)) ≡ (subset (stage_of hs ts) is).taken
  unfolding part
  second_part = ap (placed ts (length hs)) (take_all (length is - n) (drop n is) (omega (arith, length-drop n is)) ∙ ap (λ (m : ℕ). drop m is) r.lead
      ∙ sym (halves (length hs) is sound.ordered).1)

  pub subset_made : (h₂ t₂ : List ℕ) → h₂ ≡ filled (placed hs 0 (part is 0 n)) (length h₁) → t₂ ≡ filled (placed ts (length hs) (part is n (length is - n))) (length t₁)
      → Subsetted (stage_of hs ts) is h₁ t₁ h₂ t₂ (Ok (record { handed = n; taken = length is - n }))
  unfolding all_from
  subset_made h₂ t₂ e₁ e₂ =
      let w = halves_long hs ts is (length h₁) (length t₁) sound.ordered in
      let y : subset_number (stage_of hs ts) is (length h₁) (length t₁) ≡ 0 = r.number in
      let nl : n ≡ length (subset (stage_of hs ts) is).handed = r.lead ∙ sym w.0 in
      let rl : length is - n ≡ length (subset (stage_of hs ts) is).taken = ap (λ (m : ℕ). length is - m) r.lead ∙ sym w.1 in
      record {
        answer = answered (subset_number (stage_of hs ts) is (length h₁) (length t₁)) _ _ y (λ i. record { handed = nl i; taken = rl i });
        handed = e₁ ∙ (λ i. filled (first_part i) (length h₁)) ∙ sym (ap (λ (x : ℕ). held x (subset (stage_of hs ts) is).handed (length h₁)) y);
        taken = e₂ ∙ (λ i. filled (second_part i) (length t₁)) ∙ sym (ap (λ (x : ℕ). held x (subset (stage_of hs ts) is).taken (length t₁)) y);
      }

-- ---- the answer: h₁ and t₁ are the tables zeroed
module _ (hs ts is h t h₁ t₁ : List ℕ) (eh : h₁ ≡ zeros (length h)) (et : t₁ ≡ zeros (length t)) where
  hl : length h₁ ≡ length h
  hl = ap length eh ∙ zeros-length (length h)

  tl : length t₁ ≡ length t
  tl = ap length et ∙ zeros-length (length t)

  number_at : subset_number (stage_of hs ts) is (length h₁) (length t₁) ≡ subset_number (stage_of hs ts) is (length h) (length t)
  number_at = λ i. subset_number (stage_of hs ts) is (hl i) (tl i)

  pub subset-refused : (e : Refusal) → Err e ≡ done_of (subset_number (stage_of hs ts) is (length h₁) (length t₁)) → Subsetted (stage_of hs ts) is h t h₁ t₁ (Err e)
  subset-refused e r =
      let k : ℕ = subset_number (stage_of hs ts) is (length h) (length t) in
      let q : Err e ≡ done_of k = r ∙ ap done_of number_at in
      record {
        answer = refused_too k (stage_size (subset (stage_of hs ts) is)) e q;
        handed = eh ∙ held_none k (subset (stage_of hs ts) is).handed (length h) e q;
        taken = et ∙ held_none k (subset (stage_of hs ts) is).taken (length t) e q;
      }

  pub subset_ready : (n : ℕ) → n ≡ leading (length hs) is → (u : Unit {0}) → Ok u ≡ done_of (subset_number (stage_of hs ts) is (length h₁) (length t₁))
      → Ready (stage_of hs ts) is n h₁ t₁
  subset_ready n en u y =
      let z = number_zero (subset_number (stage_of hs ts) is (length h₁) (length t₁)) u tt y in
      record {
        number = z;
        lead = en;
        inside = omega (arith, leading_le (length hs) is);
        few = (subset_sound hs ts is (length h₁) (length t₁) z).0.places;
        handed_zero = eh ∙ ap zeros (sym hl);
        taken_zero = et ∙ ap zeros (sym tl);
      }

  pub subset_picked : (h₂ t₂ : List ℕ) (r : Result StageSize Refusal) → Subsetted (stage_of hs ts) is h₁ t₁ h₂ t₂ r → Subsetted (stage_of hs ts) is h t h₂ t₂ r
  subset_picked h₂ t₂ r a = record {
    answer = a.answer ∙ ap (λ (x : ℕ). answer_of x (stage_size (subset (stage_of hs ts) is))) number_at;
    handed = a.handed ∙ (λ i. held (number_at i) (subset (stage_of hs ts) is).handed (hl i));
    taken = a.taken ∙ (λ i. held (number_at i) (subset (stage_of hs ts) is).taken (tl i));
  }
