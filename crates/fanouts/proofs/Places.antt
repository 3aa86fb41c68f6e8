-- The lists filled from their backs, gate by gate.
use mathlib.Core.Path.{◌≡◌, refl, sym, ap, subst, ◌∙◌}
use mathlib.Core.List.{List, [], ◌∷◌, ◌++◌, map}
use Prim.Native.Nat.{ℕ, zero, suc, ◌+◌, ◌-◌, ◌*◌, ◌/◌, ◌<◌, ◌≤◌}
use native.Mathlib.Numerals.{add-one}
use native.Mathlib.Omega.{arith}
use borrow.Author.Tests.{eqb-true, eqb-false, eq-eqb, ne_eqb, ltb-true, ltb-false}
use lib.ListN.{length, get_or, set, length-set}
use lib.Seq.{get_or-set_same, get_or-set_other}
use Rattle.std.specs.Prelude.{◌==◌}
use Rattle.laws.specs.Tests.{◌<?◌, one}
use Rattle.laws.specs.Lists.{count, keep, over, put}
use Rattle.laws.proofs.Tests.{by_test, one_eq, one_ne}
use Rattle.laws.proofs.Bags.{put_same, put_other}
use Rattle.walk.specs.State.{tag_of, first_of, second_of, Operands}
use Rattle.fanouts.specs.Fans.{operands_of, readings, readers_of, counts_to, Fan, fan, put_before, Roomy, Placed, Placing}
use Rattle.fanouts.proofs.Readings.{gate-operands, no_operands, by_tag, count-more, count_rises, readers_more, readers_count, counts_suc, counts_rise}

-- ---- lists that are the same in another way
pub placed_same : (E : ℕ → ℕ) (m : ℕ) (R Q : ℕ → List ℕ) (s l : List ℕ) → ((p : ℕ) → p < m → R p ≡ Q p) → Placed E m R s l → Placed E m Q s l
placed_same E m R Q s l e g = record {
  long = g.long;
  room = g.room;
  starts = λ p h. ap (λ (x : List ℕ). get_or s p 0 + length x) (sym (e p h)) ∙ g.starts p h;
  last = g.last;
  past = g.past;
  lists = λ p j h k. g.lists p j h (subst (λ (x : List ℕ). j < length x) (sym (e p h)) k) ∙ ap (λ (x : List ℕ). get_or x j 0) (e p h);
  rest = g.rest;
}

-- ---- one reader is put before the others of its pin: there is room between where the pin's list may begin and where it begins now
module _ (E : ℕ → ℕ) (m : ℕ) (R : ℕ → List ℕ) (s l : List ℕ) (rise : (p q : ℕ) → p ≤ q → E p ≤ E q) (few : (p : ℕ) → p < m → E p + length (R p) ≤ E (suc p))
    (g : Placed E m R s l) (u o : ℕ) (h : o < m) (more : E o + length (R o) < E (suc o)) where
  abbrev at : ℕ
  at = get_or s o 0 - 1

  pub put_some : 0 < get_or s o 0
  put_some = omega (arith, g.starts o h)

  pub put_room : get_or s o 0 ≤ length l
  put_room = omega (arith, g.starts o h, rise (suc o) m h, g.room)

  at_low : E o ≤ at
  at_low = omega (arith, g.starts o h)

  at_high : at < E (suc o)
  at_high = omega (arith, g.starts o h)

  -- a word of another pin's list, or past all lists, is another word
  apart : (p j : ℕ) → p < m → (p ≡ o → ⊥) → j < length (R p) → get_or s p 0 + j ≡ at → ⊥
  apart p j k n i e = by_test (p <? o)
      (λ t. omega (arith, e, i, at_low, g.starts p k, rise (suc p) o (ltb-true p o t)))
      (λ f. omega (arith, e, i, at_high, g.starts p k, few p k, rise (suc o) p (omega (arith, ltb-false p o f, n))))

  abbrev R' : ℕ → List ℕ
  R' = put R o (u ∷ R o)

  abbrev s' : List ℕ
  s' = set s o at

  abbrev l' : List ℕ
  l' = set l at u

  start-same : get_or s' o 0 ≡ at
  start-same = get_or-set_same s o at 0 (omega (arith, g.long))

  starts_put : (p : ℕ) → p < m → get_or s' p 0 + length (R' p) ≡ E (suc p)
  starts_put p k = by_test (p == o)
      (λ t. let q = eqb-true p o t in
      subst (λ (x : ℕ). get_or s' x 0 + length (R' x) ≡ E (suc x)) (sym q)
      (omega (arith, start-same, ap length (put_same R o (u ∷ R o)), g.starts o h, put_some)))
      (λ f. let n = eqb-false p o f in
      omega (arith, get_or-set_other s o p at 0 n, ap length (put_other R o (u ∷ R o) p n), g.starts p k))

  list_first : (j : ℕ) → j < length (u ∷ R o) → get_or l' (at + j) 0 ≡ get_or (u ∷ R o) j 0
  list_first zero i = ap (λ (x : ℕ). get_or l' x 0) (let e : at + 0 ≡ at = omega arith in e) ∙ get_or-set_same l at u 0 (omega (arith, put_room, put_some))
  list_first (suc j) i =
      let e : at + suc j ≡ get_or s o 0 + j = omega (arith, put_some) in
      ap (λ (x : ℕ). get_or l' x 0) e ∙ get_or-set_other l at (get_or s o 0 + j) u 0 (λ q. omega (arith, q, put_some)) ∙ g.lists o j h (omega arith)

  lists_put : (p j : ℕ) → p < m → j < length (R' p) → get_or l' (get_or s' p 0 + j) 0 ≡ get_or (R' p) j 0
  lists_put p j k i = by_test (p == o)
      (λ t. let q = eqb-true p o t in
      let i' : j < length (R' o) = subst (λ (x : ℕ). j < length (R' x)) q i in
      subst (λ (x : ℕ). get_or l' (get_or s' x 0 + j) 0 ≡ get_or (R' x) j 0) (sym q)
      (ap (λ (x : ℕ). get_or l' (x + j) 0) start-same ∙ list_first j (subst (λ (x : List ℕ). j < length x) (put_same R o (u ∷ R o)) i')
      ∙ ap (λ (x : List ℕ). get_or x j 0) (sym (put_same R o (u ∷ R o)))))
      (λ f. let n = eqb-false p o f in
      let i' : j < length (R p) = subst (λ (x : List ℕ). j < length x) (put_other R o (u ∷ R o) p n) i in
      ap (λ (x : ℕ). get_or l' (x + j) 0) (get_or-set_other s o p at 0 n)
      ∙ get_or-set_other l at (get_or s p 0 + j) u 0 (apart p j k n i') ∙ g.lists p j k i'
      ∙ ap (λ (x : List ℕ). get_or x j 0) (sym (put_other R o (u ∷ R o) p n)))

  pub placed-more : Placed E m R' s' l'
  placed-more = record {
    long = rw (length-set s o at) g.long;
    room = rw (length-set l at u) g.room;
    starts = starts_put;
    last = get_or-set_other s o m at 0 (λ q. omega (arith, q, h)) ∙ g.last;
    past = λ j k. get_or-set_other s o j at 0 (λ q. omega (arith, q, k, h)) ∙ g.past j k;
    lists = lists_put;
    rest = λ j k. get_or-set_other l at j u 0 (λ q. omega (arith, q, k, at_high, rise (suc o) m h)) ∙ g.rest j k;
  }

-- ---- the gate u, put before all smaller ones
module _ (ws : List ℕ) (m : ℕ) (s l : List ℕ) (u : ℕ) (fit : Operands ws m) (g : Placing ws m s l u) (h : u < m) where
  abbrev E : ℕ → ℕ
  E = counts_to (readings ws m)

  abbrev R : ℕ → List ℕ
  R = readers_of ws u

  rises : (p q : ℕ) → p ≤ q → E p ≤ E q
  rises = counts_rise (readings ws m)

  -- how many readers of p are put at most once this gate is put
  most : (p : ℕ) → E p + (length (R p) + count p (operands_of ws u)) ≤ E (suc p)
  most p = omega (arith, readers_count ws p u, count-more ws u p, count_rises ws (suc u) m p h, counts_suc (readings ws m) p)

  few : (p : ℕ) → p < m → E p + length (R p) ≤ E (suc p)
  few p k = omega (arith, most p)

  pub put-none : (tag_of ws u ≡ 1 → ⊥) → Placing ws m s l (u + 1)
  put-none n = record { placed = placed_same E m R (readers_of ws (u + 1)) s l same g.placed }
    where
      same : (p : ℕ) → p < m → R p ≡ readers_of ws (u + 1) p
      same p k = sym (ap (λ (x : ℕ). readers_of ws x p) (add-one u) ∙ readers_more ws p u ∙ ap (λ (os : List ℕ). map (λ o. u) (keep (λ o. o == p) os) ++ R p) (no_operands ws u n))

  module _ (t : tag_of ws u ≡ 1) where
    abbrev a : ℕ
    a = first_of ws u

    abbrev b : ℕ
    b = second_of ws u

    ops : operands_of ws u ≡ a ∷ b ∷ []
    ops = gate-operands ws u t

    a_in : a < m
    a_in = omega (arith, fit.first_less u h t)

    b_in : b < m
    b_in = omega (arith, fit.second_less u h t)

    most_here : (p : ℕ) → E p + (length (R p) + (one (p == a) + one (p == b))) ≤ E (suc p)
    most_here p = omega (arith, most p, ap (count p) ops)

    more_a : E a + length (R a) < E (suc a)
    more_a = omega (arith, most_here a, one_eq a a refl)

    R₁ : ℕ → List ℕ
    R₁ = put R a (u ∷ R a)

    s₁ : List ℕ
    s₁ = set s a (get_or s a 0 - 1)

    l₁ : List ℕ
    l₁ = set l (get_or s a 0 - 1) u

    placed₁ : Placed E m R₁ s₁ l₁
    unfolding R₁ s₁ l₁
    placed₁ = placed-more E m R s l rises few g.placed u a a_in more_a

    length₁ : (p : ℕ) → length (R₁ p) ≡ length (R p) + one (p == a)
    unfolding R₁
    length₁ p = by_test (p == a)
        (λ y. let q = eqb-true p a y in
        subst (λ (x : ℕ). length (put R a (u ∷ R a) x) ≡ length (R x) + one (x == a)) (sym q) (omega (arith, ap length (put_same R a (u ∷ R a)), one_eq a a refl)))
        (λ f. let n = eqb-false p a f in omega (arith, ap length (put_other R a (u ∷ R a) p n), one_ne p a n))

    few₁ : (p : ℕ) → p < m → E p + length (R₁ p) ≤ E (suc p)
    few₁ p k = omega (arith, length₁ p, most_here p)

    more_b : E b + length (R₁ b) < E (suc b)
    more_b = omega (arith, length₁ b, most_here b, one_eq b b refl)

    -- both are put: the lists are those of the next gate
    R₂ : ℕ → List ℕ
    R₂ = put R₁ b (u ∷ R₁ b)

    both-put : (p : ℕ) → R₂ p ≡ map (λ o. u) (keep (λ o. o == p) (a ∷ b ∷ [])) ++ R p
    unfolding R₁ R₂
    both-put p = by_test (p == a)
        (λ ya. let qa = eqb-true p a ya in by_test (p == b)
        (λ yb. let qb = eqb-true p b yb in
        rw (yb, eq-eqb a p (sym qa), eq-eqb b p (sym qb)) (ap (λ (x : ℕ). u ∷ put R a (u ∷ R a) x) (sym qb) ∙ rw ya (ap (λ (x : ℕ). u ∷ u ∷ R x) (sym qa))))
        (λ fb. let nb = eqb-false p b fb in rw (fb, ya, eq-eqb a p (sym qa), ne_eqb b p (λ q. nb (sym q))) (ap (λ (x : ℕ). u ∷ R x) (sym qa))))
        (λ fa. let na = eqb-false p a fa in by_test (p == b)
        (λ yb. let qb = eqb-true p b yb in
        rw (yb, ne_eqb a p (λ q. na (sym q)), eq-eqb b p (sym qb)) (ap (λ (x : ℕ). u ∷ put R a (u ∷ R a) x) (sym qb) ∙ rw fa))
        (λ fb. let nb = eqb-false p b fb in rw (fb, fa, ne_eqb a p (λ q. na (sym q)), ne_eqb b p (λ q. nb (sym q)))))

    next_readers : (p : ℕ) → p < m → R₂ p ≡ readers_of ws (u + 1) p
    next_readers p k = both-put p ∙ ap (λ (os : List ℕ). map (λ o. u) (keep (λ o. o == p) os) ++ R p) (sym ops)
        ∙ sym (ap (λ (x : ℕ). readers_of ws x p) (add-one u) ∙ readers_more ws p u)

    pub first_some : 0 < get_or s a 0
    first_some = put_some E m R s l rises few g.placed u a a_in more_a

    pub first_room : get_or s a 0 ≤ length l
    first_room = put_room E m R s l rises few g.placed u a a_in more_a

    pub second_some : 0 < get_or (set s a (get_or s a 0 - 1)) b 0
    unfolding s₁
    second_some = put_some E m R₁ s₁ l₁ rises few₁ placed₁ u b b_in more_b

    pub second_room : get_or (set s a (get_or s a 0 - 1)) b 0 ≤ length l
    unfolding s₁ l₁
    second_room = subst (λ (n : ℕ). get_or s₁ b 0 ≤ n) (length-set l (get_or s a 0 - 1) u) (put_room E m R₁ s₁ l₁ rises few₁ placed₁ u b b_in more_b)

    pub put_both : Placing ws m (over (put_before u) (fan s l) (a ∷ b ∷ [])).starts (over (put_before u) (fan s l) (a ∷ b ∷ [])).lists (u + 1)
    unfolding R₂ s₁ l₁
    put_both = record {
      placed = placed_same E m R₂ (readers_of ws (u + 1)) (set s₁ b (get_or s₁ b 0 - 1)) (set l₁ (get_or s₁ b 0 - 1) u) next_readers
          (placed-more E m R₁ s₁ l₁ rises few₁ placed₁ u b b_in more_b);
    }

  -- ---- as the loop has them
  pub roomy : Roomy ws s l u
  roomy = record {
    first_in = λ t. omega (arith, fit.first_less u h t, g.placed.long);
    first_some = first_some;
    first_room = first_room;
    second_in = λ t. omega (arith, fit.second_less u h t, g.placed.long);
    second_some = second_some;
    second_room = second_room;
  }

  pub places_go_on : (s' l' : List ℕ) → fan s' l' ≡ over (put_before u) (fan s l) (operands_of ws u) → Placing ws m s' l' (u + 1)
  places_go_on s' l' e = by_tag ws u
      (λ t. let q : fan s' l' ≡ over (put_before u) (fan s l) (first_of ws u ∷ second_of ws u ∷ []) = e ∙ ap (over (put_before u) (fan s l)) (gate-operands ws u t) in
      subst (λ (f : Fan). Placing ws m f.starts f.lists (u + 1)) (sym q) (put_both t))
      (λ n. let q : fan s' l' ≡ fan s l = e ∙ ap (over (put_before u) (fan s l)) (no_operands ws u n) in
      subst (λ (f : Fan). Placing ws m f.starts f.lists (u + 1)) (sym q) (put-none n))

pub places_end : (ws : List ℕ) (m : ℕ) (s l : List ℕ) (u : ℕ) → Placing ws m s l u → u ≤ m → m ≤ u → Placing ws m s l m
places_end ws m s l u g a b = let e : u ≡ m = omega arith in rw e at g

-- ---- the two words of a gate, as the code reads them
module _ (ws s l : List ℕ) (u t : ℕ) (r : Roomy ws s l u) (et : t ≡ get_or ws (3 * u) 0) where
  pub gate-none : (t ≡ 1 → ⊥) → fan s l ≡ over (put_before u) (fan s l) (operands_of ws u)
  gate-none n = ap (over (put_before u) (fan s l)) (sym (no_operands ws u (λ e. n (et ∙ e))))

  module _ (y : t ≡ 1) (a b : ℕ) (ea : a ≡ get_or ws (3 * u + 1) 0) (eb : b ≡ get_or ws (3 * u + 2) 0) where
    tag : tag_of ws u ≡ 1
    tag = sym et ∙ y

    a_is : first_of ws u ≡ a / 2
    a_is = ap (λ (x : ℕ). x / 2) (sym ea)

    b_is : second_of ws u ≡ b / 2
    b_is = ap (λ (x : ℕ). x / 2) (sym eb)

    pub at_first : a / 2 < length s
    at_first = subst (λ (x : ℕ). x < length s) a_is (r.first_in tag)

    pub some_first : 0 < get_or s (a / 2) 0
    some_first = subst (λ (x : ℕ). 0 < get_or s x 0) a_is (r.first_some tag)

    pub room_first : get_or s (a / 2) 0 ≤ length l
    room_first = subst (λ (x : ℕ). get_or s x 0 ≤ length l) a_is (r.first_room tag)

    module _ (s₁ l₁ : List ℕ) (e₁ : fan s₁ l₁ ≡ put_before u (fan s l) (a / 2)) where
      starts_are : s₁ ≡ set s (first_of ws u) (get_or s (first_of ws u) 0 - 1)
      starts_are = ap (λ (f : Fan). f.starts) e₁ ∙ ap (λ (x : ℕ). set s x (get_or s x 0 - 1)) (sym a_is)

      long : length s₁ ≡ length s
      long = ap length starts_are ∙ length-set s (first_of ws u) (get_or s (first_of ws u) 0 - 1)

      wide : length l₁ ≡ length l
      wide = ap (λ (f : Fan). length f.lists) e₁ ∙ length-set l (get_or s (a / 2) 0 - 1) u

      word_is : get_or s₁ (b / 2) 0 ≡ get_or (set s (first_of ws u) (get_or s (first_of ws u) 0 - 1)) (second_of ws u) 0
      word_is = λ i. get_or (starts_are i) (sym b_is i) 0

      pub at_second : b / 2 < length s₁
      at_second = omega (arith, r.second_in tag, b_is, long)

      pub some_second : 0 < get_or s₁ (b / 2) 0
      some_second = omega (arith, word_is, r.second_some tag)

      pub room_second : get_or s₁ (b / 2) 0 ≤ length l₁
      room_second = omega (arith, word_is, r.second_room tag, wide)

      pub gate-both : (s₂ l₂ : List ℕ) → fan s₂ l₂ ≡ put_before u (fan s₁ l₁) (b / 2) → fan s₂ l₂ ≡ over (put_before u) (fan s l) (operands_of ws u)
      gate-both s₂ l₂ e₂ = e₂ ∙ ap (λ (f : Fan). put_before u f (b / 2)) e₁
          ∙ (λ i. over (put_before u) (fan s l) (sym a_is i ∷ sym b_is i ∷ []))
          ∙ ap (over (put_before u) (fan s l)) (sym (gate-operands ws u tag))
