-- The chosen endpoints and the stops, in words that were 0.
use mathlib.Core.Path.{◌≡◌, refl, sym, ap, subst, ◌∙◌}
use mathlib.Core.Bool.{Bool, true, false, ◌&&◌}
use mathlib.Core.List.{List, [], ◌∷◌, ◌++◌, append-nil, append_assoc}
use Prim.Native.Nat.{ℕ, ◌+◌, ◌*◌, ◌≤◌}
use native.Mathlib.Omega.{arith}
use lib.ListN.{length, get_or, length-append}
use borrow.Author.Tests.{eq-eqb, eqb-true, le-leb, lt-leb}
use Rattle.std.specs.Prelude.{◌==◌}
use Rattle.laws.specs.Tests.{◌≤?◌}
use Rattle.laws.specs.Lists.{count, member, over}
use Rattle.laws.specs.Sets.{insert}
use Rattle.laws.specs.Words.{part, AllBelow}
use Rattle.laws.proofs.Tests.{by_test, and-false, bits_same, one_le}
use Rattle.laws.proofs.Bags.{count-append, every_true, every_all, member_true, member_false}
use Rattle.laws.proofs.Sets.{insert-once, insert_new}
use Rattle.laws.proofs.Words.{zeros_at, part_none, part_at, part_length, below_tested, word_past}
use Rattle.rules.specs.Refusals.{below, no_repeat}
use Rattle.walk.specs.State.{Stops, StopsSet}
use Rattle.members.specs.Set.{SetIn, InsertedAll}
use Rattle.asked.specs.Answer.{Room, Begun, begun, no_sets}

-- ---- as many members as numbers: then none repeats
insert_few : (l s : List ℕ) → length (over insert s l) ≤ length s + length l
insert_few [] s = omega arith
insert_few (x ∷ l) s = by_test (member x s)
    (λ t. rw t (omega (arith, insert_few l s)))
    (λ f. rw f (omega (arith, insert_few l (s ++ (x ∷ [])), length-append s (x ∷ []))))

insert_whole : (l s : List ℕ) → length (over insert s l) ≡ length s + length l → over insert s l ≡ s ++ l
insert_whole [] s = λ e. sym (append-nil s)
insert_whole (x ∷ l) s = by_test (member x s)
    (λ t. rw t (λ e. absurd (omega (arith, e, insert_few l s))))
    (λ f. rw f (λ e. insert_whole l (s ++ (x ∷ [])) (omega (arith, e, length-append s (x ∷ []))) ∙ append_assoc s (x ∷ []) l))

insert_keeps_once : (l s : List ℕ) → ((p : ℕ) → count p s ≤ 1) → (p : ℕ) → count p (over insert s l) ≤ 1
insert_keeps_once [] s h = h
insert_keeps_once (x ∷ l) s h = insert_keeps_once l (insert s x) (λ p. insert-once s x p h)

insert_apart : (l s : List ℕ) → ((p : ℕ) → count p s + count p l ≤ 1) → over insert s l ≡ s ++ l
insert_apart [] s h = sym (append-nil s)
insert_apart (x ∷ l) s h =
    ap (λ (t : List ℕ). over insert t l) (insert_new s x (omega (arith, h x, Rattle.laws.proofs.Tests.one_eq x x refl)))
    ∙ insert_apart l (s ++ (x ∷ [])) (λ p. omega (arith, h p, count-append p s (x ∷ []))) ∙ append_assoc s (x ∷ []) l

pub set_test : (l : List ℕ) → (length (over insert [] l) == length l) ≡ no_repeat l
set_test l = bits_same (length (over insert [] l) == length l) (no_repeat l)
    (λ t. let e : over insert [] l ≡ l = insert_whole l [] (omega (arith, eqb-true (length (over insert [] l)) (length l) t)) in
    every_all (λ i. count i l == 1) l (λ x m. eq-eqb (count x l) 1 (omega (arith, m, insert_keeps_once l [] (λ p. omega arith) x, ap (count x) e))))
    (λ t. eq-eqb (length (over insert [] l)) (length l) (ap length (insert_apart l [] (λ p. by_test (member p l)
    (λ m. omega (arith, eqb-true (count p l) 1 (every_true (λ i. count i l == 1) p l t (member_true p l m))))
    (λ n. omega (arith, member_false p l n))))))

pub set_whole : (l : List ℕ) → no_repeat l ≡ true → over insert [] l ≡ l
set_whole l t = insert_whole l [] (omega (arith, eqb-true (length (over insert [] l)) (length l) (set_test l ∙ t)))

-- ---- words that are 0
module _ (w : List ℕ) (m ends : ℕ) (r : Room w m ends) where
  zero_at : (j : ℕ) → get_or w j 0 ≡ 0
  zero_at j = ap (λ (t : List ℕ). get_or t j 0) r.zero ∙ zeros_at (length w) j

  pub room_stops : Stops w m []
  room_stops = record { stop = λ p l. zero_at (m + p) }

  pub room_two : 2 * m ≤ length w
  room_two = omega (arith, r.long)

  empty_set : (v : List ℕ) → length v ≡ length w → ((j : ℕ) → 8 * m ≤ j → get_or v j 0 ≡ 0) → SetIn v (8 * m) ends 0
  empty_set v l z = record {
    few = omega arith;
    room = omega (arith, r.ends_few);
    long = omega (arith, r.long);
    once = λ p. rw (part_none v (8 * m)) (omega arith);
    inside = λ j h. absurd (omega arith);
    places = rw (part_none v (8 * m)) (record { at = λ i h. absurd (omega arith); off = λ p _. place p });
    beyond = λ j h u. z (8 * m + j) (omega arith);
  }
    where
      place : (p : ℕ) → get_or (part v (8 * m + ends) ends) p 0 ≡ 0
      place p = by_test (Rattle.laws.specs.Tests.◌<?◌ p ends)
          (λ t. part_at v (8 * m + ends) ends p (borrow.Author.Tests.ltb-true p ends t) ∙ z (8 * m + ends + p) (omega arith))
          (λ f. word_past (part v (8 * m + ends) ends) p (omega (arith, borrow.Author.Tests.ltb-false p ends f, part_length v (8 * m + ends) ends (omega (arith, r.long)))))

  pub room_set : SetIn w (8 * m) ends 0
  room_set = empty_set w refl (λ j l. zero_at j)

  pub begin_set : (before w₁ : List ℕ) (d : Bool) → StopsSet m before w w₁ d → SetIn w₁ (8 * m) ends 0
  begin_set before w₁ d s = empty_set w₁ s.long (λ j l. s.after j (omega arith) ∙ zero_at j)

  module _ (chosen before : List ℕ) (a : Bool) (ea : a ≡ below ends chosen) where
    pub begin_chosen : a ≡ false → Begun chosen before m ends w w false
    begin_chosen f = no_sets (rw (sym ea ∙ f)) refl refl

    module _ (ta : a ≡ true) where
      pub chosen_below : AllBelow ends chosen
      chosen_below = below_tested ends chosen (sym ea ∙ ta)

      module _ (b : Bool) (eb : b ≡ below m before) where
        pub begin_before : b ≡ false → Begun chosen before m ends w w false
        begin_before f = no_sets (rw (sym eb ∙ f) (and-false (below ends chosen && no_repeat chosen))) refl refl

        module _ (tb : b ≡ true) where
          pub before-below : AllBelow m before
          before-below = below_tested m before (sym eb ∙ tb)

          module _ (w₁ : List ℕ) (d : Bool) (s : StopsSet m before w w₁ d) where
            pub begin_stops : d ≡ false → Begun chosen before m ends w w₁ false
            begin_stops f = no_sets (rw (sym s.answer ∙ f, sym eb ∙ tb) (and-false (below ends chosen && no_repeat chosen))) s.long refl

            pub begin_done : d ≡ true → (w₂ : List ℕ) (n : ℕ) → InsertedAll chosen w₁ (8 * m) ends w₂ n → Begun chosen before m ends w w₂ (n == length chosen)
            begin_done td w₂ n i = by_test (no_repeat chosen)
                (λ t.
                let whole : over insert [] chosen ≡ chosen = set_whole chosen t in
                let e : n ≡ length chosen = n_is ∙ ap length whole in
                begun (record {
                  flags = λ p l. rw (i.kept.before (m + p) (omega arith) ∙ s.stops.stop p l) (one_le (member p before));
                  marks = λ j l. i.kept.before j (omega arith) ∙ s.before j l ∙ zero_at j;
                  middle = λ j l u. i.kept.before j u ∙ s.after j l ∙ zero_at j;
                  lefts = subst (λ (x : ℕ). SetIn w₂ (8 * m) ends x) e i.holds;
                  left = ap (part w₂ (8 * m)) (sym e) ∙ i.members ∙ whole;
                  stops = record { stop = λ p l. i.kept.before (m + p) (omega arith) ∙ s.stops.stop p l };
                }) (rw (sym ea ∙ ta, t, sym eb ∙ tb, sym s.answer ∙ td)) (i.kept.long ∙ s.long) (eq-eqb n (length chosen) e))
                (λ f. no_sets (rw (sym ea ∙ ta, f)) (i.kept.long ∙ s.long) (ap (λ (x : ℕ). x == length chosen) n_is ∙ set_test chosen ∙ f))
              where
                n_is : n ≡ length (over insert [] chosen)
                n_is = sym (part_length w₂ (8 * m) n (omega (arith, i.holds.long, i.holds.few))) ∙ ap length i.members
