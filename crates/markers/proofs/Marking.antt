-- The markers of all pins along the events, in the code's shape.
use mathlib.Core.Path.{◌≡◌, refl, sym, ◌∙◌, ap, ap₂, subst}
use mathlib.Core.Bool.{true}
use mathlib.Core.List.{List, [], ◌∷◌, map}
use Prim.Native.Nat.{ℕ, zero, suc, ◌+◌, ◌*◌, ◌/◌, ◌%◌, ◌<◌, ◌≤◌}
use native.Mathlib.Numerals.{add-one}
use native.Mathlib.Omega.{arith}
use lib.ListN.{length, get_or, length-set, take}
use lib.Seq.{get_or-set_other, take-length}
use borrow.Author.Tests.{eqb-true, eqb-false}
use Rattle.std.specs.Prelude.{◌==◌}
use Rattle.laws.specs.Lists.{count, over, upto}
use Rattle.laws.specs.Words.{part}
use Rattle.laws.specs.Search.{Event, enter, leave, explore}
use Rattle.laws.proofs.Tests.{by_test, one_eq}
use Rattle.laws.proofs.Bags.{at_head, there}
use Rattle.laws.proofs.Folds.{over-take, over-map, over-same, walk_inv}
use Rattle.laws.proofs.Ranges.{in_upto, upto_in}
use Rattle.laws.proofs.Tasks.{place_of}
use Rattle.laws.proofs.Words.{get_d_set, part_length, part_at}
use Rattle.laws.proofs.Events.{ins, outs, in_after, out_after, count_out, Proper, proper_within, proper_fold, all_found, Apart, explore_apart}
use Rattle.rules.specs.Netlist.{Netlist, size}
use Rattle.rules.specs.Build.{role, next, events}
use Rattle.rules.specs.Refusals.{Loop, loop_free, mark_of, mark_by, mark}
use Rattle.rules.proofs.Roles.{next_closed}
use Rattle.rules.proofs.Accepts.{loop_iff, rank_of, rank_low, visits_fall}
use Rattle.roles.specs.Reading.{tables, Fits}
use Rattle.orders.specs.State.{event_of, events_of}
use Rattle.markers.specs.Marks.{mark_word, word_by, marked, LaidOut, Marked}
use Rattle.markers.proofs.Carrying.{taken_visited, word_is, mark-same}

-- ---- the events of a netlist without loops
module _ (n : Netlist) (f : Fits n) (t : loop_free n ≡ true) where
  abbrev m : ℕ
  m = size n

  free : Loop n → ⊥
  free = (loop_iff n f.accepted).0 t

  falls : (u o : ℕ) → u < m → 0 < count o (next n u) → (o < m) × (rank_of n f.accepted free o < rank_of n f.accepted free u)
  falls = visits_fall n f.accepted free

  all_proper : Proper (next n) [] [] (events n) × ((o : ℕ) → 0 < count o (upto m) → outs o (events n) ≡ 1)
  all_proper = all_found (next n) (λ p. p < m) (rank_of n f.accepted free) falls m (upto m)
      (λ u c. (in_upto m u c, rank_low n f.accepted free u (in_upto m u c)))

  all_apart : Apart m (events n)
  all_apart = walk_inv (Apart m) (explore (next n) m) (upto m) []
      (λ s u c a. explore_apart (next n) m (λ v o h k. next_closed n f.accepted v o h k) m s u (in_upto m u c) a)
      ((λ p. omega arith), λ p c. absurd (omega arith))

  place_inside : (p : ℕ) → 0 < ins p (events n) + outs p (events n) → p < m
  place_inside p c = by_test (ins p (events n) == 0)
      (λ z. let e = eqb-true (ins p (events n)) 0 z in all_apart.1 p (omega (arith, proper_within (next n) (events n) [] [] p all_proper.0 (omega (arith, c, e)))))
      (λ z. all_apart.1 p (omega (arith, eqb-false (ins p (events n)) 0 z)))

  -- ---- the marker of a pin is told by those that it takes it from
  stable : (g h p : ℕ) → p < m → rank_of n f.accepted free p < g → rank_of n f.accepted free p < h → mark_by n g p ≡ mark_by n h p
  stable zero h p l a b = absurd (omega arith)
  stable (suc g) zero p l a b = absurd (omega arith)
  stable (suc g) (suc h) p l a b = mark-same (mark_by n g) (mark_by n h) (role n p) (λ o c.
      let w = falls p o l (taken_visited n o (role n p) c) in stable g h o w.0 (omega (arith, w.1, a)) (omega (arith, w.1, b)))

  mark-told : (p : ℕ) → p < m → mark n p ≡ mark_of (mark n) (role n p)
  mark-told p l = stable m (suc m) p l (rank_low n f.accepted free p l) (omega (arith, rank_low n f.accepted free p l))

  -- ---- one event after the other
  abbrev act : List ℕ → Event → List ℕ
  act s e = marked n s (place_of e)

  module _ (L : ℕ) (long : 4 * m ≤ L) where
    record SoFar (ent lft s : List ℕ) : Type 0 where
      pub size_is : length s ≡ L
      pub left_entered : (p : ℕ) → 0 < count p lft → 0 < count p ent
      pub left_below : (p : ℕ) → 0 < count p lft → p < m
      pub told : (p : ℕ) → 0 < count p lft → get_or s (m + p) 0 ≡ mark_word (mark n p)

    on_enter : (ent lft s : List ℕ) (u : ℕ) → u < m → count u ent ≡ 0 → SoFar ent lft s → SoFar (u ∷ ent) lft (act s (enter u))
    unfolding marked
    on_enter ent lft s u l z i = record {
      size_is = length-set s (m + u) (word_by s m (role n u)) ∙ i.size_is;
      left_entered = λ p c. there p u ent (i.left_entered p c);
      left_below = i.left_below;
      told = λ p c. get_or-set_other s (m + u) (m + p) (word_by s m (role n u)) 0 (λ e. let q : p ≡ u = omega (arith, e) in absurd (omega (arith, i.left_entered p c, ap (λ (x : ℕ). count x ent) q, z))) ∙ i.told p c;
    }

    on_leave : (ent lft s : List ℕ) (u : ℕ) → u < m → 0 < count u ent → count u lft ≡ 0 → ((o : ℕ) → 0 < count o (next n u) → 0 < count o lft) → SoFar ent lft s → SoFar ent (u ∷ lft) (act s (leave u))
    unfolding marked
    on_leave ent lft s u l e z d i = record {
      size_is = length-set s (m + u) (word_by s m (role n u)) ∙ i.size_is;
      left_entered = λ p c. at_head p u lft c (λ q. rw q e) (λ c'. i.left_entered p c');
      left_below = λ p c. at_head p u lft c (λ q. rw q l) (λ c'. i.left_below p c');
      told = λ p c. get_d_set s (m + u) (m + p) (word_by s m (role n u)) (λ (v : ℕ). v ≡ mark_word (mark n p)) (omega (arith, i.size_is, long, l))
          (λ q. let r : p ≡ u = omega (arith, q) in
          word_is s m (mark n) (role n u) (λ o k. i.told o (d o (taken_visited n o (role n u) k))) ∙ ap mark_word (sym (mark-told u l)) ∙ ap (λ (x : ℕ). mark_word (mark n x)) (sym r))
          (λ ne. at_head p u lft c (λ q. absurd (ne (ap (λ (x : ℕ). m + x) q))) (λ c'. i.told p c'));
    }

    all_so_far : (s : List ℕ) → length s ≡ L → SoFar (in_after [] (events n)) (out_after [] (events n)) (over act s (events n))
    all_so_far s e = proper_fold (next n) act SoFar (λ p. p < m) on_enter on_leave (events n) [] [] s all_proper.0
        (λ p c. all_apart.1 p (omega (arith, c)))
        (record { size_is = e; left_entered = λ p c. c; left_below = λ p c. absurd (omega arith); told = λ p c. absurd (omega arith) })

    all_told : (s : List ℕ) → length s ≡ L → (p : ℕ) → p < m → get_or (over act s (events n)) (m + p) 0 ≡ mark_word (mark n p)
    all_told s e p l = (all_so_far s e).told p (omega (arith, count_out (events n) [] p, all_proper.1 p (omega (arith, upto_in m p l))))

-- ---- the events as words
place_word : (v : ℕ) → place_of (event_of v) ≡ v / 2
place_word v = by_test (v % 2 == 1) (λ t. rw t) (λ g. rw g)

word_in : (vs : List ℕ) (i : ℕ) → i < length vs → 0 < ins (get_or vs i 0 / 2) (map event_of vs) + outs (get_or vs i 0 / 2) (map event_of vs)
word_in [] i h = absurd (omega arith)
word_in (v ∷ vs) zero h = by_test (v % 2 == 1)
    (λ t. rw t (omega (arith, one_eq (v / 2) (v / 2) refl)))
    (λ g. rw g (omega (arith, one_eq (v / 2) (v / 2) refl)))
word_in (v ∷ vs) (suc i) h = let ih = word_in vs i (omega arith) in by_test (v % 2 == 1)
    (λ t. rw t (omega (arith, ih)))
    (λ g. rw g (omega (arith, ih)))

-- ---- the loop: the first i events have set their pins' words
pub record Marking (n : Netlist) (w₀ w : List ℕ) (i : ℕ) : Type 0 where
  pub inside : i ≤ 2 * size n
  pub done : w ≡ over (λ (s : List ℕ) (v : ℕ). marked n s (v / 2)) w₀ (take i (part w₀ (2 * size n) (2 * size n)))
  pub before : (j : ℕ) → j < size n → get_or w j 0 ≡ get_or w₀ j 0
  pub after : (j : ℕ) → 2 * size n ≤ j → get_or w j 0 ≡ get_or w₀ j 0

module _ (kinds starts list pins nets w₀ w : List ℕ) (i : ℕ) (f : Fits (tables kinds starts list pins nets)) (g : LaidOut (tables kinds starts list pins nets) w₀)
    (s : Marking (tables kinds starts list pins nets) w₀ w i) where
  abbrev net : Netlist
  net = tables kinds starts list pins nets

  abbrev k : ℕ
  k = length list

  abbrev words : List ℕ
  words = part w₀ (2 * k) (2 * k)

  words_length : length words ≡ 2 * k
  words_length = part_length w₀ (2 * k) (2 * k) (omega (arith, g.long))

  words_are : map event_of words ≡ events net
  unfolding events_of
  words_are = g.order

  module _ (l : i < 2 * length list) where
    same_word : get_or w (2 * k + i) 0 ≡ get_or words i 0
    same_word = s.after (2 * k + i) (omega arith) ∙ sym (part_at w₀ (2 * k) (2 * k) i l)

    pub event_inside : get_or w (2 * length list + i) 0 / 2 < length list
    event_inside = rw same_word (place_inside net f g.free (get_or words i 0 / 2)
        (subst (λ (es : List Event). 0 < ins (get_or words i 0 / 2) es + outs (get_or words i 0 / 2) es) words_are (word_in words i (omega (arith, words_length, l)))))

    pub marking_goes_on : (w' : List ℕ) → w' ≡ marked (tables kinds starts list pins nets) w (get_or w (2 * length list + i) 0 / 2) → Marking (tables kinds starts list pins nets) w₀ w' (i + 1)
    unfolding marked
    marking_goes_on w' e =
        let p : ℕ = get_or w (2 * k + i) 0 / 2 in
        let h : get_or w (2 * k + i) 0 / 2 < k = event_inside in
        record {
          inside = omega arith;
          done = e ∙ ap₂ (λ (t : List ℕ) (v : ℕ). marked net t (v / 2)) s.done same_word
              ∙ sym (over-take (λ (t : List ℕ) (v : ℕ). marked net t (v / 2)) w₀ words i 0 (omega (arith, words_length, l)))
              ∙ ap (λ (j : ℕ). over (λ (t : List ℕ) (v : ℕ). marked net t (v / 2)) w₀ (take j words)) (sym (add-one i));
          before = λ j b. ap (λ (t : List ℕ). get_or t j 0) e ∙ get_or-set_other w (k + get_or w (2 * k + i) 0 / 2) j (word_by w k (role net (get_or w (2 * k + i) 0 / 2))) 0 (omega (arith, b)) ∙ s.before j b;
          after = λ j b. ap (λ (t : List ℕ). get_or t j 0) e ∙ get_or-set_other w (k + get_or w (2 * k + i) 0 / 2) j (word_by w k (role net (get_or w (2 * k + i) 0 / 2))) 0 (omega (arith, b, h)) ∙ s.after j b;
        }

  pub marking_ends : 2 * length list ≤ i → Marked (tables kinds starts list pins nets) w₀ w
  marking_ends l =
      let q : i ≡ length words = omega (arith, s.inside, l, words_length) in
      let all : w ≡ over (act net f g.free) w₀ (events net) =
      s.done ∙ ap (over (λ (t : List ℕ) (v : ℕ). marked net t (v / 2)) w₀) (ap (λ (j : ℕ). take j words) q ∙ take-length words)
      ∙ over-same (λ (t : List ℕ) (v : ℕ). marked net t (v / 2)) (λ (t : List ℕ) (v : ℕ). act net f g.free t (event_of v)) words w₀ (λ t v c. ap (marked net t) (sym (place_word v)))
      ∙ sym (over-map (act net f g.free) event_of w₀ words) ∙ ap (over (act net f g.free) w₀) words_are in
      record {
        marks = λ p h. ap (λ (t : List ℕ). get_or t (k + p) 0) all ∙ all_told net f g.free (length w₀) g.long w₀ refl p h;
        before = s.before;
        after = s.after;
      }
