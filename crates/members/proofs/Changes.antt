-- One member joins or leaves.
use mathlib.Core.Path.{◌≡◌, refl, sym, ap, subst, ◌∙◌}
use mathlib.Core.List.{List, [], ◌∷◌, ◌++◌}
use Prim.Native.Nat.{ℕ, suc, ◌+◌, ◌-◌, ◌*◌, ◌<◌, ◌≤◌}
use native.Mathlib.Omega.{arith}
use lib.ListN.{length, get_or, take, set, length-set}
use lib.Seq.{get_or-set_other}
use borrow.Author.Tests.{eqb-true, eqb-false}
use Rattle.std.specs.Prelude.{◌==◌}
use Rattle.laws.specs.Lists.{count, member}
use Rattle.laws.specs.Sets.{remove}
use Rattle.laws.specs.Words.{part}
use Rattle.laws.proofs.Tests.{by_test, one_eq, one_ne}
use Rattle.laws.proofs.Bags.{count-append, at_head, member_true, member_false}
use Rattle.laws.proofs.Indices.{at_in, index_of}
use Rattle.laws.proofs.Sets.{placed_in, placed-insert, placed-remove, insert_old, insert_new, remove-once, count-remove}
use Rattle.laws.proofs.Words.{get_d_set, part_length, part_at, part_in, part-more, part-before, part_after, part_same}
use Rattle.laws.proofs.Counting.{fits}
use Rattle.members.specs.Set.{Within, SetIn, Inserted, Removed}
use Rattle.members.proofs.Frames.{part-set, part_shorter, within_none, within-set}

-- a number that is not in leaves a set as it is
remove-none : (s : List ℕ) (x : ℕ) → count x s ≡ 0 → remove s x ≡ s
remove-none [] x n = refl
remove-none (y ∷ s) x n = by_test (x == y)
    (λ t. absurd (omega (arith, n, one_eq x y (eqb-true x y t))))
    (λ f. rw f (ap (λ (l : List ℕ). y ∷ l) (remove-none s x (omega (arith, n, one_ne x y (eqb-false x y f))))))

module _ (w : List ℕ) (a cap n : ℕ) (s : SetIn w a cap n) where
  size : length (part w a n) ≡ n
  size = part_length w a n (omega (arith, s.long, s.few))

  pub member_inside : (p : ℕ) → 0 < count p (part w a n) → p < cap
  member_inside p m = part_in w a n p (omega (arith, s.long, s.few)) m (λ j l e. omega (arith, s.inside j l))

  module _ (x place : ℕ) (l : x < cap) (e : place ≡ get_or w (a + cap + x) 0) where
    place_is : get_or (part w (a + cap) cap) x 0 ≡ place
    place_is = part_at w (a + cap) cap x l ∙ sym e

    -- it is in: then its place says where
    in_at : (place ≡ 0 → ⊥) → (place - 1 < length (part w a n)) × (get_or (part w a n) (place - 1) 0 ≡ x)
    in_at ne = let q = placed_in (part w (a + cap) cap) (part w a n) x s.places (λ z. ne (sym place_is ∙ z)) in
        (omega (arith, q.0, place_is), ap (λ (k : ℕ). get_or (part w a n) (k - 1) 0) (sym place_is) ∙ q.1)

    is_in_lem : (place ≡ 0 → ⊥) → 0 < count x (part w a n)
    is_in_lem ne = let q = in_at ne in subst (λ (y : ℕ). 0 < count y (part w a n)) q.1 (at_in (part w a n) (place - 1) q.0)

    not_in : place ≡ 0 → count x (part w a n) ≡ 0
    not_in z = by_test (member x (part w a n))
        (λ t. let k = index_of (part w a n) x (member_true x (part w a n) t) in
        absurd (omega (arith, s.places.at k.0 k.1, ap (λ (y : ℕ). get_or (part w (a + cap) cap) y 0) k.2, place_is)))
        (λ f. member_false x (part w a n) f)

    pub insert_again : (place ≡ 0 → ⊥) → Inserted w a cap n x w n
    insert_again ne = record { holds = s; members = sym (insert_old (part w a n) x (is_in_lem ne)); kept = within_none a (a + 2 * cap) w }

    pub remove_again : place ≡ 0 → Removed w a cap n x w n
    remove_again z = record { holds = s; members = sym (remove-none (part w a n) x (not_in z)); kept = within_none a (a + 2 * cap) w; fewer = omega arith }

    -- there is room for a new member
    pub insert_room : place ≡ 0 → n < cap
    insert_room z = omega (
      arith,
      size,
      fits cap (x ∷ part w a n)
          (λ p. by_test (p == x)
          (λ t. omega (arith, one_eq p x (eqb-true p x t), not_in z, ap (λ (y : ℕ). count y (part w a n)) (eqb-true p x t)))
          (λ f. omega (arith, one_ne p x (eqb-false p x f), s.once p)))
          (λ p m. at_head p x (part w a n) m (λ q. omega arith) (λ m'. member_inside p m')),
    )

    module _ (z : place ≡ 0) where
      abbrev w₁ : List ℕ
      w₁ = set w (a + n) x

      abbrev w₂ : List ℕ
      w₂ = set w₁ (a + cap + x) (n + 1)

      joined_members : part w₂ a (n + 1) ≡ part w a n ++ (x ∷ [])
      joined_members = part_after w₁ a (n + 1) (a + cap + x) (n + 1) (omega (arith, insert_room z))
          ∙ part-more w a n x (omega (arith, s.long, insert_room z))

      joined_places : part w₂ (a + cap) cap ≡ set (part w (a + cap) cap) x (length (part w a n) + 1)
      joined_places = part-set w₁ (a + cap) cap x (n + 1) l
          ∙ (λ i. set (part-before w (a + cap) cap (a + n) x (omega (arith, insert_room z)) i) x (sym size i + 1))

      joined-kept : Within a (a + 2 * cap) w w₂
      joined-kept = within-set a (a + 2 * cap) w w₁ (a + cap + x) (n + 1) (omega arith) (omega arith)
          (within-set a (a + 2 * cap) w w (a + n) x (omega arith) (omega (arith, insert_room z)) (within_none a (a + 2 * cap) w))

      word_at : (j : ℕ) → j < cap → get_or w₂ (a + j) 0 ≡ get_or w₁ (a + j) 0
      word_at j lj = get_or-set_other w₁ (a + cap + x) (a + j) (n + 1) 0 (omega arith)

      pub insert_joins : Inserted w a cap n x (set (set w (a + n) x) (a + cap + x) (n + 1)) (n + 1)
      insert_joins =
          let r = insert_room z in
          record {
            holds = record {
              few = omega arith;
              room = s.room;
              long = rw joined-kept.long s.long;
              once = λ p. rw joined_members (by_test (p == x)
                  (λ t. omega (arith, count-append p (part w a n) (x ∷ []), one_eq p x (eqb-true p x t), not_in z, ap (λ (y : ℕ). count y (part w a n)) (eqb-true p x t)))
                  (λ f. omega (arith, count-append p (part w a n) (x ∷ []), one_ne p x (eqb-false p x f), s.once p)));
              inside = λ j lj. rw (word_at j (omega arith)) (get_d_set w (a + n) (a + j) x (λ (y : ℕ). y < cap) (omega (arith, s.long)) (λ q. l) (λ ne. s.inside j (omega arith)));
              places = rw (joined_places, joined_members)
                  (placed-insert (part w (a + cap) cap) (part w a n) x s.places (omega (arith, l, part_length w (a + cap) cap (omega (arith, s.long)))) (place_is ∙ z));
              beyond = λ j lj uj. word_at j uj ∙ get_or-set_other w (a + n) (a + j) x 0 (omega arith) ∙ s.beyond j (omega arith) uj;
            };
            members = joined_members ∙ sym (insert_new (part w a n) x (not_in z));
            kept = joined-kept;
          }

    -- ---- a member leaves
    module _ (ne : place ≡ 0 → ⊥) where
      pub remove-size : 1 ≤ n
      remove-size = omega (arith, (in_at ne).0, size)

      pub remove_place : 1 ≤ place
      remove_place = omega (arith, ne)

      module _ (last : ℕ) (el : last ≡ get_or w (a + (n - 1)) 0) where
        pub last_inside : last < cap
        last_inside = omega (arith, s.inside (n - 1) (omega (arith, remove-size)))

        abbrev i : ℕ
        i = place - 1

        i_lt : i < n
        i_lt = omega (arith, (in_at ne).0, size)

        abbrev v₁ : List ℕ
        v₁ = set w (a + i) last

        abbrev v₂ : List ℕ
        v₂ = set v₁ (a + cap + last) place

        abbrev v₃ : List ℕ
        v₃ = set v₂ (a + cap + x) 0

        abbrev v₄ : List ℕ
        v₄ = set v₃ (a + (n - 1)) 0

        long₁ : length v₁ ≡ length w
        long₁ = length-set w (a + i) last

        long₂ : length v₂ ≡ length w
        long₂ = length-set v₁ (a + cap + last) place ∙ long₁

        long₃ : length v₃ ≡ length w
        long₃ = length-set v₂ (a + cap + x) 0 ∙ long₂

        -- each store is inside
        pub hole_inside : a + (place - 1) < length w
        hole_inside = omega (arith, i_lt, s.long, s.few)

        pub moved_inside : a + cap + last < length (set w (a + (place - 1)) last)
        moved_inside = omega (arith, last_inside, s.long, long₁)

        pub place_inside : a + cap + x < length (set (set w (a + (place - 1)) last) (a + cap + last) place)
        place_inside = omega (arith, s.long, long₂)

        pub end_inside : a + (n - 1) < length (set (set (set w (a + (place - 1)) last) (a + cap + last) place) (a + cap + x) 0)
        end_inside = omega (arith, s.long, s.few, long₃, remove-size)

        left-kept : Within a (a + 2 * cap) w v₄
        left-kept =
            let li = last_inside in let il = i_lt in
            within-set a (a + 2 * cap) w v₃ (a + (n - 1)) 0 (omega arith) (omega (arith, s.few, remove-size))
            (within-set a (a + 2 * cap) w v₂ (a + cap + x) 0 (omega arith) (omega arith)
            (within-set a (a + 2 * cap) w v₁ (a + cap + last) place (omega arith) (omega arith)
            (within-set a (a + 2 * cap) w w (a + i) last (omega arith) (omega (arith, s.few)) (within_none a (a + 2 * cap) w))))

        last_is : get_or (part w a n) (length (part w a n) - 1) 0 ≡ last
        last_is = ap (λ (k : ℕ). get_or (part w a n) (k - 1) 0) size ∙ part_at w a n (n - 1) (omega (arith, remove-size)) ∙ sym el

        -- the words of members
        word_left : (j : ℕ) → j < n - 1 → get_or v₄ (a + j) 0 ≡ get_or v₁ (a + j) 0
        word_left j lj =
            let li = last_inside in
            get_or-set_other v₃ (a + (n - 1)) (a + j) 0 0 (omega arith)
            ∙ get_or-set_other v₂ (a + cap + x) (a + j) 0 0 (omega (arith, s.few))
            ∙ get_or-set_other v₁ (a + cap + last) (a + j) place 0 (omega (arith, s.few))

        left_members : part v₄ a (n - 1) ≡ remove (part w a n) x
        left_members =
            let r = remove-once (part w a n) x i s.once (in_at ne).0 (in_at ne).1 in
            let long : a + n ≤ length w = omega (arith, s.long, s.few) in
            part_same v₄ v₁ a (n - 1) (omega (arith, left-kept.long)) (omega (arith, length-set w (a + i) last))
            (λ j lj uj. let q : j ≡ a + (j - a) = omega arith in
            subst (λ (y : ℕ). get_or v₄ y 0 ≡ get_or v₁ y 0) (sym q) (word_left (j - a) (omega arith)))
            ∙ part_shorter v₁ a (n - 1) n (omega arith)
            ∙ (λ k. take (n - 1) (part-set w a n i last i_lt k))
            ∙ (λ k. take (sym size k - 1) (set (part w a n) i (sym last_is k)))
            ∙ sym r

        left_places : part v₄ (a + cap) cap ≡ set (set (part w (a + cap) cap) (get_or (part w a n) (length (part w a n) - 1) 0) (suc i)) x 0
        left_places =
            let li = last_inside in let il = i_lt in
            let lw : a + cap + cap ≤ length w = omega (arith, s.long) in
            let e₁ : length v₁ ≡ length w = length-set w (a + i) last in
            let e₂ : length v₂ ≡ length w = length-set v₁ (a + cap + last) place ∙ e₁ in
            let p₁ : place ≡ suc i = omega (arith, remove_place) in
            part-before v₃ (a + cap) cap (a + (n - 1)) 0 (omega (arith, s.few, remove-size))
            ∙ part-set v₂ (a + cap) cap x 0 l
            ∙ ap (λ (t : List ℕ). set t x 0) (part-set v₁ (a + cap) cap last place li
            ∙ (λ k. set (part-before w (a + cap) cap (a + i) last (omega (arith, s.few)) k) (sym last_is k) (p₁ k)))

        pub remove_leaves : Removed w a cap n x (set (set (set (set w (a + (place - 1)) last) (a + cap + last) place) (a + cap + x) 0) (a + (n - 1)) 0) (n - 1)
        remove_leaves =
            let li = last_inside in
            let r = remove-once (part w a n) x i s.once (in_at ne).0 (in_at ne).1 in
            record {
              holds = record {
                few = omega (arith, s.few);
                room = s.room;
                long = rw left-kept.long s.long;
                once = λ p. rw left_members (omega (arith, count-remove (part w a n) x p, s.once p));
                inside = λ j lj. rw (word_left j lj) (get_d_set w (a + i) (a + j) last (λ (y : ℕ). y < cap) (omega (arith, s.long, s.few, i_lt)) (λ q. li) (λ nj. s.inside j (omega arith)));
                places = rw (left_places, left_members ∙ r)
                    (placed-remove (part w (a + cap) cap) (part w a n) x i s.places
                    (λ p m. omega (arith, member_inside p m, part_length w (a + cap) cap (omega (arith, s.long)))) (in_at ne).0 (in_at ne).1);
                beyond = λ j lj uj. get_d_set v₃ (a + (n - 1)) (a + j) 0 (λ (y : ℕ). y ≡ 0) (omega (arith, long₃, s.long, s.few, remove-size)) (λ q. refl)
                    (λ nj. get_or-set_other v₂ (a + cap + x) (a + j) 0 0 (omega arith)
                    ∙ get_or-set_other v₁ (a + cap + last) (a + j) place 0 (omega arith)
                    ∙ get_or-set_other w (a + i) (a + j) last 0 (omega (arith, i_lt, nj))
                    ∙ s.beyond j (omega (arith, nj, remove-size)) uj);
              };
              members = left_members;
              kept = left-kept;
              fewer = omega arith;
            }
