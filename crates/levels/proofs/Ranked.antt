-- The levels of the pins listed, one after the other: what a gate reads stands before it.
use mathlib.Core.Path.{◌≡◌, refl, sym, ap, subst, ◌∙◌}
use mathlib.Core.Bool.{true}
use mathlib.Core.List.{List, [], ◌∷◌, ◌++◌}
use Prim.Native.Nat.{ℕ, zero, suc, ◌+◌, ◌-◌, ◌*◌, ◌<◌, ◌≤◌}
use native.Mathlib.Numerals.{add-one}
use native.Mathlib.Omega.{arith}
use lib.ListN.{length, get_or, take}
use lib.Seq.{take-suc, take_all}
use borrow.Author.Tests.{eqb-true, eqb-false}
use Rattle.std.specs.Prelude.{if◌then◌else◌, ◌==◌}
use Rattle.laws.specs.Lists.{count, member, flat}
use Rattle.laws.specs.Search.{above, level_by, level}
use Rattle.laws.proofs.Tests.{by_test}
use Rattle.laws.proofs.Bags.{count-append, is_member, no_member, member_last, member_other, flat_append, here}
use Rattle.laws.proofs.Levels.{above_same, level_is}
use Rattle.laws.proofs.Visits.{Ranked}
use Rattle.laws.proofs.Words.{part_length, part_at}
use Rattle.walk.specs.State.{goes, list_of, Going}
use Rattle.walk.proofs.Leads.{goes_below}
use Rattle.members.specs.Set.{Within}
use Rattle.members.proofs.Frames.{within_none, within_on}
use Rattle.levels.specs.State.{stops_of, Known, Spare, Raising, RaisedPin, Ranks, Levelled}
use Rattle.levels.proofs.Stops.{stops_same}
use Rattle.levels.proofs.Gathers.{count-length}

-- ---- by index: what the pin at i reads stands among those before it, and the pin itself does not
module _ (nx : ℕ → List ℕ) where
  pub ranked_new : (us seen : List ℕ) (i : ℕ) → Ranked nx seen us → i < length us → count (get_or us i 0) seen + count (get_or us i 0) (take i us) ≡ 0
  ranked_new [] seen i r l = absurd (omega arith)
  ranked_new (u ∷ us) seen zero r l = omega (arith, r.0)
  ranked_new (u ∷ us) seen (suc i) r l = omega (arith, ranked_new us (u ∷ seen) i r.2 (omega arith))

  pub ranked_reads : (us seen : List ℕ) (i o : ℕ) → Ranked nx seen us → i < length us → 0 < count o (nx (get_or us i 0)) → 0 < count o seen + count o (take i us)
  ranked_reads [] seen i o r l m = absurd (omega arith)
  ranked_reads (u ∷ us) seen zero o r l m = omega (arith, r.1 o m)
  ranked_reads (u ∷ us) seen (suc i) o r l m = omega (arith, ranked_reads us (u ∷ seen) i o r.2 (omega arith) m)

  -- a level is at most its pin
  module _ (below : (u o : ℕ) → 0 < count o (nx u) → o < u) where
    above_le : (h : ℕ → ℕ) (xs : List ℕ) (u : ℕ) → ((o : ℕ) → 0 < count o xs → h o < u) → above h xs ≤ u
    above_le h [] u f = omega arith
    above_le h (x ∷ xs) u f = omega (arith, f x (here x xs), above_le h xs u (λ o m. f o (Rattle.laws.proofs.Bags.there o x xs m)))

    level_by_le : (f u : ℕ) → level_by nx f u ≤ u
    level_by_le zero u = omega arith
    level_by_le (suc f) u = above_le (level_by nx f) (nx u) u (λ o m. omega (arith, below u o m, level_by_le f o))

    pub level_le : (u : ℕ) → level nx u ≤ u
    level_le u = level_by_le (suc u) u

-- ---- the first i of the k pins listed have their levels
pub record LevelsTo (ws : List ℕ) (m : ℕ) (w₀ : List ℕ) (k : ℕ) (w : List ℕ) (i : ℕ) : Type 0 where
  pub inside : i ≤ k
  pub count_few : k ≤ m
  pub long : 8 * m ≤ length w
  pub going : Going ws m w₀ 0 k
  pub ranks : Ranks ws m w₀ k
  pub spare : Spare w₀ m (2 * k)
  pub levels : (p : ℕ) → p < m → get_or w (4 * m + p) 0 ≡ (if member p (take i (list_of w₀ m k)) then level (goes ws m (stops_of w₀ m)) p else 0)
  pub readers : (p : ℕ) → p < m → get_or w (5 * m + p) 0 ≡ get_or w₀ (5 * m + p) 0 + count p (flat (goes ws m (stops_of w₀ m)) (take i (list_of w₀ m k)))
  pub kept : Within (4 * m) (6 * m) w₀ w
  pub same_length : length w ≡ length w₀

pub levels_begin : (ws : List ℕ) (m : ℕ) (w : List ℕ) (k : ℕ) → Going ws m w 0 k → Ranks ws m w k → Spare w m (2 * k) → LevelsTo ws m w k w 0
levels_begin ws m w k g r s = record {
  inside = omega arith;
  count_few = g.listing.count;
  long = s.long;
  going = g;
  ranks = r;
  spare = s;
  levels = λ p l. r.zero p l;
  readers = λ p l. omega arith;
  kept = within_none (4 * m) (6 * m) w;
  same_length = refl;
}

-- a gate has at most two operands
few_back : (ws : List ℕ) (m : ℕ) (before : List ℕ) (u : ℕ) → length (goes ws m before u) ≤ 2
few_back ws m before u = Rattle.laws.proofs.Tests.if_elim (member u before) [] (Rattle.rules.specs.Graph.operands d) (λ (l : List ℕ). length l ≤ 2) (λ t. omega arith) (λ f. two d)
  where
    d : Rattle.rules.specs.declared.Driver.Driver
    d = Rattle.rules.specs.Graph.driver_of (Rattle.rules.specs.Answers.drivers_graph (m - 1) ws) u

    two : (x : Rattle.rules.specs.declared.Driver.Driver) → length (Rattle.rules.specs.Graph.operands x) ≤ 2
    two (Rattle.rules.specs.declared.Driver.TheVariants.And a b) = omega arith
    two (Rattle.rules.specs.declared.Driver.TheVariants.Port q) = omega arith
    two (Rattle.rules.specs.declared.Driver.TheVariants.Flag q e) = omega arith
    two (Rattle.rules.specs.declared.Driver.TheVariants.Dff c) = omega arith
    two (Rattle.rules.specs.declared.Driver.TheVariants.Ram c) = omega arith
    two Rattle.rules.specs.declared.Driver.TheVariants.Constant = omega arith

module _ (ws : List ℕ) (m : ℕ) (w₀ : List ℕ) (k : ℕ) (w : List ℕ) (i : ℕ) (s : LevelsTo ws m w₀ k w i) where
  abbrev us : List ℕ
  us = list_of w₀ m k

  abbrev nx : ℕ → List ℕ
  nx = goes ws m (stops_of w₀ m)

  below : (u o : ℕ) → 0 < count o (goes ws m (stops_of w₀ m) u) → o < u
  below = goes_below ws m s.going.low s.going.fits (stops_of w₀ m)

  us_long : length (list_of w₀ m k) ≡ k
  us_long = part_length w₀ (3 * m) k (omega (arith, s.going.listing.long, s.count_few))

  stops_are_same : stops_of w m ≡ stops_of w₀ m
  stops_are_same = stops_same w₀ w m (λ p l. s.kept.before (m + p) (omega arith))

  pub levels_known : Known ws m w
  levels_known = record {
    low = s.going.low;
    fits = s.going.fits;
    drivers_long = s.going.drivers_long;
    flags = λ p l. rw (s.kept.before (m + p) (omega arith)) (s.going.flags p l);
    long = s.long;
  }

  module _ (l : i < k) (u : ℕ) (q : u ≡ get_or w (3 * m + i) 0) where
    u_is : u ≡ get_or (list_of w₀ m k) i 0
    u_is = q ∙ s.kept.before (3 * m + i) (omega (arith, s.count_few)) ∙ sym (part_at w₀ (3 * m) k i l)

    u_inside : u < m
    u_inside = omega (arith, s.going.listing.inside i l, q ∙ s.kept.before (3 * m + i) (omega (arith, s.count_few)))

    new : count u (take i (list_of w₀ m k)) ≡ 0
    new = omega (arith, ap (λ (x : ℕ). count x (take i (list_of w₀ m k))) u_is, ranked_new nx us [] i s.ranks.ranked (omega (arith, us_long)))

    reads : (o : ℕ) → 0 < count o (goes ws m (stops_of w₀ m) u) → 0 < count o (take i (list_of w₀ m k))
    reads o c = omega (arith, ranked_reads nx us [] i o s.ranks.ranked (omega (arith, us_long)) (subst (λ (x : ℕ). 0 < count o (goes ws m (stops_of w₀ m) x)) u_is c))

    level_at : (p : ℕ) → p < m → 0 < count p (take i (list_of w₀ m k)) → get_or w (4 * m + p) 0 ≡ level (goes ws m (stops_of w₀ m)) p
    level_at p lp c = s.levels p lp ∙ rw (is_member p (take i (list_of w₀ m k)) c)

    flat_few : (n : ℕ) → n ≤ k → (p : ℕ) → count p (flat (goes ws m (stops_of w₀ m)) (take n (list_of w₀ m k))) ≤ 2 * n
    flat_few zero h p = omega arith
    flat_few (suc n) h p = omega (
      arith,
      flat_few n (omega arith) p,
      ap (λ (t : List ℕ). count p (flat (goes ws m (stops_of w₀ m)) t)) (take-suc (list_of w₀ m k) n 0 (omega (arith, us_long))),
      flat_append (goes ws m (stops_of w₀ m)) (take n (list_of w₀ m k)) (get_or (list_of w₀ m k) n 0 ∷ []) p,
      count-append p (goes ws m (stops_of w₀ m) (get_or (list_of w₀ m k) n 0)) [],
      count-length p (goes ws m (stops_of w₀ m) (get_or (list_of w₀ m k) n 0)),
      few_back ws m (stops_of w₀ m) (get_or (list_of w₀ m k) n 0),
    )

    pub levels_raising : Raising w m u
    levels_raising = record {
      inside = u_inside;
      few = s.ranks.few;
      zero = s.levels u u_inside ∙ rw (no_member u (take i (list_of w₀ m k)) new);
      small = λ p lp. rw (s.levels p lp) (Rattle.laws.proofs.Tests.if_elim (member p (take i (list_of w₀ m k))) (level nx p) 0 (λ (x : ℕ). x ≤ p) (λ t. level_le nx below p) (λ f. omega arith));
      spare = record {
        room = λ p lp. omega (arith, s.readers p lp, s.spare.room p lp, flat_few i (omega arith) p);
        long = s.long;
      };
    }

    pub levels_go_on : (w' : List ℕ) → RaisedPin ws m (stops_of w m) w u w' → LevelsTo ws m w₀ k w' (i + 1)
    levels_go_on w' r' = record {
      inside = omega arith;
      count_few = s.count_few;
      long = omega (arith, r.kept.long, s.long);
      going = s.going;
      ranks = s.ranks;
      spare = s.spare;
      levels = λ p lp. r.levels p lp ∙ by_test (p == u)
          (λ t. let e = eqb-true p u t in rw t (risen ∙ sym (rw (done_is, member_at p e) (ap (level nx) e))))
          (λ f. rw f (s.levels p lp ∙ sym (rw (done_is, member_other u p (take i (list_of w₀ m k)) (eqb-false p u f)))));
      readers = λ p lp. omega (
        arith,
        r.readers p lp,
        s.readers p lp,
        ap (λ (t : List ℕ). count p (flat (goes ws m (stops_of w₀ m)) t)) done_is,
        flat_append (goes ws m (stops_of w₀ m)) (take i (list_of w₀ m k)) (u ∷ []) p,
        count-append p (goes ws m (stops_of w₀ m) u) [],
      );
      kept = within_on (4 * m) (6 * m) w₀ w w' s.kept r.kept;
      same_length = r.kept.long ∙ s.same_length;
    }
      where
        r : RaisedPin ws m (stops_of w₀ m) w u w'
        r = subst (λ (t : List ℕ). RaisedPin ws m t w u w') stops_are_same r'

        done_is : take (i + 1) (list_of w₀ m k) ≡ take i (list_of w₀ m k) ++ (u ∷ [])
        done_is = ap (λ (n : ℕ). take n (list_of w₀ m k)) (add-one i) ∙ take-suc (list_of w₀ m k) i 0 (omega (arith, us_long))
            ∙ ap (λ (x : ℕ). take i (list_of w₀ m k) ++ (x ∷ [])) (sym u_is)

        member_at : (p : ℕ) → p ≡ u → member p (take i (list_of w₀ m k) ++ (u ∷ [])) ≡ true
        member_at p e = ap (λ (x : ℕ). member x (take i (list_of w₀ m k) ++ (u ∷ []))) e ∙ member_last u (take i (list_of w₀ m k))

        risen : above (λ o. get_or w (4 * m + o) 0) (goes ws m (stops_of w₀ m) u) ≡ level (goes ws m (stops_of w₀ m)) u
        risen = above_same (λ o. get_or w (4 * m + o) 0) (level nx) (goes ws m (stops_of w₀ m) u)
            (λ o c. level_at o (omega (arith, below u o c, u_inside)) (reads o c)) ∙ sym (level_is nx below u)

  pub levels_end : k ≤ i → Levelled ws m (stops_of w₀ m) w₀ k w
  levels_end l =
      let e : take i (list_of w₀ m k) ≡ list_of w₀ m k = take_all i (list_of w₀ m k) (omega (arith, us_long)) in
      record {
        levels = λ p lp. s.levels p lp ∙ ap (λ (t : List ℕ). if member p t then level nx p else 0) e;
        readers = λ p lp. s.readers p lp ∙ ap (λ (t : List ℕ). get_or w₀ (5 * m + p) 0 + count p (flat nx t)) e;
        kept = s.kept;
      }
