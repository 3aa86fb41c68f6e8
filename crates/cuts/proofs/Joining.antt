-- The set that pins join and leave while readers are counted down, over any order and any tests: who is in it at the end.
use mathlib.Core.Path.{◌≡◌, sym, ap, subst}
use mathlib.Core.Bool.{Bool, true, false, not}
use mathlib.Core.List.{List, [], ◌∷◌, ◌++◌}
use Prim.Native.Nat.{ℕ, ◌+◌, ◌-◌, ◌≤◌, ◌<◌}
use native.Mathlib.Omega.{arith}
use borrow.Author.Tests.{eqb-true, eqb-false}
use Rattle.std.specs.Prelude.{if◌then◌else◌, ◌==◌}
use Rattle.laws.specs.Tests.{one}
use Rattle.laws.specs.Lists.{count, member, keep, flat, over}
use Rattle.laws.specs.Sets.{insert}
use Rattle.laws.proofs.Tests.{by_test, true≢false, one_eq}
use Rattle.laws.proofs.Bags.{count-append, at_head, flat_parts, snoc_all}
use Rattle.laws.proofs.Folds.{over_inv}
use Rattle.laws.proofs.Sets.{count-remove, count-remove_other, insert_le, count-insert-same}
use Rattle.rules.specs.Stages.{Joining, read}

-- ---- readers done
pub reads_readers : (os : List ℕ) (s : Joining) (p : ℕ) → (over read s os).readers p ≡ s.readers p - count p os
reads_readers [] s p = omega arith
reads_readers (o ∷ os) s p = omega (arith, reads_readers os (read s o) p)

-- a pin with more readers than are done stays
read_keeps : (s : Joining) (o p : ℕ) → one (p == o) < s.readers p → 0 < count p s.set → 0 < count p (read s o).set
read_keeps s o p h m = by_test (s.readers o - 1 == 0)
    (λ t. rw t (by_test (p == o)
    (λ y. absurd (omega (arith, h, one_eq p o (eqb-true p o y), eqb-true (s.readers o - 1) 0 t, ap s.readers (eqb-true p o y))))
    (λ n. rw (count-remove_other s.set o p (eqb-false p o n)) m)))
    (λ f. rw f m)

pub reads-keep : (os : List ℕ) (s : Joining) (p : ℕ) → count p os < s.readers p → 0 < count p s.set → 0 < count p (over read s os).set
reads-keep [] s p h m = m
reads-keep (o ∷ os) s p h m = reads-keep os (read s o) p (omega arith) (read_keeps s o p (omega arith) m)

-- reading adds nothing
read_sub : (s : Joining) (o p : ℕ) → count p (read s o).set ≤ count p s.set
read_sub s o p = by_test (s.readers o - 1 == 0)
    (λ t. rw t (omega (arith, count-remove s.set o p)))
    (λ n. rw n (omega arith))

pub reads_sub : (os : List ℕ) (s : Joining) (p : ℕ) → count p (over read s os).set ≤ count p s.set
reads_sub [] s p = omega arith
reads_sub (o ∷ os) s p = omega (arith, reads_sub os (read s o) p, read_sub s o p)

-- ---- joining: the rules' `join` and `take` are these steps at `back`, `low` and `inputs`
abbrev pub begun : Joining → ℕ → Joining
begun s u = record { set = insert s.set u; readers = s.readers }

abbrev pub join_by : (ℕ → List ℕ) → (ℕ → Bool) → Joining → ℕ → Joining
join_by nx ok s u = if ok u then over read (begun s u) (nx u) else s

abbrev pub take_by : (ℕ → List ℕ) → Joining → ℕ → Joining
take_by ins s e = over read s (ins e)

module _ (nx : ℕ → List ℕ) (ok : ℕ → Bool) where
  pub join_yes : (s : Joining) (u : ℕ) → ok u ≡ true → over read (begun s u) (nx u) ≡ join_by nx ok s u
  join_yes s u t = rw t

  pub join_no : (s : Joining) (u : ℕ) → ok u ≡ false → s ≡ join_by nx ok s u
  join_no s u n = rw n

  pub joins_readers : (us : List ℕ) (s : Joining) (p : ℕ) → (over (join_by nx ok) s us).readers p ≡ s.readers p - count p (flat nx (keep ok us))
  joins_readers [] s p = omega arith
  joins_readers (u ∷ us) s p = by_test (ok u)
      (λ t. rw t (subst (λ (z : Joining). (over (join_by nx ok) z us).readers p ≡ s.readers p - count p (nx u ++ flat nx (keep ok us))) (join_yes s u t)
      (omega (arith, joins_readers us (over read (begun s u) (nx u)) p, reads_readers (nx u) (begun s u) p, count-append p (nx u) (flat nx (keep ok us))))))
      (λ n. rw n (subst (λ (z : Joining). (over (join_by nx ok) z us).readers p ≡ s.readers p - count p (flat nx (keep ok us))) (join_no s u n) (joins_readers us s p)))

  pub joins_keep : (us : List ℕ) (s : Joining) (p : ℕ) → count p (flat nx (keep ok us)) < s.readers p → 0 < count p s.set
      → 0 < count p (over (join_by nx ok) s us).set
  joins_keep [] s p h m = m
  joins_keep (u ∷ us) s p h m = by_test (ok u)
      (λ t. let h' : count p (nx u) + count p (flat nx (keep ok us)) < s.readers p = rw (← count-append p (nx u) (flat nx (keep ok us))) (rw t at h) in
      subst (λ (z : Joining). 0 < count p (over (join_by nx ok) z us).set) (join_yes s u t) (joins_keep us (over read (begun s u) (nx u)) p
      (omega (arith, reads_readers (nx u) (begun s u) p))
      (reads-keep (nx u) (begun s u) p (omega arith) (omega (arith, insert_le s.set u p)))))
      (λ n. subst (λ (z : Joining). 0 < count p (over (join_by nx ok) z us).set) (join_no s u n) (joins_keep us s p (rw n at h) m))

  -- a pin that may join, with more readers than are done, is there at the end
  pub joins_have : (us : List ℕ) (s : Joining) (p : ℕ) → count p (flat nx (keep ok us)) < s.readers p → ok p ≡ true → 0 < count p us
      → 0 < count p (over (join_by nx ok) s us).set
  joins_have [] s p h k m = absurd (omega arith)
  joins_have (u ∷ us) s p h k m = by_test (ok u)
      (λ t. let h' : count p (nx u) + count p (flat nx (keep ok us)) < s.readers p = rw (← count-append p (nx u) (flat nx (keep ok us))) (rw t at h) in
      subst (λ (z : Joining). 0 < count p (over (join_by nx ok) z us).set) (join_yes s u t) (at_head p u us m
      (λ e. joins_keep us (over read (begun s u) (nx u)) p
      (omega (arith, reads_readers (nx u) (begun s u) p))
      (reads-keep (nx u) (begun s u) p (omega arith) (subst (λ (z : ℕ). 0 < count z (insert s.set u)) (sym e) (count-insert-same s.set u))))
      (λ m'. joins_have us (over read (begun s u) (nx u)) p (omega (arith, reads_readers (nx u) (begun s u) p)) k m')))
      (λ n. subst (λ (z : Joining). 0 < count p (over (join_by nx ok) z us).set) (join_no s u n) (at_head p u us m
      (λ e. true≢false (ok u) (subst (λ (z : ℕ). ok z ≡ true) e k) n)
      (λ m'. joins_have us s p (rw n at h) k m')))

  -- what joins may join
  join-only : (P : ℕ → Type 0) (s : Joining) (u : ℕ) → ((p : ℕ) → 0 < count p s.set → P p) → (ok u ≡ true → P u) → (p : ℕ)
      → 0 < count p (join_by nx ok s u).set → P p
  join-only P s u a pu = by_test (ok u)
      (λ t. rw t (λ p m. inserted t p (omega (arith, m, reads_sub (nx u) (begun s u) p))))
      (λ n. rw n a)
    where
      inserted : ok u ≡ true → (p : ℕ) → 0 < count p (insert s.set u) → P p
      inserted t = by_test (member u s.set)
          (λ t'. rw t' a)
          (λ n'. rw n' (snoc_all P s.set u a (pu t)))

  pub joins_only : (P : ℕ → Type 0) (us : List ℕ) (s : Joining) → ((p : ℕ) → 0 < count p s.set → P p)
      → ((u : ℕ) → 0 < count u us → ok u ≡ true → P u)
      → (p : ℕ) → 0 < count p (over (join_by nx ok) s us).set → P p
  joins_only P us s a h = over_inv (λ (s' : Joining). (p : ℕ) → 0 < count p s'.set → P p) (λ u. ok u ≡ true → P u) (join_by nx ok)
      (λ s' u a' q. join-only P s' u a' q) us s a h

-- ---- endpoints taken
module _ (ins : ℕ → List ℕ) where
  pub takes_readers : (es : List ℕ) (s : Joining) (p : ℕ) → (over (take_by ins) s es).readers p ≡ s.readers p - count p (flat ins es)
  takes_readers [] s p = omega arith
  takes_readers (e ∷ es) s p = omega (arith, takes_readers es (over read s (ins e)) p, reads_readers (ins e) s p, count-append p (ins e) (flat ins es))

  pub takes-keep : (es : List ℕ) (s : Joining) (p : ℕ) → count p (flat ins es) < s.readers p → 0 < count p s.set
      → 0 < count p (over (take_by ins) s es).set
  takes-keep [] s p h m = m
  takes-keep (e ∷ es) s p h m =
      let h' : count p (ins e) + count p (flat ins es) < s.readers p = rw (← count-append p (ins e) (flat ins es)) h in
      takes-keep es (over read s (ins e)) p (omega (arith, reads_readers (ins e) s p)) (reads-keep (ins e) s p (omega arith) m)

  pub takes_sub : (es : List ℕ) (s : Joining) (p : ℕ) → count p (over (take_by ins) s es).set ≤ count p s.set
  takes_sub [] s p = omega arith
  takes_sub (e ∷ es) s p = omega (arith, takes_sub es (over read s (ins e)) p, reads_sub (ins e) s p)

-- ---- the whole split, over any order and any list of endpoints left
module _ (nx ins : ℕ → List ℕ) (ok tk : ℕ → Bool) (us left : List ℕ) where
  abbrev pub begin : Joining
  begin = record { set = []; readers = λ p. count p (flat nx us ++ flat ins left) }

  abbrev pub end : Joining
  end = over (take_by ins) (over (join_by nx ok) begin us) (keep tk left)

  -- how many readers of p remain
  abbrev pub remaining : ℕ → ℕ
  remaining p = count p (flat nx (keep (λ x. not (ok x)) us)) + count p (flat ins (keep (λ x. not (tk x)) left))

  pub stays : (p : ℕ) → 0 < count p us → ok p ≡ true → 0 < remaining p → 0 < count p end.set
  stays p m k r = takes-keep ins (keep tk left) (over (join_by nx ok) begin us) p
      (omega (arith, joins_readers nx ok us begin p, total, flat_parts nx ok p us, flat_parts ins tk p left))
      (joins_have nx ok us begin p (omega (arith, total, flat_parts nx ok p us, flat_parts ins tk p left)) k m)
    where
      total : count p (flat nx us ++ flat ins left) ≡ count p (flat nx us) + count p (flat ins left)
      total = count-append p (flat nx us) (flat ins left)

  pub may : (p : ℕ) → 0 < count p end.set → (0 < count p us) × (ok p ≡ true)
  may p m = joins_only nx ok (λ q. (0 < count q us) × (ok q ≡ true)) us begin (λ q m'. absurd (omega arith)) (λ u m' t. (m', t)) p
      (omega (arith, takes_sub ins (keep tk left) (over (join_by nx ok) begin us) p))
