-- While readers are counted down a pin stands in the set at most once, and it is gone once all its readers are done. So at the end each pin of
-- the set has a reader that remains.
use mathlib.Core.Path.{◌≡◌, refl, ◌∙◌, ap, subst}
use mathlib.Core.Bool.{Bool}
use mathlib.Core.List.{List, [], ◌∷◌, ◌++◌}
use Prim.Native.Nat.{ℕ, ◌-◌, ◌≤◌, ◌<◌}
use native.Mathlib.Omega.{arith}
use borrow.Author.Tests.{eqb-true, eqb-false}
use Rattle.std.specs.Prelude.{◌==◌}
use Rattle.laws.specs.Tests.{one}
use Rattle.laws.specs.Lists.{count, member, keep, flat, over}
use Rattle.laws.specs.Sets.{insert}
use Rattle.laws.proofs.Tests.{by_test, one_eq, one_ne}
use Rattle.laws.proofs.Bags.{member_true, member_false, count-append, flat_parts}
use Rattle.laws.proofs.Sets.{count-remove, insert-one, count-insert_other}
use Rattle.laws.proofs.Visits.{Ranked, ranked_fresh}
use Rattle.rules.specs.Stages.{Joining, read}
use Rattle.cuts.proofs.Joining.{reads_readers, reads_sub, begun, join_by, take_by, join_yes, join_no, joins_readers, takes_readers, begin, end, remaining}

-- p stands at most once, and not at all once its readers are done
abbrev pub Done : ℕ → Joining → Type 0
Done p s = (count p s.set ≤ 1) × (s.readers p ≡ 0 → count p s.set ≡ 0)

read_done : (p : ℕ) (s : Joining) (o : ℕ) → Done p s → Done p (read s o)
read_done p s o w = by_test (p == o)
    (λ t. let e : p ≡ o = eqb-true p o t in let q : s.readers p ≡ s.readers o = ap s.readers e in by_test (s.readers o - 1 == 0)
    (λ z. rw z (omega (arith, count-remove s.set o p, w.0, one_eq p o e), λ r. omega (arith, count-remove s.set o p, w.0, one_eq p o e)))
    (λ z. rw z (w.0, λ r. absurd (omega (arith, r, one_eq p o e, eqb-false (s.readers o - 1) 0 z)))))
    (λ f. let e : one (p == o) ≡ 0 = one_ne p o (eqb-false p o f) in by_test (s.readers o - 1 == 0)
    (λ z. rw z (omega (arith, count-remove s.set o p, w.0), λ r. omega (arith, count-remove s.set o p, w.1 (omega (arith, r)))))
    (λ z. rw z (w.0, λ r. w.1 (omega (arith, r)))))

reads_done : (p : ℕ) (os : List ℕ) (s : Joining) → Done p s → Done p (over read s os)
reads_done p [] s w = w
reads_done p (o ∷ os) s w = reads_done p os (read s o) (read_done p s o w)

takes_done : (ins : ℕ → List ℕ) (p : ℕ) (es : List ℕ) (s : Joining) → Done p s → Done p (over (take_by ins) s es)
takes_done ins p [] s w = w
takes_done ins p (e ∷ es) s w = takes_done ins p es (over read s (ins e)) (reads_done p (ins e) s w)

module _ (nx : ℕ → List ℕ) (ok : ℕ → Bool) where
  -- once p has joined
  joins_done : (p : ℕ) (us : List ℕ) (s : Joining) → count p us ≡ 0 → Done p s → Done p (over (join_by nx ok) s us)
  joins_done p [] s n w = w
  joins_done p (u ∷ us) s n w =
      let other : p ≡ u → ⊥ = λ e. omega (arith, n, one_eq p u e) in
      let same : count p (insert s.set u) ≡ count p s.set = count-insert_other s.set u p other in
      by_test (ok u)
      (λ t. subst (λ (z : Joining). Done p (over (join_by nx ok) z us)) (join_yes nx ok s u t) (joins_done p us (over read (begun s u) (nx u)) (omega arith)
      (reads_done p (nx u) (begun s u) (omega (arith, w.0), λ r. omega (arith, w.1 r)))))
      (λ f. subst (λ (z : Joining). Done p (over (join_by nx ok) z us)) (join_no nx ok s u f) (joins_done p us s (omega arith) w))

  -- before it: no reader of p is done, for each stands behind its operands
  pub joins_first : (p : ℕ) (us seen : List ℕ) (s : Joining) → Ranked nx seen us → count p seen ≡ 0 → count p s.set ≡ 0
      → 0 < s.readers p → Done p (over (join_by nx ok) s us)
  joins_first p [] seen s r n z k = (omega arith, λ h. omega arith)
  joins_first p (u ∷ us) seen s r n z k =
      let free : count p (nx u) ≡ 0 = by_test (member p (nx u)) (λ t. absurd (omega (arith, r.1 p (member_true p (nx u) t)))) (λ f. member_false p (nx u) f) in
      by_test (p == u)
      (λ t. let e : p ≡ u = eqb-true p u t in
      let past : count p us ≡ 0 = ranked_fresh nx us (u ∷ seen) p r.2 (omega (arith, one_eq p u e)) in
      joins_done p us (join_by nx ok s u) past (by_test (ok u)
      (λ y. subst (Done p) (join_yes nx ok s u y) (reads_done p (nx u) (begun s u)
      (subst (λ (v : ℕ). count p (insert s.set v) ≤ 1) e (insert-one s.set p z), λ h. absurd (omega arith))))
      (λ f. subst (Done p) (join_no nx ok s u f) (omega arith, λ h. omega arith))))
      (λ f. let other : p ≡ u → ⊥ = eqb-false p u f in
      let n' : count p (u ∷ seen) ≡ 0 = omega (arith, one_ne p u other) in
      by_test (ok u)
      (λ y. subst (λ (v : Joining). Done p (over (join_by nx ok) v us)) (join_yes nx ok s u y) (joins_first p us (u ∷ seen) (over read (begun s u) (nx u)) r.2 n'
      (omega (arith, reads_sub (nx u) (begun s u) p, count-insert_other s.set u p other))
      (omega (arith, reads_readers (nx u) (begun s u) p))))
      (λ f'. subst (λ (v : Joining). Done p (over (join_by nx ok) v us)) (join_no nx ok s u f') (joins_first p us (u ∷ seen) s r.2 n' z k)))

-- ---- the whole split
module _ (nx ins : ℕ → List ℕ) (ok tk : ℕ → Bool) (us left : List ℕ) (ranked : Ranked nx [] us) (p : ℕ)
    (is_read : 0 < count p (flat nx us ++ flat ins left)) where
  done : Done p (end nx ins ok tk us left)
  done = takes_done ins p (keep tk left) (over (join_by nx ok) (begin nx ins ok tk us left) us)
      (joins_first nx ok p us [] (begin nx ins ok tk us left) ranked refl refl is_read)

  pub set-once : count p (end nx ins ok tk us left).set ≤ 1
  set-once = done.0

  -- the readers counted at the end are those that remain
  pub readers_end : (end nx ins ok tk us left).readers p ≡ remaining nx ins ok tk us left p
  readers_end = omega (
    arith,
    takes_readers ins (keep tk left) (over (join_by nx ok) (begin nx ins ok tk us left) us) p,
    joins_readers nx ok us (begin nx ins ok tk us left) p,
    count-append p (flat nx us) (flat ins left),
    flat_parts nx ok p us,
    flat_parts ins tk p left,
  )

  pub still_read : 0 < count p (end nx ins ok tk us left).set → 0 < remaining nx ins ok tk us left p
  still_read m = by_test (remaining nx ins ok tk us left p == 0)
      (λ t. absurd (omega (arith, done.1 (readers_end ∙ eqb-true (remaining nx ins ok tk us left p) 0 t))))
      (λ f. omega (arith, eqb-false (remaining nx ins ok tk us left p) 0 f))
