-- The visit order: it has what it is asked for and no more, it is closed, and each place stands once, behind all that it leads to.
use mathlib.Core.Path.{◌≡◌, refl, sym, ◌∙◌, ap, subst}
use mathlib.Core.Logic.{◌⊎◌, inl, inr, ⊎_elim}
use mathlib.Core.List.{List, [], ◌∷◌, ◌++◌}
use Prim.Native.Nat.{ℕ, zero, suc, ◌+◌, ◌≤◌, ◌<◌}
use native.Mathlib.Omega.{arith}
use borrow.Author.Tests.{eqb-true, eqb-false}
use Rattle.std.specs.Prelude.{if◌then◌else◌, ◌==◌}
use Rattle.laws.specs.Lists.{count, member, over}
use Rattle.laws.specs.Search.{visit, visits}
use Rattle.laws.proofs.Tests.{by_test, one_eq, one_ne, one_le}
use Rattle.laws.proofs.Bags.{member_true, member_false, is_member, no_member, count-append, count_other, in_right, here, snoc_all}
use Rattle.laws.proofs.Folds.{over_inv, walk_inv, over_grows, over_has, over-same, over_idle, over-append}

-- a visit as deep as it goes where places lead to smaller ones only
abbrev pub visit_at : (ℕ → List ℕ) → List ℕ → ℕ → List ℕ
visit_at nx out u = visit nx (suc u) out u

module _ (nx : ℕ → List ℕ) where
  -- what is listed stays so, and a visit lists its place
  pub visit_grows : (f : ℕ) (out : List ℕ) (u p : ℕ) → count p out ≤ count p (visit nx f out u)
  visit_grows zero out u p = omega arith
  visit_grows (suc f) out u p = by_test (member u out)
      (λ t. rw t (omega arith))
      (λ n. rw n (omega (arith, over_grows (visit nx f) (visit_grows f) (nx u) out p, count-append p (over (visit nx f) out (nx u)) (u ∷ []))))

  pub visit_has : (f : ℕ) (out : List ℕ) (u : ℕ) → 0 < count u (visit nx (suc f) out u)
  visit_has f out u = by_test (member u out)
      (λ t. rw t (member_true u out t))
      (λ n. rw n (omega (arith, one_eq u u refl, count-append u (over (visit nx f) out (nx u)) (u ∷ []))))

  -- no more than it must: what holds of the roots, and of all that such a place leads to, holds of each place listed
  pub visit-only : (P : ℕ → Type 0) → ((u o : ℕ) → P u → 0 < count o (nx u) → P o)
      → (f : ℕ) (out : List ℕ) (u : ℕ) → ((p : ℕ) → 0 < count p out → P p) → P u → (p : ℕ) → 0 < count p (visit nx f out u) → P p
  visit-only P step zero out u a pu = a
  visit-only P step (suc f) out u a pu = by_test (member u out)
      (λ t. rw t a)
      (λ n. rw n (snoc_all P (over (visit nx f) out (nx u)) u
      (over_inv (λ s. (p : ℕ) → 0 < count p s → P p) P (visit nx f) (visit-only P step f) (nx u) out a (λ o m. step u o pu m)) pu))

  -- with each place, all that it leads to
  abbrev pub Closed : List ℕ → Type 0
  Closed s = (u o : ℕ) → 0 < count u s → 0 < count o (nx u) → 0 < count o s

  snoc_closed : (s : List ℕ) (u : ℕ) → Closed s → ((o : ℕ) → 0 < count o (nx u) → 0 < count o s) → Closed (s ++ (u ∷ []))
  snoc_closed s u c h v o m k = rw (count-append o s (u ∷ [])) (snoc_all (λ w. 0 < count o (nx w) → 0 < count o s + count o (u ∷ [])) s u
      (λ w m' k'. omega (arith, c w o m' k')) (λ k'. omega (arith, h o k')) v m k)

  pub visit_has' : (f : ℕ) (out us : List ℕ) (o : ℕ) → 0 < f → 0 < count o us → 0 < count o (over (visit nx f) out us)
  visit_has' zero out us o h m = absurd (omega arith)
  visit_has' (suc f) out us o h m = over_has (visit nx (suc f)) (visit_grows (suc f)) (visit_has f) us out o m

  module _ (below : (u o : ℕ) → 0 < count o (nx u) → o < u) where
    pub visit_closed : (f : ℕ) (out : List ℕ) (u : ℕ) → u < f → Closed out → Closed (visit nx f out u)
    visit_closed zero out u h c = c
    visit_closed (suc f) out u h c = by_test (member u out)
        (λ t. rw t c)
        (λ n. rw n (snoc_closed (over (visit nx f) out (nx u)) u
        (over_inv Closed (λ o. o < f) (visit nx f) (λ s o i q. visit_closed f s o q i) (nx u) out c (λ o m. omega (arith, below u o m)))
        (λ o m. visit_has' f out (nx u) o (omega (arith, below u o m)) m)))

    pub visits_closed : (us : List ℕ) → Closed (visits nx us)
    visits_closed us = over_inv Closed (λ u. Unit {0}) (λ out u. visit nx (suc u) out u) (λ s u i q. visit_closed (suc u) s u (omega arith) i) us []
        (λ u o m k. absurd (omega arith)) (λ u m. tt)

  -- the visits of several places in turn
  pub visits_has : (us : List ℕ) (p : ℕ) → 0 < count p us → 0 < count p (visits nx us)
  visits_has us p m = over_has (λ out u. visit nx (suc u) out u) (λ s u q. visit_grows (suc u) s u q) (λ s u. visit_has u s u) us [] p m

  pub visits-only : (P : ℕ → Type 0) → ((u o : ℕ) → P u → 0 < count o (nx u) → P o)
      → (us : List ℕ) → ((u : ℕ) → 0 < count u us → P u) → (p : ℕ) → 0 < count p (visits nx us) → P p
  visits-only P step us = over_inv (λ s. (p : ℕ) → 0 < count p s → P p) P (λ out u. visit nx (suc u) out u) (λ s u a pu. visit-only P step (suc u) s u a pu) us []
      (λ p m. absurd (omega arith))

module _ (nx : ℕ → List ℕ) where
  -- a list in which each stands once, behind all that it leads to; `seen` stands before it
  abbrev pub Ranked : List ℕ → List ℕ → Type 0
  Ranked seen [] = Unit {0}
  Ranked seen (u ∷ us) = (count u seen ≡ 0) × ((o : ℕ) → 0 < count o (nx u) → 0 < count o seen) × Ranked (u ∷ seen) us

  pub ranked_snoc : (us seen : List ℕ) (u : ℕ) → Ranked seen us → count u seen + count u us ≡ 0 → ((o : ℕ) → 0 < count o (nx u) → 0 < count o seen + count o us)
      → Ranked seen (us ++ (u ∷ []))
  ranked_snoc [] seen u r n h = (omega arith, λ o m. omega (arith, h o m), tt)
  ranked_snoc (x ∷ us) seen u r n h = (r.0, r.1, ranked_snoc us (x ∷ seen) u r.2 (omega arith) (λ o m. omega (arith, h o m)))

  -- what was seen does not come again
  pub ranked_fresh : (us seen : List ℕ) (p : ℕ) → Ranked seen us → 0 < count p seen → count p us ≡ 0
  ranked_fresh [] seen p r m = refl
  ranked_fresh (u ∷ us) seen p r m = by_test (p == u)
      (λ t. absurd (omega (arith, m, r.0, ap (λ (z : ℕ). count z seen) (eqb-true p u t))))
      (λ f. omega (arith, one_ne p u (eqb-false p u f), ranked_fresh us (u ∷ seen) p r.2 (omega arith)))

  pub ranked_once : (us seen : List ℕ) (p : ℕ) → Ranked seen us → count p us ≤ 1
  ranked_once [] seen p r = omega arith
  ranked_once (u ∷ us) seen p r = by_test (p == u)
      (λ t. omega (arith, one_le (p == u), ranked_fresh us (u ∷ seen) p r.2 (omega (arith, one_eq p u (eqb-true p u t)))))
      (λ f. omega (arith, one_ne p u (eqb-false p u f), ranked_once us (u ∷ seen) p r.2))

  module _ (below : (u o : ℕ) → 0 < count o (nx u) → o < u) where
    abbrev Sound : List ℕ → Type 0
    Sound s = Closed nx s × Ranked [] s

    -- the visits of what a place leads to do not list the place
    fresh : (f : ℕ) (out : List ℕ) (u : ℕ) → Closed nx out → count u out ≡ 0 → count u (over (visit nx f) out (nx u)) ≡ 0
    fresh f out u c n = by_test (member u inner)
        (λ t. absurd (⊎_elim (λ m. omega arith) (λ l. omega arith) (from u (member_true u inner t))))
        (λ z. member_false u inner z)
      where
        inner : List ℕ
        inner = over (visit nx f) out (nx u)

        P : ℕ → Type 0
        P p = (0 < count p out) ⊎ (p < u)

        step : (v o : ℕ) → P v → 0 < count o (nx v) → P o
        step v o (inl m) k = inl (c v o m k)
        step v o (inr l) k = inr (omega (arith, below v o k))

        from : (p : ℕ) → 0 < count p inner → P p
        from = over_inv (λ s. (p : ℕ) → 0 < count p s → P p) P (visit nx f) (visit-only nx P step f) (nx u) out (λ p m. inl m) (λ o m. inr (below u o m))

    -- so a visit keeps the order
    pub visit_sound : (f : ℕ) (out : List ℕ) (u : ℕ) → u < f → Sound out → Sound (visit nx f out u)
    visit_sound zero out u h s = s
    visit_sound (suc f) out u h s = (
      visit_closed nx below (suc f) out u h s.0,
      by_test (member u out)
          (λ t. rw t s.1)
          (λ n. rw n (ranked_snoc (over (visit nx f) out (nx u)) [] u
          (over_inv Sound (λ o. o < f) (visit nx f) (λ s' o i q. visit_sound f s' o q i) (nx u) out s (λ o m. omega (arith, below u o m))).1
          (omega (arith, fresh f out u s.0 (member_false u out n)))
          (λ o m. omega (arith, visit_has' nx f out (nx u) o (omega (arith, below u o m)) m)))),
    )

    pub visits_ranked : (us : List ℕ) → Ranked [] (visits nx us)
    visits_ranked us = (over_inv Sound (λ u. Unit {0}) (λ out u. visit nx (suc u) out u) (λ s u i q. visit_sound (suc u) s u (omega arith) i) us []
        (λ u o m k. absurd (omega arith), tt) (λ u m. tt)).1

-- ---- a visit, by visits of what the place leads to
module _ (nx : ℕ → List ℕ) (below : (u o : ℕ) → 0 < count o (nx u) → o < u) where
  pub visit_fuel : (f f' : ℕ) (out : List ℕ) (u : ℕ) → u < f → u < f' → visit nx f out u ≡ visit nx f' out u
  visit_fuel zero f' out u h k = absurd (omega arith)
  visit_fuel (suc f) zero out u h k = absurd (omega arith)
  visit_fuel (suc f) (suc f') out u h k = rw (over-same (visit nx f) (visit nx f') (nx u) out (λ s o m. visit_fuel f f' s o (omega (arith, below u o m)) (omega (arith, below u o m))))

  pub visit_is : (out : List ℕ) (u : ℕ) → visit_at nx out u ≡ (if member u out then out else over (visit_at nx) out (nx u) ++ (u ∷ []))
  visit_is out u = ap (λ (l : List ℕ). if member u out then out else l ++ (u ∷ []))
      (over-same (visit nx u) (visit_at nx) (nx u) out (λ s o m. visit_fuel u (suc o) s o (below u o m) (omega arith)))

  -- a place that is listed is not visited again, one that is not is listed last
  pub visit_again : (out : List ℕ) (u : ℕ) → 0 < count u out → visit_at nx out u ≡ out
  visit_again out u m = rw (is_member u out m)

  pub visit_new : (out : List ℕ) (u : ℕ) → count u out ≡ 0 → visit_at nx out u ≡ over (visit_at nx) out (nx u) ++ (u ∷ [])
  visit_new out u n = visit_is out u ∙ rw (no_member u out n)

  -- nothing above its place is listed
  spares : (f : ℕ) (out : List ℕ) (u q : ℕ) → u < q → count q out ≡ 0 → count q (visit nx f out u) ≡ 0
  spares zero out u q h n = n
  spares (suc f) out u q h n = by_test (member u out)
      (λ t. rw t n)
      (λ g. rw g (count_other u q (over (visit nx f) out (nx u)) (λ e. omega arith)
      ∙ walk_inv (λ s. count q s ≡ 0) (visit nx f) (nx u) out (λ s o m i. spares f s o q (omega (arith, below u o m)) i) n))

  pub visit_spares : (out : List ℕ) (u q : ℕ) → u < q → count q out ≡ 0 → count q (visit_at nx out u) ≡ 0
  visit_spares out u q h n = spares (suc u) out u q h n

  -- places that are listed may be skipped
  pub visits_skip : (out bs os : List ℕ) → ((p : ℕ) → 0 < count p bs → 0 < count p out) → over (visit_at nx) out (bs ++ os) ≡ over (visit_at nx) out os
  visits_skip out bs os h = over-append (visit_at nx) out bs os
      ∙ ap (λ (z : List ℕ). over (visit_at nx) z os) (over_idle (visit_at nx) bs out (λ p m. visit_again out p (h p m)))

  -- a place all of whose next places are listed is listed at once
  pub visit_done : (out : List ℕ) (u : ℕ) → count u out ≡ 0 → ((o : ℕ) → 0 < count o (nx u) → 0 < count o out) → visit_at nx out u ≡ out ++ (u ∷ [])
  visit_done out u n h = visit_new out u n
      ∙ ap (λ (z : List ℕ). z ++ (u ∷ [])) (over_idle (visit_at nx) (nx u) out (λ o m. visit_again out o (h o m)))

  -- the first next place that is not listed may be visited before its place
  pub visit_ahead : (out : List ℕ) (u : ℕ) (bs : List ℕ) (o : ℕ) (os : List ℕ) → nx u ≡ bs ++ (o ∷ os) → count u out ≡ 0
      → ((p : ℕ) → 0 < count p bs → 0 < count p out) → visit_at nx (visit_at nx out o) u ≡ visit_at nx out u
  visit_ahead out u bs o os e n h =
      let mo : 0 < count o (nx u) = subst (λ (l : List ℕ). 0 < count o l) (sym e) (in_right o bs (o ∷ os) (here o os)) in
      let v : List ℕ = visit_at nx out o in
      visit_new v u (visit_spares out o u (below u o mo) n)
      ∙ ap (λ (z : List ℕ). z ++ (u ∷ [])) (
      ap (over (visit_at nx) v) e
      ∙ visits_skip v bs (o ∷ os) (λ p m. omega (arith, h p m, visit_grows nx (suc o) out o p))
      ∙ ap (λ (z : List ℕ). over (visit_at nx) z os) (visit_again v o (visit_has nx o out o))
      ∙ sym (visits_skip out bs (o ∷ os) h)
      ∙ sym (ap (over (visit_at nx) out) e))
      ∙ sym (visit_new out u n)
