-- The search in events: each place is entered and left once, what it leads to is left before it, and no proper order has a way back.
use mathlib.Core.Path.{◌≡◌, refl, sym, ◌∙◌, ap, subst}
use mathlib.Core.Logic.{◌⊎◌, inl, inr, ⊎_elim}
use mathlib.Core.List.{List, [], ◌∷◌, ◌++◌}
use Prim.Native.Nat.{ℕ, zero, suc, ◌+◌, ◌≤◌, ◌<◌}
use native.Mathlib.Omega.{arith}
use lib.ListN.{length}
use borrow.Author.Tests.{ltb-true, ltb-false, eqb-true, eqb-false, eq-eqb}
use Rattle.std.specs.Prelude.{◌==◌}
use Rattle.laws.specs.Tests.{◌<?◌}
use Rattle.laws.specs.Lists.{count, member, over}
use Rattle.laws.specs.Search.{Event, entered, left, explore, Chain}
use Rattle.laws.specs.Search.Event.{enter, leave}
use Rattle.laws.specs.Search.Chain.{step, more}
use Rattle.laws.proofs.Tests.{by_test, one_eq, one_ne, one_le}
use Rattle.laws.proofs.Bags.{member_true, member_false, is_member, no_member, at_head, here, there}
use Rattle.laws.proofs.Folds.{walk_inv, over-same, over-same_where, over_idle, over-append}
use Rattle.laws.proofs.Indices.{place}
use Rattle.laws.proofs.Counting.{fits}

-- how often a place is entered, and left
abbrev pub ins : ℕ → List Event → ℕ
ins p es = count p (entered es)

abbrev pub outs : ℕ → List Event → ℕ
outs p es = count p (left es)

pub ins_append : (p : ℕ) (es fs : List Event) → ins p (es ++ fs) ≡ ins p es + ins p fs
ins_append p [] fs = omega arith
ins_append p (enter u ∷ es) fs = omega (arith, ins_append p es fs)
ins_append p (leave u ∷ es) fs = ins_append p es fs

pub outs_append : (p : ℕ) (es fs : List Event) → outs p (es ++ fs) ≡ outs p es + outs p fs
outs_append p [] fs = omega arith
outs_append p (enter u ∷ es) fs = outs_append p es fs
outs_append p (leave u ∷ es) fs = omega (arith, outs_append p es fs)

-- the places entered after some events, and those left, the last first
abbrev pub in_after : List ℕ → List Event → List ℕ
in_after ent [] = ent
in_after ent (enter u ∷ es) = in_after (u ∷ ent) es
in_after ent (leave u ∷ es) = in_after ent es

abbrev pub out_after : List ℕ → List Event → List ℕ
out_after lft [] = lft
out_after lft (enter u ∷ es) = out_after lft es
out_after lft (leave u ∷ es) = out_after (u ∷ lft) es

pub count_in : (es : List Event) (ent : List ℕ) (p : ℕ) → count p (in_after ent es) ≡ count p ent + ins p es
count_in [] ent p = omega arith
count_in (enter u ∷ es) ent p = omega (arith, count_in es (u ∷ ent) p)
count_in (leave u ∷ es) ent p = count_in es ent p

pub count_out : (es : List Event) (lft : List ℕ) (p : ℕ) → count p (out_after lft es) ≡ count p lft + outs p es
count_out [] lft p = omega arith
count_out (enter u ∷ es) lft p = count_out es lft p
count_out (leave u ∷ es) lft p = omega (arith, count_out es (u ∷ lft) p)

module _ (nx : ℕ → List ℕ) where
  -- events in a proper order, behind places that were entered and places that were left
  abbrev pub Proper : List ℕ → List ℕ → List Event → Type 0
  Proper ent lft [] = Unit {0}
  Proper ent lft (enter u ∷ es) = (count u ent ≡ 0) × Proper (u ∷ ent) lft es
  Proper ent lft (leave u ∷ es) = (0 < count u ent) × (count u lft ≡ 0) × ((o : ℕ) → 0 < count o (nx u) → 0 < count o lft) × Proper ent (u ∷ lft) es

  pub proper_enter : (es : List Event) (ent lft : List ℕ) (u : ℕ) → Proper ent lft es → count u ent + ins u es ≡ 0 → Proper ent lft (es ++ (enter u ∷ []))
  proper_enter [] ent lft u r n = (omega arith, tt)
  proper_enter (enter x ∷ es) ent lft u r n = (r.0, proper_enter es (x ∷ ent) lft u r.1 (omega arith))
  proper_enter (leave x ∷ es) ent lft u r n = (r.0, r.1, r.2, proper_enter es ent (x ∷ lft) u r.3 n)

  pub proper_leave : (es : List Event) (ent lft : List ℕ) (u : ℕ) → Proper ent lft es → 0 < count u ent + ins u es → count u lft + outs u es ≡ 0
      → ((o : ℕ) → 0 < count o (nx u) → 0 < count o lft + outs o es) → Proper ent lft (es ++ (leave u ∷ []))
  proper_leave [] ent lft u r e n h = (omega arith, omega arith, λ o m. omega (arith, h o m), tt)
  proper_leave (enter x ∷ es) ent lft u r e n h = (r.0, proper_leave es (x ∷ ent) lft u r.1 (omega arith) n h)
  proper_leave (leave x ∷ es) ent lft u r e n h = (r.0, r.1, r.2, proper_leave es ent (x ∷ lft) u r.3 e (omega arith) (λ o m. omega (arith, h o m)))

  -- never twice
  pub proper_ins : (es : List Event) (ent lft : List ℕ) (p : ℕ) → Proper ent lft es → count p ent ≤ 1 → count p ent + ins p es ≤ 1
  proper_ins [] ent lft p r h = omega arith
  proper_ins (enter u ∷ es) ent lft p r h = by_test (p == u)
      (λ t. omega (arith, proper_ins es (u ∷ ent) lft p r.1 (omega (arith, one_le (p == u), r.0, ap (λ (z : ℕ). count z ent) (eqb-true p u t)))))
      (λ f. omega (arith, one_ne p u (eqb-false p u f), proper_ins es (u ∷ ent) lft p r.1 (omega (arith, one_ne p u (eqb-false p u f)))))
  proper_ins (leave u ∷ es) ent lft p r h = proper_ins es ent (u ∷ lft) p r.3 h

  pub proper_outs : (es : List Event) (ent lft : List ℕ) (p : ℕ) → Proper ent lft es → count p lft ≤ 1 → count p lft + outs p es ≤ 1
  proper_outs [] ent lft p r h = omega arith
  proper_outs (enter u ∷ es) ent lft p r h = proper_outs es (u ∷ ent) lft p r.1 h
  proper_outs (leave u ∷ es) ent lft p r h = by_test (p == u)
      (λ t. omega (arith, proper_outs es ent (u ∷ lft) p r.3 (omega (arith, one_le (p == u), r.1, ap (λ (z : ℕ). count z lft) (eqb-true p u t)))))
      (λ f. omega (arith, one_ne p u (eqb-false p u f), proper_outs es ent (u ∷ lft) p r.3 (omega (arith, one_ne p u (eqb-false p u f)))))

  -- what is entered is left, what was open stays open
  pub balance : (f : ℕ) (out : List Event) (u p : ℕ) → ins p (explore nx f out u) + outs p out ≡ ins p out + outs p (explore nx f out u)
  balance zero out u p = refl
  balance (suc f) out u p = by_test (member u (entered out))
      (λ t. rw t refl)
      (λ n. rw n (omega (
        arith,
        ins_append p (over (explore nx f) (out ++ (enter u ∷ [])) (nx u)) (leave u ∷ []),
        outs_append p (over (explore nx f) (out ++ (enter u ∷ [])) (nx u)) (leave u ∷ []),
        ins_append p out (enter u ∷ []),
        outs_append p out (enter u ∷ []),
        walk_inv (λ s. ins p s + outs p (out ++ (enter u ∷ [])) ≡ ins p (out ++ (enter u ∷ [])) + outs p s) (explore nx f) (nx u) (out ++ (enter u ∷ []))
            (λ s o m i. omega (arith, i, balance f s o p)) refl,
      )))

  pub grows_outs : (f : ℕ) (out : List Event) (u p : ℕ) → outs p out ≤ outs p (explore nx f out u)
  grows_outs zero out u p = omega arith
  grows_outs (suc f) out u p = by_test (member u (entered out))
      (λ t. rw t (omega arith))
      (λ n. rw n (omega (
        arith,
        outs_append p (over (explore nx f) (out ++ (enter u ∷ [])) (nx u)) (leave u ∷ []),
        outs_append p out (enter u ∷ []),
        walk_inv (λ s. outs p (out ++ (enter u ∷ [])) ≤ outs p s) (explore nx f) (nx u) (out ++ (enter u ∷ [])) (λ s o m i. omega (arith, i, grows_outs f s o p)) (omega arith),
      )))

  -- only what holds of the roots and passes on is entered
  pub only_ins : (P : ℕ → Type 0) → ((u o : ℕ) → P u → 0 < count o (nx u) → P o) → (f : ℕ) (out : List Event) (u : ℕ) → ((p : ℕ) → 0 < ins p out → P p) → P u
      → (p : ℕ) → 0 < ins p (explore nx f out u) → P p
  only_ins P pass zero out u a pu = a
  only_ins P pass (suc f) out u a pu = by_test (member u (entered out))
      (λ t. rw t a)
      (λ n. rw n (λ p m. walk_inv (λ s. (q : ℕ) → 0 < ins q s → P q) (explore nx f) (nx u) (out ++ (enter u ∷ []))
      (λ s o mo i. only_ins P pass f s o i (pass u o pu mo))
      (λ q mq. by_test (q == u)
      (λ t. subst P (sym (eqb-true q u t)) pu)
      (λ g. a q (omega (arith, mq, ins_append q out (enter u ∷ []), one_ne q u (eqb-false q u g)))))
      p (omega (arith, m, ins_append p (over (explore nx f) (out ++ (enter u ∷ [])) (nx u)) (leave u ∷ [])))))

  -- what is left was entered
  pub proper_within : (es : List Event) (ent lft : List ℕ) (p : ℕ) → Proper ent lft es → 0 < outs p es → 0 < count p ent + ins p es
  proper_within [] ent lft p r m = absurd (omega arith)
  proper_within (enter u ∷ es) ent lft p r m = omega (arith, proper_within es (u ∷ ent) lft p r.1 m)
  proper_within (leave u ∷ es) ent lft p r m = at_head p u (left es) m
      (λ e. omega (arith, subst (λ (z : ℕ). 0 < count z ent) (sym e) r.0))
      (λ m'. proper_within es ent (u ∷ lft) p r.3 m')

  module _ (In : ℕ → Type 0) (rank : ℕ → ℕ) (falls : (u o : ℕ) → In u → 0 < count o (nx u) → In o × (rank o < rank u)) where
    -- the places that are open have at least this rank
    abbrev pub Above : ℕ → List Event → Type 0
    Above k out = (w : ℕ) → outs w out < ins w out → k ≤ rank w

    abbrev pub Ready : ℕ → List Event → Type 0
    Ready k out = Proper [] [] out × Above k out

    -- what one search gives
    abbrev Found : ℕ → List Event → ℕ → Type 0
    Found f out u = Proper [] [] (explore nx f out u) × (0 < outs u (explore nx f out u))

    -- over some places: all stays proper, and each is left
    pub rest : (f : ℕ) → ((out : List Event) (o : ℕ) → In o → rank o < f → Ready (suc (rank o)) out → Found f out o)
        → (k : ℕ) (os : List ℕ) (out : List Event) → ((o : ℕ) → 0 < count o os → In o × (rank o < f) × (rank o < k)) → Ready k out
        → Proper [] [] (over (explore nx f) out os) × ((o : ℕ) → 0 < count o os → 0 < outs o (over (explore nx f) out os))
    rest f ih k [] out h s = (s.0, λ o m. absurd (omega arith))
    rest f ih k (o ∷ os) out h s =
        let a = h o (here o os) in
        let one_more : Found f out o = ih out o a.0 a.1 (s.0, λ w l. omega (arith, a.2, s.1 w l)) in
        let more = rest f ih k os (explore nx f out o) (λ w m. h w (there w o os m)) (one_more.0, λ w l. s.1 w (omega (arith, l, balance f out o w))) in (
          more.0,
          λ w m. at_head w o os m
              (λ e. subst (λ (z : ℕ). 0 < outs z (over (explore nx f) (explore nx f out o) os)) (sym e)
              (walk_inv (λ t. 0 < outs o t) (explore nx f) os (explore nx f out o) (λ t v mv i. omega (arith, i, grows_outs f t v o)) one_more.1))
              (λ m'. more.1 w m'),
        )

    pub found : (f : ℕ) (out : List Event) (u : ℕ) → In u → rank u < f → Ready (suc (rank u)) out → Found f out u
    found zero out u i h s = absurd (omega arith)
    found (suc f) out u i h s = by_test (member u (entered out))
        (λ t. rw t (s.0, known (member_true u (entered out) t)))
        (λ n. rw n (fresh (member_false u (entered out) n) (rest f (found f) (rank u) (nx u) (out ++ (enter u ∷ [])) below (opened (member_false u (entered out) n)))))
      where
        known : 0 < ins u out → 0 < outs u out
        known m = by_test (0 <? outs u out) (λ t. ltb-true 0 (outs u out) t) (λ g. absurd (omega (arith, s.1 u (omega (arith, m, ltb-false 0 (outs u out) g)))))

        below : (o : ℕ) → 0 < count o (nx u) → In o × (rank o < f) × (rank o < rank u)
        below o m = let w = falls u o i m in (w.0, omega (arith, w.1), w.1)

        opened : ins u out ≡ 0 → Ready (rank u) (out ++ (enter u ∷ []))
        opened z = (
          proper_enter out [] [] u s.0 (omega arith),
          λ w l. by_test (w == u)
              (λ t. omega (arith, ap rank (eqb-true w u t)))
              (λ g. omega (arith, s.1 w (omega (arith, l, ins_append w out (enter u ∷ []), outs_append w out (enter u ∷ []), one_ne w u (eqb-false w u g))))),
        )

        inner : List Event
        inner = over (explore nx f) (out ++ (enter u ∷ [])) (nx u)

        even : ins u inner + outs u (out ++ (enter u ∷ [])) ≡ ins u (out ++ (enter u ∷ [])) + outs u inner
        even = walk_inv (λ t. ins u t + outs u (out ++ (enter u ∷ [])) ≡ ins u (out ++ (enter u ∷ [])) + outs u t) (explore nx f) (nx u) (out ++ (enter u ∷ [])) (λ t o m e. omega (arith, e, balance f t o u)) refl

        not_left : ins u out ≡ 0 → outs u out ≡ 0
        not_left z = by_test (0 <? outs u out) (λ t. absurd (omega (arith, proper_within out [] [] u s.0 (ltb-true 0 (outs u out) t)))) (λ g. omega (arith, ltb-false 0 (outs u out) g))

        fresh : ins u out ≡ 0 → Proper [] [] inner × ((o : ℕ) → 0 < count o (nx u) → 0 < outs o inner) → Proper [] [] (inner ++ (leave u ∷ [])) × (0 < outs u (inner ++ (leave u ∷ [])))
        fresh z r =
            let e1 : ins u (out ++ (enter u ∷ [])) ≡ 1 = omega (arith, ins_append u out (enter u ∷ []), one_eq u u refl) in
            let e2 : outs u (out ++ (enter u ∷ [])) ≡ 0 = omega (arith, outs_append u out (enter u ∷ []), not_left z) in
            let e3 : ins u inner ≡ 1 + outs u inner = omega (arith, even) in
            let e4 : ins u inner ≤ 1 = omega (arith, proper_ins inner [] [] u r.0 (omega arith)) in (
              proper_leave inner [] [] u r.0 (omega arith) (omega arith) (λ o m. omega (arith, r.1 o m)),
              omega (arith, outs_append u inner (leave u ∷ []), one_eq u u refl),
            )

    -- the whole search, from nothing
    pub all_found : (f : ℕ) (us : List ℕ) → ((u : ℕ) → 0 < count u us → In u × (rank u < f))
        → Proper [] [] (over (explore nx f) [] us) × ((o : ℕ) → 0 < count o us → outs o (over (explore nx f) [] us) ≡ 1)
    all_found f us h =
        let top : ℕ = suc f in
        let r = rest f (found f) f us [] (λ o m. ((h o m).0, (h o m).1, (h o m).1)) (tt, λ w l. absurd (omega arith)) in
        (r.0, λ o m. omega (arith, r.1 o m, proper_outs (over (explore nx f) [] us) [] [] o r.0 (omega arith)))

module _ (nx : ℕ → List ℕ) where
  -- ---- a proper order has no way back: the index of a leave event is a rank
  earlier : (es : List Event) (ent lft : List ℕ) (u o : ℕ) → Proper nx ent lft es → 0 < count u (left es) → 0 < count o (nx u) → (0 < count o lft) ⊎ ((0 < count o (left es)) × (place o (left es) < place u (left es)))
  earlier [] ent lft u o r m k = absurd (omega arith)
  earlier (enter w ∷ es) ent lft u o r m k = earlier es (w ∷ ent) lft u o r.1 m k
  earlier (leave w ∷ es) ent lft u o r m k = by_test (u == w)
      (λ t. inl (r.2 o (subst (λ (x : ℕ). 0 < count o (nx x)) (eqb-true u w t) k)))
      (λ f. rw f (⊎_elim {B = (0 < count o (left es)) × (place o (left es) < place u (left es))}
      (λ i. at_head o w lft i
      (λ e. inr (omega (arith, one_eq o w e), rw (eq-eqb o w e) (omega arith)))
      (λ i'. inl i'))
      (λ j. inr (omega (arith, j.0), by_test (o == w) (λ y. rw y (omega arith)) (λ g. rw g (omega (arith, j.1)))))
      (earlier es ent (w ∷ lft) u o r.3 (omega (arith, m, one_ne u w (eqb-false u w f))) k)))

  pub proper_falls : (es : List Event) → Proper nx [] [] es → (u o : ℕ) → 0 < outs u es → 0 < count o (nx u) → (0 < outs o es) × (place o (left es) < place u (left es))
  proper_falls es r u o m k = ⊎_elim (λ i. absurd (omega arith)) (λ j. j) (earlier es [] [] u o r m k)

  pub proper_free : (es : List Event) → Proper nx [] [] es → (u w : ℕ) → 0 < outs u es → Chain nx u w → (0 < outs w es) × (place w (left es) < place u (left es))
  proper_free es r u w m (step k) = proper_falls es r u w m k
  proper_free es r u w m (more {o = o} k c) = let a = proper_falls es r u o m k in let b = proper_free es r o w a.0 c in (b.0, omega (arith, a.1, b.1))

  pub no_loop_left : (es : List Event) → Proper nx [] [] es → (u : ℕ) → 0 < outs u es → Chain nx u u → ⊥
  no_loop_left es r u m c = omega (arith, (proper_free es r u u m c).1)

  -- ---- work done event by event: what holds of it behind the places entered and the places left, the last first
  pub proper_fold : {A : Type 0} (act : A → Event → A) (I : List ℕ → List ℕ → A → Type 0) (Q : ℕ → Type 0)
      → ((ent lft : List ℕ) (s : A) (u : ℕ) → Q u → count u ent ≡ 0 → I ent lft s → I (u ∷ ent) lft (act s (enter u)))
      → ((ent lft : List ℕ) (s : A) (u : ℕ) → Q u → 0 < count u ent → count u lft ≡ 0 → ((o : ℕ) → 0 < count o (nx u) → 0 < count o lft) → I ent lft s → I ent (u ∷ lft) (act s (leave u)))
      → (es : List Event) (ent lft : List ℕ) (s : A) → Proper nx ent lft es → ((p : ℕ) → 0 < count p ent + ins p es → Q p) → I ent lft s → I (in_after ent es) (out_after lft es) (over act s es)
  proper_fold act I Q on_enter on_leave [] ent lft s r q i = i
  proper_fold act I Q on_enter on_leave (enter u ∷ es) ent lft s r q i = proper_fold act I Q on_enter on_leave es (u ∷ ent) lft (act s (enter u)) r.1 (λ p m. q p (omega arith))
      (on_enter ent lft s u (q u (omega (arith, one_eq u u refl))) r.0 i)
  proper_fold act I Q on_enter on_leave (leave u ∷ es) ent lft s r q i = proper_fold act I Q on_enter on_leave es ent (u ∷ lft) (act s (leave u)) r.3 q
      (on_leave ent lft s u (q u (omega (arith, r.0))) r.0 r.1 r.2 i)

-- each place below n is entered once at most, and no other
abbrev pub Apart : ℕ → List Event → Type 0
Apart n out = ((p : ℕ) → ins p out ≤ 1) × ((p : ℕ) → 0 < ins p out → p < n)

pub apart_enter : (n : ℕ) (out : List Event) (u : ℕ) → u < n → ins u out ≡ 0 → Apart n out → Apart n (out ++ (enter u ∷ []))
apart_enter n out u h z a = (
  (λ p. by_test (p == u)
      (λ t. omega (arith, ins_append p out (enter u ∷ []), one_le (p == u), ap (λ (x : ℕ). ins x out) (eqb-true p u t)))
      (λ f. omega (arith, ins_append p out (enter u ∷ []), one_ne p u (eqb-false p u f), a.0 p))),
  λ p m. by_test (p == u)
      (λ t. omega (arith, eqb-true p u t))
      (λ f. a.1 p (omega (arith, m, ins_append p out (enter u ∷ []), one_ne p u (eqb-false p u f)))),
)

pub apart_leave : (n : ℕ) (out : List Event) (u : ℕ) → Apart n out → Apart n (out ++ (leave u ∷ []))
apart_leave n out u a = ((λ p. omega (arith, ins_append p out (leave u ∷ []), a.0 p)), λ p m. a.1 p (omega (arith, m, ins_append p out (leave u ∷ []))))

pub entered-length : (es fs : List Event) → length (entered (es ++ fs)) ≡ length (entered es) + length (entered fs)
entered-length [] fs = omega arith
entered-length (enter u ∷ es) fs = omega (arith, entered-length es fs)
entered-length (leave u ∷ es) fs = entered-length es fs

pub entered_fits : (n : ℕ) (out : List Event) → Apart n out → length (entered out) ≤ n
entered_fits n out a = fits n (entered out) a.0 a.1

-- a search as deep as it can go where there are n places
abbrev pub explore_at : (ℕ → List ℕ) → ℕ → List Event → ℕ → List Event
explore_at nx n out u = explore nx (suc n) out u

module _ (nx : ℕ → List ℕ) where
  -- ---- how deep the search goes: by a rank that falls
  module _ (In : ℕ → Type 0) (rank : ℕ → ℕ) (falls : (u o : ℕ) → In u → 0 < count o (nx u) → In o × (rank o < rank u)) where
    pub search_fuel : (g h : ℕ) (out : List Event) (u : ℕ) → In u → rank u < g → rank u < h → explore nx g out u ≡ explore nx h out u
    search_fuel zero h out u i a b = absurd (omega arith)
    search_fuel (suc g) zero out u i a b = absurd (omega arith)
    search_fuel (suc g) (suc h) out u i a b = rw (over-same (explore nx g) (explore nx h) (nx u) (out ++ (enter u ∷ []))
        (λ s o m. let w = falls u o i m in search_fuel g h s o w.0 (omega (arith, w.1)) (omega (arith, w.1))))

  -- what was entered stays so, and a search enters its place
  pub grows_ins : (f : ℕ) (out : List Event) (u p : ℕ) → ins p out ≤ ins p (explore nx f out u)
  grows_ins f out u p = omega (arith, balance nx f out u p, grows_outs nx f out u p)

  pub explore_has : (f : ℕ) (out : List Event) (u : ℕ) → 0 < ins u (explore nx (suc f) out u)
  explore_has f out u = by_test (member u (entered out))
      (λ t. rw t (member_true u (entered out) t))
      (λ n. rw n (omega (
        arith,
        ins_append u (over (explore nx f) (out ++ (enter u ∷ [])) (nx u)) (leave u ∷ []),
        ins_append u out (enter u ∷ []),
        one_eq u u refl,
        walk_inv (λ s. ins u (out ++ (enter u ∷ [])) ≤ ins u s) (explore nx f) (nx u) (out ++ (enter u ∷ [])) (λ s o m i. omega (arith, i, grows_ins f s o u)) (omega arith),
      )))

  pub explore_again : (f : ℕ) (out : List Event) (u : ℕ) → 0 < ins u out → explore nx (suc f) out u ≡ out
  explore_again f out u m = rw (is_member u (entered out) m)

  -- ---- or by a bound on the places, loops or not: each level enters a place more
  module _ (n : ℕ) (closed : (u o : ℕ) → u < n → 0 < count o (nx u) → o < n) where
    pub explore_apart : (f : ℕ) (out : List Event) (u : ℕ) → u < n → Apart n out → Apart n (explore nx f out u)
    explore_apart zero out u h a = a
    explore_apart (suc f) out u h a = by_test (member u (entered out))
        (λ t. rw t a)
        (λ g. rw g (apart_leave n (over (explore nx f) (out ++ (enter u ∷ [])) (nx u)) u
        (walk_inv (Apart n) (explore nx f) (nx u) (out ++ (enter u ∷ [])) (λ s o m i. explore_apart f s o (closed u o h m) i)
        (apart_enter n out u h (member_false u (entered out) g) a))))

    explore-longer : (f : ℕ) (out : List Event) (u : ℕ) → length (entered out) ≤ length (entered (explore nx f out u))
    explore-longer zero out u = omega arith
    explore-longer (suc f) out u = by_test (member u (entered out))
        (λ t. rw t (omega arith))
        (λ g. rw g (omega (
          arith,
          entered-length (over (explore nx f) (out ++ (enter u ∷ [])) (nx u)) (leave u ∷ []),
          entered-length out (enter u ∷ []),
          walk_inv (λ s. length (entered (out ++ (enter u ∷ []))) ≤ length (entered s)) (explore nx f) (nx u) (out ++ (enter u ∷ []))
              (λ s o m i. omega (arith, i, explore-longer f s o)) (omega arith),
        )))

    pub explore_fuel : (f g : ℕ) (out : List Event) (u : ℕ) → u < n → Apart n out → n < f + length (entered out) → n < g + length (entered out)
        → explore nx f out u ≡ explore nx g out u
    explore_fuel zero g out u h a k l = absurd (omega (arith, entered_fits n out a))
    explore_fuel (suc f) zero out u h a k l = absurd (omega (arith, entered_fits n out a))
    explore_fuel (suc f) (suc g) out u h a k l = by_test (member u (entered out))
        (λ t. rw t)
        (λ e. rw e (ap (λ (z : List Event). z ++ (leave u ∷ []))
        (over-same_where (λ s. Apart n s × (length (entered (out ++ (enter u ∷ []))) ≤ length (entered s))) (explore nx f) (explore nx g) (nx u) (out ++ (enter u ∷ []))
        (apart_enter n out u h (member_false u (entered out) e) a, omega arith)
        (λ s o m i. (explore_apart f s o (closed u o h m) i.0, omega (arith, i.1, explore-longer f s o)))
        (λ s o m i. explore_fuel f g s o (closed u o h m) i.0 (omega (arith, i.1, entered-length out (enter u ∷ []))) (omega (arith, i.1, entered-length out (enter u ∷ [])))))))

    -- a place that was not entered: it is entered, what it leads to is searched, and it is left
    pub explore_new : (out : List Event) (u : ℕ) → u < n → Apart n out → ins u out ≡ 0
        → explore_at nx n out u ≡ over (explore_at nx n) (out ++ (enter u ∷ [])) (nx u) ++ (leave u ∷ [])
    explore_new out u h a z = rw (no_member u (entered out) z) (ap (λ (t : List Event). t ++ (leave u ∷ []))
        (over-same_where (λ s. Apart n s × (0 < length (entered s))) (explore nx n) (explore_at nx n) (nx u) (out ++ (enter u ∷ []))
        (apart_enter n out u h z a, omega (arith, entered-length out (enter u ∷ [])))
        (λ s o m i. (explore_apart n s o (closed u o h m) i.0, omega (arith, i.1, explore-longer n s o)))
        (λ s o m i. explore_fuel n (suc n) s o (closed u o h m) i.0 (omega (arith, i.1)) (omega arith))))

    -- places that were entered may be skipped
    pub explores_skip : (out : List Event) (bs os : List ℕ) → ((p : ℕ) → 0 < count p bs → 0 < ins p out) → over (explore_at nx n) out (bs ++ os) ≡ over (explore_at nx n) out os
    explores_skip out bs os h = over-append (explore_at nx n) out bs os
        ∙ ap (λ (z : List Event). over (explore_at nx n) z os) (over_idle (explore_at nx n) bs out (λ p m. explore_again n out p (h p m)))
