-- One turn of a walk over its work words: a pin goes on the stack, or the top is listed and taken off.
use mathlib.Core.Path.{◌≡◌, refl, sym, ap, subst, ◌∙◌}
use mathlib.Core.Bool.{Bool, true, false}
use mathlib.Core.List.{List, [], ◌∷◌, ◌++◌}
use Prim.Native.Nat.{ℕ, suc, ◌+◌, ◌-◌, ◌*◌, ◌<◌, ◌≤◌}
use native.Mathlib.Omega.{arith}
use lib.ListN.{length, get_or, set, length-set}
use lib.Seq.{get_or-set_other}
use Rattle.laws.specs.Tests.{one}
use Rattle.laws.specs.Lists.{count, member, over}
use Rattle.laws.specs.Words.{stack_of, count_below}
use Rattle.laws.proofs.Tests.{one_zero, one_set, one_true}
use Rattle.laws.proofs.Bags.{member_true, member_false, no_member, member_last, member_other, at_head}
use Rattle.laws.proofs.Words.{get_d_set, part-before, part-more}
use Rattle.laws.proofs.Counting.{count-more, count_lt, lex}
use Rattle.laws.proofs.Visits.{visit_at}
use Rattle.laws.proofs.Stacks.{stack_same, stack_top, stack_pushed, stack_length, Grows, grows_fits, grows_push, grows_pop, turn_done, turn_ahead}
use Rattle.walk.specs.State.{goes, list_of, Stops, Listing, Going, Kept, top_of, left, goal, Turned, tag_of, first_of, second_of, Operands, Next}
use Rattle.walk.specs.State.Next.{source, stopped, done, first, second}
use Rattle.walk.proofs.Leads.{goes_stop, goes_source, goes_gate, goes_below, operands_fit}

module _ (ws : List ℕ) (m : ℕ) (w : List ℕ) (h k : ℕ) (g : Going ws m w h k) where
  abbrev vis : List ℕ
  vis = list_of w m k

  -- a pin that is smaller than the top and not listed goes on the stack
  module _ (x : ℕ) (gr : Grows 0 vis m (x ∷ stack_of w (2 * m) h)) where
    abbrev w' : List ℕ
    w' = set w (2 * m + h) x

    pub room : h < m
    room = omega (arith, grows_fits 0 vis m (x ∷ stack_of w (2 * m) h) gr, stack_length w (2 * m) h)

    pub pushed_stack : stack_of w' (2 * m) (h + 1) ≡ x ∷ stack_of w (2 * m) h
    pushed_stack = let r = room in stack_pushed w (2 * m) h x (omega arith)

    pub pushed_list : list_of w' m k ≡ vis
    pushed_list = let r = room in part-before w (3 * m) k (2 * m + h) x (omega arith)

    pushed_other : (j : ℕ) → (j ≡ 2 * m + h → ⊥) → get_or w' j 0 ≡ get_or w j 0
    pushed_other j n = get_or-set_other w (2 * m + h) j x 0 n

    pub pushed_listing : Listing m w' k
    pushed_listing =
        let r = room in
        record {
          long = simp length-set g.listing.long;
          count = g.listing.count;
          exact = rw pushed_list g.listing.exact;
          inside = λ j l. rw (pushed_other (3 * m + j) (omega arith)) (g.listing.inside j l);
          marks = λ p l. rw pushed_list (pushed_other p (omega arith) ∙ g.listing.marks p l);
          after = λ j l u. pushed_other j (omega arith) ∙ g.listing.after j l u;
        }

    pub pushed : Going ws m w' (h + 1) k
    pushed =
        let r = room in
        record {
          low = g.low;
          fits = g.fits;
          drivers_long = g.drivers_long;
          flags = λ p l. rw (pushed_other (m + p) (omega arith)) (g.flags p l);
          listing = pushed_listing;
          height = omega arith;
          stack = rw (pushed_list, pushed_stack) gr;
          above = λ j l u. pushed_other j (omega arith) ∙ g.above j (omega arith) u;
        }

    pub pushed-kept : Kept m w w'
    pushed-kept =
        let r = room in
        record {
          long = length-set w (2 * m + h) x;
          stops = λ p l. pushed_other (m + p) (omega arith);
          rest = λ j l. pushed_other j (omega arith);
        }

  module _ (pos : 0 < h) where
    abbrev top : ℕ
    top = get_or w (2 * m + h - 1) 0

    abbrev under : List ℕ
    under = stack_of w (2 * m) (h - 1)

    split : stack_of w (2 * m) h ≡ top ∷ under
    split = stack_top w (2 * m) h pos

    grown : Grows 0 vis m (top ∷ under)
    grown = rw split at g.stack

    pub top_new : count top vis ≡ 0
    top_new = grown.1

    pub top_lt : top < m
    top_lt = omega (arith, grows_fits (suc top) vis m under grown.2)

    -- there is room for one more
    pub list_lt : k < m
    list_lt = omega (arith, count_lt vis m top top_lt (no_member top vis top_new), g.listing.exact)

    -- the top is marked, taken off, and listed
    abbrev put₁ : List ℕ
    put₁ = set w top 1

    abbrev put₂ : List ℕ
    put₂ = set put₁ (2 * m + h - 1) 0

    abbrev put : List ℕ
    put = set put₂ (3 * m + k) top

    put_other : (j : ℕ) → (j ≡ top → ⊥) → (j ≡ 2 * m + h - 1 → ⊥) → (j ≡ 3 * m + k → ⊥) → get_or put j 0 ≡ get_or w j 0
    put_other j a b c = get_or-set_other put₂ (3 * m + k) j top 0 c ∙ get_or-set_other put₁ (2 * m + h - 1) j 0 0 b ∙ get_or-set_other w top j 1 0 a

    put_list : list_of put m (k + 1) ≡ vis ++ (top ∷ [])
    put_list =
        let hm : h ≤ m = g.height in
        part-more put₂ (3 * m) k top (simp length-set (omega (arith, list_lt)))
        ∙ ap (λ (l : List ℕ). l ++ (top ∷ []))
        (part-before put₁ (3 * m) k (2 * m + h - 1) 0 (omega arith) ∙ part-before w (3 * m) k top 1 (omega (arith, top_lt)))

    put_stack : stack_of put (2 * m) (h - 1) ≡ under
    put_stack = let tl = top_lt in stack_same put w (2 * m) (h - 1) λ j l. put_other (2 * m + j) (omega arith) (omega arith) (omega arith)

    put-mark : (p : ℕ) → p < m → get_or put p 0 ≡ one (member p (list_of put m (k + 1)))
    put-mark p l =
        get_or-set_other put₂ (3 * m + k) p top 0 (omega arith)
        ∙ get_or-set_other put₁ (2 * m + h - 1) p 0 0 (omega arith)
        ∙ get_d_set w top p 1 (λ (n : ℕ). n ≡ one (member p (list_of put m (k + 1)))) (omega (arith, top_lt))
        (λ e. sym (one_true (member p (list_of put m (k + 1))) (ap (member p) put_list ∙ ap (λ (q : ℕ). member p (vis ++ (q ∷ []))) (sym e) ∙ member_last p vis)))
        (λ n. g.listing.marks p l ∙ ap one (sym (member_other top p vis n) ∙ ap (member p) (sym put_list)))

    put_listing : Listing m put (k + 1)
    put_listing =
        let tl = top_lt in
        let kl = list_lt in
        record {
          long = simp length-set g.listing.long;
          count = omega arith;
          exact = ap (λ (v : List ℕ). count_below v m) put_list ∙ count-more vis m top tl (no_member top vis top_new) ∙ omega arith;
          inside = λ j l.
              get_d_set put₂ (3 * m + k) (3 * m + j) top (λ (n : ℕ). n < m) (simp length-set (omega arith)) (λ _. tl)
              (λ n. rw (get_or-set_other put₁ (2 * m + h - 1) (3 * m + j) 0 0 (omega arith), get_or-set_other w top (3 * m + j) 1 0 (omega arith))
              (g.listing.inside j (omega arith)));
          marks = put-mark;
          after = λ j l u. put_other j (omega arith) (omega arith) (omega arith) ∙ g.listing.after j (omega arith) u;
        }

    put_going : Going ws m put (h - 1) (k + 1)
    put_going =
        let tl = top_lt in
        let kl = list_lt in
        record {
          low = g.low;
          fits = g.fits;
          drivers_long = g.drivers_long;
          flags = λ p l. rw (put_other (m + p) (omega arith) (omega arith) (omega arith)) (g.flags p l);
          listing = put_listing;
          height = omega arith;
          stack = rw (put_list, put_stack) (grows_pop vis m top under grown);
          above = λ j l u.
              get_or-set_other put₂ (3 * m + k) j top 0 (omega arith)
              ∙ get_d_set put₁ (2 * m + h - 1) j 0 (λ (n : ℕ). n ≡ 0) (simp length-set (omega arith)) (λ _. refl)
              (λ n. get_or-set_other w top j 1 0 (omega arith) ∙ g.above j (omega arith) u);
        }

    put-kept : Kept m w put
    put-kept =
        let tl = top_lt in
        let kl = list_lt in
        record {
          long = simp length-set;
          stops = λ p l. put_other (m + p) (omega arith) (omega arith) (omega arith);
          rest = λ j l. put_other j (omega arith) (omega arith) (omega arith);
        }

    top_fits : (s l : List ℕ) → Grows 0 l m s → top_of s < suc m
    unfolding top_of
    top_fits [] l gr = omega arith
    top_fits (x ∷ s) l gr = omega (arith, grows_fits (suc x) l m s gr.2)

    -- ---- marks and stops as members
    mark_new : (p : ℕ) → p < m → get_or w p 0 ≡ 0 → count p vis ≡ 0
    mark_new p l e = member_false p vis (one_zero (member p vis) (sym (g.listing.marks p l) ∙ e))

    mark_old : (p : ℕ) → p < m → (get_or w p 0 ≡ 0 → ⊥) → 0 < count p vis
    mark_old p l n = member_true p vis (one_set (member p vis) (λ e. n (g.listing.marks p l ∙ e)))

    fit : Operands ws m
    fit = operands_fit ws m g.low g.fits

    module _ (handed : List ℕ) (st : Stops w m handed) where
      below : (u o : ℕ) → 0 < count o (goes ws m handed u) → o < u
      below = goes_below ws m g.low g.fits handed

      stop_off : get_or w (m + top) 0 ≡ 0 → member top handed ≡ false
      stop_off e = one_zero (member top handed) (sym (st.stop top top_lt) ∙ e)

      stop_on : (get_or w (m + top) 0 ≡ 0 → ⊥) → member top handed ≡ true
      stop_on n = one_set (member top handed) (λ e. n (st.stop top top_lt ∙ e))

      -- where all that the top leads to is listed, listing it is the visit of it
      put_same : ((o : ℕ) → 0 < count o (goes ws m handed top) → 0 < count o vis) → goal ws m handed put (h - 1) (k + 1) ≡ goal ws m handed w h k
      put_same all =
          (λ i. over (visit_at (goes ws m handed)) (put_list i) (put_stack i))
          ∙ turn_done (goes ws m handed) below vis top under top_new all
          ∙ ap (over (visit_at (goes ws m handed)) vis) (sym split)

      none_led : goes ws m handed top ≡ [] → (o : ℕ) → 0 < count o (goes ws m handed top) → 0 < count o vis
      none_led e o c = absurd (omega (arith, subst (λ (l : List ℕ). 0 < count o l) e c))

      both_led : tag_of ws top ≡ 1 → member top handed ≡ false → 0 < count (first_of ws top) vis → 0 < count (second_of ws top) vis
          → (o : ℕ) → 0 < count o (goes ws m handed top) → 0 < count o vis
      both_led e f a b o c = at_head o (first_of ws top) (second_of ws top ∷ []) (subst (λ (l : List ℕ). 0 < count o l) (goes_gate ws m g.low handed top top_lt f e) c)
          (λ q. subst (λ (p : ℕ). 0 < count p vis) (sym q) a)
          (λ c'. at_head o (second_of ws top) [] c' (λ q. subst (λ (p : ℕ). 0 < count p vis) (sym q) b) (λ z. absurd (omega arith)))

      -- where the first that it leads to and that is not listed goes on the stack, the visits are the same
      push_same : (x : ℕ) (gr : Grows 0 vis m (x ∷ stack_of w (2 * m) h)) (bs os : List ℕ) → goes ws m handed top ≡ bs ++ (x ∷ os)
          → ((p : ℕ) → 0 < count p bs → 0 < count p vis) → goal ws m handed (set w (2 * m + h) x) (h + 1) k ≡ goal ws m handed w h k
      push_same x gr bs os e a =
          (λ i. over (visit_at (goes ws m handed)) (pushed_list x gr i) (pushed_stack x gr i))
          ∙ ap (λ (s : List ℕ). over (visit_at (goes ws m handed)) vis (x ∷ s)) split
          ∙ turn_ahead (goes ws m handed) below vis top under bs x os e top_new a
          ∙ ap (over (visit_at (goes ws m handed)) vis) (sym split)

    put_turn : ((handed : List ℕ) → Stops w m handed → (o : ℕ) → 0 < count o (goes ws m handed top) → 0 < count o vis) → Turned ws m w h k put (h - 1) (k + 1)
    unfolding left
    put_turn all =
        let kl = list_lt in
        record {
          going = put_going;
          kept = put-kept;
          same = λ handed st. put_same handed st (all handed st);
          less = lex (m - (k + 1)) (m - k) (suc m) (top_of (stack_of put (2 * m) (h - 1))) (top_of (stack_of w (2 * m) h)) (omega arith)
              (top_fits (stack_of put (2 * m) (h - 1)) (list_of put m (k + 1)) put_going.stack);
        }

    push_grows : (x : ℕ) → x < top → count x vis ≡ 0 → Grows 0 vis m (x ∷ stack_of w (2 * m) h)
    push_grows x l n = rw split (grows_push vis m x top under l n grown)

    push_turn : (x : ℕ) → x < top → (gr : Grows 0 vis m (x ∷ stack_of w (2 * m) h))
        → ((handed : List ℕ) → Stops w m handed → goal ws m handed (set w (2 * m + h) x) (h + 1) k ≡ goal ws m handed w h k)
        → Turned ws m w h k (set w (2 * m + h) x) (h + 1) k
    unfolding left top_of
    push_turn x l gr s = record {
      going = pushed x gr;
      kept = pushed-kept x gr;
      same = s;
      less = rw (pushed_stack x gr, split) (omega arith);
    }

    pub listing : {r : ℕ} → Next ws m w top r → r ≡ 0 → Turned ws m w h k put (h - 1) (k + 1)
    listing (source n z) e = put_turn (λ handed st. none_led handed st (goes_source ws m g.low handed top top_lt n))
    listing (stopped n z) e = put_turn (λ handed st. none_led handed st (goes_stop ws m g.low handed top (stop_on handed st n)))
    listing (done t na nb z) e =
        let tl = top_lt in
        let a = fit.first_less top tl t in
        let b = fit.second_less top tl t in
        put_turn (led tl t (mark_old (first_of ws top) (omega arith) na) (mark_old (second_of ws top) (omega arith) nb))
      where
        led : top < m → tag_of ws top ≡ 1 → 0 < count (first_of ws top) vis → 0 < count (second_of ws top) vis
            → (handed : List ℕ) → Stops w m handed → (o : ℕ) → 0 < count o (goes ws m handed top) → 0 < count o vis
        led tl t a b handed st = by_member (member top handed) refl
          where
            by_member : (y : Bool) → member top handed ≡ y → (o : ℕ) → 0 < count o (goes ws m handed top) → 0 < count o vis
            by_member true q = none_led handed st (goes_stop ws m g.low handed top q)
            by_member false q = both_led handed st t q a b
    listing (first t s zm z) e = absurd (omega (arith, fit.first_low top top_lt t))
    listing (second t s na zb z) e = absurd (omega (arith, fit.second_low top top_lt t))

    pub pushing : {r : ℕ} → Next ws m w top r → (r ≡ 0 → ⊥) → Turned ws m w h k (set w (2 * m + h) r) (h + 1) k
    pushing (source n z) ne = absurd (ne z)
    pushing (stopped n z) ne = absurd (ne z)
    pushing (done t na nb z) ne = absurd (ne z)
    pushing (first t s zm z) ne =
        let tl = top_lt in
        let a = fit.first_less top tl t in
        let gr = push_grows (first_of ws top) a (mark_new (first_of ws top) (omega arith) zm) in
        rw z (push_turn (first_of ws top) a gr
        (λ handed st. push_same handed st (first_of ws top) gr [] (second_of ws top ∷ []) (goes_gate ws m g.low handed top tl (stop_off handed st s) t)
        (λ p c. absurd (omega arith))))
    pushing (second t s na zb z) ne =
        let tl = top_lt in
        let a = fit.first_less top tl t in
        let b = fit.second_less top tl t in
        let gr = push_grows (second_of ws top) b (mark_new (second_of ws top) (omega arith) zb) in
        let old = mark_old (first_of ws top) (omega arith) na in
        rw z (push_turn (second_of ws top) b gr
        (λ handed st. push_same handed st (second_of ws top) gr (first_of ws top ∷ []) [] (goes_gate ws m g.low handed top tl (stop_off handed st s) t)
        (λ p c. at_head p (first_of ws top) [] c (λ q. subst (λ (x : ℕ). 0 < count x vis) (sym q) old) (λ c'. absurd (omega arith)))))

-- ---- the same, as the code has them: t is the word that was read at the top, and r what `next` answered of it
module _ (ws : List ℕ) (m : ℕ) (w : List ℕ) (h k t r : ℕ) (g : Going ws m w h k) (pos : 0 < h) (e : t ≡ get_or w (2 * m + h - 1) 0) where
  pub top_in : t < m
  top_in = omega (arith, top_lt ws m w h k g pos)

  pub operands_in : Operands ws m
  operands_in = operands_fit ws m g.low g.fits

  pub mark_at : t < length w
  mark_at = let l = top_in in omega arith

  pub list_at : 3 * m + k < length w
  list_at = omega (arith, list_lt ws m w h k g pos)

  pub turn_lists : Next ws m w t r → r ≡ 0 → Turned ws m w h k (set (set (set w t 1) (2 * m + h - 1) 0) (3 * m + k) t) (h - 1) (k + 1)
  turn_lists n z = rw e (listing ws m w h k g pos (rw e at n) z)

  pub turn_pushes : Next ws m w t r → (r ≡ 0 → ⊥) → Turned ws m w h k (set w (2 * m + h) r) (h + 1) k
  turn_pushes n z = pushing ws m w h k g pos (rw e at n) z

  pub push_at : Next ws m w t r → (r ≡ 0 → ⊥) → 2 * m + h < length w
  push_at n z = omega (arith, (turn_pushes n z).going.height)
