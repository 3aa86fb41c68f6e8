-- The state of the visits between turns, over any function that says where one goes.
use mathlib.Core.Path.{◌≡◌, refl, sym, ◌∙◌, ap, ap₂, subst}
use mathlib.Core.List.{List, [], ◌∷◌, ◌++◌, map}
use Prim.Native.Nat.{ℕ, ◌+◌, ◌-◌, ◌*◌, ◌/◌, ◌%◌, ◌<◌, ◌≤◌}
use native.Mathlib.Omega.{arith}
use lib.ListN.{length, get_or, set, length-set}
use lib.Seq.{get_or-set_same, get_or-set_other}
use borrow.Author.Tests.{eq-eqb, ne_eqb}
use Rattle.laws.specs.Lists.{count}
use Rattle.laws.specs.Words.{part, stack_of}
use Rattle.laws.specs.Search.{Event, enter, leave, entered, Chain}
use Rattle.laws.proofs.Tests.{one_eq, one_ne}
use Rattle.laws.proofs.Bags.{map-append}
use Rattle.laws.proofs.Words.{get_d_set, part-before, part-more}
use Rattle.laws.proofs.Events.{ins, outs, ins_append, outs_append, Apart, apart_enter, entered-length, entered_fits}
use Rattle.laws.proofs.Stacks.{stack_same, stack_push, stack_top, Open, open_push, open_pop, open_loop, open_once, open_apart, resume, resume_pop, resume_push}
use Rattle.orders.specs.State.{event_of, events_of, Going, Kept, goal, Turned}

-- ---- events in words
entered_word : (q : ℕ) → event_of (2 * q) ≡ enter q
entered_word q =
    let a : 2 * q % 2 ≡ 0 = omega arith in let b : 2 * q / 2 ≡ q = omega arith in
    rw (ne_eqb (2 * q % 2) 1 (λ e. absurd (omega (arith, a, e)))) (ap enter b)

left_word : (q : ℕ) → event_of (2 * q + 1) ≡ leave q
left_word q =
    let a : (2 * q + 1) % 2 ≡ 1 = omega arith in let b : (2 * q + 1) / 2 ≡ q = omega arith in
    rw (eq-eqb ((2 * q + 1) % 2) 1 a) (ap leave b)

events-more : (w : List ℕ) (a k v : ℕ) → a + k < length w → events_of (set w (a + k) v) a (k + 1) ≡ events_of w a k ++ (event_of v ∷ [])
unfolding events_of
events-more w a k v h = ap (map event_of) (part-more w a k v h) ∙ map-append event_of (part w a k) (v ∷ [])

events-before : (w : List ℕ) (a k i v : ℕ) → i < a → events_of (set w i v) a k ≡ events_of w a k
unfolding events_of
events-before w a k i v h = ap (map event_of) (part-before w a k i v h)

pub events-none : (w : List ℕ) (a : ℕ) → events_of w a 0 ≡ []
unfolding events_of part
events-none w a = refl

-- ---- the state
module _ (nx : ℕ → List ℕ) (m : ℕ) (w : List ℕ) (h k : ℕ) (g : Going nx m w h k) where
  abbrev out : List Event
  out = events_of w (2 * m) k

  abbrev stk : List ℕ
  stk = stack_of w m h

  pub apart : Apart m out
  apart = open_apart nx m stk out g.opened g.inside

  -- a place that was not entered goes on the stack
  module _ (x : ℕ) (l : x < m) (z : ins x out ≡ 0) where
    abbrev w₁ : List ℕ
    w₁ = set w x 1

    abbrev w₂ : List ℕ
    w₂ = set w₁ (m + h) x

    abbrev pushed : List ℕ
    pushed = set w₂ (2 * m + k) (2 * x)

    abbrev out' : List Event
    out' = out ++ (enter x ∷ [])

    pub below : length (entered out) < m
    below = omega (arith, entered_fits m out' (apart_enter m out x l z apart), entered-length out (enter x ∷ []))

    pub pushed_stack : stack_of pushed m (h + 1) ≡ x ∷ stk
    pushed_stack =
        let r = below in
        stack_push pushed m h
        ∙ ap₂ (λ (v : ℕ) (s : List ℕ). v ∷ s)
        (get_or-set_other w₂ (2 * m + k) (m + h) (2 * x) 0 (omega (arith, g.low, g.room)) ∙ get_or-set_same w₁ (m + h) x 0 (simp length-set (omega (arith, g.long, g.low))))
        (stack_same pushed w m h (λ j b. get_or-set_other w₂ (2 * m + k) (m + j) (2 * x) 0 (omega (arith, g.low))
        ∙ get_or-set_other w₁ (m + h) (m + j) x 0 (omega arith) ∙ get_or-set_other w x (m + j) 1 0 (omega arith)))

    pub pushed-events : events_of pushed (2 * m) (k + 1) ≡ out'
    pushed-events =
        let r = below in
        events-more w₂ (2 * m) k (2 * x) (simp length-set (omega (arith, g.long, g.room)))
        ∙ ap₂ (λ (s : List Event) (v : Event). s ++ (v ∷ []))
        (events-before w₁ (2 * m) k (m + h) x (omega (arith, g.low)) ∙ events-before w (2 * m) k x 1 (omega arith))
        (entered_word x)

    not_left : outs x out ≡ 0
    not_left = omega (arith, g.opened.balanced x, z)

    pushed-mark : (q : ℕ) → q < m → get_or pushed q 0 ≡ ins q out' + outs q out'
    pushed-mark q b =
        let r = below in
        get_or-set_other w₂ (2 * m + k) q (2 * x) 0 (omega arith) ∙ get_or-set_other w₁ (m + h) q x 0 (omega arith)
        ∙ get_d_set w x q 1 (λ (v : ℕ). v ≡ ins q out' + outs q out') (omega (arith, g.long))
        (λ e. omega (arith, ins_append q out (enter x ∷ []), outs_append q out (enter x ∷ []), one_eq q x e, ap (λ (y : ℕ). ins y out) e, ap (λ (y : ℕ). outs y out) e, z, not_left))
        (λ n. omega (arith, g.marks q b, ins_append q out (enter x ∷ []), outs_append q out (enter x ∷ []), one_ne q x n))

    pub going_pushed : Open nx (x ∷ stk) out' → Going nx m pushed (h + 1) (k + 1)
    going_pushed o =
        let r = below in
        let lx : length (entered (events_of pushed (2 * m) (k + 1))) ≡ length (entered out) + 1 =
        ap (λ (s : List Event). length (entered s)) pushed-events ∙ entered-length out (enter x ∷ []) in
        record {
          long = simp length-set g.long;
          small = g.small;
          room = omega (arith, lx, g.room);
          low = omega (arith, lx, g.low);
          most = omega (arith, lx);
          opened = rw (pushed_stack, pushed-events) o;
          inside = λ p i. (apart_enter m out x l z apart).1 p (subst (λ (s : List Event). 0 < ins p s) pushed-events i);
          marks = λ q b. rw pushed-events (pushed-mark q b);
        }

    pub kept-pushed : Kept m w pushed
    kept-pushed =
        let r = below in
        record {
          rest = λ j b. get_or-set_other w₂ (2 * m + k) j (2 * x) 0 (omega (arith, g.room, g.low))
              ∙ get_or-set_other w₁ (m + h) j x 0 (omega (arith, g.low)) ∙ get_or-set_other w x j 1 0 (omega arith);
        }

  -- ---- the top
  module _ (pos : 0 < h) where
    abbrev top : ℕ
    top = get_or w (m + h - 1) 0

    abbrev under : List ℕ
    under = stack_of w m (h - 1)

    pub split : stk ≡ top ∷ under
    split = stack_top w m h pos

    on_stack : 0 < count top stk
    on_stack = rw split (omega (arith, one_eq top top refl))

    pub open_top : Open nx (top ∷ under) out
    open_top = subst (λ (s : List ℕ). Open nx s out) split g.opened

    once : outs top out + count top stk ≤ 1
    once = open_once nx stk out g.opened top

    top_in : ins top out ≡ 1
    top_in = omega (arith, g.opened.balanced top, on_stack, once)

    top_out : outs top out ≡ 0
    top_out = omega (arith, on_stack, once)

    pub top_below_lem : top < m
    top_below_lem = g.inside top (omega (arith, top_in))

    abbrev v₁ : List ℕ
    v₁ = set w top 2

    abbrev popped : List ℕ
    popped = set v₁ (2 * m + k) (2 * top + 1)

    abbrev done : List Event
    done = out ++ (leave top ∷ [])

    popped_stack : stack_of popped m (h - 1) ≡ under
    popped_stack =
        let t = top_below_lem in
        stack_same popped w m (h - 1) (λ j b. get_or-set_other v₁ (2 * m + k) (m + j) (2 * top + 1) 0 (omega (arith, g.low, g.most)) ∙ get_or-set_other w top (m + j) 2 0 (omega arith))

    popped_events : events_of popped (2 * m) (k + 1) ≡ done
    popped_events =
        let t = top_below_lem in
        events-more v₁ (2 * m) k (2 * top + 1) (simp length-set (omega (arith, g.long, g.room, g.most)))
        ∙ ap₂ (λ (s : List Event) (v : Event). s ++ (v ∷ [])) (events-before w (2 * m) k top 2 (omega arith)) (left_word top)

    popped_mark : (q : ℕ) → q < m → get_or popped q 0 ≡ ins q done + outs q done
    popped_mark q b =
        let t = top_below_lem in
        get_or-set_other v₁ (2 * m + k) q (2 * top + 1) 0 (omega arith)
        ∙ get_d_set w top q 2 (λ (v : ℕ). v ≡ ins q done + outs q done) (omega (arith, g.long))
        (λ e. omega (arith, ins_append q out (leave top ∷ []), outs_append q out (leave top ∷ []), one_eq q top e, ap (λ (y : ℕ). ins y out) e, ap (λ (y : ℕ). outs y out) e, top_in, top_out))
        (λ n. omega (arith, g.marks q b, ins_append q out (leave top ∷ []), outs_append q out (leave top ∷ []), one_ne q top n))

    going_popped : Open nx under done → Going nx m popped (h - 1) (k + 1)
    going_popped o =
        let lx : length (entered (events_of popped (2 * m) (k + 1))) ≡ length (entered out) =
        ap (λ (s : List Event). length (entered s)) popped_events ∙ entered-length out (leave top ∷ []) ∙ omega arith in
        record {
          long = simp length-set g.long;
          small = g.small;
          room = omega (arith, lx, g.room);
          low = omega (arith, lx, g.low);
          most = omega (arith, lx, g.most);
          opened = rw (popped_stack, popped_events) o;
          inside = λ p i. g.inside p (omega (arith, ins_append p out (leave top ∷ []), subst (λ (s : List Event). 0 < ins p s) popped_events i));
          marks = λ q b. rw popped_events (popped_mark q b);
        }

    kept_popped : Kept m w popped
    kept_popped =
        let t = top_below_lem in
        record { rest = λ j b. get_or-set_other v₁ (2 * m + k) j (2 * top + 1) 0 (omega (arith, g.room, g.most)) ∙ get_or-set_other w top j 2 0 (omega arith) }

    whole : goal nx m w h k ≡ resume nx m (top ∷ under) out
    whole = ap (λ (s : List ℕ). resume nx m s out) split

    module _ (closed : (u o : ℕ) → u < m → 0 < count o (nx u) → o < m) where
      -- a mark says whether a place was entered
      mark_two : (o : ℕ) → o < m → 2 ≤ get_or w o 0 → (0 < ins o out) × (count o (top ∷ under) ≡ 0)
      mark_two o b t =
          let e = g.marks o b in let u = open_once nx (top ∷ under) out open_top o in let i = open_top.balanced o in
          (omega (arith, e, t, u, i), omega (arith, e, t, u, i))

      -- all places where the top goes were left
      pub pops : ((o : ℕ) → 0 < count o (nx top) → 2 ≤ get_or w o 0) → Turned nx m w h k popped (h - 1) (k + 1)
      pops f =
          let t = top_below_lem in
          let d : (o : ℕ) → 0 < count o (nx top) → (0 < ins o out) × (count o (top ∷ under) ≡ 0) = λ o i. mark_two o (closed top o t i) (f o i) in
          record {
            going = going_popped (open_pop nx top under out open_top d);
            same = ap₂ (resume nx m) popped_stack popped_events ∙ resume_pop nx m closed top under out (λ o i. (d o i).0) ∙ sym whole;
            kept = kept_popped;
            more = refl;
          }

      -- a place that is on the stack
      pub loop_met : (o : ℕ) → 0 < count o (nx top) → get_or w o 0 ≡ 1 → Chain nx o o
      loop_met o i e =
          let b = closed top o top_below_lem i in
          open_loop nx o top under out open_top i (omega (arith, g.marks o b, e, open_top.balanced o))

      -- a place that was not entered, behind places that were left
      pub pushes : (bs : List ℕ) (o : ℕ) (os : List ℕ) → nx top ≡ bs ++ (o ∷ os) → ((p : ℕ) → 0 < count p bs → (0 < count p (nx top)) × (2 ≤ get_or w p 0)) → 0 < count o (nx top) → get_or w o 0 ≡ 0
          → (lo : o < m) (z : ins o out ≡ 0) → Turned nx m w h k (pushed o lo z) (h + 1) (k + 1)
      pushes bs o os e f i v lo z =
          record {
            going = going_pushed o lo z (subst (λ (s : List ℕ). Open nx (o ∷ s) (out ++ (enter o ∷ []))) (sym split) (open_push nx o top under out open_top i z));
            same = ap₂ (resume nx m) (pushed_stack o lo z ∙ ap (λ (s : List ℕ). o ∷ s) split) (pushed-events o lo z)
                ∙ resume_push nx m closed top under out bs o os top_below_lem apart e (λ p c. (mark_two p (closed top p top_below_lem (f p c).0) (f p c).1).0) z ∙ sym whole;
            kept = kept-pushed o lo z;
            more = refl;
          }
