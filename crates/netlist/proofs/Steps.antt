-- Test 5, in the code's shape.
use mathlib.Core.Path.{◌≡◌, refl, sym, ◌∙◌, ap}
use mathlib.Core.Bool.{Bool, true, false, ◌&&◌}
use mathlib.Core.List.{List, [], ◌∷◌}
use Prim.Native.Nat.{ℕ, ◌+◌, ◌*◌, ◌<◌, ◌≤◌}
use native.Mathlib.Omega.{arith}
use lib.ListN.{length, get_or}
use Rattle.laws.specs.Lists.{every, upto}
use Rattle.laws.proofs.Tests.{true≢false, and_l, and_r, and-false}
use Rattle.laws.proofs.Ranges.{of_upto}
use Rattle.rules.specs.Netlist.{has_must}
use Rattle.rules.specs.Refusals.{below, no_repeat}
use Rattle.marks.specs.Marking.{Clear, MarkedAll, a_set, no_set}
use Rattle.pins.specs.Words.{ranged, slotted}
use Rattle.pins.proofs.Steps.{ranged_cell}
use Rattle.lists.specs.Parts.{laid, Starts, fitting, musts}
use Rattle.lists.proofs.Steps.{starts_are}
use Rattle.repeats.specs.Alike.{Sorted, Looked}
use Rattle.netlist.specs.Tables.{without_nets, once, lists_right, Listed, ListsTested, alone, pins_right, Long}
use Rattle.netlist.proofs.Once.{set-once, listed_facts}
use Rattle.netlist.proofs.Apart.{sorted, looked_alone}

-- ---- tests joined
every_and : (f g : ℕ → Bool) (l : List ℕ) → every (λ x. f x && g x) l ≡ (every f l && every g l)
every_and f g [] = refl
every_and f g (x ∷ l) = rw (every_and f g l) (four (f x) (g x) (every f l) (every g l))
  where
    four : (a b c d : Bool) → (a && b && (c && d)) ≡ (a && c && (b && d))
    four true true c d = refl
    four true false true d = refl
    four true false false d = refl
    four false b c d = refl

pub and_assoc : (a b c : Bool) → (a && b && c) ≡ (a && (b && c))
and_assoc true b c = refl
and_assoc false b c = refl

-- ---- 5, the second rule
clear_at : (w : List ℕ) (limit : ℕ) → Clear w 0 limit → (p : ℕ) → p < limit → get_or w p 0 ≡ 0
clear_at w limit r p l = let e : p ≡ 0 + p = omega arith in ap (λ (x : ℕ). get_or w x 0) e ∙ r.none p l

pub clear_first : (w : List ℕ) (size : ℕ) → Clear w 0 (size + 544) → Clear w 0 size
clear_first w size r = record { long = omega (arith, r.long); none = λ p l. r.none p (omega arith) }

pub now_starts : (starts : List ℕ) (cells size : ℕ) (first : Bool) → cells < length starts → first ≡ laid starts cells size → first ≡ true → Starts starts cells size
now_starts starts cells size first l e t = starts_are starts cells size l (sym e ∙ t)

module _ (starts : List ℕ) (cells : ℕ) (list pins : List ℕ) (nets : ℕ) where
  -- with the two tests on a pin apart
  in_parts : lists_right starts cells list pins nets
      ≡ (laid starts cells (length list) && (every (ranged pins cells nets) (upto (length list)) && every (once starts list pins) (upto (length list)))
      && every (fitting starts list pins) (upto cells))
  unfolding lists_right fitting
  in_parts = ap (λ (b : Bool). laid starts cells (length list) && b && every (fitting starts list pins) (upto cells))
      (every_and (ranged pins cells nets) (once starts list pins) (upto (length list)))

  refused : (w' : List ℕ) → lists_right starts cells list pins nets ≡ false → ListsTested starts cells list pins nets w' false
  refused w' e = record { answer = sym e; clear = λ t. true≢false false t refl }

  module _ (w' : List ℕ) (first : Bool) (ef : first ≡ laid starts cells (length list)) where
    pub starts_fail : first ≡ false → ListsTested starts cells list pins nets w' false
    starts_fail f = refused w' (in_parts ∙ rw (sym ef ∙ f))

    module _ (tf : first ≡ true) (second : Bool) (es : second ≡ every (ranged pins cells nets) (upto (length list))) where
      pub ranges_fail : second ≡ false → ListsTested starts cells list pins nets w' false
      ranges_fail f = refused w' (in_parts ∙ rw (sym ef ∙ tf, sym es ∙ f))

      module _ (ts : second ≡ true) (third : Bool) (et : third ≡ every (fitting starts list pins) (upto cells)) where
        pub lists_fail : third ≡ false → ListsTested starts cells list pins nets w' false
        lists_fail f = refused w' (in_parts ∙ rw (sym et ∙ f)
            (and-false (laid starts cells (length list) && (every (ranged pins cells nets) (upto (length list)) && every (once starts list pins) (upto (length list))))))

        module _ (tt' : third ≡ true) (long : cells < length starts) (w : List ℕ) (room : Clear w 0 (length list + 544)) where
          once_is : (below (length list) list && no_repeat list) ≡ every (once starts list pins) (upto (length list))
          once_is = set-once starts list pins cells (starts_are starts cells (length list) long (sym ef ∙ tf)) (sym et ∙ tt')
              (λ p l. ranged_cell pins cells nets p (of_upto (ranged pins cells nets) (length list) p (sym es ∙ ts) l))

          told : (below (length list) list && no_repeat list) ≡ lists_right starts cells list pins nets
          told = once_is ∙ sym (in_parts ∙ rw (sym ef ∙ tf, sym es ∙ ts, sym et ∙ tt') (and_last (every (once starts list pins) (upto (length list)))))
            where
              and_last : (b : Bool) → (b && true) ≡ b
              and_last true = refl
              and_last false = refl

          pub lists_told : (r : Bool) → MarkedAll list w 0 (length list) w' r → ListsTested starts cells list pins nets w' r
          lists_told r (a_set m e q) = record {
            answer = q ∙ sym e ∙ told;
            clear = λ t. record {
              long = omega (arith, m.same_length, room.long);
              none = λ p l. m.after (length list + p) (omega arith) ∙ clear_at w (length list + 544) room (length list + p) (omega arith);
            };
          }
          lists_told r (no_set e n q) = record { answer = q ∙ sym e ∙ told; clear = λ t. true≢false r t q }

-- where it passes, the lists are as the rule says
pub listed : (starts : List ℕ) (cells : ℕ) (list pins : List ℕ) (nets : ℕ) → cells < length starts → 5 * length list ≤ length pins
    → lists_right starts cells list pins nets ≡ true → Listed starts list pins cells
listed starts cells list pins nets ls lp t =
    let A : Bool = laid starts cells (length list) in
    let B : Bool = every (ranged pins cells nets) (upto (length list)) in
    let C : Bool = every (once starts list pins) (upto (length list)) in
    let D : Bool = every (fitting starts list pins) (upto cells) in
    let e : (A && (B && C) && D) ≡ true = sym (in_parts starts cells list pins nets) ∙ t in
    let ab : (A && (B && C)) ≡ true = and_l (A && (B && C)) D e in
    let bc : (B && C) ≡ true = and_r A (B && C) ab in
    listed_facts starts list pins cells (starts_are starts cells (length list) ls (and_l A (B && C) ab)) (and_r (A && (B && C)) D e)
    (λ p l. ranged_cell pins cells nets p (of_upto (ranged pins cells nets) (length list) p (and_l B C bc) l)) lp (and_r B C bc)

-- ---- 5, the fourth rule
module _ (kinds starts list pins : List ℕ) (first : Bool) (ef : first ≡ every (slotted kinds pins) (upto (length list))) where
  allowed_parts : pins_right kinds starts list pins
      ≡ (every (slotted kinds pins) (upto (length list)) && every (alone (without_nets kinds starts list pins)) (upto (length list))
      && every (musts kinds starts list pins) (upto (length kinds)))
  unfolding pins_right musts
  allowed_parts = ap (λ (b : Bool). b && every (has_must (without_nets kinds starts list pins)) (upto (length kinds)))
      (every_and (slotted kinds pins) (alone (without_nets kinds starts list pins)) (upto (length list)))

  pub slots_fail : first ≡ false → false ≡ pins_right kinds starts list pins
  slots_fail f = sym (allowed_parts ∙ rw (sym ef ∙ f))

  module _ (tf : first ≡ true) (l : Listed starts list pins (length kinds)) where
    pub now_sorted : Sorted list pins
    now_sorted = sorted kinds starts list pins (length kinds) l (sym ef ∙ tf)

    module _ (second : Bool) (k : Looked list pins second) where
      alone_is : second ≡ every (alone (without_nets kinds starts list pins)) (upto (length list))
      alone_is = looked_alone kinds starts list pins (length kinds) l (sym ef ∙ tf) second k

      pub twice_fails : second ≡ false → false ≡ pins_right kinds starts list pins
      twice_fails f = sym (allowed_parts ∙ rw (sym ef ∙ tf, sym alone_is ∙ f))

      pub musts_tell : second ≡ true → (r : Bool) → r ≡ every (musts kinds starts list pins) (upto (length kinds)) → r ≡ pins_right kinds starts list pins
      musts_tell ts r e = e ∙ sym (allowed_parts ∙ rw (sym ef ∙ tf, sym alone_is ∙ ts))

-- ---- 5
pub now_listed : (kinds starts list pins work : List ℕ) → Long kinds starts list pins work → (nets : ℕ) (w' : List ℕ) (first : Bool)
    → ListsTested starts (length kinds) list pins nets w' first → first ≡ true → Listed starts list pins (length kinds)
now_listed kinds starts list pins work g nets w' first e t =
    listed starts (length kinds) list pins nets (omega (arith, g.starts_long)) (omega (arith, g.pins_long)) (sym e.answer ∙ t)
