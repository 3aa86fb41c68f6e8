-- A split of a graph that was checked: its refusals, and what it leaves in the tables.
use Rattle.std.specs.Prelude.{Some, Result, Ok, Err, ◌⊎◌}
use mathlib.Core.Path.{◌≡◌, sym, ap, subst, ◌∙◌}
use mathlib.Core.Logic.{inl, inr}
use mathlib.Core.Bool.{Bool, true, false, ◌&&◌}
use mathlib.Core.List.{List, ◌++◌}
use Prim.Native.Nat.{ℕ, suc, ◌+◌, ◌*◌, ◌<◌, ◌≤◌}
use native.Mathlib.Omega.{arith}
use lib.ListN.{length, get_or}
use borrow.Author.Tests.{le-leb, lt-leb, lt-ltb, ltb-true, le-ltb}
use Rattle.laws.specs.Tests.{◌<?◌, ◌≤?◌, refuse}
use Rattle.laws.specs.Lists.{count}
use Rattle.laws.specs.Words.{part, zeros, filled, ZeroFrom}
use Rattle.laws.proofs.Tests.{true≢false, and_l, and_r, and-false}
use Rattle.laws.proofs.Bags.{every_true}
use Rattle.laws.proofs.Words.{part_none, part_filled, zero_from_zeros}
use Rattle.rules.specs.declared.GraphCounts.{GraphCounts}
use Rattle.rules.specs.declared.Refusal.TheVariants.{Index, NothingRead, Room as NoRoom}
use Rattle.rules.specs.Tables.{graph_in, held}
use Rattle.rules.specs.Stages.{Stage, split}
use Rattle.rules.specs.Refusals.{below, no_repeat, something_read}
use Rattle.rules.specs.Answers.{endpoints, stage_fits, refusals, answer_of, stage_size}
use Rattle.graphs.specs.Parts.{lent as words_of}
use Rattle.levels.specs.State.{stops_of}
use Rattle.picks.specs.Tables.{Open, Pushed}
use Rattle.splits.specs.declared.Spot.{Spot}
use Rattle.splits.specs.declared.Piece.{Piece}
use Rattle.splits.specs.declared.Narrow.{Narrow}
use Rattle.splits.specs.State.{split_in, order_in, Idle, Cut, Uncut, CutOff}
use Rattle.asked.specs.Answer.{Room, sets, Laid, Begun, begun, no_sets, Parts, late_number, Parted1}
use Rattle.asked.proofs.Graphs.{stops_members, split_is, nothing_read}

-- a table that was 0 and has these words now is filled by them
pub filled_by : (t ws t' : List ℕ) (n : ℕ) → Pushed t 0 ws t' n → t' ≡ filled ws (length t)
filled_by t ws t' n p = part_filled t' n p.inside p.ready.zero
    ∙ (λ i. filled ((p.words ∙ ap (λ (x : List ℕ). x ++ ws) (part_none t 0)) i) (p.long i))

pub open_zero : (t : List ℕ) → t ≡ zeros (length t) → Open t 0
open_zero t z = record { inside = omega arith; zero = subst (λ (x : List ℕ). ZeroFrom x 0) (sym z) (zero_from_zeros (length t) 0) }

-- how many pins are listed, whether or not there was room
abbrev pub listed_by : Result Piece Narrow → ℕ
listed_by (Ok p) = p.listed
listed_by (Err e) = e.listed

module _ (c : GraphCounts) (ws os ds rs chosen before : List ℕ) (level : ℕ) (h t w : List ℕ) (P : Parts c ws os ds rs h t w) where
  abbrev S : Stage
  S = split (graph_in c (words_of ws os ds rs)) chosen before (Some level)

  abbrev number : ℕ
  number = late_number c (words_of ws os ds rs) chosen before level (length h) (length t)

  pub part_room : (ends : ℕ) → ends ≡ endpoints c → Room w (c.pins + 1) ends
  part_room ends e = record {
    zero = P.work_zero;
    long = omega (arith, P.sound.long);
    few = omega (arith, P.sound.few);
    ends_few = omega (arith, P.sound.ends_few);
  }

  refused_by : (k : ℕ) → late_number c (words_of ws os ds rs) chosen before level (length h) (length t) ≡ suc k → (h' t' : List ℕ) → h' ≡ zeros (length h) → t' ≡ zeros (length t)
      → Parted1 c ws os ds rs chosen before level h t h' t' (Err (get_or refusals k Index))
  refused_by k e h' t' eh et = record {
    answer = sym (ap (λ (x : ℕ). answer_of x (stage_size S)) e);
    handed = eh ∙ sym (ap (λ (x : ℕ). held x S.handed (length h)) e);
    taken = et ∙ sym (ap (λ (x : ℕ). held x S.taken (length t)) e);
  }

  module _ (ends : ℕ) (ee : ends ≡ endpoints c) (w₁ : List ℕ) (ok : Bool) (b : Begun chosen before (c.pins + 1) ends w w₁ ok) where
    SetsAre : Bool → Type 0
    SetsAre x = sets chosen before (c.pins + 1) (endpoints c) ≡ x

    is_no : Begun chosen before (c.pins + 1) ends w w₁ ok → ok ≡ false → sets chosen before (c.pins + 1) (endpoints c) ≡ false
    is_no (begun a s l e) f = true≢false ok e f
    is_no (no_sets s l e) f = subst (λ (x : ℕ). sets chosen before (c.pins + 1) x ≡ false) ee s

    pub part_15 : ok ≡ false → Parted1 c ws os ds rs chosen before level h t h t (Err Index)
    unfolding late_number
    part_15 f = refused_by 14 (rw (is_no b f)) h t P.handed_zero P.taken_zero

    module _ (v : ok ≡ true) where
      is_yes : Begun chosen before (c.pins + 1) ends w w₁ ok → (Laid chosen before (c.pins + 1) (endpoints c) w₁) × (sets chosen before (c.pins + 1) (endpoints c) ≡ true) × (length w₁ ≡ length w)
      is_yes (begun a s l e) = (subst (λ (x : ℕ). Laid chosen before (c.pins + 1) x w₁) ee a, subst (λ (x : ℕ). sets chosen before (c.pins + 1) x ≡ true) ee s, l)
      is_yes (no_sets s l e) = true≢false ok v e

      laid : Laid chosen before (c.pins + 1) (endpoints c) w₁
      laid = (is_yes b).0

      pub part_idle : Idle ws (c.pins + 1) (endpoints c) w₁ (length chosen)
      part_idle = record {
        low = omega arith;
        few = omega (arith, P.sound.few);
        fits = P.sound.fits;
        drivers_long = P.sound.drivers_long;
        flags = laid.flags;
        marks = laid.marks;
        middle = laid.middle;
        lefts = laid.lefts;
      }

      before_in : (p : ℕ) → 0 < count p before → p < c.pins + 1
      before_in p m = ltb-true p (c.pins + 1) (every_true (λ i. i <? c.pins + 1) p before
          (and_l (below (c.pins + 1) before) (no_repeat before) (and_r (below (endpoints c) chosen && no_repeat chosen) (below (c.pins + 1) before && no_repeat before) (is_yes b).1)) m)

      abbrev at : Spot
      at = record { m = c.pins + 1; d = level; left = length chosen; handed = 0; taken = 0 }

      stage_is : split_in c ws os ds rs (c.pins + 1) (part w₁ (8 * (c.pins + 1)) (length chosen)) (stops_of w₁ (c.pins + 1)) level ≡ S
      stage_is = ap (λ (l : List ℕ). split_in c ws os ds rs (c.pins + 1) l (stops_of w₁ (c.pins + 1)) level) laid.left
          ∙ split_is c ws os ds rs chosen (stops_of w₁ (c.pins + 1)) before level (stops_members w₁ (c.pins + 1) before laid.stops before_in laid.flags)

      read_is : (0 <? length (order_in c ws os ds rs (c.pins + 1) (part w₁ (8 * (c.pins + 1)) (length chosen)) (stops_of w₁ (c.pins + 1)))) ≡ something_read (graph_in c (words_of ws os ds rs)) chosen
      read_is = ap (λ (l : List ℕ). 0 <? length (order_in c ws os ds rs (c.pins + 1) l (stops_of w₁ (c.pins + 1)))) laid.left
          ∙ nothing_read c ws os ds rs chosen (stops_of w₁ (c.pins + 1))

      late_14 : something_read (graph_in c (words_of ws os ds rs)) chosen ≡ false → late_number c (words_of ws os ds rs) chosen before level (length h) (length t) ≡ 14
      unfolding late_number
      late_14 f = rw ((is_yes b).1, f)

      -- where something is read only the room is left to test
      late_last : 0 < length (order_in c ws os ds rs (c.pins + 1) (part w₁ (8 * (c.pins + 1)) (length chosen)) (stops_of w₁ (c.pins + 1)))
          → late_number c (words_of ws os ds rs) chosen before level (length h) (length t) ≡ refuse 11 (stage_fits S (length h) (length t))
      unfolding late_number
      late_last n =
          let y : something_read (graph_in c (words_of ws os ds rs)) chosen ≡ true
          = sym read_is ∙ lt-ltb 0 (length (order_in c ws os ds rs (c.pins + 1) (part w₁ (8 * (c.pins + 1)) (length chosen)) (stops_of w₁ (c.pins + 1)))) n in
          rw ((is_yes b).1, y)

      module _ (w₂ h₂ t₂ : List ℕ) where
        told : (r : Result Piece Narrow) → CutOff c ws os ds rs at w₁ h t w₂ h₂ t₂ r → listed_by r ≡ length (order_in c ws os ds rs (c.pins + 1) (part w₁ (8 * (c.pins + 1)) (length chosen)) (stops_of w₁ (c.pins + 1)))
        told (Ok p) q = q.listed
        told (Err e) u = u.listed

        kept : (r : Result Piece Narrow) → CutOff c ws os ds rs at w₁ h t w₂ h₂ t₂ r → (length h₂ ≡ length h) × (length t₂ ≡ length t)
        kept (Ok p) q = (q.handed.long, q.taken.long)
        kept (Err e) u = (u.handed_long, u.taken_long)

        -- nothing is read, whether or not there is room
        pub part_nothing : (r : Result Piece Narrow) → CutOff c ws os ds rs at w₁ h t w₂ h₂ t₂ r → (n : ℕ) → n ≡ listed_by r → n ≡ 0
            → (h₃ t₃ : List ℕ) → h₃ ≡ zeros (length h₂) → t₃ ≡ zeros (length t₂) → Parted1 c ws os ds rs chosen before level h t h₃ t₃ (Err NothingRead)
        part_nothing r q n e z h₃ t₃ eh et = refused_by 13
            (late_14 (sym read_is ∙ le-ltb 0 (length (order_in c ws os ds rs (c.pins + 1) (part w₁ (8 * (c.pins + 1)) (length chosen)) (stops_of w₁ (c.pins + 1)))) (omega (arith, z, e, told r q))))
            h₃ t₃ (eh ∙ ap zeros (kept r q).0) (et ∙ ap zeros (kept r q).1)

        pub part_narrow : (e : Narrow) → Uncut c ws os ds rs at w₁ h t w₂ h₂ t₂ e → (n : ℕ) → n ≡ e.listed → (n ≡ 0 → ⊥)
            → (h₃ t₃ : List ℕ) → h₃ ≡ zeros (length h₂) → t₃ ≡ zeros (length t₂) → Parted1 c ws os ds rs chosen before level h t h₃ t₃ (Err NoRoom)
        part_narrow e u n en nz h₃ t₃ eh et = refused_by 10 (late_last (omega (arith, nz, en, u.listed)) ∙ by_room u.narrow)
            h₃ t₃ (eh ∙ ap zeros u.handed_long) (et ∙ ap zeros u.taken_long)
          where
            by_room : (length h < 0 + length (split_in c ws os ds rs (c.pins + 1) (part w₁ (8 * (c.pins + 1)) (length chosen)) (stops_of w₁ (c.pins + 1)) level).handed)
                ⊎ (length t < 0 + length (split_in c ws os ds rs (c.pins + 1) (part w₁ (8 * (c.pins + 1)) (length chosen)) (stops_of w₁ (c.pins + 1)) level).taken)
                → refuse 11 (stage_fits S (length h) (length t)) ≡ 11
            by_room (inl a) =
                let k : length h < length S.handed = subst (λ (s : Stage). length h < length s.handed) stage_is (omega (arith, a)) in
                rw (lt-leb (length S.handed) (length h) k)
            by_room (inr a) =
                let k : length t < length S.taken = subst (λ (s : Stage). length t < length s.taken) stage_is (omega (arith, a)) in
                rw (lt-leb (length S.taken) (length t) k, and-false (length S.handed ≤? length h))

        module _ (p : Piece) (q : Cut c ws os ds rs at w₁ h t w₂ h₂ t₂ p) where
          ph : Pushed h 0 S.handed h₂ p.handed
          ph = subst (λ (x : Stage). Pushed h 0 x.handed h₂ p.handed) stage_is q.handed

          pt : Pushed t 0 S.taken t₂ p.taken
          pt = subst (λ (x : Stage). Pushed t 0 x.taken t₂ p.taken) stage_is q.taken

          pub part_handed : p.handed ≤ 16777215
          part_handed = omega (arith, ph.inside, ph.long, P.handed_few)

          pub part_taken : p.taken ≤ 16777215
          part_taken = omega (arith, pt.inside, pt.long, P.taken_few)

          pub part_made : (n : ℕ) → n ≡ p.listed → (n ≡ 0 → ⊥) → Parted1 c ws os ds rs chosen before level h t h₂ t₂ (Ok (record { handed = p.handed; taken = p.taken }))
          part_made n en nz =
              let lh : length S.handed ≤ length h = omega (arith, ph.count, ph.inside, ph.long) in
              let lt : length S.taken ≤ length t = omega (arith, pt.count, pt.inside, pt.long) in
              let e : late_number c (words_of ws os ds rs) chosen before level (length h) (length t) ≡ 0
              = late_last (omega (arith, nz, en, q.listed)) ∙ rw (le-leb (length S.handed) (length h) lh, le-leb (length S.taken) (length t) lt) in
              let nh : p.handed ≡ length S.handed = omega (arith, ph.count) in
              let nt : p.taken ≡ length S.taken = omega (arith, pt.count) in
              record {
                answer = (λ i. Ok (record { handed = nh i; taken = nt i })) ∙ sym (ap (λ (x : ℕ). answer_of x (stage_size S)) e);
                handed = filled_by h S.handed h₂ p.handed ph ∙ sym (ap (λ (x : ℕ). held x S.handed (length h)) e);
                taken = filled_by t S.taken t₂ p.taken pt ∙ sym (ap (λ (x : ℕ). held x S.taken (length t)) e);
              }
