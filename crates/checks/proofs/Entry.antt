-- 1 and 2 before the others, and the calls on any tables, in the code's shape.
use mathlib.Core.Path.{◌≡◌, refl, sym, ◌∙◌, ap}
use mathlib.Core.Bool.{Bool, true, false, ◌&&◌}
use mathlib.Core.List.{List}
use Prim.Native.Nat.{ℕ, zero, suc, ◌+◌, ◌*◌, ◌<◌, ◌≤◌}
use native.Mathlib.Omega.{arith}
use lib.ListN.{length}
use borrow.Author.Tests.{eqb-true, leb-true, lt-leb, le-leb}
use Rattle.std.specs.Prelude.{Result, Ok, Err, ◌==◌}
use Rattle.laws.specs.Tests.{◌≤?◌, or_else, refuse}
use Rattle.laws.specs.Words.{zeros}
use Rattle.laws.proofs.Tests.{and_l, and_r, not_refused, last_refused, next-refused}
use Rattle.rules.specs.declared.NetlistCounts.{NetlistCounts}
use Rattle.rules.specs.declared.Refusal.{Refusal}
use Rattle.rules.specs.declared.Refusal.TheVariants.{Bounds, Lengths, Marker}
use Rattle.rules.specs.Refusals.{check_number, mark_free}
use Rattle.rules.specs.Netlist.{Netlist}
use Rattle.rules.specs.Bounds.{netlist_within}
use Rattle.rules.specs.Answers.{done_of, netlist_long, check_netlist_number, check_all_number}
use Rattle.netlist.specs.Tables.{long_by}
use Rattle.netlist.proofs.Whole.{now_long}
use Rattle.roles.specs.Reading.{tables}
use Rattle.clocks.proofs.Numbering.{done_zero, done_first}
use Rattle.checks.specs.Ready.{sizes_number, Asked, Checked, Tested}

-- ---- 1 and 2
module _ (c : NetlistCounts) (kinds starts list pins nets work : ℕ) (within : Bool) (ew : within ≡ netlist_within c) where
  pub sizes_1 : within ≡ false → Err Bounds ≡ done_of (sizes_number c kinds starts list pins nets work)
  unfolding sizes_number
  sizes_1 f = rw (sym ew ∙ f)

  module _ (tw : within ≡ true) (long : Bool) (el : long ≡ long_by c kinds starts list pins nets) where
    pub sizes_2 : long ≡ false → Err Lengths ≡ done_of (sizes_number c kinds starts list pins nets work)
    unfolding sizes_number
    sizes_2 f = rw (sym ew ∙ tw, sym el ∙ f)

    module _ (tl : long ≡ true) where
      pub sizes_room : work < 8 * c.pins + 1024 → Err Lengths ≡ done_of (sizes_number c kinds starts list pins nets work)
      unfolding sizes_number
      sizes_room l = rw (sym ew ∙ tw, sym el ∙ tl, lt-leb (8 * c.pins + 1024) work l)

      pub sizes_pass : 8 * c.pins + 1024 ≤ work → Ok tt ≡ done_of (sizes_number c kinds starts list pins nets work)
      unfolding sizes_number
      sizes_pass l = rw (sym ew ∙ tw, sym el ∙ tl, le-leb (8 * c.pins + 1024) work l)

-- tables that 1 and 2 let pass
module _ (c : NetlistCounts) (kinds starts list pins nets work : List ℕ)
    (e : Ok tt ≡ done_of (sizes_number c (length kinds) (length starts) (length list) (length pins) (length nets) (length work))) where
  abbrev within : Bool
  within = netlist_within c

  abbrev long : Bool
  long = long_by c (length kinds) (length starts) (length list) (length pins) (length nets)

  abbrev enough : Bool
  enough = 8 * c.pins + 1024 ≤? length work

  told : (within ≡ true) × (refuse 2 (long && enough) ≡ 0)
  unfolding sizes_number
  told = not_refused 0 within (refuse 2 (long && enough)) (done_zero (sizes_number c (length kinds) (length starts) (length list) (length pins) (length nets) (length work)) e)

  both_told : (long && enough) ≡ true
  both_told = last_refused 1 (long && enough) told.1

  room_told : 8 * c.pins + 1024 ≤ length work
  room_told = leb-true (8 * c.pins + 1024) (length work) (and_r long enough both_told)

  list_told : length list ≡ c.pins
  unfolding long_by
  list_told =
      let A : Bool = (length kinds == c.cells) && (length starts == c.cells + 1) in
      let C : Bool = length list == c.pins in
      let D : Bool = length pins == 5 * c.pins in
      let E : Bool = length nets == c.nets in
      eqb-true (length list) c.pins (and_r A C (and_l (A && C) D (and_l (A && C && D) E (and_l long enough both_told))))

  pins_told_lem : c.pins ≤ 1048576
  pins_told_lem =
      let A : Bool = (1 ≤? c.cells) && (c.cells ≤? 1048576) in
      let B : Bool = c.pins ≤? 1048576 in
      leb-true c.pins 1048576 (and_r A B (and_l (A && B) (c.nets ≤? 1048576) told.0))

  pub now_asked : work ≡ zeros (length work) → Asked kinds starts list pins work
  now_asked q = record {
    tables_long = now_long c kinds starts list pins work (length nets) long refl (and_l long enough both_told) room_told q;
    small = omega (arith, pins_told_lem, list_told);
    room = omega (arith, room_told, list_told);
  }

-- ---- then the rest
after_first : (a b x : ℕ) → or_else (or_else a b) x ≡ or_else a (or_else b x)
after_first zero b x = refl
after_first (suc k) b x = refl

module _ (c : NetlistCounts) (kinds starts list pins nets : List ℕ) (work : ℕ) where
  abbrev n : Netlist
  n = tables kinds starts list pins nets

  abbrev sizes : ℕ
  sizes = sizes_number c (length kinds) (length starts) (length list) (length pins) (length nets) work

  to_nine : or_else sizes (check_number n) ≡ check_netlist_number c n work
  unfolding sizes_number long_by check_netlist_number
  to_nine = after_first (refuse 1 (netlist_within c)) (refuse 2 (netlist_long c n && (8 * c.pins + 1024 ≤? work))) (check_number n)

  to_ten : or_else (check_netlist_number c n work) (refuse 10 (mark_free n)) ≡ check_all_number c n work
  unfolding check_netlist_number check_all_number
  to_ten = after_first (refuse 1 (netlist_within c)) (or_else (refuse 2 (netlist_long c n && (8 * c.pins + 1024 ≤? work))) (check_number n)) (refuse 10 (mark_free n))
      ∙ ap (or_else (refuse 1 (netlist_within c))) (after_first (refuse 2 (netlist_long c n && (8 * c.pins + 1024 ≤? work))) (check_number n) (refuse 10 (mark_free n)))

  pub nine_fails : (x : Refusal)
      → Err x ≡ done_of (sizes_number c (length kinds) (length starts) (length list) (length pins) (length nets) work)
      → Err x ≡ done_of (check_netlist_number c (tables kinds starts list pins nets) work)
  nine_fails x e = done_first sizes (check_number n) x e ∙ ap done_of to_nine

  pub nine_told : Ok tt ≡ done_of (sizes_number c (length kinds) (length starts) (length list) (length pins) (length nets) work)
      → (w : List ℕ) (r : Result (Unit {0}) Refusal) → Checked (tables kinds starts list pins nets) w r → r ≡ done_of (check_netlist_number c (tables kinds starts list pins nets) work)
  nine_told e w r k = number r k ∙ ap done_of (sym (next-refused sizes (check_number n) (done_zero sizes e)) ∙ to_nine)
    where
      number : (r : Result (Unit {0}) Refusal) → Checked n w r → r ≡ done_of (check_number n)
      number (Ok u) k = sym (ap done_of k.number)
      number (Err x) k = k

  pub ten_fails : (x : Refusal) → Err x ≡ done_of (check_netlist_number c (tables kinds starts list pins nets) work) → Err x ≡ done_of (check_all_number c (tables kinds starts list pins nets) work)
  ten_fails x e = done_first (check_netlist_number c n work) (refuse 10 (mark_free n)) x e ∙ ap done_of to_ten

  module _ (e : Ok tt ≡ done_of (check_netlist_number c (tables kinds starts list pins nets) work)) (w w' : List ℕ) (b : Bool) (t : Tested (tables kinds starts list pins nets) w w' b) where
    last : refuse 10 b ≡ check_all_number c n work
    last = ap (refuse 10) t.answer ∙ sym (next-refused (check_netlist_number c n work) (refuse 10 (mark_free n)) (done_zero (check_netlist_number c n work) e)) ∙ to_ten

    pub ten_marked : b ≡ false → Err Marker ≡ done_of (check_all_number c (tables kinds starts list pins nets) work)
    ten_marked f = ap done_of (sym (ap (refuse 10) f) ∙ last)

    pub ten_passes : b ≡ true → Ok tt ≡ done_of (check_all_number c (tables kinds starts list pins nets) work)
    ten_passes p = ap done_of (sym (ap (refuse 10) p) ∙ last)
