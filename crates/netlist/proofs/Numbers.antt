-- What 3 and 5 say where they let pass.
use mathlib.Core.Path.{◌≡◌, sym, ◌∙◌}
use mathlib.Core.Bool.{Bool, true, ◌&&◌}
use mathlib.Core.List.{List}
use Prim.Native.Nat.{ℕ}
use native.Mathlib.Omega.{arith}
use lib.ListN.{length, get_or}
use borrow.Author.Tests.{ltb-true, leb-true}
use Rattle.std.specs.Prelude.{◌==◌}
use Rattle.laws.specs.Tests.{◌<?◌, ◌≤?◌, same}
use Rattle.laws.specs.Lists.{every, upto}
use Rattle.laws.proofs.Tests.{and_l, and_r}
use Rattle.laws.proofs.Ranges.{of_upto}
use Rattle.rules.specs.Netlist.{kinds_fit, pins_fit}
use Rattle.pins.specs.Words.{pin_at, ranged}
use Rattle.lists.specs.Parts.{laid, own, cell_list, Kinded}
use Rattle.nets.specs.Driven.{Netted}
use Rattle.netlist.specs.Tables.{tables, with_kinds, once, kind_fits, lists_right, pins_right, pins_told, Long}
use Rattle.netlist.proofs.Steps.{and_assoc}

pub now_kinded : (kinds : List ℕ) (first : Bool) → first ≡ kinds_fit (with_kinds kinds) → first ≡ true → Kinded kinds
now_kinded kinds first e t = record {
  kind = λ c l. leb-true (get_or kinds c 0) 12 (and_l (get_or kinds c 0 ≤? 12) (same (get_or kinds c 0 == 0) (c == 0))
      (of_upto (λ k. kind_fits (get_or kinds k 0) k) (length kinds) c (sym e ∙ t) l));
}

-- the two rules of 5 are the rules' own
pub told_fits : (kinds starts list pins nets : List ℕ) → pins_told kinds starts list pins (length nets) ≡ pins_fit (tables kinds starts list pins nets)
unfolding pins_told lists_right pins_right
told_fits kinds starts list pins nets =
    sym (and_assoc (lists_right starts (length kinds) list pins (length nets)) _ _)

pub now_netted : (kinds starts list pins nets work : List ℕ) (third : Bool) → third ≡ pins_told kinds starts list pins (length nets) → third ≡ true
    → Long kinds starts list pins work → Netted pins (length list) nets
unfolding pins_told lists_right
now_netted kinds starts list pins nets work third e t g = record {
  long = omega (arith, g.pins_long);
  net = λ p l.
      let A : Bool = laid starts (length kinds) (length list) in
      let B : Bool = every (λ q. ranged pins (length kinds) (length nets) q && once starts list pins q) (upto (length list)) in
      let D : Bool = every (λ c. every (own pins (length list) c) (cell_list starts list c)) (upto (length kinds)) in
      let abd : (A && B && D) ≡ true = and_l (A && B && D) (pins_right kinds starts list pins) (sym e ∙ t) in
      let r : ranged pins (length kinds) (length nets) p ≡ true = and_l (ranged pins (length kinds) (length nets) p) (once starts list pins p)
      (of_upto (λ q. ranged pins (length kinds) (length nets) q && once starts list pins q) (length list) p (and_r A B (and_l (A && B) D abd)) l) in
      let cn : ((pin_at pins 0 p <? length kinds) && (pin_at pins 4 p <? length nets)) ≡ true = and_l ((pin_at pins 0 p <? length kinds) && (pin_at pins 4 p <? length nets)) (pin_at pins 3 p ≤? 1) r in
      ltb-true (pin_at pins 4 p) (length nets) (and_r (pin_at pins 0 p <? length kinds) (pin_at pins 4 p <? length nets) cn);
}
