-- What 2 says where it lets pass.
use mathlib.Core.Path.{◌≡◌, refl, sym, ◌∙◌, ap}
use mathlib.Core.Bool.{Bool, true, ◌&&◌}
use mathlib.Core.List.{List}
use Prim.Native.Nat.{ℕ, ◌+◌, ◌*◌, ◌≤◌}
use native.Mathlib.Omega.{arith}
use lib.ListN.{length, get_or}
use borrow.Author.Tests.{eqb-true}
use Rattle.std.specs.Prelude.{◌==◌}
use Rattle.laws.specs.Words.{zeros}
use Rattle.laws.proofs.Tests.{and_l, and_r}
use Rattle.laws.proofs.Words.{zeros_at, zeros-length}
use Rattle.rules.specs.declared.NetlistCounts.{NetlistCounts}
use Rattle.rules.specs.Answers.{netlist_long}
use Rattle.netlist.specs.Tables.{tables, Long, long_by}

pub zeros_self : (w : List ℕ) (n : ℕ) → w ≡ zeros n → w ≡ zeros (length w)
zeros_self w n e = e ∙ ap zeros (sym (ap length e ∙ zeros-length n))

-- 2 by lengths is 2 of the tables
pub long_is : (c : NetlistCounts) (kinds starts list pins nets : List ℕ)
    → long_by c (length kinds) (length starts) (length list) (length pins) (length nets) ≡ netlist_long c (tables kinds starts list pins nets)
unfolding long_by
long_is c kinds starts list pins nets = refl

-- tables of the right lengths, and enough work words that are all 0
pub long_zeros : (kinds starts list pins work : List ℕ) → length starts ≡ length kinds + 1 → length pins ≡ 5 * length list → length list + 544 ≤ length work
    → work ≡ zeros (length work) → Long kinds starts list pins work
long_zeros kinds starts list pins work s p w z = record {
  starts_long = s;
  pins_long = p;
  clear = record { long = omega arith; none = λ q h. ap (λ (x : List ℕ). get_or x (0 + q) 0) z ∙ zeros_at (length work) (0 + q) };
}

module _ (c : NetlistCounts) (kinds starts list pins work : List ℕ) (nets : ℕ) (long : Bool)
    (e : long ≡ long_by c (length kinds) (length starts) (length list) (length pins) nets) (t : long ≡ true) where
  pub now_long : 8 * c.pins + 1024 ≤ length work → work ≡ zeros (length work) → Long kinds starts list pins work
  unfolding long_by
  now_long w z =
      let A : Bool = length kinds == c.cells in
      let B : Bool = length starts == c.cells + 1 in
      let C : Bool = length list == c.pins in
      let D : Bool = length pins == 5 * c.pins in
      let E : Bool = nets == c.nets in
      let abcd : (A && B && C && D) ≡ true = and_l (A && B && C && D) E (sym e ∙ t) in
      let abc : (A && B && C) ≡ true = and_l (A && B && C) D abcd in
      let ab : (A && B) ≡ true = and_l (A && B) C abc in
      let k : length kinds ≡ c.cells = eqb-true (length kinds) c.cells (and_l A B ab) in
      let s : length starts ≡ c.cells + 1 = eqb-true (length starts) (c.cells + 1) (and_r A B ab) in
      let l : length list ≡ c.pins = eqb-true (length list) c.pins (and_r (A && B) C abc) in
      let p : length pins ≡ 5 * c.pins = eqb-true (length pins) (5 * c.pins) (and_r (A && B && C) D abcd) in
      long_zeros kinds starts list pins work (omega (arith, k, s)) (omega (arith, l, p)) (omega (arith, l, w)) z
