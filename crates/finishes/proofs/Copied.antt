-- A table that is written whole.
use mathlib.Core.Path.{◌≡◌, sym, ap, ◌∙◌}
use mathlib.Core.List.{List}
use Prim.Native.Nat.{ℕ, ◌+◌, ◌*◌, ◌≤◌}
use native.Mathlib.Omega.{arith}
use lib.ListN.{length, get_or}
use lib.Seq.{ext_get_or}
use Rattle.laws.specs.Words.{part}
use Rattle.laws.proofs.Words.{part_length}
use Rattle.words.specs.Tables.{written}
use Rattle.words.proofs.Tables.{written-length, written_at}

pub all_copied : (w l l' : List ℕ) → 8 * length l ≤ length w → l' ≡ written l 0 (part w (7 * length l) (length l)) → l' ≡ part w (7 * length l) (length l)
all_copied w l l' h e = e ∙ ext_get_or 0 (written l 0 ps) ps (written-length l 0 ps fits ∙ sym long)
    (λ i k. let z : i ≡ 0 + i = omega arith in
    ap (λ (x : ℕ). get_or (written l 0 ps) x 0) z ∙ written_at l 0 ps fits i (omega (arith, k, written-length l 0 ps fits, long)))
  where
    ps : List ℕ
    ps = part w (7 * length l) (length l)

    long : length ps ≡ length l
    long = part_length w (7 * length l) (length l) (omega (arith, h))

    fits : 0 + length ps ≤ length l
    fits = omega (arith, long)
