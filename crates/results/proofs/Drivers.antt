-- A driver table that holds a list of drivers: its words, and that fanouts may be made of it.
use Rattle.std.specs.Prelude.{Some}
use mathlib.Core.Path.{◌≡◌, sym, ap, ◌∙◌}
use mathlib.Core.List.{List}
use Prim.Native.Nat.{ℕ, zero, suc, ◌+◌, ◌-◌, ◌*◌, ◌/◌, ◌<◌}
use native.Mathlib.Omega.{arith}
use lib.ListN.{length, get_or}
use Rattle.laws.specs.Lists.{flat}
use Rattle.laws.specs.Words.{filled}
use Rattle.laws.proofs.Words.{zero_from_at, filled_is}
use Rattle.rules.specs.declared.Driver.{Driver}
use Rattle.rules.specs.Graph.{gate, driver_at}
use Rattle.rules.specs.Tables.{driver_words, decode_at}
use Rattle.drivers.specs.Written.{word_of, Holds}
use Rattle.drivers.proofs.Said.{Words, said}
use Rattle.walk.specs.State.{tag_of, Operands}
use Rattle.walk.proofs.Leads.{says-gate}
use Rattle.builds.proofs.Sound.{Sound}
use Rattle.builds.proofs.Sound as sound
use Rattle.builds.proofs.Words.{driver_words_lem, words_say}

-- word i of a row, where the row says d
row_words_lem : (ws : List ℕ) (u : ℕ) (d : Driver) → decode_at ws u ≡ Some d → Words (get_or ws (3 * u) 0) (get_or ws (3 * u + 1) 0) (get_or ws (3 * u + 2) 0) d
unfolding decode_at
row_words_lem ws u d e = said (get_or ws (3 * u) 0) (get_or ws (3 * u + 1) 0) (get_or ws (3 * u + 2) 0) d e

row_at : (ws : List ℕ) (u i : ℕ) (d : Driver) → decode_at ws u ≡ Some d → i < 3 → get_or ws (3 * u + i) 0 ≡ word_of d i
row_at ws u zero d e b = let z : 3 * u + 0 ≡ 3 * u = omega arith in ap (λ (j : ℕ). get_or ws j 0) z ∙ (row_words_lem ws u d e).tag
row_at ws u (suc zero) d e b = (row_words_lem ws u d e).first
row_at ws u (suc (suc zero)) d e b = (row_words_lem ws u d e).second
row_at ws u (suc (suc (suc i))) d e b = absurd (omega arith)

module _ (ws : List ℕ) (ds : List Driver) (h : Holds ws ds) where
  word_at : (j : ℕ) → j < length (flat driver_words ds) → get_or ws j 0 ≡ get_or (flat driver_words ds) j 0
  word_at j l =
      let u : ℕ = j / 3 in
      let i : ℕ = j - 3 * u in
      let e : 3 * u + i ≡ j = omega arith in
      let b : i < 3 = omega arith in
      let k : u < length ds = omega (arith, l, driver_words_lem ds) in
      ap (λ (x : ℕ). get_or ws x 0) (sym e) ∙ row_at ws u i (driver_at ds u) (h.row u k) b
      ∙ sym (row_at (flat driver_words ds) u i (driver_at ds u) (words_say ds u k) b)
      ∙ ap (λ (x : ℕ). get_or (flat driver_words ds) x 0) e

  pub holds_filled : ws ≡ filled (flat driver_words ds) (length ws)
  holds_filled =
      let n = driver_words_lem ds in
      filled_is ws (flat driver_words ds) (omega (arith, n, h.long)) word_at (λ j l. zero_from_at ws (3 * length ds) j h.rest (omega (arith, l, n)))

  -- ---- the operands of the gates
  gate_is : (u : ℕ) → u < length ds → tag_of ws u ≡ 1 → driver_at ds u ≡ gate (get_or ws (3 * u + 1) 0) (get_or ws (3 * u + 2) 0)
  gate_is u l t = let e : Some (driver_at ds u) ≡ Some (gate (get_or ws (3 * u + 1) 0) (get_or ws (3 * u + 2) 0)) = sym (h.row u l) ∙ says-gate ws u t in cc

  pub holds_operands : (pins : ℕ) → Sound ds → length ds ≡ pins + 1 → Operands ws (pins + 1)
  holds_operands pins s n = record {
    first_low = λ u l t. (fit u l t).0;
    first_less = λ u l t. (fit u l t).1;
    second_low = λ u l t. (fit u l t).2;
    second_less = λ u l t. (fit u l t).3;
  }
    where
      fit : (u : ℕ) → u < pins + 1 → tag_of ws u ≡ 1 → sound.Operands u (get_or ws (3 * u + 1) 0) (get_or ws (3 * u + 2) 0)
      fit u l t = s.gates u (get_or ws (3 * u + 1) 0) (get_or ws (3 * u + 2) 0) (gate_is u (omega (arith, l, n)) t)
