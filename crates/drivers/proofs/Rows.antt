-- What is written is read back, and every other row is as it was; a table that holds drivers holds one more after the next row is written.
use Rattle.std.specs.Prelude.{Some}
use mathlib.Core.Path.{◌≡◌, refl, sym, ap, subst, ◌∙◌}
use mathlib.Core.List.{List, [], ◌∷◌, ◌++◌}
use mathlib.Core.Logic.{◌≢◌}
use Prim.Native.Nat.{ℕ, ◌+◌, ◌*◌, ◌<◌}
use native.Mathlib.Omega.{arith}
use lib.Dec.{ltb}
use borrow.Author.Tests.{ltb-true, ltb-false}
use lib.ListN.{length, get_or, set, length-set, length-append, get_or-append}
use lib.Seq.{get_or-set_same, get_or-set_other, ext_get_or}
use Rattle.laws.specs.Words.{ZeroFrom}
use Rattle.laws.proofs.Tests.{by_test}
use Rattle.laws.proofs.Ranges.{map-upto, length-map-upto}
use Rattle.rules.specs.declared.Edge.TheVariants.{Rising, Falling}
use Rattle.rules.specs.declared.Driver.{Driver}
use Rattle.rules.specs.declared.Driver.TheVariants.{And, Port, Flag, Dff, Ram, Constant}
use Rattle.rules.specs.Graph.{driver_at}
use Rattle.rules.specs.Tables.{decode, decode_at, driver_or, drivers_in}
use Rattle.drivers.specs.Written.{word_of, written, Holds}

-- the words of a driver say that driver
pub says : (d : Driver) → decode (word_of d 0) (word_of d 1) (word_of d 2) ≡ Some d
says (And a b) = refl
says (Port q) = refl
says (Flag q Rising) = refl
says (Flag q Falling) = refl
says (Dff c) = refl
says (Ram c) = refl
says Constant = refl

module _ (ws : List ℕ) (u : ℕ) (d : Driver) where
  pub written-length : length (written ws u d) ≡ length ws
  unfolding written
  written-length = simp length-set

  -- a word of another row
  pub written_other : (k : ℕ) → k ≢ 3 * u → k ≢ 3 * u + 1 → k ≢ 3 * u + 2 → get_or (written ws u d) k 0 ≡ get_or ws k 0
  unfolding written
  written_other k f g h =
      get_or-set_other (set (set ws (3 * u) (word_of d 0)) (3 * u + 1) (word_of d 1)) (3 * u + 2) k (word_of d 2) 0 h
      ∙ get_or-set_other (set ws (3 * u) (word_of d 0)) (3 * u + 1) k (word_of d 1) 0 g
      ∙ get_or-set_other ws (3 * u) k (word_of d 0) 0 f

  pub read_other : (v : ℕ) → v ≢ u → decode_at (written ws u d) v ≡ decode_at ws v
  unfolding decode_at
  read_other v ne = λ i. decode
      (written_other (3 * v) (λ e. ne (omega arith)) (λ e. omega arith) (λ e. omega arith) i)
      (written_other (3 * v + 1) (λ e. omega arith) (λ e. ne (omega arith)) (λ e. omega arith) i)
      (written_other (3 * v + 2) (λ e. omega arith) (λ e. omega arith) (λ e. ne (omega arith)) i)

  module _ (fits : 3 * u + 2 < length ws) where
    in_1 : 3 * u + 1 < length (set ws (3 * u) (word_of d 0))
    in_1 = simp length-set (omega arith)

    in_2 : 3 * u + 2 < length (set (set ws (3 * u) (word_of d 0)) (3 * u + 1) (word_of d 1))
    in_2 = simp length-set (omega arith)

    word_0 : get_or (written ws u d) (3 * u) 0 ≡ word_of d 0
    unfolding written
    word_0 =
        get_or-set_other (set (set ws (3 * u) (word_of d 0)) (3 * u + 1) (word_of d 1)) (3 * u + 2) (3 * u) (word_of d 2) 0 (λ e. omega arith)
        ∙ get_or-set_other (set ws (3 * u) (word_of d 0)) (3 * u + 1) (3 * u) (word_of d 1) 0 (λ e. omega arith)
        ∙ get_or-set_same ws (3 * u) (word_of d 0) 0 (omega arith)

    word_1 : get_or (written ws u d) (3 * u + 1) 0 ≡ word_of d 1
    unfolding written
    word_1 =
        get_or-set_other (set (set ws (3 * u) (word_of d 0)) (3 * u + 1) (word_of d 1)) (3 * u + 2) (3 * u + 1) (word_of d 2) 0 (λ e. omega arith)
        ∙ get_or-set_same (set ws (3 * u) (word_of d 0)) (3 * u + 1) (word_of d 1) 0 in_1

    word_2 : get_or (written ws u d) (3 * u + 2) 0 ≡ word_of d 2
    unfolding written
    word_2 = get_or-set_same (set (set ws (3 * u) (word_of d 0)) (3 * u + 1) (word_of d 1)) (3 * u + 2) (word_of d 2) 0 in_2

    pub read_back : decode_at (written ws u d) u ≡ Some d
    unfolding decode_at
    read_back = (λ i. decode (word_0 i) (word_1 i) (word_2 i)) ∙ says d

-- ---- the drivers of a list that grows at its end
pub driver_old : (ds : List Driver) (d : Driver) (u : ℕ) → u < length ds → driver_at (ds ++ (d ∷ [])) u ≡ driver_at ds u
driver_old ds d u h = get_or-append ds (d ∷ []) Constant u h

pub driver_new : (ds : List Driver) (d : Driver) → driver_at (ds ++ (d ∷ [])) (length ds) ≡ d
driver_new [] d = refl
driver_new (x ∷ ds) d = driver_new ds d

pub one-longer : (ds : List Driver) (d : Driver) → length (ds ++ (d ∷ [])) ≡ length ds + 1
one-longer ds d = length-append ds (d ∷ [])

-- ---- a table that holds drivers
module _ (ws : List ℕ) (ds : List Driver) (d : Driver) (h : Holds ws ds) (fits : 3 * length ds + 2 < length ws) where
  row_after : (u : ℕ) → u < length (ds ++ (d ∷ [])) → decode_at (written ws (length ds) d) u ≡ Some (driver_at (ds ++ (d ∷ [])) u)
  row_after u l = by_test (ltb u (length ds))
      (λ t. let o = ltb-true u (length ds) t in
      read_other ws (length ds) d u (λ e. omega (arith, o, e)) ∙ h.row u o ∙ ap Some (sym (driver_old ds d u o)))
      (λ f. let e : u ≡ length ds = omega (arith, l, one-longer ds d, ltb-false u (length ds) f) in
      subst (λ (v : ℕ). decode_at (written ws (length ds) d) v ≡ Some (driver_at (ds ++ (d ∷ [])) v)) (sym e)
      (read_back ws (length ds) d fits ∙ ap Some (sym (driver_new ds d))))

  rest_after : ZeroFrom (written ws (length ds) d) (3 * length (ds ++ (d ∷ [])))
  unfolding ZeroFrom
  rest_after j l =
      let m = one-longer ds d in
      written_other ws (length ds) d j (λ e. omega (arith, l, m, e)) (λ e. omega (arith, l, m, e)) (λ e. omega (arith, l, m, e))
      ∙ h.rest j (omega (arith, l, m))

  pub holds_more : Holds (written ws (length ds) d) (ds ++ (d ∷ []))
  holds_more = record { long = rw (written-length ws (length ds) d, one-longer ds d) (omega arith); row = row_after; rest = rest_after }

-- the drivers of a table that holds them
pub holds_drivers : (ws : List ℕ) (ds : List Driver) (pins : ℕ) → Holds ws ds → length ds ≡ pins + 1 → drivers_in ws pins ≡ ds
holds_drivers ws ds pins h l =
    ext_get_or Constant (drivers_in ws pins) ds (long ∙ sym l) (λ i k.
    map-upto (λ u. driver_or (decode_at ws u)) Constant (pins + 1) i (omega (arith, k, long)) ∙ ap driver_or (h.row i (omega (arith, k, long, l))))
  where
    long : length (drivers_in ws pins) ≡ pins + 1
    long = length-map-upto (λ u. driver_or (decode_at ws u)) (pins + 1)

pub drivers_long_lem : (ws : List ℕ) (pins : ℕ) → length (drivers_in ws pins) ≡ pins + 1
drivers_long_lem ws pins = length-map-upto (λ u. driver_or (decode_at ws u)) (pins + 1)
