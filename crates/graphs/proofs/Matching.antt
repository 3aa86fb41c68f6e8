-- The marked pins match the drivers exactly where the records' pins are one for one those of such drivers.
use mathlib.Core.Path.{◌≡◌, refl, sym, ap, ◌∙◌}
use mathlib.Core.Bool.{Bool, true, false, ◌&&◌}
use mathlib.Core.List.{List}
use Prim.Native.Nat.{ℕ, zero, suc, ◌+◌, ◌-◌, ◌*◌, ◌≤◌, ◌<◌}
use native.Mathlib.Omega.{arith}
use lib.ListN.{length, get_or}
use borrow.Author.Tests.{lt-ltb, le-leb, leb-true, eq-eqb, eqb-true}
use Rattle.std.specs.Prelude.{None, Option, Some, ◌==◌}
use Rattle.laws.specs.Tests.{◌<?◌, ◌≤?◌, one, same}
use Rattle.laws.specs.Lists.{count, member, every, upto}
use Rattle.laws.proofs.Tests.{by_test, true≢false, and_l, and_r, both_true, one_le}
use Rattle.laws.proofs.Bags.{every_true, every_all, member_true, member_false}
use Rattle.laws.proofs.Ranges.{of_upto, every_upto}
use Rattle.rules.specs.declared.Driver.{Driver}
use Rattle.rules.specs.declared.Driver.TheVariants.{And, Port, Flag, Dff, Ram, Constant}
use Rattle.rules.specs.Graph.{driver_at}
use Rattle.rules.specs.Tables.{decode_at, driver_or, drivers_in}
use Rattle.rules.specs.Refusals.{below, no_repeat, driver_fits, drivers_fit, is_dff, is_ram}
use Rattle.laws.proofs.Ranges.{map-upto}
use Rattle.drivers.specs.Written.{word_of}
use Rattle.drivers.proofs.Said.{said}
use Rattle.drivers.proofs.Rows.{drivers_long_lem}
use Rattle.marks.specs.Marking.{Marks, MarkedAll, a_set, no_set}
use Rattle.graphs.specs.Parts.{mark_matches, marks_match, pins_match, Compared}

-- ---- the tag of a driver that is one of the cases
not_bad : {P : Type 0} (u : ℕ) (x : Option Driver) → driver_fits u x ≡ true → ((d : Driver) → x ≡ Some d → P) → P
not_bad u (Some d) h k = k d refl
not_bad u None h k = true≢false false h refl

-- a test of drivers that their tags tell
pub record Told (t : Driver → Bool) (tag : ℕ) : Type 0 where
  pub tells : (d : Driver) → (word_of d 0 == tag) ≡ t d

pub dff_told : Told is_dff 4
dff_told = record { tells = tells }
  where
    tells : (d : Driver) → (word_of d 0 == 4) ≡ is_dff d
    tells (And a b) = refl
    tells (Port q) = refl
    tells (Flag q e) = refl
    tells (Dff c) = refl
    tells (Ram c) = refl
    tells Constant = refl

pub ram_told : Told is_ram 5
ram_told = record { tells = tells }
  where
    tells : (d : Driver) → (word_of d 0 == 5) ≡ is_ram d
    tells (And a b) = refl
    tells (Port q) = refl
    tells (Flag q e) = refl
    tells (Dff c) = refl
    tells (Ram c) = refl
    tells Constant = refl

pub tag_tells : (t : Driver → Bool) (tag : ℕ) → Told t tag → (ws : List ℕ) (pins u : ℕ) → drivers_fit ws pins ≡ true → u < pins + 1
    → (get_or ws (3 * u) 0 == tag) ≡ t (driver_at (drivers_in ws pins) u)
unfolding decode_at
tag_tells t tag told ws pins u fit l =
    not_bad u (decode_at ws u) (of_upto (λ v. driver_fits v (decode_at ws v)) (pins + 1) u fit l) (λ d e.
    ap (λ (x : ℕ). x == tag) (said (get_or ws (3 * u) 0) (get_or ws (3 * u + 1) 0) (get_or ws (3 * u + 2) 0) d e).tag
    ∙ told.tells d
    ∙ ap t (sym (map-upto (λ v. driver_or (decode_at ws v)) Constant (pins + 1) u l ∙ ap driver_or e)))

-- ---- a count of at most one is the bit of a membership
count-one : (p : ℕ) (l : List ℕ) → count p l ≤ 1 → one (member p l) ≡ count p l
count-one p l h = by_test (member p l)
    (λ t. rw t (omega (arith, h, member_true p l t)))
    (λ f. rw f (omega (arith, member_false p l f)))

bit-same : (k : ℕ) (b : Bool) → k ≤ 1 → same (k == 1) b ≡ (k == one b)
bit-same zero true h = refl
bit-same zero false h = refl
bit-same (suc zero) true h = refl
bit-same (suc zero) false h = refl
bit-same (suc (suc k)) b h = absurd (omega arith)

every-same : (f g : ℕ → Bool) (n : ℕ) → ((u : ℕ) → u < n → f u ≡ g u) → every f (upto n) ≡ every g (upto n)
every-same f g n h = by_test (every g (upto n))
    (λ t. every_upto f n (λ u l. h u l ∙ of_upto g n u t l) ∙ sym t)
    (λ e. by_test (every f (upto n))
    (λ t. true≢false (every g (upto n)) (every_upto g n (λ u l. sym (h u l) ∙ of_upto f n u t l)) e)
    (λ z. z ∙ sym e))

module _ (t : Driver → Bool) (tag : ℕ) (told : Told t tag) (ws : List ℕ) (pins m : ℕ) (is_m : m ≡ pins + 1) (fit : drivers_fit ws pins ≡ true)
    (ps w₀ : List ℕ) (base : ℕ) where
  ds_long : length (drivers_in ws pins) - 1 ≡ pins
  ds_long = omega (arith, drivers_long_lem ws pins)

  -- one for one in terms of the count
  plain : pins_match t ps (drivers_in ws pins) ≡ (every (λ p. p ≤? pins) ps && every (λ u. count u ps == one (t (driver_at (drivers_in ws pins) u))) (upto (pins + 1)))
  plain = ap (λ (k : ℕ). every (λ p. p ≤? k) ps && every (λ u. count u ps == one (t (driver_at (drivers_in ws pins) u))) (upto (k + 1))) ds_long

  -- what is no set is not one for one
  no_match : (below m ps && no_repeat ps) ≡ false → pins_match t ps (drivers_in ws pins) ≡ false
  no_match h = by_test (pins_match t ps (drivers_in ws pins))
      (λ y. true≢false (below m ps && no_repeat ps) (both_true (below m ps) (no_repeat ps) (inside (sym plain ∙ y)) (once (sym plain ∙ y))) h)
      (λ f. f)
    where
      low : (every (λ p. p ≤? pins) ps && every (λ u. count u ps == one (t (driver_at (drivers_in ws pins) u))) (upto (pins + 1))) ≡ true
          → (p : ℕ) → 0 < count p ps → p < m
      low y p k = omega (arith, is_m, leb-true p pins (every_true (λ q. q ≤? pins) p ps (and_l (every (λ q. q ≤? pins) ps) _ y) k))

      inside : (every (λ p. p ≤? pins) ps && every (λ u. count u ps == one (t (driver_at (drivers_in ws pins) u))) (upto (pins + 1))) ≡ true → below m ps ≡ true
      inside y = every_all (λ i. i <? m) ps (λ p k. lt-ltb p m (low y p k))

      once : (every (λ p. p ≤? pins) ps && every (λ u. count u ps == one (t (driver_at (drivers_in ws pins) u))) (upto (pins + 1))) ≡ true → no_repeat ps ≡ true
      once y = every_all (λ i. count i ps == 1) ps (λ p k. eq-eqb (count p ps) 1
          (omega (
            arith,
            k,
            one_le (t (driver_at (drivers_in ws pins) p)),
            eqb-true (count p ps) (one (t (driver_at (drivers_in ws pins) p)))
                (of_upto (λ u. count u ps == one (t (driver_at (drivers_in ws pins) u))) (pins + 1) p (and_r (every (λ q. q ≤? pins) ps) _ y) (omega (arith, is_m, low y p k))),
          )))

  -- of a set, the marks tell
  marks_tell : (w : List ℕ) → Marks w₀ w base m ps → marks_match ws w base m tag ≡ pins_match t ps (drivers_in ws pins)
  marks_tell w k =
      ap (λ (x : ℕ). marks_match ws w base x tag) is_m
      ∙ every-same (mark_matches ws w base tag) (λ u. count u ps == one (t (driver_at (drivers_in ws pins) u))) (pins + 1) (λ u l.
      (λ i. same (marked u l i == 1) (tag_tells t tag told ws pins u fit l i)) ∙ bit-same (count u ps) (t (driver_at (drivers_in ws pins) u)) (k.once u))
      ∙ sym (plain ∙ ap (λ (b : Bool). b && every (λ u. count u ps == one (t (driver_at (drivers_in ws pins) u))) (upto (pins + 1)))
      (every_all (λ p. p ≤? pins) ps (λ p c. le-leb p pins (omega (arith, is_m, k.inside p c)))))
    where
      marked : (u : ℕ) → u < pins + 1 → get_or w (base + u) 0 ≡ count u ps
      marked u l = k.marks u (omega (arith, is_m, l)) ∙ count-one u ps (k.once u)

  pub unmarked : (w : List ℕ) (s : Bool) → MarkedAll ps w₀ base m w s → s ≡ false → Compared (pins_match t ps (drivers_in ws pins)) w₀ base m w false
  unmarked w s (a_set k e y) f = true≢false s y f
  unmarked w s (no_set e l y) f = record { answer = sym (no_match e); same_length = l; kept = λ z. true≢false false z refl }

  pub compared : (w : List ℕ) (s r : Bool) → MarkedAll ps w₀ base m w s → s ≡ true → r ≡ marks_match ws w base m tag
      → Compared (pins_match t ps (drivers_in ws pins)) w₀ base m w r
  compared w s r (a_set k e y) z q = record { answer = q ∙ marks_tell w k; same_length = k.same_length; kept = λ v. k.after }
  compared w s r (no_set e l y) z q = true≢false s z y

  pub marked-length : (w : List ℕ) (s : Bool) → MarkedAll ps w₀ base m w s → length w ≡ length w₀
  marked-length w s (a_set k e y) = k.same_length
  marked-length w s (no_set e l y) = l
