-- Driver tables that grow at their end: what was there is kept, and what is new.
use mathlib.Core.Path.{◌≡◌, refl, sym, ◌∙◌, subst}
use mathlib.Core.Bool.{Bool, true, false}
use mathlib.Core.List.{List, [], ◌∷◌, ◌++◌}
use Prim.Native.Nat.{ℕ, ◌≤◌, ◌<◌}
use native.Mathlib.Omega.{arith}
use lib.ListN.{length, get_or-eq_default}
use borrow.Author.Tests.{ltb-true, ltb-false}
use Rattle.laws.specs.Tests.{◌<?◌}
use Rattle.laws.proofs.Tests.{by_test, true≢false}
use Rattle.laws.proofs.Indices.{snoc_length, snoc_kept, snoc_cases}
use Rattle.rules.specs.declared.Driver.{Driver}
use Rattle.rules.specs.declared.Driver.TheVariants.{And, Port, Flag, Dff, Ram, Constant}
use Rattle.rules.specs.Graph.{driver_at}

-- a driver whose pin stands in no record
abbrev pub is_plain : Driver → Bool
is_plain (And a b) = true
is_plain (Port q) = true
is_plain (Flag q e) = true
is_plain (Dff c) = false
is_plain (Ram c) = false
is_plain Constant = false

-- what was there is kept
pub record Keeps (ds es : List Driver) : Type 0 where
  pub longer : length ds ≤ length es
  pub kept : (u : ℕ) → u < length ds → driver_at es u ≡ driver_at ds u

-- and nothing with a record is new
pub record Grows (ds es : List Driver) : Type 0 where
  pub keeps : Keeps ds es
  pub new : (u : ℕ) → length ds ≤ u → u < length es → is_plain (driver_at es u) ≡ true

pub keeps_refl : (ds : List Driver) → Keeps ds ds
keeps_refl ds = record { longer = omega arith; kept = λ u h. refl }

pub keeps_trans : {ds es fs : List Driver} → Keeps ds es → Keeps es fs → Keeps ds fs
keeps_trans g h = record { longer = omega (arith, g.longer, h.longer); kept = λ u l. h.kept u (omega (arith, g.longer)) ∙ g.kept u l }

pub grows_refl : (ds : List Driver) → Grows ds ds
grows_refl ds = record { keeps = keeps_refl ds; new = λ u h k. absurd (omega arith) }

pub grows_trans : {ds es fs : List Driver} → Grows ds es → Grows es fs → Grows ds fs
grows_trans {ds} {es} {fs} g h = record {
  keeps = keeps_trans g.keeps h.keeps;
  new = λ u l k. by_test (u <? length es)
      (λ t. rw (h.keeps.kept u (ltb-true u (length es) t)) (g.new u l (ltb-true u (length es) t)))
      (λ f. h.new u (ltb-false u (length es) f) k);
}

-- one driver more
pub snoc_keeps : (ds : List Driver) (d : Driver) → Keeps ds (ds ++ (d ∷ []))
snoc_keeps ds d = record { longer = omega (arith, snoc_length ds d d); kept = λ u h. snoc_kept ds d Constant u h }

pub snoc_grows : (ds : List Driver) (d : Driver) → is_plain d ≡ true → Grows ds (ds ++ (d ∷ []))
snoc_grows ds d e = record {
  keeps = snoc_keeps ds d;
  new = λ u h k. snoc_cases ds d Constant (λ x. is_plain x ≡ true) u (λ l. absurd (omega arith)) (λ l. e) (λ l. absurd (omega (arith, snoc_length ds d d)));
}

-- a driver that is there is no new one where it has a record
pub old_driver : (ds es : List Driver) → Grows ds es → (u : ℕ) (d : Driver) → is_plain d ≡ false → (d ≡ Constant → ⊥) → driver_at es u ≡ d → driver_at ds u ≡ d
old_driver ds es g u d plain notc e = by_test (u <? length ds)
    (λ t. sym (g.keeps.kept u (ltb-true u (length ds) t)) ∙ e)
    (λ h. by_test (u <? length es)
    (λ t. true≢false (is_plain d) (subst (λ (x : Driver). is_plain x ≡ true) e (g.new u (ltb-false u (length ds) h) (ltb-true u (length es) t))) plain)
    (λ h'. absurd (notc (sym e ∙ get_or-eq_default es Constant (ltb-false u (length es) h')))))
