-- What callers of the AND step know of it, and of the step that finds or makes a clock flag: it only appends drivers, its answer has a pin,
-- it keeps the table sound, and its bit.
use mathlib.Core.Path.{◌≡◌, refl, sym, ◌∙◌, ap, subst}
use mathlib.Core.Bool.{Bool, true, false, not, ◌&&◌, ◌||◌, and_comm, and-true, and-false}
use mathlib.Core.List.{List, [], ◌∷◌, ◌++◌}
use Prim.Native.Nat.{ℕ, zero, suc, ◌≤◌, ◌<◌, min, max}
use native.Mathlib.Omega.{arith}
use lib.ListN.{length}
use borrow.Author.Tests.{ltb-true, ltb-false, lt-ltb, eqb-true, eqb-false, eq-eqb}
use Rattle.std.specs.Prelude.{◌==◌}
use Rattle.laws.specs.Tests.{◌<?◌}
use Rattle.laws.proofs.Tests.{by_test, true≢false, and_both, min-max}
use Rattle.laws.proofs.Indices.{snoc_length, snoc_at}
use Rattle.rules.specs.declared.Edge.{Edge}
use Rattle.rules.specs.declared.Edge.TheVariants.{Rising, Falling}
use Rattle.rules.specs.declared.Driver.{Driver}
use Rattle.rules.specs.declared.Driver.TheVariants.{And, Port, Flag, Dff, Ram, Constant}
use Rattle.rules.specs.Graph.{pin_of, opposite, gate, driver_at, Made, first_pin, old_or_new, is_pair, and_of, or_not}
use Rattle.rules.specs.Build.{is_flag, flag_for}
use Rattle.rules.specs.Cells.{Env}
use Rattle.rules.proofs.Tables.{clash}
use Rattle.builds.proofs.Literals.{lit_of, opp_pin, opp_bit, even_pin, even_bit, zero_bit, one_bit}
use Rattle.builds.proofs.Growing.{is_plain, Keeps, Grows, keeps_refl, grows_refl, snoc_keeps}
use Rattle.builds.proofs.Sound.{gate_same, Sound, Fresh, Fits, snoc_sound}
use Rattle.builds.proofs.Agreeing.{env_bit, Agrees}

-- ---- the first pin whose driver passes a test
pub first_le : (t : Driver → Bool) (ds : List Driver) → first_pin t ds ≤ length ds
first_le t [] = omega arith
first_le t (d ∷ ds) = by_test (t d) (λ y. rw y (omega arith)) (λ n. rw n (omega (arith, first_le t ds)))

pub first_found : (t : Driver → Bool) (ds : List Driver) → first_pin t ds < length ds → t (driver_at ds (first_pin t ds)) ≡ true
first_found t [] h = absurd (omega arith)
first_found t (d ∷ ds) h = by_test (t d)
    (λ y. subst (λ (k : ℕ). t (driver_at (d ∷ ds) k) ≡ true) (here y) y)
    (λ n. subst (λ (k : ℕ). t (driver_at (d ∷ ds) k) ≡ true) (later n) (first_found t ds (omega (arith, later n, h))))
  where
    here : t d ≡ true → 0 ≡ first_pin t (d ∷ ds)
    here y = rw y

    later : t d ≡ false → suc (first_pin t ds) ≡ first_pin t (d ∷ ds)
    later n = rw n

pub first_none : (t : Driver → Bool) (ds : List Driver) → length ds ≤ first_pin t ds → (u : ℕ) → u < length ds → t (driver_at ds u) ≡ false
first_none t [] h u k = absurd (omega arith)
first_none t (d ∷ ds) h zero k = by_test (t d) (λ y. absurd (omega (arith, h, rw y at h))) (λ n. n)
first_none t (d ∷ ds) h (suc u) k = by_test (t d)
    (λ y. absurd (omega (arith, h, rw y at h)))
    (λ n. first_none t ds (omega (arith, rw n at h)) u (omega arith))

-- a driver that is known stays known
pub known_stays : (t : Driver → Bool) (ds es : List Driver) → Keeps ds es → first_pin t ds < length ds → first_pin t es < length es
known_stays t ds es k h = by_test (first_pin t es <? length es)
    (λ y. ltb-true (first_pin t es) (length es) y)
    (λ f. true≢false (t (driver_at es (first_pin t ds))) (rw (k.kept (first_pin t ds) h) (first_found t ds h))
    (first_none t es (ltb-false (first_pin t es) (length es) f) (first_pin t ds) (omega (arith, k.longer))))

-- ---- an old pin or a new one, by a test that only one driver passes
module _ (t : Driver → Bool) (d : Driver) (ds : List Driver) (self : t d ≡ true) (only : (x : Driver) → t x ≡ true → x ≡ d) where
  pub known_keeps : Keeps ds (old_or_new t d ds).drivers
  known_keeps = by_test (first_pin t ds <? length ds) (λ y. rw y (keeps_refl ds)) (λ n. rw n (snoc_keeps ds d))

  pub known_at : driver_at (old_or_new t d ds).drivers (first_pin t ds) ≡ d
  known_at = by_test (first_pin t ds <? length ds)
      (λ y. rw y (only (driver_at ds (first_pin t ds)) (first_found t ds (ltb-true (first_pin t ds) (length ds) y))))
      (λ n. rw n (subst (λ (k : ℕ). driver_at (ds ++ (d ∷ [])) k ≡ d) (end n) (snoc_at ds d Constant)))
    where
      end : (first_pin t ds <? length ds) ≡ false → length ds ≡ first_pin t ds
      end n = omega (arith, first_le t ds, ltb-false (first_pin t ds) (length ds) n)

  pub known_fits : first_pin t ds < length (old_or_new t d ds).drivers
  known_fits = by_test (first_pin t ds <? length ds)
      (λ y. rw y (ltb-true (first_pin t ds) (length ds) y))
      (λ n. rw n (omega (arith, first_le t ds, snoc_length ds d d)))

  -- only this driver is new
  pub known_new : (u : ℕ) → length ds ≤ u → u < length (old_or_new t d ds).drivers → driver_at (old_or_new t d ds).drivers u ≡ d
  known_new u h = by_test (first_pin t ds <? length ds)
      (λ y. rw y (λ k. absurd (omega arith)))
      (λ n. rw n (λ k. subst (λ (w : ℕ). driver_at (ds ++ (d ∷ [])) w ≡ d) (omega (arith, snoc_length ds d d)) (snoc_at ds d Constant)))

  -- and at most one
  pub known_longer : length (old_or_new t d ds).drivers ≤ suc (length ds)
  known_longer = by_test (first_pin t ds <? length ds) (λ y. rw y (omega arith)) (λ n. rw n (omega (arith, snoc_length ds d d)))

  pub known_sound : Sound ds → (Fresh ds d → Fits ds d) → Sound (old_or_new t d ds).drivers
  known_sound w f = by_test (first_pin t ds <? length ds)
      (λ y. rw y w)
      (λ n. rw n (snoc_sound ds d w (f (λ v h e. true≢false (t (driver_at ds v)) (ap t e ∙ self) (first_none t ds (ltb-false (first_pin t ds) (length ds) n) v h)))))

  -- where it is known nothing is made
  pub known_same : first_pin t ds < length ds → (old_or_new t d ds).drivers ≡ ds
  known_same h = rw (lt-ltb (first_pin t ds) (length ds) h)

-- ---- which drivers pass
pair_self : (a b : ℕ) → is_pair a b (gate a b) ≡ true
pair_self a b = rw (eq-eqb a a refl, eq-eqb b b refl)

pair_only : (a b : ℕ) (x : Driver) → is_pair a b x ≡ true → x ≡ gate a b
pair_only a b (And x y) h = and_both (a == x.word) (b == y.word) h (λ p q. rw (eqb-true a x.word p, eqb-true b y.word q))
pair_only a b (Port q) h = true≢false false h refl
pair_only a b (Flag q e) h = true≢false false h refl
pair_only a b (Dff c) h = true≢false false h refl
pair_only a b (Ram c) h = true≢false false h refl
pair_only a b Constant h = true≢false false h refl

pub flag_self : (q : ℕ) (e : Edge) → is_flag q e (Flag q e) ≡ true
flag_self q Rising = eq-eqb q q refl
flag_self q Falling = eq-eqb q q refl

pub flag_only : (q : ℕ) (e : Edge) (x : Driver) → is_flag q e x ≡ true → x ≡ Flag q e
flag_only q e (And x y) h = true≢false false h refl
flag_only q e (Port p) h = true≢false false h refl
flag_only q Rising (Flag p Rising) h = rw (eqb-true q p h)
flag_only q Rising (Flag p Falling) h = true≢false false h refl
flag_only q Falling (Flag p Rising) h = true≢false false h refl
flag_only q Falling (Flag p Falling) h = rw (eqb-true q p h)
flag_only q e (Dff c) h = true≢false false h refl
flag_only q e (Ram c) h = true≢false false h refl
flag_only q e Constant h = true≢false false h refl

-- ---- the AND step
-- by its ways: a 0, a 1, or the gate of the ordered pair
pub and_cases : (P : Made → Type 0) (ds : List Driver) (a b : ℕ)
    → (a ≡ 0 → P (record { drivers = ds; lit = 0 })) → (b ≡ 0 → P (record { drivers = ds; lit = 0 }))
    → (a ≡ 1 → P (record { drivers = ds; lit = b })) → (b ≡ 1 → P (record { drivers = ds; lit = a }))
    → (2 ≤ a → 2 ≤ b → P (old_or_new (is_pair (min a b) (max a b)) (gate (min a b) (max a b)) ds)) → P (and_of ds a b)
unfolding and_of
and_cases P ds a b p0 q0 p1 q1 g = by_test (a == 0)
    (λ t. rw t (p0 (eqb-true a 0 t)))
    (λ f. rw f (by_test (b == 0)
    (λ t. rw t (q0 (eqb-true b 0 t)))
    (λ f'. rw f' (by_test (a == 1)
    (λ t. rw t (p1 (eqb-true a 1 t)))
    (λ h. rw h (by_test (b == 1)
    (λ t. rw t (q1 (eqb-true b 1 t)))
    (λ h'. rw h' (g (omega (arith, eqb-false a 0 f, eqb-false a 1 h)) (omega (arith, eqb-false b 0 f', eqb-false b 1 h'))))))))))

-- the test and the driver of a new gate
module _ (ds : List Driver) (a b : ℕ) where
  abbrev test : Driver → Bool
  test = is_pair (min a b) (max a b)

  abbrev new : Driver
  new = gate (min a b) (max a b)

  abbrev self : is_pair (min a b) (max a b) (gate (min a b) (max a b)) ≡ true
  self = pair_self (min a b) (max a b)

  abbrev only : (x : Driver) → is_pair (min a b) (max a b) x ≡ true → x ≡ gate (min a b) (max a b)
  only = pair_only (min a b) (max a b)

  pub and_grows : Grows ds (and_of ds a b).drivers
  and_grows = and_cases (λ m. Grows ds m.drivers) ds a b (λ e. grows_refl ds) (λ e. grows_refl ds) (λ e. grows_refl ds) (λ e. grows_refl ds)
      (λ ha hb. record { keeps = known_keeps test new ds self only; new = λ u h k. ap is_plain (known_new test new ds self only u h k) })

  pub and_keeps : Keeps ds (and_of ds a b).drivers
  and_keeps = and_grows.keeps

  -- at most one pin is made
  pub and_longer : length (and_of ds a b).drivers ≤ suc (length ds)
  and_longer = and_cases (λ m. length m.drivers ≤ suc (length ds)) ds a b (λ e. omega arith) (λ e. omega arith) (λ e. omega arith) (λ e. omega arith)
      (λ ha hb. known_longer test new ds self only)

  -- its answer has a pin
  pub and_fits : 0 < length ds → pin_of a < length ds → pin_of b < length ds → pin_of (and_of ds a b).lit < length (and_of ds a b).drivers
  and_fits z ha hb = and_cases (λ m. pin_of m.lit < length m.drivers) ds a b (λ e. z) (λ e. z) (λ e. hb) (λ e. ha)
      (λ ka kb. rw (even_pin (first_pin test ds)) (known_fits test new ds self only))

  -- the table stays sound
  pub and_sound : Sound ds → pin_of a < length ds → pin_of b < length ds → Sound (and_of ds a b).drivers
  and_sound w ha hb = and_cases (λ m. Sound m.drivers) ds a b (λ e. w) (λ e. w) (λ e. w) (λ e. w)
      (λ ka kb. known_sound test new ds self only w (λ fresh. record {
        no_constant = λ e. clash (cc);
        gate_fits = λ x y e. let s = gate_same (min a b) (max a b) x y e in let ex = s.0 in let ey = s.1 in
            (omega (arith, ex, ka, kb), omega (arith, ex, ha, hb), omega (arith, ey, ka, kb), omega (arith, ey, ha, hb), omega (arith, ex, ey));
        gate_fresh = λ x y e. fresh;
        flag_fresh = λ q e' e. fresh;
      }))

  -- its bit
  pub and_bit : (env : Env) (β : ℕ → Bool) → β 0 ≡ false → Agrees env β (and_of ds a b).drivers → lit_of β (and_of ds a b).lit ≡ (lit_of β a && lit_of β b)
  and_bit env β tie = and_cases (λ m. Agrees env β m.drivers → lit_of β m.lit ≡ (lit_of β a && lit_of β b)) ds a b
      (λ e g. tie ∙ rw (e, zero_bit β tie))
      (λ e g. tie ∙ sym (rw (e, zero_bit β tie) (and-false (lit_of β a))))
      (λ e g. rw (e, one_bit β tie))
      (λ e g. sym (rw (e, one_bit β tie) (and-true (lit_of β a))))
      (λ ha hb g. let u : ℕ = first_pin test ds in
      even_bit β u ∙ g u (known_fits test new ds self only)
      ∙ ap (env_bit env β u) (known_at test new ds self only)
      ∙ min-max (λ x y. (lit_of β x && lit_of β y) ≡ (lit_of β a && lit_of β b)) a b (λ h. refl) (λ h. and_comm (lit_of β b) (lit_of β a)))

-- ---- "v or not w"
module _ (ds : List Driver) (v w : ℕ) where
  pub or_grows : Grows ds (or_not ds v w).drivers
  or_grows = and_grows ds (opposite v) w

  pub or_fits : 0 < length ds → pin_of v < length ds → pin_of w < length ds → pin_of (or_not ds v w).lit < length (or_not ds v w).drivers
  or_fits z hv hw = rw (opp_pin (and_of ds (opposite v) w).lit) (and_fits ds (opposite v) w z (rw (opp_pin v) hv) hw)

  pub or_sound : Sound ds → pin_of v < length ds → pin_of w < length ds → Sound (or_not ds v w).drivers
  or_sound s hv hw = and_sound ds (opposite v) w s (rw (opp_pin v) hv) hw

  or_by_and : (x y : Bool) → not (not x && y) ≡ (x || not y)
  or_by_and true y = refl
  or_by_and false y = refl

  pub or_bit : (env : Env) (β : ℕ → Bool) → β 0 ≡ false → Agrees env β (or_not ds v w).drivers → lit_of β (or_not ds v w).lit ≡ (lit_of β v || not (lit_of β w))
  or_bit env β tie g = opp_bit β (and_of ds (opposite v) w).lit
      ∙ ap not (and_bit ds (opposite v) w env β tie g ∙ ap (λ (z : Bool). z && lit_of β w) (opp_bit β v))
      ∙ or_by_and (lit_of β v) (lit_of β w)

-- ---- the flag of a port and an edge
module _ (ds : List Driver) (q : ℕ) (e : Edge) where
  pub flag_grows : Grows ds (flag_for ds q e).drivers
  flag_grows = record {
    keeps = known_keeps (is_flag q e) (Flag q e) ds (flag_self q e) (flag_only q e);
    new = λ u h k. ap is_plain (known_new (is_flag q e) (Flag q e) ds (flag_self q e) (flag_only q e) u h k);
  }

  pub flag_fits : pin_of (flag_for ds q e).lit < length (flag_for ds q e).drivers
  flag_fits = rw (even_pin (first_pin (is_flag q e) ds)) (known_fits (is_flag q e) (Flag q e) ds (flag_self q e) (flag_only q e))

  pub flag_sound : Sound ds → Sound (flag_for ds q e).drivers
  flag_sound w = known_sound (is_flag q e) (Flag q e) ds (flag_self q e) (flag_only q e) w (λ fresh. record {
    no_constant = λ e'. clash (cc);
    gate_fits = λ x y e'. clash (cc);
    gate_fresh = λ x y e'. fresh;
    flag_fresh = λ q' e'' e'. fresh;
  })

  pub flag_bit_lem : (env : Env) (β : ℕ → Bool) → Agrees env β (flag_for ds q e).drivers → lit_of β (flag_for ds q e).lit ≡ env.flag_bit q e
  flag_bit_lem env β g = let u : ℕ = first_pin (is_flag q e) ds in
      even_bit β u ∙ g u (known_fits (is_flag q e) (Flag q e) ds (flag_self q e) (flag_only q e))
      ∙ ap (env_bit env β u) (known_at (is_flag q e) (Flag q e) ds (flag_self q e) (flag_only q e))
