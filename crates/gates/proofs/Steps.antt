-- What a step leaves, one law for each way through the code.
use mathlib.Core.Path.{◌≡◌, refl, sym, ap, subst, ◌∙◌}
use mathlib.Core.Bool.{true, false}
use mathlib.Core.Logic.{◌⊎◌, inl, inr, ⊎_elim}
use mathlib.Core.List.{List, [], ◌∷◌, ◌++◌}
use Prim.Native.Nat.{ℕ, zero, suc, ◌+◌, ◌-◌, ◌*◌, ◌/◌, ◌≤◌, ◌<◌, min, max}
use native.Mathlib.Omega.{arith}
use native.Mathlib.Numerals.{add-one}
use lib.ListN.{length, get_or, set, length-set}
use lib.Seq.{get_or-set_same, get_or-set_other}
use borrow.Author.Tests.{lt-ltb, le-ltb, eq-eqb, ne_eqb, eqb-true, eqb-false, ltb-true, ltb-false}
use Rattle.std.specs.Prelude.{Option, Some, None, ◌==◌}
use Rattle.laws.specs.Tests.{◌<?◌}
use Rattle.laws.specs.Words.{ZeroFrom}
use Rattle.laws.proofs.Tests.{by_test, true≢false, and_l, and_r}
use Rattle.laws.proofs.Words.{zero_from_at}
use Rattle.rules.specs.declared.Driver.{Driver}
use Rattle.rules.specs.declared.Driver.TheVariants.{Constant}
use Rattle.rules.specs.Graph.{literal, gate, driver_at, first_pin, is_pair, Made, old_or_new, and_by, and_of, short_cut}
use Rattle.rules.specs.Build.{is_gate}
use Rattle.rules.specs.Tables.{drivers_in}
use Rattle.drivers.specs.Written.{written, Holds}
use Rattle.drivers.proofs.Rows.{drivers_long_lem, holds_drivers, holds_more, one-longer, written-length, driver_old, driver_new}
use Rattle.gates.specs.declared.Step.{Step}
use Rattle.gates.specs.Step.{bucket_of, in_bucket, top_below, rows_of, chained, Ready, got, Leaves, grown, full, Paired, Stepped}
use Rattle.gates.proofs.Pairs.{first_le}
use Rattle.gates.proofs.Chains.{top_same, first_past, gate_pair, gate_bucket, driver_past}
use Rattle.gates.proofs.Find.{bucket_less}

-- ---- the laws of readiness that callers cite
-- a word before the index is written
pub ready_store : (at : ℕ) (w ws : List ℕ) (pins i v : ℕ) → i < at → Ready at w ws pins → Ready at (set w i v) ws pins
ready_store at w ws pins i v l d = record {
  held = d.held;
  long = d.long;
  bounded = d.bounded;
  wide = omega (arith, length-set w i v, d.wide);
  first = d.first;
  once = d.once;
  heads = λ h k. get_or-set_other w i (at + rows_of ws + h) v 0 (λ e. omega (arith, l, e)) ∙ d.heads h k;
  links = λ g h k b. get_or-set_other w i (at + g) v 0 (λ e. omega (arith, l, e)) ∙ d.links g h k b;
}

-- only pin 0 is there, and the index is empty
pub ready_start : (at : ℕ) (w ws : List ℕ) → Holds ws (Constant ∷ []) → ZeroFrom w at → length ws ≤ 50331648 → at + 2 * length ws ≤ length w → Ready at w ws 0
ready_start at w ws h z b m = record {
  held = subst (Holds ws) (sym alone) h;
  long = omega (arith, h.long);
  bounded = b;
  wide = m;
  first = ap (λ (ds : List Driver). driver_at ds 0) alone;
  once = λ u v lo hi x y. none u lo hi x;
  heads = λ k l. zero_from_at w at (at + rows_of ws + k) z (omega arith) ∙ sym (ap (λ (ds : List Driver). top_below ds (rows_of ws) 1 k) alone);
  links = λ g k l x. zero_from_at w at (at + g) z (omega arith) ∙ sym (ap (λ (j : ℕ). top_below (drivers_in ws 0) (rows_of ws) j k) (zero_is g l));
}
  where
    alone : drivers_in ws 0 ≡ Constant ∷ []
    alone = holds_drivers ws (Constant ∷ []) 0 h refl

    zero_is : (g : ℕ) → g ≤ 0 → g ≡ 0
    zero_is g l = omega (arith, l)

    constant : (u : ℕ) → driver_at (Constant ∷ []) u ≡ Constant
    constant zero = refl
    constant (suc u) = refl

    none : {P : Type 0} (u lo hi : ℕ) → is_pair lo hi (driver_at (drivers_in ws 0) u) ≡ true → P
    none u lo hi x = true≢false false (sym (ap (is_pair lo hi) (ap (λ (ds : List Driver). driver_at ds u) alone ∙ constant u)) ∙ x) refl

-- ---- one driver more in the table
module _ (at : ℕ) (w ws : List ℕ) (pins : ℕ) (d : Driver) (l : 3 * pins + 5 < length ws) (r : Ready at w ws pins) where
  abbrev old : List Driver
  old = drivers_in ws pins

  abbrev ws₁ : List ℕ
  ws₁ = written ws (pins + 1) d

  before : length (drivers_in ws pins) ≡ pins + 1
  before = drivers_long_lem ws pins

  more : length (drivers_in ws pins ++ (d ∷ [])) ≡ pins + 1 + 1
  more = one-longer (drivers_in ws pins) d ∙ ap (λ (k : ℕ). k + 1) before

  same_long : length (written ws (pins + 1) d) ≡ length ws
  same_long = written-length ws (pins + 1) d

  holds_now : Holds (written ws (pins + 1) d) (drivers_in ws pins ++ (d ∷ []))
  holds_now = subst (λ (u : ℕ). Holds (written ws u d) (drivers_in ws pins ++ (d ∷ []))) before
      (holds_more ws (drivers_in ws pins) d r.held (omega (arith, l, before)))

  pin_drivers : drivers_in (written ws (pins + 1) d) (pins + 1) ≡ drivers_in ws pins ++ (d ∷ [])
  pin_drivers = holds_drivers (written ws (pins + 1) d) (drivers_in ws pins ++ (d ∷ [])) (pins + 1) holds_now more

  abbrev new : List Driver
  new = drivers_in (written ws (pins + 1) d) (pins + 1)

  rows_same : rows_of (written ws (pins + 1) d) ≡ rows_of ws
  rows_same = ap (λ (k : ℕ). k / 3) same_long

  as_before : (u : ℕ) → u ≤ pins → driver_at new u ≡ driver_at old u
  as_before u k = ap (λ (x : List Driver). driver_at x u) pin_drivers ∙ driver_old old d u (omega (arith, k, before))

  at_last : driver_at new (pins + 1) ≡ d
  at_last = ap (λ (x : List Driver). driver_at x (pins + 1)) pin_drivers ∙ ap (driver_at (old ++ (d ∷ []))) (sym before) ∙ driver_new old d

  past_last : (u : ℕ) → pins + 1 < u → driver_at new u ≡ Constant
  past_last u k = driver_past new u (omega (arith, k, ap length pin_drivers, more))

  top_old : (rows h k : ℕ) → k ≤ pins + 1 → top_below new rows k h ≡ top_below old rows k h
  top_old rows h k e = top_same old new rows h k (λ u x. as_before u (omega (arith, x, e)))

  -- with the words of the index for it
  ready_more : (w' : List ℕ) → length w' ≡ length w
      → ((u v lo hi : ℕ) → is_pair lo hi (driver_at new u) ≡ true → is_pair lo hi (driver_at new v) ≡ true → u ≡ v)
      → ((h : ℕ) → h < 2 * rows_of ws + 1 → get_or w' (at + rows_of ws + h) 0 ≡ top_below new (rows_of ws) (pins + 1 + 1) h)
      → ((g h : ℕ) → g ≤ pins + 1 → in_bucket (rows_of ws) h (driver_at new g) ≡ true → get_or w' (at + g) 0 ≡ top_below new (rows_of ws) g h)
      → Ready at w' (written ws (pins + 1) d) (pins + 1)
  ready_more w' lw once heads links = record {
    held = subst (Holds ws₁) (sym pin_drivers) holds_now;
    long = omega (arith, l, same_long);
    bounded = omega (arith, r.bounded, same_long);
    wide = omega (arith, r.wide, same_long, lw);
    first = as_before 0 (omega arith) ∙ r.first;
    once = once;
    heads = λ h k. subst (λ (x : ℕ). get_or w' (at + x + h) 0 ≡ top_below new x (pins + 1 + 1) h) (sym rows_same) (heads h (omega (arith, k, rows_same)));
    links = λ g h k b. subst (λ (x : ℕ). get_or w' (at + g) 0 ≡ top_below new x g h) (sym rows_same)
        (links g h k (subst (λ (x : ℕ). in_bucket x h (driver_at new g) ≡ true) rows_same b));
  }

  -- where a pin of the new list stands
  by_pin : {P : Type 0} (u : ℕ) → (u ≤ pins → P) → (u ≡ pins + 1 → P) → (pins + 1 < u → P) → P
  by_pin u a b c = by_test (u <? pins + 1) (λ y. a (omega (arith, ltb-true u (pins + 1) y)))
      (λ n. by_test (u == pins + 1) (λ y. b (eqb-true u (pins + 1) y)) (λ k. c (omega (arith, ltb-false u (pins + 1) n, eqb-false u (pins + 1) k))))

  -- ---- a driver more, which is no gate
  module _ (g : is_gate d ≡ false) where
    no_pair : (lo hi u : ℕ) → pins < u → is_pair lo hi (driver_at new u) ≡ true → ⊥
    no_pair lo hi u k x = by_pin u (λ a. omega (arith, a, k))
        (λ e. true≢false (is_pair lo hi (driver_at new u)) x (ap (λ (v : ℕ). is_pair lo hi (driver_at new v)) e ∙ ap (is_pair lo hi) at_last ∙ gate_pair lo hi d g))
        (λ p. true≢false (is_pair lo hi (driver_at new u)) x (ap (is_pair lo hi) (past_last u p)))

    once-same : (u v lo hi : ℕ) → is_pair lo hi (driver_at new u) ≡ true → is_pair lo hi (driver_at new v) ≡ true → u ≡ v
    once-same u v lo hi x y = by_test (u <? pins + 1)
        (λ a. by_test (v <? pins + 1)
        (λ b. let p = ltb-true u (pins + 1) a in let q = ltb-true v (pins + 1) b in
        r.once u v lo hi (sym (ap (is_pair lo hi) (as_before u (omega (arith, p)))) ∙ x) (sym (ap (is_pair lo hi) (as_before v (omega (arith, q)))) ∙ y))
        (λ b. absurd (no_pair lo hi v (omega (arith, ltb-false v (pins + 1) b)) y)))
        (λ a. absurd (no_pair lo hi u (omega (arith, ltb-false u (pins + 1) a)) x))

    outside : (rows h : ℕ) → in_bucket rows h (driver_at new (pins + 1)) ≡ false
    outside rows h = ap (in_bucket rows h) at_last ∙ gate_bucket rows h d g

    top_kept : (h : ℕ) → top_below new (rows_of ws) (pins + 1 + 1) h ≡ top_below old (rows_of ws) (pins + 1) h
    top_kept h = ap (λ (k : ℕ). top_below new (rows_of ws) k h) (add-one (pins + 1)) ∙ rw (outside (rows_of ws) h) (top_old (rows_of ws) h (pins + 1) (omega arith))

    ready_pinned : Ready at w (written ws (pins + 1) d) (pins + 1)
    ready_pinned = ready_more w refl once-same
        (λ h k. r.heads h k ∙ sym (top_kept h))
        (λ u h k b. by_pin u
        (λ a. r.links u h a (sym (ap (in_bucket (rows_of ws) h) (as_before u a)) ∙ b) ∙ sym (top_old (rows_of ws) h u (omega (arith, a))))
        (λ e. true≢false (in_bucket (rows_of ws) h (driver_at new u)) b (ap (λ (v : ℕ). in_bucket (rows_of ws) h (driver_at new v)) e ∙ outside (rows_of ws) h))
        (λ p. absurd (omega (arith, k, p))))

pub ready_pin : (at : ℕ) (w ws : List ℕ) (pins : ℕ) (d : Driver) → is_gate d ≡ false → 3 * pins + 5 < length ws → Ready at w ws pins
    → Ready at w (written ws (pins + 1) d) (pins + 1) × (drivers_in (written ws (pins + 1) d) (pins + 1) ≡ drivers_in ws pins ++ (d ∷ []))
ready_pin at w ws pins d g l r = (ready_pinned at w ws pins d l r g, pin_drivers at w ws pins d l r)

-- ---- a gate more, whose pair is new, at the head of its bucket
module _ (at : ℕ) (w ws : List ℕ) (pins lo hi : ℕ) (l : 3 * pins + 5 < length ws) (r : Ready at w ws pins)
    (fresh : (u : ℕ) → u ≤ pins → is_pair lo hi (driver_at (drivers_in ws pins) u) ≡ false) where
  abbrev d₁ : Driver
  d₁ = gate lo hi

  abbrev old₁ : List Driver
  old₁ = drivers_in ws pins

  abbrev new₁ : List Driver
  new₁ = drivers_in (written ws (pins + 1) (gate lo hi)) (pins + 1)

  abbrev h₁ : ℕ
  h₁ = bucket_of (rows_of ws) lo hi

  abbrev w₁ : List ℕ
  w₁ = chained w at (rows_of ws) (pins + 1) (bucket_of (rows_of ws) lo hi)

  low-row : pins + 1 < rows_of ws
  low-row = omega (arith, l)

  low_head : at + rows_of ws + bucket_of (rows_of ws) lo hi < length w
  low_head = omega (arith, bucket_less (rows_of ws) lo hi, r.wide, l)

  chained_long : length w₁ ≡ length w
  unfolding chained
  chained_long = simp length-set

  chained_other : (j : ℕ) → (j ≡ at + (pins + 1) → ⊥) → (j ≡ at + rows_of ws + bucket_of (rows_of ws) lo hi → ⊥) → get_or w₁ j 0 ≡ get_or w j 0
  unfolding chained
  chained_other j a b =
      get_or-set_other (set w (at + (pins + 1)) (get_or w (at + rows_of ws + bucket_of (rows_of ws) lo hi) 0)) (at + rows_of ws + bucket_of (rows_of ws) lo hi) j (pins + 1) 0 b
      ∙ get_or-set_other w (at + (pins + 1)) j (get_or w (at + rows_of ws + bucket_of (rows_of ws) lo hi) 0) 0 a

  chained_head : get_or w₁ (at + rows_of ws + bucket_of (rows_of ws) lo hi) 0 ≡ pins + 1
  unfolding chained
  chained_head = get_or-set_same (set w (at + (pins + 1)) (get_or w (at + rows_of ws + bucket_of (rows_of ws) lo hi) 0)) (at + rows_of ws + bucket_of (rows_of ws) lo hi) (pins + 1) 0
      (rw (length-set w (at + (pins + 1)) (get_or w (at + rows_of ws + bucket_of (rows_of ws) lo hi) 0)) low_head)

  chained_link : get_or w₁ (at + (pins + 1)) 0 ≡ get_or w (at + rows_of ws + bucket_of (rows_of ws) lo hi) 0
  unfolding chained
  chained_link =
      get_or-set_other (set w (at + (pins + 1)) (get_or w (at + rows_of ws + bucket_of (rows_of ws) lo hi) 0)) (at + rows_of ws + bucket_of (rows_of ws) lo hi) (at + (pins + 1)) (pins + 1) 0 (λ e. omega (arith, low-row, e))
      ∙ get_or-set_same w (at + (pins + 1)) (get_or w (at + rows_of ws + bucket_of (rows_of ws) lo hi) 0) 0 (omega (arith, low-row, low_head))

  last_is : driver_at new₁ (pins + 1) ≡ gate lo hi
  last_is = at_last at w ws pins (gate lo hi) l r

  in_last : in_bucket (rows_of ws) (bucket_of (rows_of ws) lo hi) (driver_at new₁ (pins + 1)) ≡ true
  in_last = ap (in_bucket (rows_of ws) (bucket_of (rows_of ws) lo hi)) last_is ∙ eq-eqb (bucket_of (rows_of ws) lo hi) (bucket_of (rows_of ws) lo hi) refl

  bucket_last : (h : ℕ) → in_bucket (rows_of ws) h (driver_at new₁ (pins + 1)) ≡ true → bucket_of (rows_of ws) lo hi ≡ h
  bucket_last h b = eqb-true (bucket_of (rows_of ws) lo hi) h (sym (ap (in_bucket (rows_of ws) h) last_is) ∙ b)

  -- a pair of the new list is old, or the new one
  pair_where : (u a b : ℕ) → is_pair a b (driver_at new₁ u) ≡ true → (u ≤ pins) ⊎ ((u ≡ pins + 1) × (a ≡ lo) × (b ≡ hi))
  pair_where u a b x = by_pin at w ws pins (gate lo hi) l r u
      (λ k. inl k)
      (λ e. let y : is_pair a b (gate lo hi) ≡ true = sym (ap (λ (v : ℕ). is_pair a b (driver_at new₁ v)) e ∙ ap (is_pair a b) last_is) ∙ x in
      inr (e, eqb-true a lo (and_l (a == lo) (b == hi) y), eqb-true b hi (and_r (a == lo) (b == hi) y)))
      (λ k. true≢false (is_pair a b (driver_at new₁ u)) x (ap (is_pair a b) (past_last at w ws pins (gate lo hi) l r u k)))

  old_pair : (u a b : ℕ) → u ≤ pins → is_pair a b (driver_at new₁ u) ≡ true → is_pair a b (driver_at old₁ u) ≡ true
  old_pair u a b k x = sym (ap (is_pair a b) (as_before at w ws pins (gate lo hi) l r u k)) ∙ x

  clash_new : {P : Type 0} (u a b : ℕ) → u ≤ pins → is_pair a b (driver_at new₁ u) ≡ true → a ≡ lo → b ≡ hi → P
  clash_new u a b k x ea eb = true≢false (is_pair lo hi (driver_at old₁ u))
      (subst (λ (y : ℕ). is_pair lo y (driver_at old₁ u) ≡ true) eb (subst (λ (y : ℕ). is_pair y b (driver_at old₁ u) ≡ true) ea (old_pair u a b k x))) (fresh u k)

  once_more : (u v a b : ℕ) → is_pair a b (driver_at new₁ u) ≡ true → is_pair a b (driver_at new₁ v) ≡ true → u ≡ v
  once_more u v a b x y = ⊎_elim {B = (u ≡ pins + 1) × (a ≡ lo) × (b ≡ hi)}
      (λ p. ⊎_elim {B = (v ≡ pins + 1) × (a ≡ lo) × (b ≡ hi)}
      (λ q. r.once u v a b (old_pair u a b p x) (old_pair v a b q y))
      (λ q. clash_new u a b p x q.1 q.2) (pair_where v a b y))
      (λ p. ⊎_elim {B = (v ≡ pins + 1) × (a ≡ lo) × (b ≡ hi)}
      (λ q. clash_new v a b q y p.1 p.2)
      (λ q. p.0 ∙ sym q.0) (pair_where v a b y))
      (pair_where u a b x)

  heads_more : (h : ℕ) → h < 2 * rows_of ws + 1 → get_or w₁ (at + rows_of ws + h) 0 ≡ top_below new₁ (rows_of ws) (pins + 1 + 1) h
  heads_more h k = by_test (h == bucket_of (rows_of ws) lo hi)
      (λ y. let e = eqb-true h (bucket_of (rows_of ws) lo hi) y in
      ap (λ (x : ℕ). get_or w₁ (at + rows_of ws + x) 0) e ∙ chained_head
      ∙ sym (ap (λ (j : ℕ). top_below new₁ (rows_of ws) j h) (add-one (pins + 1)) ∙ rw (ap (λ (x : ℕ). in_bucket (rows_of ws) x (driver_at new₁ (pins + 1))) e ∙ in_last)))
      (λ n. let ne = eqb-false h (bucket_of (rows_of ws) lo hi) n in
      let miss : in_bucket (rows_of ws) h (driver_at new₁ (pins + 1)) ≡ false = ap (in_bucket (rows_of ws) h) last_is ∙ ne_eqb (bucket_of (rows_of ws) lo hi) h (λ e. ne (sym e)) in
      chained_other (at + rows_of ws + h) (λ e. omega (arith, low-row, e)) (λ e. ne (omega (arith, e))) ∙ r.heads h k
      ∙ sym (ap (λ (j : ℕ). top_below new₁ (rows_of ws) j h) (add-one (pins + 1)) ∙ rw miss (top_old at w ws pins (gate lo hi) l r (rows_of ws) h (pins + 1) (omega arith))))

  links_more : (g h : ℕ) → g ≤ pins + 1 → in_bucket (rows_of ws) h (driver_at new₁ g) ≡ true → get_or w₁ (at + g) 0 ≡ top_below new₁ (rows_of ws) g h
  links_more g h k b = by_pin at w ws pins (gate lo hi) l r g
      (λ a. chained_other (at + g) (λ e. omega (arith, a, e)) (λ e. omega (arith, a, low-row, e))
      ∙ r.links g h a (sym (ap (in_bucket (rows_of ws) h) (as_before at w ws pins (gate lo hi) l r g a)) ∙ b)
      ∙ sym (top_old at w ws pins (gate lo hi) l r (rows_of ws) h g (omega (arith, a))))
      (λ e. let same : bucket_of (rows_of ws) lo hi ≡ h = bucket_last h (sym (ap (λ (v : ℕ). in_bucket (rows_of ws) h (driver_at new₁ v)) e) ∙ b) in
      ap (λ (v : ℕ). get_or w₁ (at + v) 0) e ∙ chained_link ∙ r.heads (bucket_of (rows_of ws) lo hi) (bucket_less (rows_of ws) lo hi)
      ∙ ap (top_below old₁ (rows_of ws) (pins + 1)) same ∙ sym (top_old at w ws pins (gate lo hi) l r (rows_of ws) h (pins + 1) (omega arith))
      ∙ ap (λ (v : ℕ). top_below new₁ (rows_of ws) v h) (sym e))
      (λ p. absurd (omega (arith, k, p)))

  ready_gate : Ready at w₁ (written ws (pins + 1) (gate lo hi)) (pins + 1)
  ready_gate = ready_more at w ws pins (gate lo hi) l r w₁ chained_long once_more heads_more links_more

-- a step that makes nothing
unchanged : (at : ℕ) (m : Made) (w ws : List ℕ) (pins l : ℕ) → Ready at w ws pins → ◌≡◌ {A = Made} m (record { drivers = drivers_in ws pins; lit = l })
    → Leaves at m w ws w ws (got (literal l) pins)
unchanged at m w ws pins l d e = subst (λ (x : Made). Leaves at x w ws w ws (got (literal l) pins)) (sym e)
    (grown (record {
      room = omega (arith, d.long, long);
      answer = ap (λ (k : ℕ). got (literal l) k) (sym count);
      drivers = ap (drivers_in ws) count;
      ready = subst (Ready at w ws) (sym count) d;
      same_length = refl;
      below = record { long = refl; same = λ j l. refl };
    }))
  where
    long : length (drivers_in ws pins) ≡ pins + 1
    long = drivers_long_lem ws pins

    count : length (drivers_in ws pins) - 1 ≡ pins
    count = omega (arith, long)

module _ (at : ℕ) (w ws : List ℕ) (pins lo hi r : ℕ) (ready : Ready at w ws pins) (found : r ≡ first_pin (is_pair lo hi) (drivers_in ws pins)) where
  ds : List Driver
  ds = drivers_in ws pins

  long : length (drivers_in ws pins) ≡ pins + 1
  long = drivers_long_lem ws pins

  -- the pair is known
  pub pair_old : r ≤ pins → Paired at w ws pins lo hi w ws (got (literal (2 * r)) pins)
  pair_old l = unchanged at (old_or_new (is_pair lo hi) (gate lo hi) (drivers_in ws pins)) w ws pins (2 * r) ready
      (rw (← found, lt-ltb r (length (drivers_in ws pins)) (omega (arith, l, long))))

  -- the pair is new
  module _ (past : pins < r) where
    next : r ≡ length (drivers_in ws pins)
    next = omega (arith, past, found, long, first_le (is_pair lo hi) (drivers_in ws pins))

    made_is : ◌≡◌ {A = Made} (old_or_new (is_pair lo hi) (gate lo hi) (drivers_in ws pins))
        (record { drivers = drivers_in ws pins ++ (gate lo hi ∷ []); lit = 2 * r })
    made_is = rw (← found, le-ltb r (length (drivers_in ws pins)) (omega (arith, next)))

    pub pair_full : length ws < 3 * r + 3 → Paired at w ws pins lo hi w ws None
    pair_full s = subst (λ (x : Made). Leaves at x w ws w ws None) (sym made_is)
        (full (record { no_room = omega (arith, s, next, one-longer (drivers_in ws pins) (gate lo hi)); answer = refl; table = refl; words = refl }))

    module _ (ws' w' : List ℕ) (s : 3 * r + 3 ≤ length ws) (e : ws' ≡ written ws r (gate lo hi))
        (c : w' ≡ chained w at (length ws' / 3) r (bucket_of (length ws' / 3) lo hi)) where
      r_is : r ≡ pins + 1
      r_is = omega (arith, next, long)

      room : 3 * pins + 5 < length ws
      room = omega (arith, s, r_is)

      table_is : ws' ≡ written ws (pins + 1) (gate lo hi)
      table_is = e ∙ ap (λ (u : ℕ). written ws u (gate lo hi)) r_is

      same : length ws' ≡ length ws
      same = ap length e ∙ written-length ws r (gate lo hi)

      words_are : w' ≡ chained w at (rows_of ws) (pins + 1) (bucket_of (rows_of ws) lo hi)
      words_are = c ∙ (λ i. chained w at (same i / 3) (r_is i) (bucket_of (same i / 3) lo hi))

      fresh : (u : ℕ) → u ≤ pins → is_pair lo hi (driver_at (drivers_in ws pins) u) ≡ false
      fresh u k = first_past (is_pair lo hi) (drivers_in ws pins) (omega (arith, found, next)) u (omega (arith, k, long))

      one : length (drivers_in ws pins ++ (gate lo hi ∷ [])) ≡ length (drivers_in ws pins) + 1
      one = one-longer (drivers_in ws pins) (gate lo hi)

      count : length (drivers_in ws pins ++ (gate lo hi ∷ [])) - 1 ≡ pins + 1
      count = omega (arith, one, long)

      pub pair_new : Paired at w ws pins lo hi w' ws' (got (literal (2 * r)) r)
      pair_new = subst (λ (x : Made). Leaves at x w ws w' ws' (got (literal (2 * r)) r)) (sym made_is)
          (grown (record {
            room = omega (arith, s, next, one);
            answer = ap (λ (k : ℕ). got (literal (2 * r)) k) (r_is ∙ sym count);
            drivers = ap (drivers_in ws') count ∙ ap (λ (x : List ℕ). drivers_in x (pins + 1)) table_is ∙ pin_drivers at w ws pins (gate lo hi) room ready;
            ready = subst (Ready at w' ws') (sym count)
                (subst (λ (x : List ℕ). Ready at x ws' (pins + 1)) (sym words_are)
                (subst (λ (x : List ℕ). Ready at (chained w at (rows_of ws) (pins + 1) (bucket_of (rows_of ws) lo hi)) x (pins + 1)) (sym table_is) (ready_gate at w ws pins lo hi room ready fresh)));
            same_length = same;
            below = record {
              long = ap length words_are ∙ chained_long at w ws pins lo hi room ready fresh;
              same = λ j k. ap (λ (x : List ℕ). get_or x j 0) words_are
                  ∙ chained_other at w ws pins lo hi room ready fresh j (λ z. omega (arith, k, z)) (λ z. omega (arith, k, z));
            };
          }))

-- ---- the six ways of the AND, in order
module _ (at : ℕ) (w ws : List ℕ) (pins a b : ℕ) (ready : Ready at w ws pins) where
  is_short : (l : ℕ) → short_cut a b ≡ Some l → Stepped at w ws pins a b w ws (got (literal l) pins)
  unfolding and_of
  is_short l e = unchanged at (and_of (drivers_in ws pins) a b) w ws pins l ready (ap (and_by (drivers_in ws pins) a b) e)

  is_pair_lem : short_cut a b ≡ None → and_of (drivers_in ws pins) a b ≡ old_or_new (is_pair (min a b) (max a b)) (gate (min a b) (max a b)) (drivers_in ws pins)
  unfolding and_of
  is_pair_lem e = ap (and_by (drivers_in ws pins) a b) e

  pub first_zero : a ≡ 0 → Stepped at w ws pins a b w ws (got (literal a) pins)
  first_zero e = is_short a (rw (eq-eqb a 0 e) (ap Some (sym e)))

  module _ (a≢0 : a ≡ 0 → ⊥) where
    pub second_zero : b ≡ 0 → Stepped at w ws pins a b w ws (got (literal b) pins)
    second_zero e = is_short b (rw (ne_eqb a 0 a≢0, eq-eqb b 0 e) (ap Some (sym e)))

    module _ (b≢0 : b ≡ 0 → ⊥) where
      pub first_one : a ≡ 1 → Stepped at w ws pins a b w ws (got (literal b) pins)
      first_one e = is_short b (rw (ne_eqb a 0 a≢0, ne_eqb b 0 b≢0, eq-eqb a 1 e))

      module _ (a≢1 : a ≡ 1 → ⊥) where
        pub second_one : b ≡ 1 → Stepped at w ws pins a b w ws (got (literal a) pins)
        second_one e = is_short a (rw (ne_eqb a 0 a≢0, ne_eqb b 0 b≢0, ne_eqb a 1 a≢1, eq-eqb b 1 e))

        module _ (b≢1 : b ≡ 1 → ⊥) (w' ws' : List ℕ) (r : Option Step) where
          long_way : short_cut a b ≡ None
          long_way = rw (ne_eqb a 0 a≢0, ne_eqb b 0 b≢0, ne_eqb a 1 a≢1, ne_eqb b 1 b≢1)

          ordered : (lo hi : ℕ) → min a b ≡ lo → max a b ≡ hi → Paired at w ws pins lo hi w' ws' r → Stepped at w ws pins a b w' ws' r
          ordered lo hi el eh p = subst (λ (m : Made). Leaves at m w ws w' ws' r)
              (sym (is_pair_lem long_way ∙ λ i. old_or_new (is_pair (el i) (eh i)) (gate (el i) (eh i)) (drivers_in ws pins))) p

          pub second_first : b < a → Paired at w ws pins b a w' ws' r → Stepped at w ws pins a b w' ws' r
          second_first l = ordered b a (omega (arith, l)) (omega (arith, l))

          pub first_first : a ≤ b → Paired at w ws pins a b w' ws' r → Stepped at w ws pins a b w' ws' r
          first_first l = ordered a b (omega (arith, l)) (omega (arith, l))
