-- What the passes leave is what the rules say of the drivers in the table.
use mathlib.Core.Path.{◌≡◌, refl, sym, ap, subst, ◌∙◌}
use mathlib.Core.List.{List, [], ◌∷◌, ◌++◌, map, append-nil}
use Prim.Native.Nat.{ℕ, zero, suc, ◌+◌, ◌-◌, ◌*◌, ◌<◌, ◌≤◌}
use native.Mathlib.Omega.{arith}
use borrow.Author.Tests.{ltb-true, ltb-false}
use lib.ListN.{length, get_or, length-append, get_or-append}
use lib.Seq.{get_or-append-add}
use Rattle.std.specs.Prelude.{◌==◌}
use Rattle.laws.specs.Tests.{◌<?◌, one}
use Rattle.laws.specs.Lists.{keep, flat, upto}
use Rattle.laws.specs.Words.{filled}
use Rattle.laws.proofs.Tests.{by_test}
use Rattle.laws.proofs.Bags.{flat-joined}
use Rattle.laws.proofs.Ranges.{map-upto, length-map-upto}
use Rattle.laws.proofs.Words.{filled_is}
use Rattle.rules.specs.declared.Driver.{Driver}
use Rattle.rules.specs.declared.Driver.TheVariants.{And, Port, Flag, Dff, Ram, Constant}
use Rattle.rules.specs.Graph.{operands, driver_at}
use Rattle.rules.specs.Build.{down_from, reads_by, gates_reading, fanouts_below, fanouts, fanout_starts, is_gate, gate_count}
use Rattle.rules.specs.Tables.{decode_at, driver_or, drivers_in}
use Rattle.walk.specs.State.{Operands}
use Rattle.walk.proofs.Leads.{says-gate, says_none}
use Rattle.fanouts.specs.Fans.{operands_of, readings, readers_of, counts_to, Placed, Placing}
use Rattle.fanouts.proofs.Readings.{gate-operands, no_operands, by_tag, readings_in, readers_count, counts_suc, counts_zero, counts_all}

-- ---- the words of a pin say its operands
operands_are : (ws : List ℕ) (u : ℕ) → operands (driver_or (decode_at ws u)) ≡ operands_of ws u
operands_are ws u = by_tag ws u
    (λ t. ap (λ d. operands (driver_or d)) (says-gate ws u t) ∙ sym (gate-operands ws u t))
    (λ n. says_none ws u n ∙ sym (no_operands ws u n))

flat_down : (f h : ℕ → List ℕ) (n : ℕ) → ((u : ℕ) → u < n → f u ≡ h u) → flat f (down_from n) ≡ flat h (down_from n)
flat_down f h zero e = refl
flat_down f h (suc n) e = λ i. e n (omega arith) i ++ flat_down f h n (λ u l. e u (omega arith)) i

-- two readings for each gate
two_each : (d : Driver) → length (operands d) ≡ 2 * one (is_gate d)
two_each (And a b) = refl
two_each (Port q) = refl
two_each (Flag q e) = refl
two_each (Dff c) = refl
two_each (Ram c) = refl
two_each Constant = refl

keep_one : (d : Driver) (ds : List Driver) → length (keep is_gate (d ∷ ds)) ≡ one (is_gate d) + length (keep is_gate ds)
keep_one d ds = by_test (is_gate d) (λ t. rw t (omega arith)) (λ f. rw f (omega arith))

gates_twice : (ws us : List ℕ) → 2 * length (keep is_gate (map (λ u. driver_or (decode_at ws u)) us)) ≡ length (flat (operands_of ws) us)
gates_twice ws [] = refl
gates_twice ws (u ∷ us) =
    let d : Driver = driver_or (decode_at ws u) in
    omega (
      arith,
      keep_one d (map (λ v. driver_or (decode_at ws v)) us),
      gates_twice ws us,
      two_each d,
      ap length (operands_are ws u),
      length-append (operands_of ws u) (flat (operands_of ws) us),
    )

module _ (ws : List ℕ) (pins : ℕ) where
  abbrev ds : List Driver
  ds = drivers_in ws pins

  abbrev all : List ℕ
  all = readings ws (pins + 1)

  pub drivers_long_lem : length ds ≡ pins + 1
  drivers_long_lem = length-map-upto (λ u. driver_or (decode_at ws u)) (pins + 1)

  driver_is : (u : ℕ) → u < pins + 1 → driver_at ds u ≡ driver_or (decode_at ws u)
  driver_is u l = map-upto (λ v. driver_or (decode_at ws v)) Constant (pins + 1) u l

  pub readers_are : (p : ℕ) → gates_reading ds p ≡ readers_of ws (pins + 1) p
  unfolding readers_of
  readers_are p = ap (λ (n : ℕ). flat (λ u. reads_by p u (driver_at ds u)) (down_from n)) drivers_long_lem
      ∙ flat_down (λ u. reads_by p u (driver_at ds u)) (λ u. map (λ o. u) (keep (λ o. o == p) (operands_of ws u))) (pins + 1)
      (λ u l. ap (λ (os : List ℕ). map (λ o. u) (keep (λ o. o == p) os)) (ap operands (driver_is u l) ∙ operands_are ws u))

  below_more : (p : ℕ) → fanouts_below ds (suc p) ≡ fanouts_below ds p ++ readers_of ws (pins + 1) p
  below_more p = flat-joined (gates_reading ds) (upto p) (p ∷ [])
      ∙ ap (λ (l : List ℕ). fanouts_below ds p ++ l) (append-nil (gates_reading ds p) ∙ readers_are p)

  pub below_length : (p : ℕ) → length (fanouts_below ds p) ≡ counts_to all p
  below_length zero = sym (counts_zero all)
  below_length (suc p) = omega (
    arith,
    ap length (below_more p),
    length-append (fanouts_below ds p) (readers_of ws (pins + 1) p),
    below_length p,
    readers_count ws p (pins + 1),
    counts_suc all p,
  )

  pub fanouts-length : length (fanouts ds) ≡ counts_to all (pins + 1)
  fanouts-length = ap (λ (n : ℕ). length (fanouts_below ds n)) drivers_long_lem ∙ below_length (pins + 1)

  readings_twice : 2 * gate_count ds ≡ length all
  unfolding readings
  readings_twice = gates_twice ws (upto (pins + 1))

  pub gates_read : Operands ws (pins + 1) → 2 * gate_count ds ≡ counts_to all (pins + 1)
  gates_read fit = readings_twice ∙ sym (counts_all all (pins + 1) (readings_in ws (pins + 1) fit))

  -- ---- all gates are put
  module _ (s l : List ℕ) (g : Placing ws (pins + 1) s l (pins + 1)) where
    abbrev P : Placed (counts_to all) (pins + 1) (readers_of ws (pins + 1)) s l
    P = g.placed

    start_is : (p : ℕ) → p < pins + 1 → get_or s p 0 ≡ counts_to all p
    start_is p h = omega (arith, P.starts p h, readers_count ws p (pins + 1), counts_suc all p)

    starts_at : (j : ℕ) → j < length (fanout_starts ds) → get_or s j 0 ≡ get_or (fanout_starts ds) j 0
    starts_at j h =
        let n = length-map-upto (λ p. length (fanouts_below ds p)) (length ds + 1) in
        let d = drivers_long_lem in
        by_test (j <? pins + 1)
        (λ t. start_is j (ltb-true j (pins + 1) t))
        (λ f. let e : j ≡ pins + 1 = omega (arith, h, n, d, ltb-false j (pins + 1) f) in subst (λ (x : ℕ). get_or s x 0 ≡ counts_to all x) (sym e) P.last)
        ∙ sym (below_length j) ∙ sym (map-upto (λ p. length (fanouts_below ds p)) 0 (length ds + 1) j (omega (arith, h, n)))

    pub starts_filled : s ≡ filled (fanout_starts ds) (length s)
    starts_filled =
        let n = length-map-upto (λ p. length (fanouts_below ds p)) (length ds + 1) in
        let d = drivers_long_lem in
        let q = P.long in
        filled_is s (fanout_starts ds) (omega (arith, n, d, q)) starts_at (λ j h. P.past j (omega (arith, h, n, d)))

    lists_at : (p j : ℕ) → p ≤ pins + 1 → j < length (fanouts_below ds p) → get_or l j 0 ≡ get_or (fanouts_below ds p) j 0
    lists_at zero j h k = absurd (omega arith)
    lists_at (suc p) j h k =
        by_test (j <? length (fanouts_below ds p))
        (λ t. let i = ltb-true j (length (fanouts_below ds p)) t in lists_at p j (omega arith) i ∙ sym (get_or-append (fanouts_below ds p) (readers_of ws (pins + 1) p) 0 j i))
        (λ f.
        let i : ℕ = j - length (fanouts_below ds p) in
        let e : length (fanouts_below ds p) + i ≡ j = omega (arith, ltb-false j (length (fanouts_below ds p)) f) in
        let q : get_or s p 0 + i ≡ j = omega (arith, e, start_is p (omega arith), below_length p) in
        let w : i < length (readers_of ws (pins + 1) p) =
        omega (arith, e, k, ap length (below_more p), length-append (fanouts_below ds p) (readers_of ws (pins + 1) p)) in
        subst (λ (x : ℕ). get_or l x 0 ≡ get_or (readers_of ws (pins + 1) p) i 0) q (P.lists p i (omega arith) w)
        ∙ sym (get_or-append-add (fanouts_below ds p) (readers_of ws (pins + 1) p) i 0)
        ∙ ap (λ (x : ℕ). get_or (fanouts_below ds p ++ readers_of ws (pins + 1) p) x 0) e)
        ∙ ap (λ (x : List ℕ). get_or x j 0) (sym (below_more p))

    pub lists_filled : l ≡ filled (fanouts ds) (length l)
    lists_filled =
        let n = fanouts-length in
        let q = P.room in
        let e : fanouts ds ≡ fanouts_below ds (pins + 1) = ap (fanouts_below ds) drivers_long_lem in
        filled_is l (fanouts ds) (omega (arith, n, q))
        (λ j h. lists_at (pins + 1) j (omega arith) (subst (λ (x : List ℕ). j < length x) e h) ∙ ap (λ (x : List ℕ). get_or x j 0) (sym e))
        (λ j h. P.rest j (omega (arith, h, n)))
