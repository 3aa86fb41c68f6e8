-- Steps 1 and 2 as a whole: flags for the clocks, then each pin entered and left once. What they build is in order, and the literal of each
-- pin that has a logic bit has the bit of every assignment that obeys the cells.
use mathlib.Core.Path.{◌≡◌, refl, sym}
use mathlib.Core.Bool.{Bool, false}
use mathlib.Core.List.{List, [], ◌∷◌}
use Prim.Native.Nat.{ℕ, zero, suc, ◌<◌}
use native.Mathlib.Omega.{arith}
use Rattle.laws.specs.Lists.{count, over, upto}
use Rattle.laws.specs.Search.{Event, explore}
use Rattle.laws.proofs.Folds.{walk_inv}
use Rattle.laws.proofs.Ranges.{upto_in, in_upto}
use Rattle.laws.proofs.Events.{ins, outs, in_after, out_after, count_in, count_out, Proper, only_ins, proper_within, all_found, proper_fold}
use Rattle.rules.specs.declared.Driver.{Driver}
use Rattle.rules.specs.declared.Driver.TheVariants.{Dff, Ram, Constant}
use Rattle.rules.specs.Netlist.{Netlist, size}
use Rattle.rules.specs.Cells.{Env, Logic}
use Rattle.rules.specs.Graph.{driver_at}
use Rattle.rules.specs.Build.{Role, tied, wire, out_port, in_port, and_out, inv_out, buf_out, gate_out, dff_out, ram_out, nothing, role, next, events, Walk, still, root, gated, strange, far, walk, clocks, flag_of, step1, Build, entering, act, start2, step2}
use Rattle.rules.specs.Refusals.{Accepted}
use Rattle.rules.proofs.Tables.{clash}
use Rattle.rules.proofs.Roles.{next_closed}
use Rattle.rules.proofs.Accepts.{rank_of, rank_low, visits_fall}
use Rattle.builds.proofs.Literals.{lit_of}
use Rattle.builds.proofs.Growing.{is_plain, Grows, grows_refl, grows_trans, snoc_keeps, old_driver}
use Rattle.builds.proofs.Sound.{Sound, sound_start}
use Rattle.builds.proofs.Agreeing.{Agrees, agrees_keeps}
use Rattle.builds.proofs.Ands.{flag_grows, flag_sound}
use Rattle.builds.proofs.Cells.{Obeys}
use Rattle.builds.proofs.Behind.{Behind, stays, flopped}
use Rattle.builds.proofs.Leaving.{Reads, Right, leave_behind, leave_right}

-- ---- step 1
pub flag_of_grows : (ds : List Driver) (w : Walk) → Grows ds (flag_of ds w)
flag_of_grows ds still = grows_refl ds
flag_of_grows ds (root q e) = flag_grows ds q e
flag_of_grows ds (gated w e) = flag_of_grows ds w
flag_of_grows ds strange = grows_refl ds
flag_of_grows ds far = grows_refl ds

flag_of_sound : (ds : List Driver) (w : Walk) → Sound ds → Sound (flag_of ds w)
flag_of_sound ds still h = h
flag_of_sound ds (root q e) h = flag_sound ds q e h
flag_of_sound ds (gated w e) h = flag_of_sound ds w h
flag_of_sound ds strange h = h
flag_of_sound ds far h = h

pub step1_sound : (n : Netlist) → Sound (step1 n)
step1_sound n = walk_inv Sound (λ ds p. flag_of ds (walk n p)) (clocks n) (Constant ∷ []) (λ ds p m h. flag_of_sound ds (walk n p) h) sound_start

pub step1_grows : (n : Netlist) → Grows (Constant ∷ []) (step1 n)
step1_grows n = walk_inv (Grows (Constant ∷ [])) (λ ds p. flag_of ds (walk n p)) (clocks n) (Constant ∷ []) (λ ds p m h. grows_trans h (flag_of_grows ds (walk n p))) (grows_refl (Constant ∷ []))

-- no driver of it has a record
step1-plain : (n : Netlist) (u : ℕ) (d : Driver) → is_plain d ≡ false → (d ≡ Constant → ⊥) → driver_at (step1 n) u ≡ d → ⊥
step1-plain n u d plain notc e = alone u (old_driver (Constant ∷ []) (step1 n) (step1_grows n) u d plain notc e)
  where
    alone : (w : ℕ) → driver_at (Constant ∷ []) w ≡ d → ⊥
    alone zero q = notc (sym q)
    alone (suc w) q = notc (sym q)

start_behind : (n : Netlist) → Behind n [] [] (start2 (step1 n))
start_behind n = record {
  sound = step1_sound n;
  fits = λ p m. absurd (omega arith);
  flop_made_lem = λ p c m. absurd (omega arith);
  flop_only = λ c m. absurd (omega arith);
  flop_pins = λ u c e. absurd (step1-plain n u (Dff c) refl (λ e'. clash (cc)) e);
  flop_once = λ c. omega arith;
  ram_pins_lem = λ u c e. absurd (step1-plain n u (Ram c) refl (λ e'. clash (cc)) e);
  ram_data = λ c i m. absurd (omega arith);
  ram_from = λ c i m. absurd (omega arith);
  ram_inj = λ c i k m. absurd (omega arith);
  ram_only = λ c m. absurd (omega arith);
  ram_once = λ c. omega arith;
  outs_only = λ l m. absurd (omega arith);
  outs_all = λ p q m. absurd (omega arith);
  outs_once = λ l. omega arith;
}

module _ (n : Netlist) (acc : Accepted n) where
  -- ---- the visits of an accepted netlist: in a proper order, each pin left once, and none outside
  pub visited : Proper (next n) [] [] (events n) × ((p : ℕ) → p < size n → outs p (events n) ≡ 1)
  visited =
      let w = all_found (next n) (λ u. u < size n) (rank_of n acc.tables acc.no_loop) (visits_fall n acc.tables acc.no_loop) (size n) (upto (size n))
      (λ u m. (in_upto (size n) u m, rank_low n acc.tables acc.no_loop u (in_upto (size n) u m))) in
      (w.0, λ p h. w.1 p (omega (arith, upto_in (size n) p h)))

  pub inside : (p : ℕ) → 0 < ins p (events n) → p < size n
  inside = walk_inv (λ s. (p : ℕ) → 0 < ins p s → p < size n) (explore (next n) (size n)) (upto (size n)) []
      (λ s u m k. only_ins (next n) (λ x. x < size n) (λ x o h m'. next_closed n acc.tables x o h m') (size n) s u k (in_upto (size n) u m))
      (λ p m. absurd (omega arith))

  -- the pins entered and the pins left, in the end
  abbrev pub all_in : List ℕ
  all_in = in_after [] (events n)

  abbrev pub all_out : List ℕ
  all_out = out_after [] (events n)

  pub all_left : (p : ℕ) → p < size n → 0 < count p all_out
  all_left p h = omega (arith, count_out (events n) [] p, visited.1 p h)

  pub all_in_lem : (p : ℕ) → p < size n → 0 < count p all_in
  all_in_lem p h = omega (arith, count_in (events n) [] p, proper_within (next n) (events n) [] [] p visited.0 (omega (arith, visited.1 p h)))

  -- ---- a pin is entered
  enter_behind : (ent lft : List ℕ) (s : Build) (p : ℕ) (r : Role) → role n p ≡ r → count p ent ≡ 0 → p < size n → Behind n ent lft s → Behind n (p ∷ ent) lft (entering s r)
  enter_behind ent lft s p (tied b) e z h i = stays n ent lft s p i (λ c e'. clash (cc))
  enter_behind ent lft s p (wire q) e z h i = stays n ent lft s p i (λ c e'. clash (cc))
  enter_behind ent lft s p (out_port q) e z h i = stays n ent lft s p i (λ c e'. clash (cc))
  enter_behind ent lft s p in_port e z h i = stays n ent lft s p i (λ c e'. clash (cc))
  enter_behind ent lft s p (and_out x y z' a b) e z h i = stays n ent lft s p i (λ c e'. clash (cc))
  enter_behind ent lft s p (inv_out a) e z h i = stays n ent lft s p i (λ c e'. clash (cc))
  enter_behind ent lft s p (buf_out a) e z h i = stays n ent lft s p i (λ c e'. clash (cc))
  enter_behind ent lft s p (gate_out cp en) e z h i = stays n ent lft s p i (λ c e'. clash (cc))
  enter_behind ent lft s p (dff_out c) e z h i = flopped n acc ent lft s p c i z h e
  enter_behind ent lft s p (ram_out c b) e z h i = stays n ent lft s p i (λ c e'. clash (cc))
  enter_behind ent lft s p nothing e z h i = stays n ent lft s p i (λ c e'. clash (cc))

  enter_right : (env : Env) (v β : ℕ → Bool) (lft : List ℕ) (s : Build) (r : Role) → Right n env v β lft s → Right n env v β lft (entering s r)
  enter_right env v β lft s (tied b) h = h
  enter_right env v β lft s (wire q) h = h
  enter_right env v β lft s (out_port q) h = h
  enter_right env v β lft s in_port h = h
  enter_right env v β lft s (and_out x y z' a b) h = h
  enter_right env v β lft s (inv_out a) h = h
  enter_right env v β lft s (buf_out a) h = h
  enter_right env v β lft s (gate_out cp en) h = h
  enter_right env v β lft s (dff_out c) h = λ ag rd. h (agrees_keeps env β (snoc_keeps s.drivers (Dff c)) ag) rd
  enter_right env v β lft s (ram_out c b) h = h
  enter_right env v β lft s nothing h = h

  -- ---- step 2, event by event
  abbrev Good : List ℕ → List ℕ → Build → Type 0
  Good ent lft s = Behind n ent lft s × ((env : Env) (v β : ℕ → Bool) → Obeys n env v → Right n env v β lft s)

  good_after : (es : List Event) → Proper (next n) [] [] es → ((p : ℕ) → 0 < ins p es → p < size n) → Good (in_after [] es) (out_after [] es) (over (act n) (start2 (step1 n)) es)
  good_after es proper within = proper_fold (next n) (act n) Good (λ p. p < size n)
      (λ ent lft s u h z g. (enter_behind ent lft s u (role n u) refl z h g.0, λ env v β ob. enter_right env v β lft s (role n u) (g.1 env v β ob)))
      (λ ent lft s u h was z done g. (
        leave_behind n acc ent lft s u g.0 z h was done (role n u) refl,
        λ env v β ob. leave_right n acc ent lft s u g.0 z h was done env v β ob (role n u) refl (g.1 env v β ob),
      ))
      es [] [] (start2 (step1 n)) proper (λ p m. within p (omega arith)) (start_behind n, λ env v β ob ag rd o ho m. absurd (omega arith))

  good : Good all_in all_out (over (act n) (start2 (step1 n)) (events n))
  good = good_after (events n) visited.0 inside

  -- what the first events build
  pub behind_after : (es : List Event) → Proper (next n) [] [] es → ((p : ℕ) → 0 < ins p es → p < size n)
      → Behind n (in_after [] es) (out_after [] es) (over (act n) (start2 (step1 n)) es)
  behind_after es proper within = (good_after es proper within).0

  -- what steps 1 and 2 build
  pub step2_behind : Behind n all_in all_out (step2 n)
  unfolding step2
  step2_behind = good.0

  pub step2-right : (env : Env) (v β : ℕ → Bool) → Obeys n env v → Agrees env β (step2 n).drivers → Reads env β (step2 n)
      → (p : ℕ) → p < size n → Logic n p → lit_of β ((step2 n).lits p) ≡ v p
  unfolding step2
  step2-right env v β ob ag rd p h l = good.1 env v β ob ag rd p h (all_left p h) l
