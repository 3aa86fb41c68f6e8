-- The answer of a traversal that is asked alone.
use mathlib.Core.Path.{◌≡◌, refl, sym, ap, ◌∙◌}
use mathlib.Core.Bool.{Bool, true, false}
use mathlib.Core.List.{List, []}
use Prim.Native.Nat.{ℕ, ◌+◌, ◌-◌, ◌*◌, ◌<◌, ◌≤◌}
use native.Mathlib.Omega.{arith}
use borrow.Author.Tests.{le-leb, lt-leb}
use lib.ListN.{length, get_or}
use mir.Syntax.{w32}
use mir.Val.{Fits}
use Rattle.std.specs.Prelude.{Ok, Err}
use Rattle.laws.specs.Tests.{◌≤?◌, refuse}
use Rattle.laws.specs.Lists.{member}
use Rattle.laws.specs.Search.{visits}
use Rattle.laws.specs.Words.{part, zeros, AllBelow}
use Rattle.laws.proofs.Tests.{one_le}
use Rattle.laws.proofs.Ranges.{length-map-upto}
use Rattle.laws.proofs.Words.{part_length, zeros-length, zeros_at}
use Rattle.rules.specs.declared.Refusal.{Refusal}
use Rattle.rules.specs.declared.Refusal.TheVariants.{Room, Index}
use Rattle.rules.specs.Refusals.{drivers_fit}
use Rattle.rules.specs.Stages.{back, roots_of}
use Rattle.rules.specs.Tables.{decode_at, driver_or, held}
use Rattle.rules.specs.Answers.{done_of, drivers_graph}
use Rattle.words.specs.Tables.{written}
use Rattle.words.proofs.Tables.{written-filled}
use Rattle.walk.proofs.Answered.{number_zero, answered, refused_too, held_none}
use Rattle.walk.specs.State.{list_of, Stops, Going, AllVisited, StopsSet}
use Rattle.walk.proofs.Visits.{visits_are, walk_begins}
use Rattle.traverse.specs.Answer.{number_of, visit_order, Traversed, early_number, upward, asked}
use Rattle.traverse.proofs.Early.{Sound, early_sound, number_early, number_repeat, number_last}

-- the pins that are visited are those that the rules ask for
asked_is : (ws : List ℕ) (pins : ℕ) (given : Bool) (roots : List ℕ) → asked (pins + 1) given roots ≡ roots_of (drivers_graph pins ws) given roots
asked_is ws pins true roots = refl
asked_is ws pins false roots =
    let n : length (drivers_graph pins ws).drivers ≡ pins + 1 = length-map-upto (λ u. driver_or (decode_at ws u)) (pins + 1) in
    let e : pins + 1 ≡ length (drivers_graph pins ws).drivers - 1 + 1 = omega (arith, n) in
    ap upward e

-- ---- w₁ and o₁ are the work and the order after they were cleared
module _ (ws : List ℕ) (pins : ℕ) (given : Bool) (roots handed o w o₁ w₁ : List ℕ) (eo : o₁ ≡ zeros (length o)) (ew : w₁ ≡ zeros (length w)) where
  long : length w₁ ≡ length w
  long = ap length ew ∙ zeros-length (length w)

  wide : length o₁ ≡ length o
  wide = ap length eo ∙ zeros-length (length o)

  early_is : early_number ws pins given roots handed (length o₁) (length w₁) ≡ early_number ws pins given roots handed (length o) (length w)
  early_is = λ i. early_number ws pins given roots handed (wide i) (long i)

  -- a refusal leaves both 0
  refusal : (e : Refusal) (v : List ℕ) → Err e ≡ done_of (number_of ws pins given roots handed o w) → v ≡ zeros (length w) → Traversed ws pins given roots handed o w o₁ v (Err e)
  refusal e v q z = record {
    answer = refused_too (number_of ws pins given roots handed o w) (length (visit_order ws pins given roots handed)) e q;
    order = eo ∙ held_none (number_of ws pins given roots handed o w) (visit_order ws pins given roots handed) (length o) e q;
    work = z;
  }

  pub refused_early : (e : Refusal) → Err e ≡ done_of (early_number ws pins given roots handed (length o₁) (length w₁)) → Traversed ws pins given roots handed o w o₁ w₁ (Err e)
  refused_early e q = refusal e w₁ (number_early ws pins given roots handed (length o) (length w) e (q ∙ ap done_of early_is)) ew

  module _ (u : Unit {0}) (y : Ok u ≡ done_of (early_number ws pins given roots handed (length o₁) (length w₁))) where
    z : early_number ws pins given roots handed (length o₁) (length w₁) ≡ 0
    z = number_zero (early_number ws pins given roots handed (length o₁) (length w₁)) u tt y

    pub sound : Sound ws pins given roots handed (length w₁)
    sound = early_sound ws pins given roots handed (length o₁) (length w₁) z

    zero_at : (j : ℕ) → get_or w₁ j 0 ≡ 0
    zero_at j = ap (λ (v : List ℕ). get_or v j 0) ew ∙ zeros_at (length w) j

    pub stops_asks : AllBelow (pins + 1) handed × ((2 * (pins + 1) ≤ length w₁) × Stops w₁ (pins + 1) [])
    stops_asks = let s = sound in (s.handed_below, (omega arith, record { stop = λ p l. zero_at (pins + 1 + p) }))

    module _ (w₂ : List ℕ) (b : Bool) (s : StopsSet (pins + 1) handed w₁ w₂ b) where
      -- a pin that is handed on twice; w₃ is the work after it was cleared again
      pub refused_repeat : (w₃ : List ℕ) → b ≡ false → w₃ ≡ zeros (length w₂) → Traversed ws pins given roots handed o w o₁ w₃ (Err Index)
      refused_repeat w₃ f q = refusal Index w₃ (sym (ap done_of (number_repeat ws pins given roots handed (length o) (length w) (sym early_is ∙ z) (sym s.answer ∙ f))))
          (q ∙ ap zeros (s.long ∙ long))

      module _ (t : b ≡ true) where
        flag_low : (p : ℕ) → p < pins + 1 → get_or w₂ (pins + 1 + p) 0 ≤ 1
        flag_low p l = rw (s.stops.stop p l) (one_le (member p handed))

        begins : Going ws (pins + 1) w₂ 0 0
        begins =
            let h = sound in
            let m_is : pins + 1 - 1 ≡ pins = omega arith in
            walk_begins ws (pins + 1) w₂ (omega arith) (ap (drivers_fit ws) m_is ∙ h.fits) (omega arith) (omega (arith, s.long)) flag_low
            (λ j l. s.before j l ∙ zero_at j) (λ j l u. s.after j l ∙ zero_at j)

        pub run_asks : Going ws (pins + 1) w₂ 0 0 × ((pins + 1 ≤ 16777216) × (given ≡ true → AllBelow (pins + 1) roots))
        run_asks = let h = sound in (begins, (omega arith, h.roots_below))

        pub count_fits : (w₃ : List ℕ) (k : ℕ) → AllVisited ws (pins + 1) (asked (pins + 1) given roots) w₂ 0 w₃ k → Fits w32 k
        count_fits w₃ k v = let h = sound in let g = v.going in record { fits = omega arith }

        -- w₃ is the work after the visits, w₄ after it was cleared again
        module _ (w₃ w₄ : List ℕ) (k : ℕ) (v : AllVisited ws (pins + 1) (asked (pins + 1) given roots) w₂ 0 w₃ k) (q : w₄ ≡ zeros (length w₃)) where
          abbrev nx : ℕ → List ℕ
          nx = back (drivers_graph pins ws) handed

          list_is : list_of w₃ (pins + 1) k ≡ visit_order ws pins given roots handed
          list_is = visits_are ws pins (asked (pins + 1) given roots) w₂ w₃ k handed (drivers_graph pins ws) v s.stops refl ∙ ap (visits nx) (asked_is ws pins given roots)

          list_in : 3 * (pins + 1) + k ≤ length w₃
          list_in = let g = v.going in omega arith

          count_is : length (visit_order ws pins given roots handed) ≡ k
          count_is = sym (ap length list_is) ∙ part_length w₃ (3 * (pins + 1)) k list_in

          work_is : w₄ ≡ zeros (length w)
          work_is = q ∙ ap zeros (v.kept.long ∙ s.long ∙ long)

          number_is : number_of ws pins given roots handed o w ≡ refuse 11 (length (visit_order ws pins given roots handed) ≤? length o)
          number_is = number_last ws pins given roots handed (length o) (length w) (sym early_is ∙ z) (sym s.answer ∙ t)

          pub refused_room : length o₁ < k → Traversed ws pins given roots handed o w o₁ w₄ (Err Room)
          refused_room l = refusal Room w₄
              (sym (ap done_of (number_is ∙ ap (refuse 11) (lt-leb (length (visit_order ws pins given roots handed)) (length o) (omega (arith, count_is, wide)))))) work_is

          none : k ≤ length o₁ → number_of ws pins given roots handed o w ≡ 0
          none l = number_is ∙ ap (refuse 11) (le-leb (length (visit_order ws pins given roots handed)) (length o) (omega (arith, count_is, wide)))

          pub listed : (o₃ : List ℕ) → k ≤ length o₁ → o₃ ≡ written o₁ 0 (part w₃ (3 * (pins + 1)) k) → Traversed ws pins given roots handed o w o₃ w₄ (Ok k)
          listed o₃ l p = record {
            answer = answered (number_of ws pins given roots handed o w) k _ (none l) (sym count_is);
            order = p ∙ (λ i. written (eo i) 0 (list_is i)) ∙ written-filled (visit_order ws pins given roots handed) (length o) (omega (arith, count_is, wide))
                ∙ sym (ap (λ (x : ℕ). held x (visit_order ws pins given roots handed) (length o)) (none l));
            work = work_is;
          }
