-- The tests and the clearing, in the code's shape.
use mathlib.Core.Path.{◌≡◌, sym, ap, ◌∙◌}
use mathlib.Core.Bool.{Bool, true, false}
use mathlib.Core.List.{List, map}
use Prim.Native.Nat.{ℕ, ◌+◌, ◌*◌, ◌≤◌, ◌<◌}
use native.Mathlib.Omega.{arith}
use lib.ListN.{length, get_or, replicate}
use Rattle.laws.specs.Tests.{refuse}
use Rattle.laws.specs.Words.{zeros}
use Rattle.laws.proofs.Tests.{next-refused, refused, passed}
use Rattle.laws.proofs.Words.{part_same, zeros_at, zeros-length}
use Rattle.std.specs.Prelude.{Err}
use Rattle.rules.specs.declared.Refusal.{Refusal}
use Rattle.rules.specs.declared.Refusal.TheVariants.{Marker}
use Rattle.rules.specs.Answers.{done_of}
use Rattle.rules.specs.Netlist.{Netlist}
use Rattle.rules.specs.Build.{events}
use Rattle.rules.specs.Refusals.{check_number, mark_free, netlist_number}
use Rattle.rules.proofs.Accepts.{accepted_iff}
use Rattle.roles.specs.Reading.{tables}
use Rattle.words.specs.Tables.{written}
use Rattle.words.proofs.Tables.{written-length, written_at, written_after}
use Rattle.orders.specs.State.{event_of, events_of}
use Rattle.clocks.proofs.Numbering.{done_first}
use Rattle.checks.specs.Ready.{Sound, Tested}
use Rattle.prepares.specs.Prepared.{MadeReady, TurnedAway}

order-kept : (v w : List ℕ) (a : ℕ) → a + a ≤ length v → length w ≡ length v → ((j : ℕ) → a ≤ j → get_or w j 0 ≡ get_or v j 0) → events_of w a a ≡ events_of v a a
unfolding events_of
order-kept v w a l e same = ap (map event_of) (part_same w v a a (omega (arith, l, e)) l (λ j lo hi. same j lo))

pub prepare_fails : (kinds starts list pins nets w₀ w₁ : List ℕ) (x : Refusal) → Err x ≡ done_of (check_number (tables kinds starts list pins nets)) → length w₁ ≡ length w₀
    → TurnedAway (tables kinds starts list pins nets) w₀ w₁ x
prepare_fails kinds starts list pins nets w₀ w₁ x e l = record {
  answer = done_first (check_number (tables kinds starts list pins nets)) (refuse 10 (mark_free (tables kinds starts list pins nets))) x e;
  size_kept = l;
}

module _ (kinds starts list pins nets w₀ w₁ : List ℕ) (k : Sound (tables kinds starts list pins nets) w₁) where
  abbrev n : Netlist
  n = tables kinds starts list pins nets

  right_so : netlist_number n ≡ refuse 10 (mark_free n)
  right_so = next-refused (check_number n) (refuse 10 (mark_free n)) k.number

  module _ (w₂ : List ℕ) (free : Bool) (t : Tested (tables kinds starts list pins nets) w₁ w₂ free) (l₁ : length w₁ ≡ length w₀) (l₂ : length w₂ ≡ length w₁) where
    pub prepare_marked : free ≡ false → TurnedAway (tables kinds starts list pins nets) w₀ w₂ Marker
    prepare_marked f = record { answer = ap done_of (sym (right_so ∙ refused 10 (mark_free n) (sym t.answer ∙ f))); size_kept = l₂ ∙ l₁ }

    pub prepare_done : (w₃ : List ℕ) → free ≡ true → w₃ ≡ written w₂ 0 (replicate (2 * length list) 0) → MadeReady (tables kinds starts list pins nets) w₀ w₃
    prepare_done w₃ y e = record {
      number = none;
      fits = k.fits;
      accepted = (accepted_iff n).0 none;
      cleared = record {
        long = omega (arith, t.laid.long, same);
        order = order;
        before = λ j l. ap (λ (v : List ℕ). get_or v j 0) e ∙ zero_at j l;
        after = λ j l. kept j (omega (arith, l)) ∙ t.marks.after j (omega (arith, l)) ∙ k.rest j l;
      };
      size_kept = same ∙ l₂ ∙ l₁;
    }
      where
        none : netlist_number n ≡ 0
        none = right_so ∙ passed 10 (mark_free n) (sym t.answer ∙ y)

        room : 0 + length (zeros (2 * length list)) ≤ length w₂
        room = omega (arith, t.laid.long, zeros-length (2 * length list))

        same : length w₃ ≡ length w₂
        same = ap length e ∙ written-length w₂ 0 (replicate (2 * length list) 0) room

        zero_at : (j : ℕ) → j < 2 * length list → get_or (written w₂ 0 (replicate (2 * length list) 0)) j 0 ≡ 0
        zero_at j l = let e₀ : j ≡ 0 + j = omega arith in ap (λ (x : ℕ). get_or (written w₂ 0 (zeros (2 * length list))) x 0) e₀ ∙ written_at w₂ 0 (replicate (2 * length list) 0) room j (omega (arith, l, zeros-length (2 * length list))) ∙ zeros_at (2 * length list) j

        kept : (j : ℕ) → 2 * length list ≤ j → get_or w₃ j 0 ≡ get_or w₂ j 0
        kept j l = ap (λ (v : List ℕ). get_or v j 0) e ∙ written_after w₂ 0 (replicate (2 * length list) 0) room j (omega (arith, l, zeros-length (2 * length list)))

        order : events_of w₃ (2 * length list) (2 * length list) ≡ events n
        order = order-kept w₂ w₃ (2 * length list) (omega (arith, t.laid.long)) same kept ∙ t.laid.order
