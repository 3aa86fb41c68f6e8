-- The tests 3 to 10 one after the other, in the code's shape.
use mathlib.Core.Path.{◌≡◌, sym, ◌∙◌, ap}
use mathlib.Core.Bool.{Bool}
use mathlib.Core.List.{List, map}
use Prim.Native.Nat.{ℕ, ◌*◌}
use native.Mathlib.Omega.{arith}
use lib.ListN.{length, get_or}
use Rattle.std.specs.Prelude.{Result, Ok, Err}
use Rattle.laws.specs.Tests.{refuse}
use Rattle.laws.specs.Words.{zeros}
use Rattle.laws.proofs.Tests.{next-refused}
use Rattle.laws.proofs.Words.{zeros_at, zeros-length, part_same}
use Rattle.rules.specs.declared.Refusal.{Refusal}
use Rattle.rules.specs.Answers.{done_of}
use Rattle.rules.specs.Netlist.{Netlist}
use Rattle.rules.specs.Refusals.{tables_number, loop_free, clocks_number, check_number, mark_free}
use Rattle.roles.specs.Reading.{tables, Fits}
use Rattle.clocks.proofs.Numbering.{done_zero, done_first}
use Rattle.orders.specs.State.{event_of, events_of, Fresh, InOrder, Looped}
use Rattle.markers.specs.Marks.{LaidOut, Marked}
use Rattle.unmarked.specs.Free.{Told}
use Rattle.checks.specs.Ready.{ready_number, Asked, NotReady, Readied, Checked, Tested}

-- ---- the work words between the steps
module _ (kinds starts list pins nets w w' : List ℕ) (e : length w' ≡ length w) where
  abbrev n : Netlist
  n = tables kinds starts list pins nets

  -- the visits of all pins lay out the events
  now_laid : Fresh (length list) w → InOrder (tables kinds starts list pins nets) w w' → LaidOut (tables kinds starts list pins nets) w'
  now_laid f o = record { long = omega (arith, f.long, e); free = o.free; order = o.written }

  module _ (g : LaidOut (tables kinds starts list pins nets) w) (h : Marked (tables kinds starts list pins nets) w w') where
    -- the markers of all pins are told
    pub now_told : Told (tables kinds starts list pins nets) w'
    now_told = record { long = omega (arith, g.long, e); marks = h.marks }

    -- and leave the events where they are
    pub still_laid : LaidOut (tables kinds starts list pins nets) w'
    unfolding events_of
    still_laid = record {
      long = omega (arith, g.long, e);
      free = g.free;
      order = ap (map event_of) (part_same w' w (2 * length list) (2 * length list) (omega (arith, g.long, e)) (omega (arith, g.long)) (λ j a b. h.after j a)) ∙ g.order;
    }

    pub tested : (r : Bool) → r ≡ mark_free (tables kinds starts list pins nets) → Tested (tables kinds starts list pins nets) w w' r
    tested r q = record { answer = q; marks = h; laid = still_laid }

-- ---- 7 to 9
module _ (kinds starts list pins nets w w' : List ℕ) where
  pub ready_loops : (x : Refusal) → Looped (tables kinds starts list pins nets) w w' x → NotReady (tables kinds starts list pins nets) w w' x
  unfolding ready_number
  ready_loops x o = record { answer = rw (o.refusal, o.looped); kept = o.kept }

  pub ready_walked : length w' ≡ length w → Fresh (length list) w → InOrder (tables kinds starts list pins nets) w w' → (r : Result (Unit {0}) Refusal)
      → r ≡ done_of (clocks_number (tables kinds starts list pins nets)) → Readied (tables kinds starts list pins nets) w w' r
  unfolding ready_number
  ready_walked e f o = walked
    where
      number : ready_number (tables kinds starts list pins nets) ≡ clocks_number (tables kinds starts list pins nets)
      number = next-refused (refuse 7 (loop_free (tables kinds starts list pins nets))) (clocks_number (tables kinds starts list pins nets)) (rw o.free)

      walked : (r : Result (Unit {0}) Refusal) → r ≡ done_of (clocks_number (tables kinds starts list pins nets)) → Readied (tables kinds starts list pins nets) w w' r
      walked (Ok u) q = record {
        number = number ∙ done_zero (clocks_number (tables kinds starts list pins nets)) q;
        laid = now_laid kinds starts list pins nets w w' e f o;
        left = o.marks;
        kept = o.kept;
      }
      walked (Err x) q = record { answer = q ∙ ap done_of (sym number); kept = o.kept }

-- ---- 3 to 9
pub now_fits : (kinds starts list pins nets v : List ℕ) → Asked kinds starts list pins v → Ok tt ≡ done_of (tables_number (tables kinds starts list pins nets))
    → Fits (tables kinds starts list pins nets)
now_fits kinds starts list pins nets v a q =
    record { starts_long = a.tables_long.starts_long; pins_long = a.tables_long.pins_long; accepted = done_zero (tables_number (tables kinds starts list pins nets)) q }

pub now_fresh : (kinds starts list pins v w : List ℕ) (k : ℕ) → Asked kinds starts list pins v → w ≡ zeros k → k ≡ length v → Fresh (length list) w
now_fresh kinds starts list pins v w k a e l = record {
  long = omega (arith, a.room, l, ap length e, zeros-length k);
  small = a.small;
  clear = λ p b. ap (λ (x : List ℕ). get_or x p 0) e ∙ zeros_at k p;
}

module _ (kinds starts list pins nets : List ℕ) where
  pub checked_fails : (x : Refusal) → Err x ≡ done_of (tables_number (tables kinds starts list pins nets)) → Err x ≡ done_of (check_number (tables kinds starts list pins nets))
  unfolding ready_number
  checked_fails x q = done_first (tables_number (tables kinds starts list pins nets)) (ready_number (tables kinds starts list pins nets)) x q

  pub checked_readied : Ok tt ≡ done_of (tables_number (tables kinds starts list pins nets)) → (v : List ℕ) → Asked kinds starts list pins v → (w : List ℕ) (j : ℕ) → w ≡ zeros j
      → (w' : List ℕ) (r : Result (Unit {0}) Refusal) → Readied (tables kinds starts list pins nets) w w' r → Checked (tables kinds starts list pins nets) w' r
  unfolding ready_number
  checked_readied q v a w j c w' = checked
    where
      number : check_number (tables kinds starts list pins nets) ≡ ready_number (tables kinds starts list pins nets)
      number = next-refused (tables_number (tables kinds starts list pins nets)) (ready_number (tables kinds starts list pins nets)) (done_zero (tables_number (tables kinds starts list pins nets)) q)

      checked : (r : Result (Unit {0}) Refusal) → Readied (tables kinds starts list pins nets) w w' r → Checked (tables kinds starts list pins nets) w' r
      checked (Ok u) d = record {
        number = number ∙ d.number;
        fits = now_fits kinds starts list pins nets v a q;
        laid = d.laid;
        left = d.left;
        rest = λ i b. d.kept.rest i b ∙ ap (λ (x : List ℕ). get_or x i 0) c ∙ zeros_at j i;
      }
      checked (Err x) d = d.answer ∙ ap done_of (sym number)
