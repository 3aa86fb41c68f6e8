-- The stages of a graph that was checked: refusals, and what they leave in the tables.
use mathlib.Core.Path.{◌≡◌, refl, sym, ap, subst, ◌∙◌}
use mathlib.Core.Logic.{inl, inr}
use mathlib.Core.Bool.{Bool, true, false, ◌&&◌}
use mathlib.Core.List.{List, [], ◌∷◌}
use Prim.Native.Nat.{ℕ, suc, ◌+◌, ◌*◌, ◌/◌, ◌<◌, ◌≤◌}
use native.Mathlib.Omega.{arith}
use lib.ListN.{length, get_or, length-append}
use Rattle.std.specs.Prelude.{Ok, Err}
use borrow.Author.Tests.{le-leb, lt-leb}
use Rattle.laws.specs.Tests.{◌≤?◌, refuse}
use Rattle.laws.specs.Lists.{count, upto}
use Rattle.laws.specs.Words.{part, zeros, filled}
use Rattle.laws.proofs.Tests.{and-false}
use Rattle.laws.proofs.Words.{zeros_at, part_none, part_length, part_filled}
use Rattle.rules.specs.declared.GraphCounts.{GraphCounts}
use Rattle.rules.specs.declared.Refusal.{Refusal}
use Rattle.rules.specs.declared.Refusal.TheVariants.{Levels, Index}
use Rattle.rules.specs.Tables.{graph_in, held, row_words, all_handed, all_taken}
use Rattle.rules.specs.Stages.{Row, stages}
use Rattle.rules.specs.Refusals.{rising, something_read}
use Rattle.rules.specs.Answers.{endpoints, stages_fit, stage_rows, refusals, answer_of, stages_size}
use Rattle.graphs.specs.Parts.{lent as words_of}
use Rattle.members.specs.Set.{SetIn, FilledUp}
use Rattle.asked.specs.Answer.{Sound}
use Rattle.asked.proofs.Begins.{room_set}
use Rattle.asked.proofs.Asked.{open_zero}
use Rattle.turns.specs.declared.Plan.{Plan}
use Rattle.stages.specs.State.{Start, stages_in, Short, Laid, Unmade, nothing, short, Unlaid}
use Rattle.plans.specs.Answer.{Plans, late_number, Staged1}

-- a row has four words
rows_length : (s : List Row) → length (stage_rows s) ≡ 4 * length s
rows_length [] = refl
rows_length (r ∷ s) = omega (arith, rows_length s, length-append (row_words r) (stage_rows s))

pub quarter : (n : ℕ) → (4 * n) / 4 ≡ n
quarter n = omega arith

module _ (c : GraphCounts) (ws os ds rs splits : List ℕ) (room : ℕ) (l h t w : List ℕ) (P : Plans c ws os ds rs splits room l h t w) where
  abbrev S : List Row
  S = stages (graph_in c (words_of ws os ds rs)) splits

  refused_by : (k : ℕ) → late_number c (words_of ws os ds rs) splits room (length h) (length t) ≡ suc k → (l' h' t' : List ℕ) → l' ≡ zeros (length l) → h' ≡ zeros (length h) → t' ≡ zeros (length t)
      → Staged1 c ws os ds rs splits room l h t l' h' t' (Err (get_or refusals k Index))
  refused_by k e l' h' t' el eh et = record {
    answer = sym (ap (λ (x : ℕ). answer_of x (stages_size S)) e);
    rows = el ∙ sym (ap (λ (x : ℕ). held x (stage_rows S) (length l)) e);
    handed = eh ∙ sym (ap (λ (x : ℕ). held x (all_handed S) (length h)) e);
    taken = et ∙ sym (ap (λ (x : ℕ). held x (all_taken S) (length t)) e);
  }

  late_13 : rising splits ≡ false → late_number c (words_of ws os ds rs) splits room (length h) (length t) ≡ 13
  unfolding late_number
  late_13 f = rw f

  pub plan_13 : (b : Bool) → b ≡ rising splits → b ≡ false → Staged1 c ws os ds rs splits room l h t l h t (Err Levels)
  plan_13 b e f = refused_by 12 (late_13 (sym e ∙ f)) l h t P.rows_zero P.handed_zero P.taken_zero

  module _ (b : Bool) (eb : b ≡ rising splits) (tb : b ≡ true) (ends : ℕ) (ee : ends ≡ endpoints c) where
    pub plan_set : SetIn w (8 * (c.pins + 1)) ends 0
    plan_set = room_set w (c.pins + 1) ends (record {
      zero = P.work_zero;
      long = omega (arith, P.sound.long);
      few = omega (arith, P.sound.few);
      ends_few = omega (arith, P.sound.ends_few);
    })

    zero_at : (j : ℕ) → get_or w j 0 ≡ 0
    zero_at j = ap (λ (x : List ℕ). get_or x j 0) P.work_zero ∙ zeros_at (length w) j

    module _ (w₁ : List ℕ) (f : FilledUp w (8 * (c.pins + 1)) ends w₁) where
      was_zero : (j : ℕ) → j < 8 * (c.pins + 1) → get_or w₁ j 0 ≡ 0
      was_zero j k = f.kept.before j k ∙ zero_at j

      pub plan_start : Start c ws os ds rs splits w₁ l h t
      plan_start = record {
        turn = record {
          sound = subst (Sound c ws os ds rs) (sym f.kept.long) P.sound;
          idle = record {
            low = omega arith;
            few = omega (arith, P.sound.few);
            fits = P.sound.fits;
            drivers_long = P.sound.drivers_long;
            flags = λ p k. rw (was_zero (c.pins + 1 + p) (omega arith)) (omega arith);
            marks = λ j k. was_zero j (omega arith);
            middle = λ j k u. was_zero j u;
            lefts = subst (λ (x : ℕ). SetIn w₁ (8 * (c.pins + 1)) x x) ee f.holds;
          };
          before = record {
            stops = record { stop = λ p k. rw (part_none h 0) (was_zero (c.pins + 1 + p) (omega arith)) };
            inside = λ p k. absurd (omega (arith, subst (λ (x : List ℕ). 0 < count p x) (part_none h 0) k));
          };
          rows_open = open_zero l P.rows_zero;
          handed_open = open_zero h P.handed_zero;
          taken_open = open_zero t P.taken_zero;
          handed_few = P.handed_few;
          taken_few = P.taken_few;
        };
        left = subst (λ (x : ℕ). part w₁ (8 * (c.pins + 1)) x ≡ upto x) ee f.members;
        climbs = sym eb ∙ tb;
        few = P.few;
      }

      module _ (w₂ l₂ h₂ t₂ : List ℕ) where
        late_is : something_read (graph_in c (words_of ws os ds rs)) (upto (endpoints c)) ≡ true → late_number c (words_of ws os ds rs) splits room (length h) (length t) ≡ refuse 11 (stages_fit S room (length h) (length t))
        unfolding late_number
        late_is y = rw (sym eb ∙ tb, y)

        late_14 : something_read (graph_in c (words_of ws os ds rs)) (upto (endpoints c)) ≡ false → late_number c (words_of ws os ds rs) splits room (length h) (length t) ≡ 14
        unfolding late_number
        late_14 n = rw (sym eb ∙ tb, n)

        in_is : stages_in c ws os ds rs splits ≡ S
        unfolding stages_in
        in_is = refl

        small : Short S l h t → stages_fit S room (length h) (length t) ≡ false
        small (inl a) = let k : room < length S = omega (arith, a, rows_length S, P.rows_long) in rw (lt-leb (length S) room k)
        small (inr (inl a)) = rw (lt-leb (length (all_handed S)) (length h) a, and-false (length S ≤? room))
        small (inr (inr a)) = rw (lt-leb (length (all_taken S)) (length t) a) (and-false ((length S ≤? room) && (length (all_handed S) ≤? length h)))

        pub plan_refused : (e : Refusal) → Unlaid c ws os ds rs splits w₁ l h t w₂ l₂ h₂ t₂ e → (l₃ h₃ t₃ : List ℕ) → l₃ ≡ zeros (length l₂) → h₃ ≡ zeros (length h₂) → t₃ ≡ zeros (length t₂)
            → Staged1 c ws os ds rs splits room l h t l₃ h₃ t₃ (Err e)
        plan_refused e u l₃ h₃ t₃ el eh et = by_reason u.why
          where
            by_number : (k : ℕ) → late_number c (words_of ws os ds rs) splits room (length h) (length t) ≡ suc k → e ≡ get_or refusals k Index
                → Staged1 c ws os ds rs splits room l h t l₃ h₃ t₃ (Err e)
            by_number k n v = subst (λ (x : Refusal). Staged1 c ws os ds rs splits room l h t l₃ h₃ t₃ (Err x)) (sym v)
                (refused_by k n l₃ h₃ t₃ (el ∙ ap zeros u.lengths.rows) (eh ∙ ap zeros u.lengths.handed) (et ∙ ap zeros u.lengths.taken))

            by_reason : Unmade c ws os ds rs splits l h t e → Staged1 c ws os ds rs splits room l h t l₃ h₃ t₃ (Err e)
            by_reason (nothing n v) = by_number 13 (late_14 n) v
            by_reason (short y a v) = by_number 10 (late_is y ∙ ap (refuse 11) (small (subst (λ (x : List Row). Short x l h t) in_is a))) v

        module _ (p : Plan) (q : Laid c ws os ds rs splits w₁ l h t w₂ l₂ h₂ t₂ p) where
          rows_are : part l₂ 0 p.rows ≡ stage_rows S
          rows_are = q.rows ∙ ap stage_rows in_is

          handed_are : part h₂ 0 p.handed ≡ all_handed S
          handed_are = q.handed ∙ ap all_handed in_is

          taken_are : part t₂ 0 p.taken ≡ all_taken S
          taken_are = q.taken ∙ ap all_taken in_is

          row_count : p.rows ≡ 4 * length S
          row_count = sym (part_length l₂ 0 p.rows (omega (arith, q.rows_open.inside))) ∙ ap length rows_are ∙ rows_length S

          handed_count : p.handed ≡ length (all_handed S)
          handed_count = sym (part_length h₂ 0 p.handed (omega (arith, q.handed_open.inside))) ∙ ap length handed_are

          taken_count : p.taken ≡ length (all_taken S)
          taken_count = sym (part_length t₂ 0 p.taken (omega (arith, q.taken_open.inside))) ∙ ap length taken_are

          pub plan_rows : p.rows ≤ 260
          plan_rows = omega (arith, q.rows_open.inside, q.lengths.rows, P.rows_long, P.room_few)

          pub plan_handed : p.handed ≤ 16777215
          plan_handed = omega (arith, q.handed_open.inside, q.lengths.handed, P.handed_few)

          pub plan_taken : p.taken ≤ 16777215
          plan_taken = omega (arith, q.taken_open.inside, q.lengths.taken, P.taken_few)

          pub plan_made : Staged1 c ws os ds rs splits room l h t l₂ h₂ t₂ (Ok (record { stages = p.rows / 4; handed = p.handed; taken = p.taken }))
          plan_made =
              let lr : length S ≤ room = omega (arith, row_count, q.rows_open.inside, q.lengths.rows, P.rows_long) in
              let lh : length (all_handed S) ≤ length h = omega (arith, handed_count, q.handed_open.inside, q.lengths.handed) in
              let lt : length (all_taken S) ≤ length t = omega (arith, taken_count, q.taken_open.inside, q.lengths.taken) in
              let e : late_number c (words_of ws os ds rs) splits room (length h) (length t) ≡ 0
              = late_is q.read ∙ rw (le-leb (length S) room lr, le-leb (length (all_handed S)) (length h) lh, le-leb (length (all_taken S)) (length t) lt) in
              let nr : p.rows / 4 ≡ length S = ap (λ (x : ℕ). x / 4) row_count ∙ quarter (length S) in
              record {
                answer = (λ i. Ok (record { stages = nr i; handed = handed_count i; taken = taken_count i })) ∙ sym (ap (λ (x : ℕ). answer_of x (stages_size S)) e);
                rows = part_filled l₂ p.rows q.rows_open.inside q.rows_open.zero ∙ (λ i. filled (rows_are i) (q.lengths.rows i)) ∙ sym (ap (λ (x : ℕ). held x (stage_rows S) (length l)) e);
                handed = part_filled h₂ p.handed q.handed_open.inside q.handed_open.zero ∙ (λ i. filled (handed_are i) (q.lengths.handed i)) ∙ sym (ap (λ (x : ℕ). held x (all_handed S) (length h)) e);
                taken = part_filled t₂ p.taken q.taken_open.inside q.taken_open.zero ∙ (λ i. filled (taken_are i) (q.lengths.taken i)) ∙ sym (ap (λ (x : ℕ). held x (all_taken S) (length t)) e);
              }
