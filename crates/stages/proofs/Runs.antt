-- The stages turn by turn: what is done, and where the rest leads.
use mathlib.Core.Path.{◌≡◌, refl, sym, ap, subst, ◌∙◌}
use mathlib.Core.Logic.{inl, inr}
use mathlib.Core.Bool.{Bool, true, false, not}
use mathlib.Core.List.{List, [], ◌∷◌, ◌++◌, append-nil, append_assoc}
use Prim.Native.Nat.{ℕ, suc, ◌+◌, ◌-◌, ◌*◌, ◌<◌, ◌≤◌}
use native.Mathlib.Numerals.{add-one}
use native.Mathlib.Omega.{arith}
use lib.ListN.{length, get_or, drop, length-append}
use lib.Seq.{drop-cons, drop-length}
use borrow.Author.Tests.{le-leb, ltb-true, ltb-false}
use Rattle.std.specs.Prelude.{Option, None, Some, Result, Ok, Err, ◌⊎◌, if◌then◌else◌}
use Rattle.laws.specs.Tests.{◌<?◌}
use Rattle.laws.specs.Lists.{member, keep, every, over, is_nil, upto}
use Rattle.laws.specs.Search.{level}
use Rattle.laws.specs.Sets.{remove}
use Rattle.laws.specs.Words.{part}
use Rattle.laws.proofs.Tests.{by_test, true≢false, if_elim, and_l, and_r}
use Rattle.laws.proofs.Ranges.{map_past, length-map-upto}
use Rattle.laws.proofs.Bags.{nil_is, flat-joined}
use Rattle.laws.proofs.Words.{part_none, part_length}
use Rattle.rules.specs.declared.GraphCounts.{GraphCounts}
use Rattle.rules.specs.declared.Refusal.TheVariants.{NothingRead, Room}
use Rattle.rules.specs.declared.Driver.TheVariants.{Constant}
use Rattle.rules.specs.Graph.{Graph, operands, driver_of}
use Rattle.rules.specs.Tables.{driver_or, decode_at, record_in, ram_in, graph_in, end_marker, row_words, all_handed, all_taken}
use Rattle.rules.specs.Stages.{Stage, Row, row, onward, split, stages_from, back, within, inputs, order, start, endpoint_count}
use Rattle.rules.specs.Refusals.{something_read, rising}
use Rattle.rules.specs.Answers.{endpoints, stage_rows}
use Rattle.cuts.specs.Checked.{Checked}
use Rattle.cuts.proofs.Operands.{back_below, level-none as level-none-of}
use Rattle.cuts.proofs.Joining.{join_by, take_by}
use Rattle.cuts.proofs.Lists.{some_in}
use Rattle.cuts.proofs.Endings.{last_hands_none, next-reads}
use Rattle.graphs.specs.Parts.{lent as words_of}
use Rattle.reads.specs.Reads.{Lent}
use Rattle.levels.proofs.Ranked.{level_le}
use Rattle.turns.specs.declared.Run.{Run}
use Rattle.turns.specs.declared.Plan.{Plan}
use Rattle.turns.specs.declared.Step.{Step}
use Rattle.turns.specs.declared.Step.TheVariants.{More, Last}
use Rattle.turns.specs.declared.Outcome.{Outcome}
use Rattle.turns.specs.declared.NoRoom.{NoRoom}
use Rattle.turns.specs.State.{Turn, stage_in, Ended, GoesOn, Stopped, Stepped, Turned}
use Rattle.stages.specs.State.{LevelAt, level as at_level, none_left, Start, stages_in, Lengths, Short, Laid, nothing, short, Unlaid}

-- ---- the level of a stage
pub level-none : (splits : List ℕ) (i lower : ℕ) → length splits ≤ i → LevelAt splits i lower 4294967295 4294967295
level-none splits i lower l = none_left l refl refl

pub level_some : (splits : List ℕ) (i lower b : ℕ) → i < length splits → b ≡ get_or splits i 0 → LevelAt splits i lower b (b - lower)
level_some splits i lower b l e = at_level l e (ap (λ (x : ℕ). x - lower) e)

pub level_asks : (splits : List ℕ) (i lower b : ℕ) → (i < length splits → lower ≤ get_or splits i 0) → i < length splits → b ≡ get_or splits i 0 → lower ≤ b
level_asks splits i lower b f l e = omega (arith, f l)

-- ---- no upper end: a level is at most its pin, and pins past the graph have level 0
abbrev split_by : Graph → List ℕ → List ℕ → (ℕ → Bool) → Stage
split_by g left before ok = record {
  handed = keep (λ p. not (member p before)) (over (take_by (inputs g)) (over (join_by (back g before) ok) (start g left before) (order g left before))
      (keep (λ e. every ok (inputs g e)) left)).set;
  taken = keep (λ e. every ok (inputs g e)) left;
}

split_by_lem : (g : Graph) (left before : List ℕ) (d : Option ℕ) → split g left before d ≡ split_by g left before (λ u. within d (level (back g before) u))
unfolding split
split_by_lem g left before d = refl

no_end : (g : Graph) (left before : List ℕ) (d : ℕ) → ((u : ℕ) → level (back g before) u ≤ d) → split g left before (Some d) ≡ split g left before None
no_end g left before d h = split_by_lem g left before (Some d) ∙ (λ i. split_by g left before (λ u. le-leb (level (back g before) u) d (h u) i)) ∙ sym (split_by_lem g left before None)

-- the levels of a graph of few pins are small
levels_small : (c : GraphCounts) (ws os ds rs before : List ℕ) → Checked (graph_in c (words_of ws os ds rs)) → c.pins ≤ 16777215
    → (u : ℕ) → level (back (graph_in c (words_of ws os ds rs)) before) u ≤ 4294967295
levels_small c ws os ds rs before ck few u = by_test (u <? c.pins + 1)
    (λ t. omega (arith, ltb-true u (c.pins + 1) t, level_le (back g before) (back_below g ck before) u))
    (λ f. omega (arith, level-none_at u (past u (ltb-false u (c.pins + 1) f))))
  where
    g : Graph
    g = graph_in c (words_of ws os ds rs)

    past : (v : ℕ) → c.pins + 1 ≤ v → back (graph_in c (words_of ws os ds rs)) before v ≡ []
    past v l = if_elim (member v before) [] (operands (driver_of (graph_in c (words_of ws os ds rs)) v)) (λ (x : List ℕ). x ≡ []) (λ t. refl)
        (λ f. ap operands (map_past (λ x. driver_or (decode_at ws x)) Constant (c.pins + 1) v l))

    level-none_at : (v : ℕ) → back (graph_in c (words_of ws os ds rs)) before v ≡ [] → level (back (graph_in c (words_of ws os ds rs)) before) v ≡ 0
    level-none_at v e = level-none-of (graph_in c (words_of ws os ds rs)) ck before v e

-- ---- levels that rise
tail_rises : (b : ℕ) (bs : List ℕ) → rising (b ∷ bs) ≡ true → rising bs ≡ true
tail_rises b [] e = refl
tail_rises b (x ∷ bs) e = and_r (b <? x) (rising (x ∷ bs)) e

climb_next : (b : ℕ) (splits : List ℕ) (i : ℕ) → rising (b ∷ drop (suc i) splits) ≡ true → i + 1 < length splits → b ≤ get_or splits (i + 1) 0
climb_next b splits i e l =
    let q : suc i < length splits = omega arith in
    let d : rising (b ∷ get_or splits (suc i) 0 ∷ drop (suc (suc i)) splits) ≡ true = subst (λ (v : List ℕ). rising (b ∷ v) ≡ true) (drop-cons splits (suc i) 0 q) e in
    omega (arith, ltb-true b (get_or splits (suc i) 0) (and_l (b <? get_or splits (suc i) 0) (rising (get_or splits (suc i) 0 ∷ drop (suc (suc i)) splits)) d), ap (λ (k : ℕ). get_or splits k 0) (add-one i))

-- ---- turn by turn
-- whether something is read, whether or not there was room
abbrev pub read_by : Result Outcome NoRoom → Bool
read_by (Ok o) = o.read
read_by (Err e) = e.read

pub record Staging (c : GraphCounts) (ws os ds rs splits w₀ l₀ h₀ t₀ w l h t : List ℕ) (lower left r nh nt i : ℕ) : Type 0 where
  pub turn : Turn c ws os ds rs w l h t (record { lower = lower; left = left; rows = r; handed = nh; taken = nt })
  pub inside : i ≤ length splits
  pub few : length splits ≤ 64
  pub climb : i < length splits → lower ≤ get_or splits i 0
  pub climbs : rising (drop i splits) ≡ true
  pub done : List Row
  pub rest : stages_in c ws os ds rs splits ≡ done ++ stages_from (graph_in c (words_of ws os ds rs)) lower (part w (8 * (c.pins + 1)) left) (part h 0 nh) (drop i splits)
  pub rows_are : part l 0 r ≡ stage_rows done
  pub handed_are : part h 0 nh ≡ all_handed done
  pub taken_are : part t 0 nt ≡ all_taken done
  pub read : 0 < i → something_read (graph_in c (words_of ws os ds rs)) (part w (8 * (c.pins + 1)) left) ≡ true
  pub first : 0 < i → something_read (graph_in c (words_of ws os ds rs)) (upto (endpoints c)) ≡ true
  pub start : i ≡ 0 → part w (8 * (c.pins + 1)) left ≡ upto (endpoints c)
  pub lengths : Lengths w₀ l₀ h₀ t₀ w l h t
  pub same_work : length w ≡ length w₀
  pub same_rows : length l ≡ length l₀
  pub same_handed : length h ≡ length h₀
  pub same_taken : length t ≡ length t₀

stages_begin : (c : GraphCounts) (ws os ds rs splits : List ℕ) → Lent c os ds rs → stages_in c ws os ds rs splits ≡ stages_from (graph_in c (words_of ws os ds rs)) 0 (upto (endpoints c)) [] splits
unfolding stages_in
stages_begin c ws os ds rs splits lent =
    let e : endpoint_count (graph_in c (words_of ws os ds rs)) ≡ endpoints c
    = omega (arith, lent.outputs_long, length-map-upto (record_in ds) c.dffs, length-map-upto (ram_in rs) c.rams) in
    ap (λ (n : ℕ). stages_from (graph_in c (words_of ws os ds rs)) 0 (upto n) [] splits) e

pub run_begins : (c : GraphCounts) (ws os ds rs splits w l h t : List ℕ) (n : ℕ) → Start c ws os ds rs splits w l h t → n ≡ endpoints c
    → Staging c ws os ds rs splits w l h t w l h t 0 n 0 0 0 0
run_begins c ws os ds rs splits w l h t n s e = subst (λ (k : ℕ). Staging c ws os ds rs splits w l h t w l h t 0 k 0 0 0 0) (sym e) (record {
  turn = s.turn;
  inside = omega arith;
  few = s.few;
  climb = λ _. omega arith;
  climbs = s.climbs;
  done = [];
  rest = stages_begin c ws os ds rs splits s.turn.sound.lent
      ∙ (λ i. stages_from (graph_in c (words_of ws os ds rs)) 0 (sym s.left i) (sym (part_none h 0) i) splits);
  rows_are = part_none l 0;
  handed_are = part_none h 0;
  taken_are = part_none t 0;
  read = λ k. absurd (omega arith);
  first = λ k. absurd (omega arith);
  start = λ _. s.left;
  lengths = record { work = refl; rows = refl; handed = refl; taken = refl };
  same_work = refl;
  same_rows = refl;
  same_handed = refl;
  same_taken = refl;
})

module _ (c : GraphCounts) (ws os ds rs splits w₀ l₀ h₀ t₀ w l h t : List ℕ) (lower left r nh nt i : ℕ)
    (s : Staging c ws os ds rs splits w₀ l₀ h₀ t₀ w l h t lower left r nh nt i) where
  abbrev g : Graph
  g = graph_in c (words_of ws os ds rs)

  abbrev at : Run
  at = record { lower = lower; left = left; rows = r; handed = nh; taken = nt }

  abbrev L : List ℕ
  L = part w (8 * (c.pins + 1)) left

  abbrev B : List ℕ
  B = part h 0 nh

  pub run_turn : Turn c ws os ds rs w l h t (record { lower = lower; left = left; rows = r; handed = nh; taken = nt })
  run_turn = s.turn

  module _ (upper d : ℕ) (lv : LevelAt splits i lower upper d) where
    abbrev S : Stage
    S = stage_in c ws os ds rs w h at d

    -- the rest begins with this stage; where pins are handed on there is a level and the rest goes on from it
    abbrev Rest : Type 0
    Rest = ((S.handed ≡ [] → stages_from g lower L B (drop i splits) ≡ row lower None S ∷ []))
        × (is_nil S.handed ≡ false → (i < length splits) × (upper ≡ get_or splits i 0)
        × (stages_from g lower L B (drop i splits) ≡ row lower (Some upper) S ∷ stages_from g upper (over remove L S.taken) (B ++ S.handed) (drop (suc i) splits)))

    rest_is : LevelAt splits i lower upper d → Rest
    unfolding stages_from stage_in
    rest_is (at_level li eu ed) =
        let b = get_or splits i 0 in
        let de : drop i splits ≡ get_or splits i 0 ∷ drop (suc i) splits = drop-cons splits i 0 li in (
          (λ z. ap (stages_from g lower L B) de ∙ onward_nil (split g L B (Some (get_or splits i 0 - lower))) (ap (λ (x : ℕ). (split g L B (Some x)).handed) (sym ed) ∙ z)
              ∙ ap (λ (x : ℕ). row lower None (split g L B (Some x)) ∷ []) (sym ed)),
          λ n. (
            li,
            eu,
            ap (stages_from g lower L B) de ∙ onward-more (split g L B (Some (get_or splits i 0 - lower))) (ap (λ (x : ℕ). is_nil (split g L B (Some x)).handed) (sym ed) ∙ n)
                ∙ (λ j. row lower (Some (sym eu j)) (split g L B (Some (sym ed j))) ∷ stages_from g (sym eu j) (over remove L (split g L B (Some (sym ed j))).taken) (B ++ (split g L B (Some (sym ed j))).handed) (drop (suc i) splits)),
          ),
        )
      where
        onward_nil : (x : Stage) → x.handed ≡ [] → onward lower (get_or splits i 0) x (stages_from g (get_or splits i 0) (over remove L x.taken) (B ++ x.handed) (drop (suc i) splits)) ≡ row lower None x ∷ []
        onward_nil x z = ap (λ (y : List ℕ). if is_nil y then row lower None x ∷ [] else row lower (Some (get_or splits i 0)) x ∷ stages_from g (get_or splits i 0) (over remove L x.taken) (B ++ x.handed) (drop (suc i) splits)) z

        onward-more : (x : Stage) → is_nil x.handed ≡ false → onward lower (get_or splits i 0) x (stages_from g (get_or splits i 0) (over remove L x.taken) (B ++ x.handed) (drop (suc i) splits))
            ≡ row lower (Some (get_or splits i 0)) x ∷ stages_from g (get_or splits i 0) (over remove L x.taken) (B ++ x.handed) (drop (suc i) splits)
        onward-more x n = rw n
    rest_is (none_left li eu ed) =
        let de : drop i splits ≡ [] = (let q : i ≡ length splits = omega (arith, s.inside) in ap (λ (k : ℕ). drop k splits) q ∙ drop-length splits) in
        let ne : split g L B (Some d) ≡ split g L B None = ap (λ (x : ℕ). split g L B (Some x)) ed ∙ no_end g L B end_marker (levels_small c ws os ds rs B s.turn.sound.checked s.turn.sound.few) in (
          (λ z. ap (stages_from g lower L B) de ∙ ap (λ (x : Stage). row lower None x ∷ []) (sym ne)),
          λ n. true≢false (is_nil (split g L B None).handed) (ap is_nil (last_hands_none g s.turn.sound.checked L B)) (ap (λ (x : Stage). is_nil x.handed) (sym ne) ∙ n),
        )

    reads_on : is_nil S.handed ≡ false → something_read g (over remove L S.taken) ≡ true
    unfolding stage_in
    reads_on n = some_in (split g L B (Some d)).handed n (λ p m. next-reads g s.turn.sound.checked L B (Some d) p m)

    -- what is read now was read at first
    something : something_read g L ≡ true → something_read g (upto (endpoints c)) ≡ true
    something y = by_test (0 <? i)
        (λ t₁. s.first (ltb-true 0 i t₁))
        (λ f. let z : i ≡ 0 = omega (arith, ltb-false 0 i f) in ap (something_read g) (sym (s.start z)) ∙ y)

    nothing_at_first : something_read g L ≡ false → something_read g (upto (endpoints c)) ≡ false
    nothing_at_first n = by_test (0 <? i)
        (λ t₁. true≢false (something_read g L) (s.read (ltb-true 0 i t₁)) n)
        (λ f. let z : i ≡ 0 = omega (arith, ltb-false 0 i f) in ap (something_read g) (sym (s.start z)) ∙ n)

    first_row : {P : Type 0} → ((u : Option ℕ) (rest : List Row) → stages_in c ws os ds rs splits ≡ s.done ++ (row lower u S ∷ rest) → P) → P
    first_row k = by_test (is_nil S.handed)
        (λ e. k None [] (s.rest ∙ ap (λ (z : List Row). s.done ++ z) ((rest_is lv).0 (nil_is S.handed e))))
        (λ n. k (Some upper) (stages_from g upper (over remove L S.taken) (B ++ S.handed) (drop (suc i) splits)) (s.rest ∙ ap (λ (z : List Row). s.done ++ z) ((rest_is lv).1 n).2))

    sizes : (u : Option ℕ) (rest : List Row) → stages_in c ws os ds rs splits ≡ s.done ++ (row lower u S ∷ rest)
        → (r + 4 ≤ length (stage_rows (stages_in c ws os ds rs splits))) × (nh + length S.handed ≤ length (all_handed (stages_in c ws os ds rs splits)))
        × (nt + length S.taken ≤ length (all_taken (stages_in c ws os ds rs splits)))
    sizes u rest e = (
      omega (
        arith,
        ap (λ (z : List Row). length (stage_rows z)) e,
        ap length (flat-joined row_words s.done (row lower u S ∷ rest)),
        length-append (stage_rows s.done) (stage_rows (row lower u S ∷ rest)),
        part_length l 0 r (omega (arith, s.turn.rows_open.inside)),
        ap length s.rows_are,
      ),
      omega (
        arith,
        ap (λ (z : List Row). length (all_handed z)) e,
        ap length (flat-joined (λ z. z.stage.handed) s.done (row lower u S ∷ rest)),
        length-append (all_handed s.done) (all_handed (row lower u S ∷ rest)),
        length-append S.handed (all_handed rest),
        part_length h 0 nh (omega (arith, s.turn.handed_open.inside)),
        ap length s.handed_are,
      ),
      omega (
        arith,
        ap (λ (z : List Row). length (all_taken z)) e,
        ap length (flat-joined (λ z. z.stage.taken) s.done (row lower u S ∷ rest)),
        length-append (all_taken s.done) (all_taken (row lower u S ∷ rest)),
        length-append S.taken (all_taken rest),
        part_length t 0 nt (omega (arith, s.turn.taken_open.inside)),
        ap length s.taken_are,
      ),
    )

    -- what one row more makes of the tables
    rows_more : (u : Option ℕ) → stage_rows (s.done ++ (row lower u S ∷ [])) ≡ stage_rows s.done ++ row_words (row lower u S)
    rows_more u = flat-joined row_words s.done (row lower u S ∷ []) ∙ ap (λ (z : List ℕ). stage_rows s.done ++ z) (append-nil (row_words (row lower u S)))

    handed_more : (u : Option ℕ) → all_handed (s.done ++ (row lower u S ∷ [])) ≡ all_handed s.done ++ S.handed
    handed_more u = flat-joined (λ z. z.stage.handed) s.done (row lower u S ∷ []) ∙ ap (λ (z : List ℕ). all_handed s.done ++ z) (append-nil S.handed)

    taken_more : (u : Option ℕ) → all_taken (s.done ++ (row lower u S ∷ [])) ≡ all_taken s.done ++ S.taken
    taken_more u = flat-joined (λ z. z.stage.taken) s.done (row lower u S ∷ []) ∙ ap (λ (z : List ℕ). all_taken s.done ++ z) (append-nil S.taken)

    module _ (w' l' h' t' : List ℕ) where
      lengths_by : length w' ≡ length w → length l' ≡ length l → length h' ≡ length h → length t' ≡ length t → Lengths w₀ l₀ h₀ t₀ w' l' h' t'
      lengths_by lw ll lh lt = record { work = lw ∙ s.same_work; rows = ll ∙ s.same_rows; handed = lh ∙ s.same_handed; taken = lt ∙ s.same_taken }

      told_step : (b : Bool) (x : Step) → Stepped c ws os ds rs w l h t at upper d w' l' h' t' b x → (b ≡ something_read g L) × (length w' ≡ length w) × (length l' ≡ length l) × (length h' ≡ length h) × (length t' ≡ length t)
      told_step b (Last p) q = (q.read, q.work_long, q.rows.long, q.handed.long, q.taken.long)
      told_step b (More x) q = (q.read, q.work_long, q.rows.long, q.handed.long, q.taken.long)

      told : (r : Result Outcome NoRoom) → Turned c ws os ds rs w l h t at upper d w' l' h' t' r → (read_by r ≡ something_read g L) × (length w' ≡ length w) × (length l' ≡ length l) × (length h' ≡ length h) × (length t' ≡ length t)
      told (Ok o) q = told_step o.read o.step q
      told (Err e) u = (u.read, u.work_long, u.rows_long, u.handed_long, u.taken_long)

      -- nothing is read, whether or not there is room
      pub run_nothing : (r : Result Outcome NoRoom) → Turned c ws os ds rs w l h t at upper d w' l' h' t' r → (b : Bool) → b ≡ read_by r → b ≡ false → Unlaid c ws os ds rs splits w₀ l₀ h₀ t₀ w' l' h' t' NothingRead
      run_nothing r q b e n = record {
        why = nothing (nothing_at_first (sym (told r q).0 ∙ sym e ∙ n)) refl;
        lengths = lengths_by (told r q).1 (told r q).2 (told r q).3 (told r q).4;
      }

      pub run_narrow : (e : NoRoom) → Stopped c ws os ds rs w l h t at d w' l' h' t' e → (b : Bool) → b ≡ e.read → b ≡ true → Unlaid c ws os ds rs splits w₀ l₀ h₀ t₀ w' l' h' t' Room
      run_narrow e u b be y = record { why = short (something (sym u.read ∙ sym be ∙ y)) (by_room u.narrow) refl; lengths = lengths_by u.work_long u.rows_long u.handed_long u.taken_long }
        where
          by_room : (length l < r + 4) ⊎ ((length h < nh + length S.handed) ⊎ (length t < nt + length S.taken)) → Short (stages_in c ws os ds rs splits) l₀ h₀ t₀
          by_room (inl a) = first_row (λ u rest e. inl (omega (arith, a, s.same_rows, (sizes u rest e).0)))
          by_room (inr (inl a)) = first_row (λ u rest e. inr (inl (omega (arith, a, s.same_handed, (sizes u rest e).1))))
          by_room (inr (inr a)) = first_row (λ u rest e. inr (inr (omega (arith, a, s.same_taken, (sizes u rest e).2))))

      pub run_done : (b : Bool) (p : Plan) → Ended c ws os ds rs w l h t at d w' l' h' t' b p → b ≡ true → Laid c ws os ds rs splits w₀ l₀ h₀ t₀ w' l' h' t' p
      run_done b p q y =
          let all : stages_in c ws os ds rs splits ≡ s.done ++ (row lower None S ∷ []) = s.rest ∙ ap (λ (v : List Row). s.done ++ v) ((rest_is lv).0 q.none_handed) in
          record {
            read = something (sym q.read ∙ y);
            rows_open = q.rows.ready;
            handed_open = q.handed.ready;
            taken_open = q.taken.ready;
            rows = q.rows.words ∙ (λ j. s.rows_are j ++ (lower ∷ end_marker ∷ length (sym q.none_handed j) ∷ length S.taken ∷ [])) ∙ sym (rows_more None) ∙ ap stage_rows (sym all);
            handed = q.handed.words ∙ ap (λ (v : List ℕ). v ++ S.handed) s.handed_are ∙ sym (handed_more None) ∙ ap all_handed (sym all);
            taken = q.taken.words ∙ ap (λ (v : List ℕ). v ++ S.taken) s.taken_are ∙ sym (taken_more None) ∙ ap all_taken (sym all);
            lengths = lengths_by q.work_long q.rows.long q.handed.long q.taken.long;
          }

      pub run_goes_on : (b : Bool) (x : Run) → GoesOn c ws os ds rs w l h t at upper d w' l' h' t' b x → b ≡ true
          → Staging c ws os ds rs splits w₀ l₀ h₀ t₀ w' l' h' t' x.lower x.left x.rows x.handed x.taken (i + 1)
      run_goes_on b x q y =
          let n = (rest_is lv).1 q.some_handed in
          let li : i < length splits = n.0 in
          let eu : upper ≡ get_or splits i 0 = n.1 in
          let de : drop i splits ≡ get_or splits i 0 ∷ drop (suc i) splits = drop-cons splits i 0 li in
          let up : rising (get_or splits i 0 ∷ drop (suc i) splits) ≡ true = subst (λ (v : List ℕ). rising v ≡ true) de s.climbs in
          let ln : Lengths w₀ l₀ h₀ t₀ w' l' h' t' = lengths_by q.work_long q.rows.long q.handed.long q.taken.long in
          record {
            turn = record {
              sound = subst (λ (v : ℕ). Rattle.asked.specs.Answer.Sound c ws os ds rs v) (sym q.work_long) s.turn.sound;
              idle = q.idle;
              before = q.before;
              rows_open = q.rows.ready;
              handed_open = q.handed.ready;
              taken_open = q.taken.ready;
              handed_few = omega (arith, q.handed.long, s.turn.handed_few);
              taken_few = omega (arith, q.taken.long, s.turn.taken_few);
            };
            inside = omega arith;
            few = s.few;
            climb = λ lj. omega (arith, q.lower, eu, climb_next (get_or splits i 0) splits i up lj);
            climbs = subst (λ (v : ℕ). rising (drop v splits) ≡ true) (sym (add-one i)) (tail_rises (get_or splits i 0) (drop (suc i) splits) up);
            done = s.done ++ (row lower (Some upper) S ∷ []);
            rest = s.rest ∙ ap (λ (v : List Row). s.done ++ v) n.2
                ∙ sym (append_assoc s.done (row lower (Some upper) S ∷ []) (stages_from g upper (over remove L S.taken) (B ++ S.handed) (drop (suc i) splits)))
                ∙ (λ j. (s.done ++ (row lower (Some upper) S ∷ [])) ++ stages_from g (sym q.lower j) (sym q.left j) (sym q.handed.words j) (drop (sym (add-one i) j) splits));
            rows_are = q.rows.words ∙ ap (λ (v : List ℕ). v ++ (lower ∷ upper ∷ length S.handed ∷ length S.taken ∷ [])) s.rows_are ∙ sym (rows_more (Some upper));
            handed_are = q.handed.words ∙ ap (λ (v : List ℕ). v ++ S.handed) s.handed_are ∙ sym (handed_more (Some upper));
            taken_are = q.taken.words ∙ ap (λ (v : List ℕ). v ++ S.taken) s.taken_are ∙ sym (taken_more (Some upper));
            read = λ _. ap (something_read g) q.left ∙ reads_on q.some_handed;
            first = λ _. something (sym q.read ∙ y);
            start = λ e. absurd (omega (arith, e));
            lengths = ln;
            same_work = ln.work;
            same_rows = ln.rows;
            same_handed = ln.handed;
            same_taken = ln.taken;
          }
