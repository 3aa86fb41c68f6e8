-- A stage by its split, its row and what is settled.
use mathlib.Core.Path.{◌≡◌, refl, sym, ap, subst, ◌∙◌}
use mathlib.Core.Logic.{inl, inr}
use mathlib.Core.Bool.{false}
use mathlib.Core.List.{List, [], ◌∷◌, ◌++◌}
use Prim.Native.Nat.{ℕ, ◌+◌, ◌-◌, ◌*◌, ◌<◌, ◌≤◌}
use native.Mathlib.Omega.{arith}
use lib.ListN.{length, get_or}
use Rattle.std.specs.Prelude.{Some, ◌⊎◌, if◌then◌else◌}
use Rattle.laws.specs.Tests.{◌<?◌, one}
use Rattle.laws.specs.Lists.{count, member, over, is_nil}
use Rattle.laws.specs.Sets.{remove}
use Rattle.laws.specs.Words.{part}
use Rattle.laws.proofs.Tests.{by_test, if_true, if_false, one_le}
use Rattle.laws.proofs.Bags.{count-append, of_append, is_member, member_true, member_false}
use Rattle.laws.proofs.Indices.{at_in}
use Rattle.laws.proofs.Words.{part_at, part_in}
use Rattle.rules.specs.declared.GraphCounts.{GraphCounts}
use Rattle.rules.specs.Tables.{graph_in, end_marker}
use Rattle.rules.specs.Stages.{Stage}
use Rattle.rules.specs.Refusals.{something_read}
use Rattle.rules.specs.Answers.{endpoints}
use Rattle.cuts.proofs.Rooms.{handed_fits}
use Rattle.cuts.proofs.Next.{taken_le}
use Rattle.graphs.specs.Parts.{lent as words_of}
use Rattle.members.specs.Set.{SetIn}
use Rattle.levels.specs.State.{stops_of}
use Rattle.joins.specs.State.{Takens}
use Rattle.picks.specs.Tables.{Full, Pushed}
use Rattle.clears.specs.State.{Used}
use Rattle.splits.specs.declared.Spot.{Spot}
use Rattle.splits.specs.declared.Piece.{Piece}
use Rattle.splits.specs.declared.Narrow.{Narrow}
use Rattle.splits.specs.State.{split_in, order_in, Idle, Cut, Uncut}
use Rattle.settles.specs.State.{Settled}
use Rattle.settles.proofs.Settles.{set_same}
use Rattle.asked.proofs.Graphs.{stops_members, split_is, nothing_read}
use Rattle.turns.specs.declared.Run.{Run}
use Rattle.turns.specs.State.{Before, Turn, stage_in, Ended, GoesOn, Stopped}

pins_are : (c : GraphCounts) (ws os ds rs : List ℕ) → Rattle.rules.specs.Graph.pin_count (graph_in c (words_of ws os ds rs)) ≡ c.pins
pins_are c ws os ds rs = omega (arith, Rattle.laws.proofs.Ranges.length-map-upto (λ u. Rattle.rules.specs.Tables.driver_or (Rattle.rules.specs.Tables.decode_at ws u)) (c.pins + 1))

module _ (c : GraphCounts) (ws os ds rs w l h t : List ℕ) (at : Run) (upper d : ℕ) (T : Turn c ws os ds rs w l h t at) where
  abbrev m : ℕ
  m = c.pins + 1

  abbrev L : List ℕ
  L = part w (8 * (c.pins + 1)) at.left

  abbrev B : List ℕ
  B = part h 0 at.handed

  abbrev spot : Spot
  spot = record { m = c.pins + 1; d = d; left = at.left; handed = at.handed; taken = at.taken }

  stage_is : split_in c ws os ds rs (c.pins + 1) (part w (8 * (c.pins + 1)) at.left) (stops_of w (c.pins + 1)) d ≡ stage_in c ws os ds rs w h at d
  unfolding stage_in
  stage_is = split_is c ws os ds rs L (stops_of w (c.pins + 1)) B d (stops_members w (c.pins + 1) B T.before.stops T.before.inside T.idle.flags)

  abbrev S : Stage
  S = stage_in c ws os ds rs w h at d

  abbrev cut_stage : Stage
  cut_stage = split_in c ws os ds rs (c.pins + 1) (part w (8 * (c.pins + 1)) at.left) (stops_of w (c.pins + 1)) d

  was_read : (n : ℕ) → n ≡ length (order_in c ws os ds rs (c.pins + 1) (part w (8 * (c.pins + 1)) at.left) (stops_of w (c.pins + 1))) → (0 <? n) ≡ something_read (graph_in c (words_of ws os ds rs)) (part w (8 * (c.pins + 1)) at.left)
  was_read n e = ap (λ (k : ℕ). 0 <? k) e ∙ nothing_read c ws os ds rs L (stops_of w (c.pins + 1))

  module _ (w₁ h₁ t₁ : List ℕ) where
    -- the split has too little room, and so has the stage
    pub turn_narrow : (e : Narrow) → Uncut c ws os ds rs spot w h t w₁ h₁ t₁ e → Stopped c ws os ds rs w l h t at d w₁ l h₁ t₁ (record { read = 0 <? e.listed })
    turn_narrow e u = record {
      read = was_read e.listed u.listed;
      narrow = by_room u.narrow;
      work_long = u.work_long;
      rows_long = refl;
      handed_long = u.handed_long;
      taken_long = u.taken_long;
    }
      where
        by_room : (length h < at.handed + length cut_stage.handed) ⊎ (length t < at.taken + length cut_stage.taken)
            → (length l < at.rows + 4) ⊎ ((length h < at.handed + length S.handed) ⊎ (length t < at.taken + length S.taken))
        by_room (inl a) = inr (inl (subst (λ (k : Stage). length h < at.handed + length k.handed) stage_is a))
        by_room (inr a) = inr (inr (subst (λ (k : Stage). length t < at.taken + length k.taken) stage_is a))

    module _ (r : Piece) (q : Cut c ws os ds rs spot w h t w₁ h₁ t₁ r) where
      read_is : (0 <? r.listed) ≡ something_read (graph_in c (words_of ws os ds rs)) (part w (8 * (c.pins + 1)) at.left)
      read_is = was_read r.listed q.listed

      ph : Pushed h at.handed S.handed h₁ r.handed
      ph = subst (λ (k : Stage). Pushed h at.handed k.handed h₁ r.handed) stage_is q.handed

      pt : Pushed t at.taken S.taken t₁ r.taken
      pt = subst (λ (k : Stage). Pushed t at.taken k.taken t₁ r.taken) stage_is q.taken

      pub turn_pins : at.handed ≤ r.handed
      turn_pins = omega (arith, ph.count)

      pub turn_count : at.taken ≤ r.taken
      turn_count = omega (arith, pt.count)

      pub turn_count_few : r.taken ≤ 16777215
      turn_count_few = omega (arith, pt.inside, pt.long, T.taken_few)

      pub turn_pins_few : r.handed ≤ 16777215
      turn_pins_few = omega (arith, ph.inside, ph.long, T.handed_few)

      pins_is : r.handed - at.handed ≡ length S.handed
      pins_is = omega (arith, ph.count)

      count_is : r.taken - at.taken ≡ length S.taken
      count_is = omega (arith, pt.count)

      -- ---- the last stage
      module _ (z : r.handed - at.handed ≡ 0) where
        nothing_handed : S.handed ≡ []
        nothing_handed = empty S.handed (omega (arith, pins_is, z))
          where
            empty : (x : List ℕ) → length x ≡ 0 → x ≡ []
            empty [] e = refl
            empty (y ∷ x) e = absurd (omega arith)

        pub turn_last : (l₁ : List ℕ) (n : ℕ) → Pushed l at.rows (at.lower ∷ end_marker ∷ 0 ∷ (r.taken - at.taken) ∷ []) l₁ n
            → Ended c ws os ds rs w l h t at d w₁ l₁ h₁ t₁ (0 <? r.listed) (record { rows = n; handed = r.handed; taken = r.taken })
        turn_last l₁ n p = record {
          read = read_is;
          none_handed = nothing_handed;
          handed = ph;
          taken = pt;
          rows = subst (λ (k : ℕ). Pushed l at.rows (at.lower ∷ end_marker ∷ 0 ∷ k ∷ []) l₁ n) count_is p;
          work_long = q.stays.long;
        }

        pub turn_last_full : (l₁ : List ℕ) → Full l at.rows (at.lower ∷ end_marker ∷ 0 ∷ (r.taken - at.taken) ∷ []) l₁ → Stopped c ws os ds rs w l h t at d w₁ l₁ h₁ t₁ (record { read = 0 <? r.listed })
        turn_last_full l₁ f = record { read = read_is; narrow = inl f.small; work_long = q.stays.long; rows_long = f.long; handed_long = ph.long; taken_long = pt.long }

      -- ---- any other
      h_part : part h₁ at.handed (r.handed - at.handed) ≡ S.handed
      h_part = ap (part h₁ at.handed) pins_is ∙ ph.added

      t_part : part t₁ at.taken (r.taken - at.taken) ≡ S.taken
      t_part = ap (part t₁ at.taken) count_is ∙ pt.added

      handed_inside : (p : ℕ) → 0 < count p S.handed → p < c.pins + 1
      unfolding stage_in
      handed_inside p k = omega (arith, (handed_fits (graph_in c (words_of ws os ds rs)) T.sound.checked L B (Some d) p k).1, pins_are c ws os ds rs)

      taken_inside : (e : ℕ) → 0 < count e S.taken → e < endpoints c
      unfolding stage_in
      taken_inside e k = part_in w (8 * (c.pins + 1)) at.left e (omega (arith, T.idle.lefts.long, T.idle.lefts.few))
          (omega (arith, k, taken_le (graph_in c (words_of ws os ds rs)) L B (Some d) e)) (λ j lj ej. omega (arith, T.idle.lefts.inside j lj))

      pub turn_used : Used (c.pins + 1) w₁ r.listed r.size
      turn_used = q.used

      pub turn_row_full : (l₁ : List ℕ) → Full l at.rows (at.lower ∷ upper ∷ (r.handed - at.handed) ∷ (r.taken - at.taken) ∷ []) l₁ → Stopped c ws os ds rs w l h t at d w₁ l₁ h₁ t₁ (record { read = 0 <? r.listed })
      turn_row_full l₁ f = record { read = read_is; narrow = inl f.small; work_long = q.stays.long; rows_long = f.long; handed_long = ph.long; taken_long = pt.long }

      module _ (ends : ℕ) (ee : ends ≡ endpoints c) where
        pub turn_set : SetIn w₁ (8 * (c.pins + 1)) ends at.left
        turn_set = subst (λ (k : ℕ). SetIn w₁ (8 * (c.pins + 1)) k at.left) (sym ee)
            (set_same w w₁ (8 * (c.pins + 1)) (endpoints c) at.left q.stays.long q.stays.rest T.idle.lefts)

        pub turn_handed : Takens h₁ at.handed (r.handed - at.handed) (c.pins + 1)
        turn_handed = record {
          long = omega (arith, turn_pins, ph.inside);
          inside = λ j lj. rw (sym (part_at h₁ at.handed (r.handed - at.handed) j lj) ∙ ap (λ (x : List ℕ). get_or x j 0) h_part)
              (handed_inside (get_or S.handed j 0) (at_in S.handed j (omega (arith, pins_is))));
        }

        pub turn_taken : Takens t₁ at.taken (r.taken - at.taken) ends
        turn_taken = record {
          long = omega (arith, turn_count, pt.inside);
          inside = λ j lj. rw (sym (part_at t₁ at.taken (r.taken - at.taken) j lj) ∙ ap (λ (x : List ℕ). get_or x j 0) t_part)
              (omega (arith, taken_inside (get_or S.taken j 0) (at_in S.taken j (omega (arith, count_is))), ee));
        }

        module _ (nz : r.handed - at.handed ≡ 0 → ⊥) (w₂ : List ℕ) (left : ℕ)
            (s : Settled (c.pins + 1) ends at.left (part h₁ at.handed (r.handed - at.handed)) (part t₁ at.taken (r.taken - at.taken)) w₁ w₂ left) where
          some_handed : is_nil S.handed ≡ false
          some_handed = filled S.handed (omega (arith, pins_is, nz))
            where
              filled : (x : List ℕ) → 0 < length x → is_nil x ≡ false
              filled [] k = absurd (omega arith)
              filled (y ∷ x) k = refl

          before_is : part h₁ 0 r.handed ≡ part h 0 at.handed ++ S.handed
          before_is = ph.words

          stop_at : (p : ℕ) → p < c.pins + 1 → get_or w₂ (c.pins + 1 + p) 0 ≡ one (member p (part h₁ 0 r.handed))
          stop_at p lp = s.stops p lp ∙ ap (λ (x : ℕ). if member p (part h₁ at.handed (r.handed - at.handed)) then 1 else x) (q.stays.stops p lp ∙ T.before.stops.stop p lp)
              ∙ ap (λ (x : List ℕ). if member p x then 1 else one (member p B)) h_part
              ∙ both p
              ∙ ap (λ (x : List ℕ). one (member p x)) (sym before_is)
            where
              both : (p : ℕ) → (if member p S.handed then 1 else one (member p B)) ≡ one (member p (B ++ S.handed))
              both p = by_test (member p S.handed)
                  (λ y. if_true (member p S.handed) 1 (one (member p B)) y ∙ sym (ap one (is_member p (B ++ S.handed) (omega (arith, member_true p S.handed y, count-append p B S.handed)))))
                  (λ n. if_false (member p S.handed) 1 (one (member p B)) n
                  ∙ ap (λ (k : ℕ). one (0 <? k)) (sym (count-append p B S.handed ∙ same_count p n)))
                where
                  same_count : (p : ℕ) → member p S.handed ≡ false → count p B + count p S.handed ≡ count p B
                  same_count p n = omega (arith, member_false p S.handed n)

          next_idle : Idle ws (c.pins + 1) (endpoints c) w₂ left
          next_idle = record {
            low = T.idle.low;
            few = T.idle.few;
            fits = T.idle.fits;
            drivers_long = T.idle.drivers_long;
            flags = λ p lp. rw (stop_at p lp) (one_le (member p (part h₁ 0 r.handed)));
            marks = s.marks;
            middle = s.middle;
            lefts = subst (λ (k : ℕ). SetIn w₂ (8 * (c.pins + 1)) k left) ee s.lefts;
          }

          next-before : Before (c.pins + 1) w₂ h₁ r.handed
          next-before = record {
            stops = record { stop = stop_at };
            inside = λ p k. of_append p B S.handed (subst (λ (x : List ℕ). 0 < count p x) before_is k) (T.before.inside p) (handed_inside p);
          }

          next-left : part w₂ (8 * (c.pins + 1)) left ≡ over remove (part w (8 * (c.pins + 1)) at.left) S.taken
          next-left = s.members ∙ (λ i. over remove (left₁ i) (t_part i))
            where
              left₁ : part w₁ (8 * (c.pins + 1)) at.left ≡ part w (8 * (c.pins + 1)) at.left
              left₁ = Rattle.laws.proofs.Words.part_same w₁ w (8 * (c.pins + 1)) at.left (omega (arith, q.stays.long, T.idle.lefts.long, T.idle.lefts.few))
                  (omega (arith, T.idle.lefts.long, T.idle.lefts.few)) (λ j lj uj. q.stays.rest j lj)

          pub turn_more : (l₁ : List ℕ) (n : ℕ) → Pushed l at.rows (at.lower ∷ upper ∷ (r.handed - at.handed) ∷ (r.taken - at.taken) ∷ []) l₁ n
              → GoesOn c ws os ds rs w l h t at upper d w₂ l₁ h₁ t₁ (0 <? r.listed) (record { lower = upper; left = left; rows = n; handed = r.handed; taken = r.taken })
          turn_more l₁ n p = record {
            read = read_is;
            some_handed = some_handed;
            handed = ph;
            taken = pt;
            rows = subst (λ (k : ℕ). Pushed l at.rows (at.lower ∷ upper ∷ length S.handed ∷ k ∷ []) l₁ n) count_is
                (subst (λ (k : ℕ). Pushed l at.rows (at.lower ∷ upper ∷ k ∷ (r.taken - at.taken) ∷ []) l₁ n) pins_is p);
            lower = refl;
            idle = next_idle;
            left = next-left;
            before = next-before;
            work_long = s.long ∙ q.stays.long;
          }
