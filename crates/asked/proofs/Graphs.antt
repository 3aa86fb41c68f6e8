-- What the graph check leaves, and the rules' split of the graph by its words.
use mathlib.Core.Path.{◌≡◌, refl, sym, ap, subst, ◌∙◌}
use mathlib.Core.Bool.{Bool, true, false, ◌&&◌, not}
use mathlib.Core.List.{List, [], ◌∷◌, ◌++◌}
use Prim.Native.Nat.{ℕ, ◌+◌, ◌-◌, ◌*◌, ◌<◌, ◌≤◌}
use native.Mathlib.Omega.{arith}
use lib.ListN.{length, get_or}
use borrow.Author.Tests.{leb-true, eqb-true, ltb-true, ltb-false, lt-ltb}
use Rattle.std.specs.Prelude.{Option, Some, if◌then◌else◌, ◌==◌}
use Rattle.laws.specs.Tests.{◌<?◌, ◌≤?◌, one}
use Rattle.laws.specs.Lists.{count, member, keep, every, any, flat, over, upto}
use Rattle.laws.specs.Search.{visits, level}
use Rattle.laws.proofs.Tests.{by_test, and_l, and_r, not_refused, last_refused}
use Rattle.laws.proofs.Bags.{no_member, member_true, member_false, here}
use Rattle.laws.proofs.Indices.{at_in}
use Rattle.laws.proofs.Ranges.{in_upto, length-map-upto}
use Rattle.laws.proofs.Visits.{visits_has}
use Rattle.rules.specs.declared.Endpoint.{Endpoint}
use Rattle.rules.specs.declared.Endpoint.TheVariants.{Output, Flop, Memory, Handed}
use Rattle.rules.specs.declared.GraphCounts.{GraphCounts}
use Rattle.rules.specs.Graph.{Graph, no_record, no_ram, operands, driver_of}
use Rattle.rules.specs.Tables.{drivers_in, graph_in, driver_or, decode_at}
use Rattle.rules.specs.Bounds.{graph_within, stage_work}
use Rattle.rules.specs.Stages.{dff_reads, ram_reads, reads_of, reads, inputs, endpoint_of, Stage, split, within}
use Rattle.rules.specs.Refusals.{drivers_fit, records_fit, something_read}
use Rattle.rules.specs.Answers.{endpoints, graph_long, graph_fits, graph_number}
use Rattle.cuts.proofs.Checked.{number_checked}
use Rattle.cuts.proofs.Joining.{join_by, take_by}
use Rattle.graphs.specs.Parts.{lent as words_of}
use Rattle.walk.specs.State.{goes, Stops}
use Rattle.reads.specs.Reads.{Lent, records_of, reads_in, ins_of}
use Rattle.reads.proofs.Inputs.{reads-length}
use Rattle.levels.specs.State.{stops_of}
use Rattle.levels.proofs.Stops.{stops_are}
use Rattle.splits.specs.State.{graph_of, split_in, order_in}
use Rattle.splits.proofs.Cuts.{ins_fun}
use Rattle.asked.specs.Answer.{Sound}

-- ---- the graph with m rows is the rules' graph
pub graph_is : (c : GraphCounts) (ws os ds rs : List ℕ) → graph_of c ws os ds rs (c.pins + 1) ≡ graph_in c (words_of ws os ds rs)
unfolding graph_of
graph_is c ws os ds rs = let e : c.pins + 1 - 1 ≡ c.pins = omega arith in
    ap (λ (n : ℕ). record { drivers = drivers_in ws n; outputs = os; dffs = (graph_in c (words_of ws os ds rs)).dffs; rams = (graph_in c (words_of ws os ds rs)).rams }) e

-- an endpoint reads no driver
reads_same : (g h : Graph) (x : Endpoint) → g.outputs ≡ h.outputs → g.dffs ≡ h.dffs → g.rams ≡ h.rams → reads_of g x ≡ reads_of h x
reads_same g h (Output k) a b e = ap (λ l. get_or l k 0 ∷ []) a
reads_same g h (Flop k) a b e = ap (λ l. dff_reads (get_or l k no_record)) b
reads_same g h (Memory k) a b e = ap (λ l. ram_reads (get_or l k no_ram)) e
reads_same g h (Handed q) a b e = refl

reads_are : (c : GraphCounts) (ws os ds rs : List ℕ) (e : ℕ) → reads_in c os ds rs e ≡ reads (graph_in c (words_of ws os ds rs)) e
unfolding reads_in
reads_are c ws os ds rs e = reads_same (graph_in c (records_of os ds rs)) (graph_in c (words_of ws os ds rs)) (endpoint_of (graph_in c (words_of ws os ds rs)) e) refl refl refl

-- ---- the number 0
pub sound_by : (c : GraphCounts) (ws os ds rs : List ℕ) (work k : ℕ) (counts lengths : Bool) → k ≡ graph_number c (words_of ws os ds rs) work counts lengths → k ≡ 0
    → Sound c ws os ds rs work
sound_by c ws os ds rs work k counts lengths ek z =
    let t = words_of ws os ds rs in
    let n = number_checked c t work counts lengths (sym ek ∙ z) in
    let within : graph_within c ≡ true = and_l (graph_within c) counts n.1 in
    let a1 = c.pins ≤? 16777215 in let a2 = c.outputs ≤? 1048576 in let a3 = c.dffs ≤? 1048576 in let a4 = c.rams ≤? 1048576 in
    let v3 = and_l ((a1 && a2) && a3) a4 within in let v2 = and_l (a1 && a2) a3 v3 in
    let pins-few : c.pins ≤ 16777215 = leb-true c.pins 16777215 (and_l a1 a2 v2) in
    let outputs_few : c.outputs ≤ 1048576 = leb-true c.outputs 1048576 (and_r a1 a2 v2) in
    let dffs_few : c.dffs ≤ 1048576 = leb-true c.dffs 1048576 (and_r (a1 && a2) a3 v3) in
    let rams_few : c.rams ≤ 1048576 = leb-true c.rams 1048576 (and_r ((a1 && a2) && a3) a4 within) in
    let b0 = graph_long c t in let b1 = stage_work c.pins (endpoints c) ≤? work in
    let w1 = and_l (b0 && b1) lengths n.2 in
    let long = and_l b0 b1 w1 in
    let l1 = length ws == 3 * (c.pins + 1) in let l2 = length os == c.outputs in let l3 = length ds == 3 * c.dffs in let l4 = length rs == 123 * c.rams in
    let m3 = and_l ((l1 && l2) && l3) l4 long in let m2 = and_l (l1 && l2) l3 m3 in
    let drivers_long_lem : length ws ≡ 3 * (c.pins + 1) = eqb-true (length ws) (3 * (c.pins + 1)) (and_l l1 l2 m2) in
    let lent : Lent c os ds rs = record {
      outputs_long = eqb-true (length os) c.outputs (and_r l1 l2 m2);
      dffs_long = eqb-true (length ds) (3 * c.dffs) (and_r (l1 && l2) l3 m3);
      rams_long = eqb-true (length rs) (123 * c.rams) (and_r ((l1 && l2) && l3) l4 long);
      outputs_few = outputs_few;
      dffs_few = dffs_few;
      rams_few = rams_few;
    } in
    record {
      lent = lent;
      fit = record {
        fit = λ e i le li.
            let ln : i < length (reads_in c os ds rs e) = omega (arith, reads-length c os ds rs e lent le, li) in
            let l = get_or (reads_in c os ds rs e) i 0 in
            let inside = n.0.reads_fit e (get_or (reads_in c os ds rs e) i 0) (subst (λ (x : List ℕ). 0 < count (get_or (reads_in c os ds rs e) i 0) x) (reads_are c ws os ds rs e) (at_in (reads_in c os ds rs e) i ln)) in
            omega (arith, inside, length-map-upto (λ u. driver_or (decode_at ws u)) (c.pins + 1));
      };
      fits = let e : c.pins + 1 - 1 ≡ c.pins = omega arith in subst (λ (p : ℕ). drivers_fit ws p ≡ true) (sym e) (drivers_fit_lem c ws os ds rs work counts lengths (sym ek ∙ z));
      drivers_long = omega (arith, drivers_long_lem);
      few = pins-few;
      ends_few = omega (arith, outputs_few, dffs_few, rams_few);
      long = omega (arith, leb-true (stage_work c.pins (endpoints c)) work (and_r b0 b1 w1));
      checked = n.0;
    }
  where
    drivers_fit_lem : (c : GraphCounts) (ws os ds rs : List ℕ) (work : ℕ) (counts lengths : Bool) → graph_number c (words_of ws os ds rs) work counts lengths ≡ 0 → drivers_fit ws c.pins ≡ true
    drivers_fit_lem c ws os ds rs work counts lengths z =
        let t = words_of ws os ds rs in
        let w = not_refused 0 (graph_within c && counts) _ z in
        let v = not_refused 1 (graph_long c t && (stage_work c.pins (endpoints c) ≤? work) && lengths) _ w.1 in
        and_l (drivers_fit ws c.pins) (records_fit (graph_in c t)) (last_refused 11 (graph_fits c t) v.1)

-- ---- a split depends on what was handed on before only by membership
abbrev back_by : Graph → (ℕ → Bool) → ℕ → List ℕ
back_by g mb u = if mb u then [] else operands (driver_of g u)

abbrev split_by : Graph → List ℕ → (ℕ → Bool) → Option ℕ → Stage
split_by g left mb d = record {
  handed = keep (λ p. not (mb p)) (over (take_by (inputs g)) (over (join_by (back_by g mb) (λ u. within d (level (back_by g mb) u)))
      (record { set = []; readers = λ p. count p (flat (back_by g mb) (visits (back_by g mb) (flat (inputs g) left)) ++ flat (inputs g) left) })
      (visits (back_by g mb) (flat (inputs g) left))) (keep (λ e. every (λ u. within d (level (back_by g mb) u)) (inputs g e)) left)).set;
  taken = keep (λ e. every (λ u. within d (level (back_by g mb) u)) (inputs g e)) left;
}

split_by_lem : (g : Graph) (left before : List ℕ) (d : Option ℕ) → split g left before d ≡ split_by g left (λ p. member p before) d
unfolding split
split_by_lem g left before d = refl

pub split-same : (g : Graph) (left before before' : List ℕ) (d : Option ℕ) → ((p : ℕ) → member p before ≡ member p before') → split g left before d ≡ split g left before' d
split-same g left before before' d e = split_by_lem g left before d ∙ (λ i. split_by g left (λ p. e p i) d) ∙ sym (split_by_lem g left before' d)

one_inj : (a b : Bool) → one a ≡ one b → a ≡ b
one_inj true true e = refl
one_inj true false e = absurd (omega (arith, e))
one_inj false true e = absurd (omega (arith, e))
one_inj false false e = refl

-- the stops in the words are those handed on before
pub stops_members : (w : List ℕ) (m : ℕ) (before : List ℕ) → Stops w m before → ((p : ℕ) → 0 < count p before → p < m) → ((p : ℕ) → p < m → get_or w (m + p) 0 ≤ 1)
    → (p : ℕ) → member p (stops_of w m) ≡ member p before
unfolding stops_of
stops_members w m before s inside flags p = by_test (p <? m)
    (λ t. let l = ltb-true p m t in one_inj (member p (stops_of w m)) (member p before) (sym ((stops_are w m flags).stop p l) ∙ s.stop p l))
    (λ f. let h = ltb-false p m f in
    no_member p (stops_of w m) (by_test (member p (stops_of w m))
    (λ t. absurd (omega (arith, h, in_upto m p (omega (arith, member_true p (stops_of w m) t, Rattle.laws.proofs.Bags.keep_le (λ q. 0 <? get_or w (m + q) 0) p (upto m))))))
    (λ n. member_false p (stops_of w m) n))
    ∙ sym (no_member p before (by_test (member p before) (λ t. absurd (omega (arith, h, inside p (member_true p before t)))) (λ n. member_false p before n))))

pub split_is : (c : GraphCounts) (ws os ds rs left stops before : List ℕ) (d : ℕ) → ((p : ℕ) → member p stops ≡ member p before)
    → split_in c ws os ds rs (c.pins + 1) left stops d ≡ split (graph_in c (words_of ws os ds rs)) left before (Some d)
unfolding split_in
split_is c ws os ds rs left stops before d e = ap (λ (g : Graph). split g left stops (Some d)) (graph_is c ws os ds rs) ∙ split-same (graph_in c (words_of ws os ds rs)) left stops before (Some d) e

-- ---- 14: nothing is listed exactly where nothing is read
any-flat : (f : ℕ → List ℕ) (l : List ℕ) → any (λ e. 0 <? length (f e)) l ≡ (0 <? length (flat f l))
any-flat f [] = refl
any-flat f (x ∷ l) = by_test (0 <? length (f x))
    (λ t. rw t (sym (lt-ltb 0 (length (f x ++ flat f l)) (omega (arith, ltb-true 0 (length (f x)) t, lib.ListN.length-append (f x) (flat f l))))))
    (λ n. let e : length (flat f l) ≡ length (f x ++ flat f l) = omega (arith, ltb-false 0 (length (f x)) n, lib.ListN.length-append (f x) (flat f l)) in
    rw n (any-flat f l ∙ ap (λ (k : ℕ). 0 <? k) e))

visits_empty : (nx : ℕ → List ℕ) (l : List ℕ) → (0 <? length (visits nx l)) ≡ (0 <? length l)
visits_empty nx [] = refl
visits_empty nx (x ∷ l) = lt-ltb 0 (length (visits nx (x ∷ l))) (some_in (visits nx (x ∷ l)) x (visits_has nx (x ∷ l) x (here x l))) ∙ sym (lt-ltb 0 (length (x ∷ l)) (omega arith))
  where
    some_in : (t : List ℕ) (y : ℕ) → 0 < count y t → 0 < length t
    some_in [] y h = h
    some_in (z ∷ t) y h = omega arith

pub nothing_read : (c : GraphCounts) (ws os ds rs left stops : List ℕ) → (0 <? length (order_in c ws os ds rs (c.pins + 1) left stops)) ≡ something_read (graph_in c (words_of ws os ds rs)) left
unfolding order_in
nothing_read c ws os ds rs left stops = visits_empty (goes ws (c.pins + 1) stops) (flat (ins_of c os ds rs) left) ∙ sym (any-flat (ins_of c os ds rs) left)
    ∙ ap (λ (f : ℕ → List ℕ). any (λ e. 0 <? length (f e)) left) (ins_fun c ws os ds rs (c.pins + 1))
    ∙ ap (λ (g : Graph). any (λ e. 0 <? length (inputs g e)) left) (graph_is c ws os ds rs)
