-- The whole call, in the code's shape.
use mathlib.Core.Path.{◌≡◌, refl, sym, ap, ◌∙◌}
use mathlib.Core.Bool.{Bool, true, false, ◌&&◌}
use mathlib.Core.List.{List}
use Prim.Native.Nat.{ℕ, zero, suc, ◌+◌, ◌*◌, ◌≤◌}
use native.Mathlib.Omega.{arith}
use lib.ListN.{length}
use borrow.Author.Tests.{eqb-true, leb-true}
use Rattle.std.specs.Prelude.{◌==◌, Result, Ok, Err}
use Rattle.laws.specs.Tests.{◌≤?◌, or_else, refuse}
use Rattle.laws.specs.Words.{zeros}
use Rattle.laws.proofs.Tests.{and_l, and_r, not_refused, last_refused, next-refused}
use Rattle.laws.proofs.Words.{zeros-length}
use Rattle.rules.specs.declared.NetlistCounts.{NetlistCounts}
use Rattle.rules.specs.declared.Rooms.{Rooms}
use Rattle.rules.specs.declared.Refusal.{Refusal}
use Rattle.rules.specs.declared.Tally.{Tally}
use Rattle.rules.specs.Build.{graph_of, tally}
use Rattle.rules.specs.Netlist.{Netlist}
use Rattle.rules.specs.Bounds.{netlist_within, rooms_within, build_work}
use Rattle.rules.specs.Answers.{BuildLengths, BuildTables, build_number, build_tables, build_answer, netlist_long, rooms_long, done_of}
use Rattle.rules.proofs.Tables.{four_true, five_true}
use Rattle.walk.proofs.Answered.{number_zero, refused_too, or_refused}
use Rattle.roles.specs.Reading.{tables}
use Rattle.netlist.specs.Tables.{long_by}
use Rattle.netlist.proofs.Whole.{now_long}
use Rattle.checks.specs.Ready.{Asked}
use Rattle.visits.specs.Drafting.{Sized}
use Rattle.sizes.specs.declared.Sizes.{Sizes}
use Rattle.sizes.specs.Lengths.{records_long, results_long, sizes_number}
use Rattle.aig.proofs.Asking.{blank-held}
use Rattle.aig.specs.Building.{lent, lengths_of, blank, asked, Waiting, waiting, number, BuiltAs, Answered}

abbrev pub sizes_of : List ℕ → List ℕ → List ℕ → List ℕ → List ℕ → BuildLengths → Sizes
sizes_of kinds starts list pins nets l = record {
  kinds = length kinds;
  starts = length starts;
  list = length list;
  pins = length pins;
  nets = length nets;
  drivers = l.drivers;
  outputs = l.outputs;
  dffs = l.dffs;
  rams = l.rams;
  literals = l.literals;
  fanout_starts = l.starts;
  fanouts = l.fanouts;
  work = l.work;
}

-- ---- the tests 1 and 2 by lengths are those of the rules
or_assoc : (a b c : ℕ) → or_else a (or_else b c) ≡ or_else (or_else a b) c
or_assoc zero b c = refl
or_assoc (suc a) b c = refl

regroup : (x e f g h : Bool) → (x && e && f && g && h) ≡ (x && (e && f && g && h))
regroup true e f g h = refl
regroup false e f g h = refl

and_assoc : (l x y : Bool) → (l && (x && y)) ≡ (l && x && y)
and_assoc true x y = refl
and_assoc false x y = refl

module _ (c : NetlistCounts) (rm : Rooms) (kinds starts list pins nets : List ℕ) (l : BuildLengths) where
  abbrev n : Netlist
  n = tables kinds starts list pins nets

  abbrev s : Sizes
  s = sizes_of kinds starts list pins nets l

  lengths_so : (netlist_long c n && rooms_long c rm l) ≡ (long_by c s.kinds s.starts s.list s.pins s.nets && records_long rm s && results_long c rm s)
  unfolding long_by records_long results_long
  lengths_so =
      ap (λ (x : Bool). netlist_long c n && x)
      (regroup ((l.drivers == 3 * (rm.pins + 1)) && (l.outputs == rm.outputs) && (l.dffs == 3 * rm.dffs) && (l.rams == 123 * rm.rams))
      (l.literals == c.pins) (l.starts == rm.pins + 2) (l.fanouts == rm.fanouts) (build_work c.pins rm.pins ≤? l.work))
      ∙ and_assoc (netlist_long c n)
      ((l.drivers == 3 * (rm.pins + 1)) && (l.outputs == rm.outputs) && (l.dffs == 3 * rm.dffs) && (l.rams == 123 * rm.rams))
      ((l.literals == c.pins) && (l.starts == rm.pins + 2) && (l.fanouts == rm.fanouts) && (build_work c.pins rm.pins ≤? l.work))

  number_so : build_number c rm n l ≡ or_else (sizes_number c rm s) (number n rm)
  unfolding build_number sizes_number
  number_so = or_assoc (refuse 1 (netlist_within c && rooms_within rm)) (refuse 2 (netlist_long c n && rooms_long c rm l)) (number n rm)
      ∙ ap (λ (x : Bool). or_else (or_else (refuse 1 (netlist_within c && rooms_within rm)) (refuse 2 x)) (number n rm)) lengths_so

  -- what they let pass
  module _ (z : sizes_number c rm s ≡ 0) where
    both : ((netlist_within c && rooms_within rm) ≡ true) × (refuse 2 (long_by c s.kinds s.starts s.list s.pins s.nets && records_long rm s && results_long c rm s) ≡ 0)
    unfolding sizes_number
    both = not_refused 0 (netlist_within c && rooms_within rm)
        (refuse 2 (long_by c s.kinds s.starts s.list s.pins s.nets && records_long rm s && results_long c rm s)) z

    tests : (long_by c s.kinds s.starts s.list s.pins s.nets && records_long rm s && results_long c rm s) ≡ true
    tests = last_refused 1 (long_by c s.kinds s.starts s.list s.pins s.nets && records_long rm s && results_long c rm s) both.1

    lent_so : long_by c (length kinds) (length starts) (length list) (length pins) (length nets) ≡ true
    lent_so = and_l (long_by c s.kinds s.starts s.list s.pins s.nets) (records_long rm s)
        (and_l (long_by c s.kinds s.starts s.list s.pins s.nets && records_long rm s) (results_long c rm s) tests)

    records_so : records_long rm s ≡ true
    records_so = and_r (long_by c s.kinds s.starts s.list s.pins s.nets) (records_long rm s)
        (and_l (long_by c s.kinds s.starts s.list s.pins s.nets && records_long rm s) (results_long c rm s) tests)

    results_so : results_long c rm s ≡ true
    results_so = and_r (long_by c s.kinds s.starts s.list s.pins s.nets && records_long rm s) (results_long c rm s) tests

    counts : (c.cells ≤ 1048576) × (c.pins ≤ 1048576)
    counts =
        let t = four_true (1 ≤? c.cells) (c.cells ≤? 1048576) (c.pins ≤? 1048576) (c.nets ≤? 1048576) (and_l (netlist_within c) (rooms_within rm) both.0) in
        (leb-true c.cells 1048576 t.1, leb-true c.pins 1048576 t.2)

    cells_so : length kinds ≡ c.cells
    unfolding long_by
    cells_so =
        let t = five_true (length kinds == c.cells) (length starts == c.cells + 1) (length list == c.pins) (length pins == 5 * c.pins) (length nets == c.nets) lent_so in
        eqb-true (length kinds) c.cells t.0

    size_so : length list ≡ c.pins
    unfolding long_by
    size_so =
        let t = five_true (length kinds == c.cells) (length starts == c.cells + 1) (length list == c.pins) (length pins == 5 * c.pins) (length nets == c.nets) lent_so in
        eqb-true (length list) c.pins t.2

    sized : Sized (length list) rm
    sized =
        let t = five_true (rm.pins ≤? 16777215) (rm.outputs ≤? 1048576) (rm.dffs ≤? 1048576) (rm.rams ≤? 1048576) (rm.fanouts ≤? 33554430) (and_r (netlist_within c) (rooms_within rm) both.0) in
        record {
          pins = omega (arith, size_so, counts.1);
          graph_pins = leb-true rm.pins 16777215 t.0;
          outputs = leb-true rm.outputs 1048576 t.1;
          dffs = leb-true rm.dffs 1048576 t.2;
          rams = leb-true rm.rams 1048576 t.3;
        }

    enough : 8 * length list + 8 * rm.pins + 1024 ≤ l.work
    unfolding results_long
    enough =
        let t = four_true (l.literals == c.pins) (l.starts == rm.pins + 2) (l.fanouts == rm.fanouts) (build_work c.pins rm.pins ≤? l.work) results_so in
        omega (arith, size_so, leb-true (8 * c.pins + 8 * rm.pins + 1024) l.work t.3)

    asked_so : l ≡ asked (length list) rm l.work
    unfolding records_long results_long
    asked_so =
        let t = four_true (l.drivers == 3 * (rm.pins + 1)) (l.outputs == rm.outputs) (l.dffs == 3 * rm.dffs) (l.rams == 123 * rm.rams) records_so in
        let u = four_true (l.literals == c.pins) (l.starts == rm.pins + 2) (l.fanouts == rm.fanouts) (build_work c.pins rm.pins ≤? l.work) results_so in
        let e₀ : l.drivers ≡ 3 * (rm.pins + 1) = eqb-true l.drivers (3 * (rm.pins + 1)) t.0 in
        let e₁ : l.outputs ≡ rm.outputs = eqb-true l.outputs rm.outputs t.1 in
        let e₂ : l.dffs ≡ 3 * rm.dffs = eqb-true l.dffs (3 * rm.dffs) t.2 in
        let e₃ : l.rams ≡ 123 * rm.rams = eqb-true l.rams (123 * rm.rams) t.3 in
        let e₄ : l.literals ≡ length list = eqb-true l.literals c.pins u.0 ∙ sym size_so in
        let e₅ : l.starts ≡ rm.pins + 2 = eqb-true l.starts (rm.pins + 2) u.1 in
        let e₆ : l.fanouts ≡ rm.fanouts = eqb-true l.fanouts rm.fanouts u.2 in
        λ i. record { drivers = e₀ i; outputs = e₁ i; dffs = e₂ i; rams = e₃ i; literals = e₄ i; starts = e₅ i; fanouts = e₆ i; work = l.work }

    asked_for : (w : List ℕ) → w ≡ zeros l.work → Asked kinds starts list pins w
    asked_for w e = record {
      tables_long = now_long c kinds starts list pins w (length nets) (long_by c (length kinds) (length starts) (length list) (length pins) (length nets)) refl lent_so
          (omega (arith, enough, size_so, long)) (e ∙ ap zeros (sym long));
      small = omega (arith, size_so, counts.1);
      room = omega (arith, enough, long);
    }
      where
        long : length w ≡ l.work
        long = ap length e ∙ zeros-length l.work

-- ---- the call
module _ (c : NetlistCounts) (rm : Rooms) (kinds starts list pins nets : List ℕ) (t₀ : BuildTables) (k : ℕ) (ws os fs rs ls ss es w : List ℕ)
    (clear : lent ws os fs rs ls ss es ≡ blank (lengths_of t₀ 0)) (zeroed : w ≡ zeros k) where
  abbrev l₀ : BuildLengths
  l₀ = lengths_of t₀ k

  same_long : lengths_of (lent ws os fs rs ls ss es) (length w) ≡ lengths_of t₀ k
  same_long = (λ i. lengths_of (clear i) (length w)) ∙ (λ i. record {
    drivers = zeros-length l₀.drivers i;
    outputs = zeros-length l₀.outputs i;
    dffs = zeros-length l₀.dffs i;
    rams = zeros-length l₀.rams i;
    literals = zeros-length l₀.literals i;
    starts = zeros-length l₀.starts i;
    fanouts = zeros-length l₀.fanouts i;
    work = (ap length zeroed ∙ zeros-length k) i;
  })

  abbrev tested : ℕ
  tested = sizes_number c rm (sizes_of kinds starts list pins nets (lengths_of (lent ws os fs rs ls ss es) (length w)))

  whole : build_number c rm (tables kinds starts list pins nets) (lengths_of t₀ k) ≡ or_else tested (number (tables kinds starts list pins nets) rm)
  whole = number_so c rm kinds starts list pins nets l₀
      ∙ ap (λ (l : BuildLengths). or_else (sizes_number c rm (sizes_of kinds starts list pins nets l)) (number (tables kinds starts list pins nets) rm)) (sym same_long)

  pub entry_early : (e : Refusal) → Err e ≡ done_of tested → Answered c rm (tables kinds starts list pins nets) (lengths_of t₀ k) w (lent ws os fs rs ls ss es) (Err e)
  entry_early e q =
      let r : Err e ≡ done_of (build_number c rm (tables kinds starts list pins nets) (lengths_of t₀ k))
      = or_refused tested (number (tables kinds starts list pins nets) rm) tt e q ∙ ap done_of (sym whole) in record {
        answer = refused_too (build_number c rm (tables kinds starts list pins nets) (lengths_of t₀ k)) (tally (graph_of (tables kinds starts list pins nets))) e r;
        tables = clear ∙ blank-held (build_number c rm (tables kinds starts list pins nets) (lengths_of t₀ k)) (tables kinds starts list pins nets) (lengths_of t₀ k) e r;
        work = zeroed;
      }

  module _ (v : Unit {0}) (q : Ok v ≡ done_of tested) where
    z : tested ≡ 0
    z = number_zero tested v tt q

    pass : sizes_number c rm (sizes_of kinds starts list pins nets (lengths_of t₀ k)) ≡ 0
    pass = ap (λ (l : BuildLengths). sizes_number c rm (sizes_of kinds starts list pins nets l)) (sym same_long) ∙ z

    work_long_lem : length w ≡ k
    work_long_lem = ap length zeroed ∙ zeros-length k

    asked_too : lengths_of t₀ k ≡ asked (length list) rm k
    asked_too = asked_so c rm kinds starts list pins nets l₀ pass

    pub entry_waits : Waiting kinds starts list pins rm w (lent ws os fs rs ls ss es)
    entry_waits = waiting (asked_for c rm kinds starts list pins nets l₀ pass w zeroed)
        (clear ∙ ap blank asked_too)
        (sized c rm kinds starts list pins nets l₀ pass)
        (omega (arith, cells_so c rm kinds starts list pins nets l₀ pass, (counts c rm kinds starts list pins nets l₀ pass).0))
        (omega (arith, enough c rm kinds starts list pins nets l₀ pass, work_long_lem))

    pub entry_late : (w₂ w₃ : List ℕ) (t₂ : BuildTables) (a : Result Tally Refusal) → BuiltAs (tables kinds starts list pins nets) rm w w₂ t₂ a → w₃ ≡ zeros (length w₂)
        → Answered c rm (tables kinds starts list pins nets) (lengths_of t₀ k) w₃ t₂ a
    entry_late w₂ w₃ t₂ a b e =
        let same : build_number c rm (tables kinds starts list pins nets) (lengths_of t₀ k) ≡ number (tables kinds starts list pins nets) rm
        = whole ∙ next-refused tested (number (tables kinds starts list pins nets) rm) z in
        record {
          answer = b.answer ∙ sym (ap (λ (y : ℕ). build_answer y (tables kinds starts list pins nets)) same);
          tables = b.tables ∙ (λ i. build_tables (sym same i) (tables kinds starts list pins nets) (sym asked_too i));
          work = e ∙ ap zeros (b.long ∙ work_long_lem);
        }
