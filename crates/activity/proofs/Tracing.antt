-- A clock pin's activity, in the code's shape.
use mathlib.Core.Path.{◌≡◌, refl, sym, ap, ap₂, subst, ◌∙◌}
use mathlib.Core.Bool.{Bool, true, false}
use mathlib.Core.List.{List, [], ◌∷◌, ◌++◌}
use Prim.Native.Nat.{ℕ, zero, suc, ◌+◌, ◌*◌, ◌<◌, ◌≤◌}
use native.Mathlib.Numerals.{add-one}
use native.Mathlib.Omega.{arith}
use lib.ListN.{length, get_or, take, drop}
use lib.Seq.{take_all}
use borrow.Author.Tests.{lt-ltb, eqb-true}
use Rattle.std.specs.Prelude.{Option, Some, None, if◌then◌else◌, ◌==◌}
use Rattle.laws.specs.Lists.{count}
use Rattle.laws.proofs.Tests.{true≢false}
use Rattle.laws.proofs.Bags.{here, there, keep_sub}
use Rattle.laws.proofs.Folds.{over_snoc, over-append, over-take}
use Rattle.laws.proofs.Indices.{snoc_cases, snoc_length}
use Rattle.rules.specs.declared.Edge.{Edge}
use Rattle.rules.specs.declared.Edge.TheVariants.{Rising, Falling}
use Rattle.rules.specs.declared.Driver.{Driver}
use Rattle.rules.specs.declared.Literal.{Literal}
use Rattle.rules.specs.declared.Tally.{Tally}
use Rattle.rules.specs.Netlist.{Netlist, size, cells, name_of, pins_of, kind_of}
use Rattle.rules.specs.Graph.{Made, and_of, first_pin}
use Rattle.rules.specs.Tables.{edge_word}
use Rattle.rules.specs.Build.{Walk, still, root, gated, strange, far, walk, events, is_clock, clocks_of, is_flag, flag_for, step1, start2, step2, trace}
use Rattle.rules.specs.Refusals.{walk_number, Accepted}
use Rattle.rules.proofs.Tables.{clash, in_keep}
use Rattle.builds.proofs.Growing.{Keeps, keeps_refl, keeps_trans}
use Rattle.builds.proofs.Ands.{and_keeps, known_stays}
use Rattle.builds.proofs.Sizes.{Flagged, acts_longer, step1_flags, flagged_none}
use Rattle.builds.proofs.Walks.{walk_found, walk_ind}
use Rattle.drivers.proofs.Rows.{drivers_long_lem}
use Rattle.roles.specs.Reading.{has_name, either_in, cell_pins, entry_of, kind_at}
use Rattle.clocks.specs.declared.WalkEnd.{WalkEnd}
use Rattle.clocks.specs.declared.WalkEnd.TheVariants.{Root}
use Rattle.clocks.specs.declared.Walked.{Walked}
use Rattle.clocks.specs.Walks.{end_of, enables, told}
use Rattle.drafts.specs.declared.Draft.{Draft}
use Rattle.drafts.specs.declared.Added.{Added}
use Rattle.drafts.specs.Table.{Table, drafted, drivers_of, Extends, SameLoans, Adds}
use Rattle.drafts.specs.Layout.{flag_word}
use Rattle.activity.specs.Traced.{lits, Going, IsGoing, Clocked, end_lit, EndKnown, gates_over, start_at, entry_traced}
use Rattle.drafts.proofs.Steps.{Extended, extended, longer_full}
use Rattle.drafts.proofs.Drafting.{loans_refl, loans_trans}
use Rattle.activity.proofs.Composing.{moved, nothing_made, goes_on, going_after}

-- ---- where a walk ends
module _ (m : ℕ) (w : List ℕ) (end : WalkEnd) where
  pub end_inside : EndKnown m w end → (q : ℕ) (e : Edge) → end ≡ Root q e → q < m
  end_inside k q e h = (subst (EndKnown m w) h k).0

  pub end_few : EndKnown m w end → (q : ℕ) (e : Edge) → end ≡ Root q e → get_or w (4 * m + 2 * q + edge_word e) 0 ≤ 16777215
  end_few k q e h = (subst (EndKnown m w) h k).1

  pub end_root : (q : ℕ) (e : Edge) (r : Literal) → end ≡ Root q e → r.word ≡ 2 * get_or w (4 * m + 2 * q + edge_word e) 0 → r.word ≡ end_lit m w end
  end_root q e r h k = k ∙ sym (ap (end_lit m w) h)

pub flag_place : (m q : ℕ) (e : Edge) (d : ℕ) (w : List ℕ) → d ≡ edge_word e → 8 * m ≤ length w → q < m → 4 * m + 2 * q + d < length w
flag_place m q Rising d w h l b = omega (arith, h)
flag_place m q Falling d w h l b = omega (arith, h)

pub flag_few : (m q : ℕ) (e : Edge) (d : ℕ) (w : List ℕ) → d ≡ edge_word e → get_or w (4 * m + 2 * q + edge_word e) 0 ≤ 16777215 → 2 * get_or w (4 * m + 2 * q + d) 0 ≤ 33554430
flag_few m q e d w h l = omega (arith, l, ap (λ (x : ℕ). get_or w (4 * m + 2 * q + x) 0) h)

pub flag_told : (m q : ℕ) (e : Edge) (d : ℕ) (w : List ℕ) → d ≡ edge_word e → 2 * get_or w (4 * m + 2 * q + d) 0 ≡ 2 * get_or w (4 * m + 2 * q + edge_word e) 0
flag_told m q e d w h = ap (λ (x : ℕ). 2 * get_or w (4 * m + 2 * q + x) 0) h

-- ---- the ports and E pins of a walk that is found
module _ (n : Netlist) (acc : Accepted n) where
  abbrev Inside : Walk → Type 0
  Inside still = Unit {0}
  Inside (root q e) = q < size n
  Inside (gated w e) = Inside w × (e < size n)
  Inside strange = Unit {0}
  Inside far = Unit {0}

  all_inside : (p : ℕ) → p < size n → walk_number (walk n p) ≡ 0 → Inside (walk n p)
  all_inside p h f = walk_ind n acc (λ p' e w. Inside w) (λ p' e b ep. tt) (λ p' q e hq ep eq. hq) (λ p' q a e w ep eq x. x) (λ p' q a e w ep eq x. x)
      (λ p' q cp en e w hq hen ep eq x. (x, hen)) 64 Rising p h f

  enables_inside : (w : Walk) → Inside w → (i : ℕ) → i < length (enables w) → get_or (enables w) i 0 < size n
  enables_inside still k i l = absurd (omega arith)
  enables_inside (root q e) k i l = absurd (omega arith)
  enables_inside (gated w e) k i l = snoc_cases (enables w) e 0 (λ (x : ℕ). x < size n) i (λ b. enables_inside w k.0 i b) (λ b. k.1)
      (λ b. absurd (omega (arith, l, b, snoc_length (enables w) e 0)))
  enables_inside strange k i l = absurd (omega arith)
  enables_inside far k i l = absurd (omega arith)

-- the E pin at a place, and its literal
module _ (n : Netlist) (p i : ℕ) (at : ℕ) (w ws : List ℕ) (t : Tally) (walked : Walked)
    (g : Going n at w ws t)
    (k : Clocked n p)
    (l : i < length (enables (walk n p)))
    (e : walked ≡ told (walk n p) i) where
  which : walked.enable ≡ get_or (enables (walk n p)) i 0
  which = ap (λ (x : Walked). x.enable) e

  inside : walked.enable < length n.list
  inside = subst (λ (x : ℕ). x < size n) (sym which) (enables_inside n g.grounded.accepted (walk n p) (all_inside n g.grounded.accepted p k.inside k.found) i l)

  pub enable_place : 7 * length n.list + walked.enable < length w
  enable_place = omega (arith, inside, g.grounded.below, g.grounded.inside)

  pub enable_told : (lit : Literal) (w' ws' : List ℕ) (r : Option Added) → Extends at (and_of (drafted ws t) lit.word (get_or w (7 * length n.list + walked.enable) 0)) w ws t w' ws' r
      → Extends at (and_of (drafted ws t) lit.word (lits n (get_or (enables (walk n p)) i 0))) w ws t w' ws' r
  enable_told lit w' ws' r s = subst (λ (x : ℕ). Extends at (and_of (drafted ws t) lit.word x) w ws t w' ws' r)
      (g.grounded.written.lits walked.enable inside ∙ ap (lits n) which) s

-- ---- the ANDs in turn
gates_keep : (l : ℕ → ℕ) (es : List ℕ) (m : Made) → Keeps m.drivers (gates_over l m es).drivers
gates_keep l [] m = keeps_refl m.drivers
gates_keep l (e ∷ es) m = keeps_trans (and_keeps m.drivers m.lit (l e)) (gates_keep l es (and_of m.drivers m.lit (l e)))

split_at : (es : List ℕ) (i : ℕ) → es ≡ take i es ++ drop i es
split_at [] zero = refl
split_at [] (suc i) = refl
split_at (e ∷ es) zero = refl
split_at (e ∷ es) (suc i) = ap (λ (l : List ℕ). e ∷ l) (split_at es i)

gates_longer : (l : ℕ → ℕ) (es : List ℕ) (i : ℕ) (m : Made) → length (gates_over l m (take i es)).drivers ≤ length (gates_over l m es).drivers
gates_longer l es i m = subst (λ (x : Made). length (gates_over l m (take i es)).drivers ≤ length x.drivers)
    (sym (over-append (λ k e. and_of k.drivers k.lit (l e)) m (take i es) (drop i es)) ∙ ap (gates_over l m) (sym (split_at es i)))
    (gates_keep l (drop i es) (gates_over l m (take i es))).longer

pub record Passing (n : Netlist) (p at : ℕ) (w₀ ws₀ : List ℕ) (t₀ : Tally) (l₀ : ℕ) (w ws : List ℕ) (i : ℕ) (step : Added) : Type 0 where
  pub inside : i ≤ length (enables (walk n p))
  pub steps : Extends at (gates_over (lits n) (start_at (drafted ws₀ t₀) l₀) (take i (enables (walk n p)))) w₀ ws₀ t₀ w ws (Some step)
  pub going : Going n at w ws step.tally

pub passing_begins : (n : Netlist) (p at : ℕ) (w ws : List ℕ) (so : Added) → Going n at w ws so.tally → Passing n p at w ws so.tally so.lit.word w ws 0 so
passing_begins n p at w ws so g = record { inside = omega arith; steps = nothing_made at w ws so.tally so.lit g.table; going = g }

module _ (n : Netlist) (p at : ℕ) (w₀ ws₀ : List ℕ) (t₀ : Tally) (l₀ : ℕ) (w ws : List ℕ) (i : ℕ) (so : Added) (h : Passing n p at w₀ ws₀ t₀ l₀ w ws i so)
    (gates : ℕ) (eg : gates ≡ length (enables (walk n p))) where
  abbrev es : List ℕ
  es = enables (walk n p)

  abbrev up_to : ℕ → Made
  up_to k = gates_over (lits n) (start_at (drafted ws₀ t₀) l₀) (take k es)

  pub passing_next : i < gates → i < length (enables (walk n p))
  passing_next l = omega (arith, eg, l)

  pub passing_ends : gates ≤ i → Extends at (gates_over (lits n) (start_at (drafted ws₀ t₀) l₀) (enables (walk n p))) w₀ ws₀ t₀ w ws (Some so)
  passing_ends l = subst (λ (x : List ℕ). Extends at (gates_over (lits n) (start_at (drafted ws₀ t₀) l₀) x) w₀ ws₀ t₀ w ws (Some so)) (take_all i es (omega (arith, eg, l))) h.steps

  module _ (w' ws' : List ℕ) (lg : i < gates) where
    l : i < length (enables (walk n p))
    l = omega (arith, eg, lg)

    abbrev here_made : Made
    here_made = and_of (drafted ws so.tally) so.lit.word (lits n (get_or es i 0))

    before : Extended at (up_to i) w₀ ws₀ t₀ w ws so
    before = extended at (up_to i) w₀ ws₀ t₀ w ws so h.steps

    here_is : here_made ≡ up_to (i + 1)
    here_is = ap₂ (λ (ds : List Driver) (x : ℕ). and_of ds x (lits n (get_or es i 0))) before.drivers before.lit
        ∙ sym (over-take (λ k e. and_of k.drivers k.lit (lits n e)) (start_at (drafted ws₀ t₀) l₀) es i 0 l) ∙ ap up_to (sym (add-one i))

    onward : (r : Option Added) → Extends at (and_of (drafted ws so.tally) so.lit.word (lits n (get_or (enables (walk n p)) i 0))) w ws so.tally w' ws' r → Extends at (up_to (i + 1)) w₀ ws₀ t₀ w' ws' r
    onward r s = goes_on at (up_to i) w₀ ws₀ t₀ w ws so before (up_to (i + 1)) w' ws' r (subst (λ (m : Made). Extends at m w ws so.tally w' ws' r) here_is s)

    pub passing_goes_on : (step : Added) → Extends at (and_of (drafted ws so.tally) so.lit.word (lits n (get_or (enables (walk n p)) i 0))) w ws so.tally w' ws' (Some step)
        → Passing n p at w₀ ws₀ t₀ l₀ w' ws' (i + 1) step
    passing_goes_on step s = record {
      inside = omega (arith, l);
      steps = onward (Some step) s;
      going = going_after n at here_made w ws so.tally w' ws' step h.going (extended at here_made w ws so.tally w' ws' step s) (and_keeps (drafted ws so.tally) so.lit.word (lits n (get_or es i 0)));
    }

    pub passing_fails : Extends at (and_of (drafted ws so.tally) so.lit.word (lits n (get_or (enables (walk n p)) i 0))) w ws so.tally w' ws' None
        → Extends at (gates_over (lits n) (start_at (drafted ws₀ t₀) l₀) (enables (walk n p))) w₀ ws₀ t₀ w' ws' None
    passing_fails s = longer_full at (up_to (i + 1)) w₀ ws₀ t₀ w' ws' (gates_over (lits n) (start_at (drafted ws₀ t₀) l₀) es)
        (gates_longer (lits n) es (i + 1) (start_at (drafted ws₀ t₀) l₀)) (onward None s)

-- ---- the same of drafts
pub record PassingDraft (n : Netlist) (p : ℕ) (d₀ : Draft) (l₀ : ℕ) (d : Draft) (i : ℕ) (lit : Literal) : Type 0 where
  pub loans : SameLoans d₀ d
  pub passing : Passing n p d₀.at d₀.work.now d₀.drivers.now d₀.tally l₀ d.work.now d.drivers.now i (record { lit = lit; tally = d.tally })

pub walk_begins : (n : Netlist) (p : ℕ) (d : Draft) (lit : Literal) → IsGoing n d → PassingDraft n p d lit.word d 0 lit
walk_begins n p d lit g = record { loans = loans_refl d; passing = passing_begins n p d.at d.work.now d.drivers.now (record { lit = lit; tally = d.tally }) g }

module _ (n : Netlist) (p : ℕ) (d₀ : Draft) (l₀ : ℕ) (d : Draft) (i : ℕ) (lit : Literal) (h : PassingDraft n p d₀ l₀ d i lit) where
  pub walk_going : IsGoing n d
  walk_going = subst (λ (x : ℕ). Going n x d.work.now d.drivers.now d.tally) (sym h.loans.place) h.passing.going

  module _ (gates : ℕ) (eg : gates ≡ length (enables (walk n p))) where
    pub walk_ends : gates ≤ i → Adds (gates_over (lits n) (start_at (drivers_of d₀) l₀) (enables (walk n p))) d₀ d (Some lit)
    walk_ends l = record {
      loans = h.loans;
      extends = passing_ends n p d₀.at d₀.work.now d₀.drivers.now d₀.tally l₀ d.work.now d.drivers.now i (record { lit = lit; tally = d.tally }) h.passing gates eg l;
    }

    module _ (lg : i < gates) (d' : Draft) where
      abbrev m : Made
      m = and_of (drivers_of d) lit.word (lits n (get_or (enables (walk n p)) i 0))

      pub walk_goes_on : (step : Literal) → Adds (and_of (drivers_of d) lit.word (lits n (get_or (enables (walk n p)) i 0))) d d' (Some step) → PassingDraft n p d₀ l₀ d' (i + 1) step
      walk_goes_on step s = record {
        loans = loans_trans h.loans s.loans;
        passing = passing_goes_on n p d₀.at d₀.work.now d₀.drivers.now d₀.tally l₀ d.work.now d.drivers.now i (record { lit = lit; tally = d.tally }) h.passing gates eg
            d'.work.now d'.drivers.now lg (record { lit = step; tally = d'.tally }) (moved m d₀ d d' (Some step) h.loans s);
      }

      pub walk_fails : Adds (and_of (drivers_of d) lit.word (lits n (get_or (enables (walk n p)) i 0))) d d' None
          → Adds (gates_over (lits n) (start_at (drivers_of d₀) l₀) (enables (walk n p))) d₀ d' None
      walk_fails s = record {
        loans = loans_trans h.loans s.loans;
        extends = passing_fails n p d₀.at d₀.work.now d₀.drivers.now d₀.tally l₀ d.work.now d.drivers.now i (record { lit = lit; tally = d.tally }) h.passing gates eg
            d'.work.now d'.drivers.now lg (moved m d₀ d d' None h.loans s);
      }

-- ---- the whole walk
-- what the end of a walk makes
abbrev end_made : List Driver → Walk → Made
end_made ds still = start_at ds 0
end_made ds (root q e) = flag_for ds q e
end_made ds (gated w e) = end_made ds w
end_made ds strange = start_at ds 0
end_made ds far = start_at ds 0

trace-over : (l : ℕ → ℕ) (ds : List Driver) (w : Walk) → trace ds l w ≡ gates_over l (end_made ds w) (enables w)
trace-over l ds still = refl
trace-over l ds (root q e) = refl
trace-over l ds (gated w e) = ap (λ (m : Made). and_of m.drivers m.lit (l e)) (trace-over l ds w)
    ∙ sym (over_snoc (λ k x. and_of k.drivers k.lit (l x)) (end_made ds w) (enables w) e)
trace-over l ds strange = refl
trace-over l ds far = refl

-- the first pin of those that pass a test stays the first
first_stays : (t : Driver → Bool) (ds es : List Driver) → Keeps ds es → first_pin t ds < length ds → first_pin t es ≡ first_pin t ds
first_stays t [] es k l = absurd (omega arith)
first_stays t (d ∷ ds) [] k l = absurd (omega (arith, k.longer))
first_stays t (d ∷ ds) (x ∷ es) k l = first_by_lem t d x ds es (k.kept 0 (omega arith)) (t d) refl l
    (λ b. first_stays t ds es (record { longer = omega (arith, k.longer); kept = λ u c. k.kept (suc u) (omega arith) }) b)
  where
    first_by_lem : (t : Driver → Bool) (d x : Driver) (ds es : List Driver) → x ≡ d → (b : Bool) → t d ≡ b → first_pin t (d ∷ ds) < suc (length ds)
        → (first_pin t ds < length ds → first_pin t es ≡ first_pin t ds) → first_pin t (x ∷ es) ≡ first_pin t (d ∷ ds)
    first_by_lem t d x ds es same true e l' f = rw (ap t same ∙ e, e)
    first_by_lem t d x ds es same false e l' f = rw (ap t same ∙ e, e) (ap suc (f (less (t d) e l')))
      where
        less : (b : Bool) → b ≡ false → (if b then 0 else suc (first_pin t ds)) < suc (length ds) → first_pin t ds < length ds
        less true h m = true≢false true refl h
        less false h m = omega arith

pub step2_keeps : (n : Netlist) → Keeps (step1 n) (step2 n).drivers
unfolding step2
step2_keeps n = (acts_longer n (events n) (start2 (step1 n))).pins

module _ (n : Netlist) (at : ℕ) (w ws : List ℕ) (t : Tally) (g : Going n at w ws t) where
  -- step 1's drivers are there
  first_kept : Keeps (step1 n) (step2 n).drivers
  first_kept = step2_keeps n

  flags_few : length (step1 n) ≤ 16777216
  flags_few = omega (arith, first_kept.longer, g.keeps.longer, drivers_long_lem ws t.pins, g.table.ready.long, g.table.ready.bounded)

  module _ (p : ℕ) (k : Clocked n p) where
    word_is : (q : ℕ) (e : Edge) → q < size n → first_pin (is_flag q e) (step1 n) < length (step1 n) → get_or w (4 * size n + 2 * q + edge_word e) 0 ≡ first_pin (is_flag q e) (step1 n)
    unfolding flag_word
    word_is q e l f = g.grounded.flags.words q e l ∙ rw (lt-ltb (first_pin (is_flag q e) (step1 n)) (length (step1 n)) f)

    known : (v : Walk) → Inside n g.grounded.accepted v → Flagged (step1 n) v → EndKnown (size n) w (end_of v)
    known still i f = tt
    known (root q e) i f = (i, omega (arith, word_is q e i f, flags_few, f))
    known (gated v e) i f = known v i.0 f
    known strange i f = tt
    known far i f = tt

    end_is : (v : Walk) → Inside n g.grounded.accepted v → Flagged (step1 n) v → end_made (drafted ws t) v ≡ start_at (drafted ws t) (end_lit (size n) w (end_of v))
    end_is still i f = refl
    end_is (root q e) i f = ap₂ start_at (flagged_none (drafted ws t) q e stays) (ap (λ (x : ℕ). 2 * x) (first_stays (is_flag q e) (step1 n) (drafted ws t) whole f ∙ sym (word_is q e i f)))
      where
        whole : Keeps (step1 n) (drafted ws t)
        whole = keeps_trans first_kept g.keeps

        stays : Flagged (drafted ws t) (root q e)
        stays = known_stays (is_flag q e) (step1 n) (drafted ws t) whole f
    end_is (gated v e) i f = end_is v i.0 f
    end_is strange i f = refl
    end_is far i f = refl

module _ (n : Netlist) (p at : ℕ) (w ws : List ℕ) (t : Tally) (walked : Walked)
    (g : Going n at w ws t)
    (k : Clocked n p)
    (e : walked ≡ told (walk n p) 0) where
  within : Inside n g.grounded.accepted (walk n p)
  within = all_inside n g.grounded.accepted p k.inside k.found

  pub end_known : EndKnown (length n.list) w walked.end
  end_known = subst (EndKnown (length n.list) w) (sym (ap (λ (x : Walked). x.end) e)) (known n at w ws t g p k (walk n p) within k.flagged)

  pub gates_told : walked.gates ≡ length (enables (walk n p))
  gates_told = ap (λ (x : Walked). x.gates) e

  pub activity_told : (lit : Literal) → lit.word ≡ end_lit (length n.list) w walked.end → (w' ws' : List ℕ) (r : Option Added)
      → Extends at (gates_over (lits n) (start_at (drafted ws t) lit.word) (enables (walk n p))) w ws t w' ws' r
      → Extends at (trace (drafted ws t) (lits n) (walk n p)) w ws t w' ws' r
  activity_told lit el w' ws' r s = subst (λ (m : Made). Extends at m w ws t w' ws' r)
      (ap (λ (x : ℕ). gates_over (lits n) (start_at (drafted ws t) x) (enables (walk n p))) (el ∙ ap (λ (x : Walked). end_lit (length n.list) w x.end) e)
      ∙ sym (ap (λ (m : Made). gates_over (lits n) m (enables (walk n p))) (end_is n at w ws t g p k (walk n p) within k.flagged))
      ∙ sym (trace-over (lits n) (drafted ws t) (walk n p))) s

-- ---- the clocks of a cell
pub entry_in : (l : List ℕ) (k p : ℕ) → entry_of l k ≡ Some p → 0 < count p l
unfolding entry_of
entry_in [] k p e = clash (cc)
entry_in (x ∷ l) zero p e = let q : p ≡ x = cc in subst (λ (y : ℕ). 0 < count y (x ∷ l)) (sym q) (here x l)
entry_in (x ∷ l) (suc k) p e = there p x l (entry_in l k p e)

pub clock_pin : (n : Netlist) → Accepted n → (c p : ℕ) → c < cells n → 0 < count p (clocks_of n c) → Clocked n p
clock_pin n acc c p l m = record {
  inside = in_keep n acc.tables (λ q. is_clock (kind_of n c) (name_of n q)) c p l m;
  found = walk_found n acc c p l m;
  flagged = step1_flags n c p l m (step1 n) (keeps_refl (step1 n));
}

module _ (n : Netlist) (at : ℕ) (w ws : List ℕ) (t : Tally) (c a b k : ℕ) (found : Option ℕ)
    (h : found ≡ entry_of (either_in n.pins a b (cell_pins n.starts n.list c)) k) where
  pub entry_clocked : Going n at w ws t → c < length n.kinds → is_clock (kind_at (get_or n.kinds c 0)) a ≡ true → is_clock (kind_at (get_or n.kinds c 0)) b ≡ true
      → (p : ℕ) → found ≡ Some p → Clocked n p
  entry_clocked g l ia ib p e = clock_pin n g.grounded.accepted c p l
      (keep_sub (has_name n.pins a b) (λ q. is_clock (kind_of n c) (name_of n q)) p (pins_of n c) is (entry_in (either_in n.pins a b (cell_pins n.starts n.list c)) k p (sym h ∙ e)))
    where
      by : (q : ℕ) (x : Bool) → (get_or n.pins (5 * q + 1) 0 == a) ≡ x → has_name n.pins a b q ≡ true → is_clock (kind_of n c) (name_of n q) ≡ true
      by q true ex t' = subst (λ (m : ℕ). is_clock (kind_of n c) m ≡ true) (sym (eqb-true (get_or n.pins (5 * q + 1) 0) a ex)) ia
      by q false ex t' = subst (λ (m : ℕ). is_clock (kind_of n c) m ≡ true) (sym (eqb-true (get_or n.pins (5 * q + 1) 0) b (rw ex at t'))) ib

      is : (q : ℕ) → has_name n.pins a b q ≡ true → is_clock (kind_of n c) (name_of n q) ≡ true
      is q t' = by q (get_or n.pins (5 * q + 1) 0 == a) refl t'

  pub entry_traced_lem : (p : ℕ) → found ≡ Some p → (w' ws' : List ℕ) (r : Option Added)
      → Extends at (trace (drafted ws t) (lits n) (walk n p)) w ws t w' ws' r
      → Extends at (entry_traced n (drafted ws t) (entry_of (either_in n.pins a b (cell_pins n.starts n.list c)) k)) w ws t w' ws' r
  entry_traced_lem p e w' ws' r s = subst (λ (x : Option ℕ). Extends at (entry_traced n (drafted ws t) x) w ws t w' ws' r) (sym e ∙ h) s

  pub entry_absent : found ≡ None → Table at w ws t
      → Extends at (entry_traced n (drafted ws t) (entry_of (either_in n.pins a b (cell_pins n.starts n.list c)) k)) w ws t w ws (Some (record { lit = record { word = 0 }; tally = t }))
  entry_absent e g = subst (λ (x : Option ℕ). Extends at (entry_traced n (drafted ws t) x) w ws t w ws (Some (record { lit = record { word = 0 }; tally = t }))) (sym e ∙ h)
      (nothing_made at w ws t (record { word = 0 }) g)
