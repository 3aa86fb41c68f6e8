-- The flags of a pin, of a list, of a cell and of all cells, in the code's shape.
use mathlib.Core.Path.{◌≡◌, refl, sym, ap, subst, ◌∙◌}
use mathlib.Core.Bool.{Bool, true, false}
use mathlib.Core.Logic.{◌⊎◌, inl, inr}
use mathlib.Core.List.{List, [], ◌∷◌}
use Prim.Native.Nat.{ℕ, zero, suc, ◌+◌, ◌-◌, ◌*◌, ◌≤◌, ◌<◌}
use native.Mathlib.Omega.{arith}
use native.Mathlib.Numerals.{add-one}
use lib.ListN.{length, get_or, take, drop}
use lib.Seq.{take_all}
use Rattle.std.specs.Prelude.{Option, Some, None}
use Rattle.laws.specs.Lists.{over, keep, upto}
use Rattle.laws.specs.Words.{part}
use Rattle.laws.proofs.Tests.{by_test}
use Rattle.laws.proofs.Folds.{over-take, over-flat}
use Rattle.laws.proofs.Ranges.{length-upto, at_upto}
use Rattle.laws.proofs.Words.{part_length, part_at}
use Rattle.rules.specs.declared.Edge.{Edge}
use Rattle.rules.specs.declared.Edge.TheVariants.{Rising}
use Rattle.rules.specs.declared.Driver.{Driver}
use Rattle.rules.specs.declared.Driver.TheVariants.{Constant}
use Rattle.rules.specs.declared.Tally.{Tally}
use Rattle.rules.specs.Netlist.{Netlist, Kind, cells, name_of, pins_of}
use Rattle.rules.specs.Graph.{driver_at}
use Rattle.rules.specs.Tables.{edge_word}
use Rattle.rules.specs.Build.{is_clock, clocks_of, walk, flag_for, flag_of, step1}
use Rattle.roles.specs.Reading.{tables, Fits, kind_at}
use Rattle.rules.proofs.Tables.{clash}
use Rattle.builds.proofs.Steps.{flag_of_grows}
use Rattle.clocks.specs.declared.WalkEnd.{WalkEnd}
use Rattle.clocks.specs.declared.WalkEnd.TheVariants.{Still, Root, Strange, Far}
use Rattle.clocks.specs.declared.Walked.{Walked}
use Rattle.roles.proofs.Fitting.{laid, entry_inside}
use Rattle.clocks.specs.Walks.{told}
use Rattle.clocks.proofs.Numbering.{ends_behind}
use Rattle.drafts.specs.declared.Draft.{Draft}
use Rattle.drafts.specs.Table.{drafted, SameEnds, drivers_of, counted}
use Rattle.drafts.specs.Layout.{flag_word}
use Rattle.drafts.proofs.Steps.{ends_refl, ends_trans}
use Rattle.drafts.proofs.Drafting.{loans_refl, loans_trans}
use Rattle.flags.specs.Flagging.{Span, Flagging, FlagsOnly, Flagged, made, full, PortWithin, flag_at, flag_if, flags_of, IsFlagging, IsBlank, AddsFlags}
use Rattle.flags.proofs.Words.{edge_le, word_alone}
use Rattle.flags.proofs.Making.{only_refl, only_trans}
use Rattle.flags.proofs.Roots.{flag_end, root_within}

-- ---- one after the other
-- what flags leave that fit
pub record Kept (m at : ℕ) (ds : List Driver) (w ws : List ℕ) (t : Tally) (w' ws' : List ℕ) (t' : Tally) : Type 0 where
  pub state : Flagging m at w' ws' t'
  pub drivers : drafted ws' t' ≡ ds
  pub ends : SameEnds t t'
  pub only : FlagsOnly m at w w'
  pub long : length ws' ≡ length ws

module _ (m at : ℕ) (ds : List Driver) (w ws : List ℕ) (t : Tally) (w₁ ws₁ : List ℕ) where
  longer_flagged : (es : List Driver) → length ds ≤ length es → Flagged m at ds w ws t w₁ ws₁ None → Flagged m at es w ws t w₁ ws₁ None
  longer_flagged es l (made u e a b c d f) = let z : None ≡ Some u = e in clash (cc)
  longer_flagged es l (full a b c d) = full a (omega (arith, b, l)) c d

  module _ (u : Tally) where
    pub kept : Flagged m at ds w ws t w₁ ws₁ (Some u) → Kept m at ds w ws t w₁ ws₁ u
    kept (made v e a b c d f) =
        let s : v ≡ u = cc in
        subst (Kept m at ds w ws t w₁ ws₁) s (record { state = a; drivers = b; ends = c; only = d; long = f })
    kept (full a b c d) = let z : Some u ≡ None = a in clash (cc)

    flagged_then : (f : List Driver → List Driver) (w₂ ws₂ : List ℕ) (two : Option Tally) → Flagged m at ds w ws t w₁ ws₁ (Some u)
        → Flagged m at (f (drafted ws₁ u)) w₁ ws₁ u w₂ ws₂ two → Flagged m at (f ds) w ws t w₂ ws₂ two
    flagged_then f w₂ ws₂ two s s₂ = on (subst (λ (x : List Driver). Flagged m at (f x) w₁ ws₁ u w₂ ws₂ two) k.drivers s₂)
      where
        k : Kept m at ds w ws t w₁ ws₁ u
        k = kept s

        on : Flagged m at (f ds) w₁ ws₁ u w₂ ws₂ two → Flagged m at (f ds) w ws t w₂ ws₂ two
        on (made v e b c d g i) = made v e b c (ends_trans k.ends d) (only_trans k.only g) (i ∙ k.long)
        on (full a b c d) = full a (omega (arith, b, k.long)) (c ∙ k.only.long) (d ∙ k.long)

-- ---- the same of drafts
pub adds_none : (m : ℕ) (d : Draft) → IsFlagging m d → AddsFlags m (drivers_of d) d d (Some tt)
adds_none m d h = record { loans = loans_refl d; flagged = made d.tally refl h refl (ends_refl d.tally) (only_refl m d.at d.work.now) refl }

module _ (m : ℕ) (ds : List Driver) (d d₁ : Draft) where
  adds_longer : (es : List Driver) → length ds ≤ length es → AddsFlags m ds d d₁ None → AddsFlags m es d d₁ None
  adds_longer es l a = record {
    loans = a.loans;
    flagged = longer_flagged m d.at ds d.work.now d.drivers.now d.tally d₁.work.now d₁.drivers.now es l a.flagged;
  }

  module _ (a : AddsFlags m ds d d₁ (Some tt)) where
    adds_then : (f : List Driver → List Driver) (d₂ : Draft) (r : Option (Unit {0})) → AddsFlags m (f (drivers_of d₁)) d₁ d₂ r → AddsFlags m (f ds) d d₂ r
    adds_then f d₂ r b = record {
      loans = loans_trans a.loans b.loans;
      flagged = flagged_then m d.at ds d.work.now d.drivers.now d.tally d₁.work.now d₁.drivers.now d₁.tally f d₂.work.now d₂.drivers.now (counted r d₂.tally) a.flagged
          (subst (λ (x : ℕ). Flagged m x (f (drivers_of d₁)) d₁.work.now d₁.drivers.now d₁.tally d₂.work.now d₂.drivers.now (counted r d₂.tally)) a.loans.place b.flagged);
    }

-- ---- the end of a walk
module _ (m : ℕ) (d : Draft) (end : WalkEnd) where
  same : flag_at (drivers_of d) end ≡ drivers_of d → IsFlagging m d → AddsFlags m (flag_at (drivers_of d) end) d d (Some tt)
  same e h = subst (λ (ds : List Driver). AddsFlags m ds d d (Some tt)) (sym e) (adds_none m d h)

  pub end_none : IsFlagging m d → (end ≡ Still) ⊎ ((end ≡ Strange) ⊎ (end ≡ Far)) → AddsFlags m (flag_at (drivers_of d) end) d d (Some tt)
  end_none h (inl e) = same (ap (flag_at (drivers_of d)) e) h
  end_none h (inr (inl e)) = same (ap (flag_at (drivers_of d)) e) h
  end_none h (inr (inr e)) = same (ap (flag_at (drivers_of d)) e) h

  pub end_root : (q : ℕ) (e : Edge) (d₁ : Draft) (r : Option (Unit {0})) → end ≡ Root q e → AddsFlags m (flag_for (drivers_of d) q e).drivers d d₁ r
      → AddsFlags m (flag_at (drivers_of d) end) d d₁ r
  end_root q e d₁ r s f = subst (λ (x : WalkEnd). AddsFlags m (flag_at (drivers_of d) x) d d₁ r) (sym s) f

-- ---- a pin
module _ (kinds starts list pins nets : List ℕ) (d : Draft) (k p name : ℕ) (clock : Bool)
    (en : name ≡ get_or pins (5 * p + 1) 0) (ec : clock ≡ is_clock (kind_at k) name) where
  abbrev n : Netlist
  n = tables kinds starts list pins nets

  tested : is_clock (kind_at k) (name_of n p) ≡ clock
  tested = sym (ec ∙ ap (is_clock (kind_at k)) en)

  pub pin_idle : clock ≡ false → IsFlagging (length list) d
      → AddsFlags (length list) (flag_if (tables kinds starts list pins nets) (kind_at k) (drivers_of d) p) d d (Some tt)
  unfolding flag_if
  pin_idle f h = rw (tested ∙ f) (adds_none (length list) d h)

  pub pin_walked : clock ≡ true → (x : Walked) → x ≡ told (walk (tables kinds starts list pins nets) p) 0 → (d₁ : Draft) (r : Option (Unit {0}))
      → AddsFlags (length list) (flag_at (drivers_of d) x.end) d d₁ r
      → AddsFlags (length list) (flag_if (tables kinds starts list pins nets) (kind_at k) (drivers_of d) p) d d₁ r
  unfolding flag_if
  pin_walked y x ex d₁ r s = rw (tested ∙ y)
      (subst (λ (ds : List Driver). AddsFlags (length list) ds d d₁ r)
      (ap (λ (v : Walked). flag_at (drivers_of d) v.end) ex ∙ sym (flag_end (drivers_of d) (walk n p))) s)

pub walk-within : (kinds starts list pins nets : List ℕ) (p : ℕ) (x : Walked) → Fits (tables kinds starts list pins nets) → p < length list
    → x ≡ told (walk (tables kinds starts list pins nets) p) 0 → PortWithin (length list) x.end
walk-within kinds starts list pins nets p x f l e =
    subst (PortWithin (length list)) (sym (ap (λ (v : Walked). v.end) e)) (root_within (tables kinds starts list pins nets) f.accepted 64 Rising p l)

-- ---- a list
longer_if : (n : Netlist) (k : Kind) (ds : List Driver) (p : ℕ) → length ds ≤ length (flag_if n k ds p)
unfolding flag_if
longer_if n k ds p = by_test (is_clock k (name_of n p))
    (λ t. rw t (flag_of_grows ds (walk n p)).keeps.longer)
    (λ f. rw f (omega arith))

-- behind the first i of a list there are no more drivers than behind all of it
longer-over : (h : List Driver → ℕ → List Driver) → ((ds : List Driver) (p : ℕ) → length ds ≤ length (h ds p)) → (l : List ℕ) (ds : List Driver) → length ds ≤ length (over h ds l)
longer-over h g [] ds = omega arith
longer-over h g (x ∷ l) ds = omega (arith, g ds x, longer-over h g l (h ds x))

longer-take : (h : List Driver → ℕ → List Driver) → ((ds : List Driver) (p : ℕ) → length ds ≤ length (h ds p)) → (i : ℕ) (l : List ℕ) (ds : List Driver)
    → length (over h ds (take i l)) ≤ length (over h ds l)
longer-take h g zero l ds = longer-over h g l ds
longer-take h g (suc i) [] ds = omega arith
longer-take h g (suc i) (x ∷ l) ds = longer-take h g i l (h ds x)

-- the first i of a list have been worked
pub record Passing (h : List Driver → ℕ → List Driver) (m : ℕ) (l : List ℕ) (d₀ d : Draft) (i : ℕ) : Type 0 where
  pub inside : i ≤ length l
  pub so_far : AddsFlags m (over h (drivers_of d₀) (take i l)) d₀ d (Some tt)

passing_begins : (h : List Driver → ℕ → List Driver) (m : ℕ) (l : List ℕ) (d : Draft) → IsFlagging m d → Passing h m l d d 0
passing_begins h m l d f = record { inside = omega arith; so_far = adds_none m d f }

module _ (h : List Driver → ℕ → List Driver) (m : ℕ) (l : List ℕ) (d₀ d : Draft) (i : ℕ) (p : Passing h m l d₀ d i) where
  passing_ends : length l ≤ i → AddsFlags m (over h (drivers_of d₀) l) d₀ d (Some tt)
  passing_ends e = subst (λ (k : List ℕ). AddsFlags m (over h (drivers_of d₀) k) d₀ d (Some tt)) (take_all i l e) p.so_far

  module _ (e : i < length l) (d₁ : Draft) where
    next : (r : Option (Unit {0})) → AddsFlags m (h (drivers_of d) (get_or l i 0)) d d₁ r → AddsFlags m (over h (drivers_of d₀) (take (suc i) l)) d₀ d₁ r
    next r s = subst (λ (ds : List Driver). AddsFlags m ds d₀ d₁ r) (sym (over-take h (drivers_of d₀) l i 0 e))
        (adds_then m (over h (drivers_of d₀) (take i l)) d₀ d p.so_far (λ ds. h ds (get_or l i 0)) d₁ r s)

    passing_goes_on : AddsFlags m (h (drivers_of d) (get_or l i 0)) d d₁ (Some tt) → Passing h m l d₀ d₁ (i + 1)
    passing_goes_on s = record {
      inside = omega arith;
      so_far = subst (λ (k : ℕ). AddsFlags m (over h (drivers_of d₀) (take k l)) d₀ d₁ (Some tt)) (sym (add-one i)) (next (Some tt) s);
    }

    passing_stops : ((ds : List Driver) (x : ℕ) → length ds ≤ length (h ds x)) → AddsFlags m (h (drivers_of d) (get_or l i 0)) d d₁ None
        → AddsFlags m (over h (drivers_of d₀) l) d₀ d₁ None
    passing_stops g s = adds_longer m (over h (drivers_of d₀) (take (suc i) l)) d₀ d₁ (over h (drivers_of d₀) l)
        (longer-take h g (suc i) l (drivers_of d₀)) (next None s)

-- ---- a list
module _ (kinds starts list pins nets : List ℕ) (k a n : ℕ) where
  -- the entries from a on
  abbrev pub PassingList : Draft → Draft → ℕ → Type 0
  PassingList = Passing (flag_if (tables kinds starts list pins nets) (kind_at k)) (length list) (take n (drop a list))

  pub list_begins : (d : Draft) → IsFlagging (length list) d → PassingList d d 0
  list_begins d f = passing_begins (flag_if (tables kinds starts list pins nets) (kind_at k)) (length list) (take n (drop a list)) d f

  module _ (sp : Span list a n) (d₀ d : Draft) (i : ℕ) (p : PassingList d₀ d i) where
    abbrev h : List Driver → ℕ → List Driver
    h = flag_if (tables kinds starts list pins nets) (kind_at k)

    whole : length (take n (drop a list)) ≡ n
    unfolding part
    whole = part_length list a n sp.fits

    pub list_ends : n ≤ i → AddsFlags (length list) (over (flag_if (tables kinds starts list pins nets) (kind_at k)) (drivers_of d₀) (take n (drop a list))) d₀ d (Some tt)
    list_ends l = passing_ends h (length list) (take n (drop a list)) d₀ d i p (omega (arith, l, whole))

    module _ (l : i < n) (d₁ : Draft) where
      here : (r : Option (Unit {0})) → AddsFlags (length list) (flag_if (tables kinds starts list pins nets) (kind_at k) (drivers_of d) (get_or list (a + i) 0)) d d₁ r
          → AddsFlags (length list) (h (drivers_of d) (get_or (take n (drop a list)) i 0)) d d₁ r
      unfolding part
      here r s = subst (λ (x : ℕ). AddsFlags (length list) (h (drivers_of d) x) d d₁ r) (sym (part_at list a n i l)) s

      pub list_goes_on : AddsFlags (length list) (flag_if (tables kinds starts list pins nets) (kind_at k) (drivers_of d) (get_or list (a + i) 0)) d d₁ (Some tt)
          → PassingList d₀ d₁ (i + 1)
      list_goes_on s = passing_goes_on h (length list) (take n (drop a list)) d₀ d i p (omega (arith, l, whole)) d₁ (here (Some tt) s)

      pub list_stops : AddsFlags (length list) (flag_if (tables kinds starts list pins nets) (kind_at k) (drivers_of d) (get_or list (a + i) 0)) d d₁ None
          → AddsFlags (length list) (over (flag_if (tables kinds starts list pins nets) (kind_at k)) (drivers_of d₀) (take n (drop a list))) d₀ d₁ None
      list_stops s = passing_stops h (length list) (take n (drop a list)) d₀ d i p (omega (arith, l, whole)) d₁
          (longer_if (tables kinds starts list pins nets) (kind_at k)) (here None s)

-- ---- a cell
over-kept : (n : Netlist) (k : Kind) (l : List ℕ) (ds : List Driver) → over (flag_if n k) ds l ≡ over (λ es p. flag_of es (walk n p)) ds (keep (λ p. is_clock k (name_of n p)) l)
unfolding flag_if
over-kept n k [] ds = refl
over-kept n k (x ∷ l) ds = by_test (is_clock k (name_of n x))
    (λ t. rw t (over-kept n k l (flag_of ds (walk n x))))
    (λ f. rw f (over-kept n k l ds))

pub cell_flagged : (kinds starts list pins nets : List ℕ) (c : ℕ) (d d₁ : Draft) (r : Option (Unit {0}))
    → AddsFlags (length list)
    (over (flag_if (tables kinds starts list pins nets) (kind_at (get_or kinds c 0))) (drivers_of d) (take (get_or starts (c + 1) 0 - get_or starts c 0) (drop (get_or starts c 0) list)))
    d d₁ r
    → AddsFlags (length list) (flags_of (tables kinds starts list pins nets) (drivers_of d) c) d d₁ r
unfolding flags_of
cell_flagged kinds starts list pins nets c d d₁ r s = subst (λ (ds : List Driver). AddsFlags (length list) ds d d₁ r)
    (over-kept (tables kinds starts list pins nets) (kind_at (get_or kinds c 0)) (pins_of (tables kinds starts list pins nets) c) (drivers_of d)) s

-- ---- all cells
longer_cell : (n : Netlist) (ds : List Driver) (c : ℕ) → length ds ≤ length (flags_of n ds c)
unfolding flags_of
longer_cell n ds c = longer-over (λ es p. flag_of es (walk n p)) (λ es p. (flag_of_grows es (walk n p)).keeps.longer) (clocks_of n c) ds

all_flagged : (n : Netlist) → over (flags_of n) (Constant ∷ []) (upto (cells n)) ≡ step1 n
unfolding flags_of
all_flagged n = sym (over-flat (λ es p. flag_of es (walk n p)) (clocks_of n) (Constant ∷ []) (upto (cells n)))

module _ (kinds starts list pins nets : List ℕ) where
  abbrev pub PassingCells : Draft → Draft → ℕ → Type 0
  PassingCells = Passing (flags_of (tables kinds starts list pins nets)) (length list) (upto (length kinds))

  pub cells_begin : (d : Draft) → IsBlank (length list) d → PassingCells d d 0
  cells_begin d b = passing_begins (flags_of (tables kinds starts list pins nets)) (length list) (upto (length kinds)) d (record {
    table = b.table;
    first = ap (λ (ds : List Driver). driver_at ds 0) b.alone;
    flags = record {
      words = λ q e l.
          b.clear (4 * length list + 2 * q + edge_word e) (omega arith) (omega (arith, l, edge_le e)) ∙ sym (ap (λ (ds : List Driver). flag_word ds q e) b.alone ∙ word_alone q e);
    };
    small = b.small;
    inside = b.inside;
  })

  module _ (d₀ : Draft) (b : IsBlank (length list) d₀) (d : Draft) (c : ℕ) (p : PassingCells d₀ d c) where
    abbrev g : List Driver → ℕ → List Driver
    g = flags_of (tables kinds starts list pins nets)

    final : over g (drivers_of d₀) (upto (length kinds)) ≡ step1 (tables kinds starts list pins nets)
    final = ap (λ (ds : List Driver). over g ds (upto (length kinds))) b.alone ∙ all_flagged (tables kinds starts list pins nets)

    pub cells_end : length kinds ≤ c → AddsFlags (length list) (step1 (tables kinds starts list pins nets)) d₀ d (Some tt)
    cells_end l = subst (λ (ds : List Driver). AddsFlags (length list) ds d₀ d (Some tt)) final
        (passing_ends g (length list) (upto (length kinds)) d₀ d c p (omega (arith, l, length-upto (length kinds))))

    module _ (l : c < length kinds) (d₁ : Draft) where
      there : (r : Option (Unit {0})) → AddsFlags (length list) (flags_of (tables kinds starts list pins nets) (drivers_of d) c) d d₁ r
          → AddsFlags (length list) (g (drivers_of d) (get_or (upto (length kinds)) c 0)) d d₁ r
      there r s = subst (λ (x : ℕ). AddsFlags (length list) (g (drivers_of d) x) d d₁ r) (sym (at_upto (length kinds) c l)) s

      pub cells_go_on : AddsFlags (length list) (flags_of (tables kinds starts list pins nets) (drivers_of d) c) d d₁ (Some tt)
          → PassingCells d₀ d₁ (c + 1)
      cells_go_on s = passing_goes_on g (length list) (upto (length kinds)) d₀ d c p (omega (arith, l, length-upto (length kinds))) d₁ (there (Some tt) s)

      pub cells_stop : AddsFlags (length list) (flags_of (tables kinds starts list pins nets) (drivers_of d) c) d d₁ None
          → AddsFlags (length list) (step1 (tables kinds starts list pins nets)) d₀ d₁ None
      cells_stop s = subst (λ (ds : List Driver). AddsFlags (length list) ds d₀ d₁ None) final
          (passing_stops g (length list) (upto (length kinds)) d₀ d c p (omega (arith, l, length-upto (length kinds))) d₁
          (longer_cell (tables kinds starts list pins nets)) (there None s))

-- the list of a cell
module _ (kinds starts list pins nets : List ℕ) (c : ℕ) (f : Fits (tables kinds starts list pins nets)) (lc : c < length kinds) where
  pub cell_span : Span list (get_or starts c 0) (get_or starts (c + 1) 0 - get_or starts c 0)
  cell_span = record {
    fits = omega (arith, ends_behind kinds starts list pins nets c f lc, (laid kinds starts list pins nets f).within (c + 1) (omega (arith, f.starts_long)));
    below = λ i l. entry_inside kinds starts list pins nets f c i lc l;
  }
