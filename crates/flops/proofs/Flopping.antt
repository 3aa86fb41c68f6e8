-- A flip-flop in step 3, in the code's shape.
use mathlib.Core.Path.{◌≡◌, refl, ap, ap₂, subst, ◌∙◌}
use mathlib.Core.Bool.{true}
use mathlib.Core.List.{List, [], ◌∷◌}
use Prim.Native.Nat.{ℕ, suc, ◌+◌, ◌-◌, ◌*◌, ◌<◌, ◌≤◌}
use native.Mathlib.Omega.{arith}
use lib.ListN.{length, get_or, set}
use Rattle.std.specs.Prelude.{Option, Some, None, ◌==◌}
use Rattle.laws.specs.Lists.{count, first_or}
use Rattle.laws.proofs.Bags.{is_member, first_same}
use Rattle.laws.proofs.Indices.{place, place_at}
use Rattle.rules.specs.declared.Driver.{Driver}
use Rattle.rules.specs.declared.Literal.{Literal}
use Rattle.rules.specs.Netlist.{Netlist, named, name_of, dff}
use Rattle.rules.specs.Graph.{Made, and_of, or_not}
use Rattle.rules.specs.Tables.{record_words}
use Rattle.rules.specs.Build.{is_clock, step2}
use Rattle.rules.proofs.Tables.{in_keep}
use Rattle.builds.proofs.Growing.{Keeps, keeps_trans}
use Rattle.builds.proofs.Ands.{and_keeps, or_grows}
use Rattle.builds.proofs.Rows.{dff_has}
use Rattle.words.proofs.Tables.{Writing, writing_begins, writing_goes_on}
use Rattle.roles.specs.Reading.{either_in, cell_pins, entry_of, kind_at}
use Rattle.roles.proofs.Fitting.{laid}
use Rattle.drafts.specs.declared.Draft.{Draft}
use Rattle.drafts.specs.Table.{drivers_of, Adds}
use Rattle.drafts.specs.Layout.{number_in}
use Rattle.literals.specs.Settled.{word_at}
use Rattle.activity.specs.Traced.{lits, IsGoing, start_at, entry_traced}
use Rattle.activity.proofs.Composing.{adds_longer, adds_extended, adds_goes_on, adds_onward}
use Rattle.flops.specs.declared.Pair.{Pair}
use Rattle.flops.specs.Flopped.{Known, Both, flop_both, second_of, Doubles, flop_clock, flop_made, flop_record, FlopDone}

-- ---- what is read
pub known : (n : Netlist) (d : Draft) → IsGoing n d → Known n d.work.now
known n d g = record { accepted = g.grounded.accepted; fits = g.grounded.fits; wide = omega (arith, g.grounded.below, g.grounded.inside); written = g.grounded.written }

-- the literal of a pin by its name, as step 2 has made it
pub named_known : (n : Netlist) (w : List ℕ) (c name absent : ℕ) → Known n w → c < length n.kinds → first_or absent (word_at w (length n.list)) (named n c name) ≡ first_or absent (lits n) (named n c name)
named_known n w c name absent k l = first_same (word_at w (length n.list)) (lits n) absent (named n c name) (λ q m. k.written.lits q (in_keep n k.accepted.tables (λ p. name_of n p == name) c q l m))

module _ (n : Netlist) (w : List ℕ) (c : ℕ) (k : Known n w) (l : c < length n.kinds) where
  pub start_in : c < length n.starts
  start_in = omega (arith, k.fits.starts_long)

  start-low : get_or n.starts c 0 ≤ length n.list
  start-low = (laid n.kinds n.starts n.list n.pins n.nets k.fits).within c start_in

  module _ (start : ℕ) (es : start ≡ get_or n.starts c 0) where
    pub number_place : 6 * length n.list + start < length w
    number_place = omega (arith, es, start-low, k.wide)

    pub pin_place : length n.list + start < length w
    pin_place = omega (arith, es, start-low, k.wide)

  module _ (e : kind_at (get_or n.kinds c 0) ≡ dff) where
    has : 0 < count c (step2 n).flops
    has = omega (arith, dff_has n k.accepted c l e)

    numbered : get_or w (6 * length n.list + get_or n.starts c 0) 0 ≡ suc (place c (step2 n).flops)
    unfolding number_in
    numbered = k.written.flop_numbers c l e ∙ rw (is_member c (step2 n).flops has)

    module _ (start : ℕ) (es : start ≡ get_or n.starts c 0) where
      module _ (number : ℕ) (en : number ≡ get_or w (6 * length n.list + start) 0) where
        pub number_some : 1 ≤ number
        number_some = omega (arith, numbered, en, ap (λ (i : ℕ). get_or w (6 * length n.list + i) 0) es)

        pub number-told : number - 1 ≡ place c (step2 n).flops
        number-told = omega (arith, numbered, en, ap (λ (i : ℕ). get_or w (6 * length n.list + i) 0) es)

      pub pin_told : (pin : ℕ) → pin ≡ get_or w (length n.list + start) 0 → pin ≡ (step2 n).flop_pin c
      pin_told pin ep = ep ∙ ap (λ (i : ℕ). get_or w (length n.list + i) 0) es ∙ k.written.flop_pins c l e

    pub record_room : (dffs : List ℕ) (j : ℕ) → 3 * length (step2 n).flops ≤ length dffs → j ≡ place c (step2 n).flops → 3 * j + 3 ≤ length dffs
    record_room dffs j r q = omega (arith, r, q, (place_at c (step2 n).flops has).0)

-- ---- a pair after a step
module _ (m : Made) (d d₁ : Draft) (b : Both) where
  pub pair_stops : Adds m d d₁ None → Keeps m.drivers b.drivers → Doubles b d d₁ None
  pair_stops s k = record { step = adds_longer m d d₁ (start_at b.drivers b.second) k.longer s; first = tt }

  pub pair_then : (one : Literal) → Adds m d d₁ (Some one) → (d₂ : Draft) (r : Option Pair) → Doubles b d₁ d₂ r → Doubles b d d₂ r
  pair_then one s d₂ r h = record { step = adds_goes_on m d d₁ one s (start_at b.drivers b.second) d₂ (second_of r) h.step; first = h.first }

-- ---- the four ANDs
module _ (x : Draft) (d a s r : ℕ) where
  -- each of them by itself
  abbrev m1 : Made
  m1 = or_not (drivers_of x) d s

  abbrev m2 : Made
  m2 = or_not m1.drivers a s

  abbrev m3 : Made
  m3 = and_of m2.drivers m1.lit r

  abbrev m4 : Made
  m4 = or_not m3.drivers m2.lit r

  keeps_3 : Keeps m3.drivers m4.drivers
  keeps_3 = (or_grows m3.drivers m2.lit r).keeps

  keeps_2 : Keeps m2.drivers m4.drivers
  keeps_2 = keeps_trans (and_keeps m2.drivers m1.lit r) keeps_3

  keeps_1 : Keeps m1.drivers m4.drivers
  keeps_1 = keeps_trans (or_grows m1.drivers a s).keeps keeps_2

  abbrev all : Both
  all = flop_both (drivers_of x) d a s r

  module _ (x₁ : Draft) where
    pub stops_1 : Adds (or_not (drivers_of x) d s) x x₁ None → Doubles (flop_both (drivers_of x) d a s r) x x₁ None
    stops_1 h = pair_stops m1 x x₁ all h keeps_1

    module _ (one : Literal) (h₁ : Adds (or_not (drivers_of x) d s) x x₁ (Some one)) (x₂ : Draft) where
      second : (q : Option Literal) → Adds (or_not (drivers_of x₁) a s) x₁ x₂ q → Adds m2 x x₂ q
      second = adds_onward m1 x x₁ one h₁ (λ ds. or_not ds a s) x₂

      pub stops_2 : Adds (or_not (drivers_of x₁) a s) x₁ x₂ None → Doubles (flop_both (drivers_of x) d a s r) x x₂ None
      stops_2 h = pair_stops m2 x x₂ all (second None h) keeps_2

      module _ (two : Literal) (h₂ : Adds (or_not (drivers_of x₁) a s) x₁ x₂ (Some two)) (x₃ : Draft) where
        third : (q : Option Literal) → Adds (and_of (drivers_of x₂) one.word r) x₂ x₃ q → Adds m3 x x₃ q
        third q h = subst (λ (l : ℕ). Adds (and_of m2.drivers l r) x x₃ q) (adds_extended m1 x x₁ one h₁).lit
            (adds_onward m2 x x₂ two (second (Some two) h₂) (λ ds. and_of ds one.word r) x₃ q h)

        pub stops_3 : Adds (and_of (drivers_of x₂) one.word r) x₂ x₃ None → Doubles (flop_both (drivers_of x) d a s r) x x₃ None
        stops_3 h = pair_stops m3 x x₃ all (third None h) keeps_3

        module _ (three : Literal) (h₃ : Adds (and_of (drivers_of x₂) one.word r) x₂ x₃ (Some three)) (x₄ : Draft) where
          fourth : (q : Option Literal) → Adds (or_not (drivers_of x₃) two.word r) x₃ x₄ q → Adds m4 x x₄ q
          fourth q h = subst (λ (l : ℕ). Adds (or_not m3.drivers l r) x x₄ q) (adds_extended m2 x x₂ two (second (Some two) h₂)).lit
              (adds_onward m3 x x₃ three (third (Some three) h₃) (λ ds. or_not ds two.word r) x₄ q h)

          pub stops_4 : Adds (or_not (drivers_of x₃) two.word r) x₃ x₄ None → Doubles (flop_both (drivers_of x) d a s r) x x₄ None
          stops_4 h = record { step = fourth None h; first = tt }

          pub four_made : (four : Literal) → Adds (or_not (drivers_of x₃) two.word r) x₃ x₄ (Some four)
              → Doubles (flop_both (drivers_of x) d a s r) x x₄ (Some (record { first = three; second = four }))
          four_made four h = record { step = fourth (Some four) h; first = (adds_extended m3 x x₃ three (third (Some three) h₃)).lit }

pub four_keeps : (ds : List Driver) (d a s r : ℕ) → Keeps ds (flop_both ds d a s r).drivers
four_keeps ds d a s r = let m = or_not ds d s in let k = or_not m.drivers a s in
    keeps_trans (or_grows ds d s).keeps (keeps_trans (or_grows m.drivers a s).keeps (keeps_trans (and_keeps k.drivers m.lit r) (or_grows (and_of k.drivers m.lit r).drivers k.lit r).keeps))

-- ---- a cell
pub clock_named : (n : Netlist) (c : ℕ) → kind_at (get_or n.kinds c 0) ≡ dff → is_clock (kind_at (get_or n.kinds c 0)) 5 ≡ true
clock_named n c e = rw e

module _ (n : Netlist) (x : Draft) (c : ℕ) (x₁ : Draft) where
  abbrev k : Made
  k = flop_clock n (drivers_of x) c

  pub cell_stops : Adds (entry_traced n (drivers_of x) (entry_of (either_in n.pins 5 5 (cell_pins n.starts n.list c)) 0)) x x₁ None
      → Doubles (flop_made n (drivers_of x) c) x x₁ None
  cell_stops s = pair_stops k x x₁ (flop_made n (drivers_of x) c) s
      (four_keeps k.drivers (first_or 0 (lits n) (named n c 4)) k.lit (first_or 1 (lits n) (named n c 6)) (first_or 1 (lits n) (named n c 7)))

  pub cell_made : (clock : Literal) → Adds (entry_traced n (drivers_of x) (entry_of (either_in n.pins 5 5 (cell_pins n.starts n.list c)) 0)) x x₁ (Some clock)
      → (d sl rl : Literal) → Known n x.work.now → c < length n.kinds → d.word ≡ first_or 0 (word_at x.work.now (length n.list)) (named n c 4)
      → sl.word ≡ first_or 1 (word_at x.work.now (length n.list)) (named n c 6) → rl.word ≡ first_or 1 (word_at x.work.now (length n.list)) (named n c 7)
      → (x₂ : Draft) (q : Option Pair) → Doubles (flop_both (drivers_of x₁) d.word clock.word sl.word rl.word) x₁ x₂ q → Doubles (flop_made n (drivers_of x) c) x x₂ q
  cell_made clock s d sl rl kn lc ed es er x₂ q h = pair_then k x x₁ (flop_made n (drivers_of x) c) clock s x₂ q (subst (λ (b : Both). Doubles b x₁ x₂ q) same h)
    where
      same : flop_both (drivers_of x₁) d.word clock.word sl.word rl.word ≡ flop_made n (drivers_of x) c
      same = let e = adds_extended k x x₁ clock s in ap₂ (λ (ds : List Driver) (y : ℕ). flop_both ds d.word y sl.word rl.word) e.drivers e.lit
          ∙ ap (λ (y : ℕ). flop_both k.drivers y k.lit sl.word rl.word) (ed ∙ named_known n x.work.now c 4 0 kn lc)
          ∙ ap₂ (λ (y y' : ℕ). flop_both k.drivers (first_or 0 (lits n) (named n c 4)) k.lit y y') (es ∙ named_known n x.work.now c 6 1 kn lc) (er ∙ named_known n x.work.now c 7 1 kn lc)

-- ---- the record's words
pub three-written : (t : List ℕ) (k next enable pin : ℕ) → 3 * k + 3 ≤ length t
    → Writing t (3 * k) (λ j. get_or (next ∷ enable ∷ pin ∷ []) j 0) 3 (set (set (set t (3 * k) next) (3 * k + 1) enable) (3 * k + 2) pin)
three-written t k next enable pin l =
    writing_goes_on t (3 * k) f 2 (set (set t (3 * k) next) (3 * k + 1) enable) pin
    (writing_goes_on t (3 * k) f 1 (set t (3 * k) next) enable (subst (λ (i : ℕ). Writing t (3 * k) f 1 (set t i next)) zero_more (writing_goes_on t (3 * k) f 0 t next (writing_begins t (3 * k) f) (omega (arith, l)) refl)) (omega (arith, l)) refl)
    (omega (arith, l)) refl
  where
    f : ℕ → ℕ
    f j = get_or (next ∷ enable ∷ pin ∷ []) j 0

    zero_more : 3 * k + 0 ≡ 3 * k
    zero_more = omega arith

module _ (n : Netlist) (x : Draft) (c : ℕ) (dffs : List ℕ) (x₁ : Draft) where
  abbrev b : Both
  b = flop_made n (drivers_of x) c

  pub flop_stops : Doubles (flop_made n (drivers_of x) c) x x₁ None → FlopDone n c x dffs x₁ dffs None
  flop_stops h = record { step = h.step; row = tt; long = refl }

  pub flop_made_lem : (k pin : ℕ) (pair : Pair) → Doubles (flop_made n (drivers_of x) c) x x₁ (Some pair) → k ≡ place c (step2 n).flops → pin ≡ (step2 n).flop_pin c → (dffs' : List ℕ)
      → Writing dffs (3 * k) (λ j. get_or (pair.first.word ∷ pair.second.word ∷ pin ∷ []) j 0) 3 dffs' → FlopDone n c x dffs x₁ dffs' (Some pair.second)
  flop_made_lem k pin pair h ek ep dffs' s = record {
    step = h.step;
    row = subst (λ (i : ℕ). Writing dffs (3 * i) (λ j. get_or (record_words (flop_record n (drivers_of x) c)) j 0) 3 dffs') ek
        (subst (λ (l : List ℕ). Writing dffs (3 * k) (λ j. get_or l j 0) 3 dffs') words s);
    long = s.long;
  }
    where
      words : pair.first.word ∷ pair.second.word ∷ pin ∷ [] ≡ record_words (flop_record n (drivers_of x) c)
      words = ap₂ (λ (i j : ℕ). i ∷ j ∷ pin ∷ []) h.first (adds_extended (start_at b.drivers b.second) x x₁ pair.second h.step).lit
          ∙ ap (λ (j : ℕ). b.first ∷ b.second ∷ j ∷ []) ep
