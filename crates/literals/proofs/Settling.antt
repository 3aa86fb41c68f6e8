-- What is left once a pin's literal is written, in the code's shape.
use mathlib.Core.Path.{◌≡◌, refl, sym, ap, subst, ◌∙◌}
use mathlib.Core.Bool.{Bool, false}
use mathlib.Core.List.{List, [], ◌∷◌}
use Prim.Native.Nat.{ℕ, ◌+◌, ◌*◌, ◌≤◌, ◌<◌}
use native.Mathlib.Omega.{arith}
use lib.ListN.{length, get_or, set, length-set}
use lib.Seq.{get_or-set_same, get_or-set_other}
use Rattle.std.specs.Prelude.{Option, Some, None}
use Rattle.std.specs.Borrow.{MutBor}
use Rattle.laws.specs.Lists.{count, first_or}
use Rattle.laws.proofs.Bags.{here}
use Rattle.rules.specs.declared.Literal.{Literal}
use Rattle.rules.specs.declared.Tally.{Tally}
use Rattle.rules.specs.Netlist.{Netlist, named}
use Rattle.rules.specs.Graph.{opposite_if, Made, and_of}
use Rattle.rules.proofs.Tables.{clash, of_name}
use Rattle.roles.specs.Reading.{tables, Fits, entry_of, either_in, cell_pins}
use Rattle.roles.proofs.Roles.{either_same}
use Rattle.drafts.specs.declared.Draft.{Draft}
use Rattle.drafts.specs.declared.Added.{Added}
use Rattle.drafts.specs.Table.{Table, drivers_of, set_reset, Extends, Adds}
use Rattle.drafts.proofs.Steps.{table_store, extended}
use Rattle.literals.specs.Settled.{word_at, turned_made, Left, left, Leaves}

-- ---- a step that fits, and its literal written
pub left_turned : (at m p : ℕ) (z : Bool) (k : Made) (w ws : List ℕ) (t : Tally) (w₁ ws₁ : List ℕ) (step : Added) (o : Literal) (w₂ : List ℕ) → 7 * m + p < at
    → Extends at k w ws t w₁ ws₁ (Some step) → o.word ≡ opposite_if z step.lit.word → w₂ ≡ set w₁ (7 * m + p) o.word
    → Left at m p (turned_made z k) w ws t w₂ ws₁ (Some step.tally)
left_turned at m p z k w ws t w₁ ws₁ step o w₂ l s f h =
    let x = extended at k w ws t w₁ ws₁ step s in
    left step.tally refl
    (subst (λ (v : List ℕ). Table at v ws₁ step.tally) (sym h) (table_store at w₁ ws₁ step.tally (7 * m + p) o.word l x.table))
    x.drivers x.ends
    (record {
      long = ap length h ∙ length-set w₁ (7 * m + p) o.word ∙ x.below.long;
      same = λ j lj ne. ap (λ (v : List ℕ). get_or v j 0) h ∙ get_or-set_other w₁ (7 * m + p) j o.word 0 ne ∙ x.below.same j lj;
    })
    (ap (λ (v : List ℕ). word_at v m p) h
    ∙ get_or-set_same w₁ (7 * m + p) o.word 0 (omega (arith, l, x.table.ready.wide))
    ∙ f ∙ ap (opposite_if z) x.lit)
    x.long

-- the same of drafts
module _ (m p : ℕ) (k : Made) (d d₁ : Draft) (lit : Literal) (a : Adds k d d₁ (Some lit)) (l : 7 * m + p < d.at) (work : MutBor (List ℕ))
    (g : work.ghost_name ≡ d₁.work.ghost_name) where
  pub leaves_turned : (z : Bool) (o : Literal) → o.word ≡ opposite_if z lit.word → work.now ≡ set d₁.work.now (7 * m + p) o.word
      → Leaves m p (turned_made z k) d (record d₁ { work = work }) (Some tt)
  leaves_turned z o f h = record {
    loans = record { drivers = a.loans.drivers; work = g ∙ a.loans.work; place = a.loans.place };
    left = left_turned d.at m p z k d.work.now d.drivers.now d.tally d₁.work.now d₁.drivers.now (record { lit = lit; tally = d₁.tally }) o work.now l a.extends f h;
  }

  pub leaves_plain : work.now ≡ set d₁.work.now (7 * m + p) lit.word → Leaves m p k d (record d₁ { work = work }) (Some tt)
  leaves_plain h = leaves_turned false lit refl h

-- ---- the output of an AND2
pub leaves_and : (m p : ℕ) (x y z : Bool) (a b : ℕ) (d d₁ : Draft) (r : Option (Unit {0})) (work : List ℕ) → work ≡ d.work.now → (one two : Literal)
    → one.word ≡ opposite_if x (word_at work m a) → two.word ≡ opposite_if y (word_at work m b)
    → Leaves m p (turned_made z (and_of (drivers_of d) one.word two.word)) d d₁ r
    → Leaves m p (turned_made z (and_of (drivers_of d) (opposite_if x (word_at d.work.now m a)) (opposite_if y (word_at d.work.now m b)))) d d₁ r
leaves_and m p x y z a b d d₁ r work q one two e₁ e₂ s =
    subst (λ (u : ℕ). Leaves m p (turned_made z (and_of (drivers_of d) (opposite_if x (word_at d.work.now m a)) u)) d d₁ r) (e₂ ∙ ap (λ (w : List ℕ). opposite_if y (word_at w m b)) q)
    (subst (λ (u : ℕ). Leaves m p (turned_made z (and_of (drivers_of d) u two.word)) d d₁ r) (e₁ ∙ ap (λ (w : List ℕ). opposite_if x (word_at w m a)) q) s)

-- ---- the literal of a cell's pin by its name
pub first_some : (d : ℕ) (f : ℕ → ℕ) (l : List ℕ) (q : ℕ) → Some q ≡ entry_of l 0 → f q ≡ first_or d f l
unfolding entry_of
first_some d f [] q s = clash (cc)
first_some d f (x ∷ l) q s = let e : q ≡ x = cc in ap f e

pub first_none : (d : ℕ) (f : ℕ → ℕ) (l : List ℕ) → None ≡ entry_of l 0 → d ≡ first_or d f l
unfolding entry_of
first_none d f [] s = refl
first_none d f (x ∷ l) s = clash (cc)

first_is : (x : ℕ) (k : List ℕ) → entry_of k 0 ≡ Some x → 0 < count x k
unfolding entry_of
first_is x [] g = clash (cc)
first_is x (y ∷ k) g = let o : y ≡ x = cc in subst (λ (v : ℕ). 0 < count x (v ∷ k)) (sym o) (here x k)

module _ (kinds starts list pins nets w : List ℕ) (cell name absent : ℕ) where
  abbrev n : Netlist
  n = tables kinds starts list pins nets

  at_name : entry_of (either_in pins name name (cell_pins starts list cell)) 0 ≡ entry_of (named n cell name) 0
  at_name = ap (λ (l : List ℕ). entry_of l 0) (either_same pins name (cell_pins starts list cell))

  pub entry_below : (q : ℕ) → Some q ≡ entry_of (either_in pins name name (cell_pins starts list cell)) 0 → Fits (tables kinds starts list pins nets)
      → cell < length kinds → 8 * length list ≤ length w → 7 * length list + q < length w
  entry_below q s f l long = omega (arith, long, (of_name n f.accepted cell q name l (first_is q (named n cell name) (sym (s ∙ at_name)))).0)

  pub literal_there : (q : ℕ) (r : Literal) → Some q ≡ entry_of (either_in pins name name (cell_pins starts list cell)) 0 → r.word ≡ get_or w (7 * length list + q) 0
      → r.word ≡ first_or absent (word_at w (length list)) (named (tables kinds starts list pins nets) cell name)
  literal_there q r s f = f ∙ first_some absent (word_at w (length list)) (named n cell name) q (s ∙ at_name)

  pub literal-none : None ≡ entry_of (either_in pins name name (cell_pins starts list cell)) 0
      → absent ≡ first_or absent (word_at w (length list)) (named (tables kinds starts list pins nets) cell name)
  literal-none s = first_none absent (word_at w (length list)) (named n cell name) (s ∙ at_name)

-- ---- the output of a flip-flop
pub leaves_flop : (m p : ℕ) (d d₁ : Draft) (v s r : ℕ) (o : Option (Unit {0})) (set reset : Literal) → set.word ≡ s → reset.word ≡ r
    → Leaves m p (set_reset (drivers_of d) v set.word reset.word) d d₁ o → Leaves m p (set_reset (drivers_of d) v s r) d d₁ o
leaves_flop m p d d₁ v s r o set reset es er x =
    subst (λ (u : ℕ). Leaves m p (set_reset (drivers_of d) v s u) d d₁ o) er
    (subst (λ (u : ℕ). Leaves m p (set_reset (drivers_of d) v u reset.word) d d₁ o) es x)
