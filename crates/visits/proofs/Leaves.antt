-- A pin is left, in the code's shape: one law for each way.
use mathlib.Core.Path.{◌≡◌, refl, sym, ap, subst, ◌∙◌}
use mathlib.Core.Bool.{Bool}
use mathlib.Core.List.{List, [], ◌∷◌, ◌++◌}
use Prim.Native.Nat.{ℕ, ◌+◌, ◌*◌, ◌≤◌, ◌<◌}
use native.Mathlib.Omega.{arith}
use lib.ListN.{length, get_or, set, length-set}
use lib.Seq.{get_or-set_same, get_or-set_other}
use Rattle.laws.specs.Lists.{count, first_or}
use Rattle.laws.specs.Search.{leave}
use Rattle.laws.proofs.Bags.{here, there, first_same}
use Rattle.rules.specs.declared.Driver.{Driver}
use Rattle.rules.specs.declared.Driver.TheVariants.{Port}
use Rattle.rules.specs.declared.Literal.{Literal}
use Rattle.rules.specs.declared.Tally.{Tally}
use Rattle.rules.specs.declared.Rooms.{Rooms}
use Rattle.rules.specs.Netlist.{Netlist, cell_of, start_of, kind_of, dff, named}
use Rattle.rules.specs.Graph.{opposite_if, pin_of, Made, and_of}
use Rattle.rules.specs.Build.{out_port, and_out, dff_out, ram_out, role, visits_of, Build, with_lit, leaving, act, events}
use Rattle.rules.specs.Refusals.{Accepted}
use Rattle.rules.proofs.Tables.{cell_fits, of_name}
use Rattle.rules.proofs.Roles.{visit_fits, dff_words, ram_words_lem}
use Rattle.roles.specs.Reading.{tables, Fits, says}
use Rattle.roles.specs.declared.PinRole.{PinRole}
use Rattle.drivers.proofs.Rows.{drivers_long_lem}
use Rattle.std.specs.Prelude.{Option, Some}
use Rattle.drafts.specs.Table.{Table, drafted, pushed, set_reset}
use Rattle.drafts.specs.Layout.{index_at}
use Rattle.drafts.proofs.Steps.{table_store, ends_refl}
use Rattle.literals.specs.Settled.{word_at, turned_made, Left, left}
use Rattle.entries.specs.Made.{RamMade, OutputMade}
use Rattle.visits.specs.declared.Leaving.{Leaving}
use Rattle.visits.specs.declared.Leaving.TheVariants.{Take, Copy, Output, Input, And, Flop, Ram}
use Rattle.visits.specs.Drafting.{own_pin, Stored, Drafting, Listed, Before, Moved, event_at, state_at, leaving_of}
use Rattle.visits.proofs.Places.{pin_start, start-below}
use Rattle.visits.proofs.Prefixes.{port_fits, own_fits, state_next}
use Rattle.visits.proofs.Holding.{dff_listed, left_moves, ram_moves, output_moves}
use Rattle.visits.proofs.Sorts.{take-role, copy_role, output_role, input_role, and_role, stored-role, read-role, fit_of, acc_of, draft_of, list_of, index_of, inside_of, event_of_lem, below_of}

-- a literal is written and nothing is made
left_taken : (at m p v : ℕ) (w ws : List ℕ) (t : Tally) → Table at w ws t → 7 * m + p < at
    → Left at m p (record { drivers = drafted ws t; lit = v }) w ws t (set w (7 * m + p) v) ws (Some t)
left_taken at m p v w ws t h l = left t refl (table_store at w ws t (7 * m + p) v l h) refl (ends_refl t)
    (record { long = length-set w (7 * m + p) v; same = λ j k ne. get_or-set_other w (7 * m + p) j v 0 ne })
    (get_or-set_same w (7 * m + p) v 0 (omega (arith, l, h.ready.wide))) refl

-- ---- a pin is left
module _ (kinds starts list pins nets : List ℕ) (rm : Rooms) (w ws os : List ℕ) (t : Tally) (at i p : ℕ) (bf : Before (tables kinds starts list pins nets) rm w ws os t at i p (leave p))
    (what : PinRole) (er : says what ≡ role (tables kinds starts list pins nets) p) (made : Leaving) (em : made ≡ leaving_of (says what)) where
  abbrev n : Netlist
  n = tables kinds starts list pins nets

  abbrev m : ℕ
  m = length list

  abbrev s : Build
  s = state_at n i

  fit : Fits (tables kinds starts list pins nets)
  fit = fit_of n rm w ws os t at i p (leave p) bf

  d : Drafting (tables kinds starts list pins nets) rm w ws t (state_at (tables kinds starts list pins nets) i)
  d = draft_of n rm w ws os t at i p (leave p) bf

  ls : Listed rm os (state_at (tables kinds starts list pins nets) i)
  ls = list_of n rm w ws os t at i p (leave p) bf

  ea : at ≡ index_at (length list) rm.pins
  ea = index_of n rm w ws os t at i p (leave p) bf

  li : i < length (events (tables kinds starts list pins nets))
  li = inside_of n rm w ws os t at i p (leave p) bf

  ev : event_at (tables kinds starts list pins nets) i ≡ leave p
  ev = event_of_lem n rm w ws os t at i p (leave p) bf

  lp : p < length list
  lp = below_of n rm w ws os t at i p (leave p) bf

  acc : Accepted (tables kinds starts list pins nets)
  acc = acc_of n rm w ws os t at i p (leave p) bf

  wide : index_at (length list) rm.pins ≤ length w
  wide = omega (arith, d.table.ready.wide)

  left_is : made ≡ leaving_of (role n p)
  left_is = em ∙ ap leaving_of er

  then_is : state_at n (i + 1) ≡ leaving n s p (role n p)
  then_is = state_next n i li ∙ ap (act n s) ev

  abbrev Goal : List ℕ → List ℕ → List ℕ → Option Tally → Type 0
  Goal w' ws' os' r = Moved (tables kinds starts list pins nets) rm (state_at (tables kinds starts list pins nets) (i + 1)) w ws os w' ws' os' r

  -- a literal is written, with what is made for it
  with_lit_lem : (at : ℕ) (k : Made) (ds : List Driver) (l : ℕ) (w' ws' : List ℕ) (r : Option Tally) → at ≡ index_at (length list) rm.pins → k.drivers ≡ ds → k.lit ≡ l
      → state_at n (i + 1) ≡ with_lit s p ds l → Left at (length list) p k w ws t w' ws' r → Goal w' ws' os r
  with_lit_lem at k ds l w' ws' r ea ed el e f = subst (λ (b : Build). Moved n rm b w ws os w' ws' os r) (sym (e ∙ λ j. with_lit s p (sym ed j) (sym el j)))
      (left_moves n fit.accepted rm w ws t s d p lp k os ls w' ws' r (subst (λ (x : ℕ). Left x (length list) p k w ws t w' ws' r) ea f))

  taken : (v : ℕ) (w' : List ℕ) → state_at n (i + 1) ≡ with_lit s p s.drivers v → w' ≡ set w (7 * length list + p) v → Goal w' ws os (Some t)
  taken v w' e ew = subst (λ (x : List ℕ). Goal x ws os (Some t)) (sym ew)
      (with_lit_lem (index_at m rm.pins) (record { drivers = drafted ws t; lit = v }) s.drivers v (set w (7 * m + p) v) ws (Some t)
      refl d.drivers refl e (left_taken (index_at m rm.pins) m p v w ws t d.table (omega (arith, lp))))

  pub leave_take : (v : ℕ) → made ≡ Take v → (w' : List ℕ) → w' ≡ set w (7 * length list + p) v → Goal w' ws os (Some t)
  leave_take v e w' ew = taken v w' (then_is ∙ take-role n s p (role n p) v (sym left_is ∙ e)) ew

  module _ (q : ℕ) (x : Bool) (e : made ≡ Copy q x) where
    copied : (leaving n s p (role n p) ≡ with_lit s p s.drivers (opposite_if x (s.lits q))) × (0 < count q (visits_of n (role n p)))
    copied = copy_role n s p (role n p) q x (sym left_is ∙ e)

    copy_low : q < length list
    copy_low = visit_fits n fit.accepted p q (role n p) lp refl copied.1

    pub copy_in : 7 * length list + q < length w
    copy_in = omega (arith, copy_low, wide)

    pub leave_copy : (lit : Literal) → lit.word ≡ opposite_if x (word_at w (length list) q) → (w' : List ℕ) → w' ≡ set w (7 * length list + p) lit.word → Goal w' ws os (Some t)
    leave_copy lit el w' ew = taken lit.word w'
        (then_is ∙ copied.0 ∙ ap (λ (v : ℕ). with_lit s p s.drivers v) (sym (el ∙ ap (opposite_if x) (d.written.lits q copy_low)))) ew

  module _ (q : ℕ) (e : made ≡ Output q) where
    is_port : role n p ≡ out_port q
    is_port = output_role (role n p) q (sym left_is ∙ e)

    port_low : q < length list
    port_low = visit_fits n fit.accepted p q (out_port q) lp is_port (here q [])

    port_has : pin_of (s.lits q) < length s.drivers
    port_has = port_fits n acc i li p ev q lp is_port

    pub port_in : 7 * length list + q < length w
    port_in = omega (arith, port_low, wide)

    lit_is : (lit : Literal) → lit.word ≡ get_or w (7 * length list + q) 0 → lit.word ≡ s.lits q
    lit_is lit el = el ∙ d.written.lits q port_low

    pub output_in : (lit : Literal) → lit.word ≡ get_or w (7 * length list + q) 0 → 8 * length list + lit.word < length w
    output_in lit el = omega (arith, lit_is lit el, port_has, wide, drivers_long_lem ws t.pins, ap length d.drivers, d.table.ready.long, d.long)

    pub leave_output : (lit : Literal) → lit.word ≡ get_or w (7 * length list + q) 0 → (w' ws' os' : List ℕ) (r : Option Tally) → ws' ≡ ws
        → OutputMade (length list) p lit.word w os t w' os' r → Goal w' ws' os' r
    leave_output lit el w' ws' os' r same o = subst (λ (x : List ℕ). Goal w' x os' r) (sym same)
        (subst (λ (b : Build). Moved n rm b w ws os w' ws os' r) (sym (then_is ∙ ap (leaving n s p) is_port))
        (output_moves n fit.accepted rm w ws t s d p q lp port_has os ls w' os' r
        (subst (λ (v : ℕ). OutputMade (length list) p v w os t w' os' r) (lit_is lit el) o)))

  pub leave_input : made ≡ Input → (w' ws' : List ℕ) (r : Option Tally) → Left at (length list) p (pushed (drafted ws t) (Port p)) w ws t w' ws' r → Goal w' ws' os r
  leave_input e w' ws' r f = with_lit_lem at (pushed (drafted ws t) (Port p)) (s.drivers ++ (Port p ∷ [])) (2 * length s.drivers) w' ws' r ea
      (ap (λ (x : List Driver). x ++ (Port p ∷ [])) d.drivers) (ap (λ (x : List Driver). 2 * length x) d.drivers)
      (then_is ∙ ap (leaving n s p) (input_role (role n p) (sym left_is ∙ e))) f

  module _ (x y z : Bool) (a b : ℕ) (e : made ≡ And x y z a b) where
    is_and : role n p ≡ and_out x y z a b
    is_and = and_role (role n p) x y z a b (sym left_is ∙ e)

    first_low : a < length list
    first_low = visit_fits n fit.accepted p a (and_out x y z a b) lp is_and (here a (b ∷ []))

    second_low : b < length list
    second_low = visit_fits n fit.accepted p b (and_out x y z a b) lp is_and (there b a (b ∷ []) (here b []))

    pub first_place : 7 * length list + a < at
    first_place = omega (arith, ea, first_low)

    pub second_place : 7 * length list + b < at
    second_place = omega (arith, ea, second_low)

    abbrev got : Made
    got = and_of (drafted ws t) (opposite_if x (word_at w (length list) a)) (opposite_if y (word_at w (length list) b))

    abbrev want : Made
    want = and_of s.drivers (opposite_if x (s.lits a)) (opposite_if y (s.lits b))

    same : got ≡ want
    same = λ j. and_of (d.drivers j) (opposite_if x (d.written.lits a first_low j)) (opposite_if y (d.written.lits b second_low j))

    pub leave_and : (w' ws' : List ℕ) (r : Option Tally)
        → Left at (length list) p (turned_made z (and_of (drafted ws t) (opposite_if x (word_at w (length list) a)) (opposite_if y (word_at w (length list) b)))) w ws t w' ws' r → Goal w' ws' os r
    leave_and w' ws' r f = with_lit_lem at (turned_made z got) want.drivers (opposite_if z want.lit) w' ws' r ea
        (ap (λ (k : Made). k.drivers) same) (ap (λ (k : Made). opposite_if z k.lit) same)
        (then_is ∙ ap (leaving n s p) is_and) f

  module _ (c : ℕ) (e : made ≡ Flop c) where
    is_stored : role n p ≡ dff_out c
    is_stored = stored-role (role n p) c (sym left_is ∙ e)

    pub stored_cell : c < length kinds
    stored_cell = subst (λ (v : ℕ). v < length kinds) (dff_words n p c is_stored).2 (cell_fits n fit.accepted p lp)

    stored_kind : kind_of n c ≡ dff
    stored_kind = (dff_words n p c is_stored).1

    stored_low : start_of n c < length list
    stored_low = start-below n fit.accepted c stored_cell (dff_listed n fit.accepted c stored_cell stored_kind)

    abbrev own : ℕ
    own = own_pin starts list w c

    own_is : own ≡ s.flop_pin c
    own_is = d.written.flop_pins c stored_cell stored_kind

    pub stored-own : Stored starts list w c
    stored-own = record {
      there = omega (arith, stored_cell, fit.starts_long);
      placed = stored_low;
      small = omega (arith, own_is, own_fits n acc i li p ev c is_stored, drivers_long_lem ws t.pins, ap length d.drivers, d.table.ready.long, d.table.ready.bounded);
    }

    lits-same : (name : ℕ) → first_or 1 (word_at w (length list)) (named n c name) ≡ first_or 1 s.lits (named n c name)
    lits-same name = first_same (word_at w (length list)) s.lits 1 (named n c name)
        (λ q k. d.written.lits q (of_name n fit.accepted c q name stored_cell k).0)

    abbrev stored : Made
    stored = set_reset (drafted ws t) (2 * own_pin starts list w c) (first_or 1 (word_at w (length list)) (named (tables kinds starts list pins nets) c 6)) (first_or 1 (word_at w (length list)) (named (tables kinds starts list pins nets) c 7))

    abbrev stored_so : Made
    stored_so = set_reset s.drivers (2 * s.flop_pin c) (first_or 1 s.lits (named n c 6)) (first_or 1 s.lits (named n c 7))

    stored_same : stored ≡ stored_so
    stored_same = λ j. set_reset (d.drivers j) (2 * own_is j) (lits-same 6 j) (lits-same 7 j)

    pub leave_flop : (w' ws' : List ℕ) (r : Option Tally) → Left at (length list) p stored w ws t w' ws' r → Goal w' ws' os r
    leave_flop w' ws' r f = with_lit_lem at stored stored_so.drivers stored_so.lit w' ws' r ea (ap (λ (k : Made). k.drivers) stored_same) (ap (λ (k : Made). k.lit) stored_same)
        (then_is ∙ ap (leaving n s p) is_stored) f

  module _ (c x : ℕ) (e : made ≡ Ram c x) where
    is_read : role n p ≡ ram_out c x
    is_read = read-role (role n p) c x (sym left_is ∙ e)

    of_cell : cell_of n p ≡ c
    of_cell = (ram_words_lem n p c x is_read).2

    read_cell : c < length kinds
    read_cell = subst (λ (v : ℕ). v < length kinds) of_cell (cell_fits n fit.accepted p lp)

    read_listed : start_of n c < start_of n (c + 1)
    read_listed = subst (λ (v : ℕ). start_of n v < start_of n (v + 1)) of_cell (pin_start n fit.accepted p lp)

    module _ (place : ℕ) (ep : place ≡ get_or starts c 0) where
      pub read_place : place < length list
      read_place = omega (arith, ep, start-below n fit.accepted c read_cell read_listed)

      pub leave_ram : (w' ws' : List ℕ) (r : Option Tally) → RamMade (length list) at rm.rams c place p w ws t w' ws' r → Goal w' ws' os r
      leave_ram w' ws' r f = subst (λ (b : Build). Moved n rm b w ws os w' ws' os r) (sym (then_is ∙ ap (leaving n s p) is_read))
          (ram_moves n fit.accepted rm w ws t s d c x p lp read_cell (ram_words_lem n p c x is_read).1 read_listed os ls w' ws' r
          (subst (λ (v : ℕ). RamMade (length list) v rm.rams c (get_or starts c 0) p w ws t w' ws' r) ea
          (subst (λ (v : ℕ). RamMade (length list) at rm.rams c v p w ws t w' ws' r) ep f)))

-- ---- a flip-flop's own pin is read
pub stored-left : (kinds starts list pins nets : List ℕ) (at p : ℕ) (w ws : List ℕ) (t : Tally) (c place o : ℕ) (w' ws' : List ℕ) (r : Option Tally) → place ≡ get_or starts c 0
    → o ≡ get_or w (length list + place) 0
    → Left at (length list) p
    (set_reset (drafted ws t) (2 * o) (first_or 1 (word_at w (length list)) (named (tables kinds starts list pins nets) c 6)) (first_or 1 (word_at w (length list)) (named (tables kinds starts list pins nets) c 7)))
    w ws t w' ws' r
    → Left at (length list) p
    (set_reset (drafted ws t) (2 * own_pin starts list w c) (first_or 1 (word_at w (length list)) (named (tables kinds starts list pins nets) c 6)) (first_or 1 (word_at w (length list)) (named (tables kinds starts list pins nets) c 7)))
    w ws t w' ws' r
stored-left kinds starts list pins nets at p w ws t c place o w' ws' r e f x = subst
    (λ (v : ℕ). Left at (length list) p (set_reset (drafted ws t) (2 * v) (first_or 1 (word_at w (length list)) (named (tables kinds starts list pins nets) c 6)) (first_or 1 (word_at w (length list)) (named (tables kinds starts list pins nets) c 7))) w ws t w' ws' r)
    (f ∙ ap (λ (v : ℕ). get_or w (length list + v) 0) e) x
