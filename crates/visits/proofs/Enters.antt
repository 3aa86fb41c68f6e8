-- A pin is entered, in the code's shape.
use mathlib.Core.Path.{◌≡◌, refl, sym, ap, subst, ◌∙◌}
use mathlib.Core.List.{List}
use Prim.Native.Nat.{ℕ, ◌+◌, ◌<◌}
use native.Mathlib.Omega.{arith}
use lib.ListN.{length, get_or}
use Rattle.laws.specs.Search.{enter}
use Rattle.rules.specs.declared.Tally.{Tally}
use Rattle.rules.specs.declared.Rooms.{Rooms}
use Rattle.rules.specs.Netlist.{Netlist}
use Rattle.rules.specs.Build.{dff_out, role, Build, entering, act, events}
use Rattle.rules.proofs.Tables.{cell_fits}
use Rattle.rules.proofs.Roles.{dff_words}
use Rattle.roles.specs.Reading.{tables, Fits, says}
use Rattle.roles.specs.declared.PinRole.{PinRole}
use Rattle.roles.specs.declared.PinRole.TheVariants.{DffOut}
use Rattle.std.specs.Prelude.{Option, Some}
use Rattle.drafts.specs.Layout.{index_at}
use Rattle.entries.specs.Made.{FlopMade}
use Rattle.visits.specs.Drafting.{Drafting, Listed, Before, Moved, moved, event_at, state_at}
use Rattle.visits.proofs.Places.{start-below}
use Rattle.visits.proofs.Prefixes.{state_next}
use Rattle.visits.proofs.Holding.{dff_listed, flop_moves}
use Rattle.visits.proofs.Sorts.{idle_role, fit_of, draft_of, list_of, index_of, inside_of, event_of_lem, below_of}

-- ---- a pin is entered
module _ (kinds starts list pins nets : List ℕ) (rm : Rooms) (w ws os : List ℕ) (t : Tally) (at i p : ℕ) (bf : Before (tables kinds starts list pins nets) rm w ws os t at i p (enter p)) where
  abbrev n : Netlist
  n = tables kinds starts list pins nets

  abbrev m : ℕ
  m = length list

  abbrev s : Build
  s = state_at n i

  fit : Fits (tables kinds starts list pins nets)
  fit = fit_of n rm w ws os t at i p (enter p) bf

  d : Drafting (tables kinds starts list pins nets) rm w ws t (state_at (tables kinds starts list pins nets) i)
  d = draft_of n rm w ws os t at i p (enter p) bf

  ls : Listed rm os (state_at (tables kinds starts list pins nets) i)
  ls = list_of n rm w ws os t at i p (enter p) bf

  ea : at ≡ index_at (length list) rm.pins
  ea = index_of n rm w ws os t at i p (enter p) bf

  li : i < length (events (tables kinds starts list pins nets))
  li = inside_of n rm w ws os t at i p (enter p) bf

  ev : event_at (tables kinds starts list pins nets) i ≡ enter p
  ev = event_of_lem n rm w ws os t at i p (enter p) bf

  lp : p < length list
  lp = below_of n rm w ws os t at i p (enter p) bf

  now : state_at n (i + 1) ≡ entering s (role n p)
  now = state_next n i li ∙ ap (act n s) ev

  pub enter_idle : (what : PinRole) → says what ≡ role (tables kinds starts list pins nets) p → ((c : ℕ) → what ≡ DffOut c → ⊥)
      → Moved (tables kinds starts list pins nets) rm (state_at (tables kinds starts list pins nets) (i + 1)) w ws os w ws os (Some t)
  enter_idle what er h = subst (λ (b : Build). Moved n rm b w ws os w ws os (Some t)) (sym (now ∙ ap (entering s) (sym er) ∙ idle_role s what h)) (moved t refl d ls refl)

  module _ (c : ℕ) (e : dff_out c ≡ role (tables kinds starts list pins nets) p) where
    is_flop : role n p ≡ dff_out c
    is_flop = sym e

    flop_cell : c < length kinds
    flop_cell = subst (λ (x : ℕ). x < length kinds) (dff_words n p c is_flop).2 (cell_fits n fit.accepted p lp)

    pub enter_place : (place : ℕ) → place ≡ get_or starts c 0 → place < length list
    enter_place place ep = omega (arith, ep, start-below n fit.accepted c flop_cell (dff_listed n fit.accepted c flop_cell (dff_words n p c is_flop).1))

    pub enter_flop : (place : ℕ) (w' ws' : List ℕ) (r : Option Tally) → place ≡ get_or starts c 0
        → FlopMade (length list) at rm.dffs c place w ws t w' ws' r
        → Moved (tables kinds starts list pins nets) rm (state_at (tables kinds starts list pins nets) (i + 1)) w ws os w' ws' os r
    enter_flop place w' ws' r ep f = subst (λ (b : Build). Moved n rm b w ws os w' ws' os r) (sym (now ∙ ap (entering s) is_flop))
        (flop_moves n fit.accepted rm w ws t s d c flop_cell (dff_words n p c is_flop).1 os ls w' ws' r
        (subst (λ (x : ℕ). FlopMade (length list) x rm.dffs c (get_or starts c 0) w ws t w' ws' r) ea
        (subst (λ (x : ℕ). FlopMade (length list) at rm.dffs c x w ws t w' ws' r) ep f)))
