-- The work words of a split, w, with one word for each of the m pins: levels from 4 * m, readers from 5 * m; from 8 * m on the endpoints left.
use Rattle.std.specs.Prelude.{Option, Some, None, ◌≡◌, true, List, [], ◌∷◌, ℕ, suc, ◌+◌, ◌-◌, ◌*◌, ◌/◌, ◌<◌, ◌≤◌, max, length, get_or, set, if◌then◌else◌, ◌==◌}
use Rattle.laws.specs.Tests.{◌<?◌}
use Rattle.laws.specs.Lists.{count, member, keep, flat, over, upto}
use Rattle.laws.specs.Search.{above, level}
use Rattle.laws.proofs.Visits.{visit_at, Ranked}
use Rattle.laws.proofs.Words.{bump}
use Rattle.rules.specs.declared.EndTables.{EndTables}
use Rattle.rules.specs.declared.GraphCounts.{GraphCounts}
use Rattle.rules.specs.Refusals.{drivers_fit}
use Rattle.rules.specs.Answers.{endpoints}
use Rattle.walk.specs.State.{goes, list_of, Going}
use Rattle.members.specs.Set.{Within}
use Rattle.reads.specs.Reads.{reads_in, reads_long}
use Rattle.levels.specs.declared.Pair.{Pair}

-- the pins whose stops are set
unfoldable pub stops_of : List ℕ → ℕ → List ℕ
stops_of w m = keep (λ p. 0 <? get_or w (m + p) 0) (upto m)

-- a driver table that fits, and stops that are 0 or 1
pub record Known (ws : List ℕ) (m : ℕ) (w : List ℕ) : Type 0 where
  pub low : 1 ≤ m
  pub fits : drivers_fit ws (m - 1) ≡ true
  pub drivers_long : 3 * m ≤ length ws
  pub flags : (p : ℕ) → p < m → get_or w (m + p) 0 ≤ 1
  pub long : 8 * m ≤ length w

-- b readers more fit each word
pub record Spare (w : List ℕ) (m b : ℕ) : Type 0 where
  pub room : (p : ℕ) → p < m → get_or w (5 * m + p) 0 + b ≤ 4294967295
  pub long : 8 * m ≤ length w

-- no endpoint reads past the last pin
pub record ReadsFit (c : GraphCounts) (os ds rs : List ℕ) (m : ℕ) : Type 0 where
  pub fit : (e i : ℕ) → e < endpoints c → i < reads_long c e → get_or (reads_in c os ds rs e) i 0 / 2 < m

-- the n endpoints left are below e
pub record Lefts (w : List ℕ) (m n e : ℕ) : Type 0 where
  pub long : 8 * m + n ≤ length w
  pub inside : (j : ℕ) → j < n → get_or w (8 * m + j) 0 < e

-- a pin as inputs: pin 0 is none
abbrev pub only : ℕ → List ℕ
only p = keep (λ q. 0 <? q) (p ∷ [])

-- what the visits of the pins ps as inputs leave: they are listed with all behind them, and each has its readers more
pub record Gathered (ws : List ℕ) (m : ℕ) (before w : List ℕ) (k : ℕ) (ps w' : List ℕ) (k' : ℕ) : Type 0 where
  pub going : Going ws m w' 0 k'
  pub list : list_of w' m k' ≡ over (visit_at (goes ws m before)) (list_of w m k) ps
  pub readers : (p : ℕ) → p < m → get_or w' (5 * m + p) 0 ≡ get_or w (5 * m + p) 0 + count p ps
  pub stops : (p : ℕ) → p < m → get_or w' (m + p) 0 ≡ get_or w (m + p) 0
  pub levels : (j : ℕ) → 4 * m ≤ j → j < 5 * m → get_or w' j 0 ≡ get_or w j 0
  pub rest : (j : ℕ) → 6 * m ≤ j → get_or w' j 0 ≡ get_or w j 0
  pub long : length w' ≡ length w

-- a gate's two operands
pub record Operands (ws : List ℕ) (m : ℕ) (before : List ℕ) (u a b : ℕ) : Type 0 where
  pub first_not_zero : a ≡ 0 → ⊥
  pub first_less : a < u
  pub second_less : b < u
  pub leads : goes ws m before u ≡ a ∷ b ∷ []

-- where a split goes from the pin u: nowhere, or to a gate's two operands
abbrev pub Leads : List ℕ → ℕ → List ℕ → ℕ → Option Pair → Type 0
Leads ws m before u None = goes ws m before u ≡ []
Leads ws m before u (Some o) = Operands ws m before u o.a o.b

-- ---- levels
-- what raising a gate's pin asks: smaller operands, levels that are at most their pins, and two readers more
pub record Rises (w : List ℕ) (m u a b : ℕ) : Type 0 where
  pub long : 8 * m ≤ length w
  pub few : m ≤ 16777216
  pub inside : u < m
  pub first : a < u
  pub second : b < u
  pub first_level : get_or w (4 * m + a) 0 ≤ a
  pub second_level : get_or w (4 * m + b) 0 ≤ b
  pub first_room : get_or w (5 * m + a) 0 + 2 ≤ 4294967295
  pub second_room : get_or w (5 * m + b) 0 + 2 ≤ 4294967295

unfoldable pub raised : List ℕ → ℕ → ℕ → ℕ → ℕ → List ℕ
raised w m u a b =
    bump (bump (set w (4 * m + u) (max (suc (get_or w (4 * m + a) 0)) (max (suc (get_or w (4 * m + b) 0)) 0))) (5 * m + a)) (5 * m + b)

pub record Raising (w : List ℕ) (m u : ℕ) : Type 0 where
  pub inside : u < m
  pub few : m ≤ 16777216
  pub zero : get_or w (4 * m + u) 0 ≡ 0
  pub small : (p : ℕ) → p < m → get_or w (4 * m + p) 0 ≤ p
  pub spare : Spare w m 2

pub record RaisedPin (ws : List ℕ) (m : ℕ) (before w : List ℕ) (u : ℕ) (w' : List ℕ) : Type 0 where
  pub levels : (p : ℕ) → p < m → get_or w' (4 * m + p) 0 ≡ (if p == u then above (λ o. get_or w (4 * m + o) 0) (goes ws m before u) else get_or w (4 * m + p) 0)
  pub readers : (p : ℕ) → p < m → get_or w' (5 * m + p) 0 ≡ get_or w (5 * m + p) 0 + count p (goes ws m before u)
  pub kept : Within (4 * m) (6 * m) w w'

-- the pins listed stand behind their operands, and no level is set yet
pub record Ranks (ws : List ℕ) (m : ℕ) (w : List ℕ) (k : ℕ) : Type 0 where
  pub ranked : Ranked (goes ws m (stops_of w m)) [] (list_of w m k)
  pub zero : (p : ℕ) → p < m → get_or w (4 * m + p) 0 ≡ 0
  pub few : m ≤ 16777216

pub record Levelled (ws : List ℕ) (m : ℕ) (before w : List ℕ) (k : ℕ) (w' : List ℕ) : Type 0 where
  pub levels : (p : ℕ) → p < m → get_or w' (4 * m + p) 0 ≡ (if member p (list_of w m k) then level (goes ws m before) p else 0)
  pub readers : (p : ℕ) → p < m → get_or w' (5 * m + p) 0 ≡ get_or w (5 * m + p) 0 + count p (flat (goes ws m before) (list_of w m k))
  pub kept : Within (4 * m) (6 * m) w w'

-- ---- of lent tables
abbrev pub ReadsFitIn : EndTables → ℕ → Type 0
ReadsFitIn ends m = ReadsFit ends.counts ends.outputs.now ends.dffs.now ends.rams.now m
