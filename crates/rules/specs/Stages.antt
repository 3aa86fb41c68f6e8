-- Document 01, "Stages": endpoints and their inputs, traversal, levels, one split, the stages, subsets.
use Rattle.std.specs.Prelude.{Option, None, Some, Bool, true, false, not, List, [], ◌∷◌, ◌++◌, map, ℕ, ◌+◌, ◌-◌, ◌*◌, length, get_or, if◌then◌else◌, ◌==◌}
use Rattle.laws.specs.Tests.{◌<?◌, ◌≤?◌, one}
use Rattle.laws.specs.Lists.{count, member, keep, every, flat, over, upto, is_nil}
use Rattle.laws.specs.Sets.{insert, remove}
use Rattle.laws.specs.Search.{visits, level}
use Rattle.rules.specs.declared.Endpoint.{Endpoint}
use Rattle.rules.specs.declared.Endpoint.TheVariants.{Output, Flop, Memory, Handed}
use Rattle.rules.specs.declared.Record.{Record}
use Rattle.rules.specs.Graph.{pin_of, Graph, RamRow, operands, driver_of, pin_count, dff_at, ram_at}

-- ---- endpoints: output literals, then flip-flops, then RAMs
abbrev pub endpoint_count : Graph → ℕ
endpoint_count g = length g.outputs + length g.dffs + length g.rams

abbrev pub endpoint_by : ℕ → ℕ → ℕ → Endpoint
endpoint_by outputs dffs e =
    if e <? outputs then Output e else (if e <? outputs + dffs then Flop (e - outputs) else Memory (e - outputs - dffs))

abbrev pub endpoint_of : Graph → ℕ → Endpoint
endpoint_of g e = endpoint_by (length g.outputs) (length g.dffs) e

-- one of each in turn
abbrev pub in_turn : List ℕ → List ℕ → List ℕ
in_turn [] ys = ys
in_turn (x ∷ xs) [] = x ∷ xs
in_turn (x ∷ xs) (y ∷ ys) = x ∷ y ∷ in_turn xs ys

-- a flip-flop reads enable, then next
abbrev pub dff_reads : Record → List ℕ
dff_reads r = r.enable ∷ r.next ∷ []

-- a RAM reads its read enable, then per bit read and write address, then per bit write enable and data
abbrev pub ram_reads : RamRow → List ℕ
ram_reads r = r.read_enable ∷ (in_turn r.read_address r.write_address ++ in_turn r.write_enable r.write_data)

-- the literals that an endpoint reads, in order
abbrev pub reads_of : Graph → Endpoint → List ℕ
reads_of g (Output k) = get_or g.outputs k 0 ∷ []
reads_of g (Flop k) = dff_reads (dff_at g k)
reads_of g (Memory k) = ram_reads (ram_at g k)
reads_of g (Handed p) = 2 * p ∷ []

abbrev pub reads : Graph → ℕ → List ℕ
reads g e = reads_of g (endpoint_of g e)

-- inputs of pin 0 are not counted
abbrev pub inputs_of : List ℕ → List ℕ
inputs_of ls = keep (λ p. 0 <? p) (map pin_of ls)

abbrev pub inputs : Graph → ℕ → List ℕ
inputs g e = inputs_of (reads g e)

-- ---- traversal
-- where a visit goes from a pin: to a gate's operands, first before second, and not past a handed-on pin
abbrev pub back : Graph → List ℕ → ℕ → List ℕ
back g handed u = if member u handed then [] else operands (driver_of g u)

-- asked alone: from the given pins, or without a list from pins 1 upward
abbrev pub roots_of : Graph → Bool → List ℕ → List ℕ
roots_of g true roots = roots
roots_of g false roots = keep (λ p. 0 <? p) (upto (pin_count g + 1))

abbrev pub traversal : Graph → Bool → List ℕ → List ℕ → List ℕ
traversal g given roots handed = visits (back g handed) (roots_of g given roots)

-- ---- one split of the endpoints left, by a difference d of levels (none: no upper end), where `before` was handed on before
-- the visits of the inputs of the endpoints left, in their set's order
abbrev pub order : Graph → List ℕ → List ℕ → List ℕ
order g left before = visits (back g before) (flat (inputs g) left)

abbrev pub within : Option ℕ → ℕ → Bool
within (Some d) k = k ≤? d
within None k = true

-- a pin's level, 0 for a source or handed-on pin, is at most the difference
abbrev pub low : Graph → List ℕ → Option ℕ → ℕ → Bool
low g before d u = within d (level (back g before) u)

-- a stage takes the endpoints whose inputs are all low
abbrev pub takes : Graph → List ℕ → List ℕ → Option ℕ → List ℕ
takes g left before d = keep (λ e. every (low g before d) (inputs g e)) left

-- the readers: the gates visited, once for each operand, and the endpoints left, once for each input
abbrev pub readings : Graph → List ℕ → List ℕ → List ℕ
readings g left before = flat (back g before) (order g left before) ++ flat (inputs g) left

-- the set that pins join, and how many readers each pin still has
pub record Joining : Type 0 where
  pub set : List ℕ
  pub readers : ℕ → ℕ

-- one reader of o is done; o leaves the set if nothing more reads it
abbrev pub read : Joining → ℕ → Joining
read s o = record {
  set = if s.readers o - 1 == 0 then remove s.set o else s.set;
  readers = λ p. s.readers p - one (p == o);
}

-- a low pin joins, and has then read its operands, the first and then the second
abbrev pub join : Graph → List ℕ → Option ℕ → Joining → ℕ → Joining
join g before d s u =
    if low g before d u
    then over read (record { set = insert s.set u; readers = s.readers }) (back g before u)
    else s

-- an endpoint taken has read its inputs, in order
abbrev pub take : Graph → Joining → ℕ → Joining
take g s e = over read s (inputs g e)

abbrev pub start : Graph → List ℕ → List ℕ → Joining
start g left before = record { set = []; readers = λ p. count p (readings g left before) }

-- all pins in the visit order, then all endpoints taken
abbrev pub joined : Graph → List ℕ → List ℕ → Option ℕ → Joining
joined g left before d = over (join g before d) (start g left before) (order g left before)

abbrev pub final : Graph → List ℕ → List ℕ → Option ℕ → Joining
final g left before d = over (take g) (joined g left before d) (takes g left before d)

-- what a stage hands on and takes
pub record Stage : Type 0 where
  pub handed : List ℕ
  pub taken : List ℕ

-- pins handed on before are left out at the end
unfoldable pub split : Graph → List ℕ → List ℕ → Option ℕ → Stage
split g left before d = record {
  handed = keep (λ p. not (member p before)) (final g left before d).set;
  taken = takes g left before d;
}

-- ---- the stages
pub record Row : Type 0 where
  pub lower : ℕ
  -- none: no upper end
  pub upper : Option ℕ
  pub stage : Stage

abbrev pub row : ℕ → Option ℕ → Stage → Row
row a b s = record { lower = a; upper = b; stage = s }

-- if nothing is handed on, that stage is the last
abbrev pub onward : ℕ → ℕ → Stage → List Row → List Row
onward a b s rest = if is_nil s.handed then row a None s ∷ [] else row a (Some b) s ∷ rest

-- endpoints taken leave their set one by one; what a stage hands on is kept for all later ones
unfoldable pub stages_from : Graph → ℕ → List ℕ → List ℕ → List ℕ → List Row
stages_from g a left before [] = row a None (split g left before None) ∷ []
stages_from g a left before (b ∷ bs) =
    let s : Stage = split g left before (Some (b - a)) in
    onward a b s (stages_from g b (over remove left s.taken) (before ++ s.handed) bs)

abbrev pub stages : Graph → List ℕ → List Row
stages g splits = stages_from g 0 (upto (endpoint_count g)) [] splits

-- the whole graph as one stage
abbrev pub full_stage : ℕ → Stage
full_stage endpoints = record { handed = []; taken = upto endpoints }

-- ---- the endpoints of a stage: its handed-on pins, then the endpoints that it takes
abbrev pub stage_endpoint : Graph → Stage → ℕ → Endpoint
stage_endpoint g s i =
    if i <? length s.handed
    then Handed (get_or s.handed i 0)
    else endpoint_of g (get_or s.taken (i - length s.handed) 0)

-- a subset by a list of places keeps order and allows repeats
abbrev pub subset : Stage → List ℕ → Stage
subset s is = record {
  handed = map (λ i. get_or s.handed i 0) (keep (λ i. i <? length s.handed) is);
  taken = map (λ i. get_or s.taken (i - length s.handed) 0) (keep (λ i. length s.handed ≤? i) is);
}
