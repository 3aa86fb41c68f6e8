-- The bits of a whole graph, and what it is to work its stages in order.
use Rattle.std.specs.Prelude.{Option, None, Some, ◌≡◌, ◌⊎◌, Bool, false, not, ◌&&◌, List, [], ◌∷◌, ◌++◌, map, ℕ, zero, suc, ◌%◌, ◌<◌, if◌then◌else◌, ◌==◌}
use Rattle.laws.specs.Lists.{count, flat}
use Rattle.rules.specs.declared.Driver.{Driver}
use Rattle.rules.specs.declared.Driver.TheVariants.{And, Port, Flag, Dff, Ram, Constant}
use Rattle.rules.specs.Graph.{pin_of, gate, Graph, driver_of}
use Rattle.rules.specs.Stages.{reads, inputs, back, Stage, Row}

-- ---- the bits of the whole graph, from the bits of its sources
-- a bit turned where the literal is inverted
abbrev pub turned : ℕ → Bool → Bool
turned l b = if l % 2 == 0 then b else not b

abbrev pub driver_bit : (ℕ → Bool) → (ℕ → Bool) → ℕ → Driver → Bool
driver_bit src h u (And a b) = turned a.word (h (pin_of a.word)) && turned b.word (h (pin_of b.word))
driver_bit src h u (Port q) = src u
driver_bit src h u (Flag q e) = src u
driver_bit src h u (Dff c) = src u
driver_bit src h u (Ram c) = src u
driver_bit src h u Constant = false

abbrev pub bit_by : Graph → (ℕ → Bool) → ℕ → ℕ → Bool
bit_by g src zero u = false
bit_by g src (suc f) u = driver_bit src (bit_by g src f) u (driver_of g u)

-- operands are smaller, so a pin's bit is known after as many steps as its number
abbrev pub bit : Graph → (ℕ → Bool) → ℕ → Bool
bit g src u = bit_by g src (suc u) u

abbrev pub lit_bit : Graph → (ℕ → Bool) → ℕ → Bool
lit_bit g src l = turned l (bit g src (pin_of l))

-- ---- one stage worked: it can read what is known, and the constant; what it may not read has no bit
abbrev pub both : Option Bool → Option Bool → Option Bool
both None y = None
both (Some a) None = None
both (Some a) (Some b) = Some (a && b)

abbrev pub turned_o : ℕ → Option Bool → Option Bool
turned_o l None = None
turned_o l (Some b) = Some (turned l b)

abbrev pub driver_work : (ℕ → Option Bool) → Driver → Option Bool
driver_work h (And a b) = both (turned_o a.word (h (pin_of a.word))) (turned_o b.word (h (pin_of b.word)))
driver_work h (Port q) = None
driver_work h (Flag q e) = None
driver_work h (Dff c) = None
driver_work h (Ram c) = None
driver_work h Constant = Some false

abbrev pub known_or : Option Bool → Option Bool → Option Bool
known_or (Some b) r = Some b
known_or None r = r

abbrev pub work_by : Graph → (ℕ → Option Bool) → ℕ → ℕ → Option Bool
work_by g known zero u = None
work_by g known (suc f) u = known_or (known u) (driver_work (work_by g known f) (driver_of g u))

abbrev pub work : Graph → (ℕ → Option Bool) → ℕ → Option Bool
work g known u = work_by g known (suc u) u

-- ---- what a stage can read: the first, the sources' bits
abbrev pub source_bit : (ℕ → Bool) → ℕ → Driver → Option Bool
source_bit src u (And a b) = None
source_bit src u (Port q) = Some (src u)
source_bit src u (Flag q e) = Some (src u)
source_bit src u (Dff c) = Some (src u)
source_bit src u (Ram c) = Some (src u)
source_bit src u Constant = None

abbrev pub source_bits : Graph → (ℕ → Bool) → ℕ → Option Bool
source_bits g src u = source_bit src u (driver_of g u)

-- a later one, what earlier stages kept of the pins that they handed on
pub record Kept : Type 0 where
  pub pin : ℕ
  pub value : Option Bool

abbrev pub look : List Kept → ℕ → Option Bool
look [] u = None
look (k ∷ ks) u = if u == k.pin then k.value else look ks u

abbrev pub kept : (ℕ → Option Bool) → List ℕ → List Kept
kept w ps = map (λ p. record { pin = p; value = w p }) ps

-- an endpoint and the bits of the literals that it reads
pub record Answer : Type 0 where
  pub endpoint : ℕ
  pub values : List (Option Bool)

abbrev pub answers : Graph → (ℕ → Option Bool) → List ℕ → List Answer
answers g w es = map (λ e. record { endpoint = e; values = map (λ l. turned_o l (w (pin_of l))) (reads g e) }) es

-- the stages worked in order: `known` is what the first of them can read, `mem` what was kept before it
abbrev pub worked : Graph → (ℕ → Option Bool) → List Kept → List Row → List Answer
worked g known mem [] = []
worked g known mem (r ∷ rs) =
    answers g (work g known) r.stage.taken
    ++ worked g (look (mem ++ kept (work g known) r.stage.handed)) (mem ++ kept (work g known) r.stage.handed) rs

-- ---- a stage's gates: those met going back from the inputs of what it takes and from the pins that it hands on, not past pins handed on
-- before; a pin handed on before that is met is not one of them
pub data Met (g : Graph) (before roots : List ℕ) : ℕ → Type 0 where
  root : {u : ℕ} → 0 < count u roots → Met g before roots u
  behind : {u o : ℕ} → Met g before roots u → 0 < count o (back g before u) → Met g before roots o

abbrev pub stage_roots : Graph → Stage → List ℕ
stage_roots g s = flat (inputs g) s.taken ++ s.handed

-- k gates in a row from the gate u, each an operand of the one before it
pub data GateChain (g : Graph) (before roots : List ℕ) : ℕ → ℕ → Type 0 where
  single : {u a b : ℕ} → Met g before roots u → count u before ≡ 0 → driver_of g u ≡ gate a b → GateChain g before roots u 1
  longer : {u a b o k : ℕ} → Met g before roots u → count u before ≡ 0 → driver_of g u ≡ gate a b → (o ≡ pin_of a) ⊎ (o ≡ pin_of b)
      → GateChain g before roots o k → GateChain g before roots u (suc k)
