-- The state of the visits in the work words, over any function `nx` that says where one goes from a place. With m places: the marks from 0,
-- the stack from m, the events from 2 * m.
use Rattle.std.specs.Prelude.{Option, Some, None, Result, Ok, Err, ◌≡◌, true, false, List, map, ℕ, ◌+◌, ◌-◌, ◌*◌, ◌/◌, ◌%◌, ◌<◌, ◌≤◌, length, get_or, set, if◌then◌else◌, ◌==◌}
use Rattle.laws.specs.Words.{part, stack_of}
use Rattle.laws.specs.Search.{Event, enter, leave, entered, Chain}
use Rattle.laws.proofs.Events.{ins, outs, explore_at}
use Rattle.laws.proofs.Stacks.{Open, resume}
use Rattle.rules.specs.Netlist.{Netlist, size}
use Rattle.rules.specs.Build.{next, events}
use Rattle.rules.specs.Refusals.{loop_free}
use Rattle.rules.specs.declared.Refusal.{Refusal}
use Rattle.rules.specs.declared.Refusal.TheVariants.{Loop}
use Rattle.orders.specs.declared.Place.{Place}

unfoldable pub goes_to : Netlist → ℕ → List ℕ
goes_to n p = next n p

-- ---- events in words
abbrev pub event_of : ℕ → Event
event_of v = if v % 2 == 1 then leave (v / 2) else enter (v / 2)

unfoldable pub events_of : List ℕ → ℕ → ℕ → List Event
events_of w a k = map event_of (part w a k)

-- ---- a look along the places l where a visit goes, by the marks in w: all were left, one was not entered, or one is on the stack
pub record AllLeft (l w : List ℕ) : Type 0 where
  pub left : (j : ℕ) → j < length l → 2 ≤ get_or w (get_or l j 0) 0

pub record FirstNew (l w : List ℕ) (q : ℕ) : Type 0 where
  pub place : ℕ
  pub inside : place < length l
  pub pin : q ≡ get_or l place 0
  pub unmarked : get_or w q 0 ≡ 0
  pub passed : (j : ℕ) → j < place → 2 ≤ get_or w (get_or l j 0) 0

pub record OnStack (l w : List ℕ) (e : Refusal) : Type 0 where
  pub refusal : e ≡ Loop
  pub place : ℕ
  pub inside : place < length l
  pub open_there : get_or w (get_or l place 0) 0 ≡ 1

abbrev pub Looked : List ℕ → List ℕ → Result (Option ℕ) Refusal → Type 0
Looked l w (Ok None) = AllLeft l w
Looked l w (Ok (Some q)) = FirstNew l w q
Looked l w (Err e) = OnStack l w e

-- ---- between turns, with a stack of height h and k events written
pub record Going (nx : ℕ → List ℕ) (m : ℕ) (w : List ℕ) (h k : ℕ) : Type 0 where
  pub long : 4 * m ≤ length w
  pub small : m ≤ 1048576
  -- each entered place has an event, and one more where it was left
  pub room : k + h ≡ 2 * length (entered (events_of w (2 * m) k))
  pub low : h ≤ length (entered (events_of w (2 * m) k))
  pub most : length (entered (events_of w (2 * m) k)) ≤ m
  pub opened : Open nx (stack_of w m h) (events_of w (2 * m) k)
  pub inside : (p : ℕ) → 0 < ins p (events_of w (2 * m) k) → p < m
  pub marks : (q : ℕ) → q < m → get_or w q 0 ≡ ins q (events_of w (2 * m) k) + outs q (events_of w (2 * m) k)

-- the words from 4 * m on are kept
pub record Kept (m : ℕ) (w w' : List ℕ) : Type 0 where
  pub rest : (j : ℕ) → 4 * m ≤ j → get_or w' j 0 ≡ get_or w j 0

-- what is written once the stack is done
abbrev pub goal : (ℕ → List ℕ) → ℕ → List ℕ → ℕ → ℕ → List Event
goal nx m w h k = resume nx m (stack_of w m h) (events_of w (2 * m) k)

-- what leaving the pin p on the top of the stack writes, and entering the pin q
pub record PinLeft (m p : ℕ) (at : Place) (w w' : List ℕ) (at' : Place) : Type 0 where
  pub words : w' ≡ set (set w p 2) (2 * m + at.count) (2 * p + 1)
  pub lower : at'.height ≡ at.height - 1
  pub more : at'.count ≡ at.count + 1

pub record PinEntered (m q : ℕ) (at : Place) (w w' : List ℕ) (at' : Place) : Type 0 where
  pub words : w' ≡ set (set (set w q 1) (m + at.height) q) (2 * m + at.count) (2 * q)
  pub higher : at'.height ≡ at.height + 1
  pub more : at'.count ≡ at.count + 1

-- a way from a place back to itself was met
pub record LoopMet (nx : ℕ → List ℕ) (m : ℕ) (w w' : List ℕ) (e : Refusal) : Type 0 where
  pub refusal : e ≡ Loop
  pub pin : ℕ
  pub inside : pin < m
  pub chain : Chain nx pin pin
  pub kept : Kept m w w'

-- what a turn leaves, or it meets a loop
pub record Turned (nx : ℕ → List ℕ) (m : ℕ) (w : List ℕ) (h k : ℕ) (w' : List ℕ) (h' k' : ℕ) : Type 0 where
  pub going : Going nx m w' h' k'
  pub same : goal nx m w' h' k' ≡ goal nx m w h k
  pub kept : Kept m w w'
  pub more : k' ≡ k + 1

abbrev pub Step : (ℕ → List ℕ) → ℕ → List ℕ → Place → List ℕ → Result Place Refusal → Type 0
Step nx m w at w' (Ok at') = Turned nx m w at.height at.count w' at'.height at'.count
Step nx m w at w' (Err e) = LoopMet nx m w w' e

-- what is left once so many events are written and the stack is empty
pub record Done (nx : ℕ → List ℕ) (m : ℕ) (events : List Event) (w w' : List ℕ) (k' : ℕ) : Type 0 where
  pub going : Going nx m w' 0 k'
  pub written : events_of w' (2 * m) k' ≡ events
  pub kept : Kept m w w'

-- what the turns leave that finish a stack
abbrev pub Finished : (ℕ → List ℕ) → ℕ → List ℕ → ℕ → ℕ → List ℕ → Result ℕ Refusal → Type 0
Finished nx m w h k w' (Ok k') = Done nx m (goal nx m w h k) w w' k'
Finished nx m w h k w' (Err e) = LoopMet nx m w w' e

-- what a visit of u leaves
abbrev pub Visited : (ℕ → List ℕ) → ℕ → List ℕ → ℕ → ℕ → List ℕ → Result ℕ Refusal → Type 0
Visited nx m w k u w' (Ok k') = Done nx m (explore_at nx m (events_of w (2 * m) k) u) w w' k'
Visited nx m w k u w' (Err e) = LoopMet nx m w w' e

-- work words in which nothing was entered
pub record Fresh (m : ℕ) (w : List ℕ) : Type 0 where
  pub long : 4 * m ≤ length w
  pub small : m ≤ 1048576
  pub clear : (q : ℕ) → q < m → get_or w q 0 ≡ 0

-- the visits of all pins: the events as the rules have them, two for each pin; or there is a loop
pub record InOrder (n : Netlist) (w w' : List ℕ) : Type 0 where
  pub free : loop_free n ≡ true
  pub written : events_of w' (2 * size n) (2 * size n) ≡ events n
  pub marks : (q : ℕ) → q < size n → get_or w' q 0 ≡ 2
  pub kept : Kept (size n) w w'

pub record Looped (n : Netlist) (w w' : List ℕ) (e : Refusal) : Type 0 where
  pub refusal : e ≡ Loop
  pub looped : loop_free n ≡ false
  pub kept : Kept (size n) w w'

abbrev pub Ordered : Netlist → List ℕ → List ℕ → Result (Unit {0}) Refusal → Type 0
Ordered n w w' (Ok u) = InOrder n w w'
Ordered n w w' (Err e) = Looped n w w' e
