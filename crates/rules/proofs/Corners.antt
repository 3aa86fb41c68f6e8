-- Orders that document 01's own numbers do not show, as the Rust printed them.
use Rattle.std.specs.Prelude.{None, Some}
use mathlib.Core.Path.{◌≡◌, refl}
use mathlib.Core.List.{[], ◌∷◌}
use Rattle.laws.specs.Lists.{upto}
use Rattle.rules.specs.declared.Driver.TheVariants.{Port, Flag, Dff, Constant}
use Rattle.rules.specs.declared.Edge.TheVariants.{Rising}
use Rattle.rules.specs.Netlist.{Netlist}
use Rattle.rules.specs.Graph.{gate, and_of}
use Rattle.rules.specs.Build.{step2, step3}
use Rattle.rules.specs.Stages.{split, stages_from}
use Rattle.rules.specs.Tables.{decode_at}
use Rattle.rules.specs.Answers.{stages_number}
use Rattle.rules.specs.Hand.{build, built, stage, staged, st, M9}

-- an AND2 whose output is the lowest pin: A's port is numbered before B's
abbrev and_first : Netlist
and_first = record {
  kinds = 0 ∷ 4 ∷ [];
  starts = 0 ∷ 3 ∷ 6 ∷ [];
  list = 3 ∷ 4 ∷ 5 ∷ 0 ∷ 1 ∷ 2 ∷ [];
  pins = 1 ∷ 3 ∷ 0 ∷ 1 ∷ 0
      ∷ 1 ∷ 1 ∷ 0 ∷ 0 ∷ 1
      ∷ 1 ∷ 2 ∷ 0 ∷ 0 ∷ 2
      ∷ 0 ∷ 0 ∷ 0 ∷ 1 ∷ 1
      ∷ 0 ∷ 0 ∷ 0 ∷ 1 ∷ 2
      ∷ 0 ∷ 0 ∷ 0 ∷ 0 ∷ 0 ∷ [];
  nets = 2 ∷ 5 ∷ 6 ∷ [];
}

pub a_before_b : build and_first ≡ built (record {
  graph = record { drivers = Constant ∷ Port 3 ∷ Port 4 ∷ gate 3 5 ∷ []; outputs = 6 ∷ []; dffs = []; rams = [] };
  literals = 6 ∷ 2 ∷ 4 ∷ 2 ∷ 4 ∷ 6 ∷ [];
  starts = 0 ∷ 0 ∷ 1 ∷ 2 ∷ 2 ∷ [];
  fanouts = 3 ∷ 3 ∷ [];
})
unfolding and_of step2 step3
a_before_b = refl

-- a DFFSR whose output is the lowest pin: its own pin comes before those of S and R, and next before enable
abbrev flop_first : Netlist
flop_first = record {
  kinds = 0 ∷ 9 ∷ [];
  starts = 0 ∷ 5 ∷ 10 ∷ [];
  list = 5 ∷ 6 ∷ 7 ∷ 8 ∷ 9 ∷ 0 ∷ 1 ∷ 2 ∷ 3 ∷ 4 ∷ [];
  pins = 1 ∷ 3 ∷ 0 ∷ 1 ∷ 0
      ∷ 1 ∷ 6 ∷ 0 ∷ 0 ∷ 1
      ∷ 1 ∷ 7 ∷ 0 ∷ 0 ∷ 2
      ∷ 1 ∷ 4 ∷ 0 ∷ 0 ∷ 3
      ∷ 1 ∷ 5 ∷ 0 ∷ 0 ∷ 4
      ∷ 0 ∷ 0 ∷ 0 ∷ 1 ∷ 1
      ∷ 0 ∷ 0 ∷ 0 ∷ 1 ∷ 2
      ∷ 0 ∷ 0 ∷ 0 ∷ 1 ∷ 3
      ∷ 0 ∷ 0 ∷ 0 ∷ 1 ∷ 4
      ∷ 0 ∷ 0 ∷ 0 ∷ 0 ∷ 0 ∷ [];
  nets = 2 ∷ 7 ∷ 8 ∷ 9 ∷ 10 ∷ [];
}

pub flop_pin_first : build flop_first ≡ built (record {
  graph = record {
    drivers = Constant ∷ Flag 8 Rising ∷ Dff 1 ∷ Port 5 ∷ Port 6 ∷ gate 5 6 ∷ gate 8 11 ∷ Port 7 ∷ Port 8
        ∷ gate 6 15 ∷ gate 3 6 ∷ gate 8 19 ∷ gate 8 20 ∷ [];
    outputs = 12 ∷ [];
    dffs = (record { next = 22; enable = 25; pin = 2 }) ∷ [];
    rams = [];
  };
  literals = 12 ∷ 6 ∷ 8 ∷ 14 ∷ 16 ∷ 6 ∷ 8 ∷ 14 ∷ 16 ∷ 12 ∷ [];
  starts = 0 ∷ 0 ∷ 1 ∷ 2 ∷ 5 ∷ 8 ∷ 9 ∷ 9 ∷ 10 ∷ 10 ∷ 11 ∷ 12 ∷ 12 ∷ 12 ∷ [];
  fanouts = 10 ∷ 5 ∷ 10 ∷ 9 ∷ 5 ∷ 12 ∷ 11 ∷ 6 ∷ 6 ∷ 9 ∷ 11 ∷ 12 ∷ [];
})
unfolding and_of step2 step3
flop_pin_first = refl

-- a CKLNQD whose output is the lowest pin: CP's port is numbered before E's
abbrev gate_first : Netlist
gate_first = record {
  kinds = 0 ∷ 10 ∷ 8 ∷ [];
  starts = 0 ∷ 2 ∷ 5 ∷ 7 ∷ [];
  list = 5 ∷ 6 ∷ 0 ∷ 1 ∷ 2 ∷ 3 ∷ 4 ∷ [];
  pins = 1 ∷ 3 ∷ 0 ∷ 1 ∷ 0
      ∷ 1 ∷ 8 ∷ 0 ∷ 0 ∷ 1
      ∷ 1 ∷ 9 ∷ 0 ∷ 0 ∷ 2
      ∷ 2 ∷ 5 ∷ 0 ∷ 0 ∷ 0
      ∷ 2 ∷ 3 ∷ 0 ∷ 1 ∷ 3
      ∷ 0 ∷ 0 ∷ 0 ∷ 1 ∷ 1
      ∷ 0 ∷ 0 ∷ 0 ∷ 1 ∷ 2 ∷ [];
  nets = 2 ∷ 7 ∷ 8 ∷ 6 ∷ [];
}

pub cp_before_e : build gate_first ≡ built (record {
  graph = record {
    drivers = Constant ∷ Flag 5 Rising ∷ Port 5 ∷ Port 6 ∷ Dff 2 ∷ gate 2 6 ∷ [];
    outputs = [];
    dffs = (record { next = 0; enable = 10; pin = 4 }) ∷ [];
    rams = [];
  };
  literals = 4294967295 ∷ 4 ∷ 6 ∷ 4294967295 ∷ 8 ∷ 4 ∷ 6 ∷ [];
  starts = 0 ∷ 0 ∷ 1 ∷ 1 ∷ 2 ∷ 2 ∷ 2 ∷ [];
  fanouts = 5 ∷ 5 ∷ [];
})
unfolding and_of step2 step3
cp_before_e = refl

-- an output port tied straight to a constant net adds nothing
abbrev tied_port : Netlist
tied_port = record { kinds = 0 ∷ []; starts = 0 ∷ 1 ∷ []; list = 0 ∷ []; pins = 0 ∷ 0 ∷ 0 ∷ 0 ∷ 0 ∷ []; nets = 1 ∷ [] }

pub tied_port_adds_nothing : build tied_port ≡ built (record {
  graph = record { drivers = Constant ∷ []; outputs = []; dffs = []; rams = [] };
  literals = 1 ∷ [];
  starts = 0 ∷ 0 ∷ [];
  fanouts = [];
})
unfolding and_of step2 step3
tied_port_adds_nothing = refl

-- a port that two gates read: its fanouts fall
abbrev read_twice : Netlist
read_twice = record {
  kinds = 0 ∷ 4 ∷ 4 ∷ [];
  starts = 0 ∷ 3 ∷ 6 ∷ 9 ∷ [];
  list = upto 9;
  pins = 0 ∷ 0 ∷ 0 ∷ 1 ∷ 0
      ∷ 0 ∷ 0 ∷ 0 ∷ 1 ∷ 1
      ∷ 0 ∷ 0 ∷ 0 ∷ 1 ∷ 2
      ∷ 1 ∷ 1 ∷ 0 ∷ 0 ∷ 0
      ∷ 1 ∷ 2 ∷ 0 ∷ 0 ∷ 1
      ∷ 1 ∷ 3 ∷ 0 ∷ 1 ∷ 3
      ∷ 2 ∷ 1 ∷ 0 ∷ 0 ∷ 0
      ∷ 2 ∷ 2 ∷ 0 ∷ 0 ∷ 2
      ∷ 2 ∷ 3 ∷ 0 ∷ 1 ∷ 4 ∷ [];
  nets = 2 ∷ 3 ∷ 4 ∷ 7 ∷ 10 ∷ [];
}

pub fanouts_fall : build read_twice ≡ built (record {
  graph = record { drivers = Constant ∷ Port 0 ∷ Port 1 ∷ Port 2 ∷ gate 3 5 ∷ gate 3 7 ∷ []; outputs = []; dffs = []; rams = [] };
  literals = 2 ∷ 4 ∷ 6 ∷ 2 ∷ 4 ∷ 8 ∷ 2 ∷ 6 ∷ 10 ∷ [];
  starts = 0 ∷ 0 ∷ 2 ∷ 3 ∷ 4 ∷ 4 ∷ 4 ∷ [];
  fanouts = 5 ∷ 4 ∷ 4 ∷ 5 ∷ [];
})
unfolding and_of step2 step3
fanouts_fall = refl

-- what any earlier stage handed on is not handed on again
pub handed_once : stage M9 (0 ∷ 1 ∷ 2 ∷ [])
    ≡ staged (st 0 (Some 0) (4 ∷ 3 ∷ 1 ∷ 2 ∷ []) [] ∷ st 0 (Some 1) (5 ∷ []) [] ∷ st 1 (Some 2) (6 ∷ []) [] ∷ st 2 None [] (0 ∷ []) ∷ [])
unfolding split stages_from decode_at stages_number
handed_once = refl
