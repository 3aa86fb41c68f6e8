-- Document 01, "Numbers to check by hand" and "Errors that look reasonable": one table of questions with the answers that 01 writes.
use Rattle.std.specs.Prelude.{Option, None, Some, Bool, true, false, List, [], ◌∷◌, ◌++◌, map, ℕ, zero, suc, ◌+◌, ◌*◌, replicate}
use Rattle.laws.specs.Lists.{flat, upto}
use Rattle.rules.specs.declared.Driver.{Driver}
use Rattle.rules.specs.declared.Driver.TheVariants.{Port, Flag, Dff, Constant}
use Rattle.rules.specs.declared.Edge.TheVariants.{Rising}
use Rattle.rules.specs.Netlist.{Netlist}
use Rattle.rules.specs.Cells.{flop_out}
use Rattle.rules.specs.Graph.{Graph, Made, gate, and_of}
use Rattle.rules.specs.Build.{graph_of, literals_of, fanout_starts, fanouts}
use Rattle.rules.specs.Stages.{Row, stages, row}
use Rattle.rules.specs.Bounds.{max_list, max_stages, stage_work}
use Rattle.rules.specs.Tables.{counts_of, words_of, graph_in}
use Rattle.rules.specs.Refusals.{netlist_number}
use Rattle.rules.specs.Answers.{stages_number}

-- ---- questions and replies
pub record Result : Type 0 where
  pub graph : Graph
  pub literals : List ℕ
  pub starts : List ℕ
  pub fanouts : List ℕ

pub data Reply : Type 0 where
  built : Result → Reply
  made : Made → Reply
  bits : List Bool → Reply
  staged : List Row → Reply
  accepted : Reply
  refused : ℕ → Reply

abbrev pub build : Netlist → Reply
build n = elim (netlist_number n) [
  | zero ↦
      built (record { graph = graph_of n; literals = literals_of n; starts = fanout_starts (graph_of n).drivers; fanouts = fanouts (graph_of n).drivers })
  | suc k ↦ refused (suc k)
]

-- whether a netlist is turned away, without its graph
abbrev pub check : Netlist → Reply
check n = elim (netlist_number n) [ zero ↦ accepted | suc k ↦ refused (suc k) ]

-- the call for stages, with all the room that it may ask for
abbrev pub stage : Graph → List ℕ → Reply
stage g splits =
    elim (stages_number (counts_of g) (words_of g) splits max_stages (4 * max_stages) max_list max_list (stage_work 1000 1000)) [
      | zero ↦
          staged (stages (graph_in (counts_of g) (words_of g)) splits)
      | suc k ↦ refused (suc k)
    ]

-- ---- the netlists
abbrev pub M1 : Netlist
M1 = record {
  kinds = 0 ∷ 5 ∷ [];
  starts = 0 ∷ 3 ∷ 6 ∷ [];
  list = upto 6;
  pins = 0 ∷ 0 ∷ 0 ∷ 1 ∷ 0
      ∷ 0 ∷ 0 ∷ 0 ∷ 1 ∷ 1
      ∷ 0 ∷ 0 ∷ 0 ∷ 0 ∷ 2
      ∷ 1 ∷ 1 ∷ 0 ∷ 0 ∷ 0
      ∷ 1 ∷ 2 ∷ 0 ∷ 0 ∷ 1
      ∷ 1 ∷ 3 ∷ 0 ∷ 1 ∷ 2 ∷ [];
  nets = 2 ∷ 3 ∷ 7 ∷ [];
}

abbrev pub M2 : Netlist
M2 = record {
  kinds = 0 ∷ 8 ∷ [];
  starts = 0 ∷ 3 ∷ 6 ∷ [];
  list = upto 6;
  pins = 0 ∷ 0 ∷ 0 ∷ 1 ∷ 0
      ∷ 0 ∷ 0 ∷ 0 ∷ 1 ∷ 1
      ∷ 0 ∷ 0 ∷ 0 ∷ 0 ∷ 2
      ∷ 1 ∷ 4 ∷ 0 ∷ 0 ∷ 1
      ∷ 1 ∷ 5 ∷ 0 ∷ 0 ∷ 0
      ∷ 1 ∷ 3 ∷ 0 ∷ 1 ∷ 2 ∷ [];
  nets = 2 ∷ 3 ∷ 7 ∷ [];
}

-- one output, BUF of constant 1
abbrev pub M12 : Netlist
M12 = record {
  kinds = 0 ∷ 7 ∷ [];
  starts = 0 ∷ 1 ∷ 3 ∷ [];
  list = upto 3;
  pins = 0 ∷ 0 ∷ 0 ∷ 0 ∷ 1
      ∷ 1 ∷ 1 ∷ 0 ∷ 0 ∷ 0
      ∷ 1 ∷ 3 ∷ 0 ∷ 1 ∷ 1 ∷ [];
  nets = 1 ∷ 4 ∷ [];
}

abbrev pub top_alone : Netlist
top_alone = record { kinds = 0 ∷ []; starts = 0 ∷ 0 ∷ []; list = []; pins = []; nets = [] }

-- an input port, k BUFs in a row, and a flip-flop whose CLK they drive
abbrev pub bufs : ℕ → Netlist
bufs k = record {
  kinds = 0 ∷ (replicate k 7 ++ (8 ∷ []));
  starts = 0 ∷ map (λ c. 2 * c + 1) (upto (k + 2));
  list = upto (2 * k + 3);
  pins = 0 ∷ 0 ∷ 0 ∷ 1 ∷ 0 ∷ (flat buf1 (upto k) ++ ((k + 1) ∷ 5 ∷ 0 ∷ 0 ∷ k ∷ (k + 1) ∷ 3 ∷ 0 ∷ 1 ∷ (k + 1) ∷ []));
  nets = map (λ t. 2 + 2 * t) (upto (k + 2));
}
  where
    buf1 : ℕ → List ℕ
    buf1 c = (c + 1) ∷ 1 ∷ 0 ∷ 0 ∷ c ∷ (c + 1) ∷ 3 ∷ 0 ∷ 1 ∷ (c + 1) ∷ []

-- ---- the graphs
abbrev pub M9 : Graph
M9 = record {
  drivers = Constant ∷ Port 1 ∷ Port 2 ∷ Port 3 ∷ Port 4 ∷ gate 2 4 ∷ gate 6 10 ∷ gate 8 12 ∷ [];
  outputs = 14 ∷ [];
  dffs = [];
  rams = [];
}

-- the removal that puts the last member in the removed place
abbrev pub swap : Graph
swap = record { drivers = Constant ∷ Port 1 ∷ Port 2 ∷ gate 2 4 ∷ gate 4 6 ∷ []; outputs = 6 ∷ 8 ∷ []; dffs = []; rams = [] }

-- three sources; one source
abbrev three : List Driver
three = Constant ∷ Port 0 ∷ Port 1 ∷ Port 2 ∷ []

abbrev single : List Driver
single = Constant ∷ Port 0 ∷ []

-- a stage row as document 01 writes it
abbrev pub st : ℕ → Option ℕ → List ℕ → List ℕ → Row
st a b h t = row a b (record { handed = h; taken = t })

-- ---- the table
pub record Case : Type 0 where
  pub asked : Reply
  pub wanted : Reply

abbrev pub table : List Case
table =
    -- M1
    record {
      asked = build M1;
      wanted = built (record {
        graph = record { drivers = Constant ∷ Port 0 ∷ Port 1 ∷ gate 3 5 ∷ []; outputs = 7 ∷ []; dffs = []; rams = [] };
        literals = 2 ∷ 4 ∷ 7 ∷ 2 ∷ 4 ∷ 7 ∷ [];
        starts = 0 ∷ 0 ∷ 1 ∷ 2 ∷ 2 ∷ [];
        fanouts = 3 ∷ 3 ∷ [];
      });
    } ∷
    -- M2
    record {
      asked = build M2;
      wanted = built (record {
        graph = record {
          drivers = Constant ∷ Flag 0 Rising ∷ Port 0 ∷ Port 1 ∷ Dff 1 ∷ [];
          outputs = 8 ∷ [];
          dffs = (record { next = 6; enable = 2; pin = 4 }) ∷ [];
          rams = [];
        };
        literals = 4 ∷ 6 ∷ 8 ∷ 6 ∷ 4 ∷ 8 ∷ [];
        starts = 0 ∷ 0 ∷ 0 ∷ 0 ∷ 0 ∷ 0 ∷ [];
        fanouts = [];
      });
    } ∷
    -- M3
    record { asked = made (and_of three 0 6); wanted = made (record { drivers = three; lit = 0 }) } ∷
    record { asked = made (and_of three 1 6); wanted = made (record { drivers = three; lit = 6 }) } ∷
    -- M4, and the error of folding a and not a to 0
    record { asked = made (and_of single 2 2); wanted = made (record { drivers = single ++ (gate 2 2 ∷ []); lit = 4 }) } ∷
    record { asked = made (and_of single 3 2); wanted = made (record { drivers = single ++ (gate 2 3 ∷ []); lit = 4 }) } ∷
    -- M6: S=0, R=0, then S=0, R=1, with stored bits 0 and 1
    record {
      asked = bits (flop_out false false false ∷ flop_out true false false ∷ flop_out false false true ∷ flop_out true false true ∷ []);
      wanted = bits (false ∷ false ∷ true ∷ true ∷ []);
    } ∷
    -- M9 and M10
    record { asked = stage M9 (1 ∷ []); wanted = staged (st 0 (Some 1) (4 ∷ 3 ∷ 5 ∷ []) [] ∷ st 1 None [] (0 ∷ []) ∷ []) } ∷
    record { asked = stage M9 (3 ∷ []); wanted = staged (st 0 None [] (0 ∷ []) ∷ []) } ∷
    -- M12: staging is refused
    record {
      asked = build M12;
      wanted = built (record {
        graph = record { drivers = Constant ∷ []; outputs = 1 ∷ []; dffs = []; rams = [] };
        literals = 1 ∷ 1 ∷ 1 ∷ [];
        starts = 0 ∷ 0 ∷ [];
        fanouts = [];
      });
    } ∷
    record { asked = stage (graph_of M12) (1 ∷ []); wanted = refused 14 } ∷
    -- a walk of 64 BUFs, and of 65
    record { asked = check (bufs 64); wanted = accepted } ∷
    record { asked = check (bufs 65); wanted = refused 9 } ∷
    -- the top without pins
    record {
      asked = build top_alone;
      wanted = built (record {
        graph = record { drivers = Constant ∷ []; outputs = []; dffs = []; rams = [] };
        literals = [];
        starts = 0 ∷ 0 ∷ [];
        fanouts = [];
      });
    } ∷
    -- split [0] is accepted, [5, 4] refused
    record { asked = stage M9 (0 ∷ []); wanted = staged (st 0 (Some 0) (4 ∷ 3 ∷ 1 ∷ 2 ∷ []) [] ∷ st 0 None [] (0 ∷ []) ∷ []) } ∷
    record { asked = stage M9 (5 ∷ 4 ∷ []); wanted = refused 13 } ∷
    -- the error of removing while keeping order: 3 2 is handed on, not 2 3
    record { asked = stage swap (1 ∷ []); wanted = staged (st 0 (Some 1) (3 ∷ 2 ∷ []) (0 ∷ []) ∷ st 1 None [] (1 ∷ []) ∷ []) } ∷
    -- the error of accepting equal levels: they are refused, and the rules for stages would lose endpoint 0
    record { asked = stage M9 (1 ∷ 1 ∷ []); wanted = refused 13 } ∷
    record { asked = staged (stages M9 (1 ∷ 1 ∷ [])); wanted = staged (st 0 (Some 1) (4 ∷ 3 ∷ 5 ∷ []) [] ∷ st 1 None [] [] ∷ []) } ∷
    []
