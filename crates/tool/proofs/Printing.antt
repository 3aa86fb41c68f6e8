-- The pieces of an answer, one behind another.
use mathlib.Core.List.{List, [], ◌∷◌, ◌++◌}
use Prim.Native.Nat.{ℕ, ◌+◌, ◌*◌}
use Rattle.laws.specs.Words.{part}
use Rattle.rules.specs.declared.Tally.{Tally}
use Rattle.rules.specs.declared.GraphCounts.{GraphCounts}
use Rattle.texts.specs.declared.Fault.{Fault}
use Rattle.answers.specs.Printing.{Printed, field_bytes, line_bytes, rows_bytes, numbered_bytes}
use Rattle.answers.specs.Answer.{drivers_bytes, dff_word, ram_word}
use Rattle.answers.proofs.Placing.{printed_then}
use Rattle.tool.specs.Tool.{pins_word, lit_word, output_word, starts_word, fanouts_word, pins_bytes, records_bytes, fanouts_bytes, refused_word, wrong_bytes, broken_bytes}

pub printed_two : (out : List ℕ) (at : ℕ) (xs ys out₁ : List ℕ) (a : ℕ) (out₂ : List ℕ) (b : ℕ) → Printed out at xs out₁ a → Printed out₁ a ys out₂ b → Printed out at (xs ++ ys) out₂ b
printed_two out at xs ys out₁ a out₂ b p q = printed_then out at xs ys out₁ a out₂ b p q

pub printed_three : (out : List ℕ) (at : ℕ) (xs ys zs out₁ : List ℕ) (a : ℕ) (out₂ : List ℕ) (b : ℕ) (out₃ : List ℕ) (r : ℕ)
    → Printed out at xs out₁ a → Printed out₁ a ys out₂ b → Printed out₂ b zs out₃ r → Printed out at (xs ++ (ys ++ zs)) out₃ r
printed_three out at xs ys zs out₁ a out₂ b out₃ r p q s = printed_two out at xs (ys ++ zs) out₁ a out₃ r p (printed_two out₁ a ys zs out₂ b out₃ r q s)

module _ (out : List ℕ) (at : ℕ) (out₁ : List ℕ) (a : ℕ) (out₂ : List ℕ) (b : ℕ) (out₃ : List ℕ) (r : ℕ) where
  pub printed_pins : (t : Tally) (m : ℕ) (literals drivers : List ℕ) → Printed out at (line_bytes pins_word (t.pins ∷ [])) out₁ a → Printed out₁ a (numbered_bytes lit_word literals 0 m) out₂ b
      → Printed out₂ b (drivers_bytes drivers 0 (t.pins + 1)) out₃ r → Printed out at (pins_bytes t m literals drivers) out₃ r
  unfolding pins_bytes
  printed_pins t m literals drivers p q s =
      printed_three out at (line_bytes pins_word (t.pins ∷ [])) (numbered_bytes lit_word literals 0 m) (drivers_bytes drivers 0 (t.pins + 1)) out₁ a out₂ b out₃ r p q s

  pub printed_records : (c : GraphCounts) (outputs dffs rams : List ℕ) → Printed out at (rows_bytes output_word 1 c.outputs outputs) out₁ a → Printed out₁ a (rows_bytes dff_word 3 c.dffs dffs) out₂ b
      → Printed out₂ b (rows_bytes ram_word 123 c.rams rams) out₃ r → Printed out at (records_bytes c outputs dffs rams) out₃ r
  unfolding records_bytes
  printed_records c outputs dffs rams p q s =
      printed_three out at (rows_bytes output_word 1 c.outputs outputs) (rows_bytes dff_word 3 c.dffs dffs) (rows_bytes ram_word 123 c.rams rams) out₁ a out₂ b out₃ r p q s

pub printed_fanouts : (out : List ℕ) (at : ℕ) (t : Tally) (starts fanouts out₁ : List ℕ) (a : ℕ) (out₂ : List ℕ) (r : ℕ)
    → Printed out at (line_bytes starts_word (part starts 0 (t.pins + 2))) out₁ a → Printed out₁ a (line_bytes fanouts_word (part fanouts 0 (2 * t.gates))) out₂ r
    → Printed out at (fanouts_bytes t starts fanouts) out₂ r
unfolding fanouts_bytes
printed_fanouts out at t starts fanouts out₁ a out₂ r p q =
    printed_two out at (line_bytes starts_word (part starts 0 (t.pins + 2))) (line_bytes fanouts_word (part fanouts 0 (2 * t.gates))) out₁ a out₂ r p q

-- ---- a text that is not accepted
pub printed_broken : (out : List ℕ) (line : ℕ) (fault : Fault) (out₁ : List ℕ) (a : ℕ) (out₂ : List ℕ) (b : ℕ) (out₃ : List ℕ) (c : ℕ) (out₄ : List ℕ) (r : ℕ)
    → Printed out 0 refused_word out₁ a → Printed out₁ a (field_bytes 17) out₂ b → Printed out₂ b (field_bytes line) out₃ c → Printed out₃ c (wrong_bytes fault) out₄ r
    → Printed out 0 (broken_bytes line fault) out₄ r
unfolding broken_bytes
printed_broken out line fault out₁ a out₂ b out₃ c out₄ r p q s t =
    printed_two out 0 refused_word (field_bytes 17 ++ (field_bytes line ++ wrong_bytes fault)) out₁ a out₄ r p
    (printed_three out₁ a (field_bytes 17) (field_bytes line) (wrong_bytes fault) out₂ b out₃ c out₄ r q s t)
