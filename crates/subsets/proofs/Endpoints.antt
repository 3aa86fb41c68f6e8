-- Endpoints by number, and the places of a stage: each test in the code's shape.
use mathlib.Core.Path.{◌≡◌, sym, ap, ◌∙◌}
use mathlib.Core.Bool.{Bool, true, false}
use mathlib.Core.List.{List}
use Prim.Native.Nat.{ℕ, ◌-◌, ◌<◌, ◌≤◌}
use native.Mathlib.Omega.{arith}
use lib.ListN.{length, get_or}
use borrow.Author.Tests.{le-leb, lt-leb, le-ltb, lt-ltb}
use Rattle.std.specs.Prelude.{Ok, Err, if◌then◌else◌}
use Rattle.laws.specs.Tests.{◌<?◌}
use Rattle.rules.specs.declared.Endpoint.{Endpoint}
use Rattle.rules.specs.declared.Endpoint.TheVariants.{Handed}
use Rattle.rules.specs.declared.Refusal.TheVariants.{Bounds, Index}
use Rattle.rules.specs.declared.GraphCounts.{GraphCounts}
use Rattle.rules.specs.Bounds.{graph_within}
use Rattle.rules.specs.Graph.{Graph}
use Rattle.rules.specs.Stages.{Stage, endpoint_by, stage_endpoint}
use Rattle.rules.specs.Answers.{answer_of, endpoints, endpoint_number}
use Rattle.subsets.specs.Answer.{stage_of, staged_there, staged_number, staged_by}

-- ---- by its number in a graph
module _ (c : GraphCounts) (e : ℕ) (x : Endpoint) where
  pub group_1 : (b : Bool) → b ≡ graph_within c → b ≡ false → Err Bounds ≡ answer_of (endpoint_number c e) x
  unfolding endpoint_number
  group_1 b g f = sym (rw (sym g ∙ f))

  module _ (b : Bool) (g : b ≡ graph_within c) (t : b ≡ true) (n : ℕ) (en : n ≡ endpoints c) where
    pub group_15 : n ≤ e → Err Index ≡ answer_of (endpoint_number c e) x
    unfolding endpoint_number
    group_15 l = let h : endpoints c ≤ e = omega arith in sym (rw (sym g ∙ t, le-ltb e (endpoints c) h))

    pub group_at : (y : Endpoint) → e < n → y ≡ x → Ok y ≡ answer_of (endpoint_number c e) x
    unfolding endpoint_number
    group_at y l q = let h : e < endpoints c = omega arith in ap Ok q ∙ sym (rw (sym g ∙ t, lt-ltb e (endpoints c) h))

-- ---- by its place in a stage
module _ (c : GraphCounts) (handed taken : List ℕ) (i : ℕ) where
  module _ (b : Bool) (g : b ≡ graph_within c) (x : Endpoint) where
    pub staged_1 : b ≡ false → Err Bounds ≡ answer_of (staged_number c (stage_of handed taken) i) x
    unfolding staged_number
    staged_1 f = sym (rw (sym g ∙ f))

    module _ (t : b ≡ true) where
      pub staged_1_handed : 16777215 < length handed → Err Bounds ≡ answer_of (staged_number c (stage_of handed taken) i) x
      unfolding staged_number
      staged_1_handed l = sym (rw (sym g ∙ t, lt-leb (length handed) 16777215 l))

      module _ (lh : length handed ≤ 16777215) where
        pub staged_1_taken : 16777215 < length taken → Err Bounds ≡ answer_of (staged_number c (stage_of handed taken) i) x
        unfolding staged_number
        staged_1_taken l = sym (rw (sym g ∙ t, le-leb (length handed) 16777215 lh, lt-leb (length taken) 16777215 l))

        module _ (lt : length taken ≤ 16777215) (h : Bool) (eh : h ≡ staged_there c (length handed) taken i) where
          pub staged_15 : h ≡ false → Err Index ≡ answer_of (staged_number c (stage_of handed taken) i) x
          unfolding staged_number
          staged_15 f = sym (rw (sym g ∙ t, le-leb (length handed) 16777215 lh, le-leb (length taken) 16777215 lt, sym eh ∙ f))

          pub staged_at : (y : Endpoint) → h ≡ true → y ≡ x → Ok y ≡ answer_of (staged_number c (stage_of handed taken) i) x
          unfolding staged_number
          staged_at y f q = ap Ok q ∙ sym (rw (sym g ∙ t, le-leb (length handed) 16777215 lh, le-leb (length taken) 16777215 lt, sym eh ∙ f))

-- the rules' endpoint of a stage, of any graph with these counts
pub stage_endpoint_lem : (g : Graph) (c : GraphCounts) (s : Stage) (i : ℕ) → length g.outputs ≡ c.outputs → length g.dffs ≡ c.dffs
    → staged_by c s i ≡ stage_endpoint g s i
stage_endpoint_lem g c s i eo ed = λ k. if i <? length s.handed then Handed (get_or s.handed i 0)
    else endpoint_by (sym eo k) (sym ed k) (get_or s.taken (i - length s.handed) 0)
