-- 3 to 11 and the graph, then the whole call, in the code's shape.
use mathlib.Core.Path.{◌≡◌, refl, sym, ap, ◌∙◌}
use mathlib.Core.List.{List}
use Prim.Native.Nat.{ℕ, zero, suc, ◌+◌, ◌*◌}
use lib.ListN.{length}
use Rattle.std.specs.Prelude.{Some, None, Ok, Err}
use Rattle.laws.specs.Tests.{refuse}
use Rattle.laws.proofs.Tests.{next-refused, refused}
use Rattle.laws.proofs.Words.{zeros-length}
use Rattle.rules.specs.declared.Rooms.{Rooms}
use Rattle.rules.specs.declared.Refusal.{Refusal}
use Rattle.rules.specs.declared.Refusal.TheVariants.{Room}
use Rattle.rules.specs.Netlist.{Netlist, size}
use Rattle.rules.specs.Build.{graph_of, tally}
use Rattle.rules.specs.Refusals.{netlist_number, room_fits}
use Rattle.rules.specs.Answers.{BuildLengths, BuildTables, build_tables, done_of}
use Rattle.rules.proofs.Tables.{clash}
use Rattle.walk.proofs.Answered.{refused_too, or_refused}
use Rattle.roles.specs.Reading.{tables}
use Rattle.prepares.specs.Prepared.{MadeReady, TurnedAway}
use Rattle.aig.specs.Building.{lent, lengths_of, blank, asked, Finished, finished, too_small, Waiting, waiting, number, BuiltAs}

-- ---- a refusal, and success
pub blank-held : (k : ℕ) (n : Netlist) (l : BuildLengths) (e : Refusal) → Err e ≡ done_of k → blank l ≡ build_tables k n l
blank-held zero n l e q = let z : Err e ≡ Ok tt = q in clash (cc)
blank-held (suc k) n l e q = refl

refused_as : (n : Netlist) (rm : Rooms) (w w' : List ℕ) (t : BuildTables) (e : Refusal) → Err e ≡ done_of (number n rm) → t ≡ blank (asked (size n) rm (length w)) → length w' ≡ length w
    → BuiltAs n rm w w' t (Err e)
refused_as n rm w w' t e q b l = record {
  answer = refused_too (number n rm) (tally (graph_of n)) e q;
  tables = b ∙ blank-held (number n rm) n (asked (size n) rm (length w)) e q;
  long = l;
}

blank_again : (n : ℕ) (rm : Rooms) (k : ℕ) (t t₁ t₂ : BuildTables) → t ≡ blank (asked n rm k) → lengths_of t₁ 0 ≡ lengths_of t 0 → t₂ ≡ blank (lengths_of t₁ 0) → t₂ ≡ blank (asked n rm k)
blank_again n rm k t t₁ t₂ e l f = f ∙ ap blank (l ∙ ap (λ (x : BuildTables). lengths_of x 0) e)
    ∙ (λ i. blank (record {
      drivers = zeros-length (3 * (rm.pins + 1)) i;
      outputs = zeros-length rm.outputs i;
      dffs = zeros-length (3 * rm.dffs) i;
      rams = zeros-length (123 * rm.rams) i;
      literals = zeros-length n i;
      starts = zeros-length (rm.pins + 2) i;
      fanouts = zeros-length rm.fanouts i;
      work = 0;
    }))

module _ (kinds starts list pins nets : List ℕ) (rm : Rooms) (w ws os fs rs ls ss es : List ℕ) (u : Waiting kinds starts list pins rm w (lent ws os fs rs ls ss es)) where
  abbrev n : Netlist
  n = tables kinds starts list pins nets

  blank_all : lent ws os fs rs ls ss es ≡ blank (asked (length list) rm (length w))
  blank_all = from u
    where
      from : Waiting kinds starts list pins rm w (lent ws os fs rs ls ss es) → lent ws os fs rs ls ss es ≡ blank (asked (length list) rm (length w))
      from (waiting a b c d e) = b

  module _ (w₁ : List ℕ) where
    pub asked_away : (e : Refusal) → TurnedAway (tables kinds starts list pins nets) w w₁ e → BuiltAs (tables kinds starts list pins nets) rm w w₁ (lent ws os fs rs ls ss es) (Err e)
    asked_away e p = refused_as n rm w w₁ (lent ws os fs rs ls ss es) e (or_refused (netlist_number n) (refuse 11 (room_fits (tally (graph_of n)) rm)) tt e p.answer) blank_all p.size_kept

    module _ (p : MadeReady (tables kinds starts list pins nets) w w₁) where
      eleven : number n rm ≡ refuse 11 (room_fits (tally (graph_of n)) rm)
      eleven = next-refused (netlist_number n) (refuse 11 (room_fits (tally (graph_of n)) rm)) p.number

      module _ (w₂ ws₂ os₂ fs₂ rs₂ ls₂ ss₂ es₂ : List ℕ) where
        pub asked_full : Finished (tables kinds starts list pins nets) rm w₁ (lent ws os fs rs ls ss es) w₂ (lent ws₂ os₂ fs₂ rs₂ ls₂ ss₂ es₂) None → (ws₃ os₃ fs₃ rs₃ ls₃ ss₃ es₃ : List ℕ)
            → lent ws₃ os₃ fs₃ rs₃ ls₃ ss₃ es₃ ≡ blank (lengths_of (lent ws₂ os₂ fs₂ rs₂ ls₂ ss₂ es₂) 0)
            → BuiltAs (tables kinds starts list pins nets) rm w w₂ (lent ws₃ os₃ fs₃ rs₃ ls₃ ss₃ es₃) (Err Room)
        asked_full (finished v x a b c l) ws₃ os₃ fs₃ rs₃ ls₃ ss₃ es₃ o = let q : None ≡ Some v = x in clash (cc)
        asked_full (too_small x a b l) ws₃ os₃ fs₃ rs₃ ls₃ ss₃ es₃ o = refused_as n rm w w₂ (lent ws₃ os₃ fs₃ rs₃ ls₃ ss₃ es₃) Room
            (ap done_of (sym (eleven ∙ refused 11 (room_fits (tally (graph_of n)) rm) a)))
            (blank_again (length list) rm (length w) (lent ws os fs rs ls ss es) (lent ws₂ os₂ fs₂ rs₂ ls₂ ss₂ es₂) (lent ws₃ os₃ fs₃ rs₃ ls₃ ss₃ es₃) blank_all b o)
            (l ∙ p.size_kept)
