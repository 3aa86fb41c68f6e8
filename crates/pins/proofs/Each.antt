-- A test of each number below n, or of each entry of a list, as a call of `all` or `any` answers it.
use mathlib.Core.Path.{◌≡◌, refl, ap, ◌∙◌}
use mathlib.Core.Bool.{Bool, true, false, not, ◌&&◌}
use mathlib.Core.List.{List, [], ◌∷◌, ◌++◌}
use Prim.Native.Nat.{ℕ, zero, suc, ◌+◌}
use native.Mathlib.Omega.{arith}
use denote.Param.Members.{Mut}
use Rattle.std.specs.Option.{MatchOption}
use Rattle.std.specs.Fn.{Called}
use Rattle.std.specs.Iterator.{YieldsThen}
use Rattle.std.specs.List.{FoldsTo, range_with_len, list_all, list_any}
use Rattle.std.proofs.iter.Yields.{nat_range_steps, fronts}
use Rattle.std.proofs.lemmas.Iterator.{YieldsList-from_range, YieldsList-from_slice}
use Rattle.std.proofs.lemmas.Iterator.Search.{all_from_yields_List, any_from_yields_List}
use denote.Ref.{Bor}
use Rattle.std.specs.declared.ops.Range.{Range}
use Rattle.std.specs.declared.slice.Iter.{Iter}
use Rattle.std.specs.Prelude.{Option}
use Rattle.std.specs.Slice.Iter.{iter_rest}
use Rattle.laws.specs.Lists.{every, upto}
use lib.ListN.{length, get_or}
use Rattle.laws.proofs.Tests.{by_test, bits_same}
use Rattle.laws.proofs.Ranges.{every_upto, of_upto}
use Rattle.laws.proofs.Indices.{every_at, every_entry}

-- the numbers from a on, the last of them at the end
range-last : (a n : ℕ) → range_with_len a (suc n) ≡ range_with_len a n ++ ((a + n) ∷ [])
range-last a zero = ap (λ (k : ℕ). k ∷ []) (omega arith)
range-last a (suc n) = ap (λ (l : List ℕ). a ∷ l) (range-last (a + 1) n) ∙ ap (λ (k : ℕ). a ∷ (range_with_len (a + 1) n ++ (k ∷ []))) (omega arith)

range_is : (n : ℕ) → range_with_len 0 n ≡ upto n
range_is zero = refl
range_is (suc n) = range-last 0 n ∙ ap (λ (k : ℕ). range_with_len 0 n ++ (k ∷ [])) (omega arith) ∙ ap (λ (l : List ℕ). l ++ (n ∷ [])) (range_is n)

every_is : (f : ℕ → Bool) (l : List ℕ) → list_all f l ≡ every f l
every_is f [] = refl
every_is f (x ∷ l) = ap (λ (b : Bool). f x && b) (every_is f l)

-- `f` is what the closure computes of a number
pub all_below : {F : Type 0} {g : Mut F (ℕ × Unit {0}) Bool} {s : Range ℕ} (f : ℕ → Bool) (n : ℕ) (u : Range ℕ) (c : F) (r : Bool)
    → (xs : List ℕ) × (o : Option ℕ) × (j : F) × YieldsThen nat_range_steps s xs o u × FoldsTo (λ p x q. Called g p (x, tt) true q) c xs j
    × MatchOption o (r ≡ true) (λ x. (r ≡ false) × ((h : F) × Called g j (x, tt) false h))
    → s ≡ record { start = 0; end = n } → ((x : ℕ) (b : Bool) (q : F) → Called g c (x, tt) b q → (q ≡ c) × (b ≡ f x)) → r ≡ every f (upto n)
all_below f n u c r ran e calls =
    all_from_yields_List f u c r ran (YieldsList-from_range 0 n n e (omega arith)) calls ∙ every_is f (range_with_len 0 n) ∙ ap (every f) (range_is n)

-- of the entries of a list
pub all_each : {F : Type 0} {g : Mut F (Bor ℕ × Unit {0}) Bool} {s : Iter ℕ} (f : ℕ → Bool) (l : List ℕ) (u : Iter ℕ) (c : F) (r : Bool)
    → (xs : List (Bor ℕ)) × (o : Option (Bor ℕ)) × (j : F) × YieldsThen fronts s xs o u × FoldsTo (λ p x q. Called g p (x, tt) true q) c xs j
    × MatchOption o (r ≡ true) (λ x. (r ≡ false) × ((h : F) × Called g j (x, tt) false h))
    → iter_rest s ≡ l → ((x : Bor ℕ) (b : Bool) (q : F) → Called g c (x, tt) b q → (q ≡ c) × (b ≡ f x.now)) → r ≡ every f l
all_each f l u c r ran e calls = all_from_yields_List f u c r ran (YieldsList-from_slice l e) calls ∙ every_is f l

any_not : (f : ℕ → Bool) (l : List ℕ) → list_any (λ x. not (f x)) l ≡ not (every f l)
any_not f [] = refl
any_not f (x ∷ l) = by_test (f x) (λ t. rw t (any_not f l)) (λ n. rw n)

pub any_each : {F : Type 0} {g : Mut F (Bor ℕ × Unit {0}) Bool} {s : Iter ℕ} (f : ℕ → Bool) (l : List ℕ) (u : Iter ℕ) (c : F) (r : Bool)
    → (xs : List (Bor ℕ)) × (o : Option (Bor ℕ)) × (j : F) × YieldsThen fronts s xs o u × FoldsTo (λ p x q. Called g p (x, tt) false q) c xs j
    × MatchOption o (r ≡ false) (λ x. (r ≡ true) × ((h : F) × Called g j (x, tt) true h))
    → iter_rest s ≡ l → ((x : Bor ℕ) (b : Bool) (q : F) → Called g c (x, tt) b q → (q ≡ c) × (b ≡ not (f x.now))) → r ≡ not (every f l)
any_each f l u c r ran e calls = any_from_yields_List (λ x. not (f x)) u c r ran (YieldsList-from_slice l e) calls ∙ any_not f l

-- each entry of a list passes where the entry at each of its places does
pub by_index : (f : ℕ → Bool) (l : List ℕ) → every f l ≡ every (λ k. f (get_or l k 0)) (upto (length l))
by_index f l = bits_same (every f l) (every (λ k. f (get_or l k 0)) (upto (length l)))
    (λ t. every_upto (λ k. f (get_or l k 0)) (length l) (λ k h. every_at f 0 l k t h))
    (λ t. every_entry f 0 l (λ k h. of_upto (λ k. f (get_or l k 0)) (length l) k t h))
