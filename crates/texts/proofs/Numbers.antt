-- The numbers of a line, field by field, stored in a table.
use mathlib.Core.Path.{◌≡◌, refl, sym, ◌∙◌, ap}
use mathlib.Core.Bool.{false}
use mathlib.Core.List.{List, [], ◌∷◌}
use Prim.Native.Nat.{ℕ, ◌+◌, ◌-◌, ◌<◌, ◌≤◌}
use native.Mathlib.Omega.{arith}
use borrow.Author.Tests.{ne_eqb, eqb-true}
use lib.ListN.{length, get_or, take, drop, set, length-set}
use Rattle.std.specs.Prelude.{Option, Some, None, Ok, Err, ◌&&◌, if◌then◌else◌, ◌==◌}
use Rattle.laws.specs.Lists.{every}
use Rattle.laws.proofs.Tests.{by_test, if_false}
use Rattle.texts.specs.Text.{before, number_of, stored, tab}
use Rattle.texts.specs.Reading.{is_some, is_number, in_front, numbers_of}
use Rattle.texts.specs.Meanings.{Until, FieldRead, Taking, fields_from}
use Rattle.texts.proofs.Bytes.{until_part, fields_go_on, fields_end}

pub field_read : (line : List ℕ) (at e : ℕ) (v : Option ℕ) → Until line at 9 e → v ≡ number_of (take (e - at) (drop at line)) → FieldRead line at v (e + 1)
field_read line at e v u q = record {
  is = q ∙ ap number_of (until_part line at 9 e u);
  follows = ap (λ (k : ℕ). k + 1) u.is;
  inside = omega (arith, u.inside);
}

module _ (fs gs : List (List ℕ)) (w : List ℕ) (cut : fs ≡ w ∷ gs) where
  pub numbers_more : (v : ℕ) → Some v ≡ number_of w → numbers_of fs ≡ v ∷ numbers_of gs
  unfolding numbers_of
  numbers_more v e = ap numbers_of cut ∙ sym (ap (λ (o : Option ℕ). in_front o (numbers_of gs)) e)

  pub every_more : (v : ℕ) → Some v ≡ number_of w → every is_number fs ≡ every is_number gs
  every_more v e = ap (every is_number) cut ∙ sym (ap (λ (o : Option ℕ). is_some o && every is_number gs) e)

  pub numbers_stop : None ≡ number_of w → numbers_of fs ≡ []
  unfolding numbers_of
  numbers_stop e = ap numbers_of cut ∙ sym (ap (λ (o : Option ℕ). in_front o (numbers_of gs)) e)

  pub every_stop : None ≡ number_of w → every is_number fs ≡ false
  every_stop e = ap (every is_number) cut ∙ sym (ap (λ (o : Option ℕ). is_some o && every is_number gs) e)

-- after `count` numbers the field at a is next
pub record Gathering (line : List ℕ) (at : ℕ) (table : List ℕ) (base : ℕ) (out : List ℕ) (a count first : ℕ) : Type 0 where
  pub stores : stored out (base + count) (numbers_of (fields_from line a)) ≡ stored table base (numbers_of (fields_from line at))
  pub counts : count + length (numbers_of (fields_from line a)) ≡ length (numbers_of (fields_from line at))
  pub begins : (if count == 0 then get_or (numbers_of (fields_from line a)) 0 0 else first) ≡ get_or (numbers_of (fields_from line at)) 0 0
  pub none_yet : count ≡ 0 → first ≡ 0
  pub numbers : every is_number (fields_from line a) ≡ every is_number (fields_from line at)
  pub long : length out ≡ length table
  pub few : count + at ≤ a
  pub inside : a ≤ length line + 1

pub gather_begins : (line : List ℕ) (at : ℕ) (table : List ℕ) (base : ℕ) → at ≤ length line + 1 → Gathering line at table base table at 0 0
gather_begins line at table base l = record {
  stores = let e : base + 0 ≡ base = omega arith in ap (λ (k : ℕ). stored table k (numbers_of (fields_from line at))) e;
  counts = omega arith;
  begins = refl;
  none_yet = λ e. refl;
  numbers = refl;
  long = refl;
  few = omega arith;
  inside = l;
}

numbers_nil : numbers_of [] ≡ []
unfolding numbers_of
numbers_nil = refl

ended_store : (t : List ℕ) (i : ℕ) → t ≡ stored t i []
unfolding stored
ended_store t i = refl

stored_step : (t t' : List ℕ) (i j v : ℕ) (vs : List ℕ) → t' ≡ set t i v → j ≡ i + 1 → stored t' j vs ≡ stored t i (v ∷ vs)
unfolding stored
stored_step t t' i j v vs e q = ap (λ (k : ℕ). stored t' k vs) q ∙ ap (λ (l : List ℕ). stored l (i + 1) vs) e

module _ (line : List ℕ) (at : ℕ) (table : List ℕ) (base : ℕ) (out : List ℕ) (a count first : ℕ) (g : Gathering line at table base out a count first) where
  module _ (next : ℕ) (l : a ≤ length line) where
    cut : (o : Option ℕ) → FieldRead line a o next → fields_from line a ≡ before tab (drop a line) ∷ fields_from line next
    cut o f = fields_go_on line a l ∙ ap (λ (k : ℕ). before tab (drop a line) ∷ fields_from line k) (sym f.follows)

    module _ (o : Option ℕ) (v : ℕ) (is : o ≡ Some v) (f : FieldRead line a o next) where
      read : Some v ≡ number_of (before tab (drop a line))
      read = sym is ∙ f.is

      list : numbers_of (fields_from line a) ≡ v ∷ numbers_of (fields_from line next)
      list = numbers_more (fields_from line a) (fields_from line next) (before tab (drop a line)) (cut o f) v read

      pub gather_goes_on : (out' : List ℕ) (first' : ℕ) → out' ≡ set out (base + count) v → first' ≡ (if count == 0 then v else first)
          → Gathering line at table base out' next (count + 1) first'
      gather_goes_on out' first' e q = record {
        stores = later ∙ g.stores;
        counts = omega (arith, ap length list, g.counts);
        begins = if_false (count + 1 == 0) (get_or (numbers_of (fields_from line next)) 0 0) first' (ne_eqb (count + 1) 0 (λ z. absurd (omega (arith, z))))
            ∙ q ∙ sym (ap (λ (vs : List ℕ). if count == 0 then get_or vs 0 0 else first) list) ∙ g.begins;
        none_yet = λ z. absurd (omega (arith, z));
        numbers = sym (every_more (fields_from line a) (fields_from line next) (before tab (drop a line)) (cut o f) v read) ∙ g.numbers;
        long = ap length e ∙ length-set out (base + count) v ∙ g.long;
        few = omega (arith, g.few, f.follows);
        inside = f.inside;
      }
        where
          later : stored out' (base + (count + 1)) (numbers_of (fields_from line next)) ≡ stored out (base + count) (numbers_of (fields_from line a))
          later = stored_step out out' (base + count) (base + (count + 1)) v (numbers_of (fields_from line next)) e (omega arith) ∙ ap (λ (vs : List ℕ). stored out (base + count) vs) (sym list)

    pub gather_stops : (o : Option ℕ) → o ≡ None → FieldRead line a o next → Taking line at table base out (Err count)
    gather_stops o is f = record {
      stores = ended_store out (base + count) ∙ ap (λ (vs : List ℕ). stored out (base + count) vs) (sym list) ∙ g.stores;
      counts = omega (arith, ap length list, g.counts);
      begins = tt;
      numbers = sym (every_stop (fields_from line a) (fields_from line next) (before tab (drop a line)) (cut o f) read) ∙ g.numbers;
      few = omega (arith, g.few, l);
    }
      where
        read : None ≡ number_of (before tab (drop a line))
        read = sym is ∙ f.is

        list : numbers_of (fields_from line a) ≡ []
        list = numbers_stop (fields_from line a) (fields_from line next) (before tab (drop a line)) (cut o f) read

  pub gather_ends : length line < a → Taking line at table base out (Ok (record { count = count; first = first }))
  gather_ends past = record {
    stores = ended_store out (base + count) ∙ ap (λ (vs : List ℕ). stored out (base + count) vs) (sym list) ∙ g.stores;
    counts = omega (arith, ap length list, g.counts);
    begins = first_ended ∙ ap (λ (vs : List ℕ). if count == 0 then get_or vs 0 0 else first) (sym list) ∙ g.begins;
    numbers = ap (every is_number) (sym (fields_end line a past)) ∙ g.numbers;
    few = omega (arith, g.few, g.inside);
  }
    where
      list : numbers_of (fields_from line a) ≡ []
      list = ap numbers_of (fields_end line a past) ∙ numbers_nil

      first_ended : first ≡ (if count == 0 then 0 else first)
      first_ended = by_test (count == 0) (λ t. rw t (g.none_yet (eqb-true count 0 t))) (λ n. rw n)
