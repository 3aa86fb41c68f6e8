-- The whole graph as one stage: the numbers below a count written upward, and the answer.
use mathlib.Core.Path.{◌≡◌, refl, sym, ap, ◌∙◌}
use mathlib.Core.Bool.{Bool, true, false, ◌&&◌}
use mathlib.Core.List.{List}
use Prim.Native.Nat.{ℕ, zero, suc, ◌+◌, ◌<◌, ◌≤◌}
use native.Mathlib.Numerals.{add-one}
use native.Mathlib.Omega.{arith}
use lib.ListN.{length, set, length-set}
use borrow.Author.Tests.{le-leb, lt-leb, leb-true}
use Rattle.std.specs.Prelude.{Ok, Err}
use Rattle.laws.specs.Tests.{◌≤?◌, refuse}
use Rattle.laws.specs.Lists.{upto}
use Rattle.laws.specs.Words.{zeros, filled}
use Rattle.laws.proofs.Tests.{and_l, and_r, or_zero, last_refused}
use Rattle.laws.proofs.Words.{zeros-length, filled_none, filled_more}
use Rattle.laws.proofs.Ranges.{length-upto}
use Rattle.rules.specs.declared.GraphCounts.{GraphCounts}
use Rattle.rules.specs.declared.Refusal.{Refusal}
use Rattle.rules.specs.declared.Refusal.TheVariants.{Bounds, Room}
use Rattle.rules.specs.declared.StageSize.{StageSize}
use Rattle.rules.specs.Bounds.{graph_within}
use Rattle.rules.specs.Stages.{full_stage}
use Rattle.rules.specs.Answers.{done_of, stage_size, endpoints, full_number}
use Rattle.rules.specs.Tables.{held}
use Rattle.walk.proofs.Answered.{number_zero, answered, refused_too, held_none}
use Rattle.subsets.specs.Answer.{FullStaged}

-- a number that is not 0 is one more than another
pub nonzero : {P : Type 0} (k : ℕ) → (k ≡ 0 → ⊥) → ((j : ℕ) → k ≡ suc j → P) → P
nonzero zero n f = absurd (n refl)
nonzero (suc j) n f = f j refl

-- ---- the first i of n are written
pub record CountingUp (s₀ s : List ℕ) (n i : ℕ) : Type 0 where
  pub inside : i ≤ n
  pub words : s ≡ filled (upto i) (length s₀)
  pub long : n ≤ length s₀
  pub same_length : length s ≡ length s₀

pub up_begins : (s : List ℕ) (n : ℕ) → s ≡ zeros (length s) → n ≤ length s → CountingUp s s n 0
up_begins s n z l = record { inside = omega arith; words = z ∙ sym (filled_none (length s)); long = l; same_length = refl }

pub up_goes_on : (s₀ s : List ℕ) (n i : ℕ) → CountingUp s₀ s n i → i < n → CountingUp s₀ (set s i i) n (i + 1)
up_goes_on s₀ s n i u l = record {
  inside = omega arith;
  words =
      ap (λ (w : List ℕ). set w i i) u.words
      ∙ ap (λ (k : ℕ). set (filled (upto i) (length s₀)) k i) (sym (length-upto i))
      ∙ filled_more (upto i) (length s₀) i (omega (arith, length-upto i, u.long))
      ∙ ap (λ (k : ℕ). filled (upto k) (length s₀)) (sym (add-one i));
  long = u.long;
  same_length = length-set s i i ∙ u.same_length;
}

pub up_ends : (s₀ s : List ℕ) (n i : ℕ) → CountingUp s₀ s n i → n ≤ i → s ≡ filled (upto n) (length s₀)
up_ends s₀ s n i u l = let e : i ≡ n = omega (arith, u.inside) in u.words ∙ ap (λ (k : ℕ). filled (upto k) (length s₀)) e

-- ---- 1 and 11
module _ (c : GraphCounts) (room : ℕ) (b : Bool) (g : b ≡ graph_within c) where
  pub full_1 : b ≡ false → Err Bounds ≡ done_of (full_number c room)
  unfolding full_number
  full_1 f = sym (rw (sym g ∙ f))

  module _ (t : b ≡ true) where
    pub full_1_room : 16777215 < room → Err Bounds ≡ done_of (full_number c room)
    unfolding full_number
    full_1_room l = sym (rw (sym g ∙ t, lt-leb room 16777215 l))

    module _ (lr : room ≤ 16777215) (n : ℕ) (en : n ≡ endpoints c) where
      pub full_11 : room < n → Err Room ≡ done_of (full_number c room)
      unfolding full_number
      full_11 l = let h : room < endpoints c = omega arith in sym (rw (sym g ∙ t, le-leb room 16777215 lr, lt-leb (endpoints c) room h))

      pub full_0 : n ≤ room → Ok tt ≡ done_of (full_number c room)
      unfolding full_number
      full_0 l = let h : endpoints c ≤ room = omega arith in sym (rw (sym g ∙ t, le-leb room 16777215 lr, le-leb (endpoints c) room h))

-- ---- what the number 0 says
pub record FullSound (c : GraphCounts) (room : ℕ) : Type 0 where
  pub few : endpoints c ≤ 3145728
  pub fits : endpoints c ≤ room

within_few : (p o d r : Bool) → (((p && o) && d) && r) ≡ true → (o ≡ true) × (d ≡ true) × (r ≡ true)
within_few p o d r e = (and_r p o (and_l (p && o) d (and_l ((p && o) && d) r e)), and_r (p && o) d (and_l ((p && o) && d) r e), and_r ((p && o) && d) r e)

pub endpoints_few : (c : GraphCounts) → graph_within c ≡ true → endpoints c ≤ 3145728
endpoints_few c e =
    let w = within_few (c.pins ≤? 16777215) (c.outputs ≤? 1048576) (c.dffs ≤? 1048576) (c.rams ≤? 1048576) e in
    omega (arith, leb-true c.outputs 1048576 w.0, leb-true c.dffs 1048576 w.1, leb-true c.rams 1048576 w.2)

pub full_sound : (c : GraphCounts) (room : ℕ) → full_number c room ≡ 0 → FullSound c room
unfolding full_number
full_sound c room z =
    let n = or_zero (refuse 1 (graph_within c && (room ≤? 16777215))) (refuse 11 (endpoints c ≤? room)) z in
    record {
      few = endpoints_few c (and_l (graph_within c) (room ≤? 16777215) (last_refused 0 (graph_within c && (room ≤? 16777215)) n.0));
      fits = leb-true (endpoints c) room (last_refused 10 (endpoints c ≤? room) n.1);
    }

-- ---- the answer: z is the table zeroed
module _ (c : GraphCounts) (t z : List ℕ) (ez : z ≡ zeros (length t)) where
  zeroed-length : length z ≡ length t
  zeroed-length = ap length ez ∙ zeros-length (length t)

  pub full_zeroed : z ≡ zeros (length z)
  full_zeroed = ez ∙ ap zeros (sym zeroed-length)

  pub full_refused : (e : Refusal) → Err e ≡ done_of (full_number c (length z)) → FullStaged c t z (Err e)
  full_refused e r = let k = rw zeroed-length at r in record {
    answer = refused_too (full_number c (length t)) (stage_size (full_stage (endpoints c))) e k;
    taken = ez ∙ held_none (full_number c (length t)) (upto (endpoints c)) (length t) e k;
  }

  module _ (u : Unit {0}) (y : Ok u ≡ done_of (full_number c (length z))) where
    none : full_number c (length z) ≡ 0
    none = number_zero (full_number c (length z)) u tt y

    sound : FullSound c (length z)
    sound = full_sound c (length z) none

    pub full_fits : (n : ℕ) → n ≡ endpoints c → n ≤ length z
    full_fits n en = omega (arith, sound.fits)

    pub full_few : (n : ℕ) → n ≡ endpoints c → n ≤ 3145728
    full_few n en = omega (arith, sound.few)

    pub full_made : (t' : List ℕ) (n : ℕ) → n ≡ endpoints c → t' ≡ filled (upto n) (length z) → FullStaged c t t' (Ok (record { handed = 0; taken = n }))
    full_made t' n en et = let k : full_number c (length t) ≡ 0 = rw zeroed-length at none in record {
      answer = answered (full_number c (length t)) _ _ k (ap (λ (x : ℕ). size x) (en ∙ sym (length-upto (endpoints c))));
      taken = et ∙ (λ i. filled (upto (en i)) (zeroed-length i)) ∙ sym (ap (λ (x : ℕ). held x (upto (endpoints c)) (length t)) k);
    }
      where
        size : ℕ → StageSize
        size x = record { handed = 0; taken = x }
