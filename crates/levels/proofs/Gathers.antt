-- Inputs visited one after the other: of one pin, of an endpoint, of all endpoints left.
use mathlib.Core.Path.{◌≡◌, refl, sym, ap, subst, ◌∙◌}
use mathlib.Core.List.{List, [], ◌∷◌, ◌++◌, append-nil}
use Prim.Native.Nat.{ℕ, suc, ◌+◌, ◌-◌, ◌*◌, ◌/◌, ◌<◌, ◌≤◌}
use native.Mathlib.Numerals.{add-one}
use native.Mathlib.Omega.{arith}
use lib.ListN.{length, get_or, take, set, length-set, length-append}
use lib.Seq.{get_or-set_other, take-suc, take_all, length-take-le}
use borrow.Author.Tests.{lt-ltb}
use Rattle.std.specs.Prelude.{◌==◌}
use Rattle.laws.specs.Tests.{one}
use Rattle.laws.specs.Lists.{count, flat, over}
use Rattle.laws.specs.Words.{part}
use Rattle.laws.proofs.Tests.{one_eq, one_ne, one_le}
use Rattle.laws.proofs.Bags.{count-append, flat-joined}
use Rattle.laws.proofs.Folds.{over-append}
use Rattle.laws.proofs.Words.{get_d_set, part_length, part_at}
use Rattle.laws.proofs.Visits.{visit_at}
use Rattle.rules.specs.declared.GraphCounts.{GraphCounts}
use Rattle.rules.specs.Answers.{endpoints}
use Rattle.walk.specs.State.{goes, list_of, Going, Visited}
use Rattle.reads.specs.Reads.{Lent, reads_in, reads_long, ins_of, ins_to}
use Rattle.reads.proofs.Inputs.{ins_none, ins_step, ins_all, ins_few, ins_to_few}
use Rattle.levels.specs.State.{stops_of, Spare, ReadsFit, Lefts, only, Gathered}
use Rattle.levels.proofs.Stops.{stops_are, stops_same, list_same, going_same}

-- ---- a count is at most the length
pub count-length : (p : ℕ) (l : List ℕ) → count p l ≤ length l
count-length p [] = omega arith
count-length p (x ∷ l) = omega (arith, count-length p l, one_le (p == x))

-- ---- several, one after the other
module _ (ws : List ℕ) (m : ℕ) where
  pub gathered_none : (w : List ℕ) (k : ℕ) → Going ws m w 0 k → (before : List ℕ) → Gathered ws m before w k [] w k
  gathered_none w k g before = record {
    going = g;
    list = refl;
    readers = λ p l. omega arith;
    stops = λ p l. refl;
    levels = λ j l u. refl;
    rest = λ j l. refl;
    long = refl;
  }

  pub gathered_on : (before : List ℕ) (u : List ℕ) (i : ℕ) (ps v : List ℕ) (j : ℕ) (qs w : List ℕ) (k : ℕ)
      → Gathered ws m before u i ps v j → Gathered ws m before v j qs w k → Gathered ws m before u i (ps ++ qs) w k
  gathered_on before u i ps v j qs w k a b = record {
    going = b.going;
    list = b.list ∙ ap (λ (l : List ℕ). over (visit_at (goes ws m before)) l qs) a.list ∙ sym (over-append (visit_at (goes ws m before)) (list_of u m i) ps qs);
    readers = λ p l. omega (arith, a.readers p l, b.readers p l, count-append p ps qs);
    stops = λ p l. b.stops p l ∙ a.stops p l;
    levels = λ x l h. b.levels x l h ∙ a.levels x l h;
    rest = λ x l. b.rest x l ∙ a.rest x l;
    long = b.long ∙ a.long;
  }

  -- the second begins with the stops that the first left
  pub gathered_then : (u : List ℕ) (i : ℕ) (ps v : List ℕ) (j : ℕ) (qs w : List ℕ) (k : ℕ) (before : List ℕ)
      → before ≡ stops_of u m → Gathered ws m before u i ps v j → Gathered ws m (stops_of v m) v j qs w k → Gathered ws m before u i (ps ++ qs) w k
  gathered_then u i ps v j qs w k before e a b =
      gathered_on before u i ps v j qs w k a (subst (λ (l : List ℕ). Gathered ws m l v j qs w k) (stops_same u v m a.stops ∙ sym e) b)

  -- readers that fit, after as many as there are
  pub spare_left : (before u : List ℕ) (i : ℕ) (ps v : List ℕ) (j a b : ℕ) → Gathered ws m before u i ps v j → length ps ≤ a → Spare u m (a + b) → Spare v m b
  spare_left before u i ps v j a b g l s = record {
    room = λ p h. omega (arith, g.readers p h, s.room p h, count-length p ps);
    long = omega (arith, g.long, s.long);
  }

-- ---- one pin
module _ (ws : List ℕ) (m : ℕ) (w : List ℕ) (k p : ℕ) (g : Going ws m w 0 k) where
  pub input_none : p ≡ 0 → Gathered ws m (stops_of w m) w k (only p) w k
  input_none z = subst (λ (q : ℕ). Gathered ws m (stops_of w m) w k (only q) w k) (sym z) (gathered_none ws m w k g (stops_of w m))

  module _ (l : p < m) (s : Spare w m 1) where
    pub bump_inside : 5 * m + p < length w
    bump_inside = omega (arith, s.long)

    pub bump_room : get_or w (5 * m + p) 0 < 4294967295
    bump_room = omega (arith, s.room p l)

    module _ (w₁ : List ℕ) (e : w₁ ≡ set w (5 * m + p) (get_or w (5 * m + p) 0 + 1)) where
      bumped : (j : ℕ) → (j ≡ 5 * m + p → ⊥) → get_or w₁ j 0 ≡ get_or w j 0
      bumped j n = ap (λ (t : List ℕ). get_or t j 0) e ∙ get_or-set_other w (5 * m + p) j (get_or w (5 * m + p) 0 + 1) 0 n

      bumped_long : length w₁ ≡ length w
      bumped_long = ap length e ∙ length-set w (5 * m + p) (get_or w (5 * m + p) 0 + 1)

      pub bump_going : Going ws m w₁ 0 k
      bump_going = going_same ws m w w₁ k (λ j h. bumped j (omega arith)) bumped_long g

      only_one : (p ≡ 0 → ⊥) → only p ≡ p ∷ []
      only_one n = let h : 0 < p = omega (arith, n) in rw (lt-ltb 0 p h)

      bumped_at : (q : ℕ) → q < m → get_or w₁ (5 * m + q) 0 ≡ get_or w (5 * m + q) 0 + one (q == p)
      bumped_at q h = ap (λ (t : List ℕ). get_or t (5 * m + q) 0) e
          ∙ get_d_set w (5 * m + p) (5 * m + q) (get_or w (5 * m + p) 0 + 1) (λ (x : ℕ). x ≡ get_or w (5 * m + q) 0 + one (q == p)) bump_inside
          (λ d. let d' : q ≡ p = omega arith in omega (arith, one_eq q p d', ap (λ (x : ℕ). get_or w (5 * m + x) 0) d'))
          (λ n. omega (arith, one_ne q p (λ d. n (omega arith))))

      pub input_visited : (p ≡ 0 → ⊥) → (w₂ : List ℕ) (k₂ : ℕ) → Visited ws m w₁ k p w₂ k₂ → Gathered ws m (stops_of w m) w k (only p) w₂ k₂
      input_visited n w₂ k₂ v = subst (λ (ps : List ℕ). Gathered ws m (stops_of w m) w k ps w₂ k₂) (sym (only_one n)) (record {
        going = v.going;
        list =
            subst (λ (t : List ℕ). list_of w₂ m k₂ ≡ visit_at (goes ws m t) (list_of w₁ m k) p) (stops_same w w₁ m (λ q h. bumped (m + q) (omega arith)))
            (v.list (stops_of w₁ m) (stops_are w₁ m (λ q h. rw (bumped (m + q) (omega arith)) (g.flags q h))))
            ∙ ap (λ (t : List ℕ). visit_at (goes ws m (stops_of w m)) t p) (list_same ws m w w₁ k (λ j h. bumped j (omega arith)) bumped_long g.listing.count g.listing.long);
        readers = λ q h. v.kept.rest (5 * m + q) (omega arith) ∙ bumped_at q h ∙ omega arith;
        stops = λ q h. v.kept.stops q h ∙ bumped (m + q) (omega arith);
        levels = λ j a b. v.kept.rest j a ∙ bumped j (omega arith);
        rest = λ j a. v.kept.rest j (omega arith) ∙ bumped j (omega arith);
        long = v.kept.long ∙ bumped_long;
      })

-- ---- an endpoint: its first i literals are done
pub record VisitingIns (c : GraphCounts) (ws os ds rs : List ℕ) (m e n : ℕ) (w₀ : List ℕ) (k₀ : ℕ) (w : List ℕ) (k i : ℕ) : Type 0 where
  pub inside : i ≤ n
  pub many : n ≡ reads_long c e
  pub lent : Lent c os ds rs
  pub fit : ReadsFit c os ds rs m
  pub endpoint : e < endpoints c
  pub done : Gathered ws m (stops_of w₀ m) w₀ k₀ (ins_to c os ds rs e i) w k
  pub spare : Spare w₀ m 91
  pub same_length : length w ≡ length w₀

module _ (c : GraphCounts) (ws os ds rs : List ℕ) (m e n : ℕ) where
  pub ins_begin : (w : List ℕ) (k : ℕ) → Lent c os ds rs → ReadsFit c os ds rs m → e < endpoints c → Going ws m w 0 k → Spare w m 91 → n ≡ reads_long c e
      → VisitingIns c ws os ds rs m e n w k w k 0
  ins_begin w k lent fit le g s en = record {
    inside = omega arith;
    many = en;
    lent = lent;
    fit = fit;
    endpoint = le;
    done = subst (λ (l : List ℕ). Gathered ws m (stops_of w m) w k l w k) (sym (ins_none c os ds rs e)) (gathered_none ws m w k g (stops_of w m));
    spare = s;
    same_length = refl;
  }

  module _ (w₀ : List ℕ) (k₀ : ℕ) (w : List ℕ) (k i : ℕ) (s : VisitingIns c ws os ds rs m e n w₀ k₀ w k i) where
    pub ins_going : Going ws m w 0 k
    ins_going = s.done.going

    module _ (l : i < n) where
      pub ins_number : i < reads_long c e
      ins_number = omega (arith, s.many)

      module _ (p : ℕ) (q : p ≡ get_or (reads_in c os ds rs e) i 0 / 2) where
        pub ins_pin : p < m
        ins_pin = omega (arith, s.fit.fit e i s.endpoint ins_number)

        pub ins_spare : Spare w m 1
        ins_spare = let s' = spare_left ws m (stops_of w₀ m) w₀ k₀ (ins_to c os ds rs e i) w k 90 1 s.done
            (omega (arith, ins_to_few c os ds rs e s.lent s.endpoint i, Rattle.reads.proofs.Inputs.long_few c e, ins_number)) s.spare in s'

        pub ins_go_on : (w' : List ℕ) (k' : ℕ) → Gathered ws m (stops_of w m) w k (only p) w' k' → VisitingIns c ws os ds rs m e n w₀ k₀ w' k' (i + 1)
        ins_go_on w' k' g = record {
          inside = omega arith;
          many = s.many;
          lent = s.lent;
          fit = s.fit;
          endpoint = s.endpoint;
          done = subst (λ (t : List ℕ). Gathered ws m (stops_of w₀ m) w₀ k₀ t w' k') (sym (ins_step c os ds rs e s.lent s.endpoint i p ins_number q))
              (gathered_then ws m w₀ k₀ (ins_to c os ds rs e i) w k (only p) w' k' (stops_of w₀ m) refl s.done g);
          spare = s.spare;
          same_length = g.long ∙ s.same_length;
        }

    pub ins_end : n ≤ i → Gathered ws m (stops_of w₀ m) w₀ k₀ (ins_of c os ds rs e) w k
    ins_end l = subst (λ (t : List ℕ). Gathered ws m (stops_of w₀ m) w₀ k₀ t w k) (ins_all c os ds rs e s.lent s.endpoint i (omega (arith, s.many))) s.done

-- ---- the endpoints left: the first i of n are done
pub record VisitingLeft (c : GraphCounts) (ws os ds rs : List ℕ) (m n : ℕ) (w₀ w : List ℕ) (k i : ℕ) : Type 0 where
  pub inside : i ≤ n
  pub lent : Lent c os ds rs
  pub fit : ReadsFit c os ds rs m
  pub lefts : Lefts w₀ m n (endpoints c)
  pub long : 8 * m + n ≤ length w₀
  pub done : Gathered ws m (stops_of w₀ m) w₀ 0 (flat (ins_of c os ds rs) (take i (part w₀ (8 * m) n))) w k
  pub spare : Spare w₀ m (91 * n)
  pub same_length : length w ≡ length w₀

pub flat_few : (f : ℕ → List ℕ) (b : ℕ) (l : List ℕ) → ((x : ℕ) → 0 < count x l → length (f x) ≤ b) → length (flat f l) ≤ b * length l
flat_few f b [] h = omega arith
flat_few f b (x ∷ l) h =
    let r = flat_few f b l (λ y m. h y (Rattle.laws.proofs.Bags.there y x l m)) in
    let e : b * suc (length l) ≡ b + b * length l = mul-suc b (length l) in
    omega (arith, length-append (f x) (flat f l), h x (Rattle.laws.proofs.Bags.here x l), r, e)
  where
    mul-suc : (a b : ℕ) → a * suc b ≡ a + a * b
    mul-suc a b = native.Mathlib.Nat.mul-suc a b ∙ native.Mathlib.Nat.add_comm (a * b) a

module _ (c : GraphCounts) (ws os ds rs : List ℕ) (m n : ℕ) where
  pub left_begin : (w : List ℕ) → Lent c os ds rs → ReadsFit c os ds rs m → Lefts w m n (endpoints c) → Going ws m w 0 0 → Spare w m (91 * n)
      → VisitingLeft c ws os ds rs m n w w 0 0
  left_begin w lent fit lf g s = record {
    inside = omega arith;
    lent = lent;
    fit = fit;
    lefts = lf;
    long = lf.long;
    done = gathered_none ws m w 0 g (stops_of w m);
    spare = s;
    same_length = refl;
  }

  module _ (w₀ w : List ℕ) (k i : ℕ) (s : VisitingLeft c ws os ds rs m n w₀ w k i) where
    pub left_going : Going ws m w 0 k
    left_going = s.done.going

    abbrev left : List ℕ
    left = part w₀ (8 * m) n

    left_long : length (part w₀ (8 * m) n) ≡ n
    left_long = part_length w₀ (8 * m) n s.long

    module _ (l : i < n) (e : ℕ) (q : e ≡ get_or w (8 * m + i) 0) where
      e_is : e ≡ get_or (part w₀ (8 * m) n) i 0
      e_is = q ∙ s.done.rest (8 * m + i) (omega arith) ∙ sym (part_at w₀ (8 * m) n i l)

      pub left_endpoint : e < endpoints c
      left_endpoint = omega (arith, s.lefts.inside i l, q ∙ s.done.rest (8 * m + i) (omega arith))

      inside_left : (x : ℕ) → 0 < count x (take i (part w₀ (8 * m) n)) → x < endpoints c
      inside_left x mx = let t : List ℕ = take i (part w₀ (8 * m) n) in
          Rattle.laws.proofs.Words.part_in w₀ (8 * m) i x (omega (arith, s.long)) (subst (λ (y : List ℕ). 0 < count x y) (sym (Rattle.members.proofs.Frames.part_shorter w₀ (8 * m) i n (omega arith))) mx)
          (λ j lj ej. omega (arith, s.lefts.inside j (omega arith)))

      pub left_spare : Spare w m 91
      left_spare =
          let t : List ℕ = take i (part w₀ (8 * m) n) in
          let f = flat_few (ins_of c os ds rs) 91 (take i (part w₀ (8 * m) n)) (λ x mx. ins_few c os ds rs x s.lent (inside_left x mx)) in
          let tl : length (take i (part w₀ (8 * m) n)) ≡ i = length-take-le i (part w₀ (8 * m) n) (omega (arith, left_long)) in
          let sum : 91 * n ≡ 91 * n - 91 + 91 = omega arith in
          spare_left ws m (stops_of w₀ m) w₀ 0 (flat (ins_of c os ds rs) (take i (part w₀ (8 * m) n))) w k (91 * n - 91) 91 s.done
          (omega (arith, f, tl)) (subst (Spare w₀ m) sum s.spare)

      pub left_go_on : (w' : List ℕ) (k' : ℕ) → Gathered ws m (stops_of w m) w k (ins_of c os ds rs e) w' k' → VisitingLeft c ws os ds rs m n w₀ w' k' (i + 1)
      left_go_on w' k' g = record {
        inside = omega arith;
        lent = s.lent;
        fit = s.fit;
        lefts = s.lefts;
        long = s.long;
        done = subst (λ (t : List ℕ). Gathered ws m (stops_of w₀ m) w₀ 0 t w' k') (sym more)
            (gathered_then ws m w₀ 0 (flat (ins_of c os ds rs) (take i (part w₀ (8 * m) n))) w k (ins_of c os ds rs e) w' k' (stops_of w₀ m) refl s.done g);
        spare = s.spare;
        same_length = g.long ∙ s.same_length;
      }
        where
          more : flat (ins_of c os ds rs) (take (i + 1) (part w₀ (8 * m) n)) ≡ flat (ins_of c os ds rs) (take i (part w₀ (8 * m) n)) ++ ins_of c os ds rs e
          more = ap (λ (x : ℕ). flat (ins_of c os ds rs) (take x (part w₀ (8 * m) n))) (add-one i)
              ∙ ap (flat (ins_of c os ds rs)) (take-suc (part w₀ (8 * m) n) i 0 (omega (arith, left_long)))
              ∙ flat-joined (ins_of c os ds rs) (take i (part w₀ (8 * m) n)) (get_or (part w₀ (8 * m) n) i 0 ∷ [])
              ∙ ap (λ (t : List ℕ). flat (ins_of c os ds rs) (take i (part w₀ (8 * m) n)) ++ t) (append-nil (ins_of c os ds rs (get_or (part w₀ (8 * m) n) i 0)) ∙ ap (ins_of c os ds rs) (sym e_is))

    pub left_end : n ≤ i → Gathered ws m (stops_of w₀ m) w₀ 0 (flat (ins_of c os ds rs) (part w₀ (8 * m) n)) w k
    left_end l = subst (λ (t : List ℕ). Gathered ws m (stops_of w₀ m) w₀ 0 (flat (ins_of c os ds rs) t) w k)
        (take_all i (part w₀ (8 * m) n) (omega (arith, left_long))) s.done
