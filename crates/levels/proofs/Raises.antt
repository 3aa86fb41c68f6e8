-- Where a pin leads, and a gate's level with the readers of its operands.
use mathlib.Core.Path.{◌≡◌, sym, ap, subst, ◌∙◌}
use mathlib.Core.List.{List, [], ◌∷◌}
use Prim.Native.Nat.{ℕ, suc, ◌+◌, ◌*◌, ◌/◌, ◌<◌, ◌≤◌, max}
use native.Mathlib.Numerals.{add-one}
use native.Mathlib.Omega.{arith}
use lib.ListN.{length, get_or, set, length-set}
use lib.Seq.{get_or-set_other, get_or-set_same}
use borrow.Author.Tests.{eqb-true, eqb-false}
use Rattle.std.specs.Prelude.{◌==◌}
use Rattle.laws.specs.Tests.{one}
use Rattle.laws.specs.Lists.{count}
use Rattle.laws.proofs.Tests.{by_test, one_eq, one_ne}
use Rattle.laws.proofs.Words.{get_d_set, bump}
use Rattle.walk.specs.State.{goes, tag_of, first_of, second_of}
use Rattle.walk.proofs.Leads.{goes_stop, goes_source, goes_gate, operands_fit}
use Rattle.members.proofs.Frames.{within_none, within-set}
use Rattle.levels.specs.State.{stops_of, Known, Operands, Rises, raised, Raising, RaisedPin}
use Rattle.levels.proofs.Stops.{stop_member, stop_free}

-- ---- where a pin leads
module _ (ws : List ℕ) (m : ℕ) (w : List ℕ) (u : ℕ) (kn : Known ws m w) (l : u < m) (t : ℕ) (et : t ≡ get_or ws (3 * u) 0) where
  pub leads_source : (t ≡ 1 → ⊥) → goes ws m (stops_of w m) u ≡ []
  leads_source n = goes_source ws m kn.low (stops_of w m) u l (λ e. n (et ∙ e))

  module _ (g : t ≡ 1) (s : ℕ) (es : s ≡ get_or w (m + u) 0) where
    pub leads_stop : (s ≡ 0 → ⊥) → goes ws m (stops_of w m) u ≡ []
    leads_stop n = goes_stop ws m kn.low (stops_of w m) u (stop_member w m u l (λ z. n (es ∙ z)))

    pub leads_gate : s ≡ 0 → (x y : ℕ) → x ≡ get_or ws (3 * u + 1) 0 → y ≡ get_or ws (3 * u + 2) 0 → Operands ws m (stops_of w m) u (x / 2) (y / 2)
    leads_gate z x y ex ey =
        let o = operands_fit ws m kn.low kn.fits in
        let tag : tag_of ws u ≡ 1 = sym et ∙ g in
        let xe : x / 2 ≡ first_of ws u = ap (λ (v : ℕ). v / 2) ex in
        let ye : y / 2 ≡ second_of ws u = ap (λ (v : ℕ). v / 2) ey in
        record {
          first_not_zero = λ q. omega (arith, q, xe, o.first_low u l tag);
          first_less = omega (arith, xe, o.first_less u l tag);
          second_less = omega (arith, ye, o.second_less u l tag);
          leads = goes_gate ws m kn.low (stops_of w m) u l (stop_free w m u (sym es ∙ z)) tag ∙ (λ i. sym xe i ∷ sym ye i ∷ []);
        }

-- ---- one more at a word
pub bump_is : (w : List ℕ) (at v : ℕ) → v ≡ get_or w at 0 → set w at (v + 1) ≡ set w at (get_or w at 0 + 1)
bump_is w at v e = ap (λ (n : ℕ). set w at (n + 1)) e

-- ---- one more than the larger
pub higher_second : (x y : ℕ) → x < y → y + 1 ≡ max (suc x) (max (suc y) 0)
higher_second x y l = omega arith

pub higher_first : (x y : ℕ) → y ≤ x → x + 1 ≡ max (suc x) (max (suc y) 0)
higher_first x y l = omega arith

-- ---- the stores of a gate
module _ (w : List ℕ) (m u a b : ℕ) (r : Rises w m u a b) where
  module _ (h : ℕ) where
    at_long : length (set w (4 * m + u) h) ≡ length w
    at_long = length-set w (4 * m + u) h

    at_reader : (o : ℕ) → o < m → get_or (set w (4 * m + u) h) (5 * m + o) 0 ≡ get_or w (5 * m + o) 0
    at_reader o l = get_or-set_other w (4 * m + u) (5 * m + o) h 0 (omega (arith, r.inside))

    pub first_inside : 5 * m + a < length (set w (4 * m + u) h)
    first_inside = omega (arith, at_long, r.long, r.first, r.inside)

    pub first_room : get_or (set w (4 * m + u) h) (5 * m + a) 0 < 4294967295
    first_room = omega (arith, at_reader a (omega (arith, r.first, r.inside)), r.first_room)

    module _ (w₁ : List ℕ) (e₁ : w₁ ≡ set (set w (4 * m + u) h) (5 * m + a) (get_or (set w (4 * m + u) h) (5 * m + a) 0 + 1)) where
      long₁ : length w₁ ≡ length w
      long₁ = ap length e₁ ∙ length-set (set w (4 * m + u) h) (5 * m + a) (get_or (set w (4 * m + u) h) (5 * m + a) 0 + 1) ∙ at_long

      pub second_inside : 5 * m + b < length w₁
      second_inside = omega (arith, long₁, r.long, r.second, r.inside)

      pub second_room : get_or w₁ (5 * m + b) 0 < 4294967295
      second_room = subst (λ (t : List ℕ). get_or t (5 * m + b) 0 < 4294967295) (sym e₁)
          (get_d_set (set w (4 * m + u) h) (5 * m + a) (5 * m + b) (get_or (set w (4 * m + u) h) (5 * m + a) 0 + 1) (λ (x : ℕ). x < 4294967295) first_inside
          (λ _. omega (arith, at_reader a (omega (arith, r.first, r.inside)), r.first_room))
          (λ _. omega (arith, at_reader b (omega (arith, r.second, r.inside)), r.second_room)))

      pub raise_long : (w₂ : List ℕ) → w₂ ≡ set w₁ (5 * m + b) (get_or w₁ (5 * m + b) 0 + 1) → length w₂ ≡ length w
      raise_long w₂ e₂ = ap length e₂ ∙ length-set w₁ (5 * m + b) (get_or w₁ (5 * m + b) 0 + 1) ∙ long₁

      pub raise_done : (x y : ℕ) → x ≡ get_or w (4 * m + a) 0 → y ≡ get_or w (4 * m + b) 0 → h ≡ max (suc x) (max (suc y) 0)
          → (w₂ : List ℕ) → w₂ ≡ set w₁ (5 * m + b) (get_or w₁ (5 * m + b) 0 + 1) → w₂ ≡ raised w m u a b
      unfolding raised
      raise_done x y ex ey eh w₂ e₂ =
          let hh : h ≡ max (suc (get_or w (4 * m + a) 0)) (max (suc (get_or w (4 * m + b) 0)) 0) = eh ∙ (λ i. max (suc (ex i)) (max (suc (ey i)) 0)) in
          e₂ ∙ ap (λ (n : ℕ). set w₁ (5 * m + b) n) (add-one (get_or w₁ (5 * m + b) 0))
          ∙ ap (λ (t : List ℕ). bump t (5 * m + b)) (e₁ ∙ ap (λ (n : ℕ). set (set w (4 * m + u) h) (5 * m + a) n) (add-one (get_or (set w (4 * m + u) h) (5 * m + a) 0)))
          ∙ ap (λ (n : ℕ). bump (bump (set w (4 * m + u) n) (5 * m + a)) (5 * m + b)) hh

-- ---- what they leave of one pin
module _ (ws : List ℕ) (m : ℕ) (w : List ℕ) (u : ℕ) (g : Raising w m u) where
  pub pin_nowhere : goes ws m (stops_of w m) u ≡ [] → RaisedPin ws m (stops_of w m) w u w
  pin_nowhere e = record {
    levels = λ p l. by_test (p == u)
        (λ t. ap (λ (x : ℕ). get_or w (4 * m + x) 0) (eqb-true p u t) ∙ g.zero ∙ sym (rw (t, e)))
        (λ f. sym (rw f));
    readers = λ p l. omega (arith, ap (count p) e);
    kept = within_none (4 * m) (6 * m) w;
  }

  pub pin_rises : (a b : ℕ) → Operands ws m (stops_of w m) u a b → Rises w m u a b
  pin_rises a b o = record {
    long = g.spare.long;
    few = g.few;
    inside = g.inside;
    first = o.first_less;
    second = o.second_less;
    first_level = g.small a (omega (arith, g.inside));
    second_level = g.small b (omega (arith, g.inside));
    first_room = g.spare.room a (omega (arith, g.inside));
    second_room = g.spare.room b (omega (arith, g.inside));
  }

  module _ (a b : ℕ) (la : a < u) (lb : b < u) (e : goes ws m (stops_of w m) u ≡ a ∷ b ∷ []) where
    abbrev h : ℕ
    h = max (suc (get_or w (4 * m + a) 0)) (max (suc (get_or w (4 * m + b) 0)) 0)

    abbrev w₁ : List ℕ
    w₁ = set w (4 * m + u) h

    abbrev w₂ : List ℕ
    w₂ = bump w₁ (5 * m + a)

    abbrev w₃ : List ℕ
    w₃ = bump w₂ (5 * m + b)

    inside : 6 * m ≤ length w
    inside = omega (arith, g.spare.long)

    l₁ : length w₁ ≡ length w
    l₁ = length-set w (4 * m + u) h

    l₂ : length w₂ ≡ length w
    l₂ = length-set w₁ (5 * m + a) (suc (get_or w₁ (5 * m + a) 0)) ∙ l₁

    bumped : (t : List ℕ) (o q : ℕ) → length t ≡ length w → o < m → q < m → get_or (bump t (5 * m + o)) (5 * m + q) 0 ≡ get_or t (5 * m + q) 0 + one (q == o)
    bumped t o q lt lo lq = get_d_set t (5 * m + o) (5 * m + q) (suc (get_or t (5 * m + o) 0)) (λ (x : ℕ). x ≡ get_or t (5 * m + q) 0 + one (q == o)) (omega (arith, inside))
        (λ d. let d' : q ≡ o = omega arith in omega (arith, one_eq q o d', ap (λ (x : ℕ). get_or t (5 * m + x) 0) d'))
        (λ n. omega (arith, one_ne q o (λ d. n (omega arith))))

    pin_done : RaisedPin ws m (stops_of w m) w u w₃
    pin_done =
        let lu = g.inside in
        record {
          levels = λ p l.
              get_or-set_other w₂ (5 * m + b) (4 * m + p) (suc (get_or w₂ (5 * m + b) 0)) 0 (omega arith)
              ∙ get_or-set_other w₁ (5 * m + a) (4 * m + p) (suc (get_or w₁ (5 * m + a) 0)) 0 (omega arith)
              ∙ by_test (p == u)
              (λ t. ap (λ (x : ℕ). get_or w₁ (4 * m + x) 0) (eqb-true p u t) ∙ get_or-set_same w (4 * m + u) h 0 (omega (arith, inside)) ∙ sym (rw (t, e)))
              (λ f. get_or-set_other w (4 * m + u) (4 * m + p) h 0 (λ d. eqb-false p u f (omega arith)) ∙ sym (rw f));
          readers = λ p l. omega (
            arith,
            bumped w₂ b p l₂ (omega arith) l,
            bumped w₁ a p l₁ (omega arith) l,
            get_or-set_other w (4 * m + u) (5 * m + p) h 0 (omega arith),
            ap (count p) e,
          );
          kept = within-set (4 * m) (6 * m) w w₂ (5 * m + b) (suc (get_or w₂ (5 * m + b) 0)) (omega arith) (omega arith)
              (within-set (4 * m) (6 * m) w w₁ (5 * m + a) (suc (get_or w₁ (5 * m + a) 0)) (omega arith) (omega arith)
              (within-set (4 * m) (6 * m) w w (4 * m + u) h (omega arith) (omega arith) (within_none (4 * m) (6 * m) w)));
        }

  pub pin_raised : (a b : ℕ) → Operands ws m (stops_of w m) u a b → (w' : List ℕ) → w' ≡ raised w m u a b → RaisedPin ws m (stops_of w m) w u w'
  unfolding raised
  pin_raised a b o w' q = subst (RaisedPin ws m (stops_of w m) w u) (sym q) (pin_done a b o.first_less o.second_less o.leads)
