-- Only one answer fits: two that a visit, the visits of a list, a forgetting, or the setting of stops may leave are the same.
use mathlib.Core.Path.{◌≡◌, sym, ap, subst, ◌∙◌}
use mathlib.Core.Bool.{Bool}
use mathlib.Core.List.{List}
use Prim.Native.Nat.{ℕ, ◌+◌, ◌-◌, ◌*◌, ◌<◌, ◌≤◌}
use native.Mathlib.Omega.{arith}
use borrow.Author.Tests.{ltb-true, ltb-false}
use lib.ListN.{length, get_or}
use lib.Seq.{ext_get_or}
use Rattle.laws.specs.Tests.{◌<?◌, one}
use Rattle.laws.specs.Lists.{member, keep, upto}
use Rattle.laws.proofs.Tests.{by_test}
use Rattle.laws.proofs.Bags.{is_member, no_member, count-keep, count-drop}
use Rattle.laws.proofs.Ranges.{upto_in}
use Rattle.laws.proofs.Words.{part_length, part_at}
use Rattle.walk.specs.State.{list_of, Stops, Going, Kept, Visited, AllVisited, Forgotten, StopsSet}

-- the pins of the stops, upward: there is a list that the stops are
abbrev pub stopped : List ℕ → ℕ → List ℕ
stopped w m = keep (λ p. 0 <? get_or w (m + p) 0) (upto m)

stop_is : (w : List ℕ) (m p : ℕ) → p < m → get_or w (m + p) 0 ≤ 1 → get_or w (m + p) 0 ≡ one (member p (stopped w m))
stop_is w m p l h = by_test (0 <? get_or w (m + p) 0)
    (λ t. let e = is_member p (stopped w m) (omega (arith, count-keep (λ q. 0 <? get_or w (m + q) 0) p (upto m) t, upto_in m p l)) in
    omega (arith, ltb-true 0 (get_or w (m + p) 0) t, ap one e))
    (λ f. let e = no_member p (stopped w m) (count-drop (λ q. 0 <? get_or w (m + q) 0) p (upto m) f) in
    omega (arith, ltb-false 0 (get_or w (m + p) 0) f, ap one e))

pub stops_exist : (ws : List ℕ) (m : ℕ) (w : List ℕ) (h k : ℕ) → Going ws m w h k → Stops w m (stopped w m)
stops_exist ws m w h k g = record { stop = λ p l. stop_is w m p l (g.flags p l) }

-- ---- words in which nothing is on the stack are told by the pins listed, and by what is kept
module _ (ws : List ℕ) (m : ℕ) (u v w : List ℕ) (k l : ℕ) (gv : Going ws m v 0 k) (gw : Going ws m w 0 l) (kv : Kept m u v) (kw : Kept m u w) (e : list_of v m k ≡ list_of w m l) where
  pub counts_same : k ≡ l
  counts_same = sym (part_length v (3 * m) k (omega arith)) ∙ ap length e ∙ part_length w (3 * m) l (omega arith)

  list_same : (j : ℕ) → 3 * m ≤ j → j < 4 * m → get_or v j 0 ≡ get_or w j 0
  list_same j a b = by_test (j <? 3 * m + k)
      (λ t. let i : 3 * m + (j - 3 * m) ≡ j = omega arith in
      let lt = ltb-true j (3 * m + k) t in
      let q = counts_same in
      subst (λ (n : ℕ). get_or v n 0 ≡ get_or w n 0) i
      (sym (part_at v (3 * m) k (j - 3 * m) (omega arith)) ∙ ap (λ (s : List ℕ). get_or s (j - 3 * m) 0) e ∙ part_at w (3 * m) l (j - 3 * m) (omega arith)))
      (λ f. let q = counts_same in let ge = ltb-false j (3 * m + k) f in gv.listing.after j ge b ∙ sym (gw.listing.after j (omega arith) b))

  word_same : (j : ℕ) → get_or v j 0 ≡ get_or w j 0
  word_same j = by_test (j <? m)
      (λ t. let lt = ltb-true j m t in gv.listing.marks j lt ∙ ap (λ (s : List ℕ). one (member j s)) e ∙ sym (gw.listing.marks j lt))
      (λ f. by_test (j <? 2 * m)
      (λ t. let i : m + (j - m) ≡ j = omega (arith, ltb-false j m f) in
      let lt : j - m < m = omega (arith, ltb-false j m f, ltb-true j (2 * m) t) in
      subst (λ (n : ℕ). get_or v n 0 ≡ get_or w n 0) i (kv.stops (j - m) lt ∙ sym (kw.stops (j - m) lt)))
      (λ g. by_test (j <? 3 * m)
      (λ t. let a : 2 * m + 0 ≤ j = omega (arith, ltb-false j (2 * m) g) in let b = ltb-true j (3 * m) t in gv.above j a b ∙ sym (gw.above j a b))
      (λ h. by_test (j <? 4 * m)
      (λ t. list_same j (ltb-false j (3 * m) h) (ltb-true j (4 * m) t))
      (λ i. let a = ltb-false j (4 * m) i in kv.rest j a ∙ sym (kw.rest j a)))))

  pub words_same : v ≡ w
  words_same = ext_get_or 0 v w (kv.long ∙ sym kw.long) (λ j _. word_same j)

pub one-visit : (ws : List ℕ) (m : ℕ) (u : List ℕ) (c p : ℕ) (v : List ℕ) (k : ℕ) (w : List ℕ) (l : ℕ)
    → Going ws m u 0 c → Visited ws m u c p v k → Visited ws m u c p w l → (k ≡ l) × (v ≡ w)
one-visit ws m u c p v k w l g a b =
    let st = stops_exist ws m u 0 c g in
    let e : list_of v m k ≡ list_of w m l = a.list (stopped u m) st ∙ sym (b.list (stopped u m) st) in
    (counts_same ws m u v w k l a.going b.going a.kept b.kept e, words_same ws m u v w k l a.going b.going a.kept b.kept e)

pub one-visit_all : (ws : List ℕ) (m : ℕ) (roots u : List ℕ) (c : ℕ) (v : List ℕ) (k : ℕ) (w : List ℕ) (l : ℕ)
    → Going ws m u 0 c → AllVisited ws m roots u c v k → AllVisited ws m roots u c w l → (k ≡ l) × (v ≡ w)
one-visit_all ws m roots u c v k w l g a b =
    let st = stops_exist ws m u 0 c g in
    let e : list_of v m k ≡ list_of w m l = a.list (stopped u m) st ∙ sym (b.list (stopped u m) st) in
    (counts_same ws m u v w k l a.going b.going a.kept b.kept e, words_same ws m u v w k l a.going b.going a.kept b.kept e)

pub one_forgetting : (m : ℕ) (u v w : List ℕ) → Forgotten m u v → Forgotten m u w → v ≡ w
one_forgetting m u v w a b = ext_get_or 0 v w (a.long ∙ sym b.long) (λ j _. by_test (j <? m)
    (λ t. let l = ltb-true j m t in a.marks j l ∙ sym (b.marks j l))
    (λ f. let h = ltb-false j m f in by_test (j <? 3 * m)
    (λ t. let l = ltb-true j (3 * m) t in a.between j h l ∙ sym (b.between j h l))
    (λ g. let i = ltb-false j (3 * m) g in by_test (j <? 4 * m)
    (λ t. let l = ltb-true j (4 * m) t in a.list j i l ∙ sym (b.list j i l))
    (λ n. let l = ltb-false j (4 * m) n in a.rest j l ∙ sym (b.rest j l)))))

pub one_setting : (m : ℕ) (handed u v w : List ℕ) (r r' : Bool) → StopsSet m handed u v r → StopsSet m handed u w r' → (r ≡ r') × (v ≡ w)
one_setting m handed u v w r r' a b = (
  a.answer ∙ sym b.answer,
  ext_get_or 0 v w (a.long ∙ sym b.long) (λ j _. by_test (j <? m)
      (λ t. let l = ltb-true j m t in a.before j l ∙ sym (b.before j l))
      (λ f. by_test (j <? 2 * m)
      (λ t. let i : m + (j - m) ≡ j = omega (arith, ltb-false j m f) in
      let l : j - m < m = omega (arith, ltb-false j m f, ltb-true j (2 * m) t) in
      subst (λ (n : ℕ). get_or v n 0 ≡ get_or w n 0) i (a.stops.stop (j - m) l ∙ sym (b.stops.stop (j - m) l)))
      (λ n. let l = ltb-false j (2 * m) n in a.after j l ∙ sym (b.after j l)))),
)
