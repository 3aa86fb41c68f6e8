-- The computed number of a netlist says what the propositions of refusals 3 to 10 say: which number, and exactly when.
use Rattle.std.specs.Prelude.{Option, None, Some}
use mathlib.Core.Path.{◌≡◌, refl, sym, ◌∙◌, ap, subst}
use mathlib.Core.Logic.{◌↔◌}
use mathlib.Core.Bool.{Bool, true, false, not}
use mathlib.Core.List.{List, [], ◌∷◌, ◌++◌}
use Prim.Native.Nat.{ℕ, zero, suc, ◌<◌}
use native.Mathlib.Omega.{arith}
use borrow.Author.Tests.{ltb-false}
use Rattle.laws.specs.Tests.{◌<?◌, or_else, refuse}
use Rattle.laws.specs.Lists.{count, every}
use Rattle.laws.specs.Search.{level_by, Chain}
use Rattle.laws.proofs.Tests.{by_test, true≢false, or_zero, next-refused, passed}
use Rattle.laws.proofs.Bags.{at_head, here, there, every_true, every_false, every_all}
use Rattle.laws.proofs.Ranges.{every_upto, of_upto, not_upto}
use Rattle.laws.proofs.Loops.{loop_free_lem, loop_freed, rank_falls, short_runs}
use Rattle.rules.specs.Netlist.{Netlist, cells, size, name_of, kind_of, kinds_fit, no_latch, pins_fit, nets_fit}
use Rattle.rules.specs.Cells.{Carried, Logic}
use Rattle.rules.specs.Build.{Role, tied, wire, out_port, in_port, and_out, inv_out, buf_out, gate_out, dff_out, ram_out, nothing, role, visits_of, next, Walk, still, root, gated, strange, far, walk, clocks}
use Rattle.rules.specs.Refusals.{tables_number, Loop, loop_free, walk_number, first_number, clocks_number, must_be_logic, logic_pins, NoMarker, turn_mark, mark_of, mark_by, mark, is_none, mark_free, netlist_number, Accepted}
use Rattle.rules.proofs.Tables.{clash, in_keep}
use Rattle.rules.proofs.Roles.{next_closed}
use Rattle.rules.proofs.Loops.{loop_found}
use Rattle.rules.proofs.Markers.{Marked, made, by_net, by_port, by_buf, by_inv, carried, marked}

-- ---- a computed marker is one
no_mark : {P : Type 0} (odd : Bool) → ◌≡◌ {A = Option Bool} None (Some odd) → P
no_mark odd e = clash (cc)

is_none_lem : (m : Option Bool) → ((odd : Bool) → m ≡ Some odd → ⊥) → m ≡ None
is_none_lem None h = refl
is_none_lem (Some b) h = absurd (h b refl)

none_is : (m : Option Bool) → is_none m ≡ true → m ≡ None
none_is None h = refl
none_is (Some b) h = true≢false false h refl

some_is : {P : Type 0} (m : Option Bool) → is_none m ≡ false → ((odd : Bool) → m ≡ Some odd → P) → P
some_is None h k = true≢false true refl h
some_is (Some b) h k = k b refl

turned : (n : Netlist) (p q : ℕ) (odd : Bool) (m : Option Bool) → ((d : Bool) → m ≡ Some d → Marked n q d) → role n p ≡ inv_out q → turn_mark m ≡ Some odd → Marked n p odd
turned n p q odd None ih er eo = clash (cc)
turned n p q odd (Some d) ih er eo = let ed : not d ≡ odd = cc in subst (Marked n p) ed (by_inv er (ih d refl))

mark_by_lem : (n : Netlist) (p : ℕ) (odd : Bool) (h : ℕ → Option Bool) → ((q : ℕ) (d : Bool) → h q ≡ Some d → Marked n q d)
    → (r : Role) → role n p ≡ r → mark_of h r ≡ Some odd → Marked n p odd
mark_by_lem n p odd h ih (tied b) er eo = no_mark odd eo
mark_by_lem n p odd h ih (wire q) er eo = by_net er (ih q odd eo)
mark_by_lem n p odd h ih (out_port q) er eo = by_port er (ih q odd eo)
mark_by_lem n p odd h ih in_port er eo = no_mark odd eo
mark_by_lem n p odd h ih (and_out x y z a b) er eo = no_mark odd eo
mark_by_lem n p odd h ih (inv_out q) er eo = turned n p q odd (h q) (ih q) er eo
mark_by_lem n p odd h ih (buf_out q) er eo = by_buf er (ih q odd eo)
mark_by_lem n p odd h ih (gate_out cp en) er eo = let ed : false ≡ odd = cc in subst (Marked n p) ed (made er)
mark_by_lem n p odd h ih (dff_out c) er eo = no_mark odd eo
mark_by_lem n p odd h ih (ram_out c b) er eo = no_mark odd eo
mark_by_lem n p odd h ih nothing er eo = no_mark odd eo

mark_sound : (n : Netlist) (f p : ℕ) (odd : Bool) → mark_by n f p ≡ Some odd → Marked n p odd
mark_sound n zero p odd e = no_mark odd e
mark_sound n (suc f) p odd e = mark_by_lem n p odd (mark_by n f) (mark_sound n f) (role n p) refl e

-- and along a rank that falls every marker is computed
module _ (n : Netlist) (rk : ℕ → ℕ) (falls : (u o : ℕ) → u < size n → 0 < count o (next n u) → (o < size n) × (rk o < rk u)) where
  onward : (p q : ℕ) (r : Role) → p < size n → role n p ≡ r → 0 < count q (visits_of n r) → (q < size n) × (rk q < rk p)
  onward p q r h e m = falls p q h (subst (λ (x : Role). 0 < count q (visits_of n x)) (sym e) m)

  mark_complete : (p : ℕ) (odd : Bool) → Marked n p odd → p < size n → (f : ℕ) → rk p < f → mark_by n f p ≡ Some odd
  mark_complete p odd m h zero l = absurd (omega arith)
  mark_complete p odd (made e) h (suc f) l = ap (mark_of (mark_by n f)) e
  mark_complete p odd (by_net {q = q} e m) h (suc f) l = let w = onward p q (wire q) h e (here q []) in ap (mark_of (mark_by n f)) e ∙ mark_complete q odd m w.0 f (omega (arith, w.1))
  mark_complete p odd (by_port {q = q} e m) h (suc f) l = let w = onward p q (out_port q) h e (here q []) in ap (mark_of (mark_by n f)) e ∙ mark_complete q odd m w.0 f (omega (arith, w.1))
  mark_complete p odd (by_buf {q = q} e m) h (suc f) l = let w = onward p q (buf_out q) h e (here q []) in ap (mark_of (mark_by n f)) e ∙ mark_complete q odd m w.0 f (omega (arith, w.1))
  mark_complete p odd (by_inv {q = q} {odd = d} e m) h (suc f) l =
      let w = onward p q (inv_out q) h e (here q []) in ap (mark_of (mark_by n f)) e ∙ ap turn_mark (mark_complete q d m w.0 f (omega (arith, w.1)))

-- a marker reaches a pin that must have a logic bit
pub record Reached (n : Netlist) : Type 0 where
  pub cell : ℕ
  pub pin : ℕ
  pub odd : Bool
  pub inside : cell < cells n
  pub must : 0 < count pin (logic_pins n cell)
  pub marker_there : Carried n pin odd

module _ (n : Netlist) (tab : tables_number n ≡ 0) where
  closed : (u o : ℕ) → u < size n → 0 < count o (next n u) → o < size n
  closed u o h m = next_closed n tab u o h m

  -- ---- 7
  free : (Loop n → ⊥) → (p : ℕ) → p < size n → Chain (next n) p p → ⊥
  free nl p h c = nl (record { pin = p; inside = h; chain = c })

  pub loop_iff : (loop_free n ≡ true) ↔ (Loop n → ⊥)
  loop_iff = ((λ t l. loop_free_lem (next n) (size n) closed t l.pin l.inside l.chain), λ nl. loop_freed (next n) (size n) closed (free nl))

  pub a_loop : loop_free n ≡ false → Loop n
  a_loop f = not_upto (λ p. level_by (next n) (size n) p <? size n) (size n) f (λ p h e.
      let w = loop_found (next n) (size n) closed (size n) p h (ltb-false (level_by (next n) (size n) p) (size n) e) in record { pin = w.0; inside = w.1; chain = w.2 })

  -- ---- a rank that falls with each visit
  module _ (nl : Loop n → ⊥) where
    abbrev pub rank_of : ℕ → ℕ
    rank_of p = level_by (next n) (size n) p

    pub rank_low : (p : ℕ) → p < size n → rank_of p < size n
    rank_low p h = short_runs (next n) (size n) closed (free nl) (size n) p h

    pub visits_fall : (u o : ℕ) → u < size n → 0 < count o (next n u) → (o < size n) × (rank_of o < rank_of u)
    visits_fall u o h m = rank_falls (next n) (size n) closed rank_low u o h m

    -- ---- 10
    pub mark_iff : (p : ℕ) (odd : Bool) → p < size n → (mark n p ≡ Some odd) ↔ Carried n p odd
    mark_iff p odd h = (
      (λ e. carried n p odd (mark_sound n (size n) p odd e)),
      λ m. mark_complete n rank_of visits_fall p odd (marked n p odd m) h (size n) (rank_low p h),
    )

    pub no_mark_iff : (p : ℕ) → p < size n → (mark n p ≡ None) ↔ Logic n p
    no_mark_iff p h = ((λ e odd m. no_mark odd (sym e ∙ (mark_iff p odd h).1 m)), λ l. is_none_lem (mark n p) (λ odd e. l odd ((mark_iff p odd h).0 e)))

    logic_inside : (c p : ℕ) → c < cells n → 0 < count p (logic_pins n c) → p < size n
    logic_inside c p h m = in_keep n tab (λ q. must_be_logic (kind_of n c) (name_of n q)) c p h m

    pub markers_iff : (mark_free n ≡ true) ↔ NoMarker n
    markers_iff = (
      (λ t c p h m. (no_mark_iff p (logic_inside c p h m)).0 (none_is (mark n p)
          (every_true (λ q. is_none (mark n q)) p (logic_pins n c) (of_upto (λ k. every (λ q. is_none (mark n q)) (logic_pins n k)) (cells n) c t h) m))),
      λ f. every_upto (λ k. every (λ q. is_none (mark n q)) (logic_pins n k)) (cells n) (λ c h. every_all (λ q. is_none (mark n q)) (logic_pins n c)
          (λ p m. ap is_none ((no_mark_iff p (logic_inside c p h m)).1 (f c p h m)))),
    )

    pub a_marker : mark_free n ≡ false → Reached n
    a_marker f = not_upto (λ k. every (λ q. is_none (mark n q)) (logic_pins n k)) (cells n) f (λ c h g.
        every_false (λ q. is_none (mark n q)) (logic_pins n c) g (λ p m e.
        some_is (mark n p) e (λ odd eo. record { cell = c; pin = p; odd = odd; inside = h; must = m; marker_there = (mark_iff p odd (logic_inside c p h m)).0 eo })))

-- ---- 8 and 9: the first walk in step 1 order that fails
pub record FirstFailing (n : Netlist) (k : ℕ) : Type 0 where
  pub before : List ℕ
  pub pin : ℕ
  pub after : List ℕ
  pub order : clocks n ≡ before ++ (pin ∷ after)
  pub found : (q : ℕ) → 0 < count q before → walk_number (walk n q) ≡ 0
  pub fails : walk_number (walk n pin) ≡ k

pub walk_cases : {P : Type 0} (w : Walk) → (walk_number w ≡ 0 → P) → (walk_number w ≡ 8 → P) → (walk_number w ≡ 9 → P) → P
walk_cases still p q r = p refl
walk_cases (root x e) p q r = p refl
walk_cases (gated w e) p q r = walk_cases w p q r
walk_cases strange p q r = q refl
walk_cases far p q r = r refl

module _ (n : Netlist) where
  all_found : (ps : List ℕ) → first_number n ps ≡ 0 → (p : ℕ) → 0 < count p ps → walk_number (walk n p) ≡ 0
  all_found [] h p m = absurd (omega arith)
  all_found (x ∷ ps) h p m = let w = or_zero (walk_number (walk n x)) (first_number n ps) h in at_head p x ps m (λ e. rw e w.0) (λ m'. all_found ps w.1 p m')

  pub walks_found : clocks_number n ≡ 0 → (p : ℕ) → 0 < count p (clocks n) → walk_number (walk n p) ≡ 0
  walks_found h p m = all_found (clocks n) h p m

  split_at : {P : Type 0} (ps : List ℕ) (k : ℕ) → first_number n ps ≡ suc k
      → ((before : List ℕ) (p : ℕ) (after : List ℕ) → ps ≡ before ++ (p ∷ after) → ((q : ℕ) → 0 < count q before → walk_number (walk n q) ≡ 0) → walk_number (walk n p) ≡ suc k → P) → P
  split_at [] k h go = absurd (omega arith)
  split_at (x ∷ ps) k h go = walk_cases (walk n x)
      (λ z. split_at ps k (sym (next-refused (walk_number (walk n x)) (first_number n ps) z) ∙ h) (λ before p after e f g.
      go (x ∷ before) p after (ap (λ l. x ∷ l) e) (λ q m. at_head q x before m (λ eq. rw eq z) (λ m'. f q m')) g))
      (λ e. go [] x ps refl (λ q m. absurd (omega arith)) (e ∙ sym (ap (λ (r : ℕ). or_else r (first_number n ps)) e) ∙ h))
      (λ e. go [] x ps refl (λ q m. absurd (omega arith)) (e ∙ sym (ap (λ (r : ℕ). or_else r (first_number n ps)) e) ∙ h))

  joined : (before : List ℕ) (p : ℕ) (after : List ℕ) (k : ℕ) → ((q : ℕ) → 0 < count q before → walk_number (walk n q) ≡ 0) → walk_number (walk n p) ≡ suc k
      → first_number n (before ++ (p ∷ after)) ≡ suc k
  joined [] p after k f e = rw e
  joined (x ∷ before) p after k f e = rw (f x (here x before)) (joined before p after k (λ q m. f q (there q x before m)) e)

  pub failing_iff : (k : ℕ) → (clocks_number n ≡ suc k) ↔ FirstFailing n (suc k)
  failing_iff k = (
    (λ h. split_at (clocks n) k h (λ before p after e f g. record { before = before; pin = p; after = after; order = e; found = f; fails = g })),
    λ w. ap (first_number n) w.order ∙ joined w.before w.pin w.after k w.found w.fails,
  )

-- ---- the number, exactly when
pub data Verdict (n : Netlist) (k : ℕ) : Type 0 where
  accepted : k ≡ 0 → Accepted n → Verdict n k
  bad_kind : k ≡ 3 → kinds_fit n ≡ false → Verdict n k
  a_latch : k ≡ 4 → kinds_fit n ≡ true → no_latch n ≡ false → Verdict n k
  bad_pin : k ≡ 5 → kinds_fit n ≡ true → no_latch n ≡ true → pins_fit n ≡ false → Verdict n k
  bad_net : k ≡ 6 → kinds_fit n ≡ true → no_latch n ≡ true → pins_fit n ≡ true → nets_fit n ≡ false → Verdict n k
  looping : k ≡ 7 → tables_number n ≡ 0 → Loop n → Verdict n k
  -- 8 or 9, whichever the first failing walk gives
  bad_clock : (j : ℕ) → k ≡ suc j → tables_number n ≡ 0 → (Loop n → ⊥) → FirstFailing n k → Verdict n k
  marker_reaches : k ≡ 10 → tables_number n ≡ 0 → (Loop n → ⊥) → clocks_number n ≡ 0 → Reached n → Verdict n k

module _ (n : Netlist) where
  -- the tests in a row, from the first that does not pass
  rest_7 : tables_number n ≡ 0 → netlist_number n ≡ or_else (or_else (refuse 7 (loop_free n)) (clocks_number n)) (refuse 10 (mark_free n))
  rest_7 t = ap (λ (r : ℕ). or_else r (refuse 10 (mark_free n))) (next-refused (tables_number n) (or_else (refuse 7 (loop_free n)) (clocks_number n)) t)

  rest_8 : tables_number n ≡ 0 → loop_free n ≡ true → netlist_number n ≡ or_else (clocks_number n) (refuse 10 (mark_free n))
  rest_8 t l = rest_7 t ∙ rw l

  gives_7 : tables_number n ≡ 0 → loop_free n ≡ false → netlist_number n ≡ 7
  gives_7 t l = rest_7 t ∙ rw l

  gives_8 : tables_number n ≡ 0 → loop_free n ≡ true → (j : ℕ) → clocks_number n ≡ suc j → netlist_number n ≡ suc j
  gives_8 t l j e = rest_8 t l ∙ rw e

  gives_10 : tables_number n ≡ 0 → loop_free n ≡ true → clocks_number n ≡ 0 → netlist_number n ≡ refuse 10 (mark_free n)
  gives_10 t l e = rest_8 t l ∙ next-refused (clocks_number n) (refuse 10 (mark_free n)) e

  -- no loop, no failing walk: markers decide
  at_last : tables_number n ≡ 0 → loop_free n ≡ true → clocks_number n ≡ 0 → Verdict n (netlist_number n)
  at_last t l e = by_test (mark_free n)
      (λ m. accepted (gives_10 t l e ∙ ap (refuse 10) m)
      (record { tables = t; no_loop = (loop_iff n t).0 l; clocks_found = e; no_marker = (markers_iff n t ((loop_iff n t).0 l)).0 m }))
      (λ m. marker_reaches (gives_10 t l e ∙ ap (refuse 10) m) t ((loop_iff n t).0 l) e (a_marker n t ((loop_iff n t).0 l) m))

  by_clocks : tables_number n ≡ 0 → loop_free n ≡ true → (w : ℕ) → clocks_number n ≡ w → Verdict n (netlist_number n)
  by_clocks t l zero e = at_last t l e
  by_clocks t l (suc j) e = bad_clock j (gives_8 t l j e) t ((loop_iff n t).0 l) (subst (FirstFailing n) (sym (gives_8 t l j e)) ((failing_iff n j).0 e))

  from_7 : tables_number n ≡ 0 → Verdict n (netlist_number n)
  from_7 t = by_test (loop_free n)
      (λ l. by_clocks t l (clocks_number n) refl)
      (λ f. looping (gives_7 t f) t (a_loop n t f))

  verdict : Verdict n (netlist_number n)
  verdict = by_test (kinds_fit n)
      (λ a. by_test (no_latch n)
      (λ b. by_test (pins_fit n)
      (λ c. by_test (nets_fit n)
      (λ d. from_7 (rw (a, b, c, d)))
      (λ d. bad_net (rw (a, b, c, d)) a b c d))
      (λ c. bad_pin (rw (a, b, c)) a b c))
      (λ b. a_latch (rw (a, b)) a b))
      (λ a. bad_kind (rw a) a)

  number_of : (k : ℕ) → Verdict n k → netlist_number n ≡ k
  number_of k (accepted e acc) =
      let l = (loop_iff n acc.tables).1 acc.no_loop in
      gives_10 acc.tables l acc.clocks_found ∙ passed 10 (mark_free n) ((markers_iff n acc.tables acc.no_loop).1 acc.no_marker) ∙ sym e
  number_of k (bad_kind e a) = rw a (sym e)
  number_of k (a_latch e a b) = rw (a, b) (sym e)
  number_of k (bad_pin e a b c) = rw (a, b, c) (sym e)
  number_of k (bad_net e a b c d) = rw (a, b, c, d) (sym e)
  number_of k (looping e t l) = by_test (loop_free n) (λ y. absurd ((loop_iff n t).0 y l)) (λ f. gives_7 t f ∙ sym e)
  number_of k (bad_clock j e t nl w) = gives_8 t ((loop_iff n t).1 nl) j ((failing_iff n j).1 (subst (FirstFailing n) e w)) ∙ sym e
  number_of k (marker_reaches e t nl c r) = by_test (mark_free n)
      (λ y. absurd ((markers_iff n t nl).0 y r.cell r.pin r.inside r.must r.odd r.marker_there))
      (λ f. gives_10 t ((loop_iff n t).1 nl) c ∙ ap (refuse 10) f ∙ sym e)

  pub verdict_iff : (k : ℕ) → (netlist_number n ≡ k) ↔ Verdict n k
  verdict_iff k = ((λ e. subst (Verdict n) e verdict), number_of k)

  -- ---- none of them
  pub accepted_iff : (netlist_number n ≡ 0) ↔ Accepted n
  accepted_iff = (to, λ acc. number_of 0 (accepted refl acc))
    where
      pick : Verdict n 0 → Accepted n
      pick (accepted e acc) = acc
      pick (bad_kind e a) = absurd (omega arith)
      pick (a_latch e a b) = absurd (omega arith)
      pick (bad_pin e a b c) = absurd (omega arith)
      pick (bad_net e a b c d) = absurd (omega arith)
      pick (looping e t l) = absurd (omega arith)
      pick (bad_clock j e t nl w) = absurd (omega arith)
      pick (marker_reaches e t nl c r) = absurd (omega arith)

      to : netlist_number n ≡ 0 → Accepted n
      to z = pick ((verdict_iff 0).0 z)
