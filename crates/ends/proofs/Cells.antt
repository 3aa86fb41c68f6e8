-- What step 3 makes of each cell, by the drivers that it begins with; and that no later cell changes it.
use mathlib.Core.Path.{◌≡◌, refl, sym, ap, ap₂, subst, ◌∙◌}
use mathlib.Core.Bool.{Bool, true, false, ◌||◌}
use mathlib.Core.List.{List, [], ◌∷◌}
use Prim.Native.Nat.{ℕ, zero, suc, ◌+◌, ◌-◌, ◌<◌, ◌≤◌}
use native.Mathlib.Omega.{arith}
use borrow.Author.Tests.{eqb-true, eqb-false, ltb-true, ltb-false}
use Rattle.std.specs.Prelude.{Option, ◌==◌}
use Rattle.laws.specs.Tests.{◌<?◌}
use Rattle.laws.specs.Lists.{count, keep, over, upto, first_or, put}
use Rattle.laws.specs.Sets.{insert}
use Rattle.laws.proofs.Tests.{by_test, true≢false, or_cases, one_eq}
use Rattle.laws.proofs.Bags.{here, there, put_same, put_other, keep_le, keep_true}
use Rattle.laws.proofs.Folds.{over_snoc}
use Rattle.rules.specs.declared.Driver.{Driver}
use Rattle.rules.specs.Netlist.{Netlist, size, cells, cell_of, name_of, bit_of, is_out, pins_of, kind_of, Kind, top, and2, inv, buf, dff, clock_gate, ram, unfit, named, named_bit, #D, #CLK, #S, #R, #R_CLK, #W_CLK, #W_EN}
use Rattle.rules.specs.Graph.{Made, and_of}
use Rattle.rules.specs.Build.{is_clock, walk, clocks_of, Ends, trace, trace_clock, write_end, ram_ends, cell_ends, end_cell}
use Rattle.rules.specs.Refusals.{Accepted}
use Rattle.rules.proofs.Tables.{clash, own_cell, in_cell, slot_of, same_pin}
use Rattle.builds.proofs.Ends.{with_ram}
use Rattle.roles.specs.Reading.{either_in, cell_pins, entry_of}
use Rattle.roles.proofs.Roles.{either_same}
use Rattle.activity.specs.Traced.{lits, entry_traced}
use Rattle.flops.specs.Flopped.{Both, flop_clock, flop_both}
use Rattle.rows.specs.Words.{bit_lit}
use Rattle.rows.proofs.Filling.{word_enable}
use Rattle.memories.specs.Remembered.{clocks_made, reads_first, turned, ram_clocks, bits_made, enable_of, ram_made}
use Rattle.memories.proofs.Remembering.{bits_same}

-- ---- lists with at most one member
one_or_none : {P : Type 0} (l : List ℕ) → ((p q : ℕ) → 0 < count p l → 0 < count q l → p ≡ q) → ((p : ℕ) → count p l ≤ 1) → (l ≡ [] → P) → ((p : ℕ) → l ≡ p ∷ [] → P) → P
one_or_none [] same once a b = a refl
one_or_none (p ∷ []) same once a b = b p refl
one_or_none (p ∷ q ∷ l) same once a b = absurd (twice p q l (same q p (there q p (q ∷ l) (here q l)) (here p (q ∷ l))) (once p))
  where
    twice : (p q : ℕ) (l : List ℕ) → q ≡ p → count p (p ∷ q ∷ l) ≤ 1 → ⊥
    twice p q l e o = omega (arith, o, one_eq p p refl, one_eq p q (sym e))

keep_twice : (f g : ℕ → Bool) → ((x : ℕ) → f x ≡ true → g x ≡ true) → (l : List ℕ) → keep f (keep g l) ≡ keep f l
keep_twice f g h [] = refl
keep_twice f g h (x ∷ l) = by_test (g x)
    (λ t. rw t (by_test (f x) (λ y. rw y (ap (λ (s : List ℕ). x ∷ s) (keep_twice f g h l))) (λ z. rw z (keep_twice f g h l))))
    (λ e. rw e (by_test (f x) (λ y. true≢false (g x) (h x y) e) (λ z. rw z (keep_twice f g h l))))

module _ (n : Netlist) where
  -- ---- tracing changes drivers and the activities of the pins traced
  abbrev traces : Ends → List ℕ → Ends
  traces s ps = over (trace_clock n (lits n)) s ps

  trace_rest : (ps : List ℕ) (s : Ends) → ((traces s ps).nexts ≡ s.nexts) × ((traces s ps).enables ≡ s.enables) × ((traces s ps).writes ≡ s.writes) × ((traces s ps).rams ≡ s.rams)
  trace_rest [] s = (refl, refl, refl, refl)
  trace_rest (p ∷ ps) s = trace_rest ps (trace_clock n (lits n) s p)

  trace_active : (ps : List ℕ) (s : Ends) (q : ℕ) → count q ps ≡ 0 → (traces s ps).active q ≡ s.active q
  trace_active [] s q z = refl
  trace_active (p ∷ ps) s q z = trace_active ps (trace_clock n (lits n) s p) q (omega (arith, z))
      ∙ put_other s.active p (trace s.drivers (lits n) (walk n p)).lit q (λ e. omega (arith, z, one_eq q p e))

  -- ---- write enables
  abbrev enable : ℕ → ℕ → ℕ
  enable c i = first_or 0 (lits n) (named_bit n c #W_EN i)

  record Wrote (c k : ℕ) (s e : Ends) : Type 0 where
    pub drivers : e.drivers ≡ (bits_made s.drivers (first_or 0 s.active (named n c #W_CLK)) (enable c) k).drivers
    pub active : e.active ≡ s.active
    pub nexts : e.nexts ≡ s.nexts
    pub enables : e.enables ≡ s.enables
    pub rams : e.rams ≡ s.rams
    pub own : (i : ℕ) → i < k → e.writes c i ≡ (bits_made s.drivers (first_or 0 s.active (named n c #W_CLK)) (enable c) (suc i)).lit
    pub other : (d : ℕ) → (d ≡ c → ⊥) → e.writes d ≡ s.writes d

  wrote_more : (c k : ℕ) (s e : Ends) → Wrote c k s e → Wrote c (suc k) s (write_end n (lits n) c e k)
  wrote_more c k s e h = record {
    drivers = ap (λ (x : Made). x.drivers) m_is;
    active = h.active;
    nexts = h.nexts;
    enables = h.enables;
    rams = h.rams;
    own = λ i l. ap (λ (g : ℕ → ℕ). g i) (put_same e.writes c (put (e.writes c) k m.lit)) ∙ by_test (i == k)
        (λ y. let q = eqb-true i k y in ap (put (e.writes c) k m.lit) q ∙ put_same (e.writes c) k m.lit ∙ ap (λ (x : Made). x.lit) m_is ∙ ap (λ (x : ℕ). (up_to (suc x)).lit) (sym q))
        (λ f. let ne = eqb-false i k f in put_other (e.writes c) k m.lit i ne ∙ h.own i (omega (arith, l, ne)));
    other = λ d ne. put_other e.writes c (put (e.writes c) k m.lit) d ne ∙ h.other d ne;
  }
    where
      wl : ℕ
      wl = first_or 0 s.active (named n c #W_CLK)

      up_to : ℕ → Made
      up_to i = bits_made s.drivers wl (enable c) i

      m : Made
      m = and_of e.drivers (enable c k) (first_or 0 e.active (named n c #W_CLK))

      m_is : m ≡ up_to (suc k)
      m_is = ap₂ (λ (ds : List Driver) (x : ℕ). and_of ds (enable c k) x) h.drivers (ap (λ (g : ℕ → ℕ). first_or 0 g (named n c #W_CLK)) h.active)

  wrote_all : (c : ℕ) (s : Ends) (k : ℕ) → Wrote c k s (over (write_end n (lits n) c) s (upto k))
  wrote_all c s zero = record { drivers = refl; active = refl; nexts = refl; enables = refl; rams = refl; own = λ i l. absurd (omega (arith, l)); other = λ d ne. refl }
  wrote_all c s (suc k) = subst (Wrote c (suc k) s) (sym (over_snoc (write_end n (lits n) c) s (upto k) k)) (wrote_more c k s (over (write_end n (lits n) c) s (upto k)) (wrote_all c s k))

  -- ---- what one cell leaves of the others
  record Aside (c : ℕ) (s e : Ends) : Type 0 where
    pub nexts : (d : ℕ) → (d ≡ c → ⊥) → e.nexts d ≡ s.nexts d
    pub enables : (d : ℕ) → (d ≡ c → ⊥) → e.enables d ≡ s.enables d
    pub writes : (d : ℕ) → (d ≡ c → ⊥) → e.writes d ≡ s.writes d
    pub active : e.active ≡ s.active

  same_aside : (c : ℕ) (s : Ends) → Aside c s s
  same_aside c s = record { nexts = λ d ne. refl; enables = λ d ne. refl; writes = λ d ne. refl; active = refl }

  cell_aside : (c : ℕ) (s : Ends) (k : Kind) → Aside c s (cell_ends n (lits n) s c k)
  cell_aside c s top = same_aside c s
  cell_aside c s (and2 x y z) = same_aside c s
  cell_aside c s inv = same_aside c s
  cell_aside c s buf = same_aside c s
  cell_aside c s dff = record { nexts = λ d ne. put_other s.nexts c _ d ne; enables = λ d ne. put_other s.enables c _ d ne; writes = λ d ne. refl; active = refl }
  cell_aside c s clock_gate = same_aside c s
  cell_aside c s ram = let w = wrote_all c (with_ram s c) 32 in
      record { nexts = λ d ne. ap (λ (g : ℕ → ℕ). g d) w.nexts; enables = λ d ne. ap (λ (g : ℕ → ℕ). g d) w.enables; writes = w.other; active = w.active }
  cell_aside c s unfit = same_aside c s

  pub record Left (c : ℕ) (s e : Ends) : Type 0 where
    pub nexts : (d : ℕ) → (d ≡ c → ⊥) → e.nexts d ≡ s.nexts d
    pub enables : (d : ℕ) → (d ≡ c → ⊥) → e.enables d ≡ s.enables d
    pub writes : (d : ℕ) → (d ≡ c → ⊥) → e.writes d ≡ s.writes d
    pub active : (q : ℕ) → count q (clocks_of n c) ≡ 0 → e.active q ≡ s.active q

  pub end_left : (c : ℕ) (s : Ends) → Left c s (end_cell n (lits n) s c)
  end_left c s =
      let a = cell_aside c (traces s (clocks_of n c)) (kind_of n c) in let r = trace_rest (clocks_of n c) s in record {
        nexts = λ d ne. a.nexts d ne ∙ ap (λ (g : ℕ → ℕ). g d) r.0;
        enables = λ d ne. a.enables d ne ∙ ap (λ (g : ℕ → ℕ). g d) r.1;
        writes = λ d ne. a.writes d ne ∙ ap (λ (g : ℕ → ℕ → ℕ). g d) r.2;
        active = λ q z. ap (λ (g : ℕ → ℕ). g q) a.active ∙ trace_active (clocks_of n c) s q z;
      }

  -- ---- a flip-flop, its clocks being one pin or none
  abbrev flop_with : ℕ → (ℕ → ℕ) → (ℕ → ℕ) → (ℕ → ℕ) → (ℕ → ℕ → ℕ) → List ℕ → List Driver → ℕ → Ends
  flop_with c act nx en wr rm ds al =
      let b : Both = flop_both ds (first_or 0 (lits n) (named n c #D)) al (first_or 1 (lits n) (named n c #S)) (first_or 1 (lits n) (named n c #R)) in
      record { drivers = b.drivers; active = act; nexts = put nx c b.first; enables = put en c b.second; writes = wr; rams = rm }

  abbrev Clock : Ends → List ℕ → Type 0
  Clock s l = ((traces s l).drivers ≡ (entry_traced n s.drivers (entry_of l 0)).drivers) × (first_or 0 (traces s l).active l ≡ (entry_traced n s.drivers (entry_of l 0)).lit)

  no_clock : (s : Ends) → Clock s []
  unfolding entry_of
  no_clock s = (refl, refl)

  one_clock : (s : Ends) (p : ℕ) → Clock s (p ∷ [])
  unfolding entry_of
  one_clock s p = (refl, put_same s.active p (trace s.drivers (lits n) (walk n p)).lit)

  clock_by : (s : Ends) (l : List ℕ) → ((p q : ℕ) → 0 < count p l → 0 < count q l → p ≡ q) → ((p : ℕ) → count p l ≤ 1) → Clock s l
  clock_by s l same once = one_or_none l same once (λ e. subst (Clock s) (sym e) (no_clock s)) (λ p e. subst (Clock s) (sym e) (one_clock s p))

  -- ---- a RAM's clocks, of which none has the name of another
  abbrev by_name : ℕ → List ℕ → List ℕ
  by_name m l = keep (λ p. name_of n p == m) l

  abbrev both_by : Ends → List ℕ → Both
  both_by s l = record {
    drivers = (entry_traced n (entry_traced n s.drivers (entry_of l 0)).drivers (entry_of l 1)).drivers;
    first = (entry_traced n s.drivers (entry_of l 0)).lit;
    second = (entry_traced n (entry_traced n s.drivers (entry_of l 0)).drivers (entry_of l 1)).lit;
  }

  abbrev Clocks : Ends → List ℕ → Type 0
  Clocks s l =
      ((traces s l).drivers ≡ (both_by s l).drivers)
      × (first_or 0 (traces s l).active (by_name #R_CLK l) ≡ (turned (reads_first n.pins (entry_of l 0)) (both_by s l)).first)
      × (first_or 0 (traces s l).active (by_name #W_CLK l) ≡ (turned (reads_first n.pins (entry_of l 0)) (both_by s l)).second)

  no_clocks : (s : Ends) → Clocks s []
  unfolding entry_of
  no_clocks s = (refl, refl, refl)

  read-alone : (s : Ends) (p : ℕ) → name_of n p ≡ #R_CLK → Clocks s (p ∷ [])
  unfolding entry_of
  read-alone s p e = rw e (refl, put_same s.active p (trace s.drivers (lits n) (walk n p)).lit, refl)

  write_alone : (s : Ends) (p : ℕ) → name_of n p ≡ #W_CLK → Clocks s (p ∷ [])
  unfolding entry_of
  write_alone s p e = rw e (refl, refl, put_same s.active p (trace s.drivers (lits n) (walk n p)).lit)

  module _ (s : Ends) (p q : ℕ) (ne : p ≡ q → ⊥) where
    abbrev m1 : Made
    m1 = trace s.drivers (lits n) (walk n p)

    abbrev m2 : Made
    m2 = trace m1.drivers (lits n) (walk n q)

    at_p : put (put s.active p m1.lit) q m2.lit p ≡ m1.lit
    at_p = put_other (put s.active p m1.lit) q m2.lit p ne ∙ put_same s.active p m1.lit

    at_q : put (put s.active p m1.lit) q m2.lit q ≡ m2.lit
    at_q = put_same (put s.active p m1.lit) q m2.lit

    read_write : name_of n p ≡ #R_CLK → name_of n q ≡ #W_CLK → Clocks s (p ∷ q ∷ [])
    unfolding entry_of
    read_write ep eq = rw (ep, eq) (refl, at_p, at_q)

    write_read : name_of n p ≡ #W_CLK → name_of n q ≡ #R_CLK → Clocks s (p ∷ q ∷ [])
    unfolding entry_of
    write_read ep eq = rw (ep, eq) (refl, at_q, at_p)

  module _ (s : Ends) (whole : List ℕ) (names : (p : ℕ) → 0 < count p whole → ((name_of n p == #R_CLK) || (name_of n p == #W_CLK)) ≡ true)
      (alone : (p q : ℕ) → 0 < count p whole → 0 < count q whole → name_of n p ≡ name_of n q → p ≡ q) (once : (p : ℕ) → count p whole ≤ 1) where
    name_of_lem : {P : Type 0} (p : ℕ) → 0 < count p whole → (name_of n p ≡ #R_CLK → P) → (name_of n p ≡ #W_CLK → P) → P
    name_of_lem p m a b = or_cases (name_of n p == #R_CLK) (name_of n p == #W_CLK) (names p m) (λ y. a (eqb-true (name_of n p) #R_CLK y)) (λ y. b (eqb-true (name_of n p) #W_CLK y))

    clocks_by : (l : List ℕ) → whole ≡ l → Clocks s l
    clocks_by [] e = no_clocks s
    clocks_by (p ∷ []) e = name_of_lem p (subst (λ (x : List ℕ). 0 < count p x) (sym e) (here p [])) (read-alone s p) (write_alone s p)
    clocks_by (p ∷ q ∷ []) e =
        let mp : 0 < count p whole = subst (λ (x : List ℕ). 0 < count p x) (sym e) (here p (q ∷ [])) in
        let mq : 0 < count q whole = subst (λ (x : List ℕ). 0 < count q x) (sym e) (there q p (q ∷ []) (here q [])) in
        let ne : p ≡ q → ⊥ = λ i. absurd (omega (arith, once p, ap (count p) e, one_eq p p refl, one_eq p q i)) in
        name_of_lem p mp
        (λ ep. name_of_lem q mq (λ eq. absurd (ne (alone p q mp mq (ep ∙ sym eq)))) (λ eq. read_write s p q ne ep eq))
        (λ ep. name_of_lem q mq (λ eq. write_read s p q ne ep eq) (λ eq. absurd (ne (alone p q mp mq (ep ∙ sym eq)))))
    clocks_by (p ∷ q ∷ r ∷ l) e =
        let mp : 0 < count p whole = subst (λ (x : List ℕ). 0 < count p x) (sym e) (here p (q ∷ r ∷ l)) in
        let mq : 0 < count q whole = subst (λ (x : List ℕ). 0 < count q x) (sym e) (there q p (q ∷ r ∷ l) (here q (r ∷ l))) in
        let mr : 0 < count r whole = subst (λ (x : List ℕ). 0 < count r x) (sym e) (there r p (q ∷ r ∷ l) (there r q (r ∷ l) (here r l))) in
        let pq : p ≡ q → ⊥ = λ i. absurd (omega (arith, once p, ap (count p) e, one_eq p p refl, one_eq p q i)) in
        let pr : p ≡ r → ⊥ = λ i. absurd (omega (arith, once p, ap (count p) e, one_eq p p refl, one_eq p r i)) in
        let qr : q ≡ r → ⊥ = λ i. absurd (omega (arith, once q, ap (count q) e, one_eq q q refl, one_eq q r i)) in
        name_of_lem p mp
        (λ ep. name_of_lem q mq
        (λ eq. absurd (pq (alone p q mp mq (ep ∙ sym eq))))
        (λ eq. name_of_lem r mr (λ er. absurd (pr (alone p r mp mr (ep ∙ sym er)))) (λ er. absurd (qr (alone q r mq mr (eq ∙ sym er))))))
        (λ ep. name_of_lem q mq
        (λ eq. name_of_lem r mr (λ er. absurd (qr (alone q r mq mr (eq ∙ sym er)))) (λ er. absurd (pr (alone p r mp mr (ep ∙ sym er)))))
        (λ eq. absurd (pq (alone p q mp mq (ep ∙ sym eq)))))

-- ---- of an accepted netlist
module _ (n : Netlist) (acc : Accepted n) where
  -- a clock pin has bit 0
  bit-one : (b : ℕ) → ((b <? 1) || false) ≡ true → b ≡ 0
  bit-one b t = or_cases (b <? 1) false t (λ y. omega (arith, ltb-true b 1 y)) (λ y. true≢false false y refl)

  flop_bit : (p : ℕ) → p < size n → kind_of n (cell_of n p) ≡ dff → name_of n p ≡ #CLK → bit_of n p ≡ 0
  flop_bit p h e nm =
      let sl = slot_of n acc.tables dff (λ e'. clash (cc)) p h e in
      by_test (is_out n p) (λ t. true≢false false (rw (t, nm) at sl) refl) (λ f. bit-one (bit_of n p) (rw (f, nm) at sl))

  read-bit : (p : ℕ) → p < size n → kind_of n (cell_of n p) ≡ ram → name_of n p ≡ #R_CLK → bit_of n p ≡ 0
  read-bit p h e nm =
      let sl = slot_of n acc.tables ram (λ e'. clash (cc)) p h e in
      by_test (is_out n p) (λ t. true≢false false (rw (t, nm) at sl) refl) (λ f. bit-one (bit_of n p) (rw (f, nm) at sl))

  write_bit_lem : (p : ℕ) → p < size n → kind_of n (cell_of n p) ≡ ram → name_of n p ≡ #W_CLK → bit_of n p ≡ 0
  write_bit_lem p h e nm =
      let sl = slot_of n acc.tables ram (λ e'. clash (cc)) p h e in
      by_test (is_out n p) (λ t. true≢false false (rw (t, nm) at sl) refl) (λ f. bit-one (bit_of n p) (rw (f, nm) at sl))

  -- a cell's list names no pin twice
  list_once : (c p : ℕ) (f : ℕ → Bool) → c < cells n → count p (keep f (pins_of n c)) ≤ 1
  list_once c p f l = by_test (0 <? count p (pins_of n c))
      (λ y. let a = in_cell n acc.tables c p l (ltb-true 0 (count p (pins_of n c)) y) in
      omega (arith, keep_le f p (pins_of n c), own_cell n acc.tables p a.0, ap (λ (x : ℕ). count p (pins_of n x)) a.1))
      (λ g. omega (arith, keep_le f p (pins_of n c), ltb-false 0 (count p (pins_of n c)) g))

  of_list : (c p : ℕ) (f : ℕ → Bool) → c < cells n → 0 < count p (keep f (pins_of n c)) → (p < size n) × (cell_of n p ≡ c)
  of_list c p f l m = in_cell n acc.tables c p l (omega (arith, m, keep_le f p (pins_of n c)))

  module _ (s : Ends) (c : ℕ) (l : c < cells n) where
    -- ---- a flip-flop
    module _ (k : kind_of n c ≡ dff) where
      clocks_are : clocks_of n c ≡ named n c #CLK
      clocks_are = ap (λ (x : Kind). keep (λ p. is_clock x (name_of n p)) (pins_of n c)) k

      alone : (p q : ℕ) → 0 < count p (named n c #CLK) → 0 < count q (named n c #CLK) → p ≡ q
      alone p q mp mq =
          let ap' = of_list c p (λ x. name_of n x == #CLK) l mp in let aq = of_list c q (λ x. name_of n x == #CLK) l mq in
          let np : name_of n p ≡ #CLK = eqb-true (name_of n p) #CLK (keep_true (λ x. name_of n x == #CLK) p (pins_of n c) mp) in
          let nq : name_of n q ≡ #CLK = eqb-true (name_of n q) #CLK (keep_true (λ x. name_of n x == #CLK) q (pins_of n c) mq) in
          let kp : kind_of n (cell_of n p) ≡ dff = subst (λ (x : ℕ). kind_of n x ≡ dff) (sym ap'.1) k in
          let kq : kind_of n (cell_of n q) ≡ dff = subst (λ (x : ℕ). kind_of n x ≡ dff) (sym aq.1) k in
          same_pin n acc.tables p q ap'.0 aq.0 (λ e. clash (cc)) (ap'.1 ∙ sym aq.1) (np ∙ sym nq) (flop_bit p ap'.0 kp np ∙ sym (flop_bit q aq.0 kq nq))

      traced : Clock n s (named n c #CLK)
      traced = clock_by n s (named n c #CLK) alone (λ p. list_once c p (λ x. name_of n x == #CLK) l)

      entry_is : entry_of (either_in n.pins #CLK #CLK (cell_pins n.starts n.list c)) 0 ≡ entry_of (named n c #CLK) 0
      entry_is = ap (λ (x : List ℕ). entry_of x 0) (either_same n.pins #CLK (cell_pins n.starts n.list c))

      abbrev t : Ends
      t = traces n s (named n c #CLK)

      drivers_are : t.drivers ≡ (flop_clock n s.drivers c).drivers
      drivers_are = traced.0 ∙ ap (λ (e : Option ℕ). (entry_traced n s.drivers e).drivers) (sym entry_is)

      lit_is : first_or 0 t.active (named n c #CLK) ≡ (flop_clock n s.drivers c).lit
      lit_is = traced.1 ∙ ap (λ (e : Option ℕ). (entry_traced n s.drivers e).lit) (sym entry_is)

      pub flop_law : end_cell n (lits n) s c ≡ flop_with n c (traces n s (clocks_of n c)).active s.nexts s.enables s.writes s.rams (flop_clock n s.drivers c).drivers (flop_clock n s.drivers c).lit
      flop_law =
          let r = trace_rest n (named n c #CLK) s in
          ap₂ (λ (x : Kind) (y : List ℕ). cell_ends n (lits n) (traces n s y) c x) k clocks_are
          ∙ ap₂ (λ (ds : List Driver) (al : ℕ). flop_with n c t.active t.nexts t.enables t.writes t.rams ds al) drivers_are lit_is
          ∙ ap₂ (λ (nx en : ℕ → ℕ). flop_with n c t.active nx en t.writes t.rams (flop_clock n s.drivers c).drivers (flop_clock n s.drivers c).lit) r.0 r.1
          ∙ ap₂ (λ (wr : ℕ → ℕ → ℕ) (rm : List ℕ). flop_with n c t.active s.nexts s.enables wr rm (flop_clock n s.drivers c).drivers (flop_clock n s.drivers c).lit) r.2 r.3
          ∙ ap (λ (y : List ℕ). flop_with n c (traces n s y).active s.nexts s.enables s.writes s.rams (flop_clock n s.drivers c).drivers (flop_clock n s.drivers c).lit) (sym clocks_are)

    -- ---- a RAM
    module _ (k : kind_of n c ≡ ram) where
      abbrev f : ℕ → Bool
      f p = (name_of n p == #R_CLK) || (name_of n p == #W_CLK)

      abbrev both : List ℕ
      both = keep f (pins_of n c)

      rams_are : clocks_of n c ≡ both
      rams_are = ap (λ (x : Kind). keep (λ p. is_clock x (name_of n p)) (pins_of n c)) k

      apart : (p q : ℕ) → 0 < count p both → 0 < count q both → name_of n p ≡ name_of n q → p ≡ q
      apart p q mp mq e =
          let ap' = of_list c p f l mp in let aq = of_list c q f l mq in
          let kp : kind_of n (cell_of n p) ≡ ram = subst (λ (x : ℕ). kind_of n x ≡ ram) (sym ap'.1) k in
          let kq : kind_of n (cell_of n q) ≡ ram = subst (λ (x : ℕ). kind_of n x ≡ ram) (sym aq.1) k in
          let zero_bit : (x : ℕ) → x < size n → kind_of n (cell_of n x) ≡ ram → f x ≡ true → bit_of n x ≡ 0 = λ x h kx t. or_cases (name_of n x == #R_CLK) (name_of n x == #W_CLK) t
          (λ y. read-bit x h kx (eqb-true (name_of n x) #R_CLK y)) (λ y. write_bit_lem x h kx (eqb-true (name_of n x) #W_CLK y)) in
          same_pin n acc.tables p q ap'.0 aq.0 (λ e'. clash (cc)) (ap'.1 ∙ sym aq.1) e
          (zero_bit p ap'.0 kp (keep_true f p (pins_of n c) mp) ∙ sym (zero_bit q aq.0 kq (keep_true f q (pins_of n c) mq)))

      ram_traced : Clocks n s both
      ram_traced = clocks_by n s both (λ p m. keep_true f p (pins_of n c) m) apart (λ p. list_once c p f l) both refl

      abbrev u : Ends
      u = traces n s both

      read_names : by_name n #R_CLK both ≡ named n c #R_CLK
      read_names = keep_twice (λ p. name_of n p == #R_CLK) f (λ x t. rw t) (pins_of n c)

      right_true : (a b : Bool) → b ≡ true → (a || b) ≡ true
      right_true true b t = refl
      right_true false b t = t

      write_names : by_name n #W_CLK both ≡ named n c #W_CLK
      write_names = keep_twice (λ p. name_of n p == #W_CLK) f (λ x t. right_true (name_of n x == #R_CLK) (name_of n x == #W_CLK) t) (pins_of n c)

      read_is : first_or 0 u.active (named n c #R_CLK) ≡ (ram_clocks n s.drivers c).first
      read_is = ap (first_or 0 u.active) (sym read_names) ∙ ram_traced.1

      write_is : first_or 0 u.active (named n c #W_CLK) ≡ (ram_clocks n s.drivers c).second
      write_is = ap (first_or 0 u.active) (sym write_names) ∙ ram_traced.2

      turned_drivers : (b : Bool) (x : Both) → (turned b x).drivers ≡ x.drivers
      turned_drivers true x = refl
      turned_drivers false x = refl

      u_drivers : u.drivers ≡ (ram_clocks n s.drivers c).drivers
      u_drivers = ram_traced.0 ∙ sym (turned_drivers (reads_first n.pins (entry_of both 0)) (clocks_made n s.drivers c))

      wrote : Wrote n c 32 (with_ram u c) (ram_ends n (lits n) u c)
      wrote = wrote_all n c (with_ram u c) 32

      enables-same : (i : ℕ) → i < 32 → enable n c i ≡ enable_of n c i
      enables-same i b = let e : 59 + i - 59 ≡ i = omega arith in
          word_enable n c (59 + i) (λ z. absurd (omega (arith, z))) (omega arith) (omega arith) (omega arith) (omega (arith, b)) (enable n c i) (ap (λ (x : ℕ). bit_lit n c #W_EN x) (sym e))

      made_is : (i : ℕ) → i ≤ 32 → bits_made u.drivers (first_or 0 u.active (named n c #W_CLK)) (enable n c) i ≡ ram_made n s.drivers c i
      made_is i b = ap₂ (λ (ds : List Driver) (x : ℕ). bits_made ds x (enable n c) i) u_drivers write_is
          ∙ bits_same (ram_clocks n s.drivers c).drivers (ram_clocks n s.drivers c).second (enable n c) (enable_of n c) i (λ j d. enables-same j (omega (arith, b, d)))

      end_is : end_cell n (lits n) s c ≡ ram_ends n (lits n) u c
      end_is = ap₂ (λ (x : Kind) (y : List ℕ). cell_ends n (lits n) (traces n s y) c x) k rams_are

      pub ram_drivers : (end_cell n (lits n) s c).drivers ≡ (ram_made n s.drivers c 32).drivers
      ram_drivers = ap (λ (e : Ends). e.drivers) end_is ∙ wrote.drivers ∙ ap (λ (m : Made). m.drivers) (made_is 32 (omega arith))

      pub ram_rams : (end_cell n (lits n) s c).rams ≡ insert s.rams c
      ram_rams = ap (λ (e : Ends). e.rams) end_is ∙ wrote.rams ∙ ap (λ (x : List ℕ). insert x c) (trace_rest n both s).3

      pub ram_writes : (i : ℕ) → i < 32 → (end_cell n (lits n) s c).writes c i ≡ (ram_made n s.drivers c (suc i)).lit
      ram_writes i b = ap (λ (e : Ends). e.writes c i) end_is ∙ wrote.own i b ∙ ap (λ (m : Made). m.lit) (made_is (suc i) (omega (arith, b)))

      pub ram_read_lem : first_or 0 (end_cell n (lits n) s c).active (named n c #R_CLK) ≡ (ram_clocks n s.drivers c).first
      ram_read_lem = ap (λ (e : Ends). first_or 0 e.active (named n c #R_CLK)) end_is ∙ ap (λ (g : ℕ → ℕ). first_or 0 g (named n c #R_CLK)) wrote.active ∙ read_is

    -- ---- any other cell
    plain_is : (k : Kind) → kind_of n c ≡ k → (k ≡ dff → ⊥) → (k ≡ ram → ⊥) → end_cell n (lits n) s c ≡ s
    plain_is k e nd nr = ap₂ (λ (x : Kind) (y : List ℕ). cell_ends n (lits n) (traces n s y) c x) e (no_clocks_of k e nd nr) ∙ idle k nd nr
      where
        none : (x : Kind) → (x ≡ dff → ⊥) → (x ≡ ram → ⊥) → (ps : List ℕ) → keep (λ p. is_clock x (name_of n p)) ps ≡ []
        none x a b [] = refl
        none top a b (p ∷ ps) = none top a b ps
        none (and2 x y z) a b (p ∷ ps) = none (and2 x y z) a b ps
        none inv a b (p ∷ ps) = none inv a b ps
        none buf a b (p ∷ ps) = none buf a b ps
        none dff a b (p ∷ ps) = absurd (a refl)
        none clock_gate a b (p ∷ ps) = none clock_gate a b ps
        none ram a b (p ∷ ps) = absurd (b refl)
        none unfit a b (p ∷ ps) = none unfit a b ps

        no_clocks_of : (x : Kind) → kind_of n c ≡ x → (x ≡ dff → ⊥) → (x ≡ ram → ⊥) → clocks_of n c ≡ []
        no_clocks_of x e' a b = ap (λ (y : Kind). keep (λ p. is_clock y (name_of n p)) (pins_of n c)) e' ∙ none x a b (pins_of n c)

        idle : (x : Kind) → (x ≡ dff → ⊥) → (x ≡ ram → ⊥) → cell_ends n (lits n) s c x ≡ s
        idle top a b = refl
        idle (and2 x y z) a b = refl
        idle inv a b = refl
        idle buf a b = refl
        idle dff a b = absurd (a refl)
        idle clock_gate a b = refl
        idle ram a b = absurd (b refl)
        idle unfit a b = refl

    pub plain_law : (kind_of n c ≡ dff → ⊥) → (kind_of n c ≡ ram → ⊥) → end_cell n (lits n) s c ≡ s
    plain_law nd nr = plain_is (kind_of n c) refl nd nr
