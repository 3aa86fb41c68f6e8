-- Step 3, the bits: each record's literals have the bits that the record rules give, with the activity that the clock rules give.
use mathlib.Core.Path.{◌≡◌, refl, sym, ◌∙◌, ap, ap₂, subst}
use mathlib.Core.Bool.{Bool, true, false, not, ◌&&◌, ◌||◌}
use mathlib.Core.List.{List, [], ◌∷◌}
use Prim.Native.Nat.{ℕ, ◌+◌, ◌≤◌, ◌<◌}
use native.Mathlib.Omega.{arith}
use Rattle.std.specs.Prelude.{◌==◌}
use Rattle.laws.specs.Lists.{count, flat, over, upto, first_or, put}
use Rattle.laws.proofs.Tests.{one_eq}
use Rattle.laws.proofs.Bags.{count-append, at_head, here, there, in_flat, first_through, put_other, put_by}
use Rattle.laws.proofs.Folds.{behind, count_behind, over_done}
use Rattle.laws.proofs.Ranges.{upto_in, in_upto, upto-once}
use Rattle.rules.specs.declared.Edge.TheVariants.{Rising}
use Rattle.rules.specs.Netlist.{Netlist, cells, size, name_of, bit_of, kind_of, Kind, top, and2, inv, buf, dff, clock_gate, ram, unfit, named, named_bit, #D, #CLK, #S, #R, #R_CLK, #W_CLK, #W_EN}
use Rattle.rules.specs.Cells.{Env, Logic, Active, ActiveFirst, ClockActive, bit_named, bit_at, next_bit, enable_bit, write_bit}
use Rattle.rules.specs.Graph.{Made, and_of}
use Rattle.rules.specs.Build.{walk, clocks_of, Ends, trace, trace_clock, flop_ends, write_end, ram_ends, cell_ends, end_cell, start3, step2, step3}
use Rattle.rules.specs.Refusals.{must_be_logic, Accepted}
use Rattle.rules.proofs.Tables.{clash, in_keep}
use Rattle.builds.proofs.Literals.{lit_of, one_bit}
use Rattle.builds.proofs.Agreeing.{Agrees, agrees_keeps, agrees_zero}
use Rattle.builds.proofs.Ands.{and_keeps, and_bit, or_bit}
use Rattle.builds.proofs.Logics.{clock_in, named_logic, bit_logic}
use Rattle.builds.proofs.Cells.{Obeys}
use Rattle.builds.proofs.Walks.{trace_grows, traced_bit}
use Rattle.builds.proofs.Leaving.{Reads}
use Rattle.builds.proofs.Steps.{step2-right}
use Rattle.builds.proofs.Ends.{base, lits, Holding, IsTraced, clock_pin, trace_holds, flop_holds, write_holds, with_ram, with_holds, start3_holds, step3_holds, g1, g2, g3, g4, sl, rl, dl, al, n1, e1, n2, e2}

module _ (n : Netlist) (acc : Accepted n) (env : Env) (v β : ℕ → Bool) (obey : Obeys n env v) (rd : Reads env β (step2 n)) where
  -- a clock pin's literal has its activity
  abbrev ActOk : Ends → ℕ → Type 0
  ActOk s p = (x : Bool) × Active n env v p Rising x × (lit_of β (s.active p) ≡ x)

  -- the bits of a flip-flop's S, R and D
  abbrev Sb : ℕ → Bool
  Sb c = bit_named n v true c #S

  abbrev Rb : ℕ → Bool
  Rb c = bit_named n v true c #R

  abbrev Db : ℕ → Bool
  Db c = bit_named n v false c #D

  -- next and enable are right
  abbrev FlopOk : Ends → ℕ → Type 0
  FlopOk s c = (lit_of β (s.nexts c) ≡ next_bit n v c) × ((x : Bool) × ClockActive n env v c #CLK x × (lit_of β (s.enables c) ≡ enable_bit n v c x))

  -- the write enables are right
  abbrev WriteOk : Ends → ℕ → Bool → ℕ → Type 0
  WriteOk s c x i = lit_of β (s.writes c i) ≡ write_bit n v c x i

  abbrev RamOk : Ends → ℕ → Type 0
  RamOk s c = (x : Bool) × ClockActive n env v c #W_CLK x × ((i : ℕ) → i < 32 → WriteOk s c x i)

  -- done: the cells done; ps: the clock pins traced
  pub record Bits (done ps : List ℕ) (s : Ends) : Type 0 where
    pub acts : (p : ℕ) → 0 < count p ps → ActOk s p
    pub flops : (c : ℕ) → 0 < count c done → kind_of n c ≡ dff → FlopOk s c
    pub rams : (c : ℕ) → 0 < count c done → kind_of n c ≡ ram → RamOk s c

  -- where the graph's bits agree with the drivers so far
  abbrev Held : List ℕ → List ℕ → Ends → Type 0
  Held done ps s = Holding n acc s × (Agrees env β s.drivers → Bits done ps s)

  -- ---- the literals of step 2, seen from a later table
  module _ (s : Ends) (i : Holding n acc s) (ag : Agrees env β s.drivers) where
    ag_base : Agrees env β (base n)
    ag_base = agrees_keeps env β i.grows.keeps ag

    tie : β 0 ≡ false
    tie = agrees_zero env β s.drivers i.sound ag

    lit_right : (q : ℕ) → q < size n → Logic n q → lit_of β (lits n q) ≡ v q
    lit_right q h l = step2-right n acc env v β obey ag_base rd q h l

    named-right : (c m d : ℕ) (b : Bool) (k : Kind) → kind_of n c ≡ k → c < cells n → must_be_logic k m ≡ true → lit_of β d ≡ b → lit_of β (first_or d (lits n) (named n c m)) ≡ bit_named n v b c m
    named-right c m d b k e h l z = first_through (lit_of β) d b (lits n) v (named n c m) z
        (λ q w. lit_right q (in_keep n acc.tables (λ p. name_of n p == m) c q h w) (named_logic n acc c m q k e h l w))

    pub bit-right : (c m j : ℕ) (k : Kind) → kind_of n c ≡ k → c < cells n → must_be_logic k m ≡ true → lit_of β (first_or 0 (lits n) (named_bit n c m j)) ≡ bit_at n v c m j
    bit-right c m j k e h l = first_through (lit_of β) 0 false (lits n) v (named_bit n c m j) tie
        (λ q w. lit_right q (in_keep n acc.tables (λ p. (name_of n p == m) && (bit_of n p == j)) c q h w) (bit_logic n acc c m j q k e h l w))

    -- the clock of a cell, by name
    pub clock_first : (l : List ℕ) → ((q : ℕ) → 0 < count q l → ActOk s q) → (x : Bool) × ActiveFirst n env v l x × (lit_of β (first_or 0 s.active l) ≡ x)
    clock_first [] h = (false, refl, tie)
    clock_first (q ∷ l) h = h q (here q l)

  -- ---- a clock is traced
  trace-held : (done ps : List ℕ) (s : Ends) (p : ℕ) → IsTraced n acc p → Held done ps s → Held done (p ∷ ps) (trace_clock n (lits n) s p)
  trace-held done ps s p k h = (
    trace_holds n acc s p k h.0,
    λ ag.
        let i : Holding n acc (trace_clock n (lits n) s p) = trace_holds n acc s p k h.0 in
        let b = h.1 (agrees_keeps env β (trace_grows (lits n) s.drivers (walk n p)).keeps ag) in
        let t = traced_bit n acc env v β (lits n) (tie (trace_clock n (lits n) s p) i ag) (lit_right (trace_clock n (lits n) s p) i ag) p k.0 k.1 in
        record {
          acts = λ q m. put_by (λ q' l. (x : Bool) × Active n env v q' Rising x × (lit_of β l ≡ x)) s.active p (trace s.drivers (lits n) (walk n p)).lit q
              (λ e. rw e (t.0, t.1, t.2 s.drivers ag))
              (λ ne. at_head q p ps m (λ e. absurd (ne e)) (λ m'. b.acts q m'));
          flops = b.flops;
          rams = b.rams;
        },
  )

  -- ---- a flip-flop's record
  flop_held : (done ps : List ℕ) (s : Ends) (c : ℕ) → c < cells n → kind_of n c ≡ dff → ((q : ℕ) → 0 < count q (clocks_of n c) → 0 < count q ps) → Held done ps s → Held (c ∷ done) ps (flop_ends n (lits n) s c)
  flop_held done ps s c hc e tr h = (
    i4,
    λ ag4.
        let G3 = g3 n acc s c i hc e in let G4 = g4 n acc s c i hc e in
        let ag3 : Agrees env β N2.drivers = agrees_keeps env β G4.keeps ag4 in
        let ag2 : Agrees env β E1.drivers = agrees_keeps env β G3.keeps ag3 in
        let ag1 : Agrees env β N1.drivers = agrees_keeps env β (g2 n acc s c i hc e).keeps ag2 in
        let ag0 : Agrees env β s.drivers = agrees_keeps env β (g1 n acc s c i hc e).keeps ag1 in
        let b = h.1 ag0 in
        let z : β 0 ≡ false = tie s i ag0 in
        let one : lit_of β 1 ≡ true = one_bit β z in
        let s-bit : lit_of β SL ≡ Sb c = named-right s i ag0 c #S 1 true dff e hc refl one in
        let r-bit : lit_of β RL ≡ Rb c = named-right s i ag0 c #R 1 true dff e hc refl one in
        let d-bit : lit_of β DL ≡ Db c = named-right s i ag0 c #D 0 false dff e hc refl z in
        let ck = clock_first s i ag0 (named n c #CLK) (λ q m. b.acts q (tr q (clock_in n c #CLK q dff e refl m))) in
        let n1-bit : lit_of β N1.lit ≡ (Db c || not (Sb c)) = or_bit s.drivers DL SL env β z ag1 ∙ ap₂ (λ (j k : Bool). j || not k) d-bit s-bit in
        let e1-bit : lit_of β E1.lit ≡ (ck.0 || not (Sb c)) = or_bit N1.drivers AL SL env β z ag2 ∙ ap₂ (λ (j k : Bool). j || not k) ck.2 s-bit in
        let n2-bit : lit_of β N2.lit ≡ ((Db c || not (Sb c)) && Rb c) = and_bit E1.drivers N1.lit RL env β z ag3 ∙ ap₂ (λ (j k : Bool). j && k) n1-bit r-bit in
        let e2-bit : lit_of β E2.lit ≡ ((ck.0 || not (Sb c)) || not (Rb c)) = or_bit N2.drivers E1.lit RL env β z ag4 ∙ ap₂ (λ (j k : Bool). j || not k) e1-bit r-bit in
        record {
          acts = b.acts;
          flops = λ c' m e'. (
            put_by (λ k l. 0 < count k (c ∷ done) → kind_of n k ≡ dff → lit_of β l ≡ next_bit n v k) s.nexts c N2.lit c'
                (λ ec w w'. rw ec n2-bit) (λ ne w w'. at_head c' c done w (λ ec. absurd (ne ec)) (λ m'. (b.flops c' m' e').0)) m e',
            put_by (λ k l. 0 < count k (c ∷ done) → kind_of n k ≡ dff → (x : Bool) × ClockActive n env v k #CLK x × (lit_of β l ≡ enable_bit n v k x)) s.enables c E2.lit c'
                (λ ec w w'. subst (λ (k : ℕ). (x : Bool) × ClockActive n env v k #CLK x × (lit_of β E2.lit ≡ enable_bit n v k x)) (sym ec) (ck.0, ck.1, e2-bit))
                (λ ne w w'. at_head c' c done w (λ ec. absurd (ne ec)) (λ m'. (b.flops c' m' e').1)) m e',
          );
          rams = λ c' m e'. at_head c' c done m (λ ec. (let ed : kind_of n c' ≡ dff = rw ec e in clash (cc))) (λ m'. b.rams c' m' e');
        },
  )
    where
      i : Holding n acc s
      i = h.0

      i4 : Holding n acc (flop_ends n (lits n) s c)
      i4 = flop_holds n acc s c i hc e

      SL : ℕ
      SL = sl n acc s c i hc e

      RL : ℕ
      RL = rl n acc s c i hc e

      DL : ℕ
      DL = dl n acc s c i hc e

      AL : ℕ
      AL = al n acc s c i hc e

      N1 : Made
      N1 = n1 n acc s c i hc e

      E1 : Made
      E1 = e1 n acc s c i hc e

      N2 : Made
      N2 = n2 n acc s c i hc e

      E2 : Made
      E2 = e2 n acc s c i hc e

  -- ---- a RAM's write enables
  module _ (ps done : List ℕ) (c : ℕ) (hc : c < cells n) (e : kind_of n c ≡ ram) (tr : (q : ℕ) → 0 < count q (clocks_of n c) → 0 < count q ps) where
    -- bits: the bits done
    abbrev SoFar : List ℕ → Ends → Type 0
    SoFar bits s = Holding n acc s × (Agrees env β s.drivers → Bits done ps s × ((x : Bool) → ClockActive n env v c #W_CLK x → lit_of β (first_or 0 s.active (named n c #W_CLK)) ≡ x → (j : ℕ) → 0 < count j bits → WriteOk s c x j))

    write_held : (not_done : count c done ≡ 0) (bits : List ℕ) (s : Ends) (j : ℕ) → SoFar bits s → SoFar (j ∷ bits) (write_end n (lits n) c s j)
    write_held not_done bits s j h = (
      write_holds n acc c hc e s j h.0,
      λ ag.
          let ag0 : Agrees env β s.drivers = agrees_keeps env β (and_keeps s.drivers (first_or 0 (lits n) (named_bit n c #W_EN j)) (first_or 0 s.active (named n c #W_CLK))) ag in
          let b = h.1 ag0 in (
            record { acts = b.0.acts; flops = b.0.flops; rams = λ c' m e'. (let a = b.0.rams c' m e' in (a.0, a.1, λ k hk. rw (put_other s.writes c (put (s.writes c) j _) c' (another c' m)) (a.2 k hk))) },
            λ x ca ab k m. put_by (λ c'' (f : ℕ → ℕ). c'' ≡ c → lit_of β (f k) ≡ (bit_at n v c'' #W_EN k && x)) s.writes c (put (s.writes c) j (and_of s.drivers (first_or 0 (lits n) (named_bit n c #W_EN j)) (first_or 0 s.active (named n c #W_CLK))).lit) c
                (λ ec _. put_by (λ k' l. k' ≡ k → lit_of β l ≡ (bit_at n v c #W_EN k' && x)) (s.writes c) j (and_of s.drivers (first_or 0 (lits n) (named_bit n c #W_EN j)) (first_or 0 s.active (named n c #W_CLK))).lit k
                (λ ek _. rw ek (and_bit s.drivers (first_or 0 (lits n) (named_bit n c #W_EN j)) (first_or 0 s.active (named n c #W_CLK)) env β (tie s h.0 ag0) ag
                ∙ ap₂ (λ (y z : Bool). y && z) (bit-right s h.0 ag0 c #W_EN j ram e hc refl) ab))
                (λ ne _. at_head k j bits m (λ ek. absurd (ne ek)) (λ m'. b.1 x ca ab k m')) refl)
                (λ ne. absurd (ne refl)) refl,
          ),
    )
      where
        another : (c' : ℕ) → 0 < count c' done → c' ≡ c → ⊥
        another c' m ec = omega (arith, m, not_done, ap (λ (k : ℕ). count k done) ec)

    ram_held : count c done ≡ 0 → (s : Ends) → Held done ps s → Held (c ∷ done) ps (ram_ends n (lits n) s c)
    ram_held not_done s h =
        let w : SoFar (behind [] (upto 32)) (ram_ends n (lits n) s c) = over_done SoFar (λ j. Unit {0}) (write_end n (lits n) c) (λ bits t j q k. write_held not_done bits t j k) (upto 32) [] (with_ram s c) (λ j m. tt)
        (with_holds n acc s c hc e h.0, λ ag. (record { acts = (h.1 ag).acts; flops = (h.1 ag).flops; rams = (h.1 ag).rams }, λ x ca ab j m. absurd (omega arith))) in (
          w.0,
          λ ag. (let b = w.1 ag in let t : Ends = ram_ends n (lits n) s c in
              let ck = clock_first t w.0 ag (named n c #W_CLK) (λ q m. b.0.acts q (tr q (clock_in n c #W_CLK q ram e refl m))) in
              record {
                acts = b.0.acts;
                flops = λ c' m e'. at_head c' c done m (λ ec. (let er : kind_of n c' ≡ ram = rw ec e in clash (cc))) (λ m'. b.0.flops c' m' e');
                rams = λ c' m e'. at_head c' c done m
                    (λ ec. subst (λ (k : ℕ). (x : Bool) × ClockActive n env v k #W_CLK x × ((j : ℕ) → j < 32 → WriteOk t k x j)) (sym ec)
                    (ck.0, ck.1, λ j hj. b.1 ck.0 ck.1 ck.2 j (omega (arith, count_behind (upto 32) [] j, upto_in 32 j hj))))
                    (λ m'. b.0.rams c' m' e');
              }),
        )

  -- ---- a cell
  plain-held : (done ps : List ℕ) (s : Ends) (c : ℕ) (k : Kind) → kind_of n c ≡ k → (k ≡ dff → ⊥) → (k ≡ ram → ⊥) → Held done ps s → Held (c ∷ done) ps s
  plain-held done ps s c k e nd nr h = (
    h.0,
    λ ag. (let b = h.1 ag in record {
      acts = b.acts;
      flops = λ c' m e'. at_head c' c done m (λ ec. absurd (nd (sym e ∙ ap (kind_of n) (sym ec) ∙ e'))) (λ m'. b.flops c' m' e');
      rams = λ c' m e'. at_head c' c done m (λ ec. absurd (nr (sym e ∙ ap (kind_of n) (sym ec) ∙ e'))) (λ m'. b.rams c' m' e');
    }),
  )

  cell_held : (done ps : List ℕ) (s : Ends) (c : ℕ) → c < cells n → count c done ≡ 0 → ((q : ℕ) → 0 < count q (clocks_of n c) → 0 < count q ps) → (k : Kind) → kind_of n c ≡ k → Held done ps s
      → Held (c ∷ done) ps (cell_ends n (lits n) s c k)
  cell_held done ps s c hc nd tr top e h = plain-held done ps s c top e (λ e'. clash (cc)) (λ e'. clash (cc)) h
  cell_held done ps s c hc nd tr (and2 x y z) e h = plain-held done ps s c (and2 x y z) e (λ e'. clash (cc)) (λ e'. clash (cc)) h
  cell_held done ps s c hc nd tr inv e h = plain-held done ps s c inv e (λ e'. clash (cc)) (λ e'. clash (cc)) h
  cell_held done ps s c hc nd tr buf e h = plain-held done ps s c buf e (λ e'. clash (cc)) (λ e'. clash (cc)) h
  cell_held done ps s c hc nd tr dff e h = flop_held done ps s c hc e tr h
  cell_held done ps s c hc nd tr clock_gate e h = plain-held done ps s c clock_gate e (λ e'. clash (cc)) (λ e'. clash (cc)) h
  cell_held done ps s c hc nd tr ram e h = ram_held ps done c hc e tr nd s h
  cell_held done ps s c hc nd tr unfit e h = plain-held done ps s c unfit e (λ e'. clash (cc)) (λ e'. clash (cc)) h

  -- the clock pins of cells
  abbrev Traced : List ℕ → List ℕ
  Traced done = flat (clocks_of n) done

  more_traced : (done ps qs : List ℕ) (s : Ends) → ((p : ℕ) → 0 < count p qs → 0 < count p ps) → Held done ps s → Held done qs s
  more_traced done ps qs s f h = (h.0, λ ag. (let b = h.1 ag in record { acts = λ p m. b.acts p (f p m); flops = b.flops; rams = b.rams }))

  end_held : (done : List ℕ) (s : Ends) (c : ℕ) → c < cells n → count c done ≡ 0 → Held done (Traced done) s → Held (c ∷ done) (Traced (c ∷ done)) (end_cell n (lits n) s c)
  end_held done s c hc nd h =
      let t : Ends = over (trace_clock n (lits n)) s (clocks_of n c) in
      let w : Held done (behind (Traced done) (clocks_of n c)) t = over_done (λ ps. Held done ps) (IsTraced n acc) (trace_clock n (lits n)) (λ ps t' p q k. trace-held done ps t' p q k) (clocks_of n c) (Traced done) s (λ p m. clock_pin n acc c p hc m) h in
      let w' : Held done (Traced (c ∷ done)) t = more_traced done (behind (Traced done) (clocks_of n c)) (Traced (c ∷ done)) t (λ p m. omega (arith, m, count_behind (clocks_of n c) (Traced done) p, count-append p (clocks_of n c) (Traced done))) w in
      cell_held done (Traced (c ∷ done)) t c hc nd (λ q m. omega (arith, m, count-append q (clocks_of n c) (Traced done))) (kind_of n c) refl w'

  ends_held : (us done : List ℕ) (s : Ends) → ((c : ℕ) → 0 < count c us → c < cells n) → ((c : ℕ) → count c done + count c us ≤ 1) → Held done (Traced done) s
      → Held (behind done us) (Traced (behind done us)) (over (end_cell n (lits n)) s us)
  ends_held [] done s q o h = h
  ends_held (c ∷ us) done s q o h = ends_held us (c ∷ done) (end_cell n (lits n) s c) (λ k m. q k (there k c us m)) (λ k. omega (arith, o k))
      (end_held done s c (q c (here c us)) (omega (arith, o c, one_eq c c refl)) h)

  all_held : Held (behind [] (upto (cells n))) (Traced (behind [] (upto (cells n)))) (step3 n)
  unfolding step3
  all_held = ends_held (upto (cells n)) [] (start3 (step2 n)) (λ c m. in_upto (cells n) c m) (λ c. omega (arith, upto-once (cells n) c))
      (start3_holds n acc, λ ag. record { acts = λ p m. absurd (omega arith); flops = λ c m. absurd (omega arith); rams = λ c m. absurd (omega arith) })

  cell_done : (c : ℕ) → c < cells n → 0 < count c (behind [] (upto (cells n)))
  cell_done c h = omega (arith, count_behind (upto (cells n)) [] c, upto_in (cells n) c h)

  -- ---- what step 3 gives
  module _ (ag : Agrees env β (step3 n).drivers) where
    pub flop_right : (c : ℕ) → c < cells n → kind_of n c ≡ dff → FlopOk (step3 n) c
    flop_right c h e = (all_held.1 ag).flops c (cell_done c h) e

    pub write_right : (c : ℕ) → c < cells n → kind_of n c ≡ ram → RamOk (step3 n) c
    write_right c h e = (all_held.1 ag).rams c (cell_done c h) e

    pub act-right : (c p : ℕ) → c < cells n → 0 < count p (clocks_of n c) → ActOk (step3 n) p
    act-right c p h m = (all_held.1 ag).acts p (in_flat (clocks_of n) c p (behind [] (upto (cells n))) (cell_done c h) m)

    pub read_right : (c : ℕ) → c < cells n → kind_of n c ≡ ram → (x : Bool) × ClockActive n env v c #R_CLK x × (lit_of β (first_or 0 (step3 n).active (named n c #R_CLK)) ≡ x)
    read_right c h e = clock_first (step3 n) (step3_holds n acc) ag (named n c #R_CLK) (λ q m. act-right c q h (clock_in n c #R_CLK q ram e refl m))

    pub final-right : (c m j : ℕ) (k : Kind) → kind_of n c ≡ k → c < cells n → must_be_logic k m ≡ true → lit_of β (first_or 0 (lits n) (named_bit n c m j)) ≡ bit_at n v c m j
    final-right c m j k e h l = bit-right (step3 n) (step3_holds n acc) ag c m j k e h l

    pub final_lit : (p : ℕ) → p < size n → Logic n p → lit_of β ((step2 n).lits p) ≡ v p
    final_lit p h l = lit_right (step3 n) (step3_holds n acc) ag p h l
