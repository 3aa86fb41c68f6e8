-- Step 3, cell by cell: what holds of what is made, whatever the bits.
use mathlib.Core.Path.{◌≡◌, refl}
use mathlib.Core.Bool.{true, ◌&&◌}
use mathlib.Core.List.{List}
use Prim.Native.Nat.{ℕ, ◌≤◌, ◌<◌}
use native.Mathlib.Omega.{arith}
use lib.ListN.{length}
use Rattle.std.specs.Prelude.{◌==◌}
use Rattle.laws.specs.Lists.{count, over, upto, first_or, put}
use Rattle.laws.specs.Sets.{insert}
use Rattle.laws.proofs.Bags.{first_all, put_all}
use Rattle.laws.proofs.Sets.{insert_le, insert-once, insert_cases}
use Rattle.laws.proofs.Folds.{walk_inv}
use Rattle.laws.proofs.Ranges.{in_upto}
use Rattle.rules.specs.declared.Driver.{Driver}
use Rattle.rules.specs.Netlist.{Netlist, cells, size, name_of, bit_of, kind_of, Kind, top, and2, inv, buf, dff, clock_gate, ram, unfit, named, named_bit, #D, #CLK, #S, #R, #W_CLK, #W_EN}
use Rattle.rules.specs.Cells.{Logic}
use Rattle.rules.specs.Graph.{pin_of, opposite, Made, and_of, or_not}
use Rattle.rules.specs.Build.{walk, is_clock, clocks_of, Ends, trace, trace_clock, flop_ends, write_end, ram_ends, cell_ends, end_cell, start3, step2, step3}
use Rattle.rules.specs.Refusals.{walk_number, must_be_logic, Accepted}
use Rattle.rules.proofs.Tables.{in_keep}
use Rattle.builds.proofs.Growing.{Grows, grows_refl, grows_trans}
use Rattle.builds.proofs.Sound.{Sound}
use Rattle.builds.proofs.Ands.{and_grows, and_fits, and_sound, or_fits, or_sound}
use Rattle.builds.proofs.Logics.{named_logic, bit_logic}
use Rattle.builds.proofs.Walks.{walk_found, trace_grows, traced}
use Rattle.builds.proofs.Steps.{step2_behind, all_left}

-- the drivers and literals that step 3 begins with
abbrev pub base : Netlist → List Driver
base n = (step2 n).drivers

abbrev pub lits : Netlist → ℕ → ℕ
lits n = (step2 n).lits

-- a RAM's record, where there is none yet
abbrev pub with_ram : Ends → ℕ → Ends
with_ram s c = record { drivers = s.drivers; active = s.active; nexts = s.nexts; enables = s.enables; writes = s.writes; rams = insert s.rams c }

module _ (n : Netlist) (acc : Accepted n) where
  pub lit_fits : (q : ℕ) → q < size n → Logic n q → pin_of (lits n q) < length (base n)
  lit_fits q h l = (step2_behind n acc).fits q (all_left n acc q h) l

  pub base_start : 0 < length (base n)
  base_start = (step2_behind n acc).sound.start

  pub named_fits : (c m d : ℕ) (k : Kind) → kind_of n c ≡ k → c < cells n → must_be_logic k m ≡ true → pin_of d ≡ 0 → pin_of (first_or d (lits n) (named n c m)) < length (base n)
  named_fits c m d k e h l z = first_all (λ x. pin_of x < length (base n)) d (lits n) (named n c m) (omega (arith, base_start))
      (λ q w. lit_fits q (in_keep n acc.tables (λ p. name_of n p == m) c q h w) (named_logic n acc c m q k e h l w))

  pub bit_fits : (c m b d : ℕ) (k : Kind) → kind_of n c ≡ k → c < cells n → must_be_logic k m ≡ true → pin_of d ≡ 0 → pin_of (first_or d (lits n) (named_bit n c m b)) < length (base n)
  bit_fits c m b d k e h l z = first_all (λ x. pin_of x < length (base n)) d (lits n) (named_bit n c m b) (omega (arith, base_start))
      (λ q w. lit_fits q (in_keep n acc.tables (λ p. (name_of n p == m) && (bit_of n p == b)) c q h w) (bit_logic n acc c m b q k e h l w))

  -- ---- what is made, whatever the bits
  pub record Holding (s : Ends) : Type 0 where
    pub sound : Sound s.drivers
    pub grows : Grows (base n) s.drivers
    pub active_fits : (p : ℕ) → pin_of (s.active p) < length s.drivers
    pub next_fits : (c : ℕ) → pin_of (s.nexts c) < length s.drivers
    pub enable_fits : (c : ℕ) → pin_of (s.enables c) < length s.drivers
    pub write_fits : (c i : ℕ) → pin_of (s.writes c i) < length s.drivers
    pub ram_kept : (c : ℕ) → 0 < count c (step2 n).rams → 0 < count c s.rams
    pub ram_only : (c : ℕ) → 0 < count c s.rams → (c < cells n) × (kind_of n c ≡ ram)
    pub ram_once : (c : ℕ) → count c s.rams ≤ 1

  abbrev pub IsTraced : ℕ → Type 0
  IsTraced p = (p < size n) × (walk_number (walk n p) ≡ 0)

  pub clock_pin : (c p : ℕ) → c < cells n → 0 < count p (clocks_of n c) → IsTraced p
  clock_pin c p h m = (in_keep n acc.tables (λ q. is_clock (kind_of n c) (name_of n q)) c p h m, walk_found n acc c p h m)

  pub trace_holds : (s : Ends) (p : ℕ) → IsTraced p → Holding s → Holding (trace_clock n (lits n) s p)
  trace_holds s p k i =
      let m : Made = trace s.drivers (lits n) (walk n p) in
      let g : Grows s.drivers m.drivers = trace_grows (lits n) s.drivers (walk n p) in
      let t = traced n acc (lits n) (length (base n)) s.drivers lit_fits p k.0 k.1 i.sound i.grows.keeps.longer in
      record {
        sound = t.0;
        grows = grows_trans i.grows g;
        active_fits = put_all (λ x. pin_of x < length m.drivers) s.active p m.lit t.1 (λ q. omega (arith, i.active_fits q, g.keeps.longer));
        next_fits = λ c. omega (arith, i.next_fits c, g.keeps.longer);
        enable_fits = λ c. omega (arith, i.enable_fits c, g.keeps.longer);
        write_fits = λ c b. omega (arith, i.write_fits c b, g.keeps.longer);
        ram_kept = i.ram_kept;
        ram_only = i.ram_only;
        ram_once = i.ram_once;
      }

  -- ---- a flip-flop
  module _ (s : Ends) (c : ℕ) (i : Holding s) (hc : c < cells n) (e : kind_of n c ≡ dff) where
    abbrev pub sl : ℕ
    sl = first_or 1 (lits n) (named n c #S)

    abbrev pub rl : ℕ
    rl = first_or 1 (lits n) (named n c #R)

    abbrev pub dl : ℕ
    dl = first_or 0 (lits n) (named n c #D)

    abbrev pub al : ℕ
    al = first_or 0 s.active (named n c #CLK)

    abbrev pub n1 : Made
    n1 = or_not s.drivers dl sl

    abbrev pub e1 : Made
    e1 = or_not n1.drivers al sl

    abbrev pub n2 : Made
    n2 = and_of e1.drivers n1.lit rl

    abbrev pub e2 : Made
    e2 = or_not n2.drivers e1.lit rl

    pub g1 : Grows s.drivers n1.drivers
    g1 = and_grows s.drivers (opposite dl) sl

    pub g2 : Grows n1.drivers e1.drivers
    g2 = and_grows n1.drivers (opposite al) sl

    pub g3 : Grows e1.drivers n2.drivers
    g3 = and_grows e1.drivers n1.lit rl

    pub g4 : Grows n2.drivers e2.drivers
    g4 = and_grows n2.drivers (opposite e1.lit) rl

    pub g_all : Grows s.drivers e2.drivers
    g_all = grows_trans g1 (grows_trans g2 (grows_trans g3 g4))

    lengths : (length (base n) ≤ length s.drivers) × (length s.drivers ≤ length n1.drivers) × (length n1.drivers ≤ length e1.drivers) × (length e1.drivers ≤ length n2.drivers) × (length n2.drivers ≤ length e2.drivers)
    lengths = (i.grows.keeps.longer, g1.keeps.longer, g2.keeps.longer, g3.keeps.longer, g4.keeps.longer)

    sf : pin_of sl < length (base n)
    sf = named_fits c #S 1 dff e hc refl refl

    rf : pin_of rl < length (base n)
    rf = named_fits c #R 1 dff e hc refl refl

    df : pin_of dl < length (base n)
    df = named_fits c #D 0 dff e hc refl refl

    af : pin_of al < length s.drivers
    af = first_all (λ x. pin_of x < length s.drivers) 0 s.active (named n c #CLK) i.sound.start (λ q m. i.active_fits q)

    w1 : Sound n1.drivers
    w1 = or_sound s.drivers dl sl i.sound (omega (arith, lengths, df)) (omega (arith, lengths, sf))

    f1 : pin_of n1.lit < length n1.drivers
    f1 = or_fits s.drivers dl sl i.sound.start (omega (arith, lengths, df)) (omega (arith, lengths, sf))

    w2 : Sound e1.drivers
    w2 = or_sound n1.drivers al sl w1 (omega (arith, lengths, af)) (omega (arith, lengths, sf))

    f2 : pin_of e1.lit < length e1.drivers
    f2 = or_fits n1.drivers al sl w1.start (omega (arith, lengths, af)) (omega (arith, lengths, sf))

    w3 : Sound n2.drivers
    w3 = and_sound e1.drivers n1.lit rl w2 (omega (arith, lengths, f1)) (omega (arith, lengths, rf))

    f3 : pin_of n2.lit < length n2.drivers
    f3 = and_fits e1.drivers n1.lit rl w2.start (omega (arith, lengths, f1)) (omega (arith, lengths, rf))

    w4 : Sound e2.drivers
    w4 = or_sound n2.drivers e1.lit rl w3 (omega (arith, lengths, f2)) (omega (arith, lengths, rf))

    f4 : pin_of e2.lit < length e2.drivers
    f4 = or_fits n2.drivers e1.lit rl w3.start (omega (arith, lengths, f2)) (omega (arith, lengths, rf))

    pub flop_holds : Holding (flop_ends n (lits n) s c)
    flop_holds = record {
      sound = w4;
      grows = grows_trans i.grows g_all;
      active_fits = λ p. omega (arith, i.active_fits p, lengths);
      next_fits = put_all (λ x. pin_of x < length e2.drivers) s.nexts c n2.lit (omega (arith, f3, lengths)) (λ q. omega (arith, i.next_fits q, lengths));
      enable_fits = put_all (λ x. pin_of x < length e2.drivers) s.enables c e2.lit f4 (λ q. omega (arith, i.enable_fits q, lengths));
      write_fits = λ k b. omega (arith, i.write_fits k b, lengths);
      ram_kept = i.ram_kept;
      ram_only = i.ram_only;
      ram_once = i.ram_once;
    }

  -- ---- a RAM
  pub write_holds : (c : ℕ) → c < cells n → kind_of n c ≡ ram → (s : Ends) (b : ℕ) → Holding s → Holding (write_end n (lits n) c s b)
  write_holds c hc e s b i =
      let x : ℕ = first_or 0 (lits n) (named_bit n c #W_EN b) in
      let y : ℕ = first_or 0 s.active (named n c #W_CLK) in
      let m : Made = and_of s.drivers x y in
      let g : Grows s.drivers m.drivers = and_grows s.drivers x y in
      let xf : pin_of x < length s.drivers = omega (arith, bit_fits c #W_EN b 0 ram e hc refl refl, i.grows.keeps.longer) in
      let yf : pin_of y < length s.drivers = first_all (λ z. pin_of z < length s.drivers) 0 s.active (named n c #W_CLK) i.sound.start (λ q w. i.active_fits q) in
      record {
        sound = and_sound s.drivers x y i.sound xf yf;
        grows = grows_trans i.grows g;
        active_fits = λ p. omega (arith, i.active_fits p, g.keeps.longer);
        next_fits = λ k. omega (arith, i.next_fits k, g.keeps.longer);
        enable_fits = λ k. omega (arith, i.enable_fits k, g.keeps.longer);
        write_fits = put_all (λ (f : ℕ → ℕ). (j : ℕ) → pin_of (f j) < length m.drivers) s.writes c (put (s.writes c) b m.lit)
            (put_all (λ z. pin_of z < length m.drivers) (s.writes c) b m.lit (and_fits s.drivers x y i.sound.start xf yf) (λ j. omega (arith, i.write_fits c j, g.keeps.longer)))
            (λ k j. omega (arith, i.write_fits k j, g.keeps.longer));
        ram_kept = i.ram_kept;
        ram_only = i.ram_only;
        ram_once = i.ram_once;
      }

  pub with_holds : (s : Ends) (c : ℕ) → c < cells n → kind_of n c ≡ ram → Holding s → Holding (with_ram s c)
  with_holds s c hc e i = record {
    sound = i.sound;
    grows = i.grows;
    active_fits = i.active_fits;
    next_fits = i.next_fits;
    enable_fits = i.enable_fits;
    write_fits = i.write_fits;
    ram_kept = λ k m. omega (arith, i.ram_kept k m, insert_le s.rams c k);
    ram_only = λ k m. insert_cases s.rams c k m (λ ek. rw ek (hc, e)) (λ m'. i.ram_only k m');
    ram_once = λ k. insert-once s.rams c k i.ram_once;
  }

  pub ram_holds : (s : Ends) (c : ℕ) → c < cells n → kind_of n c ≡ ram → Holding s → Holding (ram_ends n (lits n) s c)
  ram_holds s c hc e i = walk_inv Holding (write_end n (lits n) c) (upto 32) (with_ram s c) (λ t b m k. write_holds c hc e t b k) (with_holds s c hc e i)

  pub cell_holds : (s : Ends) (c : ℕ) (k : Kind) → kind_of n c ≡ k → c < cells n → Holding s → Holding (cell_ends n (lits n) s c k)
  cell_holds s c top e h i = i
  cell_holds s c (and2 x y z) e h i = i
  cell_holds s c inv e h i = i
  cell_holds s c buf e h i = i
  cell_holds s c dff e h i = flop_holds s c i h e
  cell_holds s c clock_gate e h i = i
  cell_holds s c ram e h i = ram_holds s c h e i
  cell_holds s c unfit e h i = i

  pub clocks_holds : (s : Ends) (c : ℕ) → c < cells n → Holding s → Holding (over (trace_clock n (lits n)) s (clocks_of n c))
  clocks_holds s c h i = walk_inv Holding (trace_clock n (lits n)) (clocks_of n c) s (λ t p m k. trace_holds t p (clock_pin c p h m) k) i

  pub end_holds : (s : Ends) (c : ℕ) → c < cells n → Holding s → Holding (end_cell n (lits n) s c)
  end_holds s c h i = cell_holds (over (trace_clock n (lits n)) s (clocks_of n c)) c (kind_of n c) refl h (clocks_holds s c h i)

  pub start3_holds : Holding (start3 (step2 n))
  start3_holds = let b = step2_behind n acc in record {
    sound = b.sound;
    grows = grows_refl (base n);
    active_fits = λ p. b.sound.start;
    next_fits = λ p. b.sound.start;
    enable_fits = λ p. b.sound.start;
    write_fits = λ c i. b.sound.start;
    ram_kept = λ c m. m;
    ram_only = b.ram_only;
    ram_once = b.ram_once;
  }

  pub step3_holds : Holding (step3 n)
  unfolding step3
  step3_holds = walk_inv Holding (end_cell n (lits n)) (upto (cells n)) (start3 (step2 n)) (λ t c m k. end_holds t c (in_upto (cells n) c m) k) start3_holds
