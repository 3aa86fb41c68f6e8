-- What step 2 leaves of the RAMs: a RAM that has a row has read data, and each read-data pin's literal is twice the pin in the row.
use mathlib.Core.Path.{◌≡◌, refl, sym, ◌∙◌, ap, ap₂, subst}
use mathlib.Core.Bool.{Bool, true, false, ◌&&◌}
use mathlib.Core.List.{List, [], ◌∷◌}
use Prim.Native.Nat.{ℕ, ◌*◌, ◌/◌, ◌<◌}
use native.Mathlib.Omega.{arith}
use lib.ListN.{length}
use borrow.Author.Tests.{ltb-true, ltb-false, eqb-true}
use Rattle.std.specs.Prelude.{◌==◌}
use Rattle.laws.specs.Tests.{◌<?◌}
use Rattle.laws.specs.Lists.{count, over, put, first_or}
use Rattle.laws.proofs.Tests.{by_test, true≢false, and_l, and_r}
use Rattle.laws.proofs.Bags.{at_head, here, put_same, put_other, keep_true, keep_sub}
use Rattle.laws.proofs.Sets.{insert_cases}
use Rattle.laws.proofs.Events.{proper_fold}
use Rattle.rules.specs.Netlist.{Netlist, size, cells, cell_of, name_of, bit_of, kind_of, ram, pins_of, named_bit, #R_DATA}
use Rattle.rules.specs.Build.{Role, tied, wire, out_port, in_port, and_out, inv_out, buf_out, gate_out, dff_out, ram_out, nothing, role, next, events, Build, entering, leaving, act, start2, step1, step2}
use Rattle.rules.specs.Refusals.{Accepted}
use Rattle.rules.proofs.Tables.{clash, own_cell, own-bit, data_name}
use Rattle.rules.proofs.Roles.{named_out, ram_words_lem, ram_unique}
use Rattle.builds.proofs.Behind.{data_cases}
use Rattle.builds.proofs.Steps.{visited, inside, all_out, all_left, step2_behind}

module _ (n : Netlist) (acc : Accepted n) where
  record Data (lft : List ℕ) (s : Build) : Type 0 where
    pub rooted : (c : ℕ) → 0 < count c s.rams → (p b : ℕ) × (p < size n) × (role n p ≡ ram_out c b)
    pub twice : (p c b : ℕ) → p < size n → 0 < count p lft → role n p ≡ ram_out c b → s.lits p ≡ 2 * s.read_pin c b

  -- ---- a pin is entered
  enters : (lft : List ℕ) (s : Build) (r : Role) → Data lft s → Data lft (entering s r)
  enters lft s (tied b) h = h
  enters lft s (wire q) h = h
  enters lft s (out_port q) h = h
  enters lft s in_port h = h
  enters lft s (and_out x y z a b) h = h
  enters lft s (inv_out a) h = h
  enters lft s (buf_out a) h = h
  enters lft s (gate_out cp e) h = h
  enters lft s (dff_out c) h = record { rooted = h.rooted; twice = h.twice }
  enters lft s (ram_out c b) h = h
  enters lft s nothing h = h

  -- ---- a pin is left that is no read data
  module _ (lft : List ℕ) (s : Build) (u : ℕ) (h : Data lft s) (z : count u lft ≡ 0) where
    apart : (p : ℕ) → 0 < count p lft → p ≡ u → ⊥
    apart p m e = omega (arith, m, z, ap (λ (x : ℕ). count x lft) e)

    other : (l : ℕ) → ((c b : ℕ) → role n u ≡ ram_out c b → ⊥) → (p c b : ℕ) → p < size n → 0 < count p (u ∷ lft) → role n p ≡ ram_out c b → put s.lits u l p ≡ 2 * s.read_pin c b
    other l no-data p c b hp m e = at_head p u lft m
        (λ q. absurd (no-data c b (subst (λ (x : ℕ). role n x ≡ ram_out c b) q e)))
        (λ m'. put_other s.lits u l p (apart p m') ∙ h.twice p c b hp m' e)

    leaves : u < size n → (r : Role) → role n u ≡ r → Data (u ∷ lft) (leaving n s u r)
    leaves hu (tied b) e = record { rooted = h.rooted; twice = other _ (λ c b e'. clash (cc)) }
    leaves hu (wire q) e = record { rooted = h.rooted; twice = other _ (λ c b e'. clash (cc)) }
    leaves hu (out_port q) e = record { rooted = h.rooted; twice = other _ (λ c b e'. clash (cc)) }
    leaves hu in_port e = record { rooted = h.rooted; twice = other _ (λ c b e'. clash (cc)) }
    leaves hu (and_out x y z' a b) e = record { rooted = h.rooted; twice = other _ (λ c b e'. clash (cc)) }
    leaves hu (inv_out a) e = record { rooted = h.rooted; twice = other _ (λ c b e'. clash (cc)) }
    leaves hu (buf_out a) e = record { rooted = h.rooted; twice = other _ (λ c b e'. clash (cc)) }
    leaves hu (gate_out cp en) e = record { rooted = h.rooted; twice = other _ (λ c b e'. clash (cc)) }
    leaves hu (dff_out c) e = record { rooted = h.rooted; twice = other _ (λ c b e'. clash (cc)) }
    leaves hu (ram_out c b) e = record {
      rooted = λ c' m. insert_cases s.rams c c' m (λ ec. (u, b, hu, e ∙ ap (λ (x : ℕ). ram_out x b) (sym ec))) (λ m'. h.rooted c' m');
      twice = λ p c' b' hp m e'. at_head p u lft m
          (λ q. let same : ram_out c b ≡ ram_out c' b' = sym e ∙ subst (λ (x : ℕ). role n x ≡ ram_out c' b') q e' in
          let ec : c' ≡ c = cc in let eb : b' ≡ b = cc in
          ap (put s.lits u (2 * length s.drivers)) q ∙ put_same s.lits u (2 * length s.drivers)
          ∙ data_cases (λ (x : ℕ). 2 * length s.drivers ≡ 2 * x) s.read_pin c b (length s.drivers) c' b' (λ _ _. refl) (λ ne. absurd (ne ec eb)))
          (λ m'. put_other s.lits u (2 * length s.drivers) p (apart p m')
          ∙ data_cases (λ (x : ℕ). s.lits p ≡ 2 * x) s.read_pin c b (length s.drivers) c' b'
          (λ ec eb. absurd (apart p m' (ram_unique n acc.tables p u c b hp hu (e' ∙ ap₂ ram_out ec eb) e)))
          (λ ne. h.twice p c' b' hp m' e'));
    }
    leaves hu nothing e = record { rooted = h.rooted; twice = other _ (λ c b e'. clash (cc)) }

  all_data : Data (all_out n acc) (over (act n) (start2 (step1 n)) (events n))
  all_data = proper_fold (next n) (act n) (λ ent lft s. Data lft s) (λ p. p < size n)
      (λ ent lft s u h z g. enters lft s (role n u) g)
      (λ ent lft s u h was z done g. leaves lft s u g z h (role n u) refl)
      (events n) [] [] (start2 (step1 n)) (visited n acc).0 (λ p m. inside n acc p (omega (arith, m)))
      (record { rooted = λ c m. absurd (omega (arith, m)); twice = λ p c b hp m. absurd (omega (arith, m)) })

  step2_data : Data (all_out n acc) (step2 n)
  unfolding step2
  step2_data = all_data

  -- a RAM with a row has a pin in its list
  pub begun_pin : (c : ℕ) → 0 < count c (step2 n).rams → (p : ℕ) × (0 < count p (pins_of n c))
  begun_pin c m =
      let a = step2_data.rooted c m in
      let w = ram_words_lem n a.0 c a.1 a.3 in
      (a.0, subst (λ (x : ℕ). 0 < count a.0 (pins_of n x)) w.2 (omega (arith, own_cell n acc.tables a.0 a.2)))

  -- the pin of a bit of read data is half the literal of the netlist pin; 0 where there is none
  module _ (c b : ℕ) (lc : c < cells n) (k : kind_of n c ≡ ram) where
    data_out : (p : ℕ) → 0 < count p (named_bit n c #R_DATA b) → (p < size n) × (role n p ≡ ram_out c b)
    data_out p m =
        let f : ℕ → Bool = λ q. (name_of n q == #R_DATA) && (bit_of n q == b) in
        let t : f p ≡ true = keep_true f p (pins_of n c) m in
        let eb : bit_of n p ≡ b = eqb-true (bit_of n p) b (and_r (name_of n p == #R_DATA) (bit_of n p == b) t) in
        let w = named_out n acc.tables c p #R_DATA ram (λ e'. clash (cc)) lc k
        (keep_sub f (λ q. name_of n q == #R_DATA) p (pins_of n c) (λ q y. and_l (name_of n q == #R_DATA) (bit_of n q == b) y) m)
        (λ g nm sl. true≢false false (rw (g, nm) at sl) refl) in
        (w.0, w.2 ∙ ap (ram_out c) eb)

    read_by : (l : List ℕ) → l ≡ named_bit n c #R_DATA b → (step2 n).read_pin c b ≡ first_or 0 (step2 n).lits l / 2
    read_by [] e = by_test (0 <? (step2 n).read_pin c b)
        (λ y. let a = (step2_behind n acc).ram_from c b (ltb-true 0 ((step2 n).read_pin c b) y) in
        let w = ram_words_lem n a.0 c b a.3 in
        let nm = data_name n acc.tables a.0 a.1 w.0 (subst (λ (x : ℕ). kind_of n x ≡ ram) (sym w.2) k) in
        let m : 0 < count a.0 (named_bit n (cell_of n a.0) #R_DATA b) = own-bit n acc.tables a.0 #R_DATA b a.1 nm.0 w.3 in
        let m' : 0 < count a.0 [] = subst (λ (x : List ℕ). 0 < count a.0 x) (ap (λ (x : ℕ). named_bit n x #R_DATA b) w.2 ∙ sym e) m in
        absurd (omega (arith, m')))
        (λ g. omega (arith, ltb-false 0 ((step2 n).read_pin c b) g))
    read_by (p ∷ l) e =
        let a = data_out p (subst (λ (x : List ℕ). 0 < count p x) e (here p l)) in
        omega (arith, step2_data.twice p c b a.0 (all_left n acc p a.0) a.1)

    pub read_half : (step2 n).read_pin c b ≡ first_or 0 (step2 n).lits (named_bit n c #R_DATA b) / 2
    read_half = read_by (named_bit n c #R_DATA b) refl
