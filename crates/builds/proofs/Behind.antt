-- Step 2, event by event: what holds of what is built behind the pins entered and the pins left so far, whatever the bits.
use mathlib.Core.Path.{◌≡◌, refl, sym, ◌∙◌, ap, ap₂, subst}
use mathlib.Core.List.{List, [], ◌∷◌, ◌++◌}
use Prim.Native.Nat.{ℕ, ◌*◌, ◌≤◌, ◌<◌}
use native.Mathlib.Omega.{arith}
use lib.ListN.{length}
use borrow.Author.Tests.{ltb-true, ltb-false, eqb-true, eqb-false}
use Rattle.std.specs.Prelude.{◌==◌}
use Rattle.laws.specs.Tests.{◌<?◌}
use Rattle.laws.specs.Lists.{count, member, put}
use Rattle.laws.specs.Sets.{insert}
use Rattle.laws.proofs.Tests.{by_test}
use Rattle.laws.proofs.Bags.{member_true, member_false, at_head, here, there, put_same, put_other}
use Rattle.laws.proofs.Sets.{count-insert-same, insert_le, insert-once, insert_cases}
use Rattle.laws.proofs.Indices.{snoc_length, snoc_at, snoc_cases}
use Rattle.rules.specs.declared.Driver.{Driver}
use Rattle.rules.specs.declared.Driver.TheVariants.{Dff, Ram, Constant}
use Rattle.rules.specs.Netlist.{Netlist, cells, size, kind_of, ram}
use Rattle.rules.specs.Cells.{Logic}
use Rattle.rules.specs.Graph.{pin_of, driver_at}
use Rattle.rules.specs.Build.{out_port, dff_out, ram_out, role, Build, with_lit, entering, leaving}
use Rattle.rules.specs.Refusals.{Accepted}
use Rattle.rules.proofs.Tables.{clash, cell_fits}
use Rattle.rules.proofs.Roles.{dff_unique, ram_words_lem, ram_bit, ram_unique}
use Rattle.builds.proofs.Literals.{even_pin}
use Rattle.builds.proofs.Growing.{Grows, snoc_keeps, old_driver}
use Rattle.builds.proofs.Sound.{Sound, dff_may, ram_may, snoc_sound, driver_above}

-- a function of two numbers changed at one pair
pub data_cases : (P : ℕ → Type 0) (d : ℕ → ℕ → ℕ) (c b end c' b' : ℕ) → (c' ≡ c → b' ≡ b → P end) → ((c' ≡ c → b' ≡ b → ⊥) → P (d c' b')) → P (put d c (put (d c) b end) c' b')
data_cases P d c b end c' b' new old = by_test (c' == c)
    (λ t. rw t (by_test (b' == b)
    (λ t'. rw t' (new (eqb-true c' c t) (eqb-true b' b t')))
    (λ f'. rw f' (subst (λ (k : ℕ). P (d k b')) (eqb-true c' c t) (old (λ ec eb. eqb-false b' b f' eb))))))
    (λ f. rw f (old (λ ec eb. eqb-false c' c f ec)))

module _ (n : Netlist) where
  -- what holds of the state behind pins entered and pins left
  pub record Behind (ent lft : List ℕ) (s : Build) : Type 0 where
    pub sound : Sound s.drivers
    -- a literal of a pin that was left has a graph pin
    pub fits : (p : ℕ) → 0 < count p lft → Logic n p → pin_of (s.lits p) < length s.drivers
    -- flip-flops
    pub flop_made_lem : (p c : ℕ) → 0 < count p ent → role n p ≡ dff_out c → (0 < count c s.flops) × (s.flop_pin c < length s.drivers) × (driver_at s.drivers (s.flop_pin c) ≡ Dff c)
    pub flop_only : (c : ℕ) → 0 < count c s.flops → (p : ℕ) × (p < size n) × (0 < count p ent) × (role n p ≡ dff_out c)
    pub flop_pins : (u c : ℕ) → driver_at s.drivers u ≡ Dff c → (0 < count c s.flops) × (s.flop_pin c ≡ u)
    pub flop_once : (c : ℕ) → count c s.flops ≤ 1
    -- RAMs
    pub ram_pins_lem : (u c : ℕ) → driver_at s.drivers u ≡ Ram c → (i : ℕ) × (i < 32) × (s.read_pin c i ≡ u)
    pub ram_data : (c i : ℕ) → 0 < s.read_pin c i → (s.read_pin c i < length s.drivers) × (driver_at s.drivers (s.read_pin c i) ≡ Ram c) × (0 < count c s.rams)
    pub ram_from : (c i : ℕ) → 0 < s.read_pin c i → (p : ℕ) × (p < size n) × (0 < count p lft) × (role n p ≡ ram_out c i)
    pub ram_inj : (c b k : ℕ) → 0 < s.read_pin c b → s.read_pin c b ≡ s.read_pin c k → b ≡ k
    pub ram_only : (c : ℕ) → 0 < count c s.rams → (c < cells n) × (kind_of n c ≡ ram)
    pub ram_once : (c : ℕ) → count c s.rams ≤ 1
    -- outputs
    pub outs_only : (l : ℕ) → 0 < count l s.outs → (p q : ℕ) × (0 < count p lft) × (p < size n) × (role n p ≡ out_port q) × (s.lits p ≡ l)
    pub outs_all : (p q : ℕ) → 0 < count p lft → role n p ≡ out_port q → 0 < count (s.lits p) s.outs
    pub outs_once : (l : ℕ) → count l s.outs ≤ 1

  -- a pin left before, or the one just left
  pub left_cases : {P : Type 0} (lft : List ℕ) (p x : ℕ) → count p lft ≡ 0 → 0 < count x (p ∷ lft) → (x ≡ p → P) → (0 < count x lft → (x ≡ p → ⊥) → P) → P
  left_cases lft p x z m a b = at_head x p lft m a (λ m'. b m' (λ e. (let w : count x lft ≡ 0 = rw e z in omega arith)))

  -- ---- a pin is left, and only drivers without a record are made
  pub quiet : (ent lft : List ℕ) (s : Build) (p : ℕ) (ds : List Driver) (l : ℕ) → Behind ent lft s → count p lft ≡ 0 → Grows s.drivers ds → Sound ds → (Logic n p → pin_of l < length ds)
      → ((q : ℕ) → role n p ≡ out_port q → ⊥) → Behind ent (p ∷ lft) (with_lit s p ds l)
  quiet ent lft s p ds l i z g w f not_port = record {
    sound = w;
    fits = λ x m lx. left_cases lft p x z m
        (λ e. rw (ap (put s.lits p l) e ∙ put_same s.lits p l) (f (subst (Logic n) e lx)))
        (λ m' ne. rw (put_other s.lits p l x ne) (omega (arith, i.fits x m' lx, g.keeps.longer)));
    flop_made_lem = λ x c m e. let a = i.flop_made_lem x c m e in (a.0, omega (arith, a.1, g.keeps.longer), g.keeps.kept (s.flop_pin c) a.1 ∙ a.2);
    flop_only = i.flop_only;
    flop_pins = λ u c e. i.flop_pins u c (old_driver s.drivers ds g u (Dff c) refl (λ e'. clash (cc)) e);
    flop_once = i.flop_once;
    ram_pins_lem = λ u c e. i.ram_pins_lem u c (old_driver s.drivers ds g u (Ram c) refl (λ e'. clash (cc)) e);
    ram_data = λ c b m. let a = i.ram_data c b m in (omega (arith, a.0, g.keeps.longer), g.keeps.kept (s.read_pin c b) a.0 ∙ a.1, a.2);
    ram_from = λ c b m. let a = i.ram_from c b m in (a.0, a.1, there a.0 p lft a.2, a.3);
    ram_inj = i.ram_inj;
    ram_only = i.ram_only;
    ram_once = i.ram_once;
    outs_only = λ o m. let a = i.outs_only o m in (
      a.0,
      a.1,
      there a.0 p lft a.2,
      a.3,
      a.4,
      put_other s.lits p l a.0 (λ e. not_port a.1 (subst (λ (x : ℕ). role n x ≡ out_port a.1) e a.4)) ∙ a.5,
    );
    outs_all = λ x q m e. left_cases lft p x z m
        (λ e'. absurd (not_port q (subst (λ (y : ℕ). role n y ≡ out_port q) e' e)))
        (λ m' ne. rw (put_other s.lits p l x ne) (i.outs_all x q m' e));
    outs_once = i.outs_once;
  }

  -- ---- entering
  pub stays : (ent lft : List ℕ) (s : Build) (p : ℕ) → Behind ent lft s → ((c : ℕ) → role n p ≡ dff_out c → ⊥) → Behind (p ∷ ent) lft s
  stays ent lft s p i ne = record {
    sound = i.sound;
    fits = i.fits;
    flop_made_lem = λ x c m e. at_head x p ent m (λ q. absurd (ne c (subst (λ (y : ℕ). role n y ≡ dff_out c) q e))) (λ m'. i.flop_made_lem x c m' e);
    flop_only = λ c m. let a = i.flop_only c m in (a.0, a.1, there a.0 p ent a.2, a.3);
    flop_pins = i.flop_pins;
    flop_once = i.flop_once;
    ram_pins_lem = i.ram_pins_lem;
    ram_data = i.ram_data;
    ram_from = i.ram_from;
    ram_inj = i.ram_inj;
    ram_only = i.ram_only;
    ram_once = i.ram_once;
    outs_only = i.outs_only;
    outs_all = i.outs_all;
    outs_once = i.outs_once;
  }

  -- ---- an output port's literal joins the outputs
  pub ported : (ent lft : List ℕ) (s : Build) (p q : ℕ) → Behind ent lft s → count p lft ≡ 0 → p < size n → role n p ≡ out_port q → pin_of (s.lits q) < length s.drivers
      → Behind ent (p ∷ lft) (leaving n s p (out_port q))
  ported ent lft s p q i z h e f = record {
    sound = i.sound;
    fits = λ x m lx. left_cases lft p x z m
        (λ e'. rw (ap (put s.lits p (s.lits q)) e' ∙ put_same s.lits p (s.lits q)) f)
        (λ m' ne. rw (put_other s.lits p (s.lits q) x ne) (i.fits x m' lx));
    flop_made_lem = i.flop_made_lem;
    flop_only = i.flop_only;
    flop_pins = i.flop_pins;
    flop_once = i.flop_once;
    ram_pins_lem = i.ram_pins_lem;
    ram_data = i.ram_data;
    ram_from = λ c b m. let a = i.ram_from c b m in (a.0, a.1, there a.0 p lft a.2, a.3);
    ram_inj = i.ram_inj;
    ram_only = i.ram_only;
    ram_once = i.ram_once;
    outs_only = λ l m. insert_cases s.outs (s.lits q) l m
        (λ e'. (p, q, here p lft, h, e, put_same s.lits p (s.lits q) ∙ sym e'))
        (λ m'. let a = i.outs_only l m' in (a.0, a.1, there a.0 p lft a.2, a.3, a.4, put_other s.lits p (s.lits q) a.0 (λ e'. (let w : count a.0 lft ≡ 0 = rw e' z in omega (arith, a.2))) ∙ a.5));
    outs_all = λ x q' m e'. left_cases lft p x z m
        (λ ex. rw (ap (put s.lits p (s.lits q)) ex ∙ put_same s.lits p (s.lits q)) (count-insert-same s.outs (s.lits q)))
        (λ m' ne. rw (put_other s.lits p (s.lits q) x ne) (omega (arith, i.outs_all x q' m' e', insert_le s.outs (s.lits q) (s.lits x))));
    outs_once = λ l. insert-once s.outs (s.lits q) l i.outs_once;
  }

  module _ (acc : Accepted n) where
    -- ---- a flip-flop's own pin
    pub flopped : (ent lft : List ℕ) (s : Build) (p c : ℕ) → Behind ent lft s → count p ent ≡ 0 → p < size n → role n p ≡ dff_out c → Behind (p ∷ ent) lft (entering s (dff_out c))
    flopped ent lft s p c i z h e = record {
      sound = snoc_sound ds (Dff c) i.sound (dff_may ds c);
      fits = λ x m lx. omega (arith, i.fits x m lx, snoc_length ds (Dff c) Constant);
      flop_made_lem = λ x c' m e'. at_head x p ent m
          (λ ex. let ec : c' ≡ c = cc (subst (λ (y : ℕ). role n y ≡ dff_out c') ex e', e) in rw ec
          (count-insert-same s.flops c, rw (put_same s.flop_pin c end) (omega (arith, snoc_length ds (Dff c) Constant)), rw (put_same s.flop_pin c end) (snoc_at ds (Dff c) Constant)))
          (λ m'. let a = i.flop_made_lem x c' m' e' in let ne : c' ≡ c → ⊥ = other_cell c' a.0 in (
            omega (arith, a.0, insert_le s.flops c c'),
            rw (put_other s.flop_pin c end c' ne) (omega (arith, a.1, snoc_length ds (Dff c) Constant)),
            rw (put_other s.flop_pin c end c' ne) ((snoc_keeps ds (Dff c)).kept (s.flop_pin c') a.1 ∙ a.2),
          ));
      flop_only = λ c' m. insert_cases s.flops c c' m
          (λ ec. (p, h, here p ent, e ∙ ap dff_out (sym ec)))
          (λ m'. let a = i.flop_only c' m' in (a.0, a.1, there a.0 p ent a.2, a.3));
      flop_pins = λ u c'. snoc_cases ds (Dff c) Constant (λ d. d ≡ Dff c' → (0 < count c' (insert s.flops c)) × (put s.flop_pin c end c' ≡ u)) u
          (λ l e'. let a = i.flop_pins u c' e' in (omega (arith, a.0, insert_le s.flops c c'), put_other s.flop_pin c end c' (other_cell c' a.0) ∙ a.1))
          (λ l e'. let ec : c ≡ c' = cc in subst (λ (k : ℕ). (0 < count k (insert s.flops c)) × (put s.flop_pin c end k ≡ u)) ec (count-insert-same s.flops c, put_same s.flop_pin c end ∙ sym l))
          (λ l e'. clash (cc));
      flop_once = λ c'. insert-once s.flops c c' i.flop_once;
      ram_pins_lem = λ u c'. snoc_cases ds (Dff c) Constant (λ d. d ≡ Ram c' → (b : ℕ) × (b < 32) × (s.read_pin c' b ≡ u)) u
          (λ l e'. i.ram_pins_lem u c' e')
          (λ l e'. clash (cc))
          (λ l e'. clash (cc));
      ram_data = λ c' b m. let a = i.ram_data c' b m in (omega (arith, a.0, snoc_length ds (Dff c) Constant), (snoc_keeps ds (Dff c)).kept (s.read_pin c' b) a.0 ∙ a.1, a.2);
      ram_from = i.ram_from;
      ram_inj = i.ram_inj;
      ram_only = i.ram_only;
      ram_once = i.ram_once;
      outs_only = i.outs_only;
      outs_all = i.outs_all;
      outs_once = i.outs_once;
    }
      where
        ds : List Driver
        ds = s.drivers

        end : ℕ
        end = length s.drivers

        -- the cell has no record yet
        fresh : count c s.flops ≡ 0
        fresh = by_test (member c s.flops)
            (λ t. let a = i.flop_only c (member_true c s.flops t) in
            let w : count a.0 ent ≡ 0 = rw (dff_unique n acc.tables a.0 p c a.1 h a.3 e) z in absurd (omega (arith, a.2)))
            (λ g. member_false c s.flops g)

        other_cell : (c' : ℕ) → 0 < count c' s.flops → c' ≡ c → ⊥
        other_cell c' m e' = omega (arith, m, fresh, ap (λ (k : ℕ). count k s.flops) e')

    -- ---- a RAM's read-data pin
    pub rammed : (ent lft : List ℕ) (s : Build) (p c b : ℕ) → Behind ent lft s → count p lft ≡ 0 → p < size n → role n p ≡ ram_out c b → Behind ent (p ∷ lft) (leaving n s p (ram_out c b))
    rammed ent lft s p c b i z h e = record {
      sound = snoc_sound ds (Ram c) i.sound (ram_may ds c);
      fits = λ x m lx. left_cases lft p x z m
          (λ e'. rw (ap (put s.lits p (2 * end)) e' ∙ put_same s.lits p (2 * end), even_pin end) (omega (arith, snoc_length ds (Ram c) Constant)))
          (λ m' ne. rw (put_other s.lits p (2 * end) x ne) (omega (arith, i.fits x m' lx, snoc_length ds (Ram c) Constant)));
      flop_made_lem = λ x c' m e'. let a = i.flop_made_lem x c' m e' in (a.0, omega (arith, a.1, snoc_length ds (Ram c) Constant), (snoc_keeps ds (Ram c)).kept (s.flop_pin c') a.1 ∙ a.2);
      flop_only = i.flop_only;
      flop_pins = λ u c'. snoc_cases ds (Ram c) Constant (λ d. d ≡ Dff c' → (0 < count c' s.flops) × (s.flop_pin c' ≡ u)) u
          (λ l e'. i.flop_pins u c' e')
          (λ l e'. clash (cc))
          (λ l e'. clash (cc));
      flop_once = i.flop_once;
      ram_pins_lem = λ u c'. snoc_cases ds (Ram c) Constant (λ d. d ≡ Ram c' → (b' : ℕ) × (b' < 32) × (reads c' b' ≡ u)) u
          (λ l e'. let a = i.ram_pins_lem u c' e' in (
            a.0,
            a.1,
            data_cases (λ w. w ≡ u) s.read_pin c b end c' a.0
                (λ ec eb. absurd (omega (arith, driver_above ds i.sound u (Ram c') e' (λ z'. clash (cc)), a.2, fresh, ap₂ s.read_pin ec eb)))
                (λ ne. a.2),
          ))
          (λ l e'. let ec : c ≡ c' = cc in (b, ram_bit n acc.tables p c b h e, data_cases (λ w. w ≡ u) s.read_pin c b end c' b (λ _ _. sym l) (λ ne. absurd (ne (sym ec) refl))))
          (λ l e'. clash (cc));
      ram_data = λ c' b'. data_cases (λ w. 0 < w → (w < length (ds ++ (Ram c ∷ []))) × (driver_at (ds ++ (Ram c ∷ [])) w ≡ Ram c') × (0 < count c' (insert s.rams c))) s.read_pin c b end c' b'
          (λ ec eb m. (omega (arith, snoc_length ds (Ram c) Constant), snoc_at ds (Ram c) Constant ∙ ap Ram (sym ec), rw ec (count-insert-same s.rams c)))
          (λ ne m. let a = i.ram_data c' b' m in (omega (arith, a.0, snoc_length ds (Ram c) Constant), (snoc_keeps ds (Ram c)).kept (s.read_pin c' b') a.0 ∙ a.1, omega (arith, a.2, insert_le s.rams c c')));
      ram_from = λ c' b'. data_cases (λ w. 0 < w → (x : ℕ) × (x < size n) × (0 < count x (p ∷ lft)) × (role n x ≡ ram_out c' b')) s.read_pin c b end c' b'
          (λ ec eb m. (p, h, here p lft, e ∙ ap₂ ram_out (sym ec) (sym eb)))
          (λ ne m. let a = i.ram_from c' b' m in (a.0, a.1, there a.0 p lft a.2, a.3));
      ram_inj = λ c' j k. data_cases (λ w. 0 < w → w ≡ reads c' k → j ≡ k) s.read_pin c b end c' j
          (λ ec ej m. data_cases (λ w. end ≡ w → j ≡ k) s.read_pin c b end c' k (λ _ ek e'. ej ∙ sym ek) (λ ne e'. absurd (omega (arith, e', i.sound.start, (i.ram_data c' k (omega (arith, i.sound.start))).0))))
          (λ ne m. data_cases (λ w. s.read_pin c' j ≡ w → j ≡ k) s.read_pin c b end c' k (λ _ ek e'. absurd (omega (arith, e', (i.ram_data c' j m).0))) (λ ne' e'. i.ram_inj c' j k m e'));
      ram_only = λ c' m. insert_cases s.rams c c' m
          (λ ec. let w = ram_words_lem n p c b e in rw ec (rw w.2 at (cell_fits n acc.tables p h), w.1))
          (λ m'. i.ram_only c' m');
      ram_once = λ c'. insert-once s.rams c c' i.ram_once;
      outs_only = λ l m. let a = i.outs_only l m in (
        a.0,
        a.1,
        there a.0 p lft a.2,
        a.3,
        a.4,
        put_other s.lits p (2 * end) a.0 (λ e'. (let w : count a.0 lft ≡ 0 = rw e' z in omega (arith, a.2))) ∙ a.5,
      );
      outs_all = λ x q m e'. left_cases lft p x z m
          (λ ex. (let ex' : role n p ≡ out_port q = subst (λ (y : ℕ). role n y ≡ out_port q) ex e' in clash (cc)))
          (λ m' ne. rw (put_other s.lits p (2 * end) x ne) (i.outs_all x q m' e'));
      outs_once = i.outs_once;
    }
      where
        ds : List Driver
        ds = s.drivers

        end : ℕ
        end = length s.drivers

        reads : ℕ → ℕ → ℕ
        reads = put s.read_pin c (put (s.read_pin c) b end)

        -- the bit has no pin yet
        fresh : s.read_pin c b ≡ 0
        fresh = by_test (0 <? s.read_pin c b)
            (λ t. let a = i.ram_from c b (ltb-true 0 (s.read_pin c b) t) in
            let w : count a.0 lft ≡ 0 = rw (ram_unique n acc.tables a.0 p c b a.1 h a.3 e) z in absurd (omega (arith, a.2)))
            (λ g. omega (arith, ltb-false 0 (s.read_pin c b) g))
