-- Step 2, a pin is left: what is built stays in order, and the pin's literal has the bit that the cells give it.
use mathlib.Core.Path.{◌≡◌, refl, sym, ◌∙◌, ap, ap₂, subst}
use mathlib.Core.Bool.{Bool, true, false, not, ◌&&◌, ◌||◌}
use mathlib.Core.List.{List, [], ◌∷◌, ◌++◌}
use Prim.Native.Nat.{ℕ, ◌*◌, ◌<◌}
use native.Mathlib.Omega.{arith}
use lib.ListN.{length}
use borrow.Author.Tests.{ltb-true, ltb-false}
use Rattle.laws.specs.Tests.{◌<?◌, xor}
use Rattle.laws.specs.Lists.{count, first_or, put}
use Rattle.laws.proofs.Tests.{by_test}
use Rattle.laws.proofs.Bags.{here, there, first_all, first_through, put_same, put_other}
use Rattle.laws.proofs.Indices.{snoc_length, snoc_at}
use Rattle.rules.specs.declared.Driver.{Driver}
use Rattle.rules.specs.declared.Driver.TheVariants.{Port, Ram, Constant}
use Rattle.rules.specs.Netlist.{Netlist, size, named, #S, #R}
use Rattle.rules.specs.Cells.{Env, Logic}
use Rattle.rules.specs.Graph.{pin_of, opposite, opposite_if, marker, Made, and_of, or_not}
use Rattle.rules.specs.Build.{Role, tied, wire, out_port, in_port, and_out, inv_out, buf_out, gate_out, dff_out, ram_out, nothing, role, visits_of, next, Build, leaving}
use Rattle.rules.specs.Refusals.{Accepted}
use Rattle.rules.proofs.Tables.{clash}
use Rattle.rules.proofs.Roles.{visit_fits, ram_unique}
use Rattle.rules.proofs.Markers.{made, carried, logic_net, logic_port, logic_buf, logic_inv}
use Rattle.builds.proofs.Literals.{lit_of, opp_pin, opp_bit, opp_if_pin, opp_if_bit, even_pin, even_bit, one_bit}
use Rattle.builds.proofs.Growing.{Keeps, Grows, keeps_refl, keeps_trans, grows_refl, grows_trans, snoc_keeps, snoc_grows}
use Rattle.builds.proofs.Sound.{Sound, port_may, snoc_sound}
use Rattle.builds.proofs.Agreeing.{env_bit, Agrees, agrees_keeps, agrees_zero}
use Rattle.builds.proofs.Ands.{and_grows, and_keeps, and_fits, and_sound, and_bit, or_fits, or_sound, or_bit}
use Rattle.builds.proofs.Logics.{set_in, reset_in, and_logic, dff_logic, out_logic}
use Rattle.builds.proofs.Cells.{rule, Obeys}
use Rattle.builds.proofs.Behind.{data_cases, Behind, left_cases, quiet, ported, rammed}

-- the bits of the read-data pins come from outside
abbrev pub Reads : Env → (ℕ → Bool) → Build → Type 0
Reads env β s = (c b : ℕ) → 0 < s.read_pin c b → β (s.read_pin c b) ≡ env.read_bit c b

-- the pins left so far have the bits of v, where the graph's bits agree with the drivers so far
abbrev pub Right : Netlist → Env → (ℕ → Bool) → (ℕ → Bool) → List ℕ → Build → Type 0
Right n env v β lft s = Agrees env β s.drivers → Reads env β s → (o : ℕ) → o < size n → 0 < count o lft → Logic n o → lit_of β (s.lits o) ≡ v o

-- only the pin that is left gets a literal
pub leaving-lits : (n : Netlist) (s : Build) (p : ℕ) (r : Role) (x : ℕ) → (x ≡ p → ⊥) → (leaving n s p r).lits x ≡ s.lits x
leaving-lits n s p (tied b) x ne = put_other s.lits p _ x ne
leaving-lits n s p (wire q) x ne = put_other s.lits p _ x ne
leaving-lits n s p (out_port q) x ne = put_other s.lits p _ x ne
leaving-lits n s p in_port x ne = put_other s.lits p _ x ne
leaving-lits n s p (and_out a b c d e) x ne = put_other s.lits p _ x ne
leaving-lits n s p (inv_out a) x ne = put_other s.lits p _ x ne
leaving-lits n s p (buf_out a) x ne = put_other s.lits p _ x ne
leaving-lits n s p (gate_out cp en) x ne = put_other s.lits p _ x ne
leaving-lits n s p (dff_out c) x ne = put_other s.lits p _ x ne
leaving-lits n s p (ram_out c b) x ne = put_other s.lits p _ x ne
leaving-lits n s p nothing x ne = put_other s.lits p _ x ne

module _ (n : Netlist) (acc : Accepted n) where
  -- ---- one pin is left; what it visits was left before it
  module _ (ent lft : List ℕ) (s : Build) (p : ℕ) (i : Behind n ent lft s) (z : count p lft ≡ 0) (h : p < size n) (was : 0 < count p ent)
      (done : (o : ℕ) → 0 < count o (next n p) → 0 < count o lft) where
    abbrev ds : List Driver
    ds = s.drivers

    done_at : (r : Role) → role n p ≡ r → (o : ℕ) → 0 < count o (visits_of n r) → 0 < count o lft
    done_at r e o m = done o (subst (λ (x : Role). 0 < count o (visits_of n x)) (sym e) m)

    one_fits : (r : Role) (o : ℕ) → role n p ≡ r → 0 < count o (visits_of n r) → Logic n o → pin_of (s.lits o) < length ds
    one_fits r o e m l = i.fits o (done_at r e o m) l

    -- the parts of a flip-flop's output
    module _ (c : ℕ) (e : role n p ≡ dff_out c) where
      abbrev sl : ℕ
      sl = first_or 1 s.lits (named n c #S)

      abbrev rl : ℕ
      rl = first_or 1 s.lits (named n c #R)

      abbrev m1 : Made
      m1 = or_not ds (2 * s.flop_pin c) sl

      abbrev m2 : Made
      m2 = and_of m1.drivers m1.lit rl

      s_fits : pin_of sl < length ds
      s_fits = first_all (λ l. pin_of l < length ds) 1 s.lits (named n c #S) i.sound.start (λ q m. one_fits (dff_out c) q e (set_in n c q m) (dff_logic n acc p c #S q h e refl m))

      r_fits : pin_of rl < length ds
      r_fits = first_all (λ l. pin_of l < length ds) 1 s.lits (named n c #R) i.sound.start (λ q m. one_fits (dff_out c) q e (reset_in n c q m) (dff_logic n acc p c #R q h e refl m))

      q_fits : pin_of (2 * s.flop_pin c) < length ds
      q_fits = rw (even_pin (s.flop_pin c)) (i.flop_made_lem p c was e).1

      m1_grows : Grows ds m1.drivers
      m1_grows = and_grows ds (opposite (2 * s.flop_pin c)) sl

      m2_grows : Grows m1.drivers m2.drivers
      m2_grows = and_grows m1.drivers m1.lit rl

      m1_sound : Sound m1.drivers
      m1_sound = or_sound ds (2 * s.flop_pin c) sl i.sound q_fits s_fits

      m1_fits : pin_of m1.lit < length m1.drivers
      m1_fits = or_fits ds (2 * s.flop_pin c) sl i.sound.start q_fits s_fits

      r_fits' : pin_of rl < length m1.drivers
      r_fits' = omega (arith, r_fits, m1_grows.keeps.longer)

    -- the parts of an AND2
    module _ (x y z' : Bool) (a b : ℕ) (e : role n p ≡ and_out x y z' a b) where
      abbrev al : ℕ
      al = opposite_if x (s.lits a)

      abbrev bl : ℕ
      bl = opposite_if y (s.lits b)

      a_fits : pin_of al < length ds
      a_fits = rw (opp_if_pin x (s.lits a)) (one_fits (and_out x y z' a b) a e (here a (b ∷ [])) (and_logic n acc p a b x y z' h e).0)

      b_fits : pin_of bl < length ds
      b_fits = rw (opp_if_pin y (s.lits b)) (one_fits (and_out x y z' a b) b e (there b a (b ∷ []) (here b [])) (and_logic n acc p a b x y z' h e).1)

    not_port : (r : Role) → role n p ≡ r → ((q : ℕ) → r ≡ out_port q → ⊥) → (q : ℕ) → role n p ≡ out_port q → ⊥
    not_port r e f q e' = f q (sym e ∙ e')

    pub leave_behind : (r : Role) → role n p ≡ r → Behind n ent (p ∷ lft) (leaving n s p r)
    leave_behind (tied true) e = quiet n ent lft s p ds 1 i z (grows_refl ds) i.sound (λ l. i.sound.start) (not_port (tied true) e (λ q e'. clash (cc)))
    leave_behind (tied false) e = quiet n ent lft s p ds 0 i z (grows_refl ds) i.sound (λ l. i.sound.start) (not_port (tied false) e (λ q e'. clash (cc)))
    leave_behind (wire q) e = quiet n ent lft s p ds (s.lits q) i z (grows_refl ds) i.sound (λ l. one_fits (wire q) q e (here q []) (logic_net n p q e l)) (not_port (wire q) e (λ q' e'. clash (cc)))
    leave_behind (out_port q) e = ported n ent lft s p q i z h e (one_fits (out_port q) q e (here q []) (logic_port n p q e (out_logic n acc p q h e)))
    leave_behind in_port e = quiet n ent lft s p (ds ++ (Port p ∷ [])) (2 * length ds) i z (snoc_grows ds (Port p) refl) (snoc_sound ds (Port p) i.sound (port_may ds p)) (λ l. rw (even_pin (length ds)) (omega (arith, snoc_length ds (Port p) Constant))) (not_port in_port e (λ q' e'. clash (cc)))
    leave_behind (and_out x y z' a b) e = quiet n ent lft s p (and_of ds (al x y z' a b e) (bl x y z' a b e)).drivers (opposite_if z' (and_of ds (al x y z' a b e) (bl x y z' a b e)).lit) i z (and_grows ds (al x y z' a b e) (bl x y z' a b e))
        (and_sound ds (al x y z' a b e) (bl x y z' a b e) i.sound (a_fits x y z' a b e) (b_fits x y z' a b e))
        (λ l. rw (opp_if_pin z' (and_of ds (al x y z' a b e) (bl x y z' a b e)).lit) (and_fits ds (al x y z' a b e) (bl x y z' a b e) i.sound.start (a_fits x y z' a b e) (b_fits x y z' a b e)))
        (not_port (and_out x y z' a b) e (λ q' e'. clash (cc)))
    leave_behind (inv_out a) e = quiet n ent lft s p ds (opposite (s.lits a)) i z (grows_refl ds) i.sound (λ l. rw (opp_pin (s.lits a)) (one_fits (inv_out a) a e (here a []) (logic_inv n p a e l))) (not_port (inv_out a) e (λ q' e'. clash (cc)))
    leave_behind (buf_out a) e = quiet n ent lft s p ds (s.lits a) i z (grows_refl ds) i.sound (λ l. one_fits (buf_out a) a e (here a []) (logic_buf n p a e l)) (not_port (buf_out a) e (λ q' e'. clash (cc)))
    leave_behind (gate_out cp en) e = quiet n ent lft s p ds marker i z (grows_refl ds) i.sound (λ l. absurd (l false (carried n p false (made e)))) (not_port (gate_out cp en) e (λ q' e'. clash (cc)))
    leave_behind (dff_out c) e = quiet n ent lft s p (m2 c e).drivers (m2 c e).lit i z (grows_trans (m1_grows c e) (m2_grows c e))
        (and_sound (m1 c e).drivers (m1 c e).lit (rl c e) (m1_sound c e) (m1_fits c e) (r_fits' c e))
        (λ l. and_fits (m1 c e).drivers (m1 c e).lit (rl c e) (m1_sound c e).start (m1_fits c e) (r_fits' c e))
        (not_port (dff_out c) e (λ q' e'. clash (cc)))
    leave_behind (ram_out c b) e = rammed n acc ent lft s p c b i z h e
    leave_behind nothing e = quiet n ent lft s p ds 0 i z (grows_refl ds) i.sound (λ l. i.sound.start) (not_port nothing e (λ q e'. clash (cc)))

    -- ---- nothing that was made is lost
    ram_fresh : (c b : ℕ) → role n p ≡ ram_out c b → s.read_pin c b ≡ 0
    ram_fresh c b e = by_test (0 <? s.read_pin c b)
        (λ t. let a = i.ram_from c b (ltb-true 0 (s.read_pin c b) t) in
        let w : count a.0 lft ≡ 0 = rw (ram_unique n acc.tables a.0 p c b a.1 h a.3 e) z in absurd (omega (arith, a.2)))
        (λ g. omega (arith, ltb-false 0 (s.read_pin c b) g))

    -- the read-data pins that were there
    abbrev DataKept : Build → Build → Type 0
    DataKept x y = (c b : ℕ) → 0 < x.read_pin c b → y.read_pin c b ≡ x.read_pin c b

    leave_data : (r : Role) → role n p ≡ r → DataKept s (leaving n s p r)
    leave_data (tied b) e c k m = refl
    leave_data (wire q) e c k m = refl
    leave_data (out_port q) e c k m = refl
    leave_data in_port e c k m = refl
    leave_data (and_out x y z' a b) e c k m = refl
    leave_data (inv_out a) e c k m = refl
    leave_data (buf_out a) e c k m = refl
    leave_data (gate_out cp en) e c k m = refl
    leave_data (dff_out c') e c k m = refl
    leave_data (ram_out c' b) e c k m = data_cases (λ w. w ≡ s.read_pin c k) s.read_pin c' b (length ds) c k
        (λ ec eb. absurd (omega (arith, m, ram_fresh c' b e, ap₂ s.read_pin ec eb)))
        (λ ne. refl)
    leave_data nothing e c k m = refl

    leave_keeps : (r : Role) → role n p ≡ r → Keeps ds (leaving n s p r).drivers
    leave_keeps (tied b) e = keeps_refl ds
    leave_keeps (wire q) e = keeps_refl ds
    leave_keeps (out_port q) e = keeps_refl ds
    leave_keeps in_port e = snoc_keeps ds (Port p)
    leave_keeps (and_out x y z' a b) e = and_keeps ds (opposite_if x (s.lits a)) (opposite_if y (s.lits b))
    leave_keeps (inv_out a) e = keeps_refl ds
    leave_keeps (buf_out a) e = keeps_refl ds
    leave_keeps (gate_out cp en) e = keeps_refl ds
    leave_keeps (dff_out c) e = keeps_trans (m1_grows c e).keeps (m2_grows c e).keeps
    leave_keeps (ram_out c b) e = snoc_keeps ds (Ram c)
    leave_keeps nothing e = keeps_refl ds

    -- ---- the bit
    module _ (env : Env) (v β : ℕ → Bool) (obey : Obeys n env v) where
      module _ (right : Right n env v β lft s) (ag : Agrees env β ds) (rd : Reads env β s) where
        tie : β 0 ≡ false
        tie = agrees_zero env β ds i.sound ag

        old : (r : Role) (o : ℕ) → role n p ≡ r → 0 < count o (visits_of n r) → Logic n o → lit_of β (s.lits o) ≡ v o
        old r o e m l = right ag rd o (visit_fits n acc.tables p o r h e m) (done_at r e o m) l

        -- the literal that a pin gets has the bit of the rule
        value : (r : Role) (e : role n p ≡ r) → Agrees env β (leaving n s p r).drivers → Reads env β (leaving n s p r) → Logic n p
            → lit_of β ((leaving n s p r).lits p) ≡ rule n env v p r
        value (tied true) e ag' rd' lp = ap (lit_of β) (put_same s.lits p 1) ∙ one_bit β tie
        value (tied false) e ag' rd' lp = ap (lit_of β) (put_same s.lits p 0) ∙ tie
        value (wire q) e ag' rd' lp = ap (lit_of β) (put_same s.lits p (s.lits q)) ∙ old (wire q) q e (here q []) (logic_net n p q e lp)
        value (out_port q) e ag' rd' lp = ap (lit_of β) (put_same s.lits p (s.lits q)) ∙ old (out_port q) q e (here q []) (logic_port n p q e lp)
        value in_port e ag' rd' lp = ap (lit_of β) (put_same s.lits p (2 * length ds)) ∙ even_bit β (length ds)
            ∙ ag' (length ds) (omega (arith, snoc_length ds (Port p) Constant)) ∙ ap (env_bit env β (length ds)) (snoc_at ds (Port p) Constant)
        value (and_out x y z' a b) e ag' rd' lp =
            let lg = and_logic n acc p a b x y z' h e in
            let m : Made = and_of ds (opposite_if x (s.lits a)) (opposite_if y (s.lits b)) in
            ap (lit_of β) (put_same s.lits p (opposite_if z' m.lit)) ∙ opp_if_bit β z' m.lit
            ∙ ap (xor z') (and_bit ds (opposite_if x (s.lits a)) (opposite_if y (s.lits b)) env β tie ag'
            ∙ ap₂ (λ (j k : Bool). j && k) (opp_if_bit β x (s.lits a) ∙ ap (xor x) (old (and_out x y z' a b) a e (here a (b ∷ [])) lg.0))
            (opp_if_bit β y (s.lits b) ∙ ap (xor y) (old (and_out x y z' a b) b e (there b a (b ∷ []) (here b [])) lg.1)))
        value (inv_out a) e ag' rd' lp = ap (lit_of β) (put_same s.lits p (opposite (s.lits a))) ∙ opp_bit β (s.lits a) ∙ ap not (old (inv_out a) a e (here a []) (logic_inv n p a e lp))
        value (buf_out a) e ag' rd' lp = ap (lit_of β) (put_same s.lits p (s.lits a)) ∙ old (buf_out a) a e (here a []) (logic_buf n p a e lp)
        value (gate_out cp en) e ag' rd' lp = absurd (lp false (carried n p false (made e)))
        value (dff_out c) e ag' rd' lp =
            let q : ℕ = s.flop_pin c in
            let w = i.flop_made_lem p c was e in
            ap (lit_of β) (put_same s.lits p (m2 c e).lit)
            ∙ and_bit (m1 c e).drivers (m1 c e).lit (rl c e) env β tie ag'
            ∙ ap₂ (λ (j k : Bool). j && k)
            (or_bit ds (2 * q) (sl c e) env β tie (agrees_keeps env β (m2_grows c e).keeps ag')
            ∙ ap₂ (λ (j k : Bool). j || not k) (even_bit β q ∙ ag q w.1 ∙ ap (env_bit env β q) w.2)
            (first_through (lit_of β) 1 true s.lits v (named n c #S) (one_bit β tie) (λ o m. old (dff_out c) o e (set_in n c o m) (dff_logic n acc p c #S o h e refl m))))
            (first_through (lit_of β) 1 true s.lits v (named n c #R) (one_bit β tie) (λ o m. old (dff_out c) o e (reset_in n c o m) (dff_logic n acc p c #R o h e refl m)))
        value (ram_out c b) e ag' rd' lp = ap (lit_of β) (put_same s.lits p (2 * length ds)) ∙ even_bit β (length ds) ∙ from (rd' c b)
          where
            here_now : put s.read_pin c (put (s.read_pin c) b (length ds)) c b ≡ length ds
            here_now = data_cases (λ w. w ≡ length ds) s.read_pin c b (length ds) c b (λ ec eb. refl) (λ ne. absurd (ne refl refl))

            from : (0 < put s.read_pin c (put (s.read_pin c) b (length ds)) c b → β (put s.read_pin c (put (s.read_pin c) b (length ds)) c b) ≡ env.read_bit c b) → β (length ds) ≡ env.read_bit c b
            from f = sym (ap β here_now) ∙ f (subst (λ (w : ℕ). 0 < w) (sym here_now) i.sound.start)
        value nothing e ag' rd' lp = ap (lit_of β) (put_same s.lits p 0) ∙ tie

      pub leave_right : (r : Role) → role n p ≡ r → Right n env v β lft s → Right n env v β (p ∷ lft) (leaving n s p r)
      leave_right r e right ag' rd' o ho m lo =
          let ag : Agrees env β ds = agrees_keeps env β (leave_keeps r e) ag' in
          let rd : Reads env β s = λ c b w. (let k : (leaving n s p r).read_pin c b ≡ s.read_pin c b = leave_data r e c b w in sym (ap β k) ∙ rd' c b (rw k w)) in
          left_cases n lft p o z m
          (λ eo. subst (λ (x : ℕ). lit_of β ((leaving n s p r).lits x) ≡ v x) (sym eo)
          (value right ag rd r e ag' rd' (subst (Logic n) eo lo) ∙ ap (rule n env v p) (sym e) ∙ sym (obey p h (subst (Logic n) eo lo))))
          (λ m' ne. ap (lit_of β) (leaving-lits n s p r o ne) ∙ right ag rd o ho m' lo)
