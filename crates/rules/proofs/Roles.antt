-- What each role of a pin says in words of the tables, and the other way round; where the visits go.
use mathlib.Core.Path.{◌≡◌, refl, sym, ◌∙◌, ap, ap₂, subst}
use mathlib.Core.Bool.{Bool, true, false, ◌||◌}
use mathlib.Core.List.{[], ◌∷◌}
use Prim.Native.Nat.{ℕ, zero, suc, ◌+◌, ◌<◌}
use native.Mathlib.Omega.{arith}
use borrow.Author.Tests.{eqb-true}
use Rattle.std.specs.Prelude.{◌==◌}
use Rattle.laws.specs.Lists.{count}
use Rattle.laws.proofs.Tests.{by_test, true≢false}
use Rattle.laws.proofs.Bags.{at_head}
use Rattle.rules.specs.Netlist.{
  Netlist,
  cells,
  size,
  net_count,
  cell_of,
  name_of,
  bit_of,
  is_out,
  net_of,
  net_word,
  kind_of,
  Kind,
  top,
  and2,
  inv,
  buf,
  dff,
  clock_gate,
  ram,
  unfit,
  named,
  pin_named,
  in_slot,
  slots,
  #A,
  #B,
  #OUT,
  #S,
  #R,
  #CP,
  #E,
}
use Rattle.laws.specs.Lists.{any}
use Rattle.rules.specs.Build.{Role, tied, wire, out_port, in_port, and_out, inv_out, buf_out, gate_out, dff_out, ram_out, nothing, in_role, out_role, role, visits_of, next}
use Rattle.rules.specs.Refusals.{tables_number}
use Rattle.rules.proofs.Tables.{
  clash,
  cell_fits,
  net_fits_lem,
  in_keep,
  of_name,
  slot_of,
  same_pin,
  only_top,
  top_is_zero,
  out_name,
  data_name,
  net_driver,
  and_has_A,
  and_has_B,
  inv_has_A,
  buf_has_A,
  gate_has_CP,
  gate_has_E,
  dff_has_OUT,
}

-- ---- outputs: the kind of cell that a role is an output of
abbrev kind_of_role : Role → Kind
kind_of_role (tied b) = unfit
kind_of_role (wire q) = unfit
kind_of_role (out_port q) = unfit
kind_of_role in_port = top
kind_of_role (and_out x y z a b) = and2 x y z
kind_of_role (inv_out a) = inv
kind_of_role (buf_out a) = buf
kind_of_role (gate_out cp e) = clock_gate
kind_of_role (dff_out c) = dff
kind_of_role (ram_out c b) = ram
kind_of_role nothing = unfit

out_kind : (n : Netlist) (c p : ℕ) (k : Kind) → kind_of_role (out_role n c p k) ≡ k
out_kind n c p top = refl
out_kind n c p (and2 x y z) = refl
out_kind n c p inv = refl
out_kind n c p buf = refl
out_kind n c p dff = refl
out_kind n c p clock_gate = refl
out_kind n c p ram = refl
out_kind n c p unfit = refl

in_kind : (b : Bool) (w : ℕ) → kind_of_role (in_role b w) ≡ unfit
in_kind b zero = refl
in_kind b (suc zero) = refl
in_kind true (suc (suc q)) = refl
in_kind false (suc (suc q)) = refl

-- an output has its cell's kind
role_out : (n : Netlist) (p : ℕ) (k : Kind) → kind_of_role (role n p) ≡ k → (k ≡ unfit → ⊥)
    → (is_out n p ≡ true) × (kind_of n (cell_of n p) ≡ k) × (role n p ≡ out_role n (cell_of n p) p k)
role_out n p k e ne = by_test (is_out n p)
    (λ t. let w : kind_of_role (out_role n (cell_of n p) p (kind_of n (cell_of n p))) ≡ k = rw t at e in
    let q : kind_of n (cell_of n p) ≡ k = sym (out_kind n (cell_of n p) p (kind_of n (cell_of n p))) ∙ w in
    (t, q, rw t (ap (out_role n (cell_of n p) p) q)))
    (λ f. absurd (ne (sym (rw f at e) ∙ in_kind (cell_of n p == 0) (net_word n (net_of n p)))))

-- an out pin by its kind
pub out_is : (n : Netlist) (p : ℕ) (k : Kind) → is_out n p ≡ true → kind_of n (cell_of n p) ≡ k → role n p ≡ out_role n (cell_of n p) p k
out_is n p k t e = rw t (ap (out_role n (cell_of n p) p) e)

module _ (n : Netlist) where
  pub inv_words : (q a : ℕ) → role n q ≡ inv_out a → (is_out n q ≡ true) × (kind_of n (cell_of n q) ≡ inv) × (a ≡ pin_named n (cell_of n q) #A)
  inv_words q a e = let w = role_out n q inv (ap kind_of_role e) (λ e'. clash (cc)) in
      (w.0, w.1, (let z : a ≡ pin_named n (cell_of n q) #A = cc (w.2, e) in z))

  pub buf_words : (q a : ℕ) → role n q ≡ buf_out a → (is_out n q ≡ true) × (kind_of n (cell_of n q) ≡ buf) × (a ≡ pin_named n (cell_of n q) #A)
  buf_words q a e = let w = role_out n q buf (ap kind_of_role e) (λ e'. clash (cc)) in
      (w.0, w.1, (let z : a ≡ pin_named n (cell_of n q) #A = cc (w.2, e) in z))

  pub gate_words : (q cp en : ℕ) → role n q ≡ gate_out cp en
      → (is_out n q ≡ true) × (kind_of n (cell_of n q) ≡ clock_gate) × (cp ≡ pin_named n (cell_of n q) #CP) × (en ≡ pin_named n (cell_of n q) #E)
  gate_words q cp en e = let w = role_out n q clock_gate (ap kind_of_role e) (λ e'. clash (cc)) in
      (w.0, w.1, (let z : cp ≡ pin_named n (cell_of n q) #CP = cc (w.2, e) in z), (let z : en ≡ pin_named n (cell_of n q) #E = cc (w.2, e) in z))

  pub and_words : (p a b : ℕ) (x y z : Bool) → role n p ≡ and_out x y z a b
      → (is_out n p ≡ true) × (kind_of n (cell_of n p) ≡ and2 x y z) × (a ≡ pin_named n (cell_of n p) #A) × (b ≡ pin_named n (cell_of n p) #B)
  and_words p a b x y z e = let w = role_out n p (and2 x y z) (ap kind_of_role e) (λ e'. clash (cc)) in
      (w.0, w.1, (let u : a ≡ pin_named n (cell_of n p) #A = cc (w.2, e) in u), (let u : b ≡ pin_named n (cell_of n p) #B = cc (w.2, e) in u))

  pub dff_words : (p c : ℕ) → role n p ≡ dff_out c → (is_out n p ≡ true) × (kind_of n c ≡ dff) × (cell_of n p ≡ c)
  dff_words p c e =
      let w = role_out n p dff (ap kind_of_role e) (λ e'. clash (cc)) in
      let ec : cell_of n p ≡ c = cc (w.2, e) in
      (w.0, rw ec at w.1, ec)

  pub ram_words_lem : (p c b : ℕ) → role n p ≡ ram_out c b → (is_out n p ≡ true) × (kind_of n c ≡ ram) × (cell_of n p ≡ c) × (bit_of n p ≡ b)
  ram_words_lem p c b e =
      let w = role_out n p ram (ap kind_of_role e) (λ e'. clash (cc)) in
      let ec : cell_of n p ≡ c = cc (w.2, e) in
      (w.0, rw ec at w.1, ec, (let eb : bit_of n p ≡ b = cc (w.2, e) in eb))

-- ---- in pins
abbrev is_in : Role → Bool
is_in (tied b) = true
is_in (wire q) = true
is_in (out_port q) = true
is_in in_port = false
is_in (and_out x y z a b) = false
is_in (inv_out a) = false
is_in (buf_out a) = false
is_in (gate_out cp e) = false
is_in (dff_out c) = false
is_in (ram_out c b) = false
is_in nothing = false

out_not_in : (n : Netlist) (c p : ℕ) (k : Kind) → is_in (out_role n c p k) ≡ false
out_not_in n c p top = refl
out_not_in n c p (and2 x y z) = refl
out_not_in n c p inv = refl
out_not_in n c p buf = refl
out_not_in n c p dff = refl
out_not_in n c p clock_gate = refl
out_not_in n c p ram = refl
out_not_in n c p unfit = refl

role_in : (n : Netlist) (p : ℕ) → is_in (role n p) ≡ true → is_out n p ≡ false
role_in n p e = by_test (is_out n p)
    (λ t. true≢false (is_in (out_role n (cell_of n p) p (kind_of n (cell_of n p)))) (rw t at e) (out_not_in n (cell_of n p) p (kind_of n (cell_of n p))))
    (λ f. f)

pub in_is : (n : Netlist) (p : ℕ) → is_out n p ≡ false → role n p ≡ in_role (cell_of n p == 0) (net_word n (net_of n p))
in_is n p f = rw f

in_wire : (w q : ℕ) (b : Bool) → in_role b w ≡ wire q → w ≡ 2 + q
in_wire zero q b e = clash (cc)
in_wire (suc zero) q b e = clash (cc)
in_wire (suc (suc w)) q true e = clash (cc)
in_wire (suc (suc w)) q false e = let z : w ≡ q = cc in omega (arith, z)

in_port_bit : (w q : ℕ) (b : Bool) → in_role b w ≡ out_port q → (b ≡ true) × (w ≡ 2 + q)
in_port_bit zero q b e = clash (cc)
in_port_bit (suc zero) q b e = clash (cc)
in_port_bit (suc (suc w)) q true e = (refl, (let z : w ≡ q = cc in omega (arith, z)))
in_port_bit (suc (suc w)) q false e = clash (cc)

in_tied : (w : ℕ) (b c : Bool) → in_role b w ≡ tied c → w < 2
in_tied zero b c e = omega arith
in_tied (suc zero) b c e = omega arith
in_tied (suc (suc w)) true c e = clash (cc)
in_tied (suc (suc w)) false c e = clash (cc)

module _ (n : Netlist) where
  pub wire_words : (p q : ℕ) → role n p ≡ wire q → (is_out n p ≡ false) × (net_word n (net_of n p) ≡ 2 + q)
  wire_words p q e = let f = role_in n p (ap is_in e) in (f, in_wire (net_word n (net_of n p)) q (cell_of n p == 0) (rw f at e))

  pub port_words : (p q : ℕ) → role n p ≡ out_port q → (is_out n p ≡ false) × (net_word n (net_of n p) ≡ 2 + q) × (cell_of n p ≡ 0)
  port_words p q e =
      let f = role_in n p (ap is_in e) in
      let w = in_port_bit (net_word n (net_of n p)) q (cell_of n p == 0) (rw f at e) in
      (f, w.1, eqb-true (cell_of n p) 0 w.0)

  pub tied_words : (p : ℕ) (b : Bool) → role n p ≡ tied b → (is_out n p ≡ false) × (net_word n (net_of n p) < 2)
  tied_words p b e = let f = role_in n p (ap is_in e) in (f, in_tied (net_word n (net_of n p)) (cell_of n p == 0) b (rw f at e))

  -- on a driven net
  pub driven_is : (p q : ℕ) (b : Bool) → is_out n p ≡ false → net_word n (net_of n p) ≡ 2 + q → (cell_of n p == 0) ≡ b → role n p ≡ in_role b (suc (suc q))
  driven_is p q b f e eb = let e' : net_word n (net_of n p) ≡ suc (suc q) = omega (arith, e) in in_is n p f ∙ ap₂ in_role eb e'

-- ---- roles of accepted tables
module _ (n : Netlist) (tab : tables_number n ≡ 0) where
  -- an input port
  pub input_words : (q : ℕ) → q < size n → role n q ≡ in_port → (is_out n q ≡ true) × (cell_of n q ≡ 0)
  input_words q h e = let w = role_out n q top (ap kind_of_role e) (λ e'. clash (cc)) in (w.0, only_top n tab (cell_of n q) (cell_fits n tab q h) w.1)

  pub input_is : (p : ℕ) → p < size n → is_out n p ≡ true → cell_of n p ≡ 0 → role n p ≡ in_port
  input_is p h t e = out_is n p top t (ap (kind_of n) e ∙ top_is_zero n tab (omega (arith, cell_fits n tab p h)))

  -- a pin of a cell that has an output's name is one, where no slot of the kind lets it be an in pin
  pub named_out : (c o m : ℕ) (k : Kind) → (k ≡ top → ⊥) → c < cells n → kind_of n c ≡ k → 0 < count o (named n c m)
      → (is_out n o ≡ false → name_of n o ≡ m → any (in_slot n o) (slots k) ≡ true → ⊥) → (o < size n) × (cell_of n o ≡ c) × (role n o ≡ out_role n c o k)
  named_out c o m k ne h e w f =
      let a = of_name n tab c o m h w in
      let ek : kind_of n (cell_of n o) ≡ k = rw a.1 e in (
        a.0,
        a.1,
        by_test (is_out n o)
            (λ t. out_is n o k t ek ∙ ap (λ (x : ℕ). out_role n x o k) a.1)
            (λ g. absurd (f g a.2 (slot_of n tab k ne o a.0 ek))),
      )

  -- one output for a flip-flop, one for each bit of a RAM's read data
  dff_name : (p : ℕ) → p < size n → is_out n p ≡ true → kind_of n (cell_of n p) ≡ dff → (name_of n p ≡ #OUT) × (bit_of n p ≡ 0)
  dff_name p h t e = out_name n tab dff (λ e'. clash (cc)) p h e (λ w. rw t at w)

  pub dff_unique : (p q c : ℕ) → p < size n → q < size n → role n p ≡ dff_out c → role n q ≡ dff_out c → p ≡ q
  dff_unique p q c hp hq ep eq =
      let wp = dff_words n p c ep in let wq = dff_words n q c eq in
      let kp : kind_of n (cell_of n p) ≡ dff = rw wp.2 wp.1 in let kq : kind_of n (cell_of n q) ≡ dff = rw wq.2 wq.1 in
      let np = dff_name p hp wp.0 kp in let nq = dff_name q hq wq.0 kq in
      same_pin n tab p q hp hq (λ e'. clash (cc)) (wp.2 ∙ sym wq.2) (np.0 ∙ sym nq.0) (np.1 ∙ sym nq.1)

  pub dff_output : (c : ℕ) → c < cells n → kind_of n c ≡ dff → (p : ℕ) × (p < size n) × (role n p ≡ dff_out c)
  dff_output c h e =
      let p : ℕ = pin_named n c #OUT in
      let w = named_out c p #OUT dff (λ e'. clash (cc)) h e (dff_has_OUT n tab c e h) (λ g nm sl. true≢false false (rw (g, nm) at sl) refl) in
      (p, w.0, w.2)

  pub ram_bit : (p c b : ℕ) → p < size n → role n p ≡ ram_out c b → b < 32
  ram_bit p c b h e = let w = ram_words_lem n p c b e in rw w.3 at (data_name n tab p h w.0 (rw w.2 w.1)).1

  pub ram_unique : (p q c b : ℕ) → p < size n → q < size n → role n p ≡ ram_out c b → role n q ≡ ram_out c b → p ≡ q
  ram_unique p q c b hp hq ep eq =
      let wp = ram_words_lem n p c b ep in let wq = ram_words_lem n q c b eq in
      let kp : kind_of n (cell_of n p) ≡ ram = rw wp.2 wp.1 in let kq : kind_of n (cell_of n q) ≡ ram = rw wq.2 wq.1 in
      let np = data_name n tab p hp wp.0 kp in let nq = data_name n tab q hq wq.0 kq in
      same_pin n tab p q hp hq (λ e'. clash (cc)) (wp.2 ∙ sym wq.2) (np.0 ∙ sym nq.0) (wp.3 ∙ sym wq.3)

  -- ---- the visits stay inside
  one_of : (x o : ℕ) → 0 < count o (x ∷ []) → o ≡ x
  one_of x o m = at_head o x [] m (λ e. e) (λ m'. absurd (omega arith))

  two_of : {P : Type 0} (x y o : ℕ) → 0 < count o (x ∷ y ∷ []) → (o ≡ x → P) → (o ≡ y → P) → P
  two_of x y o m p q = at_head o x (y ∷ []) m p (λ m'. q (one_of y o m'))

  in_closed : (b : Bool) (t o w : ℕ) → t < net_count n → net_word n t ≡ w → 0 < count o (visits_of n (in_role b w)) → o < size n
  in_closed b t o zero h e m = absurd (omega arith)
  in_closed b t o (suc zero) h e m = absurd (omega arith)
  in_closed true t o (suc (suc q)) h e m = rw (one_of q o m) (net_driver n tab t q h e).0
  in_closed false t o (suc (suc q)) h e m = rw (one_of q o m) (net_driver n tab t q h e).0

  by_name_lem : (c m : ℕ) → c < cells n → 0 < count (pin_named n c m) (named n c m) → pin_named n c m < size n
  by_name_lem c m h w = (of_name n tab c (pin_named n c m) m h w).0

  out_closed : (c p o : ℕ) (k : Kind) → kind_of n c ≡ k → c < cells n → 0 < count o (visits_of n (out_role n c p k)) → o < size n
  out_closed c p o top e h m = absurd (omega arith)
  out_closed c p o (and2 x y z) e h m = two_of (pin_named n c #A) (pin_named n c #B) o m
      (λ q. rw q (by_name_lem c #A h (and_has_A n tab c x y z e h))) (λ q. rw q (by_name_lem c #B h (and_has_B n tab c x y z e h)))
  out_closed c p o inv e h m = rw (one_of (pin_named n c #A) o m) (by_name_lem c #A h (inv_has_A n tab c e h))
  out_closed c p o buf e h m = rw (one_of (pin_named n c #A) o m) (by_name_lem c #A h (buf_has_A n tab c e h))
  out_closed c p o dff e h m = in_keep n tab (λ q. (name_of n q == #S) || (name_of n q == #R)) c o h m
  out_closed c p o clock_gate e h m = two_of (pin_named n c #CP) (pin_named n c #E) o m
      (λ q. rw q (by_name_lem c #CP h (gate_has_CP n tab c e h))) (λ q. rw q (by_name_lem c #E h (gate_has_E n tab c e h)))
  out_closed c p o ram e h m = absurd (omega arith)
  out_closed c p o unfit e h m = absurd (omega arith)

  pub next_closed : (p o : ℕ) → p < size n → 0 < count o (next n p) → o < size n
  next_closed p o h m = by_test (is_out n p)
      (λ t. out_closed (cell_of n p) p o (kind_of n (cell_of n p)) refl (cell_fits n tab p h) (rw t at m))
      (λ f. in_closed (cell_of n p == 0) (net_of n p) o (net_word n (net_of n p)) (net_fits_lem n tab p h) refl (rw f at m))

  -- the same, by the role
  pub visit_fits : (p o : ℕ) (r : Role) → p < size n → role n p ≡ r → 0 < count o (visits_of n r) → o < size n
  visit_fits p o r h e m = next_closed p o h (subst (λ (x : Role). 0 < count o (visits_of n x)) (sym e) m)
