-- The word of a flag: how it is read, and what it is when a flag more is there.
use mathlib.Core.Path.{◌≡◌, refl, sym, ap, subst, ◌∙◌}
use mathlib.Core.Bool.{Bool, true, false}
use mathlib.Core.List.{List, [], ◌∷◌, ◌++◌}
use Prim.Native.Nat.{ℕ, suc, ◌+◌, ◌*◌, ◌≤◌, ◌<◌}
use native.Mathlib.Omega.{arith}
use lib.ListN.{length, set}
use borrow.Author.Tests.{lt-ltb, le-ltb, ltb-true, ltb-false}
use Rattle.std.specs.Prelude.{if◌then◌else◌}
use Rattle.laws.specs.Tests.{◌<?◌}
use Rattle.laws.proofs.Tests.{by_test, true≢false}
use Rattle.laws.proofs.Words.{get_d_set}
use Rattle.rules.specs.declared.Edge.{Edge}
use Rattle.rules.specs.declared.Edge.TheVariants.{Rising, Falling}
use Rattle.rules.specs.declared.Driver.{Driver}
use Rattle.rules.specs.declared.Driver.TheVariants.{Flag, Constant}
use Rattle.rules.specs.Graph.{driver_at, first_pin}
use Rattle.rules.specs.Tables.{edge_word}
use Rattle.rules.specs.Build.{is_flag, flag_for}
use Rattle.drivers.proofs.Rows.{one-longer}
use Rattle.builds.proofs.Ands.{first_found, flag_self, flag_only}
use Rattle.drafts.specs.Layout.{flag_word, Flags}

pub edge_le : (e : Edge) → edge_word e ≤ 1
edge_le Rising = omega arith
edge_le Falling = omega arith

edge_same : (e f : Edge) → edge_word e ≡ edge_word f → e ≡ f
edge_same Rising Rising q = refl
edge_same Rising Falling q = absurd (omega (arith, q))
edge_same Falling Rising q = absurd (omega (arith, q))
edge_same Falling Falling q = refl

-- ---- the first pin that passes a test, with a driver more at the end
module _ (t : Driver → Bool) (d : Driver) where
  first_old : (ds : List Driver) → first_pin t ds < length ds → first_pin t (ds ++ (d ∷ [])) ≡ first_pin t ds
  first_old [] h = absurd (omega arith)
  first_old (x ∷ ds) h = by_test (t x) (λ y. rw y refl)
      (λ f. let h' : (if false then 0 else suc (first_pin t ds)) < suc (length ds) = subst (λ (b : Bool). (if b then 0 else suc (first_pin t ds)) < suc (length ds)) f h in
      rw f (ap suc (first_old ds (omega (arith, h')))))

  first_new : (ds : List Driver) → length ds ≤ first_pin t ds → t d ≡ true → first_pin t (ds ++ (d ∷ [])) ≡ length ds
  first_new [] h y = rw y refl
  first_new (x ∷ ds) h y = by_test (t x)
      (λ z. let h' : suc (length ds) ≤ (if true then 0 else suc (first_pin t ds)) = subst (λ (b : Bool). suc (length ds) ≤ (if b then 0 else suc (first_pin t ds))) z h in
      absurd (omega (arith, h')))
      (λ f. let h' : suc (length ds) ≤ (if false then 0 else suc (first_pin t ds)) = subst (λ (b : Bool). suc (length ds) ≤ (if b then 0 else suc (first_pin t ds))) f h in
      rw f (ap suc (first_new ds (omega (arith, h')) y)))

  first_none : (ds : List Driver) → length ds ≤ first_pin t ds → t d ≡ false → length ds + 1 ≤ first_pin t (ds ++ (d ∷ []))
  first_none [] h n = rw n (omega arith)
  first_none (x ∷ ds) h n = by_test (t x)
      (λ z. let h' : suc (length ds) ≤ (if true then 0 else suc (first_pin t ds)) = subst (λ (b : Bool). suc (length ds) ≤ (if b then 0 else suc (first_pin t ds))) z h in
      absurd (omega (arith, h')))
      (λ f. let h' : suc (length ds) ≤ (if false then 0 else suc (first_pin t ds)) = subst (λ (b : Bool). suc (length ds) ≤ (if b then 0 else suc (first_pin t ds))) f h in
      rw f (omega (arith, first_none ds (omega (arith, h')) n)))

-- ---- the word of a flag
module _ (ds : List Driver) (q : ℕ) (e : Edge) where
  found_word : first_pin (is_flag q e) ds < length ds → flag_word ds q e ≡ first_pin (is_flag q e) ds
  unfolding flag_word
  found_word l = rw (lt-ltb (first_pin (is_flag q e) ds) (length ds) l)

  none_word : length ds ≤ first_pin (is_flag q e) ds → flag_word ds q e ≡ 0
  unfolding flag_word
  none_word l = rw (le-ltb (first_pin (is_flag q e) ds) (length ds) l)

  by_pin : {P : Type 0} → (first_pin (is_flag q e) ds < length ds → P) → (length ds ≤ first_pin (is_flag q e) ds → P) → P
  by_pin y n = by_test (first_pin (is_flag q e) ds <? length ds)
      (λ t. y (ltb-true (first_pin (is_flag q e) ds) (length ds) t))
      (λ f. n (ltb-false (first_pin (is_flag q e) ds) (length ds) f))

  pub word_found : (flag_word ds q e ≡ 0 → ⊥) → first_pin (is_flag q e) ds < length ds
  word_found ne = by_pin (λ l. l) (λ l. absurd (ne (none_word l)))

  -- pin 0 is no flag
  pub word_none : driver_at ds 0 ≡ Constant → flag_word ds q e ≡ 0 → length ds ≤ first_pin (is_flag q e) ds
  word_none c z = by_pin
      (λ l. let p : first_pin (is_flag q e) ds ≡ 0 = sym (found_word l) ∙ z in
      true≢false (is_flag q e (driver_at ds 0)) (subst (λ (u : ℕ). is_flag q e (driver_at ds u) ≡ true) p (first_found (is_flag q e) ds l)) (ap (is_flag q e) c))
      (λ l. l)

  pub word_other : (d : Driver) → is_flag q e d ≡ false → flag_word (ds ++ (d ∷ [])) q e ≡ flag_word ds q e
  unfolding flag_word
  word_other d n = by_pin
      (λ l. let p = first_old (is_flag q e) d ds l in
      let l' : first_pin (is_flag q e) (ds ++ (d ∷ [])) < length (ds ++ (d ∷ [])) = omega (arith, l, p, one-longer ds d) in
      rw (lt-ltb (first_pin (is_flag q e) (ds ++ (d ∷ []))) (length (ds ++ (d ∷ []))) l', lt-ltb (first_pin (is_flag q e) ds) (length ds) l) p)
      (λ l. let p = first_none (is_flag q e) d ds l n in
      rw (le-ltb (first_pin (is_flag q e) (ds ++ (d ∷ []))) (length (ds ++ (d ∷ []))) (omega (arith, p, one-longer ds d)), le-ltb (first_pin (is_flag q e) ds) (length ds) l))

pub word_alone : (q : ℕ) (e : Edge) → flag_word (Constant ∷ []) q e ≡ 0
word_alone q e = none_word (Constant ∷ []) q e (omega arith)

-- ---- a flag more
module _ (ds : List Driver) (q : ℕ) (e : Edge) (l : length ds ≤ first_pin (is_flag q e) ds) where
  pub word_new : flag_word (ds ++ (Flag q e ∷ [])) q e ≡ length ds
  unfolding flag_word
  word_new =
      let p = first_new (is_flag q e) (Flag q e) ds l (flag_self q e) in
      let l' : first_pin (is_flag q e) (ds ++ (Flag q e ∷ [])) < length (ds ++ (Flag q e ∷ [])) = omega (arith, p, one-longer ds (Flag q e)) in
      rw (lt-ltb (first_pin (is_flag q e) (ds ++ (Flag q e ∷ []))) (length (ds ++ (Flag q e ∷ []))) l') p

  pub made_new : (flag_for ds q e).drivers ≡ ds ++ (Flag q e ∷ [])
  made_new = rw (le-ltb (first_pin (is_flag q e) ds) (length ds) l)

  -- the flag is written behind the others
  pub flags_more : (m : ℕ) (w : List ℕ) → Flags m w ds → q < m → 6 * m ≤ length w → Flags m (set w (4 * m + 2 * q + edge_word e) (length ds)) (ds ++ (Flag q e ∷ []))
  flags_more m w f h long = record {
    words = λ q' e' h'.
        get_d_set w (4 * m + 2 * q + edge_word e) (4 * m + 2 * q' + edge_word e') (length ds) (λ (v : ℕ). v ≡ flag_word (ds ++ (Flag q e ∷ [])) q' e')
        (omega (arith, h, long, edge_le e))
        (λ s. let eq : q' ≡ q = omega (arith, s, edge_le e, edge_le e') in
        let ee : e' ≡ e = edge_same e' e (omega (arith, s, eq)) in
        sym word_new ∙ λ i. flag_word (ds ++ (Flag q e ∷ [])) (sym eq i) (sym ee i))
        (λ ne. f.words q' e' h' ∙ sym (other q' e' ne));
  }
    where
      other : (q' : ℕ) (e' : Edge) → (4 * m + 2 * q' + edge_word e' ≡ 4 * m + 2 * q + edge_word e → ⊥)
          → flag_word (ds ++ (Flag q e ∷ [])) q' e' ≡ flag_word ds q' e'
      other q' e' ne = word_other ds q' e' (Flag q e) (by_test (is_flag q' e' (Flag q e))
          (λ t. let s : Flag q e ≡ Flag q' e' = flag_only q' e' (Flag q e) t in
          let a : q ≡ q' = cc in let b : e ≡ e' = cc in
          absurd (ne (λ i. 4 * m + 2 * sym a i + edge_word (sym b i))))
          (λ f'. f'))
