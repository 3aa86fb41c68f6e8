-- Tables filled a word at a time.
use mathlib.Core.Path.{◌≡◌, refl, sym, ◌∙◌, ap}
use mathlib.Core.List.{List, [], ◌∷◌, ◌++◌}
use Prim.Native.Nat.{ℕ, zero, suc, ◌+◌, ◌-◌, ◌*◌, ◌<◌, ◌≤◌}
use native.Mathlib.Omega.{arith}
use native.Mathlib.Numerals.{add-one}
use lib.ListN.{length, get_or, set, length-append, length-set}
use Rattle.texts.specs.Text.{stored}
use Rattle.texts.proofs.Bytes.{stored-append, stored-length}
use Rattle.sheets.specs.Sheets.{words_from, kinds_from, starts_from, cell_words, list_from, net_word, nets_from, Copied}

stored_nil : (t : List ℕ) (i : ℕ) → t ≡ stored t i []
unfolding stored
stored_nil t i = refl

stored_one : (t : List ℕ) (i v : ℕ) → set t i v ≡ stored t i (v ∷ [])
unfolding stored
stored_one t i v = refl

-- one word more behind those that are stored
stored_next : (out done out₁ out₂ : List ℕ) (i v : ℕ) → out₁ ≡ stored out 0 done → length done ≡ i → out₂ ≡ set out₁ i v → out₂ ≡ stored out 0 (done ++ (v ∷ []))
stored_next out done out₁ out₂ i v e c f =
    let q : 0 + length done ≡ i = omega (arith, c) in
    f ∙ stored_one out₁ i v ∙ ap (λ (l : List ℕ). stored l i (v ∷ [])) e ∙ ap (λ (k : ℕ). stored (stored out 0 done) k (v ∷ [])) (sym q) ∙ sym (stored-append done (v ∷ []) out 0)

-- ---- kinds
kinds_long : (ns ss : List ℕ) (i : ℕ) → length (kinds_from ns ss i) ≡ i
unfolding kinds_from
kinds_long ns ss zero = refl
kinds_long ns ss (suc i) = length-append (kinds_from ns ss i) (get_or ns (get_or ss i 0) 0 ∷ []) ∙ omega (arith, kinds_long ns ss i)

kinds_more : (ns ss : List ℕ) (i : ℕ) → kinds_from ns ss (i + 1) ≡ kinds_from ns ss i ++ (get_or ns (get_or ss i 0) 0 ∷ [])
unfolding kinds_from
kinds_more ns ss i = ap (λ (k : ℕ). kinds_from ns ss k) (add-one i)

pub record Kinds (ns ss : List ℕ) (n : ℕ) (out out₁ : List ℕ) (i : ℕ) : Type 0 where
  pub is : out₁ ≡ stored out 0 (kinds_from ns ss i)
  pub inside : i ≤ n
  pub long : length out₁ ≡ length out

pub kinds_begin : (ns ss : List ℕ) (n : ℕ) (out : List ℕ) → Kinds ns ss n out out 0
unfolding kinds_from
kinds_begin ns ss n out = record { is = stored_nil out 0; inside = omega arith; long = refl }

module _ (ns ss : List ℕ) (n : ℕ) (out out₁ : List ℕ) (i : ℕ) (g : Kinds ns ss n out out₁ i) where
  pub kinds_go_on : (s v : ℕ) (out₂ : List ℕ) → i < n → s ≡ get_or ss i 0 → v ≡ get_or ns s 0 → out₂ ≡ set out₁ i v → Kinds ns ss n out out₂ (i + 1)
  kinds_go_on s v out₂ l es ev e = record {
    is = stored_next out (kinds_from ns ss i) out₁ out₂ i v g.is (kinds_long ns ss i) e
        ∙ ap (λ (k : ℕ). stored out 0 (kinds_from ns ss i ++ (k ∷ []))) (ev ∙ ap (λ (k : ℕ). get_or ns k 0) es) ∙ ap (λ (l : List ℕ). stored out 0 l) (sym (kinds_more ns ss i));
    inside = omega arith;
    long = ap length e ∙ length-set out₁ i v ∙ g.long;
  }

  pub kinds_end : n ≤ i → out₁ ≡ stored out 0 (kinds_from ns ss n)
  kinds_end l = let e : i ≡ n = omega (arith, g.inside) in g.is ∙ ap (λ (k : ℕ). stored out 0 (kinds_from ns ss k)) e

-- ---- starts
starts_long : (ss : List ℕ) (i : ℕ) → length (starts_from ss i) ≡ i
unfolding starts_from
starts_long ss zero = refl
starts_long ss (suc i) = length-append (starts_from ss i) ((get_or ss i 0 - i) ∷ []) ∙ omega (arith, starts_long ss i)

starts_more : (ss : List ℕ) (i : ℕ) → starts_from ss (i + 1) ≡ starts_from ss i ++ ((get_or ss i 0 - i) ∷ [])
unfolding starts_from
starts_more ss i = ap (λ (k : ℕ). starts_from ss k) (add-one i)

pub record Starts (ss : List ℕ) (n : ℕ) (out out₁ : List ℕ) (i : ℕ) : Type 0 where
  pub is : out₁ ≡ stored out 0 (starts_from ss i)
  pub inside : i ≤ n
  pub long : length out₁ ≡ length out

pub starts_begin : (ss : List ℕ) (n : ℕ) (out : List ℕ) → Starts ss n out out 0
unfolding starts_from
starts_begin ss n out = record { is = stored_nil out 0; inside = omega arith; long = refl }

module _ (ss : List ℕ) (n : ℕ) (out out₁ : List ℕ) (i : ℕ) (g : Starts ss n out out₁ i) where
  pub starts_go_on : (s v : ℕ) (out₂ : List ℕ) → i < n → s ≡ get_or ss i 0 → v ≡ s - i → out₂ ≡ set out₁ i v → Starts ss n out out₂ (i + 1)
  starts_go_on s v out₂ l es ev e = record {
    is = stored_next out (starts_from ss i) out₁ out₂ i v g.is (starts_long ss i) e
        ∙ ap (λ (k : ℕ). stored out 0 (starts_from ss i ++ (k ∷ []))) (ev ∙ ap (λ (k : ℕ). k - i) es) ∙ ap (λ (l : List ℕ). stored out 0 l) (sym (starts_more ss i));
    inside = omega arith;
    long = ap length e ∙ length-set out₁ i v ∙ g.long;
  }

  pub starts_end : n ≤ i → out₁ ≡ stored out 0 (starts_from ss n)
  starts_end l = let e : i ≡ n = omega (arith, g.inside) in g.is ∙ ap (λ (k : ℕ). stored out 0 (starts_from ss k)) e

-- ---- words copied
words_long : (ns : List ℕ) (a k : ℕ) → length (words_from ns a k) ≡ k
unfolding words_from
words_long ns a zero = refl
words_long ns a (suc k) = ap suc (words_long ns (a + 1) k)

words_first : (ns : List ℕ) (a k : ℕ) → 0 < k → words_from ns a k ≡ get_or ns a 0 ∷ words_from ns (a + 1) (k - 1)
unfolding words_from
words_first ns a zero l = absurd (omega (arith, l))
words_first ns a (suc k) l = let e : k ≡ suc k - 1 = omega arith in ap (λ (j : ℕ). get_or ns a 0 ∷ words_from ns (a + 1) j) e

words_over : (ns : List ℕ) (a k : ℕ) → k ≤ 0 → words_from ns a k ≡ []
unfolding words_from
words_over ns a zero l = refl
words_over ns a (suc k) l = absurd (omega (arith, l))

stored_first : (t : List ℕ) (i v : ℕ) (vs : List ℕ) → stored t i (v ∷ vs) ≡ stored (set t i v) (i + 1) vs
unfolding stored
stored_first t i v vs = refl

pub record Copying (ns : List ℕ) (a k : ℕ) (out : List ℕ) (at : ℕ) (out₁ : List ℕ) (i : ℕ) : Type 0 where
  pub rest : stored out₁ (at + i) (words_from ns (a + i) (k - i)) ≡ stored out at (words_from ns a k)
  pub long : length out₁ ≡ length out

pub copy_begins : (ns : List ℕ) (a k : ℕ) (out : List ℕ) (at : ℕ) → Copying ns a k out at out 0
copy_begins ns a k out at = record {
  rest =
      let e : at + 0 ≡ at = omega arith in
      let f : a + 0 ≡ a = omega arith in
      let g : k - 0 ≡ k = omega arith in
      rw (e, f, g);
  long = refl;
}

module _ (ns : List ℕ) (a k : ℕ) (out : List ℕ) (at : ℕ) (out₁ : List ℕ) (i : ℕ) (g : Copying ns a k out at out₁ i) where
  pub copy_goes_on : (v : ℕ) (out₂ : List ℕ) → i < k → v ≡ get_or ns (a + i) 0 → out₂ ≡ set out₁ (at + i) v → Copying ns a k out at out₂ (i + 1)
  copy_goes_on v out₂ l ev e = record {
    rest = ap (λ (t : List ℕ). stored t (at + (i + 1)) (words_from ns (a + (i + 1)) (k - (i + 1)))) (e ∙ ap (λ (x : ℕ). set out₁ (at + i) x) ev) ∙ next ∙ g.rest;
    long = ap length e ∙ length-set out₁ (at + i) v ∙ g.long;
  }
    where
      next : stored (set out₁ (at + i) (get_or ns (a + i) 0)) (at + (i + 1)) (words_from ns (a + (i + 1)) (k - (i + 1))) ≡ stored out₁ (at + i) (words_from ns (a + i) (k - i))
      next =
          let e₁ : at + (i + 1) ≡ at + i + 1 = omega arith in
          let e₂ : a + (i + 1) ≡ a + i + 1 = omega arith in
          let e₃ : k - (i + 1) ≡ k - i - 1 = omega arith in
          rw (e₁, e₂, e₃, words_first ns (a + i) (k - i) (omega arith), stored_first out₁ (at + i) (get_or ns (a + i) 0) (words_from ns (a + i + 1) (k - i - 1)))

  pub copy_ends : k ≤ i → Copied ns a k out at out₁ (at + k)
  copy_ends l = record {
    is = stored_nil out₁ (at + i) ∙ ap (λ (vs : List ℕ). stored out₁ (at + i) vs) (sym (words_over ns (a + i) (k - i) (omega arith))) ∙ g.rest;
    place = refl;
  }

-- ---- lists
pub pins_count : (s e x r : ℕ) → x ≡ e - s → r ≡ x - 1 → r ≡ e - (s + 1)
pins_count s e x r p q = omega arith

list_more : (ns ss : List ℕ) (i : ℕ) → list_from ns ss (i + 1) ≡ list_from ns ss i ++ cell_words ns ss i
unfolding list_from
list_more ns ss i = ap (λ (k : ℕ). list_from ns ss k) (add-one i)

pub record Lists (ns ss : List ℕ) (n : ℕ) (out out₁ : List ℕ) (i p : ℕ) : Type 0 where
  pub is : out₁ ≡ stored out 0 (list_from ns ss i)
  pub place : p ≡ length (list_from ns ss i)
  pub inside : i ≤ n
  pub few : p ≤ 4294967295 * i
  pub long : length out₁ ≡ length out

pub lists_begin : (ns ss : List ℕ) (n : ℕ) (out : List ℕ) → Lists ns ss n out out 0 0
unfolding list_from
lists_begin ns ss n out = record { is = stored_nil out 0; place = refl; inside = omega arith; few = omega arith; long = refl }

module _ (ns ss : List ℕ) (n : ℕ) (out out₁ : List ℕ) (i p : ℕ) (g : Lists ns ss n out out₁ i p) where
  pub lists_go_on : (s k : ℕ) (out₂ : List ℕ) (q : ℕ) → i < n → s ≡ get_or ss i 0 → k ≡ get_or ss (i + 1) 0 - (get_or ss i 0 + 1) → k < 4294967296 → Copied ns (s + 1) k out₁ p out₂ q
      → Lists ns ss n out out₂ (i + 1) q
  lists_go_on s k out₂ q l es ek bk c = record {
    is = c.is ∙ ap (λ (t : List ℕ). stored t p (words_from ns (s + 1) k)) g.is ∙ ap (λ (j : ℕ). stored (stored out 0 (list_from ns ss i)) j (words_from ns (s + 1) k)) here
        ∙ sym (stored-append (list_from ns ss i) (words_from ns (s + 1) k) out 0) ∙ ap (λ (vs : List ℕ). stored out 0 vs) (sym whole);
    place = c.place ∙ sym (ap length whole ∙ length-append (list_from ns ss i) (words_from ns (s + 1) k) ∙ omega (arith, g.place, words_long ns (s + 1) k));
    inside = omega arith;
    few = omega (arith, g.few, c.place);
    long = ap length c.is ∙ stored-length (words_from ns (s + 1) k) out₁ p ∙ g.long;
  }
    where
      here : p ≡ 0 + length (list_from ns ss i)
      here = omega (arith, g.place)

      whole : list_from ns ss (i + 1) ≡ list_from ns ss i ++ words_from ns (s + 1) k
      whole = list_more ns ss i ∙ ap (λ (j : ℕ). list_from ns ss i ++ words_from ns (get_or ss i 0 + 1) j) (sym ek) ∙ ap (λ (j : ℕ). list_from ns ss i ++ words_from ns (j + 1) k) (sym es)

  pub lists_end : n ≤ i → out₁ ≡ stored out 0 (list_from ns ss n)
  lists_end l = let e : i ≡ n = omega (arith, g.inside) in g.is ∙ ap (λ (k : ℕ). stored out 0 (list_from ns ss k)) e

  pub lists_count : n ≤ i → p ≡ length (list_from ns ss n)
  lists_count l = let e : i ≡ n = omega (arith, g.inside) in g.place ∙ ap (λ (k : ℕ). length (list_from ns ss k)) e

-- ---- nets
nets_long : (ns ss : List ℕ) (first i : ℕ) → length (nets_from ns ss first i) ≡ i
unfolding nets_from
nets_long ns ss first zero = refl
nets_long ns ss first (suc i) = length-append (nets_from ns ss first i) (net_word (get_or ns (get_or ss (first + i) 0) 0) (get_or ns (get_or ss (first + i) 0 + 1) 0) ∷ []) ∙ omega (arith, nets_long ns ss first i)

nets_more : (ns ss : List ℕ) (first i : ℕ) → nets_from ns ss first (i + 1) ≡ nets_from ns ss first i ++ (net_word (get_or ns (get_or ss (first + i) 0) 0) (get_or ns (get_or ss (first + i) 0 + 1) 0) ∷ [])
unfolding nets_from
nets_more ns ss first i = ap (λ (k : ℕ). nets_from ns ss first k) (add-one i)

pub record Nets (ns ss : List ℕ) (first n : ℕ) (out out₁ : List ℕ) (i : ℕ) : Type 0 where
  pub is : out₁ ≡ stored out 0 (nets_from ns ss first i)
  pub inside : i ≤ n
  pub long : length out₁ ≡ length out

pub nets_begin : (ns ss : List ℕ) (first n : ℕ) (out : List ℕ) → Nets ns ss first n out out 0
unfolding nets_from
nets_begin ns ss first n out = record { is = stored_nil out 0; inside = omega arith; long = refl }

module _ (ns ss : List ℕ) (first n : ℕ) (out out₁ : List ℕ) (i : ℕ) (g : Nets ns ss first n out out₁ i) where
  pub nets_go_on : (s k p v : ℕ) (out₂ : List ℕ) → i < n → s ≡ get_or ss (first + i) 0 → k ≡ get_or ns s 0 → p ≡ get_or ns (s + 1) 0 → v ≡ net_word k p → out₂ ≡ set out₁ i v
      → Nets ns ss first n out out₂ (i + 1)
  nets_go_on s k p v out₂ l es ek ep ev e = record {
    is = stored_next out (nets_from ns ss first i) out₁ out₂ i v g.is (nets_long ns ss first i) e
        ∙ ap (λ (x : ℕ). stored out 0 (nets_from ns ss first i ++ (x ∷ []))) value ∙ ap (λ (l : List ℕ). stored out 0 l) (sym (nets_more ns ss first i));
    inside = omega arith;
    long = ap length e ∙ length-set out₁ i v ∙ g.long;
  }
    where
      value : v ≡ net_word (get_or ns (get_or ss (first + i) 0) 0) (get_or ns (get_or ss (first + i) 0 + 1) 0)
      value = ev ∙ ap (λ (x : ℕ). net_word x p) ek ∙ ap (λ (x : ℕ). net_word (get_or ns s 0) x) ep ∙ ap (λ (x : ℕ). net_word (get_or ns x 0) (get_or ns (x + 1) 0)) es

  pub nets_end : n ≤ i → out₁ ≡ stored out 0 (nets_from ns ss first n)
  nets_end l = let e : i ≡ n = omega (arith, g.inside) in g.is ∙ ap (λ (k : ℕ). stored out 0 (nets_from ns ss first k)) e
