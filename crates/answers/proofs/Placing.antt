-- Laws of printing: one piece behind another, and a loop that prints pieces up to a whole.
use mathlib.Core.Path.{◌≡◌, refl, sym, ◌∙◌, ap, subst}
use mathlib.Core.Bool.{true, false}
use mathlib.Core.List.{List, [], ◌∷◌, ◌++◌, append_assoc, append-nil}
use Prim.Native.Nat.{ℕ, zero, suc, ◌+◌, ◌-◌, ◌/◌, ◌%◌, ◌<◌, ◌≤◌, min}
use native.Mathlib.Omega.{arith}
use native.Mathlib.Numerals.{add-one}
use borrow.Author.Tests.{eq-eqb, ne_eqb, le-leb, lt-leb, leb-true, leb-false}
use lib.ListN.{length, get_or, take, drop, set, length-append, length-set, length-drop}
use lib.Seq.{drop-cons, drop-length, set_out, take_all}
use Rattle.std.proofs.Common.{◌⊎◌, inl, inr}
use Rattle.laws.specs.Tests.{◌≤?◌}
use Rattle.laws.specs.Words.{part}
use Rattle.laws.proofs.Tests.{by_test}
use Rattle.texts.specs.Text.{stored}
use Rattle.texts.proofs.Bytes.{stored-append, stored-length}
use Rattle.answers.specs.Printing.{reach, Printed, digit_at, digits_from, decimal, field_bytes, fields_bytes, line_bytes}

-- ---- places
module _ (room at n : ℕ) where
  reach_in : at + n ≤ room → reach room at n ≡ at + n
  reach_in l = rw (le-leb (at + n) room l)

  reach_end : room < at + n → at ≤ room → reach room at n ≡ room
  reach_end l h = rw (lt-leb (at + n) room l, le-leb at room h)

  reach_past : room < at → reach room at n ≡ at
  reach_past l = rw (lt-leb (at + n) room (omega arith), lt-leb at room l)

-- nothing is stored past the end
stored_past : (ws t : List ℕ) (i : ℕ) → length t ≤ i → stored t i ws ≡ t
unfolding stored
stored_past [] t i l = refl
stored_past (w ∷ ws) t i l = stored_past ws (set t i w) (i + 1) (omega (arith, length-set t i w)) ∙ set_out t i w l

module _ (out : List ℕ) (at : ℕ) (xs ys out₁ : List ℕ) (a : ℕ) (out₂ : List ℕ) (b : ℕ) (p : Printed out at xs out₁ a) (q : Printed out₁ a ys out₂ b) where
  long : length out₁ ≡ length out
  long = ap length p.is ∙ stored-length xs out at

  whole : length (xs ++ ys) ≡ length xs + length ys
  whole = length-append xs ys

  place₂ : b ≡ reach (length out) a (length ys)
  place₂ = q.place ∙ ap (λ (k : ℕ). reach k a (length ys)) long

  is₂ : out₂ ≡ stored (stored out at xs) a ys
  is₂ = q.is ∙ ap (λ (l : List ℕ). stored l a ys) p.is

  both : stored out at (xs ++ ys) ≡ stored (stored out at xs) (at + length xs) ys
  both = stored-append xs ys out at

  still : length out ≤ at + length xs → length out ≤ a → out₂ ≡ stored out at (xs ++ ys)
  still l h =
      is₂ ∙ stored_past ys (stored out at xs) a (omega (arith, stored-length xs out at))
      ∙ sym (both ∙ stored_past ys (stored out at xs) (at + length xs) (omega (arith, stored-length xs out at)))

  pub printed_then : Printed out at (xs ++ ys) out₂ b
  printed_then = by_test (at + length xs ≤? length out)
      (λ t. let e : a ≡ at + length xs = p.place ∙ reach_in (length out) at (length xs) (leb-true (at + length xs) (length out) t) in
      record {
        is = is₂ ∙ ap (λ (k : ℕ). stored (stored out at xs) k ys) e ∙ sym both;
        place = place₂ ∙ ap (λ (k : ℕ). reach (length out) k (length ys)) e ∙ in_reach (leb-true (at + length xs) (length out) t);
      })
      (λ f. by_test (at ≤? length out)
      (λ t. let e : a ≡ length out = p.place ∙ reach_end (length out) at (length xs) (leb-false (at + length xs) (length out) f) (leb-true at (length out) t) in
      record {
        is = still (omega (arith, leb-false (at + length xs) (length out) f)) (omega (arith, e));
        place = place₂ ∙ ap (λ (k : ℕ). reach (length out) k (length ys)) e ∙ at_end (length out) (length ys)
            ∙ sym (reach_end (length out) at (length (xs ++ ys)) (omega (arith, whole, leb-false (at + length xs) (length out) f)) (leb-true at (length out) t));
      })
      (λ g. let e : a ≡ at = p.place ∙ reach_past (length out) at (length xs) (leb-false at (length out) g) in
      record {
        is = still (omega (arith, leb-false (at + length xs) (length out) f)) (omega (arith, e, leb-false at (length out) g));
        place = place₂ ∙ ap (λ (k : ℕ). reach (length out) k (length ys)) e ∙ reach_past (length out) at (length ys) (leb-false at (length out) g)
            ∙ sym (reach_past (length out) at (length (xs ++ ys)) (leb-false at (length out) g));
      }))
    where
      at_end : (room n : ℕ) → reach room room n ≡ room
      at_end room n = by_test (room + n ≤? room)
          (λ t. reach_in room room n (leb-true (room + n) room t) ∙ omega (arith, leb-true (room + n) room t))
          (λ f. reach_end room room n (leb-false (room + n) room f) (omega arith))

      in_reach : at + length xs ≤ length out → reach (length out) (at + length xs) (length ys) ≡ reach (length out) at (length (xs ++ ys))
      in_reach l = by_test (at + length xs + length ys ≤? length out)
          (λ t. reach_in (length out) (at + length xs) (length ys) (leb-true (at + length xs + length ys) (length out) t)
          ∙ sym (reach_in (length out) at (length (xs ++ ys)) (omega (arith, whole, leb-true (at + length xs + length ys) (length out) t)) ∙ omega (arith, whole)))
          (λ f. reach_end (length out) (at + length xs) (length ys) (leb-false (at + length xs + length ys) (length out) f) l
          ∙ sym (reach_end (length out) at (length (xs ++ ys)) (omega (arith, whole, leb-false (at + length xs + length ys) (length out) f)) (omega arith)))

pub printed_none : (out : List ℕ) (at : ℕ) → Printed out at [] out at
unfolding stored
printed_none out at = record {
  is = refl;
  place = by_test (at + 0 ≤? length out)
      (λ t. sym (reach_in (length out) at 0 (leb-true (at + 0) (length out) t) ∙ omega arith))
      (λ f. sym (reach_past (length out) at 0 (omega (arith, leb-false (at + 0) (length out) f))));
}

pub printed_byte : (out : List ℕ) (at b : ℕ) → at < length out → Printed out at (b ∷ []) (set out at b) (at + 1)
unfolding stored
printed_byte out at b l = record { is = refl; place = sym (reach_in (length out) at 1 (omega arith)) }

pub printed_past : (out : List ℕ) (at b : ℕ) → length out ≤ at → Printed out at (b ∷ []) out at
printed_past out at b l = record {
  is = sym (stored_past (b ∷ []) out at l);
  place = by_test (at ≤? length out)
      (λ t. sym (reach_end (length out) at 1 (omega (arith, l)) (leb-true at (length out) t) ∙ omega (arith, l, leb-true at (length out) t)))
      (λ f. sym (reach_past (length out) at 1 (leb-false at (length out) f)));
}

-- the same bytes by another name
pub printed_is : (out : List ℕ) (at : ℕ) (xs ys out₁ : List ℕ) (a : ℕ) → xs ≡ ys → Printed out at xs out₁ a → Printed out at ys out₁ a
printed_is out at xs ys out₁ a e p = subst (λ (l : List ℕ). Printed out at l out₁ a) e p

-- ---- a loop: what is printed so far, and what is left of the whole
pub record Printing (out : List ℕ) (at : ℕ) (whole out₁ : List ℕ) (a : ℕ) (rest : List ℕ) : Type 0 where
  pub done : List ℕ
  pub so_far : Printed out at done out₁ a
  pub left : done ++ rest ≡ whole
  pub long : length out₁ ≡ length out

pub printing_begins : (out : List ℕ) (at : ℕ) (whole : List ℕ) → Printing out at whole out at whole
printing_begins out at whole = record { done = []; so_far = printed_none out at; left = refl; long = refl }

module _ (out : List ℕ) (at : ℕ) (whole out₁ : List ℕ) (a : ℕ) (rest : List ℕ) (g : Printing out at whole out₁ a rest) where
  pub printing_more : (xs rest' out₂ : List ℕ) (b : ℕ) → rest ≡ xs ++ rest' → Printed out₁ a xs out₂ b → Printing out at whole out₂ b rest'
  printing_more xs rest' out₂ b e p = record {
    done = g.done ++ xs;
    so_far = printed_then out at g.done xs out₁ a out₂ b g.so_far p;
    left = append_assoc g.done xs rest' ∙ ap (λ (l : List ℕ). g.done ++ l) (sym e) ∙ g.left;
    long = ap length p.is ∙ stored-length xs out₁ a ∙ g.long;
  }

  pub printing_ends : rest ≡ [] → Printed out at whole out₁ a
  printing_ends e = printed_is out at g.done whole out₁ a (sym (append-nil g.done) ∙ ap (λ (l : List ℕ). g.done ++ l) (sym e) ∙ g.left) g.so_far

-- ---- bytes
pub record Bytes (out : List ℕ) (at : ℕ) (w out₁ : List ℕ) (a i : ℕ) : Type 0 where
  pub printing : Printing out at w out₁ a (drop i w)
  pub inside : i ≤ length w

pub bytes_begin : (out : List ℕ) (at : ℕ) (w : List ℕ) → Bytes out at w out at 0
bytes_begin out at w = record { printing = printing_begins out at w; inside = omega arith }

module _ (out : List ℕ) (at : ℕ) (w out₁ : List ℕ) (a i : ℕ) (g : Bytes out at w out₁ a i) where
  pub bytes_go_on : (out₂ : List ℕ) (b : ℕ) → i < length w → Printed out₁ a (get_or w i 0 ∷ []) out₂ b → Bytes out at w out₂ b (i + 1)
  bytes_go_on out₂ b l p = record {
    printing = printing_more out at w out₁ a (drop i w) g.printing (get_or w i 0 ∷ []) (drop (i + 1) w) out₂ b
        (drop-cons w i 0 l ∙ ap (λ (k : ℕ). get_or w i 0 ∷ drop k w) (sym (add-one i))) p;
    inside = omega arith;
  }

  pub bytes_end : length w ≤ i → Printed out at w out₁ a
  bytes_end l = let e : i ≡ length w = omega (arith, g.inside) in printing_ends out at w out₁ a (drop i w) g.printing (ap (λ (k : ℕ). drop k w) e ∙ drop-length w)

-- ---- what the definitions say of a piece more
digits_first : (k p n : ℕ) → digits_from (suc k) p n ≡ digit_at p n ++ digits_from k (p / 10) n
unfolding digits_from
digits_first k p n = refl

digits-over : (k p n : ℕ) → k ≤ 0 → digits_from k p n ≡ []
unfolding digits_from
digits-over zero p n l = refl
digits-over (suc k) p n l = absurd (omega (arith, l))

fields_first : (n : ℕ) (ns : List ℕ) → fields_bytes (n ∷ ns) ≡ field_bytes n ++ fields_bytes ns
unfolding fields_bytes
fields_first n ns = refl

fields-none : fields_bytes [] ≡ []
unfolding fields_bytes
fields-none = refl

pub drop-none : (n : ℕ) (l : List ℕ) → length l ≤ n → drop n l ≡ []
drop-none zero [] h = refl
drop-none (suc n) [] h = refl
drop-none zero (x ∷ xs) h = absurd (omega (arith, h))
drop-none (suc n) (x ∷ xs) h = drop-none n xs (omega (arith, h))

-- ---- digits
module _ (out : List ℕ) (at p n : ℕ) where
  pub digit-none : p ≡ 0 → Printed out at (digit_at p n) out at
  unfolding digit_at
  digit-none e = rw (eq-eqb p 0 e) (printed_none out at)

  module _ (some : p ≡ 0 → ⊥) where
    pub digit_counts : (out₁ : List ℕ) (a b : ℕ) → (p ≡ 1) ⊎ ((p ≡ 1 → ⊥) × (p ≤ n)) → b ≡ 48 + n / p % 10 → Printed out at (b ∷ []) out₁ a → Printed out at (digit_at p n) out₁ a
    unfolding digit_at
    digit_counts out₁ a b (inl o) e q = rw (ne_eqb p 0 some, eq-eqb p 1 o) (subst (λ (k : ℕ). Printed out at (k ∷ []) out₁ a) e q)
    digit_counts out₁ a b (inr (not_last, l)) e q = rw (ne_eqb p 0 some, ne_eqb p 1 not_last, le-leb p n l) (subst (λ (k : ℕ). Printed out at (k ∷ []) out₁ a) e q)

    pub digit_leads : (p ≡ 1 → ⊥) → n < p → Printed out at (digit_at p n) out at
    unfolding digit_at
    digit_leads not_last l = rw (ne_eqb p 0 some, ne_eqb p 1 not_last, lt-leb p n l) (printed_none out at)

pub record Digits (out : List ℕ) (at n : ℕ) (out₁ : List ℕ) (a p i : ℕ) : Type 0 where
  pub printing : Printing out at (decimal n) out₁ a (digits_from (10 - i) p n)

pub digits_begin : (out : List ℕ) (at n : ℕ) → Digits out at n out at 1000000000 0
digits_begin out at n = record { printing = printing_begins out at (decimal n) }

module _ (out : List ℕ) (at n : ℕ) (out₁ : List ℕ) (a p i : ℕ) (g : Digits out at n out₁ a p i) where
  pub digits_go_on : (out₂ : List ℕ) (b : ℕ) → i < 10 → Printed out₁ a (digit_at p n) out₂ b → Digits out at n out₂ b (p / 10) (i + 1)
  digits_go_on out₂ b l q = record {
    printing = printing_more out at (decimal n) out₁ a (digits_from (10 - i) p n) g.printing (digit_at p n) (digits_from (10 - (i + 1)) (p / 10) n) out₂ b next q;
  }
    where
      next : digits_from (10 - i) p n ≡ digit_at p n ++ digits_from (10 - (i + 1)) (p / 10) n
      next = let e : 10 - i ≡ suc (10 - (i + 1)) = omega arith in ap (λ (k : ℕ). digits_from k p n) e ∙ digits_first (10 - (i + 1)) p n

  pub digits_end : 10 ≤ i → Printed out at (decimal n) out₁ a
  digits_end l = printing_ends out at (decimal n) out₁ a (digits_from (10 - i) p n) g.printing (digits-over (10 - i) p n (omega arith))

-- ---- fields and lines
pub record Fields (out : List ℕ) (at : ℕ) (ns out₁ : List ℕ) (a i : ℕ) : Type 0 where
  pub printing : Printing out at (fields_bytes ns) out₁ a (fields_bytes (drop i ns))
  pub inside : i ≤ length ns

pub fields_begin : (out : List ℕ) (at : ℕ) (ns : List ℕ) → Fields out at ns out at 0
fields_begin out at ns = record { printing = printing_begins out at (fields_bytes ns); inside = omega arith }

module _ (out : List ℕ) (at : ℕ) (ns out₁ : List ℕ) (a i : ℕ) (g : Fields out at ns out₁ a i) where
  pub fields_go_on : (out₂ : List ℕ) (b : ℕ) → i < length ns → Printed out₁ a (field_bytes (get_or ns i 0)) out₂ b → Fields out at ns out₂ b (i + 1)
  fields_go_on out₂ b l p = record {
    printing = printing_more out at (fields_bytes ns) out₁ a (fields_bytes (drop i ns)) g.printing (field_bytes (get_or ns i 0)) (fields_bytes (drop (i + 1) ns)) out₂ b
        (ap fields_bytes (drop-cons ns i 0 l) ∙ fields_first (get_or ns i 0) (drop (suc i) ns) ∙ ap (λ (k : ℕ). field_bytes (get_or ns i 0) ++ fields_bytes (drop k ns)) (sym (add-one i))) p;
    inside = omega arith;
  }

  pub fields_end : length ns ≤ i → Printed out at (fields_bytes ns) out₁ a
  fields_end l = let e : i ≡ length ns = omega (arith, g.inside) in
      printing_ends out at (fields_bytes ns) out₁ a (fields_bytes (drop i ns)) g.printing (ap (λ (k : ℕ). fields_bytes (drop k ns)) e ∙ ap fields_bytes (drop-length ns) ∙ fields-none)

pub printed_field : (out : List ℕ) (at n : ℕ) (out₁ : List ℕ) (a : ℕ) (out₂ : List ℕ) (b : ℕ) → Printed out at (9 ∷ []) out₁ a → Printed out₁ a (decimal n) out₂ b
    → Printed out at (field_bytes n) out₂ b
unfolding field_bytes
printed_field out at n out₁ a out₂ b p q = printed_then out at (9 ∷ []) (decimal n) out₁ a out₂ b p q

pub printed_line : (out : List ℕ) (at : ℕ) (label ns out₁ : List ℕ) (a : ℕ) (out₂ : List ℕ) (b : ℕ) (out₃ : List ℕ) (c : ℕ)
    → Printed out at label out₁ a → Printed out₁ a (fields_bytes ns) out₂ b → Printed out₂ b (10 ∷ []) out₃ c → Printed out at (line_bytes label ns) out₃ c
unfolding line_bytes
printed_line out at label ns out₁ a out₂ b out₃ c p q s =
    printed_then out at label (fields_bytes ns ++ (10 ∷ [])) out₁ a out₃ c p (printed_then out₁ a (fields_bytes ns) (10 ∷ []) out₂ b out₃ c q s)

-- ---- a part of a table, as far as it reaches
pub part_reaches : (ns : List ℕ) (from n f m : ℕ) → f ≡ min from (length ns) → m ≡ min n (length ns - f) → take (f + m - f) (drop f ns) ≡ part ns from n
unfolding part
part_reaches ns from n f m ef em =
    let q : f + m - f ≡ m = omega arith in
    ap (λ (k : ℕ). take k (drop f ns)) q ∙ by_test (from ≤? length ns) inside past
  where
    cut : (l : List ℕ) → length l ≡ length ns - f → take m l ≡ take n l
    cut l e = by_test (n ≤? length ns - f)
        (λ t. let q : m ≡ n = omega (arith, em, leb-true n (length ns - f) t) in ap (λ (k : ℕ). take k l) q)
        (λ g. take_all m l (omega (arith, e, em, leb-false n (length ns - f) g)) ∙ sym (take_all n l (omega (arith, e, leb-false n (length ns - f) g))))

    inside : (from ≤? length ns) ≡ true → take m (drop f ns) ≡ take n (drop from ns)
    inside t = let q : f ≡ from = omega (arith, ef, leb-true from (length ns) t) in cut (drop f ns) (length-drop f ns) ∙ ap (λ (k : ℕ). take n (drop k ns)) q

    past : (from ≤? length ns) ≡ false → take m (drop f ns) ≡ take n (drop from ns)
    past g = cut (drop f ns) (length-drop f ns) ∙ ap (λ (l : List ℕ). take n l)
        (drop-none f ns (omega (arith, ef, leb-false from (length ns) g)) ∙ sym (drop-none from ns (omega (arith, leb-false from (length ns) g))))

pub printed_part : (out : List ℕ) (at : ℕ) (label ns : List ℕ) (from n f m : ℕ) (out₁ : List ℕ) (a : ℕ)
    → f ≡ min from (length ns) → m ≡ min n (length ns - f)
    → Printed out at (line_bytes label (take (f + m - f) (drop f ns))) out₁ a → Printed out at (line_bytes label (part ns from n)) out₁ a
printed_part out at label ns from n f m out₁ a ef em p = printed_is out at (line_bytes label (take (f + m - f) (drop f ns))) (line_bytes label (part ns from n)) out₁ a
    (ap (λ (l : List ℕ). line_bytes label l) (part_reaches ns from n f m ef em)) p
