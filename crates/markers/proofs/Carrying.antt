-- What one pin carries, in the code's shape.
use Rattle.std.specs.Prelude.{Option, None, Some}
use mathlib.Core.Path.{◌≡◌, refl, sym, ◌∙◌, ap, subst}
use mathlib.Core.Logic.{◌⊎◌, inl, inr}
use mathlib.Core.Bool.{Bool, true, false}
use mathlib.Core.List.{List, []}
use Prim.Native.Nat.{ℕ, ◌+◌, ◌*◌, ◌<◌, ◌≤◌}
use native.Mathlib.Omega.{arith}
use lib.ListN.{length, get_or, set}
use Rattle.laws.specs.Lists.{count}
use Rattle.laws.proofs.Bags.{here}
use Rattle.rules.specs.Netlist.{Netlist}
use Rattle.rules.specs.Build.{Role, tied, wire, out_port, in_port, and_out, inv_out, buf_out, gate_out, dff_out, ram_out, nothing, role, visits_of}
use Rattle.rules.specs.Refusals.{turn_mark, mark_of}
use Rattle.rules.proofs.Roles.{visit_fits}
use Rattle.roles.specs.declared.PinRole.{PinRole}
use Rattle.roles.specs.declared.PinRole.TheVariants.{Wire, OutPort, InvOut, BufOut}
use Rattle.roles.specs.Reading.{tables, Fits, says}
use Rattle.markers.specs.Marks.{mark_word, turned, taken_from, Inside, word_by, marked}

-- ---- by what the pin is
module _ (w : List ℕ) (m : ℕ) (what : PinRole) (q : ℕ) where
  inside_as : (v : PinRole) → what ≡ v → 0 < count q (taken_from (says v)) → Inside m (says what) → 2 * m ≤ length w → m + q < length w
  inside_as v e c i l = omega (arith, i.below q (subst (λ (x : PinRole). 0 < count q (taken_from (says x))) (sym e) c), l)

  pub same_inside : (what ≡ Wire q) ⊎ ((what ≡ OutPort q) ⊎ (what ≡ BufOut q)) → Inside m (says what) → 2 * m ≤ length w → m + q < length w
  same_inside (inl e) i l = inside_as (Wire q) e (here q []) i l
  same_inside (inr (inl e)) i l = inside_as (OutPort q) e (here q []) i l
  same_inside (inr (inr e)) i l = inside_as (BufOut q) e (here q []) i l

  pub inv_inside : what ≡ InvOut q → Inside m (says what) → 2 * m ≤ length w → m + q < length w
  inv_inside e i l = inside_as (InvOut q) e (here q []) i l

-- ---- what it takes, it visits
pub taken_visited : (n : Netlist) (o : ℕ) (r : Role) → 0 < count o (taken_from r) → 0 < count o (visits_of n r)
taken_visited n o (tied b) h = h
taken_visited n o (wire q) h = h
taken_visited n o (out_port q) h = h
taken_visited n o in_port h = h
taken_visited n o (and_out x y z a b) h = absurd (omega arith)
taken_visited n o (inv_out a) h = h
taken_visited n o (buf_out a) h = h
taken_visited n o (gate_out cp e) h = absurd (omega arith)
taken_visited n o (dff_out c) h = absurd (omega arith)
taken_visited n o (ram_out c b) h = h
taken_visited n o nothing h = h

module _ (kinds starts list pins nets : List ℕ) (p : ℕ) (what : PinRole) (e : says what ≡ role (tables kinds starts list pins nets) p) where
  pub takes_inside : Fits (tables kinds starts list pins nets) → p < length list → Inside (length list) (says what)
  takes_inside f l = record { below = λ o c. visit_fits (tables kinds starts list pins nets) f.accepted p o (says what) l (sym e) (taken_visited (tables kinds starts list pins nets) o (says what) c) }

  pub pin_marked : (w : List ℕ) (v : ℕ) → v ≡ word_by w (length list) (says what) → set w (length list + p) v ≡ marked (tables kinds starts list pins nets) w p
  unfolding marked
  pin_marked w v ev = ap (set w (length list + p)) (ev ∙ ap (word_by w (length list)) e)

-- ---- in words and in markers
turned_word : (x : Option Bool) → turned (mark_word x) ≡ mark_word (turn_mark x)
turned_word None = refl
turned_word (Some true) = refl
turned_word (Some false) = refl

pub word_is : (w : List ℕ) (m : ℕ) (h : ℕ → Option Bool) (r : Role) → ((o : ℕ) → 0 < count o (taken_from r) → get_or w (m + o) 0 ≡ mark_word (h o)) → word_by w m r ≡ mark_word (mark_of h r)
word_is w m h (tied b) f = refl
word_is w m h (wire q) f = f q (here q [])
word_is w m h (out_port q) f = f q (here q [])
word_is w m h in_port f = refl
word_is w m h (and_out x y z a b) f = refl
word_is w m h (inv_out a) f = ap turned (f a (here a [])) ∙ turned_word (h a)
word_is w m h (buf_out a) f = f a (here a [])
word_is w m h (gate_out cp e) f = refl
word_is w m h (dff_out c) f = refl
word_is w m h (ram_out c b) f = refl
word_is w m h nothing f = refl

pub mark-same : (g h : ℕ → Option Bool) (r : Role) → ((o : ℕ) → 0 < count o (taken_from r) → g o ≡ h o) → mark_of g r ≡ mark_of h r
mark-same g h (tied b) f = refl
mark-same g h (wire q) f = f q (here q [])
mark-same g h (out_port q) f = f q (here q [])
mark-same g h in_port f = refl
mark-same g h (and_out x y z a b) f = refl
mark-same g h (inv_out a) f = ap turn_mark (f a (here a []))
mark-same g h (buf_out a) f = f a (here a [])
mark-same g h (gate_out cp e) f = refl
mark-same g h (dff_out c) f = refl
mark-same g h (ram_out c b) f = refl
mark-same g h nothing f = refl
