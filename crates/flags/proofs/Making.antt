-- One flag, in the code's shape.
use mathlib.Core.Path.{◌≡◌, refl, sym, ap, subst, ◌∙◌}
use mathlib.Core.List.{List, [], ◌∷◌, ◌++◌}
use Prim.Native.Nat.{ℕ, ◌+◌, ◌*◌, ◌≤◌, ◌<◌}
use native.Mathlib.Omega.{arith}
use lib.ListN.{length, get_or, set, length-set}
use lib.Seq.{get_or-set_other}
use Rattle.std.specs.Prelude.{Some, None}
use Rattle.std.specs.Borrow.{MutBor}
use Rattle.rules.specs.declared.Edge.{Edge}
use Rattle.rules.specs.declared.Literal.{Literal}
use Rattle.rules.specs.declared.Driver.{Driver}
use Rattle.rules.specs.declared.Driver.TheVariants.{Flag}
use Rattle.rules.specs.declared.Tally.{Tally}
use Rattle.rules.specs.Graph.{driver_at, first_pin}
use Rattle.rules.specs.Tables.{edge_word}
use Rattle.rules.specs.Build.{is_flag, flag_for}
use Rattle.rules.proofs.Tables.{clash}
use Rattle.drivers.proofs.Rows.{drivers_long_lem, driver_old, one-longer}
use Rattle.builds.proofs.Ands.{flag_self, flag_only, known_same}
use Rattle.drafts.specs.declared.Draft.{Draft}
use Rattle.drafts.specs.declared.Added.{Added}
use Rattle.drafts.specs.Table.{drafted, pushed, Extends, drivers_of, added, SameLoans, Adds}
use Rattle.drafts.specs.Table as table
use Rattle.drafts.specs.Layout.{flag_word, Flags}
use Rattle.drafts.proofs.Steps.{ends_refl, table_store, extended}
use Rattle.drafts.proofs.Drafting.{loans_refl}
use Rattle.flags.specs.Flagging.{Flagging, FlagsOnly, Flagged, made, full, IsFlagging, AddsFlags}
use Rattle.flags.proofs.Words.{edge_le, word_found, word_none, made_new, flags_more}

pub only_refl : (m at : ℕ) (w : List ℕ) → FlagsOnly m at w w
only_refl m at w = record { long = refl; before = λ j l. refl; after = λ j l h. refl }

pub only_trans : {m at : ℕ} {u v w : List ℕ} → FlagsOnly m at u v → FlagsOnly m at v w → FlagsOnly m at u w
only_trans f g = record { long = g.long ∙ f.long; before = λ j l. g.before j l ∙ f.before j l; after = λ j l h. g.after j l h ∙ f.after j l h }

module _ (m at : ℕ) (w ws : List ℕ) (t : Tally) (q : ℕ) (e : Edge) (h : Flagging m at w ws t) (lq : q < m) where
  abbrev ds : List Driver
  ds = drafted ws t

  long : length ds ≡ t.pins + 1
  long = drivers_long_lem ws t.pins

  module _ (edge : ℕ) (ee : edge ≡ edge_word e) where
    word : get_or w (4 * m + 2 * q + edge) 0 ≡ flag_word ds q e
    word = ap (λ (x : ℕ). get_or w (4 * m + 2 * q + x) 0) ee ∙ h.flags.words q e lq

    pub flag_known : (get_or w (4 * m + 2 * q + edge) 0 ≡ 0 → ⊥)
        → Flagged m at (flag_for (drafted ws t) q e).drivers w ws t w ws (Some t)
    flag_known ne = made t refl h (sym (known_same (is_flag q e) (Flag q e) ds (flag_self q e) (flag_only q e) (word_found ds q e (λ z. ne (word ∙ z))))) (ends_refl t) (only_refl m at w) refl

    module _ (z : get_or w (4 * m + 2 * q + edge) 0 ≡ 0) (ws' : List ℕ) where
      none : length ds ≤ first_pin (is_flag q e) ds
      none = word_none ds q e h.first (sym word ∙ z)

      new : (flag_for (drafted ws t) q e).drivers ≡ drafted ws t ++ (Flag q e ∷ [])
      new = made_new ds q e none

      pub flag_full : Extends at (pushed (drafted ws t) (Flag q e)) w ws t w ws' None → Flagged m at (flag_for (drafted ws t) q e).drivers w ws t w ws' None
      flag_full (table.made a e' b c d g i j) = let x : None ≡ Some a = e' in clash (cc)
      flag_full (table.full a b c d) = full refl (omega (arith, b, ap length new)) c d

      pub flag_new : (step : Added) → Extends at (pushed (drafted ws t) (Flag q e)) w ws t w ws' (Some step)
          → Flagged m at (flag_for (drafted ws t) q e).drivers w ws t (set w (4 * m + 2 * q + edge) step.tally.pins) ws' (Some step.tally)
      flag_new step s =
          let x = extended at (pushed (drafted ws t) (Flag q e)) w ws t w ws' step s in
          let d = x.drivers in
          let low : 4 * m + 2 * q + edge < 6 * m = omega (arith, lq, ee, edge_le e) in
          let count : step.tally.pins ≡ length ds = omega (arith, drivers_long_lem ws' step.tally.pins, ap length d, one-longer ds (Flag q e), long) in
          made step.tally refl
          (record {
            table = table_store at w ws' step.tally (4 * m + 2 * q + edge) step.tally.pins (omega (arith, low, h.inside)) x.table;
            first = ap (λ (x : List Driver). driver_at x 0) d ∙ driver_old ds (Flag q e) 0 (omega (arith, long)) ∙ h.first;
            flags = subst (Flags m (set w (4 * m + 2 * q + edge) step.tally.pins)) (sym d)
                (subst (λ (v : ℕ). Flags m (set w (4 * m + 2 * q + edge) v) (ds ++ (Flag q e ∷ []))) (sym count)
                (subst (λ (x : ℕ). Flags m (set w (4 * m + 2 * q + x) (length ds)) (ds ++ (Flag q e ∷ []))) (sym ee)
                (flags_more ds q e none m w h.flags lq (omega (arith, h.inside, h.table.ready.wide)))));
            small = h.small;
            inside = h.inside;
          })
          (d ∙ sym new) x.ends
          (record {
            long = length-set w (4 * m + 2 * q + edge) step.tally.pins;
            before = λ k l. get_or-set_other w (4 * m + 2 * q + edge) k step.tally.pins 0 (λ x. omega (arith, l, x));
            after = λ k l o. get_or-set_other w (4 * m + 2 * q + edge) k step.tally.pins 0 (λ x. omega (arith, l, low, x));
          })
          x.long

-- ---- the same of drafts
module _ (m : ℕ) (d : Draft) (q : ℕ) (e : Edge) (h : IsFlagging m d) (lq : q < m) (edge : ℕ) (ee : edge ≡ edge_word e) where
  pub adds_known : (get_or d.work.now (4 * m + 2 * q + edge) 0 ≡ 0 → ⊥) → AddsFlags m (flag_for (drivers_of d) q e).drivers d d (Some tt)
  adds_known ne = record { loans = loans_refl d; flagged = flag_known m d.at d.work.now d.drivers.now d.tally q e h lq edge ee ne }

  module _ (z : get_or d.work.now (4 * m + 2 * q + edge) 0 ≡ 0) (d₁ : Draft) (s : d₁.work.now ≡ d.work.now) where
    pub adds_full : Adds (pushed (drivers_of d) (Flag q e)) d d₁ None → AddsFlags m (flag_for (drivers_of d) q e).drivers d d₁ None
    adds_full a = record {
      loans = a.loans;
      flagged = subst (λ (w : List ℕ). Flagged m d.at (flag_for (drivers_of d) q e).drivers d.work.now d.drivers.now d.tally w d₁.drivers.now None) (sym s)
          (flag_full m d.at d.work.now d.drivers.now d.tally q e h lq edge ee z d₁.drivers.now
          (subst (λ (w : List ℕ). Extends d.at (pushed (drivers_of d) (Flag q e)) d.work.now d.drivers.now d.tally w d₁.drivers.now None) s a.extends));
    }

    pub adds_new : (lit : Literal) → Adds (pushed (drivers_of d) (Flag q e)) d d₁ (Some lit) → (work : MutBor (List ℕ)) → work.ghost_name ≡ d₁.work.ghost_name
        → work.now ≡ set d₁.work.now (4 * m + 2 * q + edge) d₁.tally.pins → AddsFlags m (flag_for (drivers_of d) q e).drivers d (record d₁ { work = work }) (Some tt)
    adds_new lit a work k f = record {
      loans = record { drivers = a.loans.drivers; work = k ∙ a.loans.work; place = a.loans.place };
      flagged = subst (λ (w : List ℕ). Flagged m d.at (flag_for (drivers_of d) q e).drivers d.work.now d.drivers.now d.tally w d₁.drivers.now (Some d₁.tally))
          (sym (f ∙ ap (λ (w : List ℕ). set w (4 * m + 2 * q + edge) d₁.tally.pins) s))
          (flag_new m d.at d.work.now d.drivers.now d.tally q e h lq edge ee z d₁.drivers.now (record { lit = lit; tally = d₁.tally })
          (subst (λ (w : List ℕ). Extends d.at (pushed (drivers_of d) (Flag q e)) d.work.now d.drivers.now d.tally w d₁.drivers.now (added (Some lit) d₁.tally)) s a.extends));
    }
