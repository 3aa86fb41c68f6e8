-- How a split ends: its stage stands in the tables, or one of them has too little room.
use mathlib.Core.Path.{◌≡◌, refl, sym, ap, subst, ◌∙◌}
use mathlib.Core.Logic.{inl, inr}
use mathlib.Core.Bool.{Bool}
use mathlib.Core.List.{List}
use Prim.Native.Nat.{ℕ, ◌+◌, ◌-◌, ◌*◌, ◌<◌, ◌≤◌}
use native.Mathlib.Omega.{arith}
use lib.ListN.{length, get_or}
use Rattle.laws.specs.Lists.{count}
use Rattle.laws.specs.Words.{part}
use Rattle.laws.proofs.Bags.{keep_le}
use Rattle.laws.proofs.Indices.{at_in}
use Rattle.laws.proofs.Words.{part_in, part_at, part_length}
use Rattle.rules.specs.declared.GraphCounts.{GraphCounts}
use Rattle.rules.specs.Stages.{Stage}
use Rattle.rules.specs.Answers.{endpoints}
use Rattle.members.specs.Set.{SetIn}
use Rattle.levels.specs.State.{stops_of, Lefts}
use Rattle.joins.specs.State.{Takens}
use Rattle.picks.specs.Tables.{picks, take_test, free_test, Full, Pushed}
use Rattle.splits.specs.declared.Spot.{Spot}
use Rattle.splits.specs.State.{split_in, order_in, Idle, Prepared, WorkedOut, Cut, Uncut}
use Rattle.splits.proofs.Cuts.{taken_is, handed_is, cut_used, cut_stays}

picks_le : (f : ℕ → Bool) (x : ℕ) (l : List ℕ) → count x (picks f l) ≤ count x l
unfolding picks
picks_le f x l = keep_le f x l

module _ (c : GraphCounts) (ws os ds rs : List ℕ) (at : Spot) (w h t : List ℕ) (idle : Idle ws at.m (endpoints c) w at.left)
    (w₁ : List ℕ) (k : ℕ) (p₁ : Prepared c ws os ds rs at.m w at.left w₁ k) where
  abbrev m : ℕ
  m = at.m

  abbrev S : Stage
  S = split_in c ws os ds rs at.m (part w (8 * at.m) at.left) (stops_of w at.m) at.d

  pub cut_lefts : Lefts w₁ at.m at.left (endpoints c)
  cut_lefts = record {
    long = omega (arith, p₁.long, idle.lefts.long, idle.lefts.few);
    inside = λ j l. rw (p₁.rest (8 * m + j) (omega arith)) (idle.lefts.inside j l);
  }

  listed : k ≡ length (order_in c ws os ds rs at.m (part w (8 * at.m) at.left) (stops_of w at.m))
  listed = sym (part_length w₁ (3 * m) k (omega (arith, p₁.going.listing.long, p₁.going.listing.count))) ∙ ap length p₁.list

  module _ (t' : List ℕ) where
    abbrev es : List ℕ
    es = picks (take_test c os ds rs at.m w₁ at.d) (part w₁ (8 * at.m) at.left)

    es_is : picks (take_test c os ds rs at.m w₁ at.d) (part w₁ (8 * at.m) at.left) ≡ S.taken
    es_is = taken_is c ws os ds rs at.m at.d w at.left idle w₁ k p₁

    pub cut_narrow : Full t at.taken (picks (take_test c os ds rs at.m w₁ at.d) (part w₁ (8 * at.m) at.left)) t' → Uncut c ws os ds rs at w h t w₁ h t' (record { listed = k })
    cut_narrow f = record {
      narrow = inr (subst (λ (x : List ℕ). length t < at.taken + length x) es_is f.small);
      listed = listed;
      work_long = p₁.long;
      handed_long = refl;
      taken_long = f.long;
    }

    module _ (n' : ℕ) (fits : Pushed t at.taken (picks (take_test c os ds rs at.m w₁ at.d) (part w₁ (8 * at.m) at.left)) t' n') where
      pub cut_count : at.taken ≤ n'
      cut_count = omega (arith, fits.count)

      count_is : n' - at.taken ≡ length es
      count_is = omega (arith, fits.count)

      part_is : part t' at.taken (n' - at.taken) ≡ es
      part_is = ap (part t' at.taken) count_is ∙ fits.added

      pub cut_takens : Takens t' at.taken (n' - at.taken) (endpoints c)
      cut_takens = record {
        long = omega (arith, cut_count, fits.inside);
        inside = λ j l. rw (sym (part_at t' at.taken (n' - at.taken) j l) ∙ ap (λ (x : List ℕ). get_or x j 0) part_is)
            (below_ends (get_or es j 0) (at_in es j (omega (arith, count_is))));
      }
        where
          below_ends : (x : ℕ) → 0 < count x es → x < endpoints c
          below_ends x mx = part_in w₁ (8 * m) at.left x cut_lefts.long (omega (arith, mx, picks_le (take_test c os ds rs at.m w₁ at.d) x (part w₁ (8 * at.m) at.left)))
              (λ j l e. omega (arith, cut_lefts.inside j l))

      module _ (w₂ : List ℕ) (size : ℕ) (wk : WorkedOut c ws os ds rs (part t' at.taken (n' - at.taken)) at.m at.d k w₁ w₂ size) where
        pub cut_hand_set : SetIn w₂ (6 * at.m) at.m size
        cut_hand_set = wk.holds

        hs_is : picks (free_test at.m w₂) (part w₂ (6 * at.m) size) ≡ S.handed
        hs_is = handed_is c ws os ds rs at.m at.d w at.left idle w₁ k p₁ (part t' at.taken (n' - at.taken)) (part_is ∙ es_is) w₂ size wk

        pub cut_done : (h' : List ℕ) (n₂ : ℕ) → Pushed h at.handed (picks (free_test at.m w₂) (part w₂ (6 * at.m) size)) h' n₂
            → Cut c ws os ds rs at w h t w₂ h' t' (record { listed = k; size = size; handed = n₂; taken = n' })
        cut_done h' n₂ p = record {
          handed = subst (λ (x : List ℕ). Pushed h at.handed x h' n₂) hs_is p;
          taken = subst (λ (x : List ℕ). Pushed t at.taken x t' n') es_is fits;
          used = cut_used c ws os ds rs at.m at.d w at.left idle w₁ k p₁ (part t' at.taken (n' - at.taken)) (part_is ∙ es_is) w₂ size wk;
          stays = cut_stays c ws os ds rs at.m at.d w at.left idle w₁ k p₁ (part t' at.taken (n' - at.taken)) (part_is ∙ es_is) w₂ size wk;
          listed = listed;
        }

        pub cut_full : (h' : List ℕ) → Full h at.handed (picks (free_test at.m w₂) (part w₂ (6 * at.m) size)) h' → Uncut c ws os ds rs at w h t w₂ h' t' (record { listed = k })
        cut_full h' f = record {
          narrow = inl (subst (λ (x : List ℕ). length h < at.handed + length x) hs_is f.small);
          listed = listed;
          work_long = wk.kept.long ∙ p₁.long;
          handed_long = f.long;
          taken_long = fits.long;
        }
