-- A split as the rules say it, by the words that its steps leave.
use mathlib.Core.Path.{◌≡◌, refl, sym, ap, subst, ◌∙◌}
use mathlib.Core.Bool.{Bool, true, false, not}
use mathlib.Core.List.{List, [], ◌∷◌, ◌++◌}
use Prim.Native.Nat.{ℕ, ◌+◌, ◌*◌, ◌<◌, ◌≤◌}
use native.Mathlib.Omega.{arith}
use lib.ListN.{length, get_or}
use Rattle.std.specs.Prelude.{Some, if◌then◌else◌, ◌==◌}
use Rattle.laws.specs.Tests.{◌≤?◌, one}
use Rattle.laws.specs.Lists.{count, member, keep, every, flat, over}
use Rattle.laws.specs.Search.{visits, level}
use Rattle.laws.specs.Words.{part}
use Rattle.laws.proofs.Tests.{by_test, if_true, if_false}
use Rattle.laws.proofs.Bags.{member_true, member_false, is_member, no_member, in_flat, of_flat, of_append, here, there}
use Rattle.laws.proofs.Folds.{over-same}
use Rattle.laws.proofs.Words.{part_none, part_length, part_at, part_in}
use Rattle.laws.proofs.Visits.{visits_has, visits_closed}
use Rattle.rules.specs.declared.GraphCounts.{GraphCounts}
use Rattle.rules.specs.declared.Endpoint.{Endpoint}
use Rattle.rules.specs.declared.Endpoint.TheVariants.{Output, Flop, Memory, Handed}
use Rattle.rules.specs.Graph.{Graph, no_record, no_ram}
use Rattle.rules.specs.Tables.{graph_in}
use Rattle.rules.specs.Stages.{dff_reads, ram_reads, reads_of, inputs_of, endpoint_of, Joining, read, split, low, inputs, start, joined, final}
use Rattle.rules.specs.Answers.{endpoints}
use Rattle.cuts.proofs.Joining.{begun, join_by, take_by, joins_readers, takes_readers, may}
use Rattle.walk.specs.State.{goes, list_of}
use Rattle.walk.proofs.Leads.{goes_below}
use Rattle.members.specs.Set.{SetIn}
use Rattle.reads.specs.Reads.{records_of, reads_in, ins_of}
use Rattle.levels.specs.State.{stops_of, Known}
use Rattle.levels.proofs.Stops.{stops_are, stops_same, list_same, listing_same, keep_same}
use Rattle.joins.specs.State.{Holds, low_in}
use Rattle.picks.specs.Tables.{picks, low_ins, take_test, free_test}
use Rattle.clears.specs.State.{Used}
use Rattle.splits.specs.State.{graph_of, split_in, Idle, order_in, Prepared, WorkedOut, Stays}

every-same : (f g : ℕ → Bool) (l : List ℕ) → ((x : ℕ) → 0 < count x l → f x ≡ g x) → every f l ≡ every g l
every-same f g [] e = refl
every-same f g (x ∷ l) e = rw (e x (here x l), every-same f g l (λ y m. e y (there y x l m)))

-- an endpoint reads no driver
reads_same : (g h : Graph) (x : Endpoint) → g.outputs ≡ h.outputs → g.dffs ≡ h.dffs → g.rams ≡ h.rams → reads_of g x ≡ reads_of h x
reads_same g h (Output k) a b e = ap (λ l. get_or l k 0 ∷ []) a
reads_same g h (Flop k) a b e = ap (λ l. dff_reads (get_or l k no_record)) b
reads_same g h (Memory k) a b e = ap (λ l. ram_reads (get_or l k no_ram)) e
reads_same g h (Handed q) a b e = refl

ins_same : (c : GraphCounts) (ws os ds rs : List ℕ) (m e : ℕ) → ins_of c os ds rs e ≡ inputs (graph_of c ws os ds rs m) e
unfolding graph_of ins_of reads_in
ins_same c ws os ds rs m e = ap inputs_of (reads_same (graph_in c (records_of os ds rs)) (graph_of c ws os ds rs m) (endpoint_of (graph_of c ws os ds rs m) e) refl refl refl)

pub ins_fun : (c : GraphCounts) (ws os ds rs : List ℕ) (m : ℕ) → ins_of c os ds rs ≡ inputs (graph_of c ws os ds rs m)
ins_fun c ws os ds rs m i e = ins_same c ws os ds rs m e i

-- the rules' readers at the start, and where the members of their set come from
start_readers : (c : GraphCounts) (ws os ds rs : List ℕ) (m : ℕ) (left before : List ℕ) (p : ℕ)
    → (start (graph_of c ws os ds rs m) left before).readers p ≡ count p (flat (goes ws m before) (order_in c ws os ds rs m left before) ++ flat (ins_of c os ds rs) left)
unfolding graph_of order_in
start_readers c ws os ds rs m left before p =
    ap (λ (f : ℕ → List ℕ). count p (flat (goes ws m before) (visits (goes ws m before) (flat f left)) ++ flat f left)) (sym (ins_fun c ws os ds rs m))

set_listed : (c : GraphCounts) (ws os ds rs : List ℕ) (m d : ℕ) (left before : List ℕ) (p : ℕ)
    → 0 < count p (final (graph_of c ws os ds rs m) left before (Some d)).set → 0 < count p (order_in c ws os ds rs m left before)
unfolding graph_of order_in
set_listed c ws os ds rs m d left before p h =
    subst (λ (f : ℕ → List ℕ). 0 < count p (visits (goes ws m before) (flat f left))) (sym (ins_fun c ws os ds rs m))
    (may (goes ws m before) (inputs (graph_of c ws os ds rs m)) (low (graph_of c ws os ds rs m) before (Some d))
    (λ e. every (low (graph_of c ws os ds rs m) before (Some d)) (inputs (graph_of c ws os ds rs m) e))
    (visits (goes ws m before) (flat (inputs (graph_of c ws os ds rs m)) left)) left p h).0

module _ (c : GraphCounts) (ws os ds rs : List ℕ) (m d : ℕ) (w : List ℕ) (left : ℕ) (idle : Idle ws m (endpoints c) w left)
    (w₁ : List ℕ) (k : ℕ) (p₁ : Prepared c ws os ds rs m w left w₁ k) where
  abbrev L : List ℕ
  L = part w (8 * m) left

  abbrev before : List ℕ
  before = stops_of w m

  abbrev nx : ℕ → List ℕ
  nx = goes ws m (stops_of w m)

  abbrev ins : ℕ → List ℕ
  ins = ins_of c os ds rs

  abbrev us : List ℕ
  us = order_in c ws os ds rs m (part w (8 * m) left) (stops_of w m)

  below : (u o : ℕ) → 0 < count o (goes ws m (stops_of w m) u) → o < u
  below = goes_below ws m idle.low idle.fits (stops_of w m)

  whole : 8 * m ≤ length w
  whole = omega (arith, idle.lefts.long)

  -- pins listed are pins
  in_graph : (p : ℕ) → 0 < count p us → p < m
  in_graph p h = part_in w₁ (3 * m) k p (omega (arith, p₁.going.listing.long, p₁.going.listing.count)) (subst (λ (t : List ℕ). 0 < count p t) (sym p₁.list) h)
      (λ j l e. omega (arith, p₁.going.listing.inside j l))

  inputs_in : (e p : ℕ) → 0 < count e L → 0 < count p (ins_of c os ds rs e) → 0 < count p us
  unfolding order_in
  inputs_in e p me mp = visits_has nx (flat ins L) p (in_flat ins e p L me mp)

  closed : (u o : ℕ) → 0 < count u us → 0 < count o (goes ws m (stops_of w m) u) → 0 < count o us
  unfolding order_in
  closed u o mu mo = visits_closed nx below (flat ins L) u o mu mo

  level_word : (p : ℕ) → 0 < count p us → get_or w₁ (4 * m + p) 0 ≡ level (goes ws m (stops_of w m)) p
  level_word p h = p₁.levels p (in_graph p h) ∙ if_true (member p us) (level nx p) 0 (is_member p us h)

  left₁ : part w₁ (8 * m) left ≡ part w (8 * m) left
  left₁ = Rattle.laws.proofs.Words.part_same w₁ w (8 * m) left (omega (arith, p₁.long, idle.lefts.long, idle.lefts.few)) (omega (arith, idle.lefts.long, idle.lefts.few))
      (λ j l u. p₁.rest j (omega arith))

  -- ---- what is taken
  pub taken_is : picks (take_test c os ds rs m w₁ d) (part w₁ (8 * m) left) ≡ (split_in c ws os ds rs m (part w (8 * m) left) (stops_of w m) d).taken
  unfolding picks take_test low_ins split_in graph_of split
  taken_is = ap (keep (take_test c os ds rs m w₁ d)) left₁
      ∙ keep_same (take_test c os ds rs m w₁ d) (λ e. every (low (graph_of c ws os ds rs m) (stops_of w m) (Some d)) (inputs (graph_of c ws os ds rs m) e)) L
      (λ e me. every-same (low_in m w₁ d) (low (graph_of c ws os ds rs m) (stops_of w m) (Some d)) (ins_of c os ds rs e)
      (λ p mp. ap (λ (x : ℕ). x ≤? d) (level_word p (inputs_in e p me mp)))
      ∙ ap (every (low (graph_of c ws os ds rs m) (stops_of w m) (Some d))) (ins_same c ws os ds rs m e))

  pub cut_known : Known ws m w₁
  cut_known = record {
    low = idle.low;
    fits = idle.fits;
    drivers_long = idle.drivers_long;
    flags = λ p l. rw (p₁.stops p l) (idle.flags p l);
    long = omega (arith, p₁.long, whole);
  }

  pub cut_set : SetIn w₁ (6 * m) m 0
  cut_set = record {
    few = omega arith;
    room = idle.few;
    long = omega (arith, p₁.long, whole);
    once = λ p. rw (part_none w₁ (6 * m)) (omega arith);
    inside = λ j l. absurd (omega arith);
    places = rw (part_none w₁ (6 * m)) (record { at = λ i l. absurd (omega arith); off = λ p _. zero_place p });
    beyond = λ j l u. p₁.rest (6 * m + j) (omega arith) ∙ idle.middle (6 * m + j) (omega arith) (omega arith);
  }
    where
      zero_place : (p : ℕ) → get_or (part w₁ (6 * m + m) m) p 0 ≡ 0
      zero_place p = by_test (Rattle.laws.specs.Tests.◌<?◌ p m)
          (λ t. let l = borrow.Author.Tests.ltb-true p m t in part_at w₁ (6 * m + m) m p l ∙ p₁.rest (6 * m + m + p) (omega arith) ∙ idle.middle (6 * m + m + p) (omega arith) (omega arith))
          (λ f. Rattle.laws.proofs.Words.word_past (part w₁ (6 * m + m) m) p (omega (arith, borrow.Author.Tests.ltb-false p m f, part_length w₁ (6 * m + m) m (omega (arith, p₁.long, whole)))))

  -- the words begin as the rules' readers do
  begins : Holds m w₁ 0 (start (graph_of c ws os ds rs m) (part w (8 * m) left) (stops_of w m))
  begins = record {
    members = part_none w₁ (6 * m);
    readers = λ p l. p₁.readers p l ∙ sym (start_readers c ws os ds rs m (part w (8 * m) left) (stops_of w m) p);
  }

  stops₁ : stops_of w₁ m ≡ stops_of w m
  stops₁ = stops_same w w₁ m p₁.stops

  module _ (es : List ℕ) (ee : es ≡ (split_in c ws os ds rs m (part w (8 * m) left) (stops_of w m) d).taken)
      (w₂ : List ℕ) (size : ℕ) (v : WorkedOut c ws os ds rs es m d k w₁ w₂ size) where
    abbrev fin : Joining
    fin = over (take_by ins) (over (join_by nx (low_in m w₁ d)) (start (graph_of c ws os ds rs m) (part w (8 * m) left) (stops_of w m)) us) es

    ends_words : Holds m w₂ size (over (take_by (ins_of c os ds rs)) (over (join_by (goes ws m (stops_of w m)) (low_in m w₁ d))
        (start (graph_of c ws os ds rs m) (part w (8 * m) left) (stops_of w m)) us) es)
    ends_words = subst (λ (t : List ℕ). Holds m w₂ size (over (take_by ins) (over (join_by nx (low_in m w₁ d)) (start (graph_of c ws os ds rs m) (part w (8 * m) left) (stops_of w m)) t) es)) p₁.list
        (subst (λ (b : List ℕ). Holds m w₂ size (over (take_by ins) (over (join_by (goes ws m b) (low_in m w₁ d)) (start (graph_of c ws os ds rs m) (part w (8 * m) left) (stops_of w m)) (list_of w₁ m k)) es)) stops₁
        (v.joins (start (graph_of c ws os ds rs m) (part w (8 * m) left) (stops_of w m)) begins))

    ends_are : over (take_by (ins_of c os ds rs)) (over (join_by (goes ws m (stops_of w m)) (low_in m w₁ d))
        (start (graph_of c ws os ds rs m) (part w (8 * m) left) (stops_of w m)) us) es ≡ final (graph_of c ws os ds rs m) (part w (8 * m) left) (stops_of w m) (Some d)
    unfolding split_in graph_of split order_in
    ends_are = (λ i. over (take_by (ins_fun c ws os ds rs m i)) (joined_same i) (ee i))
      where
        joined_same : over (join_by nx (low_in m w₁ d)) (start (graph_of c ws os ds rs m) (part w (8 * m) left) (stops_of w m)) us
            ≡ joined (graph_of c ws os ds rs m) (part w (8 * m) left) (stops_of w m) (Some d)
        joined_same = over-same (join_by nx (low_in m w₁ d)) (join_by nx (low (graph_of c ws os ds rs m) (stops_of w m) (Some d))) us (start (graph_of c ws os ds rs m) (part w (8 * m) left) (stops_of w m))
            (λ s u mu. ap (λ (b : Bool). if b then over read (begun s u) (nx u) else s) (ap (λ (x : ℕ). x ≤? d) (level_word u mu)))
            ∙ ap (λ (f : ℕ → List ℕ). over (join_by nx (low (graph_of c ws os ds rs m) (stops_of w m) (Some d)))
            (start (graph_of c ws os ds rs m) (part w (8 * m) left) (stops_of w m)) (visits nx (flat f (part w (8 * m) left)))) (ins_fun c ws os ds rs m)

    set_is : part w₂ (6 * m) size ≡ (final (graph_of c ws os ds rs m) (part w (8 * m) left) (stops_of w m) (Some d)).set
    set_is = ends_words.members ∙ ap (λ (s : Joining). s.set) ends_are

    stop_word : (p : ℕ) → p < m → get_or w₂ (m + p) 0 ≡ one (member p (stops_of w m))
    stop_word p l = v.kept.before (m + p) (omega arith) ∙ p₁.stops p l ∙ (stops_are w m idle.flags).stop p l

    member_inside : (p : ℕ) → 0 < count p (part w₂ (6 * m) size) → p < m
    member_inside p h = part_in w₂ (6 * m) size p (omega (arith, v.holds.long, v.holds.few)) h (λ j l e. omega (arith, v.holds.inside j l))

    -- ---- what is handed on
    pub handed_is : picks (free_test m w₂) (part w₂ (6 * m) size) ≡ (split_in c ws os ds rs m (part w (8 * m) left) (stops_of w m) d).handed
    unfolding picks free_test split_in split
    handed_is = keep_same (free_test m w₂) (λ p. not (member p (stops_of w m))) (part w₂ (6 * m) size)
        (λ p mp. ap (λ (x : ℕ). x == 0) (stop_word p (member_inside p mp)) ∙ flag (member p (stops_of w m)))
        ∙ ap (keep (λ p. not (member p (stops_of w m)))) set_is
      where
        flag : (b : Bool) → (one b == 0) ≡ not b
        flag true = refl
        flag false = refl

    -- ---- what was used
    us₂ : list_of w₂ m k ≡ us
    us₂ = list_same ws m w₁ w₂ k (λ j l. v.kept.before j (omega arith)) v.kept.long p₁.going.listing.count p₁.going.listing.long ∙ p₁.list

    no_readers : (p : ℕ) → count p us ≡ 0 → count p (flat (goes ws m (stops_of w m)) us ++ flat (ins_of c os ds rs) (part w (8 * m) left)) ≡ 0
    no_readers p z = by_test (member p both)
        (λ t. of_append p (flat nx us) (flat ins L) (member_true p both t)
        (λ h. of_flat nx p us h (λ u mu mp. absurd (omega (arith, z, closed u p mu mp))))
        (λ h. of_flat ins p L h (λ e me mp. absurd (omega (arith, z, inputs_in e p me mp)))))
        (λ f. member_false p both f)
      where
        both : List ℕ
        both = flat nx us ++ flat ins L

    pub cut_used : Used m w₂ k size
    cut_used = record {
      listing = listing_same ws m w₁ w₂ k (λ j l. v.kept.before j (omega arith)) v.kept.long p₁.going.listing;
      stack = λ j l u. v.kept.before j (omega arith) ∙ p₁.going.above j (omega arith) u;
      holds = v.holds;
      levels = λ p l z. v.kept.before (4 * m + p) (omega arith) ∙ p₁.levels p l ∙ if_false (member p us) (level nx p) 0 (no_member p us (off p z));
      readers = λ p l z. omega (
        arith,
        ends_words.readers p l,
        takes_readers ins es (over (join_by nx (low_in m w₁ d)) (start (graph_of c ws os ds rs m) (part w (8 * m) left) (stops_of w m)) us) p,
        joins_readers nx (low_in m w₁ d) us (start (graph_of c ws os ds rs m) (part w (8 * m) left) (stops_of w m)) p,
        starts p,
        no_readers p (off p z),
      );
      places = λ p l z. let q : 7 * m + p ≡ 6 * m + m + p = omega arith in ap (λ (x : ℕ). get_or w₂ x 0) q ∙ sym (part_at w₂ (6 * m + m) m p l)
          ∙ v.holds.places.off p (by_test (member p (part w₂ (6 * m) size))
          (λ t. absurd (omega (arith, off p z, in_order p (member_true p (part w₂ (6 * m) size) t))))
          (λ f. member_false p (part w₂ (6 * m) size) f));
      long = omega (arith, v.kept.long, p₁.long, whole);
    }
      where
        off : (p : ℕ) → count p (list_of w₂ m k) ≡ 0 → count p us ≡ 0
        off p z = sym (ap (count p) us₂) ∙ z

        starts : (p : ℕ) → (start (graph_of c ws os ds rs m) (part w (8 * m) left) (stops_of w m)).readers p
            ≡ count p (flat (goes ws m (stops_of w m)) us ++ flat (ins_of c os ds rs) (part w (8 * m) left))
        starts p = start_readers c ws os ds rs m (part w (8 * m) left) (stops_of w m) p

        in_order : (p : ℕ) → 0 < count p (part w₂ (6 * m) size) → 0 < count p us
        in_order p h = set_listed c ws os ds rs m d (part w (8 * m) left) (stops_of w m) p (subst (λ (t : List ℕ). 0 < count p t) set_is h)

    pub cut_stays : Stays m w w₂
    cut_stays = record {
      long = v.kept.long ∙ p₁.long;
      stops = λ p l. v.kept.before (m + p) (omega arith) ∙ p₁.stops p l;
      rest = λ j l. v.kept.after j l ∙ p₁.rest j (omega arith);
    }
