-- The table of the remaining stations: filled at first, and lowered as a station is removed.
use Rattle.std.proofs.Common.{◌≡◌, ℕ, zero, suc, ◌+◌, ◌-◌, ◌<◌, ◌≤◌, true, cond, ◌&&◌, not, ltb, eqb, Some, None, Option, List, [], ◌∷◌, length, is_some, option_map, get_or-set_same, get_or-set_other, set, replicate, refl, ap, sym, ◌∙◌, subst, inl, inr, le_antisymm, arith}
use Rattle.std.proofs.lemmas.Bool.{cases_eq}
use Rattle.std.proofs.lemmas.List.{set-get_or}
use Rattle.cores.specs.Counting.{bit, count, times}
use Rattle.cores.specs.Site.{Site, Lawful}
use Rattle.cores.specs.Numbers.{Group, hears, without}
use Rattle.cores.proofs.Searches.{by_cases}
use Rattle.cores.proofs.Entries.{times_none, times_cons}
use Rattle.cores.proofs.Counts.{count_without, count_mono, count_lt, count_le}
use Rattle.drawer.specs.Peeling.{entry, there, Counts}
use Rattle.drawer.proofs.Sets.{all_same}

-- a table has room for the stations that are there
pub there_within : (table : List (Option ℕ)) (t : ℕ) → there table t ≡ true → t < length table
there_within [] t e = absurd cc
there_within (o ∷ table) zero e = omega arith
there_within (o ∷ table) (suc t) e = omega (arith, there_within table t e)

-- a table filled up to place i: f t at each lower place, and nothing from there on
abbrev pub FilledTo : (ℕ → ℕ) → ℕ → List (Option ℕ) → Type 0
FilledTo f i table = (t : ℕ) → entry table t ≡ cond (ltb t i) (Some (f t)) None

pub filled_none : (f : ℕ → ℕ) (n : ℕ) → FilledTo f 0 (replicate n None)
filled_none f n t = let none = all_same {A = Option ℕ} None n t in grind arith

pub filled_more : (f : ℕ → ℕ) (i v : ℕ) (table : List (Option ℕ)) → i < length table → v ≡ f i → FilledTo f i table → FilledTo f (i + 1) (set table i (Some v))
filled_more f i v table h is filled t = let before = filled t in elim (cases_eq t i) [
  | inl same ↦ let here = get_or-set_same table i (Some v) None h in rw same (grind arith)
  | inr other ↦ let here = get_or-set_other table i t (Some v) None other in grind arith
]

-- fewer neighbours than stations
pub degree_below : (g : Site) → Lawful g → (s : ℕ) → s < g.size → count g.size (g.linked s) < g.size
degree_below g law s h = omega (arith, count_lt g.size (g.linked s) (λ t. true) s h (λ t l e. refl) (law.apart s) refl, count_le g.size (λ t. true))

-- every station is there, and hears all its neighbours
pub hears_all : (g : Site) (s : ℕ) → hears g (λ t. ltb t g.size) s ≡ count g.size (g.linked s)
unfolding hears
hears_all g s = le_antisymm
    (count_mono g.size (λ t. g.linked s t && ltb t g.size) (g.linked s) (λ t h e. grind arith))
    (count_mono g.size (g.linked s) (λ t. g.linked s t && ltb t g.size) (λ t h e. grind arith))

-- a station that is removed is heard no more by its neighbours
pub hears_less : (g : Site) → Lawful g → (X : Group) (m t : ℕ) → m < g.size → X m ≡ true → hears g X t ≡ hears g (without m X) t + bit (g.linked m t)
unfolding hears without bit
hears_less g law X m t h x =
    let same = law.both_ways m t in
    by_cases (g.linked t m)
    (λ l.
    let less = count_without g.size (λ u. g.linked t u && X u) m h (grind arith) in
    let parts = le_antisymm
    (count_mono g.size (without m (λ u. g.linked t u && X u)) (λ u. g.linked t u && (X u && not (eqb u m))) (λ u k e. grind arith))
    (count_mono g.size (λ u. g.linked t u && (X u && not (eqb u m))) (without m (λ u. g.linked t u && X u)) (λ u k e. grind arith)) in
    grind arith)
    (λ l.
    let parts = le_antisymm
    (count_mono g.size (λ u. g.linked t u && X u) (λ u. g.linked t u && (X u && not (eqb u m))) (λ u k e. let other = cases_eq u m in grind arith))
    (count_mono g.size (λ u. g.linked t u && (X u && not (eqb u m))) (λ u. g.linked t u && X u) (λ u k e. grind arith)) in
    grind arith)

-- a table that is filled with all neighbour counts has all stations
pub filled_counts : (g : Site) (f : ℕ → ℕ) (table : List (Option ℕ)) → ((s : ℕ) → f s ≡ count g.size (g.linked s)) → FilledTo f g.size table → Counts g (λ t. ltb t g.size) table
filled_counts g f table degrees filled t = let before = filled t in let degree = degrees t in let all = hears_all g t in grind arith

-- a table from which s was taken, and which still counts s for the neighbours to come
pub record Lowering (g : Site) (X : Group) (s : ℕ) (coming : List ℕ) (table : List (Option ℕ)) : Type 0 where
  pub on_site : (t : ℕ) → 0 < times t coming → t < g.size
  pub stays : (t : ℕ) → there table t ≡ without s X t
  pub counts : (t k : ℕ) → entry table t ≡ Some k → k ≡ hears g (without s X) t + times t coming

module _ (g : Site) (law : Lawful g) (X : Group) (s : ℕ) where
  -- s itself is taken out, and all its neighbours are to come
  pub lowering_first : (row : List ℕ) (table : List (Option ℕ)) → s < g.size → X s ≡ true → s < length table → ((t : ℕ) → times t row ≡ bit (g.linked s t))
      → Counts g X table → Lowering g X s row (set table s None)
  unfolding without bit
  lowering_first row table h x within once counted = record {
    on_site = λ t more. let at = once t in let inside = law.inside s t in grind arith;
    stays = λ t. let before = counted t in elim (cases_eq t s) [
      | inl same ↦ let here = get_or-set_same table s None None within in rw same (grind arith)
      | inr other ↦ let here = get_or-set_other table s t None None other in grind arith
    ];
    counts = λ t k e. let before = counted t in let at = once t in let less = hears_less g law X s t h x in elim (cases_eq t s) [
      | inl same ↦ let here = get_or-set_same table s None None within in absurd (grind arith)
      | inr other ↦ let here = get_or-set_other table s t None None other in grind arith
    ];
  }

  module _ (coming rest : List ℕ) (table : List (Option ℕ)) (u : ℕ) (turn : coming ≡ u ∷ rest) (l : Lowering g X s coming table) where
    times_coming : (t : ℕ) → times t coming ≡ bit (eqb t u) + times t rest
    times_coming t = ap (times t) turn ∙ times_cons t u rest

    pub lowering_on_site : u < g.size
    unfolding bit
    lowering_on_site = let at = times_coming u in l.on_site u (grind arith)

    -- a neighbour that is there still counts s
    pub lowering_some : (k : ℕ) → entry table u ≡ Some k → 1 ≤ k
    unfolding bit
    lowering_some k e = let at = times_coming u in let counts = l.counts u k e in grind arith

    lowering_more : (k : ℕ) → u < length table → entry table u ≡ Some k → Lowering g X s rest (set table u (Some (k - 1)))
    unfolding bit
    lowering_more k within e = record {
      on_site = λ t more. let at = times_coming t in l.on_site t (omega arith);
      stays = λ t. let before = l.stays t in elim (cases_eq t u) [
        | inl same ↦ let here = get_or-set_same table u (Some (k - 1)) None within in rw same (grind arith)
        | inr other ↦ let here = get_or-set_other table u t (Some (k - 1)) None other in grind arith
      ];
      counts = λ t j d. let at = times_coming t in elim (cases_eq t u) [
        | inl same ↦ let here = get_or-set_same table u (Some (k - 1)) None within in let before = l.counts u k e in grind arith
        | inr other ↦ let here = get_or-set_other table u t (Some (k - 1)) None other in let before = l.counts t j in grind arith
      ];
    }

    lowering_past : entry table u ≡ None → Lowering g X s rest (set table u None)
    unfolding bit
    lowering_past e = subst (Lowering g X s rest) (sym (ap (set table u) (sym e) ∙ set-get_or table u None)) record {
      on_site = λ t more. let at = times_coming t in l.on_site t (omega arith);
      stays = l.stays;
      counts = λ t j d. let at = times_coming t in let before = l.counts t j d in grind arith;
    }

    -- it is lowered, and one that is not there is passed by
    pub lowering_next : Lowering g X s rest (set table u (option_map (λ k. k - 1) (entry table u)))
    lowering_next = go (entry table u) refl
      where
        go : (o : Option ℕ) → entry table u ≡ o → Lowering g X s rest (set table u (option_map (λ k. k - 1) o))
        go None e = lowering_past e
        go (Some k) e = lowering_more k (there_within table u (ap is_some e)) e

  -- when none are to come, the table is that of the others
  pub lowering_done : (table : List (Option ℕ)) → Lowering g X s [] table → Counts g (without s X) table
  lowering_done table l t = go (entry table t) refl
    where
      go : (o : Option ℕ) → entry table t ≡ o → o ≡ cond (without s X t) (Some (hears g (without s X) t)) None
      go None e = let stays = l.stays t in grind arith
      go (Some k) e = let stays = l.stays t in let counts = l.counts t k e in let none = times_none t in grind arith
