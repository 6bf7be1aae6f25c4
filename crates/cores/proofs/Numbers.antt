-- Core sets are the largest steady groups, and numbers the greatest levels.
use Rattle.std.proofs.Common.{◌≡◌, ℕ, zero, suc, ◌<◌, ◌≤◌, Bool, true, false, not, ◌&&◌, ◌||◌, ltb, leb, sym, refl, ap, ◌∙◌, subst, inl, inr, arith}
use mathlib.Core.Path.{fun_ext}
use Rattle.std.proofs.lemmas.Bool.{false≢true, or_cases, leb-true, le-leb}
use Rattle.cores.specs.Counting.{count}
use Rattle.cores.specs.Site.{Site}
use Rattle.cores.specs.Numbers.{Group, hears, steady, including, some_group, in_core, number, IsSteady, TheSearchTriesEveryGroup, TheCoreSetIsTheLargestSteadyGroup, CoreSetsAreNested, TheNumberIsTheGreatest, NumbersAreBelowTheSize}
use Rattle.cores.proofs.Searches.{by_cases, same_test, all_at, all_from, greatest_last, greatest_none}
use Rattle.cores.proofs.Counts.{count_le, count_mono, count_lt}

-- the search over groups
group_found : (n : ℕ) (P : Group → Bool) → some_group n P ≡ true → (X : Group) × ((t : ℕ) → X t ≡ true → t < n) × (P X ≡ true)
unfolding some_group including
group_found zero P e = ((λ t. false), (λ t x. absurd (false≢true x)), e)
group_found (suc n) P e = elim (or_cases (some_group n P) (some_group n (λ X. P (including n X))) e) [
  | inl found ↦ let (X, below, passes) = group_found n P found in (X, (λ t x. omega (arith, below t x)), passes)
  | inr found ↦ let (X, below, passes) = group_found n (λ X. P (including n X)) found in (including n X, (λ t x. let at = below t in grind arith), passes)
]

group_tried : (n : ℕ) (P : Group → Bool) (X : Group) → P (λ t. ltb t n && X t) ≡ true → some_group n P ≡ true
unfolding some_group including
group_tried zero P X e = subst (λ Y. P Y ≡ true) (fun_ext (λ t. grind arith)) e
group_tried (suc n) P X e = by_cases (X n)
    (λ x. let found = group_tried n (λ Y. P (including n Y)) X (ap P (fun_ext (λ t. grind arith)) ∙ e) in grind arith)
    (λ x. let found = group_tried n P X (ap P (fun_ext (λ t. grind arith)) ∙ e) in grind arith)

pub every_group : TheSearchTriesEveryGroup
every_group n P = (group_found n P, λ X inside e. group_tried n P X (subst (λ Y. P Y ≡ true) (fun_ext (λ t. let below = inside t in grind arith)) e))

-- a larger group and more links: at least as many are heard
pub hears_mono : (g h : Site) (X Y : Group) (s : ℕ) → g.size ≡ h.size
    → ((t : ℕ) → t < g.size → g.linked s t ≡ true → X t ≡ true → (h.linked s t ≡ true) × (Y t ≡ true)) → hears g X s ≤ hears h Y s
unfolding hears
hears_mono g h X Y s e f =
    let few : Group = λ t. g.linked s t && X t in
    let more : Group = λ t. h.linked s t && Y t in
    omega (arith, ap (λ n. count n more) e, count_mono g.size few more (λ t l x. let both = f t l in grind arith))

pub hears_within : (g : Site) (X Y : Group) (s : ℕ) → ((t : ℕ) → t < g.size → g.linked s t ≡ true → X t ≡ true → Y t ≡ true) → hears g X s ≤ hears g Y s
hears_within g X Y s f = hears_mono g g X Y s refl (λ t h l x. (l, f t h l x))

module _ (g : Site) where
  -- what steady says of the stations on the site
  abbrev pub Holding : ℕ → Group → Type 0
  Holding k X = (s : ℕ) → s < g.size → X s ≡ true → k ≤ hears g X s

  steady_holding : (k : ℕ) (X : Group) → steady g k X ≡ true → Holding k X
  unfolding steady
  steady_holding k X e s h x = let at = all_at g.size (λ s. not (X s) || leb k (hears g X s)) s e h in grind arith

  holding_steady : (k : ℕ) (X : Group) → Holding k X → steady g k X ≡ true
  unfolding steady
  holding_steady k X f = all_from g.size (λ s. not (X s) || leb k (hears g X s)) (λ s h. let at = f s h in grind arith)

  -- into the core set, and out of it
  pub core_holds : (k s : ℕ) (X : Group) → s < g.size → X s ≡ true → Holding k X → in_core g k s ≡ true
  unfolding in_core
  core_holds k s X h x f =
      let Y : Group = λ t. ltb t g.size && X t in
      let steady_Y = holding_steady k Y (λ t l y. omega (arith, f t l (grind arith), hears_within g X Y t (λ u m a b. grind arith))) in
      group_tried g.size (λ Z. Z s && steady g k Z) X (grind arith)

  pub core_group : (k s : ℕ) → in_core g k s ≡ true → (X : Group) × (X s ≡ true) × IsSteady g k X
  unfolding in_core
  core_group k s e =
      let (X, below, passes) = group_found g.size (λ X. X s && steady g k X) e in
      (X, grind arith, record { on_site = below; heard = λ t x. steady_holding k X (grind arith) t (below t x) x })

  pub core_on_site : (k s : ℕ) → in_core g k s ≡ true → s < g.size
  core_on_site k s e = let (X, member, p) = core_group k s e in p.on_site s member

  pub core_holding : (k s : ℕ) → in_core g k s ≡ true → k ≤ hears g (in_core g k) s
  core_holding k s e =
      let (X, member, p) = core_group k s e in
      omega (arith, p.heard s member, hears_within g X (in_core g k) s (λ t h l x. core_holds k t X h x (λ u m y. p.heard u y)))

  pub core_zero : (s : ℕ) → s < g.size → in_core g 0 s ≡ true
  core_zero s h = core_holds 0 s (λ t. true) h refl (λ t l x. omega arith)

  pub core_nested : (j k s : ℕ) → j ≤ k → in_core g k s ≡ true → in_core g j s ≡ true
  core_nested j k s o e = let (X, member, p) = core_group k s e in core_holds j s X (core_on_site k s e) member (λ t h x. omega (arith, p.heard t x))

  core_level : (k s : ℕ) → in_core g k s ≡ true → k ≤ g.size
  unfolding hears
  core_level k s e = omega (arith, core_holding k s e, count_le g.size (λ t. g.linked s t && in_core g k t))

  -- the two sides of the number
  pub number_held : (s : ℕ) → s < g.size → in_core g (number g s) s ≡ true
  unfolding number
  number_held s h = (greatest_last g.size (λ k. in_core g k s) (core_zero s h)).1

  pub number_most : (k s : ℕ) → in_core g k s ≡ true → k ≤ number g s
  unfolding number
  number_most k s e = (greatest_last g.size (λ k. in_core g k s) (core_zero s (core_on_site k s e))).2 k (core_level k s e) e

  pub number_group : (s : ℕ) → s < g.size → (X : Group) × (X s ≡ true) × IsSteady g (number g s) X
  number_group s h = core_group (number g s) s (number_held s h)

  pub number_atleast : (k s : ℕ) (X : Group) → s < g.size → X s ≡ true → Holding k X → k ≤ number g s
  number_atleast k s X h x f = number_most k s (core_holds k s X h x f)

  pub core_number : (k s : ℕ) → s < g.size → in_core g k s ≡ leb k (number g s)
  core_number k s h = same_test (in_core g k s) (leb k (number g s))
      (λ e. le-leb k (number g s) (number_most k s e))
      (λ e. core_nested k (number g s) s (leb-true k (number g s) e) (number_held s h))

  pub number_off_site : (s : ℕ) → g.size ≤ s → number g s ≡ 0
  unfolding number
  number_off_site s h = greatest_none g.size (λ k. in_core g k s) (λ k. by_cases (in_core g k s) (λ e. absurd (omega (arith, core_on_site k s e))) (λ e. e))

  -- a station hears enough of those whose number is no smaller
  pub number_heard : (s : ℕ) → s < g.size → number g s ≤ hears g (λ t. leb (number g s) (number g t)) s
  number_heard s h =
      let k = number g s in
      omega (arith, core_holding k s (number_held s h), hears_within g (in_core g k) (λ t. leb k (number g t)) s (λ t l a x. sym (core_number k t l) ∙ x))

pub core_largest : TheCoreSetIsTheLargestSteadyGroup
core_largest g k = (record { on_site = core_on_site g k; heard = core_holding g k }, λ X p s x. core_holds g k s X (p.on_site s x) x (λ t h y. p.heard t y))

pub cores_nested : CoreSetsAreNested
cores_nested g s = (core_zero g s, λ j k o e. core_nested g j k s o e)

pub number_greatest : TheNumberIsTheGreatest
number_greatest g s h = (number_group g s h, λ k X x p. number_atleast g k s X h x (λ t l y. p.heard t y))

-- a station does not hear itself
pub number_below : NumbersAreBelowTheSize
unfolding hears
number_below g law s h =
    let (X, member, p) = number_group g s h in
    let apart = law.apart s in
    let fewer = count_lt g.size (λ t. g.linked s t && X t) (λ t. true) s h (λ t l x. refl) (grind arith) refl in
    omega (arith, p.heard s member, count_le g.size (λ t. true))
