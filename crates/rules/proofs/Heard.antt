-- What the members of a group hear, and how many links that makes at most.
use Rattle.std.proofs.Common.{◌≡◌, ℕ, zero, suc, ◌+◌, ◌-◌, ◌*◌, ◌<◌, ◌≤◌, Bool, true, cond, not, ◌&&◌, ◌||◌, refl, ◌∙◌, sym, inl, inr, add-mul, mul_comm, arith}
use Rattle.std.proofs.lemmas.Nat.{mul-le}
use Rattle.std.proofs.lemmas.Bool.{cases_lt}
use Rattle.std.proofs.lemmas.Bool.Decides.{nat_tests}
use Rattle.cores.specs.Counting.{bit, count, total}
use Rattle.cores.specs.Site.{Site, Lawful, sized}
use Rattle.cores.specs.Numbers.{Group, hears, in_core, number}
use Rattle.cores.proofs.Counts.{count_le, count_mono, count_lt, count_without}
use Rattle.cores.proofs.Searches.{by_cases}
use Rattle.cores.proofs.Sums.{total_same}
use Rattle.cores.proofs.Numbers.{number_held, core_nested}
use Rattle.view.proofs.Admitted.{sized_within}
use Rattle.rules.specs.Limits.{within}
use Rattle.rules.specs.Levels.{links_where, counts_of, heard, MembersHearInsideLinksTwiceAndBoundaryLinksOnce, EveryLevelIsWithinTheLimits}
use Rattle.rules.proofs.Links.{count_split, count_same_tests, count_nobody, links_split, links_same, links_both_ways}
use Rattle.rules.proofs.Tops.{top_had}

module _ (g : Site) (law : Lawful g) where
  -- what the members of X hear in Y, neighbour by neighbour
  heard_row : (X Y : Group) (s : ℕ) → cond (X s) (hears g Y s) 0 ≡ count g.size (λ t. g.linked s t && (X s && Y t))
  unfolding hears
  heard_row X Y s =
      let heard : Group = λ t. g.linked s t && Y t in
      let counted : Group = λ t. g.linked s t && (X s && Y t) in
      by_cases (X s)
      (λ e. let all = count_same_tests g.size heard counted (λ t h. grind arith) in grind arith)
      (λ e. let none = count_nobody g.size counted (λ t h. grind arith) in grind arith)

  heard_links : (X Y : Group) → heard g X Y ≡ links_where g (λ s t. X s && Y t) + links_where g (λ s t. X t && Y s)
  heard_links X Y = total_same g.size _ _ (λ s h. heard_row X Y s) ∙ links_both_ways g law g.size (λ s t. X s && Y t)

  heard_inside : (X : Group) → heard g X X ≡ 2 * (counts_of g X).inside
  heard_inside X = omega (arith, heard_links X X, links_same g g.size (λ s t. X s && X t) (λ s t. X t && X s) (λ s t h l. grind arith))

  heard_boundary : (X : Group) → heard g X (λ t. not (X t)) ≡ (counts_of g X).boundary
  unfolding bit
  heard_boundary X =
      let out : ℕ → ℕ → Bool = λ s t. X s && not (X t) in
      heard_links X (λ t. not (X t)) ∙ sym (links_split g g.size (λ s t. out s t || out t s) out (λ s t. out t s) (λ s t h l. grind arith))

  -- a station hears fewer than all
  hears_below : (X : Group) (s : ℕ) → s < g.size → hears g X s < g.size
  unfolding hears
  hears_below X s h =
      let apart = law.apart s in
      omega (arith, count_lt g.size (λ t. g.linked s t && X t) (λ t. true) s h (λ t l x. refl) (grind arith) refl, count_le g.size (λ t. true))

  -- and no stranger twice
  hears_strangers : (X : Group) (s : ℕ) → hears g (λ t. not (X t)) s + count g.size X ≤ g.size
  unfolding hears bit
  hears_strangers X s =
      let all = count_split g.size (λ t. true) X (λ t. not (X t)) (λ t h. grind arith) in
      let some = count_mono g.size (λ t. g.linked s t && not (X t)) (λ t. not (X t)) (λ t h x. grind arith) in
      omega (arith, count_le g.size (λ t. true))

pub members_hear : MembersHearInsideLinksTwiceAndBoundaryLinksOnce
members_hear g law X = (heard_inside g law X, heard_boundary g law X)

-- no member hears more than k
heard_le : (n k : ℕ) (X : Group) (f : ℕ → ℕ) → ((s : ℕ) → s < n → f s ≤ k) → total n (λ s. cond (X s) (f s) 0) ≤ count n X * k
unfolding total count bit
heard_le zero k X f few = omega arith
heard_le (suc n) k X f few =
    let below = heard_le n k X f (λ s h. few s (omega arith)) in
    let here = few n (omega arith) in
    by_cases (X n)
    (λ e. let more = add-mul (count n X) 1 k in grind arith)
    (λ e. grind arith)

-- of 512, two parts make at most 65,536 pairs
pairs_of_less : (a b : ℕ) → b ≤ 256 → a + b ≤ 512 → a * b ≤ 65536
pairs_of_less a b less all =
    let d = 256 - b in
    omega (arith, mul-le a b (256 + d) b (omega arith) (omega arith), add-mul 256 d b, mul-le d b d 256 (omega arith) less)

pairs : (a b : ℕ) → a + b ≤ 512 → a * b ≤ 65536
pairs a b all = elim (cases_lt 256 b) [
  | inl more ↦ omega (arith, mul_comm a b, pairs_of_less b a (omega arith) (omega arith))
  | inr less ↦ pairs_of_less a b less all
]

-- the limits of any group that is not empty
group_within : (g : Site) → Lawful g → sized g.size ≡ true → (X : Group) (m : ℕ) → m < g.size → X m ≡ true → within (counts_of g X) ≡ true
group_within g law counted X m h member =
    let few = (sized_within g.size counted).1 in
    let members = count g.size X in
    let some = count_without g.size X m h member in
    let inside : (counts_of g X).inside ≤ 130816 = omega (
      arith,
      heard_inside g law X,
      heard_le g.size 511 X (hears g X) (λ s l. omega (arith, hears_below g law X s l)),
      count_le g.size X,
    ) in
    let boundary : (counts_of g X).boundary ≤ 65536 = omega (
      arith,
      heard_boundary g law X,
      heard_le g.size (g.size - members) X (hears g (λ t. not (X t))) (λ s l. omega (arith, hears_strangers g law X s)),
      pairs members (g.size - members) (omega (arith, count_le g.size X)),
    ) in
    let most = count_le g.size X in
    grind (arith, nat_tests)

pub levels_within : EveryLevelIsWithinTheLimits
levels_within g law counted k low =
    let (s, h, at) = top_had g (sized_within g.size counted).0 in
    group_within g law counted (in_core g k) s h (core_nested g k (number g s) s (omega arith) (number_held g s h))
