-- The top of a site, and its level 0.
use Rattle.std.proofs.Common.{◌≡◌, ℕ, zero, suc, ◌<◌, ◌≤◌, Bool, true, ◌&&◌, refl, ◌∙◌, le_antisymm, arith}
use Rattle.cores.specs.Counting.{bit, count, some, greatest}
use Rattle.cores.specs.Site.{Site}
use Rattle.cores.specs.Numbers.{in_core, number}
use Rattle.cores.proofs.Searches.{some_found, some_one, greatest_last}
use Rattle.cores.proofs.Sums.{total_same}
use Rattle.cores.proofs.Numbers.{core_on_site, core_zero, number_held, number_most}
use Rattle.rules.specs.Levels.{links_below, top, TheTopIsTheGreatestNumber, TheBottomLevelIsTheWholeSite}
use Rattle.rules.proofs.Links.{count_same_tests, links_nowhere, same_counts, counts_same}

module _ (g : Site) where
  -- does some station have k or more
  abbrev reached : ℕ → Bool
  reached k = some g.size (in_core g k)

  reached_by : (k s : ℕ) → in_core g k s ≡ true → reached k ≡ true
  reached_by k s e = some_found g.size (in_core g k) s (core_on_site g k s e) e

  bottom : (s : ℕ) → s < g.size → reached 0 ≡ true
  bottom s h = reached_by 0 s (core_zero g s h)

  pub top_most : (s : ℕ) → s < g.size → number g s ≤ top g
  unfolding top number
  top_most s h =
      let low = (greatest_last g.size (λ k. in_core g k s) (core_zero g s h)).0 in
      (greatest_last g.size reached (bottom s h)).2 (number g s) low (reached_by (number g s) s (number_held g s h))

  pub top_had : 0 < g.size → (s : ℕ) × (s < g.size) × (number g s ≡ top g)
  unfolding top
  top_had more =
      let (s, h, e) = some_one g.size (in_core g (greatest g.size reached)) (greatest_last g.size reached (bottom 0 more)).1 in
      (s, h, le_antisymm (top_most s h) (number_most g (greatest g.size reached) s e))

  -- a number that none exceeds, and some station has, is the top
  pub top_is : (k s : ℕ) → ((t : ℕ) → t < g.size → number g t ≤ k) → s < g.size → number g s ≡ k → k ≡ top g
  top_is k s most h is =
      let (t, l, e) = top_had (omega arith) in
      omega (arith, top_most s h, most t l)

pub top_greatest : TheTopIsTheGreatestNumber
top_greatest g = (top_most g, top_had g)

count_everybody : (n : ℕ) → count n (λ t. true) ≡ n
unfolding count bit
count_everybody zero = refl
count_everybody (suc n) = omega (arith, count_everybody n)

pub bottom_whole : TheBottomLevelIsTheWholeSite
unfolding links_below
bottom_whole g =
    counts_same g (in_core g 0) (λ s. true) (λ s h. core_zero g s h)
    ∙ same_counts _ _
    (count_everybody g.size)
    (total_same g.size _ (λ s. count s (g.linked s)) (λ s h. count_same_tests s (λ t. g.linked s t && (true && true)) (g.linked s) (λ t l. grind arith)))
    (links_nowhere g g.size _ (λ s t h l. refl))
