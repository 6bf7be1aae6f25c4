-- The levels of a site and their counts. Assumes nothing.
use Rattle.std.specs.Prelude.{◌≡◌, ℕ, suc, ◌*◌, ◌<◌, ◌≤◌, Bool, true, cond, not, ◌&&◌, ◌||◌, List, map}
use Rattle.std.specs.List.{range_with_len}
use Rattle.rules.specs.declared.counts.Counts.{Counts}
use Rattle.cores.specs.Counting.{count, total, some, greatest}
use Rattle.cores.specs.Site.{Site, Lawful, sized, link_count}
use Rattle.cores.specs.Numbers.{Group, hears, in_core, number}
use Rattle.rules.specs.Limits.{within}

-- how many links between stations below n pass a test of their ends: each is tested and counted at its higher end
unfoldable pub links_below : Site → ℕ → (ℕ → ℕ → Bool) → ℕ
links_below g n p = total n (λ s. count s (λ t. g.linked s t && p s t))

-- how many links of a site pass
abbrev pub links_where : Site → (ℕ → ℕ → Bool) → ℕ
links_where g p = links_below g g.size p

-- the counts of a group: its members, the links with both ends in it, and those with one end in it
abbrev pub counts_of : Site → Group → Counts
counts_of g X = record {
  members = count g.size X;
  inside = links_where g (λ s t. X s && X t);
  boundary = links_where g (λ s t. (X s && not (X t)) || (X t && not (X s)));
}

-- the top of a site: the greatest number that some station has
unfoldable pub top : Site → ℕ
top g = greatest g.size (λ k. some g.size (in_core g k))

-- the counts of the levels 0 to the top: level k is the k-core set
unfoldable pub levels : Site → List Counts
levels g = map (λ k. counts_of g (in_core g k)) (range_with_len 0 (suc (top g)))

-- No number is greater than the top, and where there is a station, some station has it.
abbrev pub TheTopIsTheGreatestNumber : Type 0
TheTopIsTheGreatestNumber = (g : Site)
    → ((s : ℕ) → s < g.size → number g s ≤ top g) × (0 < g.size → (s : ℕ) × (s < g.size) × (number g s ≡ top g))

-- Level 0 is the whole site.
abbrev pub TheBottomLevelIsTheWholeSite : Type 0
TheBottomLevelIsTheWholeSite = (g : Site) → counts_of g (in_core g 0) ≡ record { members = g.size; inside = link_count g; boundary = 0 }

-- how many neighbours in Y the stations of X hear, all together
abbrev pub heard : Site → Group → Group → ℕ
heard g X Y = total g.size (λ s. cond (X s) (hears g Y s) 0)

-- The members of a group hear each other over each link inside twice, once from each end, and strangers over each link
-- of the boundary once.
abbrev pub MembersHearInsideLinksTwiceAndBoundaryLinksOnce : Type 0
MembersHearInsideLinksTwiceAndBoundaryLinksOnce = (g : Site) → Lawful g → (X : Group)
    → (heard g X X ≡ 2 * (counts_of g X).inside) × (heard g X (λ t. not (X t)) ≡ (counts_of g X).boundary)

-- The counts of the levels of a lawful site of 1 to 512 stations are within the limits.
abbrev pub EveryLevelIsWithinTheLimits : Type 0
EveryLevelIsWithinTheLimits = (g : Site) → Lawful g → sized g.size ≡ true → (k : ℕ) → k ≤ top g → within (counts_of g (in_core g k)) ≡ true
