-- The neighbours of a station, and those that are below it, counted along its row.
use Rattle.std.proofs.Common.{◌≡◌, ℕ, ◌^◌, ◌<◌, ◌≤◌, ◌&&◌, ltb, List, map, length, filter, sum, arith}
use Rattle.std.specs.List.{range_with_len}
use Rattle.std.proofs.lemmas.List.Sums.{length-filter}
use Rattle.cores.specs.Counting.{bit, count, times}
use Rattle.cores.specs.Site.{Site}
use Rattle.cores.specs.Numbers.{Group, hears}
use Rattle.cores.proofs.Counts.{count_le}
use Rattle.cores.proofs.Sums.{total_same, total_le, total_listed, count_total, entries_below, entries_all}
use Rattle.view.specs.Rows.{Faithful}
use Rattle.view.proofs.Filtered.{kept_times}

-- a row names each neighbour once, so its entries below s are the links to lower stations
pub lower_entries : (g : Site) (row : ℕ → List ℕ) → Faithful g row → (s : ℕ) → length (filter (λ t. ltb t s) (row s)) ≡ count s (g.linked s)
lower_entries g row law s =
    omega (
      arith,
      length-filter (λ t. ltb t s) (row s),
      entries_below s (row s),
      count_total s (g.linked s),
      total_same s (λ t. times t (row s)) (λ t. bit (g.linked s t)) (λ t h. law.once s t),
    )

-- at most 512 stations have fewer than 512 neighbours each below them
pub few_lower : (g : Site) (n : ℕ) → n ≤ 512 → sum (map (λ s. count s (g.linked s)) (range_with_len 0 n)) < 2 ^ 64
few_lower g n h =
    omega (
      arith,
      total_listed n (λ s. count s (g.linked s)),
      total_le n 512 (λ s. count s (g.linked s)) (λ s l. omega (arith, count_le s (g.linked s))),
    )

-- a row has as many entries as the station has neighbours
pub row_length : (g : Site) (row : ℕ → List ℕ) → Faithful g row → (s : ℕ) → length (row s) ≡ count g.size (g.linked s)
unfolding bit
row_length g row law s =
    let on_site : (t : ℕ) → 0 < times t (row s) → t < g.size = λ t h. let once = law.once s t in (law.lawful.inside s t (grind arith)).1 in
    omega (
      arith,
      entries_all g.size (row s) on_site,
      entries_below g.size (row s),
      count_total g.size (g.linked s),
      total_same g.size (λ t. times t (row s)) (λ t. bit (g.linked s t)) (λ t h. law.once s t),
    )

-- the members of X in a row are those that the station hears
pub members_in_row : (g : Site) (row : ℕ → List ℕ) → Faithful g row → (X : Group) (s : ℕ) → length (filter X (row s)) ≡ hears g X s
unfolding hears bit
members_in_row g row law X s =
    let members = filter X (row s) in
    let each : (t : ℕ) → times t members ≡ bit (g.linked s t && X t) = λ t. let kept = kept_times X t (row s) in let once = law.once s t in grind arith in
    let on_site : (t : ℕ) → 0 < times t members → t < g.size = λ t h. let at = each t in (law.lawful.inside s t (grind arith)).1 in
    omega (
      arith,
      entries_all g.size members on_site,
      entries_below g.size members,
      count_total g.size (λ t. g.linked s t && X t),
      total_same g.size (λ t. times t members) (λ t. bit (g.linked s t && X t)) (λ t h. each t),
    )
