-- What a site is. Assumes nothing.
use Rattle.std.specs.Prelude.{◌≡◌, ℕ, ◌<◌, Bool, true, false, ◌&&◌, List, nat_le, nat_lt}
use Rattle.cores.specs.Counting.{bit, count, total, times}

-- A site: how many stations it has, numbered from 0, and which of them are linked.
pub record Site : Type 0 where
  pub size : ℕ
  pub linked : ℕ → ℕ → Bool

-- A lawful site: a link joins two different stations of the site, and has no direction.
pub record Lawful (g : Site) : Type 0 where
  pub inside : (s t : ℕ) → g.linked s t ≡ true → (s < g.size) × (t < g.size)
  pub apart : (s : ℕ) → g.linked s s ≡ false
  pub both_ways : (s t : ℕ) → g.linked s t ≡ g.linked t s

-- the site with n stations and no links
abbrev pub laid_out : ℕ → Site
laid_out n = record { size = n; linked = λ s t. false }

-- the site with no stations
abbrev pub no_stations : Site
no_stations = record { size = 0; linked = λ s t. false }

-- the station counts that the planner takes: 1 to 512
abbrev pub sized : ℕ → Bool
sized n = nat_le 1 n && nat_le n 512

-- how many links a site has: each is counted at its higher end
abbrev pub link_count : Site → ℕ
link_count g = total g.size (λ s. count s (g.linked s))

-- A list names each station of the site once, and nothing else.
abbrev pub EachOnce : Site → List ℕ → Type 0
EachOnce g order = (t : ℕ) → times t order ≡ bit (nat_lt t g.size)

-- Two sites of one size with the same links are the same site.
abbrev pub SameSizeAndLinksMakeTheSameSite : Type 0
SameSizeAndLinksMakeTheSameSite = (g h : Site) → g.size ≡ h.size → ((s t : ℕ) → g.linked s t ≡ h.linked s t) → g ≡ h
