-- What a level writes into the tables of homes and ups. Assumes nothing.
use Rattle.std.specs.Prelude.{ℕ, Bool, cond, ◌&&◌, List, ◌++◌, map, drop, ◌==◌, nat_lt, slice_index}
use Rattle.std.specs.List.{range_with_len}
use Rattle.cores.specs.Site.{Site}
use Rattle.cores.specs.ByNumbers.{core_home_by, home_by}
use Rattle.view.specs.Ups.{up_in_table}

-- a table with f s x in the place of x at each place s below n
unfoldable pub rewritten : ℕ → (ℕ → ℕ → ℕ) → List ℕ → List ℕ
rewritten n f old = map (λ s. f s (slice_index old s)) (range_with_len 0 n) ++ drop n old

-- what a table of homes has for s once a level was looked at, where it had h
abbrev pub home_at_level : Site → (ℕ → ℕ) → ℕ → ℕ → ℕ → ℕ
home_at_level g c k s h = cond (c s == k) (home_by g c s) h

-- is s a home above level k that has no up, where a table of ups has u for it
abbrev pub waits : (ℕ → ℕ) → ℕ → List ℕ → ℕ → ℕ → Bool
waits c k homes s u = nat_lt k (c s) && slice_index homes s == s && u == 65535

-- what a table of ups has for s once a level was looked at, where it had u: one that waits gets the home of the
-- core of that level around it
abbrev pub up_at_level : Site → (ℕ → ℕ) → ℕ → List ℕ → ℕ → ℕ → ℕ
up_at_level g c k homes s u = cond (waits c k homes s u) (up_in_table (core_home_by g c k s)) u
