-- What is left of a site where some stations are struck. Assumes nothing.
use Rattle.std.specs.Prelude.{ℕ, Bool, not, ◌&&◌, ◌||◌, List, filter}
use Rattle.cores.specs.Site.{Site}
use Rattle.cores.specs.Numbers.{Group}

-- is a link between s and t shown: neither end is in X
abbrev pub shows_link : Group → ℕ → ℕ → Bool
shows_link X s t = not (X s || X t)

-- the site without the links that have an end in X
abbrev pub struck_site : Group → Site → Site
struck_site X g = record { size = g.size; linked = λ s t. g.linked s t && shows_link X s t }

-- and its rows, in the order of the rows below
abbrev pub struck_row : Group → (ℕ → List ℕ) → ℕ → List ℕ
struck_row X row s = filter (shows_link X s) (row s)
