-- Members of a group that a station hears, counted along its row.
use Rattle.std.proofs.Common.{◌≡◌, ℕ, ◌+◌, ◌<◌, ◌≤◌, ◌&&◌, cond, List, [], ◌∷◌, length, filter, ap, arith}
use Rattle.cores.specs.Counting.{bit, times}
use Rattle.cores.specs.Site.{Site}
use Rattle.cores.specs.Numbers.{Group, hears}
use Rattle.cores.proofs.Counts.{count_le}
use Rattle.cores.proofs.Entries.{times_cons}
use Rattle.view.specs.Rows.{Faithful}
use Rattle.view.proofs.Lower.{members_in_row}

-- all that is still to come of a row is on the site
abbrev pub OnSite : Site → List ℕ → Type 0
OnSite g coming = (t : ℕ) → 0 < times t coming → t < g.size

-- so many members of X were met in the row of s, while some of it is still to come
abbrev pub Counted : Site → Group → ℕ → List ℕ → ℕ → Type 0
Counted g X s coming met = met + length (filter X coming) ≡ hears g X s

module _ (g : Site) (row : ℕ → List ℕ) (law : Faithful g row) (s : ℕ) where
  pub row_on_site : OnSite g (row s)
  unfolding bit
  row_on_site t h = let once = law.once s t in (law.lawful.inside s t (grind arith)).1

  pub counted_none : (X : Group) → Counted g X s (row s) 0
  counted_none X = omega (arith, members_in_row g row law X s)

module _ (g : Site) (coming rest : List ℕ) (t : ℕ) (turn : coming ≡ t ∷ rest) where
  pub turn_on_site : OnSite g coming → t < g.size
  unfolding bit
  turn_on_site on = let first = times_cons t t rest in let here = ap (times t) turn in on t (grind arith)

  pub rest_on_site : OnSite g coming → OnSite g rest
  rest_on_site on u h = let more = times_cons u t rest in on u (omega (arith, ap (times u) turn, more))

  pub counted_more : (X : Group) (s met v : ℕ) → v ≡ cond (X t) 1 0 → Counted g X s coming met → Counted g X s rest (met + v)
  counted_more X s met v e counted = let first = ap (λ xs. length (filter X xs)) turn in grind arith

-- at the end all were met
pub counted_all : (g : Site) (X : Group) (s met : ℕ) (coming : List ℕ) → coming ≡ [] → Counted g X s coming met → met ≡ hears g X s
counted_all g X s met coming none counted = omega (arith, rw none at counted)

-- a station hears no more members than there are stations
pub hears_few : (g : Site) (X : Group) (s : ℕ) → hears g X s ≤ g.size
unfolding hears
hears_few g X s = count_le g.size (λ t. g.linked s t && X t)
