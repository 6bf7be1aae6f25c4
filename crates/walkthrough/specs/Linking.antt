-- What a book holds that is built link by link, and who moved. Assumes nothing.
use Rattle.std.specs.Prelude.{ℕ, zero, suc, not, List, [], ◌∷◌, map, filter, ◌==◌, nat_lt, slice_index}
use Rattle.std.specs.List.{range_with_len}
use Rattle.cores.specs.Site.{Site, laid_out}
use Rattle.cores.specs.Links.{joined}
use Rattle.book.specs.Answers.{after, link_answer}
use Rattle.view.specs.Listing.{Lists, stations, row}
use Rattle.transcript.specs.declared.lines.Moved.{Moved}

-- the site after s was linked in turn with some stations; links that are refused change nothing
unfoldable pub linked_with : Site → ℕ → List ℕ → Site
linked_with g s [] = g
linked_with g s (t ∷ others) = linked_with (after (link_answer g s t) (joined g s t) g) s others

-- the site after each of the first k stations of a table was linked in turn with the greater stations of its row
unfoldable pub linked_up_to : Lists → ℕ → Site
linked_up_to l zero = laid_out (stations l)
linked_up_to l (suc k) = linked_with (linked_up_to l k) k (filter (nat_lt k) (row l k))

-- and after all were
abbrev pub site_by_links : Lists → Site
site_by_links l = linked_up_to l (stations l)

-- what a station's number was before and is now
abbrev pub movement_of : List ℕ → List ℕ → ℕ → Moved
movement_of before now s = record { station = s; from = slice_index before s; to = slice_index now s }

-- the stations below k that moved
unfoldable pub moved_below : List ℕ → List ℕ → ℕ → List Moved
moved_below before now k = filter (λ moved. not (moved.from == moved.to)) (map (movement_of before now) (range_with_len 0 k))

-- and all that did
abbrev pub moved_between : List ℕ → List ℕ → List Moved
moved_between before now = moved_below before now 512
