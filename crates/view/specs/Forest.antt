-- The homes and ups that a table of numbers gives. Assumes nothing.
use Rattle.std.specs.Prelude.{ℕ, cond, ◌&&◌, List, length, map, Err, Option, Result, ◌==◌, slice_index}
use Rattle.std.specs.List.{range_with_len}
use Rattle.refusals.specs.declared.Refusal.{Refusal}
use Rattle.refusals.specs.declared.Refusal.TheVariants.{CountOutOfRange}
use Rattle.cores.specs.Site.{Site, sized}
use Rattle.cores.specs.ByNumbers.{home_by, up_by}
use Rattle.view.specs.Answers.{with_room}

-- The home and the up of each station.
pub record Forest : Type 0 where
  pub homes : List ℕ
  pub ups : List (Option ℕ)

-- the forest of a site by a table of numbers
unfoldable pub forest_by : Site → List ℕ → Forest
forest_by g numbers = record {
  homes = map (home_by g (slice_index numbers)) (range_with_len 0 g.size);
  ups = map (up_by g (slice_index numbers)) (range_with_len 0 g.size);
}

-- the forest for tables with so much room: first the station count and the length of the numbers are judged, then the room
abbrev pub forest_into : Site → List ℕ → ℕ → Result Forest Refusal
forest_into g numbers room = cond (sized g.size && length numbers == g.size) (with_room g.size room (forest_by g numbers)) (Err CountOutOfRange)
