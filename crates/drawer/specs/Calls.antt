-- What the calls of the drawer write. Assumes nothing.
use Rattle.std.specs.Prelude.{ℕ, cond, List, length, Err, Result}
use Rattle.refusals.specs.declared.Refusal.{Refusal}
use Rattle.refusals.specs.declared.Refusal.TheVariants.{CountOutOfRange}
use Rattle.cores.specs.Site.{Site, sized}
use Rattle.view.specs.Answers.{with_room}

-- What a call writes for a site, into so much room: first the station count is judged, then the room.
abbrev pub written_for : {A : Type 0} → Site → ℕ → List A → Result (List A) Refusal
written_for g room xs = cond (sized g.size) (with_room (length xs) room xs) (Err CountOutOfRange)

-- how many stations a site has, if a table with so much room can have an entry for each
abbrev pub stations_for : Site → ℕ → Result ℕ Refusal
stations_for g room = cond (sized g.size) (with_room g.size room g.size) (Err CountOutOfRange)
