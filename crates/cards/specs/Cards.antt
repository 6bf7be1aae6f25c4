-- What passes, and the cards that are issued for it. Assumes nothing.
use Rattle.std.specs.Prelude.{ℕ, ◌*◌, cond, List, Ok, Err, Result, ◌==◌}
use Rattle.std.specs.List.{flat_map, range_with_len}
use Rattle.std.specs.Result.{result_map_both}
use Rattle.refusals.specs.declared.Refusal.{Refusal}
use Rattle.refusals.specs.declared.Refusal.TheVariants.{NotASheet}
use Rattle.cores.specs.Site.{Site}
use Rattle.view.specs.Answers.{with_room}
use Rattle.view.specs.Ups.{up_in_table}
use Rattle.sheet.specs.Plans.{Plan, stations, entry}
use Rattle.sheet.specs.Encoding.{field}
use Rattle.sheet.specs.Decoding.{decode}
use Rattle.inspector.specs.Inspecting.{inspected}

-- Pass: the bytes that are offered, if inspect passes them, or its refusal.
abbrev pub passed : Site → List ℕ → Result (List ℕ) Refusal
passed g bytes = result_map_both (λ u. bytes) (λ e. e) (inspected g bytes)

-- the card of station s: its home, or its up if it is its own home
abbrev pub card_by : ℕ → ℕ → ℕ → ℕ
card_by s home up = cond (home == s) up home

-- the card of station s on a plan, 65,535 for the panel where a home has no up
unfoldable pub card : Plan → ℕ → ℕ
card p s = let e = entry p s in card_by s e.home (up_in_table e.up)

-- the cards of all stations of a plan, from 0: two bytes each, the low one first
unfoldable pub cards_of : Plan → List ℕ
cards_of p = flat_map (λ s. field (card p s)) (range_with_len 0 (stations p))

-- the cards of what was read of some bytes, for a buffer with so much room
abbrev pub issued_for : ℕ → Result Plan ℕ → Result (List ℕ) Refusal
issued_for room (Ok p) = with_room (2 * stations p) room (cards_of p)
issued_for room (Err place) = Err (NotASheet place)

-- Issue: first the bytes are judged, then the room.
abbrev pub issued : List ℕ → ℕ → Result (List ℕ) Refusal
issued bytes room = issued_for room (decode bytes)
