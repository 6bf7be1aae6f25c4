-- Sheets of struck views and route cards over the book. Assumes nothing.
use Rattle.std.specs.Prelude.{ℕ, true, List, [], ◌∷◌, Ok, Err, Result}
use Rattle.refusals.specs.declared.Refusal.{Refusal}
use Rattle.cores.specs.Site.{Site}
use Rattle.view.specs.declared.service.ServiceList.{ServiceList}
use Rattle.view.specs.Service.{is_marked, no_marks, noted, with_mark}
use Rattle.view.specs.Struck.{struck_site}
use Rattle.sheet.specs.Sites.{sheet_of}
use Rattle.drawer.specs.Calls.{written_for}
use Rattle.cards.specs.Cards.{passed, issued}

-- go on with what there is, or with the refusal
abbrev pub and_then : {A B : Type 0} → Result A Refusal → (A → Result B Refusal) → Result B Refusal
and_then (Ok x) next = next x
and_then (Err refusal) next = Err refusal

-- a list with the marks of more stations, from the left, or the first refusal
unfoldable pub marked_on : ServiceList → List ℕ → Result ServiceList Refusal
marked_on list [] = Ok list
marked_on list (station ∷ others) = and_then (noted station) (λ u. marked_on (with_mark list station true) others)

-- the list in which some stations are marked
abbrev pub marked_by : List ℕ → Result ServiceList Refusal
marked_by stations = marked_on no_marks stations

-- the sheet of a site with some stations struck, for so much room
abbrev pub drawn_without : List ℕ → Site → ℕ → Result (List ℕ) Refusal
drawn_without stations g room = and_then (marked_by stations) (λ list. let left = struck_site (is_marked list) g in written_for left room (sheet_of left))

-- the route cards of bytes that are offered over a site, for so much room
abbrev pub issued_over : Site → List ℕ → ℕ → Result (List ℕ) Refusal
issued_over g bytes room = and_then (passed g bytes) (λ sheet. issued sheet room)
