-- What the cards mean, in words. Assumes nothing.
use Rattle.std.specs.Prelude.{◌≡◌, ◌≢◌, ℕ, ◌*◌, ◌<◌, List, length, take, drop, Some, None, Ok, Err}
use Rattle.refusals.specs.declared.Refusal.{Refusal}
use Rattle.refusals.specs.declared.Refusal.TheVariants.{BufferShort}
use Rattle.cores.specs.Site.{Site, Lawful}
use Rattle.view.specs.Answers.{with_room}
use Rattle.sheet.specs.Plans.{Plan, stations, entry}
use Rattle.sheet.specs.Encoding.{field}
use Rattle.sheet.specs.Decoding.{decode}
use Rattle.sheet.specs.Sites.{plan_of}
use Rattle.inspector.specs.Inspecting.{inspected}
use Rattle.cards.specs.Cards.{card, cards_of, issued}

-- Some bytes are a sheet, and they are refused their cards only if there is room for fewer than two bytes a station.
pub record IsSheet (bytes : List ℕ) : Type 0 where
  pub plan : Plan
  pub is_sheet : decode bytes ≡ Ok plan
  pub refused : (room : ℕ) (e : Refusal) → issued bytes room ≡ Err e → (e ≡ BufferShort (2 * stations plan)) × (room < 2 * stations plan)

-- What passes over a view is a sheet.
abbrev pub PassedSheetsAreSheets : Type 0
PassedSheetsAreSheets = (g : Site) → Lawful g → (bytes : List ℕ) → inspected g bytes ≡ Ok tt → IsSheet bytes

-- The cards of what passes over a view are those of the site, whichever its bytes are.
abbrev pub CardsAreThoseOfTheSite : Type 0
CardsAreThoseOfTheSite = (g : Site) → Lawful g → (bytes : List ℕ) (room : ℕ) → inspected g bytes ≡ Ok tt
    → issued bytes room ≡ with_room (2 * g.size) room (cards_of (plan_of g))

-- The cards of a plan: two bytes for each station, at twice its number. They say its home; if it is its own home, its up; and 65,535 if it has none.
pub record CardsOf (p : Plan) : Type 0 where
  pub long : length (cards_of p) ≡ 2 * stations p
  pub bytes : (s : ℕ) → s < stations p → take 2 (drop (2 * s) (cards_of p)) ≡ field (card p s)
  pub of_member : (s : ℕ) → (entry p s).home ≢ s → card p s ≡ (entry p s).home
  pub of_home : (s u : ℕ) → (entry p s).home ≡ s → (entry p s).up ≡ Some u → card p s ≡ u
  pub of_last : (s : ℕ) → (entry p s).home ≡ s → (entry p s).up ≡ None → card p s ≡ 65535

-- Each card is a home or an up.
abbrev pub EachCardIsHomeOrUp : Type 0
EachCardIsHomeOrUp = (p : Plan) → CardsOf p
