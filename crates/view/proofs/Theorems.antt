-- The laws of the definitions.
use Rattle.std.proofs.Common.{◌≡◌, ℕ, ◌+◌, ◌*◌, Bool, true, false, ◌&&◌, leb, List, [], ◌∷◌, length, get_or, Some, None, Option, refl, arith}
use Rattle.std.proofs.lemmas.Bool.{both_ways, le-leb}
use Rattle.refusals.specs.declared.TableFault.TheVariants.{Shape as BadShape, Row as BadRow}
use Rattle.cores.specs.Counting.{bit, times, lowest}
use Rattle.cores.specs.Laws.{Found}
use Rattle.cores.specs.Site.{sized}
use Rattle.view.specs.Listing.{Lists, stations, never_falls, shaped, row, bad_entry, bad_row}
use Rattle.view.specs.Grid.{Bitmap, row_length, cell, no_neighbour, shaped as bits_shaped, bad_row as bits_bad_row}
use Rattle.view.specs.Checked.{unless_bad, first_fault, refused}
use Rattle.view.specs.Tables.{Shape, Entry, GoodRow, WellShaped, VerdictBy}
use Rattle.view.specs.GridTables.{GoodRow as GoodBits, WellShaped as WellShapedBits}
use Rattle.cores.proofs.Searches.{all_at, all_from, some_at, some_one, lowest_first}
use Rattle.view.specs.Laws.{StationsOffTheSiteHaveNoNeighbours, TheCheckJudgesInWords, TheCheckOfBitsJudgesInWords}
use Rattle.cores.proofs.Entries.{times_at}
use Rattle.view.proofs.Listings.{good_entry}
use Rattle.view.proofs.Admitted.{sized_within, within_sized}

pub off_site_none : StationsOffTheSiteHaveNoNeighbours
unfolding bit
off_site_none g row law s h = empty (row s) (λ t. let once = law.once s t in let inside = law.lawful.inside s t in grind arith)
  where
    empty : (xs : List ℕ) → ((t : ℕ) → times t xs ≡ 0) → xs ≡ []
    empty [] none = refl
    empty (x ∷ xs) none = absurd (omega (arith, none x, times_at x (x ∷ xs) 0 (omega arith) refl))

-- a verdict by tests, where the tests answer as the words do
module _ {Shaped : Type 0} {Good : ℕ → Type 0} (n : ℕ) (well : Bool) (bad : ℕ → Bool) (right : well ≡ true → Shaped) (passes : Shaped → well ≡ true) (fine : (s : ℕ) → bad s ≡ false → Good s)
    (not_fine : (s : ℕ) → bad s ≡ true → Good s → ⊥) where
  rows_judged : Shaped → (o : Option ℕ) → Found n bad o → VerdictBy Shaped n Good (refused (unless_bad o))
  rows_judged w None none = (w, λ s l. fine s (none s l))
  rows_judged w (Some r) (l, fails, first) = (BadRow r, refl, (w, l, not_fine r fails, λ s k. fine s (first s k)))

  judged : (a : Bool) → well ≡ a → VerdictBy Shaped n Good (refused (first_fault a (lowest n bad)))
  judged true e = rows_judged (right e) (lowest n bad) (lowest_first n bad)
  judged false e = (BadShape, refl, λ w. both_ways well e (passes w))

  verdict : VerdictBy Shaped n Good (refused (first_fault well (lowest n bad)))
  verdict = judged well refl

-- the tests of two lists do
module _ (ls : Lists) where
  shape : shaped ls ≡ true → Shape ls
  unfolding shaped never_falls
  shape h = record {
    some_start = grind arith;
    first = grind arith;
    never_fall = λ s l. let rises = all_at (stations ls) (λ s. leb (get_or ls.starts s 0) (get_or ls.starts (s + 1) 0)) s in grind arith;
    last = grind arith;
  }

  shape_passes : Shape ls → shaped ls ≡ true
  unfolding shaped never_falls
  shape_passes h =
      let rises = all_from (stations ls) _ (λ s l. le-leb (get_or ls.starts s 0) (get_or ls.starts (s + 1) 0) (h.never_fall s l)) in
      grind arith

  entry_passes : (s place : ℕ) → Entry ls s place (get_or (row ls s) place 0) → bad_entry ls s place ≡ false
  entry_passes s place h = grind arith

  good : (s : ℕ) → bad_row ls s ≡ false → GoodRow ls s
  unfolding bad_row
  good s h place l = good_entry ls s place (some_at (length (row ls s)) (bad_entry ls s) place h l)

  not_good : (s : ℕ) → bad_row ls s ≡ true → GoodRow ls s → ⊥
  unfolding bad_row
  not_good s h fine =
      let (place, l, bad) = some_one (length (row ls s)) (bad_entry ls s) h in
      both_ways (bad_entry ls s place) (entry_passes s place (fine place l)) bad

  well_shaped : (sized (stations ls) && shaped ls) ≡ true → WellShaped ls
  well_shaped h = let (low, high) = sized_within (stations ls) (grind arith) in (low, high, shape (grind arith))

  well_shaped_passes : WellShaped ls → (sized (stations ls) && shaped ls) ≡ true
  well_shaped_passes (low, high, h) = let count = within_sized (stations ls) low high in let right = shape_passes h in grind arith

pub judges : TheCheckJudgesInWords
judges ls = verdict (stations ls) (sized (stations ls) && shaped ls) (bad_row ls) (well_shaped ls) (well_shaped_passes ls) (good ls) (not_good ls)

-- and so do the tests of rows of bits
module _ (b : Bitmap) where
  good_bits : (s : ℕ) → bits_bad_row b s ≡ false → GoodBits b s
  unfolding bits_bad_row
  good_bits s h t l set =
      let fine = some_at (8 * row_length b.stations) (λ u. cell b s u && no_neighbour b s u) t h l in
      record { other = grind arith; on_site = grind arith; in_return = grind arith }

  not_good_bits : (s : ℕ) → bits_bad_row b s ≡ true → GoodBits b s → ⊥
  unfolding bits_bad_row
  not_good_bits s h fine =
      let (t, l, bad) = some_one (8 * row_length b.stations) (λ u. cell b s u && no_neighbour b s u) h in
      let bit = fine t l (grind arith) in
      let other = bit.other in let on_site = bit.on_site in let in_return = bit.in_return in
      grind arith

  well_shaped_bits : (sized b.stations && bits_shaped b) ≡ true → WellShapedBits b
  unfolding bits_shaped
  well_shaped_bits h = let (low, high) = sized_within b.stations (grind arith) in (low, high, grind arith)

  well_shaped_bits_pass : WellShapedBits b → (sized b.stations && bits_shaped b) ≡ true
  unfolding bits_shaped
  well_shaped_bits_pass (low, high, long) = let count = within_sized b.stations low high in grind arith

pub judges_bits : TheCheckOfBitsJudgesInWords
judges_bits b = verdict b.stations (sized b.stations && bits_shaped b) (bits_bad_row b) (well_shaped_bits b) (well_shaped_bits_pass b) (good_bits b) (not_good_bits b)
