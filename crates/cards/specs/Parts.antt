-- How the parts of the cards are to be understood. Assumes nothing.
use Rattle.std.specs.Prelude.{ℕ, List, length, slice_index}
use Rattle.std.specs.List.{flat_map, range_with_len}
use Rattle.sheet.specs.Encoding.{field}
use Rattle.cards.specs.declared.offered.Offered.{Offered}
use Rattle.cards.specs.declared.passed.Passed.{Passed}
use Rattle.cards.specs.Cards.{card_by}

-- the bytes that are offered, and those that passed
abbrev pub offered_bytes : Offered → List ℕ
offered_bytes offer = offer.bytes.now

abbrev pub passed_bytes : Passed → List ℕ
passed_bytes sheet = sheet.bytes.now

-- the cards by tables of homes and ups
unfoldable pub cards_in : List ℕ → List ℕ → List ℕ
cards_in homes ups = flat_map (λ s. field (card_by s (slice_index homes s) (slice_index ups s))) (range_with_len 0 (length homes))
