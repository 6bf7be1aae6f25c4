-- What a listed and a square view show. Assumes nothing.
use Rattle.view.specs.declared.listed.Listed.{Listed}
use Rattle.view.specs.declared.square.Square.{Square}
use Rattle.view.specs.Listing.{Lists, lists}
use Rattle.view.specs.Grid.{Bitmap, bitmap}

-- the lists behind a listed view
abbrev pub shown : Listed → Lists
shown view = lists view.listing

-- the rows of bits behind a square view
abbrev pub shown_bits : Square → Bitmap
shown_bits view = bitmap view.grid
