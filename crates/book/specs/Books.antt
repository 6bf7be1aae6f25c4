-- The site that a book holds. Assumes nothing.
use Rattle.std.specs.Prelude.{ℕ, List, slice_index}
use Rattle.cores.specs.Site.{Site}
use Rattle.book.specs.declared.book.Book.{Book}
use Rattle.book.specs.Tables.{links, numbers, row, site_of}

-- the site of a book
abbrev pub site : Book → Site
site book = site_of (links book.table)

-- the neighbours that it lists of a station
abbrev pub row_in : Book → ℕ → List ℕ
row_in book = row (links book.table)

-- the number that it has stored for a station
abbrev pub stored : Book → ℕ → ℕ
stored book s = slice_index (numbers book.table) s
