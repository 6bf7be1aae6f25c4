-- What holds of every book, in words. The law stands on the contract of a function of `laws`.
use Rattle.std.specs.Prelude.{ℕ, ◌≤◌}
use Rattle.cores.specs.Counting.{count}
use Rattle.cores.specs.Site.{Lawful}
use Rattle.book.specs.declared.book.Book.{Book}
use Rattle.book.specs.Books.{site}

-- The site of a book is lawful, and keeps within what a book can hold.
pub record Limits (book : Book) : Type 0 where
  pub lawful : Lawful (site book)
  pub stations : (site book).size ≤ 512
  pub links : (s : ℕ) → count (site book).size ((site book).linked s) ≤ 32

abbrev pub BooksKeepTheirLimits : Type 0
BooksKeepTheirLimits = (book : Book) → Limits book
