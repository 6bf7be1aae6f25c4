use Rattle.std.proofs.Common.{arith}
use Rattle.view.proofs.Lower.{row_length}
use Rattle.book.specs.Books.{site, row_in}
use Rattle.book.proofs.laws.books_keep_their_limits.Goals as goal

pub returns : goal.returns
returns c =
    λ book.
    let sound = book.current.sound in
    record {
      lawful = sound.faithful.lawful;
      stations = sound.few;
      links = λ s. omega (arith, sound.room s, row_length (site book) (row_in book) sound.faithful s);
    }
