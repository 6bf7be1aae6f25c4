use Rattle.std.proofs.Common.{ap, length, arith}
use Rattle.std.proofs.lemmas.Bool.Decides.{nat_tests}
use Rattle.view.proofs.Lower.{row_length}
use Rattle.book.specs.Books.{site, row_in}
use Rattle.book.proofs.book.Book.is_full.Goals as goal

pub returns : goal.returns
returns c =
    let book = c.args.self.now in
    let degree = row_length (site book) (row_in book) book.current.sound.faithful c.args.s in
    let long = ap length c.row.ensures in
    grind (arith, nat_tests)
