use Rattle.std.proofs.Common.{sym, ◌∙◌}
use Rattle.book.specs.Books.{site}
use Rattle.book.proofs.Moving.{moves_down}
use Rattle.book.proofs.book.Book.unlink.Goals as goal

pub returns-clause-moves : goal.returns-clause-moves
returns-clause-moves c =
    let book = c.args.self.now in
    moves_down (site book) _ book.current.sound.faithful.lawful c.args.a c.args.b _ (sym c.check_unlink.ensures ∙ c.in_ok-check_unlink.was) c.part.ensures.site
