use Rattle.std.proofs.Common.{sym, ap, ◌∙◌}
use Rattle.cores.specs.Site.{laid_out}
use Rattle.book.specs.Books.{site}
use Rattle.book.specs.Answers.{after}
use Rattle.book.proofs.LaidOut.{laid_out_current, laid_out_site, counted_few}
use Rattle.book.proofs.book.Book.lay_out.Goals as goal

pub invariant_of-self : goal.invariant_of-self
invariant_of-self c =
    record { current = laid_out_current c.args.stations c.laid_out.result (counted_few c.args.stations _ (sym c.admit.ensures ∙ c.in_ok-admit.was)) c.laid_out.ensures.links c.laid_out.ensures.numbers }

pub returns-clause-site : goal.returns-clause-site
returns-clause-site c =
    laid_out_site c.args.stations c.laid_out.result c.laid_out.ensures.links
    ∙ sym (ap (λ r. after r (laid_out c.args.stations) (site c.args.self.now)) (sym c.admit.ensures ∙ c.in_ok-admit.was))
