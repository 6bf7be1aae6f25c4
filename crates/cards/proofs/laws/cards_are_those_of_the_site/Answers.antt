use Rattle.cards.proofs.Issued.{cards_are_those_of_the_site}
use Rattle.cards.proofs.laws.cards_are_those_of_the_site.Goals as goal

pub returns : goal.returns
returns c = cards_are_those_of_the_site
