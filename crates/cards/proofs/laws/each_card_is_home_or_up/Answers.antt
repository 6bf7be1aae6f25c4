use Rattle.cards.proofs.Issued.{each_card_is_home_or_up}
use Rattle.cards.proofs.laws.each_card_is_home_or_up.Goals as goal

pub returns : goal.returns
returns c = each_card_is_home_or_up
