use Rattle.std.proofs.Common.{get_or}
use Rattle.cards.specs.Cards.{card_by}
use Rattle.cards.proofs.Runs.{Written}
use Rattle.cards.proofs.writing.write_cards.Given as goal

abbrev pub invariant-loop-s : goal.invariant-loop-s
invariant-loop-s l = Written (λ t. card_by t (get_or l.homes t 0) (get_or l.ups t 0)) l.s l.fn.out l.out
