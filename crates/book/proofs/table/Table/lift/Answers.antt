use Rattle.std.proofs.Common.{sym, ◌∙◌}
use Rattle.book.specs.Tables.{links, places}
use Rattle.book.specs.Updates.{in_row_behind}
use Rattle.book.proofs.Rising.{rising_within, rising_room, risen_raising, risen_raised, risen_watched}
use Rattle.book.proofs.Watching.{kept_watched}
use Rattle.book.proofs.table.Table.lift.Goals as goal

pub renumber-requires : goal.renumber-requires
renumber-requires c = rising_within (links c.args.self.now) c.args.level _ (places c.args.self.now) _ c.args.s c.requires.raising (sym c.rises.ensures ∙ c.if-rises.true)

pub push-requires-clause-station : goal.push-requires-clause-station
push-requires-clause-station c = rising_within (links c.args.self.now) c.args.level _ (places c.args.self.now) _ c.args.s c.requires.raising (sym c.rises.ensures ∙ c.if-rises.true)

pub push-requires-clause-room : goal.push-requires-clause-room
push-requires-clause-room c = rising_room (links c.args.self.now) c.args.level _ (places c.args.self.now) _ c.args.s c.requires.raising (sym c.rises.ensures ∙ c.if-rises.true)

pub returns-then-rises-clause-raising : goal.returns-then-rises-clause-raising
returns-then-rises-clause-raising c =
    rw (c.renumber.ensures.numbers, c.push.ensures)
    (risen_raising (links c.args.self.now) c.args.level _ (places c.args.self.now) _ c.args.s c.requires.raising (sym c.rises.ensures ∙ c.if-rises.true))

pub returns-then-rises-clause-raised : goal.returns-then-rises-clause-raised
returns-then-rises-clause-raised c =
    rw (c.renumber.ensures.numbers, c.push.ensures)
    (risen_raised (links c.args.self.now) c.args.level _ (places c.args.self.now) _ c.args.s c.requires.raising (sym c.rises.ensures ∙ c.if-rises.true))

pub returns-then-rises-clause-watched : goal.returns-then-rises-clause-watched
returns-then-rises-clause-watched c =
    rw (c.renumber.ensures.numbers, c.push.ensures)
    (risen_watched (links c.args.self.now) c.args.level _ (places c.args.self.now) _ c.args.s c.requires.raising (sym c.rises.ensures ∙ c.if-rises.true))

pub returns-else-rises-clause-watched : goal.returns-else-rises-clause-watched
returns-else-rises-clause-watched c = kept_watched (in_row_behind (links c.args.self.now) (places c.args.self.now)) _ _ c.args.s (sym c.rises.ensures ∙ c.if-rises.false)
