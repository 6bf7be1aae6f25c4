use Rattle.std.proofs.Common.{sym, ◌∙◌}
use Rattle.book.specs.Tables.{links, places}
use Rattle.book.specs.Updates.{in_row}
use Rattle.book.proofs.Falling.{falling_within, falling_some, falling_room, fallen_lowering, fallen_watched}
use Rattle.book.proofs.Watching.{kept_watched}
use Rattle.book.proofs.table.Table.doubt.Goals as goal

pub overflow_sub-level : goal.overflow_sub-level
overflow_sub-level c = falling_some (links c.args.self.now) c.args.level _ (places c.args.self.now) _ c.args.s c.requires (sym c.falls.ensures ∙ c.if-falls.true)

pub renumber-requires : goal.renumber-requires
renumber-requires c = falling_within (links c.args.self.now) c.args.level _ (places c.args.self.now) _ c.args.s c.requires (sym c.falls.ensures ∙ c.if-falls.true)

pub push-requires-clause-station : goal.push-requires-clause-station
push-requires-clause-station c = falling_within (links c.args.self.now) c.args.level _ (places c.args.self.now) _ c.args.s c.requires (sym c.falls.ensures ∙ c.if-falls.true)

pub push-requires-clause-room : goal.push-requires-clause-room
push-requires-clause-room c = falling_room (links c.args.self.now) c.args.level _ (places c.args.self.now) _ c.args.s c.requires (sym c.falls.ensures ∙ c.if-falls.true)

pub returns-then-falls-clause-lowering : goal.returns-then-falls-clause-lowering
returns-then-falls-clause-lowering c =
    rw (c.renumber.ensures.numbers, c.push.ensures)
    (fallen_lowering (links c.args.self.now) c.args.level _ (places c.args.self.now) _ c.args.s c.requires (sym c.falls.ensures ∙ c.if-falls.true)
    _ (rw c.renumber.ensures.order at c.put_last.ensures))

pub returns-then-falls-clause-watched : goal.returns-then-falls-clause-watched
returns-then-falls-clause-watched c =
    rw (c.renumber.ensures.numbers, c.push.ensures) (fallen_watched (links c.args.self.now) c.args.level _ (places c.args.self.now) _ c.args.s c.requires (sym c.falls.ensures ∙ c.if-falls.true))

pub returns-else-falls-clause-watched : goal.returns-else-falls-clause-watched
returns-else-falls-clause-watched c = kept_watched (in_row (links c.args.self.now)) _ _ c.args.s (sym c.falls.ensures ∙ c.if-falls.false)

pub put_last-requires : goal.put_last-requires
put_last-requires c = falling_within (links c.args.self.now) c.args.level _ (places c.args.self.now) _ c.args.s c.requires (sym c.falls.ensures ∙ c.if-falls.true)
