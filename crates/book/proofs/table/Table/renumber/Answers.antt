use Rattle.book.proofs.Tables.{same_rows, one_number}
use Rattle.book.proofs.table.Table.renumber.Goals as goal

pub returns-clause-links : goal.returns-clause-links
returns-clause-links c = same_rows c.args.self.now.count c.args.s c.args.self.now.stations _ c.args.self.now.order c.renumber.ensures.row

pub returns-clause-numbers : goal.returns-clause-numbers
returns-clause-numbers c = one_number c.args.self.now.count c.args.s c.args.self.now.stations _ c.args.self.now.order c.args.number c.renumber.ensures.number
