use Rattle.book.specs.Stations.{put}
use Rattle.book.proofs.Tables.{one_row, same_numbers}
use Rattle.book.proofs.table.Table.insert.Goals as goal

pub returns-clause-links : goal.returns-clause-links
returns-clause-links c = one_row c.args.self.now.count c.args.s c.args.self.now.stations _ c.args.self.now.order (put c.args.t) c.insert.ensures.row

pub returns-clause-numbers : goal.returns-clause-numbers
returns-clause-numbers c = same_numbers c.args.self.now.count c.args.s c.args.self.now.stations _ c.args.self.now.order c.insert.ensures.number
