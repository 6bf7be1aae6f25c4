use Rattle.cores.proofs.Entries.{held_where_it_stands}
use Rattle.cores.proofs.laws.list_holds_what_stands_in_it.Goals as goal

pub returns : goal.returns
returns c = held_where_it_stands
