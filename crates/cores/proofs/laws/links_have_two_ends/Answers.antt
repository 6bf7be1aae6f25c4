use Rattle.cores.proofs.Sites.{two_ends}
use Rattle.cores.proofs.laws.links_have_two_ends.Goals as goal

pub returns : goal.returns
returns c = two_ends
