use Rattle.cores.proofs.Sites.{same_site}
use Rattle.cores.proofs.laws.same_links_same_site.Goals as goal

pub returns : goal.returns
returns c = same_site
