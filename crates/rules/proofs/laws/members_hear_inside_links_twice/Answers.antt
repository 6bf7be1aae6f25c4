use Rattle.rules.proofs.Heard.{members_hear}
use Rattle.rules.proofs.laws.members_hear_inside_links_twice.Goals as goal

pub returns : goal.returns
returns c = members_hear
