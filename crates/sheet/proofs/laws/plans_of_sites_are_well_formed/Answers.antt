use Rattle.sheet.proofs.SiteLaws.{site_plans}
use Rattle.sheet.proofs.laws.plans_of_sites_are_well_formed.Goals as goal

pub returns : goal.returns
returns c = site_plans
