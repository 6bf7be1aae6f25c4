use Rattle.std.proofs.Common.{◌∙◌}
use Rattle.text.specs.Cursors.{part_of}
use Rattle.survey.proofs.Leads.{lead_is}
use Rattle.survey.proofs.line.Line.lead.Goals as goal

pub returns : goal.returns
returns c = c.lead.ensures ∙ lead_is c.args.self.now.bytes.now (part_of c.args.first) c.requires c.in_ok-first.field-0 c.in_ok-first.ensures
