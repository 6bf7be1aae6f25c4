use Rattle.std.proofs.Common.{sym, ◌∙◌}
use Rattle.survey.proofs.Leads.{first_stands}
use Rattle.survey.proofs.line.Line.read.Goals as goal

pub lead-requires : goal.lead-requires
lead-requires c = first_stands c.args.self.now.bytes.now (sym c.new-words.ensures.left ∙ c.in-Some.ensures.steps.cut)
