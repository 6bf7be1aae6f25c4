use Rattle.std.proofs.Common.{◌≡◌, ◌<◌, drop, length, refl, arith}
use Rattle.std.proofs.lemmas.Grind.{common_steps}
use Rattle.text.proofs.LineSteps.{no_lines, cut_line}
use Rattle.text.proofs.cut.LinesIterator.next.Goals as goal

pub returns-then-is_empty-clause-steps : goal.returns-then-is_empty-clause-steps
returns-then-is_empty-clause-steps c = record { done = grind (arith, no_lines); same = refl }

pub returns-clause-steps : goal.returns-clause-steps
returns-clause-steps c =
    let part = c.split_at.ensures in
    let some : 0 < length c.args.self.now.rest.now = grind (arith, common_steps) in
    let behind : c.unwrap_or_default-self.result.now ≡ drop 1 c.split_at.result.1.now = grind (arith, common_steps) in
    record {
      cut = cut_line _ _ _ _ _ some c.until.ensures.first part.front part.back behind;
      shorter = grind (arith, common_steps);
      shared = grind (arith, common_steps);
    }
