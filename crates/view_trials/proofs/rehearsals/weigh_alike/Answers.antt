use Rattle.std.proofs.Common.{sym, ap, ap₂, ◌∙◌, rules}
use Rattle.view.specs.Answers.{links_answer}
use Rattle.view.specs.Service.{is_marked}
use Rattle.view.specs.Struck.{struck_site}
use Rattle.view.proofs.Marks.{restored}
use Rattle.view_trials.specs.Alike.{alike}
use Rattle.view_trials.proofs.rehearsals.weigh_alike.Goals as goal

pub returns-clause-answer : goal.returns-clause-answer
returns-clause-answer g c =
    let site = g.V.View.site c.args.view.now in
    let back = restored c.args.list.now.marks c.args.a in
    let first = sym c.in_ok-without_a.was ∙ c.count_links.ensures ∙ ap links_answer c.new.ensures.site ∙ ap (λ l. links_answer (struck_site (is_marked l) site)) (c.list.ensures ∙ c.begin-rehearsal.ensures.list) in
    let second = sym c.in_ok-without_b.was ∙ c.count_links-2.ensures ∙ ap links_answer c.new-2.ensures.site ∙ ap (λ l. links_answer (struck_site (is_marked l) site)) (c.list-2.ensures ∙ c.begin-rehearsal-2.ensures.list ∙ search rules) in
    ap₂ alike first second
