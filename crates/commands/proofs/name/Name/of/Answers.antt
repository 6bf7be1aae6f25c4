use Rattle.std.proofs.Common.{sym, ap, ◌∙◌}
use Rattle.std.proofs.lemmas.List.{drop_more}
use Rattle.commands.specs.Numerals.{bytes_of}
use Rattle.commands.specs.Names.{all_names, behind}
use Rattle.commands.proofs.NameSteps.{try_off, try_on, none_fits}
use Rattle.commands.proofs.name.Name.of.Goals as goal

pub loop-name-preserved : goal.loop-name-preserved
loop-name-preserved c =
    let words = bytes_of c.args.words.now in
    let i = c.loop-name.name-index in
    sym (try_off all_names words i _ (drop_more all_names i _ c.loop-name-test.true) (sym (c.in_default.ensures ∙ ap (λ phrase. behind phrase words) c.phrase.ensures))) ∙ c.loop-name.invariant

pub returns-in-Some : goal.returns-in-Some
returns-in-Some c =
    let words = bytes_of c.args.words.now in
    let i = c.loop-name.name-index in
    sym (try_on all_names words i _ (drop_more all_names i _ c.loop-name-test.true) _ (sym (c.in-Some.ensures ∙ ap (λ phrase. behind phrase words) c.phrase.ensures))) ∙ c.loop-name.invariant

pub returns : goal.returns
returns c = sym (none_fits all_names (bytes_of c.args.words.now) c.loop-name.name-index c.loop-name-test.false) ∙ c.loop-name.invariant
