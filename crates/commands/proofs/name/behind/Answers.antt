use Rattle.std.proofs.Common.{ℕ, List, Bor, sym, ap, ◌∙◌}
use Rattle.std.specs.Option.{option_map}
use Rattle.commands.specs.Numerals.{bytes_of}
use Rattle.commands.proofs.NameSteps.{cut_off, given}
use Rattle.commands.proofs.Phrases.{judged}
use Rattle.commands.proofs.name.behind.Goals as goal

pub returns : goal.returns
returns c =
    let words = c.args.words.now in
    let phrase = c.args.phrase.now in
    let split = c.in_ok-front.ensures.cases in
    ap (option_map (λ (w : Bor (List (Bor (List ℕ)))). bytes_of w.now)) c.then_some.ensures ∙ given c.eq.result c.in_ok-front.others
    ∙ sym (cut_off words phrase c.in_ok-front.front.now c.in_ok-front.others.now c.eq.result split.1 split.2 (judged c.in_ok-front.front.now phrase c.eq.result (sym c.eq.ensures)))
