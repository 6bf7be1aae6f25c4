use Rattle.std.proofs.Common.{sym, ap, ◌∙◌}
use Rattle.commands.specs.Numerals.{bytes_of, cut_at}
use Rattle.commands.proofs.Phrases.{cut_there}
use Rattle.commands.proofs.lists.before_slash.Goals as goal

pub returns : goal.returns
returns c =
    let words = c.args.words.now in
    ap (cut_at (bytes_of words)) (sym c.find_slash.ensures ∙ c.in_ok-slash.ensures.ok_part) ∙ cut_there words c.in_ok-slash.slash
