use Rattle.std.proofs.Common.{rules, tests, ℕ, List, Bor}
use Rattle.std.proofs.lemmas.Iterator.{YieldsList-from_slice}
use Rattle.std.proofs.lemmas.Iterator.Search.{position_from_yields_List}
use Rattle.std.proofs.lemmas.List.{length-map}
use Rattle.commands.specs.Numerals.{is_slash}
use Rattle.commands.proofs.Phrases.{slash_there}
use Rattle.commands.proofs.lists.find_slash.Goals as goal

pub returns : goal.returns
returns c =
    let words = c.args.words.now in
    let long = length-map words (λ (word : Bor (List ℕ)). word.now) in
    rw (long, ← slash_there words)
    (position_from_yields_List (λ (word : Bor (List ℕ)). is_slash word.now) _ _ c.position.result c.position.ensures.ran (YieldsList-from_slice words c.iter.ensures.rest) (λ x b q k. search (rules, tests)))
