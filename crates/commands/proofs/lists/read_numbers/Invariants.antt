use Rattle.std.proofs.Common.{◌≡◌, drop, map, vec_items}
use Rattle.commands.specs.Numerals.{numbers_up_to, bytes_of}
use Rattle.commands.proofs.NumberSteps.{with_front}
use Rattle.commands.proofs.lists.read_numbers.Given as goal

-- the numbers that were read, and those of the words that are left, are those of all words
abbrev pub invariant-loop-word : goal.invariant-loop-word
invariant-loop-word g l =
    with_front (map g.T.Number.value (vec_items l.list)) (numbers_up_to g.T.Number.most (bytes_of (drop l.word-index l.words)))
    ≡ numbers_up_to g.T.Number.most (bytes_of l.words)
