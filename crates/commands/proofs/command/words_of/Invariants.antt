use Rattle.std.proofs.Common.{◌≡◌, ◌++◌, map, vec_items}
use Rattle.text.specs.Cursors.{tokens_left}
use Rattle.commands.specs.Numerals.{bytes_of}
use Rattle.commands.specs.Wishes.{words_in}
use Rattle.commands.proofs.command.words_of.Given as goal

-- the words so far, and those that are left, are all of the line
abbrev pub invariant-loop-token : goal.invariant-loop-token
invariant-loop-token l = bytes_of (vec_items l.words) ++ map (λ part. part.bytes) (tokens_left l.token-iterator) ≡ words_in l.line
