use Rattle.std.proofs.Common.{◌≡◌, drop}
use Rattle.commands.specs.Numerals.{bytes_of}
use Rattle.commands.specs.Names.{all_names, named, named_in}
use Rattle.commands.proofs.name.Name.of.Given as goal

-- the names that were tried do not fit
abbrev pub invariant-loop-name : goal.invariant-loop-name
invariant-loop-name l = named_in (drop l.name-index all_names) (bytes_of l.words) ≡ named (bytes_of l.words)
