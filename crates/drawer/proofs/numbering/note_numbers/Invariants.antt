use Rattle.std.proofs.Common.{◌≡◌, ◌<◌, length}
use Rattle.cores.specs.Site.{Site}
use Rattle.drawer.specs.Removals.{removals_of}
use Rattle.drawer.proofs.Peaks.{Numbered}
use Rattle.drawer.proofs.numbering.note_numbers.Given as goal

abbrev pub invariant-loop-removal : goal.invariant-loop-removal
invariant-loop-removal l =
    (l.most < 65536)
    × (length l.numbers ≡ length l.fn.numbers)
    × ((g : Site) → l.removals ≡ removals_of g → Numbered g l.removal-index l.most l.fn.numbers l.numbers)
