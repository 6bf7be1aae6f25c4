use Rattle.view.specs.Ups.{up_in_table}
use Rattle.sheet.proofs.Runs.{Filled}
use Rattle.sheet.proofs.unpacked.Unpacked.copy_to.Given as goal

abbrev pub invariant-loop-s : goal.invariant-loop-s
invariant-loop-s l =
    Filled (λ e. e.number) l.s l.entry-items l.fn.numbers l.numbers
    × Filled (λ e. e.home) l.s l.entry-items l.fn.homes l.homes
    × Filled (λ e. up_in_table e.up) l.s l.entry-items l.fn.ups l.ups
