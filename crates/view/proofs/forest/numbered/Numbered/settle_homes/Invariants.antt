use Rattle.std.proofs.Common.{◌≡◌, slice_index}
use Rattle.view.specs.Settling.{rewritten, home_at_level}
use Rattle.view.proofs.forest.numbered.Numbered.settle_homes.Given as goal

abbrev pub invariant-loop-s : goal.invariant-loop-s
invariant-loop-s g l = l.homes ≡ rewritten l.s (home_at_level (g.V.View.site l.self.view.now) (slice_index l.self.numbers.now) l.level) l.fn.homes
