use Rattle.std.proofs.Common.{slice_index}
use Rattle.view.specs.Components.{AreComponents}
use Rattle.view.proofs.Levels.{links_so_far}
use Rattle.view.proofs.forest.numbered.Numbered.join_level.Given as goal

abbrev pub invariant-loop-s : goal.invariant-loop-s
invariant-loop-s g l = let site = g.V.View.site l.self.view.now in AreComponents site.size (links_so_far site (slice_index l.self.numbers.now) l.level l.s) l.components.labels
