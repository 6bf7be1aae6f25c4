use Rattle.std.proofs.Common.{◌≡◌, ◌+◌, slice_index}
use Rattle.view.specs.Components.{AreComponents, links_at}
use Rattle.view.specs.Settling.{rewritten}
use Rattle.view.proofs.Descent.{homes_from, ups_from}
use Rattle.view.proofs.forest.numbered.Numbered.settle.Given as goal

abbrev pub invariant-loop-level : goal.invariant-loop-level
invariant-loop-level g l =
    let site = g.V.View.site l.self.view.now in
    let numbers = l.self.numbers.now in
    AreComponents site.size (links_at site (slice_index numbers) (l.level + 1)) l.components.labels
    × (l.homes ≡ rewritten site.size (homes_from site (slice_index numbers) (l.level + 1)) l.fn.homes)
    × (l.ups ≡ rewritten site.size (ups_from site (slice_index numbers) (l.level + 1)) l.fn.ups)
