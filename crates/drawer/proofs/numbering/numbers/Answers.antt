use Rattle.std.proofs.Common.{length, sym, ◌∙◌}
use Rattle.sheet.specs.Sites.{plan_of}
use Rattle.drawer.proofs.Peels.{removals_fit, peeled_front}
use Rattle.drawer.proofs.Peaks.{numbers_length}
use Rattle.drawer.proofs.Written.{taken}
use Rattle.drawer.proofs.numbering.numbers.Goals as goal

pub note_numbers-requires : goal.note_numbers-requires
note_numbers-requires g c =
    let site = g.V.View.site c.args.view.now in
    let n = c.in_ok-stations.stations in
    let (all, few, room, written) = taken site (length c.args.out.now) (plan_of site).numbers (numbers_length site) n (sym c.in_ok-stations.was ∙ c.admit_into.ensures) in
    rw (peeled_front site n c.peel.new.out _ all c.peel.ensures) (removals_fit site c.args.out.now few room)
