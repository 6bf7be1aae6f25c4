use Rattle.std.proofs.Common.{slice_index, arith}
use Rattle.rules.proofs.Notes.{link_held}
use Rattle.rules.proofs.numbered.Numbered.note_link.Goals as goal

pub returns : goal.returns
returns g c f holds =
    let number = slice_index c.args.self.now.numbers.now in
    let low = c.requires.room c.args.t c.requires.lower in
    let high = c.requires.room c.args.s c.requires.higher in
    link_held f c.args.list.now (number c.args.s) (number c.args.t) c.min.result c.max.result _ (omega arith) (omega arith) (omega arith) (omega arith) holds
