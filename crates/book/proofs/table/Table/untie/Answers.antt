use Rattle.book.specs.Tables.{links, site_of}
use Rattle.book.proofs.Changed.{parted_rows}
use Rattle.book.proofs.Granted.{unlink_granted}
use Rattle.book.proofs.table.Table.untie.Goals as goal

pub returns-clause-sound : goal.returns-clause-sound
returns-clause-sound c =
    let can = unlink_granted (site_of (links c.args.self.now)) c.args.a c.args.b tt c.requires.granted in
    (parted_rows (links c.args.self.now) c.requires.sound c.args.a c.args.b can.ends can _ _ c.remove.ensures.links c.remove-2.ensures.links).0

pub returns-clause-site : goal.returns-clause-site
returns-clause-site c =
    let can = unlink_granted (site_of (links c.args.self.now)) c.args.a c.args.b tt c.requires.granted in
    (parted_rows (links c.args.self.now) c.requires.sound c.args.a c.args.b can.ends can _ _ c.remove.ensures.links c.remove-2.ensures.links).1
