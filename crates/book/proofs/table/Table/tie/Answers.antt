use Rattle.std.proofs.Common.{arith}
use Rattle.book.specs.Tables.{links, site_of}
use Rattle.book.proofs.Changed.{joined_rows, row_room, second_room}
use Rattle.book.proofs.Granted.{link_granted}
use Rattle.book.proofs.table.Table.tie.Goals as goal

pub insert-requires-clause-record : goal.insert-requires-clause-record
insert-requires-clause-record c = let can = link_granted (site_of (links c.args.self.now)) c.args.a c.args.b tt c.requires.granted in omega (arith, can.ends.on_a, c.requires.sound.few)

pub insert-requires-clause-neighbour : goal.insert-requires-clause-neighbour
insert-requires-clause-neighbour c = let can = link_granted (site_of (links c.args.self.now)) c.args.a c.args.b tt c.requires.granted in omega (arith, can.ends.on_b, c.requires.sound.few)

pub insert-requires-clause-room : goal.insert-requires-clause-room
insert-requires-clause-room c =
    let can = link_granted (site_of (links c.args.self.now)) c.args.a c.args.b tt c.requires.granted in
    (row_room (links c.args.self.now) c.requires.sound c.args.a c.args.b can.ends can).0

pub insert-requires-2-clause-room : goal.insert-requires-2-clause-room
insert-requires-2-clause-room c =
    let can = link_granted (site_of (links c.args.self.now)) c.args.a c.args.b tt c.requires.granted in
    second_room (links c.args.self.now) c.requires.sound c.args.a c.args.b can.ends can _ c.insert.ensures.links

pub returns-clause-sound : goal.returns-clause-sound
returns-clause-sound c =
    let can = link_granted (site_of (links c.args.self.now)) c.args.a c.args.b tt c.requires.granted in
    (joined_rows (links c.args.self.now) c.requires.sound c.args.a c.args.b can.ends can _ _ c.insert.ensures.links c.insert-2.ensures.links).0

pub returns-clause-site : goal.returns-clause-site
returns-clause-site c =
    let can = link_granted (site_of (links c.args.self.now)) c.args.a c.args.b tt c.requires.granted in
    (joined_rows (links c.args.self.now) c.requires.sound c.args.a c.args.b can.ends can _ _ c.insert.ensures.links c.insert-2.ensures.links).1
