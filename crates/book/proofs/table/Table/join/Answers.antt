use Rattle.std.proofs.Common.{◌+◌, ◌<◌, min, get_or, sym, subst, refl, ap, ap₂, ◌∙◌, arith, rules}
use Rattle.cores.specs.Counting.{holds}
use Rattle.cores.proofs.Numbers.{number_below}
use Rattle.book.specs.Queues.{noted}
use Rattle.book.specs.Tables.{links, numbers, places, site_of}
use Rattle.book.specs.Orders.{Forward}
use Rattle.book.specs.Current.{BearsOut}
use Rattle.book.proofs.Granted.{link_granted}
use Rattle.book.proofs.Followed.{Settles, more_rising, more_settles}
use Rattle.book.proofs.table.Table.join.Goals as goal

pub spread-lifted-requires-clause-fits : goal.spread-lifted-requires-clause-fits
spread-lifted-requires-clause-fits c =
    let g = site_of (links c.args.self.now) in
    let current = c.requires.current in
    let can = link_granted g c.args.a c.args.b tt c.requires.granted in
    omega (arith, c.min-level.ensures, c.number.ensures, current.right c.args.a, number_below g current.sound.faithful.lawful c.args.a can.ends.on_a, current.sound.few)

pub overflow_add-level : goal.overflow_add-level
overflow_add-level c =
    let g = site_of (links c.args.self.now) in
    let current = c.requires.current in
    let can = link_granted g c.args.a c.args.b tt c.requires.granted in
    let low : c.min-level.result < 512 = omega (arith, c.min-level.ensures, c.number.ensures, current.right c.args.a, number_below g current.sound.faithful.lawful c.args.a can.ends.on_a, current.sound.few) in
    search rules

pub spread-lifted-requires-clause-watched : goal.spread-lifted-requires-clause-watched
spread-lifted-requires-clause-watched c =
    let old = links c.args.self.now in
    let current = c.requires.current in
    let smaller = c.min-level.ensures ∙ ap₂ min (c.number.ensures ∙ current.right c.args.a) (c.number-2.ensures ∙ current.right c.args.b) in
    rw (c.tie.ensures.numbers, c.tie.ensures.order)
    (more_rising (site_of old) current.sound.faithful.lawful c.args.a c.args.b c.min-level.result smaller
    (numbers c.args.self.now) current.right
    (links c.tie.new.self) c.tie.ensures.sound old current.sound refl (places c.args.self.now) current.bears_out
    (link_granted (site_of old) c.args.a c.args.b tt c.requires.granted) c.tie.ensures.site)

-- what the lifting leaves
lifted : (c : goal.After-noted) → Settles (links c.bring_forward.new.self) (c.min-level.result + 1) (numbers c.bring_forward.new.self) (places c.bring_forward.new.self) (noted c.bring_forward.new.stations)
lifted c =
    let old = links c.args.self.now in
    let tied = c.tie.new.self in
    let current = c.requires.current in
    let smaller = c.min-level.ensures ∙ ap₂ min (c.number.ensures ∙ current.right c.args.a) (c.number-2.ensures ∙ current.right c.args.b) in
    let bore_out : BearsOut old (numbers tied) (places tied) = rw (c.tie.ensures.numbers, c.tie.ensures.order) current.bears_out in
    let forward : Forward (holds (noted c.spread-lifted.result)) (places tied) (places c.bring_forward.new.self) = rw c.spread-lifted.ensures.order at c.bring_forward.ensures.order in
    let settles = more_settles (site_of old) current.sound.faithful.lawful c.args.a c.args.b c.min-level.result smaller
    (numbers tied) (λ s. ap (λ xs. get_or xs s 0) c.tie.ensures.numbers ∙ current.right s)
    (links tied) c.tie.ensures.sound old current.sound refl (places tied) bore_out
    (link_granted (site_of old) c.args.a c.args.b tt c.requires.granted) c.tie.ensures.site
    (numbers c.spread-lifted.new.self) (noted c.spread-lifted.result) c.spread-lifted.ensures.raising c.spread-lifted.ensures.raised c.spread-lifted.ensures.over
    (places c.bring_forward.new.self) forward (noted c.bring_forward.new.stations) c.bring_forward.ensures.same in
    let from = c.min-level.result + 1 in
    let q = places c.bring_forward.new.self in
    let list = noted c.bring_forward.new.stations in
    subst (λ l. Settles l from (numbers c.bring_forward.new.self) q list) (sym (c.bring_forward.ensures.links ∙ c.spread-lifted.ensures.links))
    (subst (λ xs. Settles (links tied) from xs q list) (sym c.bring_forward.ensures.numbers) settles)

pub settle-requires-clause-high : goal.settle-requires-clause-high
settle-requires-clause-high c = (lifted c).0

pub settle-requires-clause-bears_out : goal.settle-requires-clause-bears_out
settle-requires-clause-bears_out c = (lifted c).1

pub settle-requires-clause-watched : goal.settle-requires-clause-watched
settle-requires-clause-watched c = rw c.noted.ensures (lifted c).2
