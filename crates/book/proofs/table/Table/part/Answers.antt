use Rattle.std.proofs.Common.{min, get_or, refl, ap, ap₂, ◌∙◌}
use Rattle.book.specs.Tables.{links, numbers, places, site_of}
use Rattle.book.proofs.Granted.{unlink_granted}
use Rattle.book.proofs.Followed.{less_high, less_watched, less_bears_out}
use Rattle.book.proofs.table.Table.part.Goals as goal

pub settle-requires-clause-high : goal.settle-requires-clause-high
settle-requires-clause-high c =
    let g = site_of (links c.args.self.now) in
    let current = c.requires.current in
    let smaller = c.min-level.ensures ∙ ap₂ min (c.number.ensures ∙ current.right c.args.a) (c.number-2.ensures ∙ current.right c.args.b) in
    less_high g current.sound.faithful.lawful c.args.a c.args.b c.min-level.result smaller
    (numbers c.untie.new.self) (λ s. ap (λ xs. get_or xs s 0) c.untie.ensures.numbers ∙ current.right s)
    (links c.untie.new.self) c.untie.ensures.sound (unlink_granted g c.args.a c.args.b tt c.requires.granted) c.untie.ensures.site

pub settle-requires-clause-watched : goal.settle-requires-clause-watched
settle-requires-clause-watched c =
    let g = site_of (links c.args.self.now) in
    let current = c.requires.current in
    let smaller = c.min-level.ensures ∙ ap₂ min (c.number.ensures ∙ current.right c.args.a) (c.number-2.ensures ∙ current.right c.args.b) in
    less_watched g current.sound.faithful.lawful c.args.a c.args.b c.min-level.result smaller
    (numbers c.untie.new.self) (λ s. ap (λ xs. get_or xs s 0) c.untie.ensures.numbers ∙ current.right s)
    (links c.untie.new.self) c.untie.ensures.sound (unlink_granted g c.args.a c.args.b tt c.requires.granted) c.untie.ensures.site

pub settle-requires-clause-bears_out : goal.settle-requires-clause-bears_out
settle-requires-clause-bears_out c =
    let old = links c.args.self.now in
    let g = site_of old in
    let current = c.requires.current in
    let smaller = c.min-level.ensures ∙ ap₂ min (c.number.ensures ∙ current.right c.args.a) (c.number-2.ensures ∙ current.right c.args.b) in
    rw (c.untie.ensures.numbers, c.untie.ensures.order)
    (less_bears_out g current.sound.faithful.lawful c.args.a c.args.b c.min-level.result smaller
    (numbers c.args.self.now) current.right
    (links c.untie.new.self) c.untie.ensures.sound old current.sound refl (places c.args.self.now) current.bears_out c.untie.ensures.site)
