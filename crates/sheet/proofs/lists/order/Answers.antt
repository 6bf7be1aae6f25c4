use Rattle.std.proofs.Common.{◌≡◌, length, Ok, ltb, take, sym, ap, ◌∙◌, arith, rules, length-take}
use Rattle.std.proofs.lemmas.List.{take_at, take_all}
use Rattle.sheet.specs.Decoding.{order_at}
use Rattle.sheet.specs.Parts.{unnamed}
use Rattle.sheet.proofs.Runs.{order_start, order_more, order_cut, order_fault, order_end}
use Rattle.sheet.proofs.lists.order.Goals as goal

pub loop-slot-init : goal.loop-slot-init
loop-slot-init c = order_start c.args.count (unnamed c.new-roll.result) (λ t. ltb t c.args.count) c.args.bytes.now (rw (← c.from-places.ensures) c.new-roll.ensures)

pub returns-in_err-station : goal.returns-in_err-station
returns-in_err-station c =
    let slots = c.loop-slot.slot-items in
    let long = length-take c.from-places.result c.args.table.now in
    let cut = order_cut c.args.count c.loop-slot.slot-index (unnamed c.loop-slot.roll) (take c.loop-slot.slot-index slots) c.loop-slot.rest.now _ (order_at (λ t. ltb t c.args.count) c.args.count c.args.bytes.now)
    (omega arith) c.in_err-station.ensures c.loop-slot.invariant in
    search rules

pub returns-then-not-name : goal.returns-then-not-name
returns-then-not-name c =
    let slots = c.loop-slot.slot-items in
    let long = length-take c.from-places.result c.args.table.now in
    order_fault c.args.count c.loop-slot.slot-index (unnamed c.loop-slot.roll) (take c.loop-slot.slot-index slots) c.loop-slot.rest.now c.in_ok-station.behind.now c.in_ok-station.station (order_at (λ t. ltb t c.args.count) c.args.count c.args.bytes.now)
    (omega arith) c.in_ok-station.ensures (search rules) c.loop-slot.invariant

pub loop-slot-preserved : goal.loop-slot-preserved
loop-slot-preserved c =
    let long = length-take c.from-places.result c.args.table.now in
    rw c.name.ensures.after (
    order_more c.args.count c.loop-slot.slot-index (unnamed c.loop-slot.roll) c.loop-slot.slot-items c.loop-slot.rest.now c.in_ok-station.behind.now c.in_ok-station.station (order_at (λ t. ltb t c.args.count) c.args.count c.args.bytes.now)
    (omega arith) (omega arith) c.in_ok-station.ensures (search rules) c.loop-slot.invariant)

pub returns : goal.returns
returns c =
    let slots = c.loop-slot.slot-items in
    let taken = length-take c.from-places.result c.args.table.now in
    let long : length slots ≡ c.args.count = omega arith in
    ap (λ ts. Ok (ts, c.loop-slot.rest.now)) (take_at slots _ c.args.count long ∙ sym (take_all c.args.count slots (omega arith)))
    ∙ order_end c.args.count c.loop-slot.slot-index (unnamed c.loop-slot.roll) slots c.loop-slot.rest.now (order_at (λ t. ltb t c.args.count) c.args.count c.args.bytes.now) (omega arith) c.loop-slot.invariant
