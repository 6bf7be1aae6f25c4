use Rattle.std.proofs.Common.{◌+◌, drop, Err, ◌∙◌, sym, ap}
use Rattle.std.proofs.lemmas.Result.{err_from_is_err_and}
use Rattle.console.specs.Plans.{marked_on}
use Rattle.console.proofs.Marks.{mark_on, mark_off, all_marked}
use Rattle.console.proofs.planning.mark_all.Goals as goal

pub loop-station-preserved : goal.loop-station-preserved
loop-station-preserved c =
    let stations = c.args.stations.now in
    let i = c.loop-station.station-index in
    ap (λ list. marked_on list (drop (i + 1) stations)) c.in_ok-mark.ensures.list
    ∙ sym (mark_on c.loop-station.list stations i c.loop-station-test.true (sym c.in_ok-mark.ensures.answer)) ∙ c.loop-station.invariant

pub returns-in_err-mark : goal.returns-in_err-mark
returns-in_err-mark c =
    let p = err_from_is_err_and c.from_residual.result c.from_residual.ensures.1 in
    let off = mark_off c.loop-station.list c.args.stations.now c.loop-station.station-index c.loop-station-test.true c.in_err-mark.field-0.0 (sym c.in_err-mark.ensures.answer) in
    p.1 ∙ ap Err p.2 ∙ sym off ∙ c.loop-station.invariant

pub returns : goal.returns
returns c = sym (all_marked c.loop-station.list c.args.stations.now c.loop-station.station-index c.loop-station-test.false) ∙ c.loop-station.invariant
