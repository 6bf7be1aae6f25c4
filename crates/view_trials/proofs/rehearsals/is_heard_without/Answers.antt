use Rattle.std.proofs.Common.{◌≡◌, false, true, ltb, length, sym, ap, ◌∙◌}
use Rattle.view.specs.Service.{is_marked, with_mark}
use Rattle.view.specs.Struck.{struck_row}
use Rattle.view_trials.proofs.rehearsals.is_heard_without.Goals as goal

pub returns-clause-answer : goal.returns-clause-answer
returns-clause-answer g c =
    let list = with_mark c.args.list.now c.args.struck true in
    let row = g.V.View.row c.args.view.now in
    let shown : c.list-2.result ≡ list = c.list-2.ensures ∙ c.begin-rehearsal.ensures.list in
    let seen : c.list.result ≡ list = c.list.ensures ∙ c.begin-rehearsal.ensures.list in
    let free : is_marked list c.args.station ≡ false = ap (λ l. is_marked l c.args.station) (sym seen) ∙ sym c.if-is_marked.ensures in
    let degree = c.degree.ensures ∙ ap (λ rows. length (rows c.args.station)) c.new.ensures.rows ∙ ap (λ l. length (struck_row (is_marked l) row c.args.station)) shown in
    rw free (ap (ltb 0) degree)
