use Rattle.std.proofs.Common.{◌≡◌, [], ◌∷◌, ◌++◌, length, Ok, Err, vec_items, sym, ap, ◌∙◌, arith}
use Rattle.text.specs.Cursors.{tokens_left}
use Rattle.tables.specs.Listings.{row_of}
use Rattle.tables.specs.Answered.{listing_of}
use Rattle.tables.proofs.RowSteps.{row_goes_on, row_begins, row_on, row_off, row_done, meant_by, passed_on}
use Rattle.tables.proofs.rows.Table.add_row.Goals as goal

pub loop-token-init : goal.loop-token-init
loop-token-init c =
    let words = c.new-token-items.ensures in
    rw (c.into_iter-token-iterator.ensures.into_iter_gives, words.left) (row_begins (listing_of c.args.self.now) c.args.n c.args.line.now, omega (arith, words.all))

pub returns-in_err-station-clause-row : goal.returns-in_err-station-clause-row
returns-in_err-station-clause-row c =
    let had = listing_of c.loop-token.self in
    let whole = sym c.loop-token.invariant.0 ∙ ap (λ ws. row_goes_on had (row_of c.args.n ws)) c.in-Some.ensures.steps.cut in
    passed_on _ _ c.from_residual.result c.in_err-station.field-0.0 c.from_residual.ensures.1 (meant_by (Err _) whole (row_off had c.args.n _ _ _ c.in_err-station.ensures))

pub loop-token-preserved : goal.loop-token-preserved
loop-token-preserved c =
    let had = listing_of c.loop-token.self in
    let n = c.args.n in
    let next = c.in-Some.ensures.steps in
    let more = c.in_ok-push.ensures in (
      ap (λ es. row_goes_on (record { starts = had.starts; ends = es }) (row_of n (tokens_left c.next.new.self))) more.items
          ∙ sym (row_on had n _ _ _ c.in_ok-station.ensures) ∙ sym (ap (λ ws. row_goes_on had (row_of n ws)) next.cut) ∙ c.loop-token.invariant.0,
      omega (arith, more.len, next.shorter, c.loop-token.invariant.1),
    )

pub returns-clause-row : goal.returns-clause-row
returns-clause-row c =
    let had = listing_of c.loop-token.self in
    let ends = c.loop-token.self.ends in
    let start : vec_items c.push-2.new.self ≡ had.starts ++ length had.ends ∷ [] = c.in_ok-push-2.ensures.items ∙ ap (λ k. had.starts ++ k ∷ []) (c.len.ensures ∙ ends.ok.0) in
    sym c.loop-token.invariant.0 ∙ ap (λ ws. row_goes_on had (row_of c.args.n ws)) c.in-None.ensures.steps.done ∙ row_done had c.args.n
    ∙ ap (λ ss. Ok (record { starts = ss; ends = had.ends })) (sym start)
