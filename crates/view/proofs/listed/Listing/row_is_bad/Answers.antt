use Rattle.std.proofs.Common.{◌≡◌, true, length, sym, ap, ◌∙◌, arith}
use Rattle.cores.specs.Counting.{some, holds}
use Rattle.cores.proofs.Searches.{some_none, some_more}
use Rattle.view.specs.Listing.{lists, row, bad_entry, bad_row}
use Rattle.view.proofs.Rows.{misplaced_is_bad, unreturned_is_bad, good_entry}
use Rattle.view.proofs.listed.Listing.row_is_bad.Goals as goal

pub loop-place-init : goal.loop-place-init
loop-place-init c = some_none (bad_entry (lists c.args.self.now) c.args.s)

pub returns-then-is_misplaced : goal.returns-then-is_misplaced
returns-then-is_misplaced c =
    sym (misplaced_is_bad (lists c.args.self.now) c.args.s c.loop-place.place _ c.row-row.ensures (omega arith) (sym c.is_misplaced.ensures ∙ c.if-is_misplaced.true))

pub returns-then-not-row_lists : goal.returns-then-not-row_lists
returns-then-not-row_lists c =
    let ls = lists c.args.self.now in
    let missing = ap (λ t. holds (row ls t) c.args.s) (sym c.from-t.ensures) ∙ sym c.row_lists.ensures in
    let bad = unreturned_is_bad ls c.args.s c.loop-place.place _ c.row-row.ensures (omega arith) in
    grind arith

pub rest_is_bad-requires-clause-front : goal.rest_is_bad-requires-clause-front
rest_is_bad-requires-clause-front c =
    let ls = lists c.args.self.now in
    let returned : c.row_lists.result ≡ true = grind arith in
    some_more c.loop-place.place (bad_entry ls c.args.s) c.loop-place.invariant
    (good_entry ls c.args.s c.loop-place.place _ c.row-row.ensures (sym c.is_misplaced.ensures ∙ c.if-is_misplaced.false)
    (ap (λ t. holds (row ls t) c.args.s) (sym c.from-t.ensures) ∙ sym c.row_lists.ensures ∙ returned))

pub loop-place-preserved : goal.loop-place-preserved
loop-place-preserved c =
    let ls = lists c.args.self.now in
    let found : c.found_next.result ≡ true = grind arith in
    some_more c.loop-place.place (bad_entry ls c.args.s) c.loop-place.invariant
    (good_entry ls c.args.s c.loop-place.place _ c.row-row.ensures (sym c.is_misplaced.ensures ∙ c.if-is_misplaced.false)
    (ap (λ t. holds (row ls t) c.args.s) (sym c.from-t.ensures) ∙ c.found_next.ensures found))

pub returns : goal.returns
unfolding bad_row
returns c =
    let ls = lists c.args.self.now in
    let same = ap length c.row-row.ensures in
    let all : c.loop-place.place ≡ length (row ls c.args.s) = omega arith in
    sym (sym (ap (λ n. some n (bad_entry ls c.args.s)) all) ∙ c.loop-place.invariant)
