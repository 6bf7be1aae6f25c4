use Rattle.std.proofs.Common.{not, length, sym, ap, ◌∙◌, rules, tests, arith}
use Rattle.std.proofs.lemmas.Iterator.{YieldsList-from_slice}
use Rattle.std.proofs.lemmas.Iterator.Search.{any_from_yields_List}
use Rattle.cores.specs.Counting.{holds}
use Rattle.cores.proofs.Searches.{some_more}
use Rattle.view.specs.Listing.{lists, row}
use Rattle.view.proofs.Rows.{misplaced_in, misplaced, misplaced_is_bad, none_misplaced, row_judged}
use Rattle.view.proofs.listed.Listing.rest_is_bad.Goals as goal

pub loop-place-init : goal.loop-place-init
loop-place-init c = none_misplaced (lists c.args.self.now) c.args.s c.args.from c.requires.front

pub returns-then-is_misplaced : goal.returns-then-is_misplaced
returns-then-is_misplaced c =
    sym (misplaced_is_bad (lists c.args.self.now) c.args.s c.loop-place.place _ c.row-row.ensures (omega arith) (sym c.is_misplaced.ensures ∙ c.if-is_misplaced.true))

pub loop-place-preserved : goal.loop-place-preserved
loop-place-preserved c =
    let ls = lists c.args.self.now in
    let here = ap (λ xs. misplaced_in ls xs c.args.s c.loop-place.place) c.row-row.ensures in
    some_more c.loop-place.place (misplaced ls c.args.s) c.loop-place.invariant (sym here ∙ sym c.is_misplaced.ensures ∙ c.if-is_misplaced.false)

pub returns : goal.returns
returns c =
    let ls = lists c.args.self.now in
    let s = c.args.s in
    let same = ap length c.row-row.ensures in
    let bad = row_judged ls s c.loop-place.place (omega arith) c.loop-place.invariant in
    let found = any_from_yields_List (λ t. not (holds (row ls t) s)) _ _ _ c.any.ensures.ran (YieldsList-from_slice (row ls s) (cc)) (λ x b q k. search (rules, tests)) in
    grind arith
