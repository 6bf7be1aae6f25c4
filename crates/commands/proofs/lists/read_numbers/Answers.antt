use Rattle.std.proofs.Common.{◌≡◌, [], ◌∷◌, ◌++◌, map, vec_items, sym, ◌∙◌}
use Rattle.std.proofs.lemmas.List.{drop_more, map-append}
use Rattle.commands.proofs.NumberSteps.{read_on, read_off, all_read, lack_stays, meant, exit}
use Rattle.commands.proofs.lists.read_numbers.Goals as goal

pub loop-word-preserved : goal.loop-word-preserved
loop-word-preserved g c =
    let words = c.args.words.now in
    let i = c.loop-word.word-index in
    let value = g.T.Number.value in
    let front = map value (vec_items c.loop-word.list) in
    let on = read_on g.T.Number.most words i _ (value c.in_ok-read_number.field-0) front (drop_more words i _ c.loop-word-test.true) c.in_ok-read_number.ensures in
    let behind : map value (vec_items c.push.new.self) ≡ front ++ value c.in_ok-read_number.field-0 ∷ [] = rw c.in_ok-push.ensures.items (map-append value _ _) in
    rw behind (sym on ∙ c.loop-word.invariant)

pub returns-in_err-read_number : goal.returns-in_err-read_number
returns-in_err-read_number g c =
    let words = c.args.words.now in
    let i = c.loop-word.word-index in
    let e = c.in_err-read_number.field-0.0 in
    let off = read_off g.T.Number.most words i _ (map g.T.Number.value (vec_items c.loop-word.list)) (drop_more words i _ c.loop-word-test.true) in
    rw (exit c.from_residual.result e c.from_residual.ensures.1) (meant _ e (lack_stays _ _ (λ none. sym c.loop-word.invariant ∙ off none) e c.in_err-read_number.ensures))

pub returns : goal.returns
returns g c = sym c.loop-word.invariant ∙ all_read g.T.Number.most c.args.words.now c.loop-word.word-index _ c.loop-word-test.false
