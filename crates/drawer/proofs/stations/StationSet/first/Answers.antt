use Rattle.std.proofs.Common.{arith, rules, length, ◌≡◌, ◌^◌, ◌<◌, get_or, inl, inr, ap, ◌∙◌}
use Rattle.std.proofs.lemmas.Bool.{cases_eq}
use Rattle.drawer.proofs.Sets.{first_found, none_found}
use Rattle.drawer.proofs.stations.StationSet.first.Goals as goal

pub loop-place-preserved : goal.loop-place-preserved
loop-place-preserved c i low = elim (cases_eq i c.loop-place.place) [
  | inl same ↦ ap (λ k. get_or c.args.self.now.words k 0) same ∙ c.if-word-ne0.false
  | inr other ↦ c.loop-place.invariant i (omega arith)
]

pub returns-then-word-ne0 : goal.returns-then-word-ne0
returns-then-word-ne0 c =
    let words = c.args.self.now.words in
    let place = c.loop-place.place in
    let fits : get_or words place 0 < 2 ^ 64 = search rules in
    first_found words place c.loop-place.invariant (omega arith) fits

pub returns : goal.returns
returns c =
    let words = c.args.self.now.words in
    let long : length words ≡ 8 = search rules in
    none_found words c.loop-place.place c.loop-place.invariant (omega (arith, long, c.loop-place-test.false))
