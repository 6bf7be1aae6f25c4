use Rattle.std.proofs.Common.{◌≡◌, ◌+◌, ◌<◌, true, length, take, replicate, ◌∙◌, length-take, arith}
use Rattle.cores.specs.Site.{sized}
use Rattle.view.proofs.Admitted.{sized_within}
use Rattle.sheet.specs.Sites.{plan_of}
use Rattle.rules.specs.Levels.{top}
use Rattle.rules.proofs.Tabled.{taken, as_many, greatest_is_top, levels_are, all_answered, all_left, short_answered, old_left}
use Rattle.rules.proofs.levels.tally.Given.{Over}
use Rattle.rules.proofs.levels.tally.Goals as goal
use Rattle.rules.proofs.levels.tally.Goals.{After-from-needed}

pub invariant_of-numbered-clause-right : goal.invariant_of-numbered-clause-right
invariant_of-numbered-clause-right g c =
    let site = g.V.View.site c.args.view.now in
    let (small, are) = taken site c.in_ok-stations.stations c.numbers.new.out (replicate 512 0) c.in_ok-stations.ensures.answer c.in_ok-stations.ensures.out in
    as_many site (take c.in_ok-stations.stations c.numbers.new.out) are

pub invariant_of-numbered-clause-few : goal.invariant_of-numbered-clause-few
invariant_of-numbered-clause-few g c =
    let site = g.V.View.site c.args.view.now in
    let (small, are) = taken site c.in_ok-stations.stations c.numbers.new.out (replicate 512 0) c.in_ok-stations.ensures.answer c.in_ok-stations.ensures.out in
    omega (arith, as_many site (take c.in_ok-stations.stations c.numbers.new.out) are, (sized_within site.size small).1)

-- the numbers that were asked for, and their greatest
numbered : (g : Over) (c : After-from-needed g) → let site = g.V.View.site c.args.view.now in
    (sized site.size ≡ true) × (take c.in_ok-stations.stations c.numbers.new.out ≡ (plan_of site).numbers) × (c.from-needed.result ≡ top site)
numbered g c =
    let site = g.V.View.site c.args.view.now in
    let numbers = take c.in_ok-stations.stations c.numbers.new.out in
    let (small, are) = taken site c.in_ok-stations.stations c.numbers.new.out (replicate 512 0) c.in_ok-stations.ensures.answer c.in_ok-stations.ensures.out in
    let some : 0 < length numbers = omega (arith, as_many site numbers are, (sized_within site.size small).0) in
    (small, are, c.from-needed.ensures ∙ greatest_is_top site numbers are c.top.result c.top.ensures.greatest (c.top.ensures.reached some))

pub returns-then-list-needed-clause-answer : goal.returns-then-list-needed-clause-answer
returns-then-list-needed-clause-answer g c =
    let (small, are, is) = numbered g (goal.at.returns-then-list-needed-clause-answer g c).After-from-needed in
    short_answered (g.V.View.site c.args.view.now) small c.args.list.now _ (omega (arith, is)) (omega arith)

pub returns-then-list-needed-clause-list : goal.returns-then-list-needed-clause-list
returns-then-list-needed-clause-list g c =
    let (small, are, is) = numbered g (goal.at.returns-then-list-needed-clause-list g c).After-from-needed in
    old_left (g.V.View.site c.args.view.now) small c.args.list.now (c.from-needed.result + 1) (omega (arith, is)) (omega arith)

pub count_levels-requires : goal.count_levels-requires
count_levels-requires g c = record { room = λ s h. omega (arith, c.top.ensures.greatest s h, c.from-needed.ensures, length-take (c.from-needed.result + 1) c.args.list.now) }

pub returns-clause-answer : goal.returns-clause-answer
returns-clause-answer g c =
    let (small, are, is) = numbered g (goal.at.returns-clause-answer g c).After-from-needed in
    all_answered (g.V.View.site c.args.view.now) small c.args.list.now _ (omega (arith, is)) (omega arith)

pub returns-clause-list : goal.returns-clause-list
returns-clause-list g c =
    let site = g.V.View.site c.args.view.now in
    let (small, are, is) = numbered g (goal.at.returns-clause-list g c).After-from-needed in
    let long : length c.count_levels.new.list ≡ top site + 1 = omega (arith, is, c.count_levels.auto.list, length-take (c.from-needed.result + 1) c.args.list.now) in
    all_left site small c.args.list.now _ (omega (arith, is)) (omega arith) c.count_levels.new.list
    (levels_are site (take c.in_ok-stations.stations c.numbers.new.out) are c.count_levels.new.list long c.count_levels.ensures)
