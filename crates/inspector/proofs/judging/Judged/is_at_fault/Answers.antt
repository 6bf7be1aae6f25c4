use Rattle.std.proofs.Common.{◌≡◌, ℕ, ◌<◌, ◌≤◌, ◌||◌, ltb, leb, get_or, rules, tests, ap, ◌∙◌, arith}
use Rattle.cores.specs.Numbers.{Group}
use Rattle.cores.specs.Orders.{at_fault, after, falls}
use Rattle.inspector.proofs.Places.{fault_by_counts}
use Rattle.inspector.proofs.Support.{Counted, row_on_site, counted_none, turn_on_site, rest_on_site, counted_more, counted_all, hears_few}
use Rattle.inspector.proofs.judging.Judged.is_at_fault.Given.{Over}
use Rattle.inspector.proofs.judging.Judged.is_at_fault.Goals as goal
use Rattle.inspector.proofs.judging.Judged.is_at_fault.Goals.{In-Some, In-None}

pub loop-t-init : goal.loop-t-init
loop-t-init g c =
    let judged = c.args.self.now in
    let site = g.V.View.site judged.view.now in
    let row = g.V.View.row judged.view.now in
    let law = g.met.V.View.faithful judged.view.now in
    let coming = c.into_iter-t-iterator.ensures.into_iter_gives ∙ c.neighbours-t-items.ensures in
    rw coming (
      row_on_site site row law c.args.s,
      counted_none site row law c.args.s (λ t. leb (get_or judged.numbers.now c.args.s 0) (get_or judged.numbers.now t 0)),
      counted_none site row law c.args.s (λ t. ltb (get_or judged.places c.args.s 0) (get_or judged.places t 0)),
    )

-- a neighbour is on the site
on_site : (g : Over) (c : In-Some g) → c.in-Some.t < (g.V.View.site c.args.self.now.view.now).size
on_site g c = turn_on_site (g.V.View.site c.args.self.now.view.now) _ _ c.in-Some.t c.in-Some.ensures.steps c.loop-t.invariant.0

pub bounds-self-t : goal.bounds-self-t
bounds-self-t g c = omega (arith, on_site g (goal.at.bounds-self-t g c).In-Some, c.args.self.now.fit.numbered)

pub offset_bounds-self-t : goal.offset_bounds-self-t
offset_bounds-self-t g c = let on = on_site g (goal.at.offset_bounds-self-t g c).In-Some in let few = c.args.self.now.fit.few in search rules

pub bounds-self-t-in-loop-t : goal.bounds-self-t-in-loop-t
bounds-self-t-in-loop-t g c = omega (arith, on_site g (goal.at.bounds-self-t-in-loop-t g c).In-Some, c.args.self.now.fit.few)

pub offset_bounds-self-t-in-loop-t : goal.offset_bounds-self-t-in-loop-t
offset_bounds-self-t-in-loop-t g c = let on = on_site g (goal.at.offset_bounds-self-t-in-loop-t g c).In-Some in let few = c.args.self.now.fit.few in search rules

-- what was met, and one more at most, is no more than there are stations
room : (g : Over) (c : In-Some g) (X : Group) (met : ℕ) → Counted (g.V.View.site c.args.self.now.view.now) X c.args.s c.loop-t.t-iterator met → met ≤ 512
room g c X met counted = omega (arith, counted, hears_few (g.V.View.site c.args.self.now.view.now) X c.args.s, c.args.self.now.fit.few)

pub overflow_add-supporting : goal.overflow_add-supporting
overflow_add-supporting g c = let few = room g (goal.at.overflow_add-supporting g c).In-Some _ _ c.loop-t.invariant.1 in search rules

pub overflow_add-later : goal.overflow_add-later
overflow_add-later g c = let few = room g (goal.at.overflow_add-later g c).In-Some _ _ c.loop-t.invariant.2 in search rules

pub loop-t-preserved : goal.loop-t-preserved
loop-t-preserved g c =
    let judged = c.args.self.now in
    let site = g.V.View.site judged.view.now in
    let row = g.V.View.row judged.view.now in
    let (on, supporting, later) = c.loop-t.invariant in (
      rest_on_site site _ _ c.in-Some.t c.in-Some.ensures.steps on,
      counted_more site _ _ c.in-Some.t c.in-Some.ensures.steps (λ t. leb (get_or judged.numbers.now c.args.s 0) (get_or judged.numbers.now t 0)) c.args.s c.loop-t.supporting c.from-supporting.result (search (rules, tests)) supporting,
      counted_more site _ _ c.in-Some.t c.in-Some.ensures.steps (λ t. ltb (get_or judged.places c.args.s 0) (get_or judged.places t 0)) c.args.s c.loop-t.later c.from-later.result (search (rules, tests)) later,
    )

-- what was counted along the whole row
by_counts : (g : Over) (c : In-None g) → let judged = c.args.self.now in let site = g.V.View.site judged.view.now in
    at_fault site (λ t. get_or judged.numbers.now t 0) judged.order.now c.args.s
    ≡ (ltb c.loop-t.supporting (get_or judged.numbers.now c.args.s 0)
    || ltb (get_or judged.numbers.now c.args.s 0) c.loop-t.later
    || falls (λ t. get_or judged.numbers.now t 0) c.args.s (after c.args.s judged.order.now))
by_counts g c =
    let judged = c.args.self.now in
    let site = g.V.View.site judged.view.now in
    let (on, supporting, later) = c.loop-t.invariant in
    let none = c.in-None.ensures.steps.0 in
    fault_by_counts site _ _ judged.fit judged.places judged.placed c.args.s c.loop-t.supporting c.loop-t.later c.requires
    (counted_all site (λ t. leb (get_or judged.numbers.now c.args.s 0) (get_or judged.numbers.now t 0)) c.args.s c.loop-t.supporting _ none supporting)
    (counted_all site (λ t. ltb (get_or judged.places c.args.s 0) (get_or judged.places t 0)) c.args.s c.loop-t.later _ none later)

pub returns-then-later-number : goal.returns-then-later-number
returns-then-later-number g c = let by = by_counts g (goal.at.returns-then-later-number g c).In-None in search (rules, tests)

pub returns-else-later-number : goal.returns-else-later-number
returns-else-later-number g c = let by = by_counts g (goal.at.returns-else-later-number g c).In-None in search (rules, tests)
