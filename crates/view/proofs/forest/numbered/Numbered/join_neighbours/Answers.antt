use Rattle.std.proofs.Common.{◌≡◌, ℕ, ◌<◌, ◌≤◌, [], ◌∷◌, ◌++◌, length, rules, arith, sym, ap, ◌∙◌, append-nil, append_assoc, slice_index}
use Rattle.view.proofs.Joining.{with_links_to, no_links_to, links_to_more, links_to_lower, links_to_all, neighbour_on_site}
use Rattle.view.proofs.forest.numbered.Numbered.join_neighbours.Given.{Over}
use Rattle.view.proofs.forest.numbered.Numbered.join_neighbours.Goals as goal
use Rattle.view.proofs.forest.numbered.Numbered.join_neighbours.Goals.{In-Some}

pub loop-t-init : goal.loop-t-init
loop-t-init g c = (
  c.into_iter-t-iterator.ensures.into_iter_gives ∙ c.neighbours-t-items.ensures,
  λ links before. rw (no_links_to links (slice_index c.args.self.now.numbers.now) c.args.s) before,
)

-- what the walk along the neighbours has behind it and before it
walked : (g : Over) (c : In-Some g) → c.loop-t.yielded ++ c.in-Some.t ∷ c.next.new.self ≡ g.V.View.row c.args.self.now.view.now c.args.s
walked g c = ap (λ ts. c.loop-t.yielded ++ ts) (sym c.in-Some.ensures.steps) ∙ c.loop-t.invariant.0

-- a neighbour is on the site
on_site : (g : Over) (c : In-Some g) → c.in-Some.t < length c.args.self.now.numbers.now
on_site g c =
    let view = c.args.self.now.view.now in
    let on = neighbour_on_site (g.V.View.site view) (g.V.View.row view) (g.met.V.View.faithful view) c.args.s c.loop-t.yielded c.in-Some.t c.next.new.self (walked g c) in
    omega (arith, c.args.self.now.right)

pub bounds-self-t : goal.bounds-self-t
bounds-self-t g c = on_site g (goal.at.bounds-self-t g c).In-Some

pub offset_bounds-self-t : goal.offset_bounds-self-t
offset_bounds-self-t g c = let on = on_site g (goal.at.offset_bounds-self-t g c).In-Some in let few = c.args.self.now.few in search rules

pub join-requires-clause-there : goal.join-requires-clause-there
join-requires-clause-there g c = omega (arith, on_site g (goal.at.join-requires-clause-there g c).In-Some, c.args.self.now.few)

pub loop-t-preserved-then-self-s : goal.loop-t-preserved-then-self-s
loop-t-preserved-then-self-s g c =
    let number : ℕ → ℕ = slice_index c.args.self.now.numbers.now in
    let right = c.args.self.now.right in
    let few = c.args.self.now.few in
    let on = on_site g (goal.at.loop-t-preserved-then-self-s g c).In-Some in
    let no_lower : number c.args.s ≤ number c.in-Some.t = search rules in (
      append_assoc c.loop-t.yielded (c.in-Some.t ∷ []) c.next.new.self ∙ walked g (goal.at.loop-t-preserved-then-self-s g c).In-Some,
      λ links before. rw (links_to_more links number c.args.s c.loop-t.yielded c.in-Some.t no_lower) (c.join.ensures _ (with_links_to links number c.args.s c.loop-t.yielded) (omega (arith, right)) (omega (arith, right, on)) (omega (arith, right, few)) (c.loop-t.invariant.1 links before)),
    )

pub loop-t-preserved : goal.loop-t-preserved
loop-t-preserved g c =
    let number : ℕ → ℕ = slice_index c.args.self.now.numbers.now in
    let lower : number c.in-Some.t < number c.args.s = search rules in (
      append_assoc c.loop-t.yielded (c.in-Some.t ∷ []) c.next.new.self ∙ walked g (goal.at.loop-t-preserved g c).In-Some,
      λ links before. rw (links_to_lower links number c.args.s c.loop-t.yielded c.in-Some.t lower) (c.loop-t.invariant.1 links before),
    )

pub returns : goal.returns
returns g c links before =
    let view = c.args.self.now.view.now in
    let number : ℕ → ℕ = slice_index c.args.self.now.numbers.now in
    let all : c.loop-t.yielded ≡ g.V.View.row view c.args.s
    = sym (append-nil c.loop-t.yielded) ∙ ap (λ ts. c.loop-t.yielded ++ ts) (sym c.in-None.ensures.steps.0) ∙ c.loop-t.invariant.0 in
    rw (← links_to_all (g.V.View.site view) (g.V.View.row view) (g.met.V.View.faithful view) c.args.s links number c.loop-t.yielded all) (c.loop-t.invariant.1 links before)
