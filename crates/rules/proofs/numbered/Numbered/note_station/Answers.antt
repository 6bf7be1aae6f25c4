use Rattle.std.proofs.Common.{◌≡◌, ◌<◌, length, [], ◌∷◌, ◌++◌, slice_index, sym, ap, ◌∙◌, append-nil, append_assoc, arith}
use Rattle.rules.proofs.Links.{no_counts}
use Rattle.rules.proofs.Notes.{members_few, station_held, link_met, link_passed, row_met, noting_few}
use Rattle.rules.proofs.numbered.Numbered.note_station.Given.{Over}
use Rattle.rules.proofs.numbered.Numbered.note_station.Goals as goal
use Rattle.rules.proofs.numbered.Numbered.note_station.Goals.{After-from, In-Some}

-- the list has a place for the number
there : (g : Over) (c : After-from g) → c.from.result < length c.args.list.now
there g c = omega (arith, c.from.ensures, c.requires.room c.args.s c.requires.on_site)

pub overflow_add-list : goal.overflow_add-list
overflow_add-list g c =
    let members = members_few (g.V.View.site c.args.self.now.view.now) (slice_index c.args.self.now.numbers.now) c.args.s c.args.list.now c.from.result no_counts (there g c) c.requires.below in
    omega (arith, members, c.args.self.now.few, c.requires.on_site)

pub loop-t-init : goal.loop-t-init
loop-t-init g c = (
  c.into_iter-t-iterator.ensures.into_iter_gives ∙ c.neighbours-t-items.ensures,
  station_held (g.V.View.site c.args.self.now.view.now) (slice_index c.args.self.now.numbers.now) c.args.s c.args.list.now c.from.result _ (omega (arith, c.from.ensures))
      (there g (goal.at.loop-t-init g c).After-from) c.requires.below,
)

-- what the walk along the neighbours has behind it and before it
walked : (g : Over) (c : In-Some g) → c.loop-t.yielded ++ c.in-Some.t ∷ c.next.new.self ≡ g.V.View.row c.args.self.now.view.now c.args.s
walked g c = ap (λ ts. c.loop-t.yielded ++ ts) (sym c.in-Some.ensures.steps) ∙ c.loop-t.invariant.0

pub note_link-requires-clause-few : goal.note_link-requires-clause-few
note_link-requires-clause-few g c =
    let view = c.args.self.now.view.now in
    let right = c.args.self.now.right in
    let few = c.args.self.now.few in
    noting_few (g.V.View.site view) (slice_index c.args.self.now.numbers.now) c.args.s c.loop-t.yielded c.loop-t.t-iterator (g.V.View.row view) (g.met.V.View.faithful view)
    (omega arith) (omega (arith, c.requires.on_site)) c.loop-t.invariant.0 c.loop-t.list c.loop-t.invariant.1

pub loop-t-preserved-then-t-s : goal.loop-t-preserved-then-t-s
loop-t-preserved-then-t-s g c =
    let site = g.V.View.site c.args.self.now.view.now in
    let number = slice_index c.args.self.now.numbers.now in (
      append_assoc c.loop-t.yielded (c.in-Some.t ∷ []) c.next.new.self ∙ walked g (goal.at.loop-t-preserved-then-t-s g c).In-Some,
      link_met site number c.args.s c.loop-t.yielded c.in-Some.t c.note_link.new.list (omega arith) (c.note_link.ensures _ c.loop-t.invariant.1),
    )

pub loop-t-preserved : goal.loop-t-preserved
loop-t-preserved g c =
    let site = g.V.View.site c.args.self.now.view.now in
    let number = slice_index c.args.self.now.numbers.now in (
      append_assoc c.loop-t.yielded (c.in-Some.t ∷ []) c.next.new.self ∙ walked g (goal.at.loop-t-preserved g c).In-Some,
      link_passed site number c.args.s c.loop-t.yielded c.in-Some.t c.loop-t.list (omega arith) c.loop-t.invariant.1,
    )

pub returns : goal.returns
returns g c =
    let view = c.args.self.now.view.now in
    let end = c.in-None.ensures.steps.0 in
    let all : c.loop-t.yielded ≡ g.V.View.row view c.args.s = sym (append-nil c.loop-t.yielded) ∙ rw end at c.loop-t.invariant.0 in
    row_met (g.V.View.site view) (slice_index c.args.self.now.numbers.now) c.args.s (g.V.View.row view) (g.met.V.View.faithful view) c.loop-t.list (rw all at c.loop-t.invariant.1)
