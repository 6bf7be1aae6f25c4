use Rattle.std.proofs.Common.{◌≡◌, ℕ, ◌<◌, length, get_or, slice_index, arith}
use Rattle.std.proofs.lemmas.Bool.{iff_false}
use Rattle.std.proofs.lemmas.List.Elements.{Contains-get_or}
use Rattle.view.proofs.Levels.{no_links_added}
use Rattle.view.proofs.Descent.{homes_skipped, ups_skipped}
use Rattle.view.proofs.forest.numbered.Numbered.settle_level.Given.{Over}
use Rattle.view.proofs.forest.numbered.Numbered.settle_level.Goals as goal
use Rattle.view.proofs.forest.numbered.Numbered.settle_level.Goals.{Else-has}

-- no station has the level
none : (g : Over) (c : Else-has g) (s : ℕ) → s < (g.V.View.site c.args.self.now.view.now).size → get_or c.args.self.now.numbers.now s 0 ≡ c.args.level → ⊥
none g c s h e = let here = Contains-get_or c.args.self.now.numbers.now s 0 (omega (arith, c.args.self.now.right)) in iff_false c.has.ensures c.if-has.false (rw e at here)

pub returns-else-has-clause-joined : goal.returns-else-has-clause-joined
returns-else-has-clause-joined g c =
    let view = c.args.self.now.view.now in
    rw (← no_links_added (g.V.View.site view) (slice_index c.args.self.now.numbers.now) (g.met.V.View.faithful view).lawful c.args.level (none g c)) c.requires.above

pub returns-else-has-clause-homes : goal.returns-else-has-clause-homes
returns-else-has-clause-homes g c =
    homes_skipped (g.V.View.site c.args.self.now.view.now) c.args.self.now.numbers.now c.args.level (length c.args.self.now.numbers.now) c.args.homes.now
    (omega (arith, c.args.self.now.right)) c.requires.homes_room (none g c)

pub returns-else-has-clause-ups : goal.returns-else-has-clause-ups
returns-else-has-clause-ups g c =
    ups_skipped (g.V.View.site c.args.self.now.view.now) c.args.self.now.numbers.now c.args.level (length c.args.self.now.numbers.now) c.args.homes.now c.args.ups.now
    c.requires.ups_room (none g c)
