use Rattle.std.proofs.Common.{◌+◌, get_or, rules, arith}
use Rattle.std.proofs.lemmas.Grind.{common_steps}
use Rattle.inspector.proofs.Places.{station_on_site, stands_there, next_falls, last_rises}
use Rattle.inspector.proofs.judging.Judged.falls_after.Goals as goal

pub overflow_add-self : goal.overflow_add-self
overflow_add-self g c =
    let judged = c.args.self.now in
    let (within, is) = stands_there _ _ _ judged.fit judged.places judged.placed c.args.s c.requires in
    let few = judged.fit.few in
    let long = judged.fit.ordered in
    search rules

pub bounds-self-from : goal.bounds-self-from
bounds-self-from g c =
    let judged = c.args.self.now in
    let on_site = station_on_site _ _ _ judged.fit (get_or judged.places c.args.s 0 + 1) in
    let numbered = judged.fit.numbered in
    grind (arith, common_steps)

pub returns-in-Some : goal.returns-in-Some
returns-in-Some g c =
    let judged = c.args.self.now in
    let falls = next_falls _ _ _ judged.fit judged.places judged.placed c.args.s c.requires in
    grind (arith, common_steps)

pub returns-in-None : goal.returns-in-None
returns-in-None g c =
    let judged = c.args.self.now in
    last_rises _ _ _ judged.fit judged.places judged.placed c.args.s c.requires (grind (arith, common_steps))
