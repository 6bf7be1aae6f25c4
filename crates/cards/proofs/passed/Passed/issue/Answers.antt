use Rattle.std.proofs.Common.{◌≡◌, ◌*◌, length, take, Err, sym, ◌∙◌, rules}
use Rattle.view.specs.Answers.{with_room}
use Rattle.inspector.proofs.Claims.{refused_bytes, read_plan}
use Rattle.cards.specs.Cards.{issued}
use Rattle.cards.specs.Parts.{cards_in}
use Rattle.cards.proofs.Issued.{refused, issued_tables, length-cards_in}
use Rattle.cards.proofs.passed.Passed.issue.Goals as goal
use Rattle.cards.proofs.passed.Passed.issue.Goals.{In_err-stations, In_ok-stations}

-- no cards are issued for what is no sheet
turned_down : (c : In_err-stations) → issued c.args.self.bytes.now (length c.args.out.now) ≡ Err c.in_err-stations.field-0.0
turned_down c =
    refused c.args.self.bytes.now (length c.args.out.now) c.in_err-stations.field-0.0
    (refused_bytes c.args.self.bytes.now c.in_err-stations.field-0.0 (sym c.in_err-stations.was ∙ c.read.ensures.answer))

-- and for a sheet those by its homes and ups
by_tables : (c : In_ok-stations) → let n = c.in_ok-stations.stations in let room = length c.args.out.now in
    issued c.args.self.bytes.now room ≡ with_room (2 * n) room (cards_in (take n c.read.new.homes) (take n c.read.new.ups))
by_tables c =
    issued_tables c.args.self.bytes.now c.read.new.numbers c.read.new.homes c.read.new.ups c.read.new.order c.in_ok-stations.stations (length c.args.out.now)
    (read_plan c.args.self.bytes.now c.read.new.numbers c.read.new.homes c.read.new.ups c.read.new.order c.in_ok-stations.stations
    (sym c.in_ok-stations.was ∙ c.read.ensures.answer) c.read.ensures.numbers c.read.ensures.homes c.read.ensures.ups c.read.ensures.order)
    (search rules) (search rules) (search rules)

pub returns-in_err-stations-clause-answer : goal.returns-in_err-stations-clause-answer
returns-in_err-stations-clause-answer c = let none = turned_down (goal.at.returns-in_err-stations-clause-answer c).In_err-stations in search rules

pub returns-in_err-stations-clause-out : goal.returns-in_err-stations-clause-out
returns-in_err-stations-clause-out c = let none = turned_down (goal.at.returns-in_err-stations-clause-out c).In_err-stations in search rules

pub returns-clause-answer : goal.returns-clause-answer
returns-clause-answer c =
    let cards = by_tables (goal.at.returns-clause-answer c).In_ok-stations in
    let long = length-cards_in (take c.in_ok-stations.stations c.read.new.homes) (take c.in_ok-stations.stations c.read.new.ups) in
    search rules

pub returns-clause-out : goal.returns-clause-out
returns-clause-out c =
    let cards = by_tables (goal.at.returns-clause-out c).In_ok-stations in
    let long = length-cards_in (take c.in_ok-stations.stations c.read.new.homes) (take c.in_ok-stations.stations c.read.new.ups) in
    search rules
