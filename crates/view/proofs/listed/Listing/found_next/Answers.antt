use Rattle.std.proofs.Common.{Some, sym, ap, ◌∙◌, eqb}
use Rattle.std.specs.Option.{option_eq}
use Rattle.view.specs.Listing.{lists, row}
use Rattle.view.proofs.Rows.{held_at}
use Rattle.view.proofs.listed.Listing.found_next.Goals as goal

pub returns : goal.returns
returns c =
    λ e. held_at (row (lists c.args.self.now) c.args.t) c.from.result c.args.s (ap (λ o. option_eq eqb o (Some c.args.s)) (sym c.entry.ensures) ∙ sym c.eq.ensures ∙ e)
