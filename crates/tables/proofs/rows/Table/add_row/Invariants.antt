use Rattle.std.proofs.Common.{◌≡◌, ◌+◌, ◌≤◌, [], ◌∷◌, length, vec_len}
use Rattle.text.specs.Cursors.{tokens_left, unread_of}
use Rattle.tables.specs.Listings.{row_of, rows_of}
use Rattle.tables.specs.Answered.{listing_of, with_rows}
use Rattle.tables.proofs.RowSteps.{row_goes_on}
use Rattle.tables.proofs.rows.Table.add_row.Given as goal

-- What was added, and the row of the words that are left, give what the whole line gives.
abbrev pub invariant-loop-token : goal.invariant-loop-token
invariant-loop-token l =
    (row_goes_on (listing_of l.self) (row_of l.n (tokens_left l.token-iterator)) ≡ with_rows (listing_of l.initial.self) (rows_of l.n (l.line ∷ [])))
    × (vec_len l.self.ends + unread_of l.token-iterator ≤ vec_len l.initial.self.ends + length l.line)
