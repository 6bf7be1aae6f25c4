use Rattle.std.proofs.Common.{◌≡◌, ◌+◌, ◌≤◌, vec_len}
use Rattle.std.specs.Iterator.Adapters.{enumerate_source, enumerate_count}
use Rattle.text.specs.Cursors.{lines_left, unread}
use Rattle.text.specs.Texts.{lines}
use Rattle.tables.specs.Listings.{rows_of, listed}
use Rattle.tables.specs.Answered.{listing_of, with_rows}
use Rattle.tables.proofs.rows.read_rows.Given as goal

-- What was added, and the rows of the lines that are left, give what the whole text gives.
abbrev pub invariant-loop-i : goal.invariant-loop-i
invariant-loop-i l =
    (with_rows (listing_of l.table) (rows_of (enumerate_count l.i-iterator + 1) (lines_left (enumerate_source l.i-iterator))) ≡ listed (rows_of 1 (lines l.text)))
    × (vec_len l.table.ends + unread (enumerate_source l.i-iterator) ≤ 1000000)
