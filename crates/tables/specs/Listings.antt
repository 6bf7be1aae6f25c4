use Rattle.std.specs.Prelude.{ℕ, Bool, ◌+◌, cond, List, [], ◌∷◌, length, Ok, Err, Result, nat_lt}
use Rattle.std.specs.Option.{ok_or}
use Rattle.std.specs.List.{flat_map}
use Rattle.text.specs.Texts.{lines, Part, tokens_of, decimal_of}
use Rattle.view.specs.Listing.{Lists}

-- What a text can have wrong: its length, or a word, by its line and byte, both counted from 1.
pub data Fault : Type 0 where
  too_long : Fault
  not_a_station : (line byte : ℕ) → Fault

-- A value in front of a list, or the first fault of the two.
abbrev pub before : {X : Type 0} → Result X Fault → Result (List X) Fault → Result (List X) Fault
before (Ok x) (Ok xs) = Ok (x ∷ xs)
before (Ok x) (Err e) = Err e
before (Err e) r = Err e

-- The station that a word of the n-th line names, by one to five digits.
abbrev pub station_of : ℕ → Part → Result ℕ Fault
station_of n word = ok_or (decimal_of 5 word.bytes) (not_a_station n word.byte)

-- The row of the n-th line: the stations of its words.
unfoldable pub row_of : ℕ → List Part → Result (List ℕ) Fault
row_of n [] = Ok []
row_of n (word ∷ words) = before (station_of n word) (row_of n words)

-- The rows of lines, the first of which is the n-th.
unfoldable pub rows_of : ℕ → List (List ℕ) → Result (List (List ℕ)) Fault
rows_of n [] = Ok []
rows_of n (line ∷ rest) = before (row_of n (tokens_of line)) (rows_of (n + 1) rest)

-- After each row, how many ends there are so far, if there were k before.
unfoldable pub counts : ℕ → List (List ℕ) → List ℕ
counts k [] = []
counts k (r ∷ rs) = (k + length r) ∷ counts (k + length r) rs

-- The table of rows: they follow one another.
abbrev pub listing : List (List ℕ) → Lists
listing rs = record { starts = 0 ∷ counts 0 rs; ends = flat_map (λ r. r) rs }

-- The table of rows that were read, or the fault.
abbrev pub listed : Result (List (List ℕ)) Fault → Result Lists Fault
listed (Ok rs) = Ok (listing rs)
listed (Err e) = Err e

-- Whether a text has more than a million bytes.
abbrev pub is_too_long : List ℕ → Bool
is_too_long text = nat_lt 1000000 (length text)

-- The table that a text of at most a million bytes writes.
abbrev pub table_of : List ℕ → Result Lists Fault
table_of text = cond (is_too_long text) (Err too_long) (listed (rows_of 1 (lines text)))
