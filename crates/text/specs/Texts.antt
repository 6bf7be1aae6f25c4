use Rattle.std.specs.Prelude.{ℕ, ◌+◌, ◌-◌, ◌*◌, ◌^◌, Bool, true, false, cond, ◌&&◌, List, [], ◌∷◌, length, Some, None, Option, ◌==◌, nat_le}
use Rattle.std.specs.Char.{is_ascii_digit}
use Rattle.std.specs.List.{before_first, onto_first, list_all, fold}

-- The lines of a text: an LF ends a line, any other byte leads the line that it stands in, and the last line needs no LF.
unfoldable pub lines : List ℕ → List (List ℕ)
lines [] = []
lines (b ∷ bs) = cond (b == 10) ([] ∷ lines bs) (onto_first b (lines bs))

-- A word of a line: the place of its first byte, counted from 1, and its bytes.
pub record Part : Type 0 where
  pub byte : ℕ
  pub bytes : List ℕ

-- The words of what is left of a line, whose next byte is the `at`-th. A word begins at a byte other than a space that
-- follows a space or nothing, which is what `parted` says of the byte before; it goes up to the next space.
unfoldable pub tokens : Bool → ℕ → List ℕ → List Part
tokens parted at [] = []
tokens parted at (b ∷ bs) =
    cond (b == 32) (tokens true (at + 1) bs)
    (cond parted (record { byte = at; bytes = before_first (λ c. c == 32) (b ∷ bs) } ∷ tokens false (at + 1) bs) (tokens false (at + 1) bs))

-- The words of a line.
abbrev pub tokens_of : List ℕ → List Part
tokens_of line = tokens true 1 line

-- What digits stand for, read from the left, behind digits that stand for n.
unfoldable pub read_on : ℕ → List ℕ → ℕ
read_on n bs = fold (λ m b. m * 10 + (b - 48)) n bs

-- The value of digits, if it is at most `limit`.
abbrev pub value_up_to : ℕ → List ℕ → Option ℕ
value_up_to limit bs = cond (list_all is_ascii_digit bs && nat_le (read_on 0 bs) limit) (Some (read_on 0 bs)) None

-- The value of digits, if it is at most 65535.
unfoldable pub value_of : List ℕ → Option ℕ
value_of bs = value_up_to 65535 bs

-- The same of one to `most` digits; leading zeros are allowed.
abbrev pub decimal_of : ℕ → List ℕ → Option ℕ
decimal_of most bs = cond (nat_le 1 (length bs) && nat_le (length bs) most) (value_of bs) None

-- The value of one digit or more, if it is at most `limit`.
abbrev pub number_up_to : ℕ → List ℕ → Option ℕ
number_up_to limit bs = cond (nat_le 1 (length bs)) (value_up_to limit bs) None

-- The same if it fits 64 bits.
abbrev pub natural_of : List ℕ → Option ℕ
natural_of bs = number_up_to (2 ^ 64 - 1) bs
