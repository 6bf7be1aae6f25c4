-- The bits that are set in bytes. Assumes nothing.
use Rattle.std.specs.Prelude.{ℕ, ◌+◌, ◌/◌, ◌%◌, Bool, List, [], ◌∷◌, ◌++◌, map, filter, ◌==◌, slice_index}
use Rattle.std.specs.Int.{bit_at}
use Rattle.std.specs.List.{range_with_len}

-- is a bit of a byte set; bit 0 is the lowest
abbrev pub bit_set : ℕ → ℕ → Bool
bit_set byte i = bit_at byte i == 1

-- is a bit of a row of bytes set; eight bits are in each
abbrev pub one_at : List ℕ → ℕ → Bool
one_at row t = bit_set (slice_index row (t / 8)) (t % 8)

-- the places of the bits of a byte that are set, rising
unfoldable pub ones_of : ℕ → List ℕ
ones_of byte = filter (bit_set byte) (range_with_len 0 8)

-- the places of the bits of a row of bytes that are set, where its first bit has a place of its own
unfoldable pub ones_from : ℕ → List ℕ → List ℕ
ones_from first [] = []
ones_from first (byte ∷ bytes) = map (λ i. first + i) (ones_of byte) ++ ones_from (first + 8) bytes
