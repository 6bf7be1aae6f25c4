-- The fields of a sheet, read from the left, up to the first at fault. Assumes nothing.
use Rattle.std.specs.Prelude.{ℕ, Bool, cond, not, ◌&&◌, List, [], ◌∷◌, Some, None, Ok, Err, Option, Result, ◌==◌, nat_lt}
use Rattle.std.specs.Int.{w16, from_le_bytes, bit_at}
use Rattle.sheet.specs.declared.entry.Present.{Present}

-- What is read from the front of some bytes: a value and the bytes behind it, or the bytes from the field at fault on, which are none where they are cut.
abbrev pub Reading : Type 0 → Type 0
Reading A = Result (A × List ℕ) (List ℕ)

-- one field after the other, up to the first at fault
infixl 10 ◌>>=◌
abbrev pub ◌>>=◌ : {A B : Type 0} → Reading A → (A × List ℕ → Reading B) → Reading B
(Ok r) >>= f = f r
(Err bytes) >>= f = Err bytes

-- two bytes, the low one first
unfoldable pub word_at : List ℕ → Reading ℕ
word_at [] = Err []
word_at (low ∷ []) = Err []
word_at (low ∷ high ∷ rest) = Ok (from_le_bytes w16 (low ∷ high ∷ []), rest)

-- a field that passes a test
unfoldable pub field_at : (ℕ → Bool) → List ℕ → Reading ℕ
field_at p bytes = do
  word ← word_at bytes
  cond (p word.0) (Ok word) (Err bytes)

-- is a bit of a map byte set
abbrev pub is_set : ℕ → ℕ → Bool
is_set k m = bit_at m k == 1

-- a map byte has bits 1 and 2 not both, and bits 3 to 7 clear
unfoldable pub is_map : ℕ → Bool
is_map m = nat_lt m 8 && not (is_set 1 m && is_set 2 m)

-- which fields a map byte says are present: bit 0 a number, bit 1 a home, bit 2 an up
unfoldable pub fields_of : ℕ → Present
fields_of m = record { number = is_set 0 m; home = is_set 1 m; up = is_set 2 m }

-- a map byte
unfoldable pub map_at : List ℕ → Reading Present
map_at [] = Err []
map_at (m ∷ rest) = cond (is_map m) (Ok (fields_of m, rest)) (Err (m ∷ rest))

-- a field that is left out for its usual value, on a sheet of n stations
unfoldable pub value_at : ℕ → ℕ → Bool → List ℕ → Reading ℕ
value_at n usual present bytes = cond present (field_at (λ v. nat_lt v n && not (v == usual)) bytes) (Ok (usual, bytes))

-- an up, if one is present
unfoldable pub up_at : ℕ → Bool → List ℕ → Reading (Option ℕ)
up_at n present bytes = cond present (field_at (λ u. nat_lt u n) bytes >>= λ u. Ok (Some u.0, u.1)) (Ok (None, bytes))
