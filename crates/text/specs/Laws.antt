use Rattle.std.specs.Prelude.{◌≡◌, ℕ, ◌+◌, ◌-◌, ◌<◌, Bool, true, cond, not, List, [], ◌∷◌, ◌++◌, length, take, drop, filter, ◌==◌, ◌≢◌, slice_index}
use Rattle.std.specs.List.{flat_map, All}
use Rattle.text.specs.Texts.{lines, Part, tokens_of}

-- None of these bytes is z.
abbrev pub Without : ℕ → List ℕ → Type 0
Without z bs = All (λ b. b ≢ z) bs

-- No line of a text holds an LF.
abbrev pub LinesHoldNoEnd : Type 0
LinesHoldNoEnd = (text : List ℕ) → All (Without 10) (lines text)

-- Lines one after the other, with an LF after each.
abbrev pub written : List (List ℕ) → List ℕ
written ls = flat_map (λ line. line ++ 10 ∷ []) ls

-- The last byte is an LF; `ended` says it of the byte before.
unfoldable pub closed : Bool → List ℕ → Bool
closed ended [] = ended
closed ended (b ∷ bs) = closed (b == 10) bs

-- The lines of a text, written, are the text if it is empty or closed by an LF, and else the text and one LF.
abbrev pub LinesAreTheText : Type 0
LinesAreTheText = (text : List ℕ) → written (lines text) ≡ cond (closed true text) text (text ++ 10 ∷ [])

-- A word stands whole in a line: its bytes, at least one and none a space, are those of the line from its byte on,
-- what is before them is a space or the line's start, and what is after them is a space or its end.
pub record Stands (line : List ℕ) (p : Part) : Type 0 where
  pub counted : 0 < p.byte
  pub some : 0 < length p.bytes
  pub clear : Without 32 p.bytes
  pub there : take (length p.bytes) (drop (p.byte - 1) line) ≡ p.bytes
  pub before : 1 < p.byte → slice_index line (p.byte - 2) ≡ 32
  pub after : p.byte - 1 + length p.bytes < length line → slice_index line (p.byte - 1 + length p.bytes) ≡ 32

-- Each word of a line stands whole in it.
abbrev pub TokensStand : Type 0
TokensStand = (line : List ℕ) → All (Stands line) (tokens_of line)

-- Each word begins past the place n, and each further one past the byte behind the word before it.
abbrev pub Rising : ℕ → List Part → Type 0
Rising n [] = Unit {0}
Rising n (p ∷ ps) = (n < p.byte) × Rising (p.byte + length p.bytes) ps

-- The words of a line come in order, with a byte or more between two.
abbrev pub TokensRise : Type 0
TokensRise = (line : List ℕ) → Rising 0 (tokens_of line)

-- The bytes of the words one after the other are those of the line that are no space.
abbrev pub TokensAreAll : Type 0
TokensAreAll = (line : List ℕ) → flat_map (λ p. p.bytes) (tokens_of line) ≡ filter (λ b. not (b == 32)) line
