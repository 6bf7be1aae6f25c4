-- What the words of a survey are. Assumes nothing.
use Rattle.std.specs.Prelude.{◌≡◌, ℕ, ◌-◌, Bool, true, false, ◌&&◌, ◌||◌, cond, List, length, drop, Some, None, is_some, Option, ◌==◌, slice_index}
use Rattle.std.specs.Char.{is_ascii_alphabetic}
use Rattle.std.specs.List.{slice_get}
use Rattle.text.specs.Texts.{Part, decimal_of}
use Rattle.survey.specs.declared.word.Word.{Word}
use Rattle.survey.specs.declared.word.Word.TheVariants.{Letter, Number, Comment}

-- do they begin a comment: is the first one a '#'
abbrev pub is_comment : List ℕ → Bool
is_comment bs = slice_index bs 0 == 35

-- are they the byte c and no more
abbrev pub is_byte : ℕ → List ℕ → Bool
is_byte c bs = length bs == 1 && slice_index bs 0 == c

-- are they a letter by itself
abbrev pub is_letter : List ℕ → Bool
is_letter bs = length bs == 1 && is_ascii_alphabetic (slice_index bs 0)

-- the number that they write, by one to three digits
abbrev pub number_by : List ℕ → Option ℕ
number_by bs = decimal_of 3 bs

-- A word is these bytes, which are no comment.
abbrev pub IsWord : Word → List ℕ → Type 0
IsWord (Letter b) bs = (b.now ≡ bs) × (is_letter bs ≡ true)
IsWord (Number b) bs = (b.now ≡ bs) × (is_some (number_by bs) ≡ true)
IsWord (Comment b) bs = ⊥

-- They are no such word.
pub record IsNoWord (bs : List ℕ) : Type 0 where
  pub letter : is_letter bs ≡ false
  pub number : number_by bs ≡ None

-- A word is the first one of a line: a comment goes on to the end of the line.
abbrev pub IsFirst : Word → List ℕ → Part → Type 0
IsFirst (Comment b) line first = (b.now ≡ drop (first.byte - 1) line) × (is_comment first.bytes ≡ true)
IsFirst word line first = IsWord word first.bytes

-- It begins with no word.
pub record IsNoFirst (first : Part) : Type 0 where
  pub comment : is_comment first.bytes ≡ false
  pub others : IsNoWord first.bytes

-- the value of a number; other words have none
abbrev pub number_of : Word → Option ℕ
number_of (Letter b) = None
number_of (Number b) = number_by b.now
number_of (Comment b) = None

-- the first byte of a letter or a comment; a number leads no line
abbrev pub lead_of : Word → Option ℕ
lead_of (Letter b) = slice_get b.now 0
lead_of (Number b) = None
lead_of (Comment b) = slice_get b.now 0

-- the byte that leads a line by its first word, a letter or a comment
abbrev pub lead_by : List ℕ → Option ℕ
lead_by bs = cond (is_comment bs || is_letter bs) (Some (slice_index bs 0)) None
