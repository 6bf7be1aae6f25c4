-- Lists of numbers. Assumes nothing.
use Rattle.std.specs.Prelude.{ℕ, ◌+◌, Bool, List, [], ◌∷◌, map, take, drop, codes, Some, None, Option}
use Rattle.std.specs.List.{position}
use Rattle.std.specs.Str.{bytes_eq}
use Rattle.std.specs.Borrow.{Bor}
use Rattle.text.specs.Texts.{number_up_to}

-- the words of a list of them
abbrev pub bytes_of : List (Bor (List ℕ)) → List (List ℕ)
bytes_of words = map (λ (word : Bor (List ℕ)). word.now) words

-- a value in front of a list, if there are both
abbrev pub before : {X : Type 0} → Option X → Option (List X) → Option (List X)
before (Some x) (Some xs) = Some (x ∷ xs)
before (Some x) None = None
before None r = None

-- the numbers that words write, none of them more than `most`
unfoldable pub numbers_up_to : ℕ → List (List ℕ) → Option (List ℕ)
numbers_up_to most [] = Some []
numbers_up_to most (word ∷ words) = before (number_up_to most word) (numbers_up_to most words)

-- a `/`
abbrev pub is_slash : List ℕ → Bool
is_slash word = bytes_eq word (codes "/")

-- what stands in front of a place, and what stands behind it
abbrev pub cut_at : List (List ℕ) → Option ℕ → Option (List (List ℕ) × List (List ℕ))
cut_at words (Some i) = Some (take i words, drop (i + 1) words)
cut_at words None = None

-- the words in front of the first `/`, and those behind it
abbrev pub cut_at_slash : List (List ℕ) → Option (List (List ℕ) × List (List ℕ))
cut_at_slash words = cut_at words (position is_slash words)
