use Rattle.std.specs.Prelude.{◌≡◌, ℕ, ◌+◌, ◌-◌, ◌<◌, ◌≤◌, true, List, [], ◌∷◌, length, drop, Option, MatchOption}
use Rattle.std.specs.Borrow.{Bor}
use Rattle.text.specs.declared.cut.Lines.{Lines}
use Rattle.text.specs.declared.cut.Token.{Token}
use Rattle.text.specs.declared.cut.Tokens.{Tokens}
use Rattle.text.specs.Texts.{lines, Part, tokens}

-- The lines that are still to come.
abbrev pub lines_left : Lines → List (List ℕ)
lines_left s = lines s.rest.now

-- How many bytes are still to be read.
abbrev pub unread : Lines → ℕ
unread s = length s.rest.now

-- There is no line left, and nothing has changed.
pub record NoLine (before after : Lines) : Type 0 where
  pub done : lines_left before ≡ []
  pub same : after ≡ before

-- `line` was the next one, and it is read.
pub record NextLine (before after : Lines) (line : List ℕ) : Type 0 where
  pub cut : lines_left before ≡ line ∷ lines_left after
  pub shorter : unread after < unread before
  pub shared : length line + unread after ≤ unread before

-- A call of `next` gave the next line, or none was left.
abbrev pub GivesLine : Lines → Option (Bor (List ℕ)) → Lines → Type 0
GivesLine before given after = MatchOption given (NoLine before after) (λ line. NextLine before after line.now)

-- The words of a line from an index on.
abbrev pub tokens_at : List ℕ → ℕ → List Part
tokens_at line at = tokens true (at + 1) (drop at line)

-- The words that are still to come.
abbrev pub tokens_left : Tokens → List Part
tokens_left s = tokens_at s.line.now s.at

-- How many bytes of the line are still to be read.
abbrev pub unread_of : Tokens → ℕ
unread_of s = length s.line.now - s.at

-- What a token tells of its line.
abbrev pub part_of : Token → Part
part_of t = record { byte = t.byte; bytes = t.bytes.now }

-- There is no word left, and nothing has changed.
pub record NoToken (before after : Tokens) : Type 0 where
  pub done : tokens_left before ≡ []
  pub same : after ≡ before

-- `token` was the next word, and it is read.
pub record NextToken (before after : Tokens) (token : Token) : Type 0 where
  pub cut : tokens_left before ≡ part_of token ∷ tokens_left after
  pub shorter : unread_of after < unread_of before

-- A call of `next` gave the next word, or none was left.
abbrev pub GivesToken : Tokens → Option Token → Tokens → Type 0
GivesToken before given after = MatchOption given (NoToken before after) (λ token. NextToken before after token)
