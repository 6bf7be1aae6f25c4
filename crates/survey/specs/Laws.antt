-- What surveys say, in words. Each law stands on the contract of a function of `laws`.
use Rattle.std.specs.Prelude.{◌≡◌, ℕ, ◌+◌, ◌<◌, ◌≤◌, Bool, true, false, cond, ◌&&◌, ◌||◌, List, [], ◌∷◌, ◌++◌, length, count_by, Some, is_some, Ok, Err, ◌↔◌, nat_eq}
use Rattle.std.specs.List.{list_all, sum_by}
use Rattle.std.specs.Option.{option_eq}
use Rattle.text.specs.Texts.{Part, lines, tokens_of}
use Rattle.cores.specs.Counting.{bit}
use Rattle.cores.specs.Site.{Site, Lawful, sized, no_stations}
use Rattle.survey.specs.declared.faults.LineFault.{LineFault}
use Rattle.survey.specs.declared.faults.SurveyFault.TheVariants.{TooLong, NoSize, Line}
use Rattle.survey.specs.Words.{is_comment, is_byte, number_by}
use Rattle.survey.specs.Surveys.{line_read, lines_read, survey_read}
use Rattle.survey.specs.Reports.{line_report}

-- does a word write a number
abbrev pub is_number : Part → Bool
is_number word = is_some (number_by word.bytes)

-- does a word write the number k
abbrev pub writes : ℕ → Part → Bool
writes k word = option_eq nat_eq (number_by word.bytes) (Some k)

-- is a line silent, by its words: it is blank or a comment
abbrev pub is_silent : List Part → Bool
is_silent [] = true
is_silent (first ∷ others) = is_comment first.bytes

-- is a line `S k`, by its words
abbrev pub is_size_line : ℕ → List Part → Bool
is_size_line k (letter ∷ size ∷ []) = is_byte 83 letter.bytes && writes k size
is_size_line k other = false

-- is a line `L a b ..` of two numbers or more, by its words
abbrev pub is_links : List Part → Bool
is_links (letter ∷ a ∷ b ∷ others) = is_byte 76 letter.bytes && list_all is_number (a ∷ b ∷ others)
is_links other = false

-- how often a line `L a ..` names b behind a, by its words; other lines do not
abbrev pub names_behind : ℕ → ℕ → List Part → ℕ
names_behind a b (letter ∷ first ∷ others) = cond (is_byte 76 letter.bytes && writes a first) (count_by (writes b) others) 0
names_behind a b other = 0

-- are all of these lines silent
abbrev pub all_silent : List (List ℕ) → Bool
all_silent ls = list_all (λ line. is_silent (tokens_of line)) ls

-- are all of them silent or `L a b ..`
abbrev pub silent_or_links : List (List ℕ) → Bool
silent_or_links ls = list_all (λ line. is_silent (tokens_of line) || is_links (tokens_of line)) ls

-- how often they name b behind a
abbrev pub names_in : List (List ℕ) → ℕ → ℕ → ℕ
names_in ls a b = sum_by (λ line. names_behind a b (tokens_of line)) ls

-- One of these lines is `S k`: those above it are silent, and those below it are silent or `L a b ..`.
pub record SizedOnce (k : ℕ) (ls : List (List ℕ)) : Type 0 where
  pub above : List (List ℕ)
  pub line : List ℕ
  pub below : List (List ℕ)
  pub cut : ls ≡ above ++ line ∷ below
  pub none_yet : all_silent above ≡ true
  pub size : is_size_line k (tokens_of line) ≡ true
  pub links_then : silent_or_links below ≡ true

-- A text says a site: it is lawful and has 1 to 512 stations, the text has one line `S k` and k is the site's size, and
-- two stations are linked exactly if a line `L ..` names one of them first and the other behind it, once in all lines.
pub record Says (text : List ℕ) (g : Site) : Type 0 where
  pub lawful : Lawful g
  pub in_range : sized g.size ≡ true
  pub size : SizedOnce g.size (lines text)
  pub links : (s t : ℕ) → bit (g.linked s t) ≡ names_in (lines text) s t + names_in (lines text) t s

-- A survey that is accepted says the site that it is read as.
abbrev pub AnAcceptedSurveySaysItsSite : Type 0
AnAcceptedSurveySaysItsSite = (text : List ℕ) (g : Site) → survey_read text ≡ Ok g → Says text g

-- Of lines that go on from a site, and the first of which is the n-th, one is at fault: those before it are read, it is
-- refused on the site that they come to, and it is the line that the report names.
pub record FirstAtFault (n : ℕ) (g : Site) (ls : List (List ℕ)) (fault : LineFault) : Type 0 where
  pub before : List (List ℕ)
  pub line : List ℕ
  pub behind : List (List ℕ)
  pub cut : ls ≡ before ++ line ∷ behind
  pub site : Site
  pub read : lines_read n g before ≡ Ok site
  pub refused : line_read (n + length before) site (tokens_of line) ≡ Err fault
  pub named : (line_report fault).spot.line ≡ n + length before

-- A survey that is refused for a line is right up to the line that its report names.
abbrev pub ARefusedSurveyIsRightUpToTheLineThatIsNamed : Type 0
ARefusedSurveyIsRightUpToTheLineThatIsNamed = (text : List ℕ) (fault : LineFault)
    → survey_read text ≡ Err (Line fault) → FirstAtFault 1 no_stations (lines text) fault

-- A survey is refused with no line named exactly if it is longer than 60,000 bytes, or else if all its lines are silent.
abbrev pub ASurveyIsRefusedWithNoLineIfItIsTooLongOrSilent : Type 0
ASurveyIsRefusedWithNoLineIfItIsTooLongOrSilent = (text : List ℕ)
    → (survey_read text ≡ Err TooLong ↔ 60000 < length text)
    × (survey_read text ≡ Err NoSize ↔ (length text ≤ 60000) × (all_silent (lines text) ≡ true))
