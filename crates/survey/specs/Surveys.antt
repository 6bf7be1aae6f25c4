-- What a survey says of a site. Assumes nothing.
use Rattle.std.specs.Prelude.{ℕ, ◌+◌, cond, List, [], ◌∷◌, length, Ok, Err, Result, ◌==◌, nat_lt}
use Rattle.std.specs.Option.{ok_or}
use Rattle.std.specs.Result.{result_map_both}
use Rattle.text.specs.Texts.{Part, lines, tokens_of}
use Rattle.cores.specs.Site.{Site, laid_out, no_stations}
use Rattle.cores.specs.Links.{joined}
use Rattle.view.specs.Answers.{counted}
use Rattle.book.specs.Answers.{Answer, link_answer}
use Rattle.survey.specs.declared.faults.Spot.{Spot}
use Rattle.survey.specs.declared.faults.BookFault.{BookFault}
use Rattle.survey.specs.declared.faults.LineFault.{LineFault}
use Rattle.survey.specs.declared.faults.LineFault.TheVariants.{WrongWord, WrongCount, Misplaced, Book}
use Rattle.survey.specs.declared.faults.SurveyFault.{SurveyFault}
use Rattle.survey.specs.declared.faults.SurveyFault.TheVariants.{TooLong, NoSize, Line}
use Rattle.survey.specs.Words.{is_comment, is_byte, number_by}

-- go on with what there is; the first failure ends it
abbrev pub and_then : {A B E : Type 0} → Result A E → (A → Result B E) → Result B E
and_then (Ok x) next = next x
and_then (Err e) next = Err e

-- where a word of the n-th line stands
abbrev pub spot_of : ℕ → Part → Spot
spot_of n word = record { line = n; byte = word.byte }

-- the fault of a word that is not what has to stand there
abbrev pub word_fault : ℕ → Part → LineFault
word_fault n word = WrongWord (spot_of n word)

-- the number that a word of the n-th line has to write
abbrev pub number_in : ℕ → Part → Result ℕ LineFault
number_in n word = ok_or (number_by word.bytes) (word_fault n word)

-- A number of a line: its value, and where it stands.
pub record Numeral : Type 0 where
  pub value : ℕ
  pub spot : Spot

abbrev pub numeral : ℕ → Part → ℕ → Numeral
numeral n word value = record { value = value; spot = spot_of n word }

-- words as numbers, from the left
unfoldable pub numbers : ℕ → List Part → Result (List Numeral) LineFault
numbers n [] = Ok []
numbers n (word ∷ words) = and_then (number_in n word) (λ value. and_then (numbers n words) (λ others. Ok (numeral n word value ∷ others)))

-- what the book answers to a call, with the place of the number that asks for it
abbrev pub placed : Spot → Answer → Result (Unit {0}) BookFault
placed spot answer = result_map_both (λ u. u) (λ refusal. record { spot = spot; refusal = refusal }) answer

-- the site after the call
abbrev pub by_book : Numeral → Answer → Site → Result Site LineFault
by_book asked answer new = result_map_both (λ _. new) Book (placed asked.spot answer)

-- `S n`: there is one number, no site before it, and the book takes the size
abbrev pub size_read : ℕ → Site → List Numeral → Result Site LineFault
size_read n g (size ∷ []) = cond (g.size == 0) (by_book size (counted size.value) (laid_out size.value)) (Err (Misplaced n))
size_read n g others = Err (WrongCount n)

-- a station linked with others in turn
unfoldable pub linked_with : ℕ → Site → List Numeral → Result Site LineFault
linked_with a g [] = Ok g
linked_with a g (b ∷ others) = and_then (by_book b (link_answer g a b.value) (joined g a b.value)) (λ h. linked_with a h others)

-- `L a b ..`: there are at least two numbers, a site before them, and the book takes each link
abbrev pub links_read : ℕ → Site → List Numeral → Result Site LineFault
links_read n g (a ∷ b ∷ others) = cond (g.size == 0) (Err (Misplaced n)) (linked_with a.value g (b ∷ others))
links_read n g others = Err (WrongCount n)

-- the site after the n-th line, by its words: it is blank, a comment, `S n` or `L a b ..`
abbrev pub line_read : ℕ → Site → List Part → Result Site LineFault
line_read n g [] = Ok g
line_read n g (letter ∷ words) =
    cond (is_comment letter.bytes) (Ok g)
    (cond (is_byte 83 letter.bytes) (and_then (numbers n words) (size_read n g))
    (cond (is_byte 76 letter.bytes) (and_then (numbers n words) (links_read n g))
    (Err (word_fault n letter))))

-- the site after lines, the first of which is the n-th
unfoldable pub lines_read : ℕ → Site → List (List ℕ) → Result Site SurveyFault
lines_read n g [] = Ok g
lines_read n g (line ∷ others) = and_then (result_map_both (λ h. h) Line (line_read n g (tokens_of line))) (λ h. lines_read (n + 1) h others)

-- there has to be a site in the end
abbrev pub some_site : Site → Result Site SurveyFault
some_site g = cond (g.size == 0) (Err NoSize) (Ok g)

-- the site of a text of at most 60,000 bytes
abbrev pub survey_read : List ℕ → Result Site SurveyFault
survey_read text = cond (nat_lt 60000 (length text)) (Err TooLong) (and_then (lines_read 1 no_stations (lines text)) some_site)
