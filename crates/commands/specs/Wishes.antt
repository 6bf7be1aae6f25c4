-- What a line asks for. Assumes nothing.
use Rattle.std.specs.Prelude.{ℕ, ◌-◌, ◌^◌, List, [], ◌∷◌, map, Some, None, Option, option_and_then, vec_items}
use Rattle.std.specs.Option.{option_map}
use Rattle.text.specs.Texts.{natural_of, tokens_of}
use Rattle.commands.specs.declared.command.BookCall.{BookCall}
use Rattle.commands.specs.declared.command.BookCall.TheVariants.{LayOut as LayingOut, Link as Linking, Unlink as Unlinking, ReadSurvey}
use Rattle.commands.specs.declared.command.Question.{Question}
use Rattle.commands.specs.declared.command.Question.TheVariants.{Numbers as OfNumbers, WriteOut as OfWriting, Draw as OfDrawing, Inspect as OfInspection, Cards as OfCards, Read as OfReading, Put as OfPutting, Tally as OfTally, CheckListed as OfListing, CheckSquare as OfSquare, Choose as OfChoice, Agree as OfAgreement}
use Rattle.commands.specs.declared.command.Command.{Command}
use Rattle.commands.specs.declared.command.Command.TheVariants.{Call, Ask}
use Rattle.commands.specs.declared.command.Tables.{Tables}
use Rattle.commands.specs.declared.scoring.Scoring.{Scoring}
use Rattle.commands.specs.declared.name.Name.{Name}
use Rattle.commands.specs.declared.name.Name.TheVariants.{LayOut, Link, Unlink, Survey, Numbers, WriteOut, Draw, Inspect, Cards, Read, Put, Tally, CheckListed, CheckSquare, Choose, Agree}
use Rattle.commands.specs.Hexadecimals.{decoded}
use Rattle.commands.specs.Names.{named}
use Rattle.commands.specs.Numerals.{numbers_up_to, cut_at_slash}
use Rattle.commands.specs.Rules.{scoring_of}

-- What can be asked for, with lists for what memory holds.
pub data Wish : Type 0 where
  lay_out : (stations : ℕ) → Wish
  link : (a b : ℕ) → Wish
  unlink : (a b : ℕ) → Wish
  survey : (text : List ℕ) → Wish
  numbers : Wish
  write_out : Wish
  draw_struck : (stations : List ℕ) → Wish
  inspect : (sheet : List ℕ) → Wish
  cards : (sheet : List ℕ) → Wish
  read : (sheet : List ℕ) → Wish
  put : (numbers homes ups order : List ℕ) → Wish
  tally : Wish
  check_listed : (starts ends : List ℕ) → Wish
  check_square : (stations : ℕ) (bytes : List ℕ) → Wish
  choose : Scoring → Wish
  agree : (sheet : List ℕ) → Scoring → Wish

-- what a call asks for
abbrev pub wish_of_call : BookCall → Wish
wish_of_call (LayingOut stations) = lay_out stations
wish_of_call (Linking a b) = link a b
wish_of_call (Unlinking a b) = unlink a b
wish_of_call (ReadSurvey text) = survey (vec_items text)

-- what tables ask for
abbrev pub wish_of_tables : Tables → Wish
wish_of_tables t = put (vec_items t.numbers) (vec_items t.homes) (vec_items t.ups) (vec_items t.order)

-- what a question asks for
abbrev pub wish_of_question : Question → Wish
wish_of_question OfNumbers = numbers
wish_of_question OfWriting = write_out
wish_of_question (OfDrawing struck) = draw_struck (vec_items struck)
wish_of_question (OfInspection sheet) = inspect (vec_items sheet)
wish_of_question (OfCards sheet) = cards (vec_items sheet)
wish_of_question (OfReading sheet) = read (vec_items sheet)
wish_of_question (OfPutting tables) = wish_of_tables tables
wish_of_question OfTally = tally
wish_of_question (OfListing starts ends) = check_listed (vec_items starts) (vec_items ends)
wish_of_question (OfSquare stations bytes) = check_square stations (vec_items bytes)
wish_of_question (OfChoice scoring) = choose scoring
wish_of_question (OfAgreement sheet scoring) = agree (vec_items sheet) scoring

-- and a command
abbrev pub wish_of : Command → Wish
wish_of (Call call) = wish_of_call call
wish_of (Ask question) = wish_of_question question

-- of two values, if there are both
abbrev pub both : {A B C : Type 0} → (A → B → C) → Option A → Option B → Option C
both f (Some a) (Some b) = Some (f a b)
both f (Some a) None = None
both f None b = None

-- `lay out N`, `link A B`, `unlink A B`, `survey HEX`, by the words behind the name
abbrev pub called : Name → List (List ℕ) → Option Wish
called LayOut (stations ∷ []) = option_map lay_out (natural_of stations)
called Link (a ∷ b ∷ []) = both link (natural_of a) (natural_of b)
called Unlink (a ∷ b ∷ []) = both unlink (natural_of a) (natural_of b)
called Survey (digits ∷ []) = option_map survey (decoded digits)
called name words = None

-- numbers of at most 65535
abbrev pub entries : List (List ℕ) → Option (List ℕ)
entries words = numbers_up_to 65535 words

-- four tables, if there are all
abbrev pub four : Option (List ℕ) → Option (List ℕ) → Option (List ℕ) → Option (List ℕ) → Option Wish
four (Some a) (Some b) (Some c) (Some d) = Some (put a b c d)
four a b c d = None

-- `A .. / B .. / C .. / D ..`
abbrev pub tables_of : List (List ℕ) → Option Wish
tables_of words =
    option_and_then (λ a. option_and_then (λ b. option_and_then (λ c. four (entries a.0) (entries b.0) (entries c.0) (entries c.1)) (cut_at_slash b.1)) (cut_at_slash a.1)) (cut_at_slash words)

-- `A .. / B ..`
abbrev pub lists_of : List (List ℕ) → Option Wish
lists_of words = option_and_then (λ a. both check_listed (numbers_up_to (2 ^ 32 - 1) a.0) (entries a.1)) (cut_at_slash words)

-- a question, by the words behind its name
abbrev pub asked : Name → List (List ℕ) → Option Wish
asked Numbers [] = Some numbers
asked WriteOut [] = Some write_out
asked Tally [] = Some tally
asked Draw stations = option_map draw_struck (numbers_up_to (2 ^ 64 - 1) stations)
asked Put tables = tables_of tables
asked Choose words = option_map choose (scoring_of words)
asked CheckListed lists = lists_of lists
asked CheckSquare (stations ∷ digits ∷ []) = both check_square (natural_of stations) (decoded digits)
asked Inspect (digits ∷ []) = option_map inspect (decoded digits)
asked Cards (digits ∷ []) = option_map cards (decoded digits)
asked Read (digits ∷ []) = option_map read (decoded digits)
asked Agree (digits ∷ scoring) = both agree (decoded digits) (scoring_of scoring)
asked name words = None

-- a call or a question
abbrev pub wished : Name → List (List ℕ) → Option Wish
wished LayOut words = called LayOut words
wished Link words = called Link words
wished Unlink words = called Unlink words
wished Survey words = called Survey words
wished name words = asked name words

-- the words of a line
abbrev pub words_in : List ℕ → List (List ℕ)
words_in line = map (λ part. part.bytes) (tokens_of line)

-- what a line asks for
abbrev pub wish_in : List ℕ → Option Wish
wish_in line = option_and_then (λ found. wished found.0 found.1) (named (words_in line))
