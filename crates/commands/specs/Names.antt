-- The words that commands begin with. Assumes nothing.
use Rattle.std.specs.Prelude.{ℕ, cond, List, [], ◌∷◌, length, take, drop, codes, Some, None, Option}
use Rattle.commands.specs.Rules.{same_words}
use Rattle.commands.specs.declared.name.Name.{Name}
use Rattle.commands.specs.declared.name.Name.TheVariants.{LayOut, Link, Unlink, Survey, Numbers, WriteOut, Draw, Inspect, Cards, Read, Put, Tally, CheckListed, CheckSquare, Choose, Agree}

-- the words of a name
abbrev pub phrase_of : Name → List (List ℕ)
phrase_of LayOut = codes "lay" ∷ codes "out" ∷ []
phrase_of Link = codes "link" ∷ []
phrase_of Unlink = codes "unlink" ∷ []
phrase_of Survey = codes "survey" ∷ []
phrase_of Numbers = codes "numbers" ∷ []
phrase_of WriteOut = codes "write" ∷ codes "out" ∷ []
phrase_of Draw = codes "draw" ∷ codes "struck" ∷ []
phrase_of Inspect = codes "inspect" ∷ []
phrase_of Cards = codes "cards" ∷ []
phrase_of Read = codes "read" ∷ []
phrase_of Put = codes "put" ∷ []
phrase_of Tally = codes "tally" ∷ []
phrase_of CheckListed = codes "check" ∷ codes "listed" ∷ []
phrase_of CheckSquare = codes "check" ∷ codes "square" ∷ []
phrase_of Choose = codes "choose" ∷ []
phrase_of Agree = codes "agree" ∷ []

-- all names
abbrev pub all_names : List Name
all_names = LayOut ∷ Link ∷ Unlink ∷ Survey ∷ Numbers ∷ WriteOut ∷ Draw ∷ Inspect ∷ Cards ∷ Read ∷ Put ∷ Tally ∷ CheckListed ∷ CheckSquare ∷ Choose ∷ Agree ∷ []

-- the words behind a phrase, if some words begin with it
abbrev pub behind : List (List ℕ) → List (List ℕ) → Option (List (List ℕ))
behind phrase words = cond (same_words (take (length phrase) words) phrase) (Some (drop (length phrase) words)) None

-- what is found, or else the other
abbrev pub found_or : Name → Option (List (List ℕ)) → Option (Name × List (List ℕ)) → Option (Name × List (List ℕ))
found_or name (Some words) other = Some (name, words)
found_or name None other = other

-- the first of some names that words begin with, and the words behind it
unfoldable pub named_in : List Name → List (List ℕ) → Option (Name × List (List ℕ))
named_in [] words = None
named_in (name ∷ others) words = found_or name (behind (phrase_of name) words) (named_in others words)

-- the name that words begin with, and the words behind it
abbrev pub named : List (List ℕ) → Option (Name × List (List ℕ))
named words = named_in all_names words
