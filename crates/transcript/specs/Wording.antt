-- The lines of the walkthrough, byte by byte. Assumes nothing.
use Rattle.std.specs.Prelude.{ℕ, List, [], ◌∷◌, ◌++◌, ◌/◌, ◌%◌, length, false, codes, decimal, Option, Some, None, Ok, Err}
use Rattle.std.specs.Fmt.{digit_glyph}
use Rattle.std.specs.List.{flat_map}
use Rattle.refusals.specs.Refusals.{refusal_line}
use Rattle.transcript.specs.declared.lines.Line.{Line}
use Rattle.transcript.specs.declared.lines.Moved.{Moved}
use Rattle.transcript.specs.declared.lines.Line.TheVariants.{Heading, Row, Verdict, Linked, LinkRefused, Struck, NoStation, Removed, Station, Sheet, Inspected, Cards, Level}

-- ` a b c`: a space before each
abbrev pub listed : List ℕ → List ℕ
listed neighbours = flat_map (λ t. codes " " ++ decimal t) neighbours

-- `S K->L`
abbrev pub movement : Moved → List ℕ
movement moved = decimal moved.station ++ (codes " " ++ (decimal moved.from ++ (codes "->" ++ decimal moved.to)))

-- `, T M->N`: a comma before each
abbrev pub others_moved : List Moved → List ℕ
others_moved others = flat_map (λ moved. codes ", " ++ movement moved) others

-- `moved S K->L, T M->N`, or `nobody moved`
abbrev pub movements : List Moved → List ℕ
movements [] = codes "nobody moved"
movements (first ∷ others) = codes "moved " ++ (movement first ++ others_moved others)

-- the number of an up, or `-`
abbrev pub up_or_dash : Option ℕ → List ℕ
up_or_dash (Some up) = decimal up
up_or_dash None = codes "-"

-- `0a`: the digit of a byte's sixteens, then that of its ones, in lower case
abbrev pub hexadecimal : ℕ → List ℕ
hexadecimal byte = digit_glyph false (byte / 16) ∷ digit_glyph false (byte % 16) ∷ []

-- ` 01 0a ff`: a space before each
abbrev pub in_hexadecimal : List ℕ → List ℕ
in_hexadecimal bytes = flat_map (λ byte. codes " " ++ hexadecimal byte) bytes

-- `L bytes: 01 0a ff`
abbrev pub counted_bytes : List ℕ → List ℕ
counted_bytes bytes = decimal (length bytes) ++ (codes " bytes:" ++ in_hexadecimal bytes)

-- `table of N stations, E ends`, `row S: a b c`, `lawful: N stations, K links`, or the line of a refusal;
-- `link A B: moved S K->L, T M->N`, `link A B: nobody moved`, or `link A B: ` and the line of a refusal; `struck S`, `argument A: not a station`, `removed S with D left`, `station S number K home H up U`, `sheet L bytes: 01 0a ff`;
-- `inspected: passed`, or `inspected: ` and the line of a refusal; `cards L bytes: 01 0a ff`; `level K: M members, I inside, B boundary`
abbrev pub told : Line → List ℕ
told (Heading stations ends) = codes "table of " ++ (decimal stations ++ (codes " stations, " ++ (decimal ends ++ codes " ends")))
told (Row station neighbours) = codes "row " ++ (decimal station ++ (codes ":" ++ listed neighbours.now))
told (Verdict (Ok extent)) = codes "lawful: " ++ (decimal extent.stations ++ (codes " stations, " ++ (decimal extent.links ++ codes " links")))
told (Verdict (Err refusal)) = refusal_line refusal
told (Linked a b moved) = codes "link " ++ (decimal a ++ (codes " " ++ (decimal b ++ (codes ": " ++ movements moved.now))))
told (LinkRefused a b refusal) = codes "link " ++ (decimal a ++ (codes " " ++ (decimal b ++ (codes ": " ++ refusal_line refusal))))
told (Struck station) = codes "struck " ++ decimal station
told (NoStation argument) = codes "argument " ++ (decimal argument ++ codes ": not a station")
told (Removed station left) = codes "removed " ++ (decimal station ++ (codes " with " ++ (decimal left ++ codes " left")))
told (Station station number home up) = codes "station " ++ (decimal station ++ (codes " number " ++ (decimal number ++ (codes " home " ++ (decimal home ++ (codes " up " ++ up_or_dash up))))))
told (Sheet bytes) = codes "sheet " ++ counted_bytes bytes.now
told (Inspected (Ok u)) = codes "inspected: passed"
told (Inspected (Err refusal)) = codes "inspected: " ++ refusal_line refusal
told (Cards bytes) = codes "cards " ++ counted_bytes bytes.now
told (Level level members inside boundary) = codes "level " ++ (decimal level ++ (codes ": " ++ (decimal members ++ (codes " members, " ++ (decimal inside ++ (codes " inside, " ++ (decimal boundary ++ codes " boundary")))))))
