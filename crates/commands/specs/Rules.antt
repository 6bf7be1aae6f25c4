-- The scoring rules that words name. Assumes nothing.
use Rattle.std.specs.Prelude.{ℕ, ◌-◌, Bool, cond, List, [], ◌∷◌, length, take, drop, codes, Some, None, Option}
use Rattle.std.specs.Option.{option_map}
use Rattle.std.specs.Str.{bytes_eq}
use Rattle.std.specs.Cmp.Lexicographic.{pointwise}
use Rattle.text.specs.Texts.{number_up_to}
use Rattle.rules.specs.declared.net.Net.{Net}
use Rattle.commands.specs.declared.scoring.Scoring.{Scoring}
use Rattle.commands.specs.declared.scoring.Scoring.TheVariants.{Average, Net as ByNet, AverageThenNet, NetThenAverage}

-- a weight: a number of at most 65535
abbrev pub weight : List ℕ → Option ℕ
weight word = number_up_to 65535 word

-- the net gain with three weights, if there are all
abbrev pub weighed : Option ℕ → Option ℕ → Option ℕ → Option Net
weighed (Some gain) (Some boundary) (Some member) = Some (record { inside_gain = gain; boundary_cost = boundary; member_cost = member })
weighed p q r = None

-- `net P Q R`
abbrev pub net_of : List (List ℕ) → Option Net
net_of (net ∷ gain ∷ boundary ∷ member ∷ []) = cond (bytes_eq net (codes "net")) (weighed (weight gain) (weight boundary) (weight member)) None
net_of words = None

-- the same words
abbrev pub same_words : List (List ℕ) → List (List ℕ) → Bool
same_words words others = pointwise bytes_eq words others

-- `average`, `average then net P Q R`, `net P Q R then average`, or `net P Q R`
abbrev pub scoring_of : List (List ℕ) → Option Scoring
scoring_of words =
    cond (same_words words (codes "average" ∷ [])) (Some Average)
    (cond (same_words (take 2 words) (codes "average" ∷ codes "then" ∷ [])) (option_map AverageThenNet (net_of (drop 2 words)))
    (cond (same_words (drop (length words - 2) words) (codes "then" ∷ codes "average" ∷ [])) (option_map NetThenAverage (net_of (take (length words - 2) words)))
    (option_map ByNet (net_of words))))
