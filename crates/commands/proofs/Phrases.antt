-- Words that are compared where they stand, and the scoring rules that they name.
use Rattle.std.proofs.Common.{◌≡◌, ℕ, ◌+◌, ◌-◌, Bool, true, false, cond, not, arith, ◌&&◌, eqb, List, [], ◌∷◌, length, take, drop, codes, Bor, Some, None, Option, refl, sym, ap, ◌∙◌}
use Rattle.std.specs.Cmp.Lexicographic.{pointwise}
use Rattle.std.specs.List.{position_or_len}
use Rattle.std.specs.Option.{option_map}
use Rattle.std.proofs.lemmas.List.{take-map, drop-map, take_all, length-drop, length-map}
use Rattle.commands.specs.Numerals.{bytes_of, is_slash, cut_at}
use Rattle.commands.specs.Rules.{net_of, same_words, scoring_of}
use Rattle.commands.specs.declared.scoring.Scoring.TheVariants.{Net as ByNet, NetThenAverage}

-- words are the same if their bytes are
same_as : (xs ys : List (Bor (List ℕ))) → pointwise (λ (x y : Bor (List ℕ)). pointwise eqb x.now y.now) xs ys ≡ same_words (bytes_of xs) (bytes_of ys)
same_as [] [] = refl
same_as [] (y ∷ ys) = refl
same_as (x ∷ xs) [] = refl
same_as (x ∷ xs) (y ∷ ys) = ap (λ (b : Bool). pointwise eqb x.now y.now && b) (same_as xs ys)

pub judged : (xs ys : List (Bor (List ℕ))) (b : Bool) → pointwise (λ (x y : Bor (List ℕ)). pointwise eqb x.now y.now) xs ys ≡ b → same_words (bytes_of xs) (bytes_of ys) ≡ b
judged xs ys b h = sym (same_as xs ys) ∙ h

-- what is left once `average`, and then `average then ..`, are ruled out
module _ (words : List (Bor (List ℕ))) (alone : same_words (bytes_of words) (codes "average" ∷ []) ≡ false)
    (first : same_words (bytes_of (take 2 words)) (codes "average" ∷ codes "then" ∷ []) ≡ false) where
  pub net_then_average : (net : List (Bor (List ℕ))) → same_words (bytes_of (drop (length words - 2) words)) (codes "then" ∷ codes "average" ∷ []) ≡ true → net ≡ take (length words - 2) words
      → scoring_of (bytes_of words) ≡ option_map NetThenAverage (net_of (bytes_of net))
  net_then_average net last is =
      let long = length-map words (λ (w : Bor (List ℕ)). w.now) in
      rw (is, alone, take-map (λ (w : Bor (List ℕ)). w.now) 2 words, first, long, drop-map, last, take-map) refl

  pub net_alone : same_words (bytes_of (drop (length words - 2) words)) (codes "then" ∷ codes "average" ∷ []) ≡ false → scoring_of (bytes_of words) ≡ option_map ByNet (net_of (bytes_of words))
  net_alone last = let long = length-map words (λ (w : Bor (List ℕ)). w.now) in rw (alone, take-map (λ (w : Bor (List ℕ)). w.now) 2 words, first, long, drop-map, last) refl

-- where there is no net gain, there is no rule of it
pub none_of_none : {X Y : Type 0} (f : X → Y) (o : Option X) (r : Option Y) → r ≡ option_map f o → o ≡ None → r ≡ None
none_of_none f o r is none = is ∙ ap (option_map f) none

-- where the first `/` stands
pub slash_there : (words : List (Bor (List ℕ))) → position_or_len (λ (word : Bor (List ℕ)). is_slash word.now) words ≡ position_or_len is_slash (bytes_of words)
slash_there [] = refl
slash_there (word ∷ words) = ap (λ n. cond (not (is_slash word.now)) (1 + n) 0) (slash_there words)

-- the words before and behind a place
pub cut_there : (words : List (Bor (List ℕ))) (i : ℕ)
    → cut_at (bytes_of words) (Some i) ≡ Some (bytes_of (take i words), bytes_of (take (length words - (i + 1)) (drop (i + 1) words)))
cut_there words i =
    let f = λ (word : Bor (List ℕ)). word.now in
    let all : take (length words - (i + 1)) (drop (i + 1) words) ≡ drop (i + 1) words = take_all _ _ (omega (arith, length-drop (i + 1) words)) in
    rw (take-map f i words, drop-map f (i + 1) words, all) refl
