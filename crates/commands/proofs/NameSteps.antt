-- Names that are tried one after the other.
use Rattle.std.proofs.Common.{◌≡◌, ℕ, ◌+◌, ◌≤◌, Bool, true, false, cond, List, ◌∷◌, length, take, drop, Bor, Some, None, refl}
use Rattle.std.specs.Bool.{then_some}
use Rattle.std.specs.Option.{option_map}
use Rattle.std.proofs.lemmas.List.{drop_all, take-map, drop-map, length-map}
use Rattle.commands.specs.Numerals.{bytes_of}
use Rattle.commands.specs.Rules.{same_words}
use Rattle.commands.specs.Names.{behind, named_in, phrase_of}
use Rattle.commands.specs.declared.name.Name.{Name}

module _ (words phrase : List (Bor (List ℕ))) where
  -- words that begin with a phrase or not
  pub cut_off : (front others : List (Bor (List ℕ))) (b : Bool) → front ≡ take (length phrase) words → others ≡ drop (length phrase) words → same_words (bytes_of front) (bytes_of phrase) ≡ b
      → behind (bytes_of phrase) (bytes_of words) ≡ cond b (Some (bytes_of others)) None
  cut_off front others b is_front is_others same =
      let f = λ (w : Bor (List ℕ)). w.now in
      let long = length-map phrase f in
      let there : same_words (take (length phrase) (bytes_of words)) (bytes_of phrase) ≡ b = rw (is_front, ← take-map f (length phrase) words) at same in
      rw (long, there, is_others, ← drop-map f (length phrase) words) refl

-- what is given where a test passes
pub given : (b : Bool) (words : Bor (List (Bor (List ℕ)))) → option_map (λ (w : Bor (List (Bor (List ℕ)))). bytes_of w.now) (then_some b words) ≡ cond b (Some (bytes_of words.now)) None
given true words = refl
given false words = refl

module _ (names : List Name) (words : List (List ℕ)) (i : ℕ) (name : Name) (next : drop i names ≡ name ∷ drop (i + 1) names) where
  -- a name that does not fit is passed over
  pub try_off : behind (phrase_of name) words ≡ None → named_in (drop i names) words ≡ named_in (drop (i + 1) names) words
  unfolding named_in
  try_off none = rw (next, none) refl

  -- and one that fits is found
  pub try_on : (others : List (List ℕ)) → behind (phrase_of name) words ≡ Some others → named_in (drop i names) words ≡ Some (name, others)
  unfolding named_in
  try_on others some = rw (next, some) refl

-- no name is left
pub none_fits : (names : List Name) (words : List (List ℕ)) (i : ℕ) → length names ≤ i → named_in (drop i names) words ≡ None
unfolding named_in
none_fits names words i h = rw (drop_all i names h) refl
