-- A list of numbers, word by word.
use Rattle.std.proofs.Common.{◌≡◌, ℕ, ◌+◌, ◌≤◌, List, [], ◌∷◌, ◌++◌, length, drop, Option, Some, None, Err, IsErrAnd, Result, refl, sym, ap, ◌∙◌, append_assoc, append-nil}
use Rattle.std.proofs.lemmas.List.{drop_all}
use Rattle.std.proofs.lemmas.Result.{err_from_is_err_and}
use Rattle.std.specs.Borrow.{Bor}
use Rattle.text.specs.Texts.{number_up_to}
use Rattle.commands.specs.declared.unread.Unread.{Unread}
use Rattle.commands.specs.declared.unread.Unread.TheVariants.{NotUnderstood, NoMemory}
use Rattle.commands.specs.Meanings.{Meant, Understood}
use Rattle.commands.specs.Numerals.{before, numbers_up_to, bytes_of}

-- numbers behind those that were read in front of them
abbrev pub with_front : List ℕ → Option (List ℕ) → Option (List ℕ)
with_front front (Some later) = Some (front ++ later)
with_front front None = None

front_more : (front : List ℕ) (x : ℕ) (later : Option (List ℕ)) → with_front front (before (Some x) later) ≡ with_front (front ++ x ∷ []) later
front_more front x (Some later) = ap Some (sym (append_assoc front (x ∷ []) later))
front_more front x None = refl

pub front_none : (later : Option (List ℕ)) → with_front [] later ≡ later
front_none (Some later) = refl
front_none None = refl

-- what is understood by what leaves a lack as it is
pub lack_stays : {X Y : Type 0} (m : Option X) (n : Option Y) → (m ≡ None → n ≡ None) → (e : Unread) → Understood m (Err e) → Understood n (Err e)
lack_stays m n lacks NotUnderstood h = lacks h
lack_stays m n lacks NoMemory h = elim h [ ]

-- what is understood is what is meant
pub meant : {X : Type 0} (m : Option X) (e : Unread) → Understood m (Err e) → Meant m (Err e)
meant m NotUnderstood h = h
meant m NoMemory h = tt

-- what the exit of a `?` answers
pub exit : {X : Type 0} (r : Result X Unread) (e : Unread) → IsErrAnd r (λ y. y ≡ e) → r ≡ Err e
exit r e h = let p = err_from_is_err_and r h in p.1 ∙ ap Err p.2

module _ (most : ℕ) (words : List (Bor (List ℕ))) (i : ℕ) where
  -- one word more is read
  pub read_on : (word : Bor (List ℕ)) (x : ℕ) (front : List ℕ) → drop i words ≡ word ∷ drop (i + 1) words → number_up_to most word.now ≡ Some x
      → with_front front (numbers_up_to most (bytes_of (drop i words))) ≡ with_front (front ++ x ∷ []) (numbers_up_to most (bytes_of (drop (i + 1) words)))
  unfolding numbers_up_to
  read_on word x front next read = rw (next, read) (front_more front x (numbers_up_to most (bytes_of (drop (i + 1) words))))

  -- a word is no number
  pub read_off : (word : Bor (List ℕ)) (front : List ℕ) → drop i words ≡ word ∷ drop (i + 1) words → number_up_to most word.now ≡ None
      → with_front front (numbers_up_to most (bytes_of (drop i words))) ≡ None
  unfolding numbers_up_to
  read_off word front next none = rw (next, none) refl

  -- no word is left
  pub all_read : (front : List ℕ) → length words ≤ i → with_front front (numbers_up_to most (bytes_of (drop i words))) ≡ Some front
  unfolding numbers_up_to
  all_read front h = rw (drop_all i words h) (ap Some (append-nil front))
