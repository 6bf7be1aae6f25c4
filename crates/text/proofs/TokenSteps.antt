-- The words of a line, one after the other.
use Rattle.std.proofs.Common.{◌≡◌, ℕ, suc, ◌+◌, ◌-◌, ◌<◌, Bool, true, false, not, eqb, List, [], ◌∷◌, length, get_or, take, drop, sym, refl, ap, ◌∙◌, arith, Some, None}
use Rattle.std.specs.List.{position, position_or_len, before_first}
use Rattle.std.proofs.lemmas.List.{take_rest, get_or-drop, length-drop, drop-drop}
use Rattle.std.proofs.lemmas.List.Quantifiers.{position-Some}
use Rattle.std.proofs.lemmas.List.Sums.{prefix_len-le-length}
use Rattle.std.proofs.lemmas.Bool.Decides.{nat_tests}
use Rattle.std.proofs.lemmas.Grind.{common_steps}
use Rattle.std.proofs.lemmas.Option.{cond_some}
use Rattle.text.specs.Texts.{tokens}
use Rattle.text.proofs.Fronts.{by_cases, one_on}

-- The bytes in front of the first space.
unfoldable pub word : List ℕ → List ℕ
word bs = before_first (λ b. eqb b 32) bs

pub at_space : (p : Bool) (at b : ℕ) (bs : List ℕ) → eqb b 32 ≡ true → tokens p at (b ∷ bs) ≡ tokens true (at + 1) bs
unfolding tokens
at_space p at b bs e = rw e

pub at_word : (at b : ℕ) (bs : List ℕ) → eqb b 32 ≡ false → tokens true at (b ∷ bs) ≡ record { byte = at; bytes = word (b ∷ bs) } ∷ tokens false (at + 1) bs
unfolding tokens word
at_word at b bs e = rw e

pub in_word : (at b : ℕ) (bs : List ℕ) → eqb b 32 ≡ false → tokens false at (b ∷ bs) ≡ tokens false (at + 1) bs
unfolding tokens
in_word at b bs e = rw e

-- What is behind n bytes is behind one byte more if one stands in front.
one_later : (at b : ℕ) (bs : List ℕ) (n : ℕ) → tokens true (at + 1 + n) (drop n bs) ≡ tokens true (at + suc n) (drop (suc n) (b ∷ bs))
one_later at b bs n = let k : at + 1 + n ≡ at + suc n = omega arith in ap (λ m. tokens true m (drop n bs)) k

-- Where the first place is 0, all is still there.
none_later : (at n : ℕ) (w : List ℕ) → n ≡ 0 → tokens true at w ≡ tokens true (at + n) (drop n w)
none_later at n w z = let k : at ≡ at + 0 = omega arith in rw z (ap (λ m. tokens true m w) k)

-- Spaces are passed over.
skipped : (at : ℕ) (w : List ℕ) → tokens true at w ≡ tokens true (at + position_or_len (λ b. not (eqb b 32)) w) (drop (position_or_len (λ b. not (eqb b 32)) w) w)
unfolding tokens
skipped at [] = refl
skipped at (b ∷ bs) =
    let n = position_or_len (λ c. not (eqb c 32)) bs in
    by_cases (eqb b 32)
    (λ e. at_space true at b bs e ∙ skipped (at + 1) bs ∙ one_later at b bs n ∙ ap (λ m. tokens true (at + m) (drop m (b ∷ bs))) (sym (one_on (λ c. not (eqb c 32)) b bs (rw e))))
    (λ e. none_later at (position_or_len (λ c. not (eqb c 32)) (b ∷ bs)) (b ∷ bs) (rw e))

-- Inside a word no other begins.
past_word : (at : ℕ) (w : List ℕ) → tokens false at w ≡ tokens true (at + position_or_len (λ b. eqb b 32) w) (drop (position_or_len (λ b. eqb b 32) w) w)
unfolding tokens
past_word at [] = refl
past_word at (b ∷ bs) =
    let n = position_or_len (λ c. eqb c 32) bs in
    by_cases (eqb b 32)
    (λ e. at_space false at b bs e ∙ sym (at_space true at b bs e) ∙ none_later at (position_or_len (λ c. eqb c 32) (b ∷ bs)) (b ∷ bs) (rw e))
    (λ e. in_word at b bs e ∙ past_word (at + 1) bs ∙ one_later at b bs n ∙ ap (λ m. tokens true (at + m) (drop m (b ∷ bs))) (sym (one_on (λ c. eqb c 32) b bs e)))

-- What `word_start` says of the bytes from `at` on.
pub no_words : (line : List ℕ) (at : ℕ) → position (λ b. not (eqb b 32)) (take (length line - at) (drop at line)) ≡ None → tokens true (at + 1) (drop at line) ≡ []
unfolding tokens
no_words line at h =
    let u = drop at line in
    let n = position_or_len (λ b. not (eqb b 32)) u in
    let none : position (λ b. not (eqb b 32)) u ≡ None = rw take_rest at h in
    let over : drop n u ≡ [] = grind (arith, common_steps, prefix_len-le-length) in
    skipped (at + 1) u ∙ ap (tokens true (at + 1 + n)) over

-- A word begins at a byte that is no space, and goes up to the next space.
opened : (at : ℕ) (w : List ℕ) → 0 < length w → not (eqb (get_or w 0 0) 32) ≡ true
    → (tokens true at w ≡ record { byte = at; bytes = take (position_or_len (λ b. eqb b 32) w) w } ∷ tokens false at w) × (0 < position_or_len (λ b. eqb b 32) w)
unfolding word
opened at [] some clear = absurd (omega arith)
opened at (b ∷ bs) some clear =
    let e : eqb b 32 ≡ false = grind (arith, nat_tests) in
    (at_word at b bs e ∙ ap (λ ws. record { byte = at; bytes = word (b ∷ bs) } ∷ ws) (sym (in_word at b bs e)), omega (arith, one_on (λ c. eqb c 32) b bs e))

-- The next word is what is cut off from the first byte that is no space up to the next space.
pub next_word : (line : List ℕ) (at i n : ℕ) → position (λ b. not (eqb b 32)) (take (length line - at) (drop at line)) ≡ Some i
    → n ≡ position_or_len (λ b. eqb b 32) (take (length line - (at + i)) (drop (at + i) line))
    → (tokens true (at + 1) (drop at line) ≡ record { byte = at + i + 1; bytes = take (at + i + n - (at + i)) (drop (at + i) line) } ∷ tokens true (at + i + n + 1) (drop (at + i + n) line)) × (0 < n)
next_word line at i n found h =
    let p = λ (b : ℕ). not (eqb b 32) in
    let u = drop at line in
    let v = drop (at + i) line in
    let first : position p u ≡ Some i = rw take_rest at found in
    let long : n ≡ position_or_len (λ b. eqb b 32) v = rw take_rest at h in
    let at_i = position-Some p u i 0 first in
    let place : i ≡ position_or_len p u = sym (cond_some _ _ _ first).1 in
    let inside : at + i < length line = omega (arith, at_i.0, length-drop at line) in
    let some : 0 < length v = rw length-drop (omega arith) in
    let z : at + i + 0 ≡ at + i = omega arith in
    let clear : p (get_or v 0 0) ≡ true = ap p (get_or-drop (at + i) line 0 0 ∙ ap (λ k. get_or line k 0) z ∙ sym (get_or-drop at line i 0)) ∙ at_i.1 in
    let first_is = opened (at + i + 1) v some clear in
    let others_are = past_word (at + i + 1) v in
    let over = skipped (at + 1) u in
    let over_is = drop-drop i at line in
    let behind_is = drop-drop n (at + i) line in
    let k : at + 1 + i ≡ at + i + 1 = omega arith in
    let l : at + i + n - (at + i) ≡ n = omega arith in
    let m : at + i + 1 + n ≡ at + i + n + 1 = omega arith in
    (cc (first_is.0), omega arith)
