-- The laws of words.
use Rattle.std.proofs.Common.{◌≡◌, ℕ, ◌+◌, ◌-◌, ◌<◌, Bool, true, false, cond, not, eqb, List, [], ◌∷◌, ◌++◌, length, get_or, take, drop, filter, sym, refl, ap, ◌∙◌, arith}
use Rattle.std.specs.List.{flat_map, position_or_len, AllByRecursion}
use Rattle.std.proofs.lemmas.List.{drop_more, length-drop, get_or-drop, get_or-take}
use Rattle.std.proofs.lemmas.Bool.{eqb-true, eqb-false, false≢true}
use Rattle.std.proofs.lemmas.List.Elements.{All-from_recursion}
use Rattle.std.proofs.lemmas.List.Folds.{length-prefix_len}
use Rattle.std.proofs.lemmas.List.Sums.{fails_before_first, passes_at_first}
use Rattle.text.specs.Texts.{tokens, tokens_of}
use Rattle.text.specs.Laws.{Without, Stands, TokensStand, Rising, TokensRise, TokensAreAll}
use Rattle.text.proofs.Fronts.{by_cases, one_on}
use Rattle.text.proofs.TokenSteps.{word, at_space, at_word, in_word}

word_at : (b : ℕ) (bs : List ℕ) → eqb b 32 ≡ true → word (b ∷ bs) ≡ []
unfolding word
word_at b bs e = rw e

word_on : (b : ℕ) (bs : List ℕ) → eqb b 32 ≡ false → word (b ∷ bs) ≡ b ∷ word bs
unfolding word
word_on b bs e = ap (λ n. take n (b ∷ bs)) (one_on (λ c. eqb c 32) b bs e)

word_clear : (bs : List ℕ) → Without 32 (word bs)
unfolding word
word_clear bs k d h =
    let p = λ (b : ℕ). eqb b 32 in
    let lt : k < position_or_len p bs = omega (arith, length-prefix_len (λ b. not (p b)) bs) in
    eqb-false _ 32 (ap p (get_or-take (position_or_len p bs) bs k d lt) ∙ fails_before_first p bs k d lt)

word_there : (bs : List ℕ) → take (length (word bs)) bs ≡ word bs
unfolding word
word_there bs = ap (λ n. take n bs) (length-prefix_len _ bs)

word_after : (bs : List ℕ) → length (word bs) < length bs → get_or bs (length (word bs)) 0 ≡ 32
unfolding word
word_after bs h =
    let n = length-prefix_len (λ b. not (eqb b 32)) bs in
    ap (λ k. get_or bs k 0) n ∙ eqb-true _ 32 (passes_at_first (λ b. eqb b 32) bs 0 (omega arith))

-- The word that begins at an index.
module _ (line : List ℕ) (i b : ℕ) (bs : List ℕ) (d : drop i line ≡ b ∷ bs) (ne : eqb b 32 ≡ false) (start : 0 < i → get_or line (i - 1) 0 ≡ 32) where
  stands : Stands line (record { byte = i + 1; bytes = word (b ∷ bs) })
  stands =
      let u = word (b ∷ bs) in
      let k : i + 1 - 1 ≡ i = omega arith in
      let l : length line - i ≡ length (b ∷ bs) = sym (length-drop i line) ∙ ap length d in
      record {
        counted = omega arith;
        some = omega (arith, ap length (word_on b bs ne));
        clear = word_clear (b ∷ bs);
        there = ap (λ n. take (length u) (drop n line)) k ∙ ap (take (length u)) d ∙ word_there (b ∷ bs);
        before = λ h. (let j : i + 1 - 2 ≡ i - 1 = omega arith in ap (λ n. get_or line n 0) j ∙ start (omega arith));
        after = λ h.
            ap (λ n. get_or line (n + length u) 0) k ∙ sym (get_or-drop i line (length u) 0) ∙ ap (λ l. get_or l (length u) 0) d
            ∙ word_after (b ∷ bs) (omega arith);
      }

all_stand : (line bs : List ℕ) (i : ℕ) (p : Bool) → drop i line ≡ bs → (p ≡ true → 0 < i → get_or line (i - 1) 0 ≡ 32) → AllByRecursion (Stands line) (tokens p (i + 1) bs)
unfolding tokens
all_stand line [] i p d start = tt
all_stand line (b ∷ bs) i p d start =
    let lt : i < length line = omega (arith, sym (length-drop i line) ∙ ap length d) in
    let split : get_or line i 0 ∷ drop (i + 1) line ≡ b ∷ bs = sym (drop_more line i 0 lt) ∙ d in
    let first : get_or line i 0 ≡ b = cc in
    let rest : drop (i + 1) line ≡ bs = cc in
    let k : i + 1 - 1 ≡ i = omega arith in
    by_cases (eqb b 32)
    (λ e. rw (at_space p (i + 1) b bs e) (all_stand line bs (i + 1) true rest (λ _ _. ap (λ n. get_or line n 0) k ∙ first ∙ eqb-true b 32 e)))
    (λ e. by_cases p
    (λ t. rw (t, at_word (i + 1) b bs e) (stands line i b bs d e (start t), all_stand line bs (i + 1) false rest (λ h. absurd (false≢true h))))
    (λ t. rw (t, in_word (i + 1) b bs e) (all_stand line bs (i + 1) false rest (λ h. absurd (false≢true h)))))

pub stand : TokensStand
stand line = All-from_recursion (Stands line) (tokens_of line) (all_stand line line 0 true refl (λ _ h. absurd (omega arith)))

rise_from : (p : Bool) (at n : ℕ) (bs : List ℕ) → n < at + cond p 0 (length (word bs) + 1) → Rising n (tokens p at bs)
unfolding tokens
rise_from p at n [] h = tt
rise_from true at n (b ∷ bs) h =
    by_cases (eqb b 32)
    (λ e. rw (at_space true at b bs e) (rise_from true (at + 1) n bs (omega arith)))
    (λ e. rw (at_word at b bs e) (omega arith, rise_from false (at + 1) (at + length (word (b ∷ bs))) bs (omega (arith, ap length (word_on b bs e)))))
rise_from false at n (b ∷ bs) h =
    by_cases (eqb b 32)
    (λ e. rw (at_space false at b bs e) (rise_from true (at + 1) n bs (omega (arith, ap length (word_at b bs e)))))
    (λ e. rw (in_word at b bs e) (rise_from false (at + 1) n bs (omega (arith, ap length (word_on b bs e)))))

pub rise : TokensRise
rise line = rise_from true 1 0 line (omega arith)

all_from : (p : Bool) (at : ℕ) (bs : List ℕ) → cond p [] (word bs) ++ flat_map (λ q. q.bytes) (tokens p at bs) ≡ filter (λ b. not (eqb b 32)) bs
unfolding tokens word
all_from true at [] = refl
all_from false at [] = refl
all_from true at (b ∷ bs) =
    by_cases (eqb b 32)
    (λ e. rw (at_space true at b bs e, e) (all_from true (at + 1) bs))
    (λ e. rw (at_word at b bs e, word_on b bs e, e) (ap (λ l. b ∷ l) (all_from false (at + 1) bs)))
all_from false at (b ∷ bs) =
    by_cases (eqb b 32)
    (λ e. rw (at_space false at b bs e, word_at b bs e, e) (all_from true (at + 1) bs))
    (λ e. rw (in_word at b bs e, word_on b bs e, e) (ap (λ l. b ∷ l) (all_from false (at + 1) bs)))

pub are_all : TokensAreAll
are_all line = all_from true 1 line

pub ruleset token_laws = (stand, rise, are_all)
