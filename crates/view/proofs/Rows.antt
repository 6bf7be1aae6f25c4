-- What the two lists say of shape and of rows, as the code asks them.
use Rattle.std.proofs.Common.{◌≡◌, ℕ, ◌+◌, ◌-◌, ◌<◌, ◌≤◌, min, not, ◌&&◌, ◌||◌, ◌==◌, nat_le, nat_lt, slice_index, slice_index_or, eqb, refl, Bool, true, false, List, [], length, take, drop, None, Some, Option, Bor, inl, inr, sym, ap, ◌∙◌, arith, length-drop, nat_cmp}
use Rattle.std.specs.List.{between, slice_get, IsAllAdjacentAnswer, list_any}
use Rattle.std.specs.Option.{UnwrapsOrElse, option_eq}
use Rattle.std.specs.Ordering.{is_le, is_some_and}
use Rattle.std.specs.Slice.{IsGetRangeResult}
use Rattle.std.proofs.lemmas.List.{take_min, get_or_default}
use Rattle.std.proofs.lemmas.List.Sorted.{non_decreasing_from_is_sorted}
use Rattle.std.proofs.lemmas.Bool.{le-leb, lt-leb, eqb-true, false≢true}
use Rattle.std.proofs.lemmas.Option.{slice_get_within, get_or_from_slice_get}
use Rattle.std.proofs.lemmas.List.Folds.{Any-from_list_any, list_any_at}
use Rattle.cores.specs.Counting.{some, holds}
use Rattle.cores.proofs.Searches.{same_test, by_cases, all_from, all_fails, some_at, some_one, some_found}
use Rattle.cores.proofs.Entries.{held_where_it_stands}
use Rattle.view.specs.Listing.{Lists, stations, never_falls, row, bad_entry, bad_row}

-- a part that would pass the end stops there
cut : (xs : List ℕ) (i j : ℕ) → between i (min (length xs) j) xs ≡ between i j xs
cut xs i j =
    let short : min (length xs) j - i ≡ min (j - i) (length (drop i xs)) = omega (arith, length-drop i xs) in
    ap (λ n. take n (drop i xs)) short ∙ take_min (j - i) (drop i xs)

-- a part up to the end, or nothing where that is too soon, is the part
pub part_or_none : (xs : List ℕ) (i j : ℕ) (r : Option (Bor (List ℕ))) (x : Bor (List ℕ))
    → IsGetRangeResult xs i (min (length xs) j) r → UnwrapsOrElse r (λ y. y.now ≡ []) x → x.now ≡ between i j xs
part_or_none xs i j None x (none, _) is =
    let zero : min (length xs) j - i ≡ 0 = elim none [ inl h ↦ omega arith | inr h ↦ omega arith ] in
    is ∙ sym (ap (λ n. take n (drop i xs)) zero) ∙ cut xs i j
part_or_none xs i j (Some y) x (some, _) is = ap (λ (z : Bor (List ℕ)). z.now) is ∙ some.2 ∙ cut xs i j

-- the number at a place of a list stands in it
pub held_at : (xs : List ℕ) (place t : ℕ) → option_eq eqb (slice_get xs place) (Some t) ≡ true → holds xs t ≡ true
held_at xs place t e = go (slice_get xs place) refl e
  where
    go : (o : Option ℕ) → slice_get xs place ≡ o → option_eq eqb o (Some t) ≡ true → holds xs t ≡ true
    go None found e = absurd (false≢true e)
    go (Some x) found e = (held_where_it_stands xs t).1 place (slice_get_within xs place x found) (get_or_from_slice_get xs place x 0 found ∙ eqb-true x t e)

-- starts never fall if they are sorted
pub never_falls_sorted : (ls : Lists) (r : Bool) → IsAllAdjacentAnswer (λ x y b. is_some_and is_le (Some (nat_cmp x y)) ≡ b) ls.starts r → r ≡ never_falls ls
unfolding never_falls
never_falls_sorted ls true h =
    let rises = non_decreasing_from_is_sorted ls.starts true h in
    sym (all_from (stations ls) _ (λ s l. le-leb _ _ (rises s (s + 1) 0 (omega arith) (omega arith))))
never_falls_sorted ls false h =
    let (k, l, falls) = non_decreasing_from_is_sorted ls.starts false h in
    sym (all_fails (stations ls) _ k (omega arith) (lt-leb _ _ (falls 0)))

-- how an entry of a row is bad by itself, whatever other rows list
abbrev pub misplaced_in : Lists → List ℕ → ℕ → ℕ → Bool
misplaced_in ls xs s place =
    let t = slice_index_or xs place 0 in
    (t == s) || nat_le (stations ls) t || (nat_lt 0 place && nat_le t (slice_index xs (place - 1)))

abbrev pub misplaced : Lists → ℕ → ℕ → Bool
misplaced ls s = misplaced_in ls (row ls s) s

-- a misplaced entry makes a row bad
pub misplaced_is_bad : (ls : Lists) (s place : ℕ) (xs : List ℕ) → xs ≡ row ls s → place < length xs → misplaced_in ls xs s place ≡ true → bad_row ls s ≡ true
unfolding bad_row
misplaced_is_bad ls s place xs is l e = let same = ap length is in some_found (length (row ls s)) (bad_entry ls s) place (omega arith) (grind arith)

-- and so does one that is not returned
pub unreturned_is_bad : (ls : Lists) (s place : ℕ) (xs : List ℕ) → xs ≡ row ls s → place < length xs → holds (row ls (slice_index_or xs place 0)) s ≡ false
    → bad_row ls s ≡ true
unfolding bad_row
unreturned_is_bad ls s place xs is l e = let same = ap length is in some_found (length (row ls s)) (bad_entry ls s) place (omega arith) (grind arith)

-- an entry that is neither is not bad
pub good_entry : (ls : Lists) (s place : ℕ) (xs : List ℕ) → xs ≡ row ls s → misplaced_in ls xs s place ≡ false → holds (row ls (slice_index_or xs place 0)) s ≡ true
    → bad_entry ls s place ≡ false
good_entry ls s place xs is placed returned = grind arith

-- entries that are not bad are not misplaced
pub none_misplaced : (ls : Lists) (s n : ℕ) → some n (bad_entry ls s) ≡ false → some n (misplaced ls s) ≡ false
none_misplaced ls s n none = by_cases (some n (misplaced ls s))
    (λ e. let (place, l, is) = some_one n (misplaced ls s) e in let good = some_at n (bad_entry ls s) place none l in absurd (false≢true (grind arith)))
    (λ e. e)

-- with none misplaced, a row is bad if some entry is not returned
pub row_judged : (ls : Lists) (s n : ℕ) → length (row ls s) ≤ n → some n (misplaced ls s) ≡ false
    → list_any (λ t. not (holds (row ls t) s)) (row ls s) ≡ bad_row ls s
unfolding bad_row
row_judged ls s n whole placed = same_test _ _ bad judged
  where
    xs : List ℕ
    xs = row ls s

    bad : list_any (λ t. not (holds (row ls t) s)) xs ≡ true → some (length xs) (bad_entry ls s) ≡ true
    bad e =
        let (k, t, l, at, not_there) = Any-from_list_any (λ t. not (holds (row ls t) s)) xs e in
        let same = get_or_default xs k t 0 l in
        some_found (length xs) (bad_entry ls s) k l (grind arith)

    judged : some (length xs) (bad_entry ls s) ≡ true → list_any (λ t. not (holds (row ls t) s)) xs ≡ true
    judged e =
        let (place, l, is) = some_one _ (bad_entry ls s) e in
        let by_itself = some_at n (misplaced ls s) place placed (omega arith) in
        list_any_at (λ t. not (holds (row ls t) s)) xs place 0 l (grind arith)
