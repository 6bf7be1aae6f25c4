-- What a test keeps of a list.
use Rattle.std.proofs.Common.{◌≡◌, ℕ, ◌+◌, Bool, cond, List, [], ◌∷◌, filter, Less, sym, ap, arith}
use Rattle.std.specs.Cmp.{nat_cmp_is}
use Rattle.std.proofs.lemmas.Cmp.{nat_cmp_total}
use Rattle.std.proofs.lemmas.List.Kept.{IsStrictlySortedBy-filter}
use Rattle.std.proofs.lemmas.Map.Keys.{below_from_sorted, sorted_from_all_adjacent}
use Rattle.cores.specs.Counting.{bit, times}
use Rattle.cores.proofs.Entries.{times_none, times_cons}
use Rattle.view.specs.Rows.{Rising}

-- it still rises
pub kept_rises : (p : ℕ → Bool) (xs : List ℕ) → Rising xs → Rising (filter p xs)
kept_rises p xs step i h =
    below_from_sorted (filter p xs) i (i + 1) 0 (IsStrictlySortedBy-filter _ p xs (sorted_from_all_adjacent nat_cmp_total xs 0 (λ k l. sym (nat_cmp_is _ _ Less (step k l))))) (omega arith) h

-- and names as often as before what passes the test, and nothing else
pub kept_times : (p : ℕ → Bool) (t : ℕ) (xs : List ℕ) → times t (filter p xs) ≡ cond (p t) (times t xs) 0
unfolding bit
kept_times p t [] = let none = times_none t in grind arith
kept_times p t (x ∷ xs) =
    let rest = kept_times p t xs in
    let before = times_cons t x xs in
    let after = times_cons t x (filter p xs) in
    let same : t ≡ x → p t ≡ p x = λ e. ap p e in
    grind arith
