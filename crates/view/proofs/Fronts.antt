-- The front of a table that a call wrote to, and the forest that stands there.
use Rattle.std.proofs.Common.{◌≡◌, ℕ, List, length, map, take, drop, Ok, Result, ◌∙◌}
use Rattle.std.proofs.lemmas.List.{take_at, length-map}
use Rattle.std.proofs.lemmas.List.FromFn.{length-map-range_with_len}
use Rattle.refusals.specs.declared.Refusal.{Refusal}
use Rattle.cores.specs.Site.{Site}
use Rattle.view.specs.Answers.{left_in}
use Rattle.view.specs.Ups.{up_in_table}
use Rattle.view.specs.Forest.{forest_by}

-- the front is what the call answers for
pub front_left : {A : Type 0} (part : A → List ℕ) (outcome : Result A Refusal) (x : A) (n : ℕ) (table old : List ℕ) → outcome ≡ Ok x → length (part x) ≡ n → table ≡ left_in part outcome old
    → take n table ≡ part x
front_left part outcome x n table old accepted long is = rw (is, accepted) (take_at (part x) (drop (length (part x)) old) n long)

pub homes_length : (g : Site) (numbers : List ℕ) → length (forest_by g numbers).homes ≡ g.size
unfolding forest_by
homes_length g numbers = length-map-range_with_len _ 0 g.size

pub ups_length : (g : Site) (numbers : List ℕ) → length (map up_in_table (forest_by g numbers).ups) ≡ g.size
unfolding forest_by
ups_length g numbers = length-map (forest_by g numbers).ups up_in_table ∙ length-map-range_with_len _ 0 g.size
