-- The plans of the worked sites, computed.
use Rattle.std.proofs.Common.{ℕ, List, [], ◌∷◌, refl, ◌∙◌, arith}
use Rattle.cores.specs.Counting.{bit, count, all, some, times, holds, lowest}
use Rattle.cores.specs.Site.{Lawful, laid_out}
use Rattle.cores.specs.Numbers.{hears, without}
use Rattle.cores.specs.Forest.{reaches}
use Rattle.cores.specs.Drawing.{has_fewest, next, removed, drawn}
use Rattle.cores.specs.Orders.{falls, after, at_fault}
use Rattle.cores.specs.Links.{ends, joined, parted}
use Rattle.cores.proofs.Links.{link_lawful}
use Rattle.worked.specs.Sites.{joined_all, eight, bridge, OneStation, EightStations, TwoCliquesAndABridge, OneLinkMore, OneLinkLess}
use Rattle.worked.proofs.Tables.{fair, all_lawful, laid_out_lawful, core_by, core_home_by, home_by, below_by, up_by, claimed, certified, planned, moved_by}

-- the numbers of each site
abbrev one_table : List ℕ
one_table = 0 ∷ []

abbrev eight_table : List ℕ
eight_table = 3 ∷ 3 ∷ 3 ∷ 3 ∷ 2 ∷ 2 ∷ 2 ∷ 1 ∷ []

abbrev bridge_table : List ℕ
bridge_table = 3 ∷ 3 ∷ 3 ∷ 3 ∷ 3 ∷ 3 ∷ 3 ∷ 3 ∷ 2 ∷ []

abbrev more_table : List ℕ
more_table = 3 ∷ 3 ∷ 3 ∷ 3 ∷ 2 ∷ 2 ∷ 2 ∷ 2 ∷ []

abbrev less_table : List ℕ
less_table = 2 ∷ 2 ∷ 2 ∷ 2 ∷ 2 ∷ 2 ∷ 2 ∷ 1 ∷ []

pub eight_lawful : Lawful eight
unfolding fair
eight_lawful = all_lawful (laid_out 8) (laid_out_lawful 8) _ refl

bridge_lawful : Lawful bridge
unfolding fair
bridge_lawful = all_lawful (laid_out 9) (laid_out_lawful 9) _ refl

-- all plans at once, as what is unfolded is the same for each
pub plans : OneStation × EightStations × TwoCliquesAndABridge × OneLinkMore × OneLinkLess
unfolding bit count all some times holds lowest hears without reaches has_fewest next removed drawn falls after at_fault ends joined parted joined_all core_by core_home_by home_by below_by up_by
plans =
    let more = joined eight 5 7 in
    let less = parted eight 0 1 in
    let one_numbers = certified (laid_out 1) one_table _ refl refl (laid_out_lawful 1) refl in
    let eight_numbers = certified eight eight_table _ refl refl eight_lawful refl in
    let bridge_numbers = certified bridge bridge_table _ refl refl bridge_lawful refl in
    let more_numbers = certified more more_table _ refl refl ((link_lawful eight eight_lawful 5 7).0 (omega arith) (omega arith) (λ d. omega arith)) refl in
    let less_numbers = certified less less_table _ refl refl (link_lawful eight eight_lawful 0 1).1 refl in (
      planned (laid_out 1) _ _ refl refl one_numbers _ _ refl refl,
      planned eight _ _ refl refl eight_numbers _ _ refl refl,
      planned bridge _ _ refl refl bridge_numbers _ _ refl refl,
      record {
        moved = moved_by eight more (claimed eight_table) (claimed more_table) eight_numbers more_numbers ∙ refl;
        plan = planned more _ _ refl refl more_numbers _ _ refl refl;
      },
      record {
        moved = moved_by eight less (claimed eight_table) (claimed less_table) eight_numbers less_numbers ∙ refl;
        plan = planned less _ _ refl refl less_numbers _ _ refl refl;
      },
    )
