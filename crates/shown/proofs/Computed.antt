-- The worked sites, computed by what is known of their plans.
use Rattle.std.proofs.Common.{true, [], ◌∷◌, refl, ◌∙◌, arith}
use Rattle.cores.specs.Counting.{bit, count, total, all, some, times, holds, lowest, greatest}
use Rattle.cores.specs.Site.{Site, Lawful}
use Rattle.cores.specs.Numbers.{Group, hears, without}
use Rattle.cores.specs.Forest.{reaches}
use Rattle.cores.specs.Drawing.{has_fewest, next, removed, drawn}
use Rattle.cores.specs.Orders.{falls, after, at_fault}
use Rattle.cores.specs.Links.{ends, joined, parted}
use Rattle.worked.specs.Sites.{joined_all, eight}
use Rattle.worked.proofs.Tables.{core_by, core_home_by, home_by, below_by, up_by, certified, planned}
use Rattle.worked.proofs.Computed.{plans, eight_lawful}
use Rattle.view.specs.Service.{no_marks, is_marked, with_mark}
use Rattle.view.specs.Struck.{struck_site}
use Rattle.sheet.specs.Encoding.{field, field_if, up_field, map_byte, entry_bytes, station_bytes, encode}
use Rattle.sheet.specs.Fields.{word_at, field_at, is_map, fields_of, map_at, value_at, up_at}
use Rattle.sheet.specs.Decoding.{entry_at, entries_at, order_at, sheet_at, decode}
use Rattle.rules.specs.Levels.{links_below}
use Rattle.shown.specs.Sites.{struck_eight, WorkedSites}
use Rattle.shown.proofs.Known.{sheeted, number_is, levels_are, chosen, both_chosen, moved_are}
use Rattle.shown.proofs.Read.{one_read, eight_read, triangle_read, bridge_read}

struck_lawful : (X : Group) (g : Site) → Lawful g → Lawful (struck_site X g)
struck_lawful X g law = record {
  inside = λ s t h. law.inside s t (grind arith);
  apart = λ s. let none = law.apart s in grind arith;
  both_ways = λ s t. let both = law.both_ways s t in grind arith;
}

-- all at once, as what is unfolded is the same for each
pub shown : WorkedSites
unfolding bit count total all some times holds lowest greatest hears without reaches has_fewest next removed drawn falls after at_fault
    ends joined parted joined_all core_by core_home_by home_by below_by up_by links_below
    field field_if up_field map_byte entry_bytes station_bytes encode
    word_at field_at is_map fields_of map_at value_at up_at entry_at entries_at order_at sheet_at decode
shown =
    let (one, eight_is, bridge_is, more, less) = plans in
    let struck_law = struck_lawful (is_marked (with_mark no_marks 7 true)) eight eight_lawful in
    let struck_numbers = certified struck_eight (3 ∷ 3 ∷ 3 ∷ 3 ∷ 2 ∷ 2 ∷ 2 ∷ 0 ∷ []) _ refl refl struck_law refl in
    let struck_is = planned struck_eight _ _ refl refl struck_numbers _ _ refl refl in
    record {
      one_station_has_five_bytes = (
        record { read = one_read; drawn = sheeted one ∙ refl },
        levels_are one ∙ refl,
        both_chosen one refl refl refl,
      );
      eight_stations_have_56_bytes = record { read = eight_read; drawn = sheeted eight_is ∙ refl };
      they_have_four_levels = levels_are eight_is ∙ refl;
      average_chooses_3_and_net_1 = (
        both_chosen eight_is refl refl refl,
        chosen eight_is refl _ _ refl,
        chosen eight_is refl _ _ refl,
        chosen eight_is refl _ _ refl,
      );
      false_triangle_is_refused_at_0 = (triangle_read, refl);
      two_cliques_have_two_homes_and_one_up = (
        bridge_is,
        record { read = bridge_read; drawn = sheeted bridge_is ∙ refl },
        levels_are bridge_is ∙ refl,
        both_chosen bridge_is refl refl refl,
      );
      link_5_7_moves_7_from_1_to_2 = (
        record { accepted = refl; moves = moved_are _ _ _ _ (number_is eight_is) (number_is more.plan) ∙ refl; drawn = sheeted more.plan ∙ refl },
        levels_are more.plan ∙ refl,
        both_chosen more.plan refl refl refl,
      );
      unlink_0_1_moves_0_to_3_from_3_to_2 = (
        record { accepted = refl; moves = moved_are _ _ _ _ (number_is eight_is) (number_is less.plan) ∙ refl; drawn = sheeted less.plan ∙ refl },
        levels_are less.plan ∙ refl,
        both_chosen less.plan refl refl refl,
      );
      struck_7_has_number_0_and_4_has_no_up = (
        struck_is,
        sheeted struck_is ∙ refl,
        levels_are struck_is ∙ refl,
        both_chosen struck_is refl refl refl,
      );
    }
