-- What the definitions that the calls cite give for the worked sites. Assumes nothing.
use Rattle.std.specs.Prelude.{◌≡◌, ℕ, true, List, [], ◌∷◌, map, filter, Some, None, Ok, Err, codes}
use Rattle.std.specs.List.{range_with_len}
use Rattle.std.specs.Ordering.{int_cmp}
use Rattle.refusals.specs.declared.Refusal.TheVariants.{StationAtFault}
use Rattle.cores.specs.Site.{Site, laid_out}
use Rattle.cores.specs.Numbers.{number}
use Rattle.cores.specs.Links.{joined, parted, moves}
use Rattle.worked.specs.Sites.{joined_all, PlanOf, eight, bridge, TwoCliquesAndABridge}
use Rattle.view.specs.Service.{no_marks, is_marked, with_mark}
use Rattle.view.specs.Struck.{struck_site}
use Rattle.sheet.specs.Sites.{sheet_of}
use Rattle.inspector.specs.Inspecting.{inspected}
use Rattle.book.specs.Answers.{Answer, link_answer, unlink_answer}
use Rattle.survey.specs.Surveys.{survey_read}
use Rattle.rules.specs.declared.counts.Counts.{Counts}
use Rattle.rules.specs.declared.net.Net.{Net}
use Rattle.rules.specs.Levels.{levels}
use Rattle.rules.specs.Scores.{average, by_fraction, net, paired, by_pair}
use Rattle.rules.specs.Choices.{choice_answer}

-- A survey is read as a site, and the site has this sheet. No byte of a sheet here is above 9, so they read as in hexadecimal.
pub record IsDrawn (survey : List ℕ) (g : Site) (sheet : List ℕ) : Type 0 where
  pub read : survey_read survey ≡ Ok g
  pub drawn : sheet_of g ≡ sheet

-- the tally of a level: its members, the links inside and those at the boundary
abbrev pub tallied : ℕ → ℕ → ℕ → Counts
tallied members inside boundary = record { members = members; inside = inside; boundary = boundary }

-- the rule that nets by these weights
abbrev pub weights : ℕ → ℕ → ℕ → Net
weights p q r = record { inside_gain = p; boundary_cost = q; member_cost = r }

-- Average chooses the first level, and Net with the weights 1, 1, 1 the second.
abbrev pub AverageAndNetChoose : Site → ℕ → ℕ → Type 0
AverageAndNetChoose g a n = (choice_answer g average by_fraction ≡ Ok a) × (choice_answer g (net (weights 1 1 1)) int_cmp ≡ Ok n)

-- three stations, all linked
abbrev pub triangle : Site
triangle = joined_all (laid_out 3) ((0, 1) ∷ (0, 2) ∷ (1, 2) ∷ [])

-- the stations that move, each with its number before and after
abbrev pub moved : Site → Site → List (ℕ × ℕ × ℕ)
moved old new = map (λ s. (s, number old s, number new s)) (filter (moves old new) (range_with_len 0 old.size))

-- A call on the eight-station site is accepted; of the site after it, these stations have moved, and this is the sheet.
pub record Alters (answer : Answer) (g : Site) (stations : List (ℕ × ℕ × ℕ)) (sheet : List ℕ) : Type 0 where
  pub accepted : answer ≡ Ok tt
  pub moves : moved eight g ≡ stations
  pub drawn : sheet_of g ≡ sheet

-- the eight-station site with station 7 struck
abbrev pub struck_eight : Site
struck_eight = struck_site (is_marked (with_mark no_marks 7 true)) eight

-- The worked sites. Tallies stand from level 0 up to the top.
pub record WorkedSites : Type 0 where
  pub one_station_has_five_bytes :
      IsDrawn (codes "S 1") (laid_out 1) (1 ∷ 0 ∷ 0 ∷ 0 ∷ 0 ∷ [])
      × (levels (laid_out 1) ≡ tallied 1 0 0 ∷ [])
      × AverageAndNetChoose (laid_out 1) 0 0
  pub eight_stations_have_56_bytes :
      IsDrawn (codes "S 8\nL 0 1 2 3\nL 1 2 3\nL 2 3\nL 3 4\nL 4 5 6\nL 5 6\nL 6 7\n") eight
      (8 ∷ 0 ∷ 5 ∷ 3 ∷ 0 ∷ 4 ∷ 0 ∷ 3 ∷ 3 ∷ 0 ∷ 0 ∷ 0 ∷ 3 ∷ 3 ∷ 0 ∷ 0 ∷ 0 ∷ 3 ∷ 3 ∷ 0 ∷ 0 ∷ 0
      ∷ 5 ∷ 2 ∷ 0 ∷ 7 ∷ 0 ∷ 3 ∷ 2 ∷ 0 ∷ 4 ∷ 0 ∷ 3 ∷ 2 ∷ 0 ∷ 4 ∷ 0 ∷ 1 ∷ 1 ∷ 0
      ∷ 7 ∷ 0 ∷ 5 ∷ 0 ∷ 6 ∷ 0 ∷ 4 ∷ 0 ∷ 0 ∷ 0 ∷ 1 ∷ 0 ∷ 2 ∷ 0 ∷ 3 ∷ 0 ∷ [])
  pub they_have_four_levels : levels eight ≡ tallied 8 11 0 ∷ tallied 8 11 0 ∷ tallied 7 10 1 ∷ tallied 4 6 1 ∷ []
  pub average_chooses_3_and_net_1 :
      AverageAndNetChoose eight 3 1
      × (choice_answer eight (paired average (net (weights 1 1 1))) (by_pair by_fraction int_cmp) ≡ Ok 3)
      × (choice_answer eight (paired (net (weights 1 1 1)) average) (by_pair int_cmp by_fraction) ≡ Ok 1)
      × (choice_answer eight (net (weights 0 0 0)) int_cmp ≡ Ok 3)
  -- its sheet claims number 1 and home 0 for all three, and the order 0 1 2
  pub false_triangle_is_refused_at_0 :
      (survey_read (codes "S 3\nL 0 1 2\nL 1 2\n") ≡ Ok triangle)
      × (inspected triangle (3 ∷ 0 ∷ 1 ∷ 1 ∷ 0 ∷ 3 ∷ 1 ∷ 0 ∷ 0 ∷ 0 ∷ 3 ∷ 1 ∷ 0 ∷ 0 ∷ 0 ∷ 0 ∷ 0 ∷ 1 ∷ 0 ∷ 2 ∷ 0 ∷ []) ≡ Err (StationAtFault 0))
  pub two_cliques_have_two_homes_and_one_up :
      TwoCliquesAndABridge
      × IsDrawn (codes "S 9\nL 0 1 2 3\nL 1 2 3\nL 2 3\nL 4 5 6 7\nL 5 6 7\nL 6 7\nL 8 3 4\n") bridge
      (9 ∷ 0 ∷ 5 ∷ 3 ∷ 0 ∷ 8 ∷ 0 ∷ 3 ∷ 3 ∷ 0 ∷ 0 ∷ 0 ∷ 3 ∷ 3 ∷ 0 ∷ 0 ∷ 0 ∷ 3 ∷ 3 ∷ 0 ∷ 0 ∷ 0
      ∷ 5 ∷ 3 ∷ 0 ∷ 8 ∷ 0 ∷ 3 ∷ 3 ∷ 0 ∷ 4 ∷ 0 ∷ 3 ∷ 3 ∷ 0 ∷ 4 ∷ 0 ∷ 3 ∷ 3 ∷ 0 ∷ 4 ∷ 0 ∷ 1 ∷ 2 ∷ 0
      ∷ 8 ∷ 0 ∷ 0 ∷ 0 ∷ 1 ∷ 0 ∷ 2 ∷ 0 ∷ 3 ∷ 0 ∷ 4 ∷ 0 ∷ 5 ∷ 0 ∷ 6 ∷ 0 ∷ 7 ∷ 0 ∷ [])
      × (levels bridge ≡ tallied 9 14 0 ∷ tallied 9 14 0 ∷ tallied 9 14 0 ∷ tallied 8 12 2 ∷ [])
      × AverageAndNetChoose bridge 2 2
  pub link_5_7_moves_7_from_1_to_2 :
      Alters (link_answer eight 5 7) (joined eight 5 7) ((7, 1, 2) ∷ [])
      (8 ∷ 0 ∷ 5 ∷ 3 ∷ 0 ∷ 4 ∷ 0 ∷ 3 ∷ 3 ∷ 0 ∷ 0 ∷ 0 ∷ 3 ∷ 3 ∷ 0 ∷ 0 ∷ 0 ∷ 3 ∷ 3 ∷ 0 ∷ 0 ∷ 0
      ∷ 1 ∷ 2 ∷ 0 ∷ 3 ∷ 2 ∷ 0 ∷ 4 ∷ 0 ∷ 3 ∷ 2 ∷ 0 ∷ 4 ∷ 0 ∷ 3 ∷ 2 ∷ 0 ∷ 4 ∷ 0
      ∷ 7 ∷ 0 ∷ 5 ∷ 0 ∷ 6 ∷ 0 ∷ 4 ∷ 0 ∷ 0 ∷ 0 ∷ 1 ∷ 0 ∷ 2 ∷ 0 ∷ 3 ∷ 0 ∷ [])
      × (levels (joined eight 5 7) ≡ tallied 8 12 0 ∷ tallied 8 12 0 ∷ tallied 8 12 0 ∷ tallied 4 6 1 ∷ [])
      × AverageAndNetChoose (joined eight 5 7) 3 2
  pub unlink_0_1_moves_0_to_3_from_3_to_2 :
      Alters (unlink_answer eight 0 1) (parted eight 0 1) ((0, 3, 2) ∷ (1, 3, 2) ∷ (2, 3, 2) ∷ (3, 3, 2) ∷ [])
      (8 ∷ 0 ∷ 5 ∷ 2 ∷ 0 ∷ 7 ∷ 0 ∷ 3 ∷ 2 ∷ 0 ∷ 0 ∷ 0 ∷ 3 ∷ 2 ∷ 0 ∷ 0 ∷ 0 ∷ 3 ∷ 2 ∷ 0 ∷ 0 ∷ 0
      ∷ 3 ∷ 2 ∷ 0 ∷ 0 ∷ 0 ∷ 3 ∷ 2 ∷ 0 ∷ 0 ∷ 0 ∷ 3 ∷ 2 ∷ 0 ∷ 0 ∷ 0 ∷ 1 ∷ 1 ∷ 0
      ∷ 7 ∷ 0 ∷ 0 ∷ 0 ∷ 1 ∷ 0 ∷ 2 ∷ 0 ∷ 3 ∷ 0 ∷ 4 ∷ 0 ∷ 5 ∷ 0 ∷ 6 ∷ 0 ∷ [])
      × (levels (parted eight 0 1) ≡ tallied 8 10 0 ∷ tallied 8 10 0 ∷ tallied 7 9 1 ∷ [])
      × AverageAndNetChoose (parted eight 0 1) 2 1
  pub struck_7_has_number_0_and_4_has_no_up :
      PlanOf struck_eight
      (3 ∷ 3 ∷ 3 ∷ 3 ∷ 2 ∷ 2 ∷ 2 ∷ 0 ∷ [])
      (0 ∷ 0 ∷ 0 ∷ 0 ∷ 4 ∷ 4 ∷ 4 ∷ 7 ∷ [])
      (Some 4 ∷ None ∷ None ∷ None ∷ None ∷ None ∷ None ∷ None ∷ [])
      (7 ∷ 5 ∷ 6 ∷ 4 ∷ 0 ∷ 1 ∷ 2 ∷ 3 ∷ [])
      × (sheet_of struck_eight
      ≡ 8 ∷ 0 ∷ 5 ∷ 3 ∷ 0 ∷ 4 ∷ 0 ∷ 3 ∷ 3 ∷ 0 ∷ 0 ∷ 0 ∷ 3 ∷ 3 ∷ 0 ∷ 0 ∷ 0 ∷ 3 ∷ 3 ∷ 0 ∷ 0 ∷ 0
      ∷ 1 ∷ 2 ∷ 0 ∷ 3 ∷ 2 ∷ 0 ∷ 4 ∷ 0 ∷ 3 ∷ 2 ∷ 0 ∷ 4 ∷ 0 ∷ 0
      ∷ 7 ∷ 0 ∷ 5 ∷ 0 ∷ 6 ∷ 0 ∷ 4 ∷ 0 ∷ 0 ∷ 0 ∷ 1 ∷ 0 ∷ 2 ∷ 0 ∷ 3 ∷ 0 ∷ [])
      × (levels struck_eight ≡ tallied 8 10 0 ∷ tallied 7 10 0 ∷ tallied 7 10 0 ∷ tallied 4 6 1 ∷ [])
      × AverageAndNetChoose struck_eight 3 2
