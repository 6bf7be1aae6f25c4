-- What was read from a sheet, and how it compares with a site.
use Rattle.std.proofs.Common.{◌≡◌, ℕ, ◌<◌, ◌≤◌, true, ◌&&◌, not, eqb, leb, List, length, map, get_or, take, replicate, Some, None, Option, Ok, Err, Result, sym, refl, ap, ◌∙◌, arith, length-take}
use Rattle.std.specs.Option.{option_eq}
use Rattle.std.specs.Result.{result_map_both}
use Rattle.std.proofs.lemmas.Bool.Decides.{nat_tests}
use Rattle.std.proofs.lemmas.Grind.{common_steps}
use Rattle.std.proofs.lemmas.List.{get_or-take, get_or-map, length-map}
use Rattle.std.proofs.lemmas.List.FromFn.{get_or-map-range_with_len}
use Rattle.refusals.specs.declared.Refusal.{Refusal}
use Rattle.refusals.specs.declared.Refusal.TheVariants.{NotASheet}
use Rattle.cores.specs.Counting.{lowest}
use Rattle.cores.specs.Site.{Site, Lawful}
use Rattle.cores.specs.Forest.{home, up}
use Rattle.cores.proofs.Searches.{by_cases, lowest_same}
use Rattle.cores.proofs.ByNumbers.{same_by_core_numbers}
use Rattle.view.specs.Answers.{answer, left_in}
use Rattle.view.specs.Ups.{up_in_table, up_meant}
use Rattle.view.specs.Forest.{forest_by, forest_into}
use Rattle.view.proofs.Admitted.{sized_within}
use Rattle.view.proofs.Fronts.{front_left, homes_length, ups_length}
use Rattle.sheet.specs.Plans.{Plan, stations}
use Rattle.sheet.specs.Calls.{plan_in, for_tables, read_into}
use Rattle.sheet.specs.Decoding.{decode}
use Rattle.sheet.proofs.SheetLaws.{accepted}
use Rattle.sheet.proofs.CallLaws.{plan_in_tables}
use Rattle.sheet.proofs.SiteLaws.{up_on_site}
use Rattle.inspector.specs.Inspecting.{is_wrong}
use Rattle.inspector.specs.Parts.{CanBeCompared}

-- what was read, or its refusal
abbrev pub read_as : Result Plan ℕ → Result Plan Refusal
read_as r = result_map_both (λ p. p) NotASheet r

-- a table of 512 entries that nothing was written to, and what is read into four of them
abbrev blank : List ℕ
blank = replicate 512 0

abbrev read_of : List ℕ → Result Plan Refusal
read_of bytes = read_into bytes blank blank blank blank

-- they have room for any sheet
whole_sheet : (bytes : List ℕ) → read_of bytes ≡ read_as (decode bytes)
whole_sheet bytes = go (decode bytes) refl
  where
    go : (r : Result Plan ℕ) → decode bytes ≡ r → for_tables 512 r ≡ read_as r
    go (Err place) e = refl
    go (Ok p) e = let few = sized_within (stations p) (accepted bytes p e).0.counted in let fits : leb (stations p) 512 ≡ true = grind (arith, nat_tests) in rw fits refl

-- so read refuses only bytes that are no sheet
pub refused_bytes : (bytes : List ℕ) (e : Refusal) → Err e ≡ answer stations (read_of bytes) → Err e ≡ read_as (decode bytes)
refused_bytes bytes e is = go (decode bytes) (is ∙ ap (answer stations) (whole_sheet bytes))
  where
    go : (r : Result Plan ℕ) → Err e ≡ answer stations (read_as r) → Err e ≡ read_as r
    go (Err place) d = cc
    go (Ok p) d = absurd cc

-- and leaves in the tables the plan on the sheet
pub read_plan : (bytes numbers homes ups order : List ℕ) (n : ℕ) → Ok n ≡ answer stations (read_of bytes)
    → numbers ≡ left_in (λ p. p.numbers) (read_of bytes) blank → homes ≡ left_in (λ p. p.homes) (read_of bytes) blank
    → ups ≡ left_in (λ p. map up_in_table p.ups) (read_of bytes) blank → order ≡ left_in (λ p. p.order) (read_of bytes) blank
    → Ok (plan_in (take n numbers) (take n homes) (take n ups) (take n order)) ≡ read_as (decode bytes)
read_plan bytes numbers homes ups order n taken numbers_are homes_are ups_are order_is = go (decode bytes) refl (whole_sheet bytes)
  where
    go : (r : Result Plan ℕ) → decode bytes ≡ r → read_of bytes ≡ read_as (decode bytes)
        → Ok (plan_in (take n numbers) (take n homes) (take n ups) (take n order)) ≡ read_as r
    go (Err place) e is = let refused : read_of bytes ≡ Err (NotASheet place) = is ∙ ap read_as e in absurd (grind (arith, common_steps))
    go (Ok p) e is =
        let accepts : read_of bytes ≡ Ok p = is ∙ ap read_as e in
        let well = (accepted bytes p e).0 in
        let lengths = well.lengths in
        let counted : stations p ≡ n = grind (arith, common_steps) in
        let ns = front_left (λ p. p.numbers) (read_of bytes) p n numbers blank accepts counted numbers_are in
        let hs = front_left (λ p. p.homes) (read_of bytes) p n homes blank accepts (grind (arith, nat_tests)) homes_are in
        let us = front_left (λ p. map up_in_table p.ups) (read_of bytes) p n ups blank accepts (length-map p.ups up_in_table ∙ grind (arith, nat_tests)) ups_are in
        let os = front_left (λ p. p.order) (read_of bytes) p n order blank accepts (grind (arith, nat_tests)) order_is in
        rw (ns, hs, us, os) (ap (λ q. Ok q) (plan_in_tables p well))

-- a table says no other up than the one that is meant, exactly if it says no other number
same_up : (u : ℕ) (o : Option ℕ) → ((v : ℕ) → o ≡ Some v → v < 65535) → option_eq eqb (up_meant u) o ≡ eqb u (up_in_table o)
same_up u None few = by_cases (eqb u 65535) (λ e. rw e refl) (λ e. rw e refl)
same_up u (Some v) few = let small = few v refl in by_cases (eqb u 65535) (λ e. rw e (grind (arith, nat_tests))) (λ e. rw e refl)

module _ (g : Site) (law : Lawful g) (n : ℕ) (numbers homes ups order : List ℕ) (can : CanBeCompared g (plan_in (take n numbers) (take n homes) (take n ups) (take n order))) where
  abbrev claim : Plan
  claim = plan_in (take n numbers) (take n homes) (take n ups) (take n order)

  home_at : (s : ℕ) → s < g.size → get_or (forest_by g claim.numbers).homes s 0 ≡ home g s
  unfolding forest_by
  home_at s h = get_or-map-range_with_len _ 0 g.size s s 0 h (omega arith) ∙ (same_by_core_numbers g law _ can.numbered s h).0

  up_at : (s : ℕ) → s < g.size → get_or (forest_by g claim.numbers).ups s None ≡ up g s
  unfolding forest_by
  up_at s h = get_or-map-range_with_len _ 0 g.size s s None h (omega arith) ∙ (same_by_core_numbers g law _ can.numbered s h).1

  small_up : (s v : ℕ) → s < g.size → up g s ≡ Some v → v < 65535
  small_up s v h e = omega (arith, (sized_within g.size can.sized).1, up_on_site g law s v e)

  -- the lowest difference from the tables of the forest is the lowest home or up that is wrong
  pub lowest_difference : n ≤ length numbers → (home_table up_table : List ℕ) → home_table ≡ left_in (λ f. f.homes) (forest_into g (take n numbers) 512) blank
      → up_table ≡ left_in (λ f. map up_in_table f.ups) (forest_into g (take n numbers) 512) blank
      → n ≤ length homes → n ≤ length ups
      → lowest n (λ s. not (eqb (get_or homes s 0) (get_or home_table s 0) && eqb (get_or ups s 0) (get_or up_table s 0))) ≡ lowest g.size (is_wrong g claim)
  unfolding is_wrong
  lowest_difference within home_table up_table homes_are ups_are homes_within ups_within =
      let n_is : n ≡ g.size = omega (arith, can.counted, length-take n numbers) in
      let few = (sized_within g.size can.sized).1 in
      let into : forest_into g (take n numbers) 512 ≡ Ok (forest_by g (take n numbers)) = (let counted = can.counted in let sized = can.sized in grind (arith, nat_tests)) in
      let home_front = front_left (λ f. f.homes) _ (forest_by g (take n numbers)) n home_table blank into (homes_length g (take n numbers) ∙ sym n_is) homes_are in
      let up_front = front_left (λ f. map up_in_table f.ups) _ (forest_by g (take n numbers)) n up_table blank into (ups_length g (take n numbers) ∙ sym n_is) ups_are in
      lowest_same n _ (is_wrong g claim) (λ s h.
      let on_site : s < g.size = omega arith in
      let home_is : get_or home_table s 0 ≡ home g s = sym (get_or-take n home_table s 0 h) ∙ ap (λ xs. get_or xs s 0) home_front ∙ home_at s on_site in
      let up_is : get_or up_table s 0 ≡ up_in_table (up g s) =
      sym (get_or-take n up_table s 0 h) ∙ ap (λ xs. get_or xs s 0) up_front ∙ get_or-map up_in_table (forest_by g (take n numbers)).ups s None 0 (omega (arith, ups_length g (take n numbers), length-map (forest_by g (take n numbers)).ups up_in_table)) ∙ ap up_in_table (up_at s on_site) in
      let home_claimed : get_or (take n homes) s 0 ≡ get_or homes s 0 = get_or-take n homes s 0 h in
      let up_claimed : get_or (map up_meant (take n ups)) s None ≡ up_meant (get_or ups s 0) =
      get_or-map up_meant (take n ups) s 0 None (omega (arith, length-take n ups)) ∙ ap up_meant (get_or-take n ups s 0 h) in
      let ups_alike = same_up (get_or ups s 0) (up g s) (λ v e. small_up s v on_site e) in
      rw (home_is, up_is, home_claimed, up_claimed, ups_alike) refl)
      ∙ ap (λ k. lowest k (is_wrong g claim)) n_is
