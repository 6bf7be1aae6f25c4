-- The plan that is drawn, from its parts.
use Rattle.std.proofs.Common.{◌≡◌, ℕ, zero, suc, ◌<◌, ◌≤◌, true, List, ◌++◌, length, map, get_or, take, drop, min, Ok, sym, refl, ap, ◌∙◌, arith}
use Rattle.std.specs.List.{range_with_len}
use Rattle.std.proofs.lemmas.List.{take_at, length-map, get_or-map, ext_get_or}
use Rattle.std.proofs.lemmas.List.FromFn.{length-map-range_with_len, get_or-map-range_with_len, fill_by_all}
use Rattle.std.proofs.lemmas.Bool.Decides.{nat_tests}
use Rattle.cores.specs.Site.{Site, Lawful, sized}
use Rattle.cores.specs.Numbers.{number}
use Rattle.cores.specs.Forest.{home, up}
use Rattle.cores.specs.Drawing.{drawn}
use Rattle.cores.specs.Orders.{CoreNumbers}
use Rattle.cores.proofs.ByNumbers.{same_by_core_numbers}
use Rattle.view.specs.Answers.{counted, left_in}
use Rattle.view.specs.Ups.{up_in_table}
use Rattle.view.specs.Forest.{forest_by, forest_into}
use Rattle.view.proofs.Admitted.{admitted, sized_within}
use Rattle.view.proofs.Fronts.{front_left, homes_length, ups_length}
use Rattle.sheet.specs.Calls.{plan_in, put_bytes}
use Rattle.sheet.specs.Sites.{plan_of, sheet_of}
use Rattle.sheet.proofs.CallLaws.{well_formed_is_put}
use Rattle.sheet.proofs.SiteLaws.{plan_well_formed}
use Rattle.drawer.specs.declared.removal.Removal.{Removal}
use Rattle.drawer.specs.Removals.{removals_of, StationsAreRemovedInTurn}
use Rattle.drawer.specs.Calls.{written_for}
use Rattle.cores.proofs.Drawing.{drawn_is}
use Rattle.drawer.proofs.Peels.{drawn_length, removals_length, removal_at, peeled_front}
use Rattle.drawer.proofs.Peaks.{numbers_length}

-- the stations of the removals are the drawn order
pub removed_stations : (g : Site) → map (λ r. r.station) (removals_of g) ≡ drawn g
removed_stations g =
    let blank : Removal = record { left = 0; station = 0 } in
    let long = length-map (removals_of g) (λ r. r.station) in
    ext_get_or 0 (map (λ r. r.station) (removals_of g)) (drawn g) (long ∙ removals_length g ∙ sym (drawn_length g)) (λ i h.
    let on_list : i < length (removals_of g) = omega arith in
    get_or-map (λ r. r.station) (removals_of g) i blank 0 on_list ∙ ap (λ r. r.station) (removal_at g i blank (omega (arith, removals_length g))))

pub removed_in_turn : StationsAreRemovedInTurn
removed_in_turn g = (
  removed_stations g,
  λ i d h.
      let is = (drawn_is g).in_turn i (omega (arith, drawn_length g)) in
      let at = removal_at g i d h in
      record { next = rw (removed_stations g, at) is; neighbours = rw (removed_stations g, at) refl },
)

-- the table that the order was noted in
pub noted_order : (g : Site) (n : ℕ) (removals : List Removal) (order old : List ℕ) → n ≡ g.size → removals ≡ removals_of g → order ≡ map (λ r. r.station) removals ++ drop (length removals) old
    → take n order ≡ drawn g
noted_order g n removals order old counted are is =
    let whole : order ≡ drawn g ++ drop (length removals) old = is ∙ ap (λ xs. xs ++ drop (length removals) old) (ap (map (λ r. r.station)) are ∙ removed_stations g) in
    ap (take n) whole ∙ take_at (drawn g) (drop (length removals) old) n (drawn_length g ∙ sym counted)

-- the table that the numbers were noted in
pub noted_numbers : (g : Site) (n : ℕ) (numbers old : List ℕ) → n ≡ g.size → numbers ≡ (plan_of g).numbers ++ drop g.size old → take n numbers ≡ (plan_of g).numbers
noted_numbers g n numbers old counted is = ap (take n) is ∙ take_at (plan_of g).numbers (drop g.size old) n (numbers_length g ∙ sym counted)

-- the same values at the stations of a site make the same list
same_values : {A : Type 0} (n : ℕ) (f h : ℕ → A) → ((s : ℕ) → s < n → f s ≡ h s) → map f (range_with_len 0 n) ≡ map h (range_with_len 0 n)
same_values zero f h same = refl
same_values (suc n) f h same = fill_by_all h (map f (range_with_len 0 (suc n))) (suc n) (h 0) (length-map-range_with_len f 0 (suc n)) (λ k l. get_or-map-range_with_len f 0 (suc n) k k (h 0) l (omega arith) ∙ same k l)

module _ (g : Site) (law : Lawful g) where
  core_numbers : CoreNumbers g (λ s. get_or (plan_of g).numbers s 0)
  unfolding plan_of
  core_numbers s h = get_or-map-range_with_len (number g) 0 g.size s s 0 h (omega arith)

  -- the homes and ups by the numbers are those of the plan
  forest_homes : (forest_by g (plan_of g).numbers).homes ≡ map (home g) (range_with_len 0 g.size)
  unfolding forest_by
  forest_homes = same_values g.size _ (home g) (λ s h. (same_by_core_numbers g law (λ s. get_or (plan_of g).numbers s 0) core_numbers s h).0)

  forest_ups : (forest_by g (plan_of g).numbers).ups ≡ map (up g) (range_with_len 0 g.size)
  unfolding forest_by
  forest_ups = same_values g.size _ (up g) (λ s h. (same_by_core_numbers g law (λ s. get_or (plan_of g).numbers s 0) core_numbers s h).1)

  -- what stands in the front of the four tables is put as the sheet of the site
  pub plan_is_put : sized g.size ≡ true → (room : ℕ) (numbers homes ups order : List ℕ) → numbers ≡ (plan_of g).numbers → homes ≡ (forest_by g (plan_of g).numbers).homes
      → ups ≡ map up_in_table (forest_by g (plan_of g).numbers).ups → order ≡ drawn g → put_bytes (plan_in numbers homes ups order) room ≡ written_for g room (sheet_of g)
  unfolding plan_of
  plan_is_put counted room numbers homes ups order numbers_are homes_are ups_are order_is =
      let put = well_formed_is_put (plan_of g) room (plan_well_formed g law counted) in
      rw (numbers_are, homes_are, ups_are, order_is, forest_homes, forest_ups, counted) put

  -- so what the parts of draw leave in their tables is put as the sheet of the site
  pub tables_are_put : (n room : ℕ) (removals blank : List Removal) (numbers homes ups order old_numbers old_homes old_ups old_order : List ℕ) → Ok tt ≡ counted n → n ≡ g.size
      → length old_numbers ≡ 512 → length old_homes ≡ 512 → length old_ups ≡ 512 → removals ≡ removals_of g ++ drop g.size blank
      → ((h : Site) → take n removals ≡ removals_of h → h.size ≤ length old_numbers → numbers ≡ (plan_of h).numbers ++ drop h.size old_numbers)
      → order ≡ map (λ r. r.station) (take n removals) ++ drop (length (take n removals)) old_order
      → homes ≡ left_in (λ f. f.homes) (forest_into g (take n numbers) (min (length old_homes) (length old_ups))) old_homes
      → ups ≡ left_in (λ f. map up_in_table f.ups) (forest_into g (take n numbers) (min (length old_homes) (length old_ups))) old_ups
      → put_bytes (plan_in (take n numbers) (take n homes) (take n ups) (take n order)) room ≡ written_for g room (sheet_of g)
  tables_are_put n room removals blank numbers homes ups order old_numbers old_homes old_ups old_order taken is numbers_long homes_long ups_long removals_are numbers_are order_is homes_are ups_are =
      let small : sized g.size ≡ true = rw is at (admitted n tt taken) in
      let few = (sized_within g.size small).1 in
      let front = peeled_front g n removals blank is removals_are in
      let numbered = noted_numbers g n numbers old_numbers is (numbers_are g front (omega arith)) in
      let as_many = numbers_length g in
      let into : forest_into g (take n numbers) (min (length old_homes) (length old_ups)) ≡ Ok (forest_by g (plan_of g).numbers) = rw numbered (grind (arith, nat_tests)) in
      let homed = front_left (λ f. f.homes) _ (forest_by g (plan_of g).numbers) n homes old_homes into (homes_length g (plan_of g).numbers ∙ sym is) homes_are in
      let upped = front_left (λ f. map up_in_table f.ups) _ (forest_by g (plan_of g).numbers) n ups old_ups into (ups_length g (plan_of g).numbers ∙ sym is) ups_are in
      plan_is_put small room (take n numbers) (take n homes) (take n ups) (take n order) numbered homed upped (noted_order g n (take n removals) order old_order is front order_is)
