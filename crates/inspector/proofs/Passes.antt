-- What the verdicts of the inspector mean.
use Rattle.std.proofs.Common.{◌≡◌, ℕ, suc, ◌<◌, true, false, eqb, Bool, List, Some, None, Option, Ok, Err, Result, length, get_or, sym, refl, ap, ◌∙◌, arith}
use Rattle.std.specs.Option.{option_eq}
use Rattle.std.proofs.lemmas.Bool.{eqb-true, eq-eqb, both_ways}
use Rattle.std.proofs.lemmas.Bool.Decides.{nat_tests}
use Rattle.std.proofs.lemmas.List.FromFn.{length-map-range_with_len, get_or-map-range_with_len, fill_by_all}
use Rattle.refusals.specs.declared.Refusal.{Refusal}
use Rattle.refusals.specs.declared.Refusal.TheVariants.{StationAtFault, HomeOrUpWrong}
use Rattle.cores.specs.Counting.{bit, lowest}
use Rattle.cores.specs.Site.{Site, Lawful, EachOnce, sized}
use Rattle.cores.specs.Numbers.{number}
use Rattle.cores.specs.Forest.{home, up}
use Rattle.cores.specs.Orders.{rightful, CoreNumbers}
use Rattle.cores.proofs.Searches.{by_cases, lowest_first, lowest_absent}
use Rattle.cores.proofs.Numbers.{number_greatest}
use Rattle.cores.proofs.Orders.{faultless_means, drawn_rightful, rightful_at_each_place_lem}
use Rattle.cores.proofs.Entries.{times_at}
use Rattle.sheet.specs.Plans.{Plan, WellFormed, stations}
use Rattle.sheet.specs.Decoding.{decode}
use Rattle.sheet.specs.Sites.{plan_of, sheet_of}
use Rattle.sheet.proofs.SheetLaws.{accepted}
use Rattle.sheet.proofs.SiteLaws.{site_plans}
use Rattle.inspector.specs.Inspecting.{is_at_fault, is_wrong, unless_found, sheet_verdict, inspected}
use Rattle.inspector.specs.Passing.{IsFor, IsSheetFor, IsLowest, HasHomeAndUp, IsRight, RefusedFor, WhatPassesIsForTheSite, TheSheetOfASitePasses, PassedNumbersAreTheGreatest, EachRefusalSaysWhatIsWrong}

-- the test of two ups
same_option : (a b : Option ℕ) → option_eq eqb a b ≡ true → a ≡ b
same_option None None e = refl
same_option None (Some v) e = absurd cc
same_option (Some u) None e = absurd cc
same_option (Some u) (Some v) e = ap (λ w. Some w) (eqb-true u v e)

option_same : (a : Option ℕ) → option_eq eqb a a ≡ true
option_same None = refl
option_same (Some u) = eq-eqb u u refl

-- home and up of a station are those of the site exactly if they are not wrong
right_is : (g : Site) (p : Plan) (s : ℕ) → is_wrong g p s ≡ false → HasHomeAndUp g p s
unfolding is_wrong
right_is g p s e = (eqb-true _ _ (grind arith), same_option _ _ (grind arith))

is_right : (g : Site) (p : Plan) (s : ℕ) → HasHomeAndUp g p s → is_wrong g p s ≡ false
unfolding is_wrong
is_right g p s (h, u) = rw (h, u, eq-eqb (home g s) (home g s) refl, option_same (up g s)) refl

-- the lowest that is found
lowest_fails : (g : Site) (p : ℕ → Bool) (Right : ℕ → Type 0) (s : ℕ) → ((t : ℕ) → p t ≡ false → Right t) → (Right s → p s ≡ false) → lowest g.size p ≡ Some s → IsLowest g Right s
lowest_fails g p Right s right test at =
    let (on_site, passes, below) = rw at at (lowest_first g.size p) in
    record { on_site = on_site; fails = λ r. both_ways (p s) (test r) passes; below = λ t h. right t (below t h) }

none_fails : (g : Site) (p : ℕ → Bool) → lowest g.size p ≡ None → (t : ℕ) → t < g.size → p t ≡ false
none_fails g p at t h = rw at at (lowest_first g.size p) t h

-- an order is rightful for any numbers that are the same at the stations
rightful_alike : (g : Site) (order : List ℕ) → EachOnce g order → (c d : ℕ → ℕ) → ((s : ℕ) → s < g.size → c s ≡ d s) → rightful g c order ≡ true → rightful g d order ≡ true
unfolding bit
rightful_alike g order each c d same e =
    let is = (rightful_at_each_place_lem g c order).0 e in
    let at : (i : ℕ) → i < length order → c (get_or order i 0) ≡ d (get_or order i 0) =
    λ i h. let once = each (get_or order i 0) in let stands = times_at (get_or order i 0) order i h refl in same (get_or order i 0) (grind arith) in
    (rightful_at_each_place_lem g d order).1 (record {
      never_falls = λ i h. omega (arith, is.never_falls i h, at i (omega arith), at (suc i) h);
      few_after = λ i h. omega (arith, is.few_after i h, at i h);
    })

module _ (g : Site) (law : Lawful g) where
  module _ (p : Plan) (well : WellFormed p) (counted : stations p ≡ g.size) where
    each_once : EachOnce g p.order
    each_once t = rw counted at (well.each_once t)

    -- where no station is at fault, numbers and order are right
    faultless_right : lowest g.size (is_at_fault g p) ≡ None → IsRight g p
    faultless_right none =
        let (numbered, order) = (faultless_means g law (λ s. get_or p.numbers s 0) p.order each_once).0 (none_fails g (is_at_fault g p) none) in
        (counted, numbered, rightful_alike g p.order each_once (λ s. get_or p.numbers s 0) (number g) numbered order)

    -- and where no home and no up is wrong either, the plan is for the site
    passed_for : lowest g.size (is_at_fault g p) ≡ None → lowest g.size (is_wrong g p) ≡ None → IsFor g p
    unfolding plan_of
    passed_for faultless right =
        let lengths = well.lengths in
        let (_, numbered, order) = faultless_right faultless in
        record {
          numbers = fill_by_all (number g) p.numbers g.size 0 counted numbered;
          homes = fill_by_all (home g) p.homes g.size 0 (grind (arith, nat_tests)) (λ s h. (right_is g p s (none_fails g (is_wrong g p) right s h)).0);
          ups = fill_by_all (up g) p.ups g.size None (grind (arith, nat_tests)) (λ s h. (right_is g p s (none_fails g (is_wrong g p) right s h)).1);
          order = order;
        }

  -- what a plan for the site has
  for_numbers : (p : Plan) → IsFor g p → CoreNumbers g (λ s. get_or p.numbers s 0)
  unfolding plan_of
  for_numbers p is s h = ap (λ xs. get_or xs s 0) is.numbers ∙ get_or-map-range_with_len (number g) 0 g.size s s 0 h (omega arith)

  for_home_and_up : (p : Plan) → IsFor g p → (s : ℕ) → s < g.size → HasHomeAndUp g p s
  unfolding plan_of
  for_home_and_up p is s h = (
    ap (λ xs. get_or xs s 0) is.homes ∙ get_or-map-range_with_len (home g) 0 g.size s s 0 h (omega arith),
    ap (λ xs. get_or xs s None) is.ups ∙ get_or-map-range_with_len (up g) 0 g.size s s None h (omega arith),
  )

  for_counted : (p : Plan) → IsFor g p → stations p ≡ g.size
  unfolding plan_of
  for_counted p is = ap length is.numbers ∙ length-map-range_with_len (number g) 0 g.size

  module _ (bytes : List ℕ) where
    -- what a verdict says
    abbrev Says : Result (Unit {0}) Refusal → Type 0
    Says (Ok u) = IsSheetFor g bytes
    Says (Err e) = RefusedFor g bytes e

    module _ (small : sized g.size ≡ true) (p : Plan) (is : decode bytes ≡ Ok p) (counted : stations p ≡ g.size) where
      home_verdict : lowest g.size (is_at_fault g p) ≡ None → (o : Option ℕ) → lowest g.size (is_wrong g p) ≡ o → Says (unless_found HomeOrUpWrong o (Ok tt))
      home_verdict faultless None at = record { counted = small; plan = p; is_sheet = is; is_for = passed_for p (accepted bytes p is).0 counted faultless at }
      home_verdict faultless (Some s) at =
          record {
            counted = small;
            plan = p;
            is_sheet = is;
            fails = (faultless_right p (accepted bytes p is).0 counted faultless, lowest_fails g (is_wrong g p) (HasHomeAndUp g p) s (right_is g p) (is_right g p s) at);
          }

      fault_verdict : (o : Option ℕ) → lowest g.size (is_at_fault g p) ≡ o → Says (unless_found StationAtFault o (unless_found HomeOrUpWrong (lowest g.size (is_wrong g p)) (Ok tt)))
      fault_verdict None at = home_verdict at (lowest g.size (is_wrong g p)) refl
      fault_verdict (Some s) at =
          record { counted = small; plan = p; is_sheet = is; fails = (counted, lowest_fails g (is_at_fault g p) (λ t. is_at_fault g p t ≡ false) s (λ t e. e) (λ e. e) at) }

    bytes_verdict : sized g.size ≡ true → (r : Result Plan ℕ) → decode bytes ≡ r → Says (sheet_verdict g r)
    bytes_verdict small (Err place) is = (small, is)
    bytes_verdict small (Ok p) is =
        by_cases (eqb (stations p) g.size)
        (λ e. rw e (fault_verdict small p is (eqb-true _ _ e) (lowest g.size (is_at_fault g p)) refl))
        (λ e. rw e (record { counted = small; plan = p; is_sheet = is; fails = λ d. both_ways (eqb (stations p) g.size) e (eq-eqb _ _ d) }))

    verdict : Says (inspected g bytes)
    verdict = by_cases (sized g.size) (λ e. rw e (bytes_verdict e (decode bytes) refl)) (λ e. rw e e)

    -- a sheet for the site passes
    sheet_passes : IsSheetFor g bytes → inspected g bytes ≡ Ok tt
    sheet_passes is =
        let p = is.plan in
        let counted = for_counted p is.is_for in
        let same : eqb (stations p) g.size ≡ true = eq-eqb _ _ counted in
        let each = each_once p (accepted bytes p is.is_sheet).0 counted in
        let order = rightful_alike g p.order each (number g) (λ s. get_or p.numbers s 0) (λ s h. sym (for_numbers p is.is_for s h)) is.is_for.order in
        let faultless = (faultless_means g law (λ s. get_or p.numbers s 0) p.order each).1 (for_numbers p is.is_for) order in
        let no_fault : lowest g.size (is_at_fault g p) ≡ None = lowest_absent g.size (is_at_fault g p) faultless in
        let none_wrong : lowest g.size (is_wrong g p) ≡ None = lowest_absent g.size (is_wrong g p) (λ s h. is_right g p s (for_home_and_up p is.is_for s h)) in
        rw (is.counted, is.is_sheet, same, no_fault, none_wrong) refl

  passes_says : (bytes : List ℕ) → inspected g bytes ≡ Ok tt → IsSheetFor g bytes
  passes_says bytes e = rw e at (verdict bytes)

pub what_passes_is_for_the_site : WhatPassesIsForTheSite
what_passes_is_for_the_site g law bytes = (passes_says g law bytes, sheet_passes g law bytes)

pub each_refusal_says_what_is_wrong : EachRefusalSaysWhatIsWrong
each_refusal_says_what_is_wrong g law bytes e is = rw is at (verdict g law bytes)

pub the_sheet_of_a_site_passes : TheSheetOfASitePasses
unfolding plan_of
the_sheet_of_a_site_passes g law small =
    sheet_passes g law (sheet_of g) (record {
      counted = small;
      plan = plan_of g;
      is_sheet = (site_plans g law small).1;
      is_for = record { numbers = refl; homes = refl; ups = refl; order = drawn_rightful g };
    })

pub passed_numbers_are_the_greatest : PassedNumbersAreTheGreatest
passed_numbers_are_the_greatest g law bytes p passes is s h =
    let passed = passes_says g law bytes passes in
    let same : passed.plan ≡ p = (let d = sym passed.is_sheet ∙ is in cc) in
    let own : get_or p.numbers s 0 ≡ number g s = ap (λ q. get_or q.numbers s 0) (sym same) ∙ for_numbers g law passed.plan passed.is_for s h in
    rw own (number_greatest g s h)
