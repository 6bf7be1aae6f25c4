-- What the promises of the calls come to together.
use Rattle.std.proofs.Common.{◌≡◌, ℕ, ◌≤◌, true, List, ◌++◌, length, get_or, drop, None, Ok, Err, Result, sym, refl, ap, ◌∙◌, arith}
use Rattle.std.proofs.lemmas.Bool.Decides.{nat_tests}
use Rattle.std.proofs.lemmas.List.{take_at}
use Rattle.std.proofs.lemmas.List.FromFn.{length-map-range_with_len, get_or-map-range_with_len}
use Rattle.std.specs.declared.cmp.Ordering.{Ordering}
use Rattle.refusals.specs.declared.Refusal.{Refusal}
use Rattle.cores.specs.Site.{Site, Lawful, sized}
use Rattle.cores.specs.Numbers.{number, in_core}
use Rattle.cores.specs.Forest.{home, up}
use Rattle.cores.proofs.Searches.{by_cases}
use Rattle.cores.proofs.Sites.{same_site}
use Rattle.view.specs.Answers.{answer, left_in}
use Rattle.view.proofs.Admitted.{sized_within, within_sized}
use Rattle.sheet.specs.Plans.{stations}
use Rattle.sheet.specs.Sites.{plan_of, sheet_of}
use Rattle.sheet.proofs.SheetLaws.{accepted}
use Rattle.sheet.proofs.Lengths.{encode_between}
use Rattle.sheet.proofs.SiteLaws.{site_plans}
use Rattle.drawer.specs.Calls.{written_for}
use Rattle.inspector.specs.Inspecting.{inspected}
use Rattle.inspector.proofs.Passes.{what_passes_is_for_the_site, the_sheet_of_a_site_passes, passed_numbers_are_the_greatest}
use Rattle.agreement.specs.Sheets.{sheet_if_any, judged, Carries, CarriesGreatest}
use Rattle.book.specs.declared.book.Book.{Book}
use Rattle.book.specs.Books.{site, stored}
use Rattle.rules.specs.declared.tally.Tally.{Tally}
use Rattle.rules.specs.Orders.{LawfulOrder}
use Rattle.rules.specs.Levels.{counts_of, top}
use Rattle.rules.specs.Choices.{IsTallyOf, IsChoice, choice, choice_answer}
use Rattle.rules.proofs.Heard.{levels_within}
use Rattle.rules.proofs.Chosen.{choice_best}
use Rattle.agreement.specs.declared.call.Call.{Call}
use Rattle.agreement.specs.declared.call.Call.TheVariants.{Link, Unlink}
use Rattle.agreement.specs.declared.replaying.Outcome.{Outcome}
use Rattle.agreement.specs.Calls.{Answer, site_after, answers_to}
use Rattle.agreement.specs.Parts.{MovedThroughout, front_of}
use Rattle.agreement.specs.Agreement.{Matches, Agreement}

module _ (g : Site) (law : Lawful g) (few : g.size ≤ 512) where
  -- the longest buffer has room for the sheet
  sheet_fits : sized g.size ≡ true → length (sheet_of g) ≤ 3586
  sheet_fits small = let (well, read) = site_plans g law small in omega (arith, encode_between (plan_of g) well, sized_within (stations (plan_of g)) well.counted)

  pub written_is : (room : ℕ) → room ≡ 3586 → written_for g room (sheet_of g) ≡ sheet_if_any g
  written_is room long =
      by_cases (sized g.size)
      (λ small. let fits = sheet_fits small in grind (arith, nat_tests))
      (λ large. grind (arith, nat_tests))

-- what was written to the buffer is the sheet
front_is : (outcome : Result (List ℕ) Refusal) (buffer : List ℕ) → front_of (left_in (λ bytes. bytes) outcome buffer) (answer length outcome) ≡ outcome
front_is (Ok bytes) buffer = ap Ok (take_at bytes _ (length bytes) refl)
front_is (Err e) buffer = refl

module _ (g : Site) (law : Lawful g) (bytes : List ℕ) (passed : inspected g bytes ≡ Ok tt) where
  -- what passes carries the plan of the site
  pub carries : Carries g bytes
  unfolding plan_of
  carries =
      let is = (what_passes_is_for_the_site g law bytes).0 passed in
      let counted = ap length is.is_for.numbers ∙ length-map-range_with_len (number g) 0 g.size in
      record {
        plan = is.plan;
        read = is.is_sheet;
        counted = counted;
        numbers = λ s h. ap (λ xs. get_or xs s 0) is.is_for.numbers ∙ get_or-map-range_with_len (number g) 0 g.size s s 0 h (omega arith);
        homes = λ s h. ap (λ xs. get_or xs s 0) is.is_for.homes ∙ get_or-map-range_with_len (home g) 0 g.size s s 0 h (omega arith);
        ups = λ s h. ap (λ xs. get_or xs s None) is.is_for.ups ∙ get_or-map-range_with_len (up g) 0 g.size s s None h (omega arith);
        each_once = rw counted at (accepted bytes is.plan is.is_sheet).0.each_once;
        in_order = is.is_for.order;
      }

  -- and the greatest numbers
  pub carries_greatest : CarriesGreatest g bytes
  carries_greatest =
      let is = carries in
      record { plan = is.plan; read = is.read; counted = is.counted; greatest = passed_numbers_are_the_greatest g law bytes is.plan passed is.read }

-- a view of the same links
module _ (g shown : Site) (law : Lawful g) (law_shown : Lawful shown) (few : g.size ≤ 512) (match : Matches g shown) where
  -- past the last station there are no links on either site
  same_links : (s t : ℕ) → g.linked s t ≡ shown.linked s t
  same_links s t = by_cases (g.linked s t)
      (λ linked. let (on_s, on_t) = law.inside s t linked in match.links s t on_s on_t)
      (λ apart. by_cases (shown.linked s t)
      (λ linked. let (on_s, on_t) = law_shown.inside s t linked in match.links s t (rw match.size on_s) (rw match.size on_t))
      (λ apart_too. apart ∙ sym apart_too))

  same : shown ≡ g
  same = sym (same_site g shown match.size same_links)

  small : sized g.size ≡ true
  small = within_sized g.size match.has_stations few

  pub sheet_passes : judged shown (sheet_if_any g) ≡ Ok tt
  sheet_passes =
      let some : sheet_if_any g ≡ Ok (sheet_of g) = (let more = match.has_stations in grind (arith, nat_tests)) in
      rw (some, same) (the_sheet_of_a_site_passes g law small)

  pub offered_carries : (bytes : List ℕ) → inspected shown bytes ≡ Ok tt → Carries g bytes
  offered_carries bytes passed = carries g law bytes (rw same at passed)

  -- and the choice
  pub levels_agree : {Score : Type 0} (score : Tally → Score) (order : Score → Score → Ordering) → LawfulOrder order
      → (k : ℕ) × (choice_answer g score order ≡ Ok k) × (choice_answer shown score order ≡ Ok k) × IsChoice g score order k
  levels_agree score order lawful =
      let chosen : choice_answer g score order ≡ Ok (choice g score order) = rw small refl in
      (choice g score order, chosen, rw same chosen, choice_best g score order lawful law small)

  -- among all levels
  pub levels_compared : (k : ℕ) → k ≤ top g → (tally : Tally) × IsTallyOf g k tally
  levels_compared k low = (record { counts = counts_of g (in_core g k); fits = levels_within g law small k low }, (low, refl))

-- What a run promises follows from what its steps promise.
module _ (calls : List Call) (shown : Site) (law_shown : Lawful shown) {Score : Type 0} (score : Tally → Score) (order : Score → Score → Ordering) (lawful : LawfulOrder order)
    (offered : List ℕ) (answers answered : List Answer) (buffer left : List ℕ) (book : Book) (run : Outcome) where
  pub agreed : site book ≡ site_after calls → answered ≡ answers_to calls ++ drop (length calls) answers → MovedThroughout calls → length buffer ≡ 3586
      → run.book ≡ book → run.sheet_length ≡ answer length (written_for (site book) (length buffer) (sheet_of (site book)))
      → left ≡ left_in (λ bytes. bytes) (written_for (site book) (length buffer) (sheet_of (site book))) buffer
      → run.sheet_verdict ≡ judged shown (front_of left run.sheet_length) → run.offered_verdict ≡ inspected shown offered
      → run.book_level ≡ choice_answer (site book) score order → run.view_level ≡ choice_answer shown score order
      → Agreement calls shown score order offered answers answered buffer left run
  agreed is noted moved room its long written sheet_judged offered_judged book_chooses view_chooses =
      let sound = book.current.sound in
      let g = site_after calls in
      let law : Lawful g = rw is at sound.faithful.lawful in
      let few : g.size ≤ 512 = omega (arith, sound.few, ap (λ h. h.size) is) in
      let sheet : written_for (site book) (length buffer) (sheet_of (site book)) ≡ sheet_if_any g =
      ap (λ h. written_for h (length buffer) (sheet_of h)) is ∙ written_is g law few (length buffer) room in
      let length_is : run.sheet_length ≡ answer length (sheet_if_any g) = long ∙ ap (answer length) sheet in
      let sheet_is : left ≡ left_in (λ bytes. bytes) (sheet_if_any g) buffer = written ∙ ap (λ w. left_in (λ bytes. bytes) w buffer) sheet in
      let verdict : run.sheet_verdict ≡ judged shown (sheet_if_any g) =
      sheet_judged ∙ ap (judged shown) (rw (length_is, sheet_is) (front_is (sheet_if_any g) buffer)) in
      let chosen : run.book_level ≡ choice_answer g score order = book_chooses ∙ ap (λ h. choice_answer h score order) is in
      record {
        site_is = ap site its ∙ is;
        numbers_are = λ s h. ap (λ b. stored b s) its ∙ book.current.right s ∙ ap (λ g. number g s) is;
        answers_are = noted;
        links_lift = λ i a b. moved i (Link a b);
        unlinks_lower = λ i a b. moved i (Unlink a b);
        length_is = length_is;
        sheet_is = sheet_is;
        sheet_judged = verdict;
        offered_judged = offered_judged;
        book_chooses = chosen;
        view_chooses = view_chooses;
        sheet_passes = λ match. verdict ∙ sheet_passes g shown law law_shown few match;
        offered_carries = λ match passed. offered_carries g shown law law_shown few match offered (sym offered_judged ∙ passed);
        levels_agree = λ match.
            let (k, book, view, best) = levels_agree g shown law law_shown few match score order lawful in
            (k, chosen ∙ book, view_chooses ∙ view, best);
        levels_compared = λ match. levels_compared g shown law law_shown few match;
        offered_greatest = λ passed. carries_greatest shown law_shown offered (sym offered_judged ∙ passed);
      }
