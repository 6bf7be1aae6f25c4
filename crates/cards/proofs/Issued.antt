-- The cards of what was read, and what they mean.
use Rattle.std.proofs.Common.{◌≡◌, ℕ, ◌*◌, ◌<◌, ◌≤◌, Bool, true, false, cond, eqb, leb, List, length, get_or, take, None, Ok, Err, Result, sym, refl, ap, ◌∙◌, arith, length-take}
use Rattle.std.proofs.lemmas.Bool.{eqb-true}
use Rattle.std.proofs.lemmas.Bool.Decides.{nat_tests}
use Rattle.std.proofs.lemmas.List.{get_or-map}
use Rattle.std.proofs.lemmas.List.FromFn.{length-map-range_with_len}
use Rattle.refusals.specs.declared.Refusal.{Refusal}
use Rattle.refusals.specs.declared.Refusal.TheVariants.{BufferShort}
use Rattle.cores.specs.Numbers.{number}
use Rattle.cores.proofs.Searches.{by_cases}
use Rattle.view.specs.Answers.{with_room}
use Rattle.view.specs.Ups.{up_in_table, up_meant}
use Rattle.sheet.specs.Plans.{Plan, stations, entry}
use Rattle.sheet.specs.Calls.{plan_in}
use Rattle.sheet.specs.Decoding.{decode}
use Rattle.sheet.specs.Sites.{plan_of}
use Rattle.inspector.proofs.Claims.{read_as}
use Rattle.inspector.proofs.Verdicts.{decoded}
use Rattle.inspector.proofs.Passes.{what_passes_is_for_the_site}
use Rattle.cards.specs.Cards.{card_by, card, cards_of, issued_for, issued}
use Rattle.cards.specs.Parts.{cards_in}
use Rattle.cards.specs.Meaning.{PassedSheetsAreSheets, CardsAreThoseOfTheSite, EachCardIsHomeOrUp}
use Rattle.cards.proofs.Runs.{cards_alike, length-cards_before, card_stands}

-- an up is put back into a table as it was there
back_in_table : (u : ℕ) → up_in_table (up_meant u) ≡ u
back_in_table u = by_cases (eqb u 65535) (λ e. rw e (sym (eqb-true u 65535 e))) (λ e. rw e refl)

-- the cards by tables are those of the plan that they hold
pub cards_of_tables : (numbers homes ups order : List ℕ) → length homes ≡ length numbers → length ups ≡ length numbers
    → cards_in homes ups ≡ cards_of (plan_in numbers homes ups order)
unfolding cards_in cards_of card
cards_of_tables numbers homes ups order homes_long ups_long =
    rw homes_long (cards_alike _ (card (plan_in numbers homes ups order)) (length numbers) (λ s h.
    ap (card_by s (get_or homes s 0)) (sym (ap up_in_table (get_or-map up_meant ups s 0 None (omega arith)) ∙ back_in_table (get_or ups s 0)))))

-- for bytes that read refuses none are issued
pub refused : (bytes : List ℕ) (room : ℕ) (e : Refusal) → Err e ≡ read_as (decode bytes) → issued bytes room ≡ Err e
refused bytes room e is = go (decode bytes) is
  where
    go : (r : Result Plan ℕ) → Err e ≡ read_as r → issued_for room r ≡ Err e
    go (Err place) d = cc
    go (Ok p) d = absurd cc

-- and for a sheet those by the tables that were read
pub issued_tables : (bytes numbers homes ups order : List ℕ) (n room : ℕ) → Ok (plan_in (take n numbers) (take n homes) (take n ups) (take n order)) ≡ read_as (decode bytes)
    → n ≤ length numbers → n ≤ length homes → n ≤ length ups → issued bytes room ≡ with_room (2 * n) room (cards_in (take n homes) (take n ups))
issued_tables bytes numbers homes ups order n room is numbers_within homes_within ups_within =
    let p = plan_in (take n numbers) (take n homes) (take n ups) (take n order) in
    let on_sheet : decode bytes ≡ Ok p = decoded bytes p is in
    let counted : length (take n numbers) ≡ n = omega (arith, length-take n numbers) in
    let cards = cards_of_tables (take n numbers) (take n homes) (take n ups) (take n order) (omega (arith, counted, length-take n homes)) (omega (arith, counted, length-take n ups)) in
    rw (on_sheet, cards, counted) refl

pub length-cards_in : (homes ups : List ℕ) → length (cards_in homes ups) ≡ 2 * length homes
unfolding cards_in
length-cards_in homes ups = length-cards_before _ (length homes)

-- what is refused for want of room
short : {A : Type 0} (needed room : ℕ) (x : A) (e : Refusal) → with_room needed room x ≡ Err e → (e ≡ BufferShort needed) × (room < needed)
short needed room x e is = go (leb needed room) refl is
  where
    go : (fits : Bool) → leb needed room ≡ fits → cond fits (Ok x) (Err (BufferShort needed)) ≡ Err e → (e ≡ BufferShort needed) × (room < needed)
    go true fits d = absurd cc
    go false fits d = (cc, grind (arith, nat_tests))

pub passed_sheets_are_sheets : PassedSheetsAreSheets
passed_sheets_are_sheets g law bytes passes =
    let is = (what_passes_is_for_the_site g law bytes).0 passes in
    record {
      plan = is.plan;
      is_sheet = is.is_sheet;
      refused = λ room e refuses. short (2 * stations is.plan) room (cards_of is.plan) e (rw is.is_sheet at refuses);
    }

-- plans with the same homes and ups, for as many stations, have the same cards
same_cards : (p q : Plan) → stations p ≡ stations q → p.homes ≡ q.homes → p.ups ≡ q.ups → cards_of p ≡ cards_of q
unfolding cards_of card
same_cards p q counted homes ups = rw counted (cards_alike (card p) (card q) (stations q) (λ s h. rw (homes, ups) refl))

pub cards_are_those_of_the_site : CardsAreThoseOfTheSite
unfolding plan_of
cards_are_those_of_the_site g law bytes room passes =
    let is = (what_passes_is_for_the_site g law bytes).0 passes in
    let p = is.plan in
    let counted : stations p ≡ g.size = ap length is.is_for.numbers ∙ length-map-range_with_len (number g) 0 g.size in
    let cards : cards_of p ≡ cards_of (plan_of g) = same_cards p (plan_of g) (ap length is.is_for.numbers) is.is_for.homes is.is_for.ups in
    rw (is.is_sheet, counted, cards) refl

pub each_card_is_home_or_up : EachCardIsHomeOrUp
unfolding cards_of card
each_card_is_home_or_up p = record {
  long = length-cards_before (card p) (stations p);
  bytes = card_stands (card p) (stations p);
  of_member = λ s other. let fails : eqb (entry p s).home s ≡ false = grind (arith, nat_tests) in rw fails refl;
  of_home = λ s u own is. let same : eqb (entry p s).home s ≡ true = grind (arith, nat_tests) in rw (same, is) refl;
  of_last = λ s own none. let same : eqb (entry p s).home s ≡ true = grind (arith, nat_tests) in rw (same, none) refl;
}
