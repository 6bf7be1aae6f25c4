-- Calls that are carried out one after the other.
use Rattle.std.proofs.Common.{◌≡◌, ℕ, zero, suc, ◌+◌, ◌<◌, List, [], ◌∷◌, ◌++◌, Some, length, get_or, set, take, drop, sym, refl, ap, ◌∙◌, inl, inr, arith, add-one}
use Rattle.std.specs.List.{slice_get}
use Rattle.std.proofs.lemmas.Bool.{cases_eq}
use Rattle.std.proofs.lemmas.List.{map-id}
use Rattle.std.proofs.lemmas.Option.{get_or_from_slice_get}
use Rattle.sheet.proofs.Runs.{Filled, Filled-none, Filled-more, Filled-all}
use Rattle.cores.specs.Site.{Site, no_stations}
use Rattle.agreement.specs.declared.call.Call.{Call}
use Rattle.agreement.specs.Parts.{Moves}
use Rattle.agreement.specs.Calls.{Answer, after_call, after_calls, answer_to, answers_by, site_after, answers_to}

answers_length : (calls : List Call) (g : Site) → length (answers_by calls g) ≡ length calls
unfolding answers_by
answers_length [] g = refl
answers_length (call ∷ others) g = ap suc (answers_length others (after_call call g))

-- each call answers for the site that those before it lead to
answer_at : (calls : List Call) (g : Site) (i : ℕ) (c : Call) (d : Answer) → i < length calls → get_or (answers_by calls g) i d ≡ answer_to (get_or calls i c) (after_calls (take i calls) g)
unfolding answers_by after_calls
answer_at [] g i c d h = absurd (omega arith)
answer_at (call ∷ others) g zero c d h = refl
answer_at (call ∷ others) g (suc i) c d h = answer_at others (after_call call g) i c d (omega arith)

-- and leads on from there
site_on : (calls : List Call) (g : Site) (i : ℕ) (c : Call) → i < length calls → after_calls (take (suc i) calls) g ≡ after_call (get_or calls i c) (after_calls (take i calls) g)
unfolding after_calls
site_on [] g i c h = absurd (omega arith)
site_on (call ∷ others) g zero c h = refl
site_on (call ∷ others) g (suc i) c h = site_on others (after_call call g) i c (omega arith)

-- Each of the first i calls moved numbers as it may.
abbrev pub MovedBefore : List Call → ℕ → Type 0
MovedBefore calls i = (j : ℕ) (call : Call) → j < i → slice_get calls j ≡ Some call → Moves call (site_after (take j calls)) (site_after (take (j + 1) calls))

-- The first i calls were carried out: the book holds their site, their answers are noted, and they moved numbers as they may.
pub record Carried (calls : List Call) (old : List Answer) (i : ℕ) (g : Site) (table : List Answer) : Type 0 where
  pub site : g ≡ site_after (take i calls)
  pub noted : Filled (λ a. a) i (answers_to calls) old table
  pub moved : MovedBefore calls i

module _ (calls : List Call) (old : List Answer) where
  pub carried_none : (g : Site) → g ≡ no_stations → Carried calls old 0 g old
  unfolding after_calls
  carried_none g is = record { site = is; noted = Filled-none (λ a. a) (answers_to calls) old; moved = λ j call h at. absurd (omega arith) }

  pub carried_more : (i : ℕ) (d : Call) (g new : Site) (table : List Answer) (answer : Answer) → i < length calls → i < length table
      → answer ≡ answer_to (get_or calls i d) g → new ≡ after_call (get_or calls i d) g → Moves (get_or calls i d) g new
      → Carried calls old i g table → Carried calls old (i + 1) new (set table i answer)
  carried_more i d g new table answer h room answered site moves c =
      let call = get_or calls i d in
      let more : new ≡ site_after (take (i + 1) calls) = rw add-one (site ∙ ap (after_call call) c.site ∙ sym (site_on calls no_stations i d h)) in
      record {
        site = more;
        noted = Filled-more (λ a. a) i (answers_to calls) old table answer answer (omega (arith, answers_length calls no_stations)) room
            (answered ∙ ap (answer_to call) c.site ∙ sym (answer_at calls no_stations i d answer h)) refl c.noted;
        moved = λ j other below at.
            elim (cases_eq j i) [
              | inl same ↦
                  let it : other ≡ call = sym (get_or_from_slice_get calls j other d at) ∙ ap (λ k. get_or calls k d) same in
                  rw (same, it, ← c.site, ← more) moves
              | inr lower ↦ c.moved j other (omega arith) at
            ];
      }

  pub carried_all : (i : ℕ) (g : Site) (table : List Answer) → length calls ≡ i → Carried calls old i g table → table ≡ answers_to calls ++ drop (length calls) old
  carried_all i g table all c =
      Filled-all (λ a. a) i (answers_to calls) old table (answers_length calls no_stations ∙ all) c.noted
      ∙ ap (λ xs. xs ++ drop i old) (map-id (answers_to calls)) ∙ ap (λ k. answers_to calls ++ drop k old) (sym all)
