-- What follows of a site whose plan is known: its sheet, its levels and what is chosen, and who moves.
use Rattle.std.proofs.Common.{◌≡◌, ℕ, suc, true, not, eqb, List, length, map, filter, get_or, Ordering, Ok, Option, sym, ap, ◌∙◌, inl, inr, arith}
use mathlib.Core.Path.{fun_ext}
use Rattle.std.specs.List.{range_with_len}
use Rattle.std.specs.Ordering.{int_cmp}
use Rattle.std.proofs.lemmas.List.{get_or_past}
use Rattle.std.proofs.lemmas.List.FromFn.{length-map-range_with_len, get_or-map-range_with_len}
use Rattle.std.proofs.lemmas.Bool.{cases_lt}
use Rattle.cores.specs.Counting.{some, greatest}
use Rattle.cores.specs.Site.{Site, sized}
use Rattle.cores.specs.Numbers.{Group, number, in_core}
use Rattle.cores.specs.Links.{moves}
use Rattle.cores.proofs.Numbers.{number_off_site}
use Rattle.worked.specs.Sites.{PlanOf}
use Rattle.worked.proofs.Tables.{claimed, core_by, core_same}
use Rattle.sheet.specs.Plans.{Plan}
use Rattle.sheet.specs.Encoding.{encode}
use Rattle.sheet.specs.Sites.{plan_of, sheet_of}
use Rattle.rules.specs.declared.counts.Counts.{Counts}
use Rattle.rules.specs.declared.tally.Tally.{Tally}
use Rattle.rules.specs.Levels.{counts_of, top, levels}
use Rattle.rules.specs.Scores.{average, by_fraction, net}
use Rattle.rules.specs.Choices.{score_of, is_above, choice_answer}
use Rattle.shown.specs.Sites.{weights, AverageAndNetChoose, moved}

-- the plan as its four lists
abbrev pub listed : List ℕ → List ℕ → List (Option ℕ) → List ℕ → Plan
listed numbers homes ups order = record { numbers = numbers; homes = homes; ups = ups; order = order }

-- the levels by the groups that stand for the core sets
abbrev pub levels_by : Site → (ℕ → Group) → List Counts
levels_by g core = map (λ k. counts_of g (core k)) (range_with_len 0 (suc (greatest g.size (λ k. some g.size (core k)))))

-- and the level that is chosen of them
abbrev pub chosen_by : {Score : Type 0} → Site → (Tally → Score) → (Score → Score → Ordering) → (ℕ → Group) → ℕ
chosen_by {Score = Score} g score order core =
    let top : ℕ = greatest g.size (λ k. some g.size (core k)) in
    let scores : ℕ → Option Score = λ k. score_of score (counts_of g (core k)) in
    greatest top (λ k. not (some (suc top) (λ j. is_above order (scores j) (scores k))))

-- the stations that move, by numbers before and after
abbrev pub moved_by : ℕ → (ℕ → ℕ) → (ℕ → ℕ) → List (ℕ × ℕ × ℕ)
moved_by n c d = map (λ s. (s, c s, d s)) (filter (λ s. not (eqb (c s) (d s))) (range_with_len 0 n))

module _ {g : Site} {numbers homes : List ℕ} {ups : List (Option ℕ)} {order : List ℕ} (is : PlanOf g numbers homes ups order) where
  pub sheeted : sheet_of g ≡ encode (listed numbers homes ups order)
  unfolding plan_of
  sheeted = λ i. encode (listed (is.numbered i) (is.housed i) (is.raised i) (is.ordered i))

  long : length numbers ≡ g.size
  long = sym (ap length is.numbered) ∙ length-map-range_with_len (number g) 0 g.size

  pub number_is : number g ≡ claimed numbers
  number_is = fun_ext (λ s. elim (cases_lt s g.size) [
    | inl on ↦ sym (get_or-map-range_with_len (number g) 0 g.size s s 0 on (omega arith)) ∙ ap (λ xs. get_or xs s 0) is.numbered
    | inr off ↦ number_off_site g s off ∙ sym (get_or_past numbers s 0 (omega (arith, long)))
  ])

  cores_are : in_core g ≡ core_by g (claimed numbers)
  cores_are = fun_ext (λ k. fun_ext (core_same g (claimed numbers) number_is k))

  pub levels_are : levels g ≡ levels_by g (core_by g (claimed numbers))
  unfolding levels top
  levels_are = ap (levels_by g) cores_are

  module _ (large : sized g.size ≡ true) where
    pub chosen : {Score : Type 0} (score : Tally → Score) (order : Score → Score → Ordering) {k : ℕ}
        → chosen_by g score order (core_by g (claimed numbers)) ≡ k → choice_answer g score order ≡ Ok k
    unfolding top
    chosen score order best = rw large (ap Ok (ap (chosen_by g score order) cores_are ∙ best))

    pub both_chosen : {a n : ℕ} → chosen_by g average by_fraction (core_by g (claimed numbers)) ≡ a
        → chosen_by g (net (weights 1 1 1)) int_cmp (core_by g (claimed numbers)) ≡ n → AverageAndNetChoose g a n
    both_chosen best most = (chosen average by_fraction best, chosen (net (weights 1 1 1)) int_cmp most)

pub moved_are : (old new : Site) (c d : ℕ → ℕ) → number old ≡ c → number new ≡ d → moved old new ≡ moved_by old.size c d
unfolding moves
moved_are old new c d before after = λ i. moved_by old.size (before i) (after i)
