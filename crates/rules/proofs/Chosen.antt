-- The level that is chosen, by a lawful order.
use Rattle.std.proofs.Common.{◌≡◌, ℕ, zero, suc, ◌+◌, ◌<◌, ◌≤◌, Bool, true, false, not, Option, Some, Ordering, Less, Equal, Greater, is_gt, true≢false, List, ◌∷◌, map, refl, sym, ap, ap₂, ◌∙◌, subst, inl, inr, le_antisymm, below_more, add-zero, one-add, arith}
use Rattle.std.proofs.lemmas.Bool.{both_ways, cases_lt}
use Rattle.std.proofs.lemmas.Cmp.{upto, tied_itself, tied_back}
use Rattle.std.specs.Cmp.{IsTotalOrder}
use Rattle.std.specs.Ordering.{ordering_reverse, max_by_ordering}
use Rattle.std.specs.Option.{option_map, option_map_or}
use Rattle.std.specs.List.{fold, reduce, filter_map, enumerate_from, range_with_len}
use Rattle.rules.specs.declared.counts.Counts.{Counts}
use Rattle.rules.specs.declared.tally.Tally.{Tally}
use Rattle.cores.specs.Counting.{some, greatest}
use Rattle.cores.specs.Site.{Site, Lawful, sized}
use Rattle.cores.specs.Numbers.{in_core}
use Rattle.cores.proofs.Searches.{by_cases, some_found, some_one}
use Rattle.rules.specs.Levels.{counts_of, top, levels}
use Rattle.rules.specs.Tallies.{counts_in}
use Rattle.rules.specs.Orders.{LawfulOrder}
use Rattle.rules.specs.OrderLaws.{total_lawful}
use Rattle.rules.specs.Choices.{score_of, scores_above, choice, IsTallyOf, IsChoice}
use Rattle.rules.proofs.Heard.{levels_within}
use Rattle.rules.proofs.Tallied.{tally_is}

-- the score of a level that comes with its number, with that number
abbrev pub scored : {Score : Type 0} → (Tally → Score) → ℕ × Counts → Option (ℕ × Score)
scored score level = option_map (λ s. (level.0, s)) (score_of score level.1)

-- of two levels with their scores, the one that stands above, and the second where they are level
abbrev better : {Score : Type 0} → (Score → Score → Ordering) → ℕ × Score → ℕ × Score → ℕ × Score
better order a b = max_by_ordering (order a.1 b.1) a b

-- the level that the code finds: the best of them, from 0 up
abbrev folded : {Score : Type 0} → Site → (Tally → Score) → (Score → Score → Ordering) → ℕ
folded g score order = option_map_or (λ best. best.0) (reduce (better order) (filter_map (scored score) (enumerate_from 0 (levels g)))) 0

-- where no number up to n passes
none_passes : (n : ℕ) (p : ℕ → Bool) → ((k : ℕ) → k ≤ n → p k ≡ false) → some (suc n) p ≡ false
none_passes n p none = by_cases (some (suc n) p) (λ e. let (k, h, passes) = some_one (suc n) p e in absurd (both_ways (p k) (none k (omega arith)) passes)) (λ e. e)

-- the greatest is the one that passes, where none that is greater does
greatest_is : (n k : ℕ) (p : ℕ → Bool) → k ≤ n → p k ≡ true → ((j : ℕ) → j ≤ n → k < j → p j ≡ false) → greatest n p ≡ k
unfolding greatest
greatest_is zero k p low passes most = omega arith
greatest_is (suc n) k p low passes most = let below = greatest_is n k p in let last = most (suc n) in grind arith

-- where neither is above the other, they are level
neither_above : (r : Ordering) → is_gt r ≡ false → is_gt (ordering_reverse r) ≡ false → r ≡ Equal
neither_above Less up down = absurd (true≢false down)
neither_above Equal up down = refl
neither_above Greater up down = absurd (true≢false up)

-- scores in a row, by a lawful order
module _ {Score : Type 0} (order : Score → Score → Ordering) (law : LawfulOrder order) (s : ℕ → Score) where
  -- a lawful order has the laws of std
  total : IsTotalOrder order
  total = total_lawful law

  -- of the scores below n, none stands above that of k, and those behind it stand below
  record Leads (n k : ℕ) : Type 0 where
    pub low : k < n
    pub best : (j : ℕ) → j < n → is_gt (order (s j) (s k)) ≡ false
    pub last : (j : ℕ) → j < n → k < j → order (s k) (s j) ≡ Greater

  level_with_itself : (k : ℕ) → is_gt (order (s k) (s k)) ≡ false
  level_with_itself k = ap is_gt (tied_itself total (s k))

  -- the first leads alone
  first : Leads 1 0
  first = record { low = omega arith; best = λ j h. let e : j ≡ 0 = omega arith in rw e (level_with_itself 0); last = λ j h more. absurd (omega arith) }

  -- and where k leads, the better of it and the next leads
  module _ (n k : ℕ) (leads : Leads n k) where
    kept : order (s k) (s n) ≡ Greater → Leads (n + 1) k
    kept above = record {
      low = omega (arith, leads.low);
      best = below_more _ _ leads.best (ap is_gt (law.swapped (s k) (s n) ∙ ap ordering_reverse above));
      last = below_more _ _ leads.last (λ _. above);
    }

    taken : is_gt (order (s k) (s n)) ≡ false → Leads (n + 1) n
    taken not_above = record {
      low = omega arith;
      best = below_more _ _ (λ j h. upto total (s j) (s k) (s n) (leads.best j h) not_above) (level_with_itself n);
      last = λ j h more. absurd (omega arith);
    }

    led_on : (o : Ordering) → order (s k) (s n) ≡ o → (next : ℕ) × (◌≡◌ {A = ℕ × Score} (max_by_ordering o (k, s k) (n, s n)) (next, s next)) × Leads (n + 1) next
    led_on Less e = (n, refl, taken (ap is_gt e))
    led_on Equal e = (n, refl, taken (ap is_gt e))
    led_on Greater e = (k, refl, kept e)

  -- scores with their places, from n on
  abbrev from : ℕ → ℕ → List (ℕ × Score)
  from n many = map (λ k. (k, s k)) (range_with_len n many)

  -- so the fold over them gives the one that leads all
  led : (many n k : ℕ) → Leads n k → (last : ℕ) × (◌≡◌ {A = ℕ × Score} (fold (better order) (k, s k) (from n many)) (last, s last)) × Leads (n + many) last
  led zero n k leads = (k, refl, rw add-zero leads)
  led (suc many) n k leads =
      let (next, is, on) = led_on n k leads _ refl in
      let (last, ends, led) = led many (n + 1) next on in
      let more : n + 1 + many ≡ n + suc many = omega arith in
      (last, ap (λ at. fold (better order) at (from (n + 1) many)) is ∙ ends, subst (λ m. Leads m last) more led)

module _ {Score : Type 0} (g : Site) (score : Tally → Score) (order : Score → Score → Ordering) (law : LawfulOrder order) where
  abbrev level : ℕ → Counts
  level k = counts_of g (in_core g k)

  -- a level scores what its tally does
  scored_by : (k : ℕ) (tally : Tally) → counts_in tally ≡ level k → score_of score (level k) ≡ Some (score tally)
  scored_by k tally its = ap (score_of score) (sym its) ∙ ap (option_map score) (tally_is tally)

  -- every level of a lawful site of 1 to 512 stations has a tally
  module _ (lawful : Lawful g) (small : sized g.size ≡ true) where
    tallies : (k : ℕ) → k ≤ top g → (tally : Tally) × IsTallyOf g k tally
    tallies k h = (record { counts = level k; fits = levels_within g lawful small k h }, (h, refl))

    -- and so a score, which above the top is that of level 0
    s : ℕ → Score
    s k = option_map_or (λ x. x) (score_of score (level k)) (score (tallies 0 (omega arith)).0)

    scores : (k : ℕ) → k ≤ top g → score_of score (level k) ≡ Some (s k)
    unfolding s
    scores k h = let (tally, at) = tallies k h in rw (scored_by k tally at.1) refl

    listed : (many n : ℕ) → n + many ≤ suc (top g) → filter_map (scored score) (enumerate_from n (map level (range_with_len n many))) ≡ from order law s n many
    listed zero n h = refl
    listed (suc many) n h = rw (scores n (omega arith)) (ap (λ rest. (n, s n) ∷ rest) (listed many (n + 1) (omega arith)))

    -- the one that leads is found
    leads : Leads order law s (suc (top g)) (folded g score order)
    unfolding levels
    leads = let (last, is, on) = led order law s (top g) 1 0 (first order law s) in rw (listed (suc (top g)) 0 (omega arith), is) (rw one-add at on)

    low : folded g score order ≤ top g
    low = omega (arith, leads.low)

    -- no level scores above it, and it scores above each that is greater
    pub folded_is : folded g score order ≡ choice g score order
    folded_is =
        let k = folded g score order in
        let stands : (i j : ℕ) → i ≤ top g → j ≤ top g → scores_above g score order i j ≡ is_gt (order (s i) (s j)) = λ i j h l. rw (scores i h, scores j l) refl in
        let free = none_passes (top g) (λ i. scores_above g score order i k) (λ j h. stands j k h low ∙ leads.best j (omega arith)) in
        let under = λ (j : ℕ) (h : j ≤ top g) (more : k < j). some_found (suc (top g)) (λ i. scores_above g score order i j) k leads.low (stands k j low h ∙ ap is_gt (leads.last j (omega arith) more)) in
        sym (greatest_is (top g) k _ low (ap not free) (λ j h more. ap not (under j h more)))

    -- a tally of a level scores as the level does
    at_place : (j : ℕ) (tally : Tally) → IsTallyOf g j tally → score tally ≡ s j
    at_place j tally at = ap (λ o. option_map_or (λ x. x) o (s j)) (sym (scored_by j tally at.1) ∙ scores j at.0)

    pub choice_best : IsChoice g score order (choice g score order)
    choice_best =
        let k = folded g score order in
        let (tally, its) = tallies k low in
        let stands : (j : ℕ) (other : Tally) → IsTallyOf g j other → order (score other) (score tally) ≡ order (s j) (s k) = λ j other at. ap₂ order (at_place j other at) (at_place k tally its) in
        let not_under : (j : ℕ) (other : Tally) → IsTallyOf g j other → order (score other) (score tally) ≡ Equal → is_gt (order (s k) (s j)) ≡ false = λ j other at e.
        ap is_gt (law.swapped (s j) (s k) ∙ ap ordering_reverse (sym (stands j other at) ∙ e)) in
        subst (IsChoice g score order) folded_is (record {
          tally = tally;
          its = its;
          best = λ j other at. ap is_gt (stands j other at) ∙ leads.best j (omega (arith, at.0));
          greatest = λ j other at e. elim (cases_lt k j) [
            | inl more ↦ absurd (both_ways _ (not_under j other at e) (ap is_gt (leads.last j (omega (arith, at.0)) more)))
            | inr less ↦ less
          ];
        })

  -- of two choices, neither scores above the other and neither is greater
  pub choice_only : (j k : ℕ) → IsChoice g score order j → IsChoice g score order k → j ≡ k
  choice_only j k a b =
      let up = b.best j a.tally a.its in
      let down = a.best k b.tally b.its in
      let level : order (score a.tally) (score b.tally) ≡ Equal = neither_above _ up (ap is_gt (sym (law.swapped _ _)) ∙ down) in
      le_antisymm (b.greatest j a.tally a.its level) (a.greatest k b.tally b.its (tied_back (total_lawful law) _ _ level))
