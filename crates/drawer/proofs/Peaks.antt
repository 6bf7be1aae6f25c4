-- Numbers as they are met along the removals.
use Rattle.std.proofs.Common.{◌≡◌, ℕ, zero, suc, ◌+◌, ◌<◌, ◌≤◌, max, List, ◌++◌, length, get_or, get_or-set_same, get_or-set_other, set, length-set, drop, refl, sym, ap, ◌∙◌, inl, inr, le_antisymm, arith}
use Rattle.std.proofs.lemmas.List.FromFn.{length-map-range_with_len}
use Rattle.std.proofs.lemmas.Bool.{cases_eq}
use Rattle.std.proofs.lemmas.Bool.Decides.{nat_tests}
use Rattle.cores.specs.Counting.{bit}
use Rattle.cores.specs.Site.{Site}
use Rattle.cores.specs.Numbers.{number}
use Rattle.cores.specs.Drawing.{drawn, left_at}
use Rattle.cores.proofs.Entries.{place_of}
use Rattle.cores.proofs.Drawing.{drawn_is, numbers_met}
use Rattle.sheet.specs.Sites.{plan_of}
use Rattle.view.specs.Settling.{rewritten}
use Rattle.drawer.proofs.Peels.{drawn_length}
use Rattle.view.proofs.Written.{rewritten_is}

-- the greatest of f 0, f 1 and so on, i of them; 0 of none
pub peak : (ℕ → ℕ) → ℕ → ℕ
peak f zero = 0
peak f (suc i) = max (f i) (peak f i)

peak_most : (f : ℕ → ℕ) (i j : ℕ) → j < i → f j ≤ peak f i
unfolding peak
peak_most f zero j h = absurd (omega arith)
peak_most f (suc i) j h = elim (cases_eq j i) [ inl same ↦ rw same (omega arith) | inr other ↦ omega (arith, peak_most f i j (omega arith)) ]

peak_least : (f : ℕ → ℕ) (i k : ℕ) → ((j : ℕ) → j < i → f j ≤ k) → peak f i ≤ k
unfolding peak
peak_least f zero k low = omega arith
peak_least f (suc i) k low = omega (arith, low i (omega arith), peak_least f i k (λ j h. low j (omega arith)))

module _ (g : Site) where
  -- the number of the station at place i is the greatest count met up to there
  pub number_is_peak : (i : ℕ) → i < g.size → number g (get_or (drawn g) i 0) ≡ peak (left_at g (drawn g)) (suc i)
  number_is_peak i h =
      let f = left_at g (drawn g) in
      let met = numbers_met g i h in
      let (j, low, is) = met.met in
      le_antisymm (omega (arith, is, peak_most f (suc i) j (omega arith))) (peak_least f (suc i) _ (λ j h. met.most j (omega arith)))

  -- a table with the numbers of the first i stations of the drawn order
  pub record Numbered (i most : ℕ) (old table : List ℕ) : Type 0 where
    pub long : length table ≡ length old
    pub met : most ≡ peak (left_at g (drawn g)) i
    pub numbers : (j : ℕ) → j < i → get_or table (get_or (drawn g) j 0) 0 ≡ number g (get_or (drawn g) j 0)
    pub behind : (s : ℕ) → g.size ≤ s → get_or table s 0 ≡ get_or old s 0

  pub numbered_none : (table : List ℕ) → Numbered 0 0 table table
  unfolding peak
  numbered_none table = record { long = refl; met = refl; numbers = λ j h. absurd (omega arith); behind = λ s h. refl }

  pub numbered_more : (i most s k : ℕ) (old table : List ℕ) → i < g.size → s ≡ get_or (drawn g) i 0 → k ≡ max (left_at g (drawn g) i) most → s < length table → Numbered i most old table
      → Numbered (i + 1) k old (set table s k)
  unfolding peak
  numbered_more i most s k old table h at is l n =
      let on : i + 1 ≡ suc i = omega arith in
      let now : k ≡ peak (left_at g (drawn g)) (suc i) = is ∙ ap (max (left_at g (drawn g) i)) n.met in
      let here : get_or (set table s k) s 0 ≡ number g s = get_or-set_same table s k 0 l ∙ now ∙ sym (number_is_peak i h) ∙ ap (number g) (sym at) in
      let on_site : s < g.size = rw at ((drawn_is g).in_turn i (omega (arith, drawn_length g))).on_site in
      record {
        long = length-set table s k ∙ n.long;
        met = now ∙ ap (peak (left_at g (drawn g))) (sym on);
        numbers = λ j b. let t = get_or (drawn g) j 0 in elim (cases_eq t s) [
          | inl same ↦ rw same here
          | inr other ↦ get_or-set_other table s t k 0 other ∙ n.numbers j (elim (cases_eq j i) [ inl d ↦ absurd (other (ap (λ m. get_or (drawn g) m 0) d ∙ sym at)) | inr d ↦ omega arith ])
        ];
        behind = λ t b. get_or-set_other table s t k 0 (λ d. omega arith) ∙ n.behind t b;
      }

  pub numbered_all : (most : ℕ) (old table : List ℕ) → g.size ≤ length old → Numbered g.size most old table → table ≡ (plan_of g).numbers ++ drop g.size old
  unfolding plan_of rewritten bit
  numbered_all most old table room n = rewritten_is g.size (λ s k. number g s) old table room n.long
      (λ s low.
      let once = (drawn_is g).each_once s in
      let (j, b, at) = place_of s (drawn g) (grind (arith, nat_tests)) in
      rw at at (n.numbers j (omega (arith, drawn_length g))))
      n.behind

-- how many numbers there are
pub numbers_length : (g : Site) → length (plan_of g).numbers ≡ g.size
unfolding plan_of
numbers_length g = length-map-range_with_len (number g) 0 g.size
