-- Chains inside a group, and how far a bounded search for one has to go.
use Rattle.std.proofs.Common.{◌≡◌, ℕ, zero, suc, ◌<◌, Bool, true, false, ◌&&◌, ◌||◌, eqb, ◌⊎◌, sym, refl, ◌∙◌, subst, inl, inr, arith}
use Rattle.std.specs.Cmp.{IsEquivalence}
use Rattle.std.proofs.lemmas.Bool.{false≢true, and_parts, or_cases, cases_eq, cases_lt, eqb-true}
use Rattle.cores.specs.Counting.{count, some}
use Rattle.cores.specs.Site.{Site, Lawful}
use Rattle.cores.specs.Numbers.{Group}
use Rattle.cores.specs.Forest.{Chain, start, step, reaches}
use Rattle.cores.proofs.Searches.{same_test, some_found, some_one}
use Rattle.cores.proofs.Counts.{count_le, count_lt, count_same}

module _ (g : Site) (X : Group) where
  pub chain_first : (s : ℕ) {t : ℕ} → Chain g X s t → X s ≡ true
  chain_first s (start x) = x
  chain_first s (step c l x) = chain_first s c

  pub chain_last : (s : ℕ) {t : ℕ} → Chain g X s t → X t ≡ true
  chain_last s (start x) = x
  chain_last s (step c l x) = x

  pub chain_onward : (s t : ℕ) {u : ℕ} → Chain g X s t → Chain g X t u → Chain g X s u
  chain_onward s t c (start x) = c
  chain_onward s t c (step d l x) = step (chain_onward s t c d) l x

  pub chain_back : Lawful g → (s : ℕ) {t : ℕ} → Chain g X s t → Chain g X t s
  chain_back law s (start x) = start x
  chain_back law s (step {t = t} {u = u} c l x) = chain_onward u t (step (start x) (law.both_ways u t ∙ l) (chain_last s c)) (chain_back law s c)

  -- the search from s
  module _ (s : ℕ) where
    abbrev Within : ℕ → Group
    Within i = reaches g X i s

    reach_more : (i t : ℕ) → Within i t ≡ true → Within (suc i) t ≡ true
    unfolding reaches
    reach_more i t e = grind arith

    reach_step : (i t u : ℕ) → t < g.size → Within i t ≡ true → g.linked t u ≡ true → X u ≡ true → Within (suc i) u ≡ true
    unfolding reaches
    reach_step i t u h e l x = let found = some_found g.size (λ t. g.linked t u && Within i t) t h (grind arith) in grind arith

    -- the last link of a way
    reach_last : (i u : ℕ) → Within (suc i) u ≡ true
        → (Within i u ≡ true) ⊎ ((t : ℕ) × (t < g.size) × (Within i t ≡ true) × (g.linked t u ≡ true) × (X u ≡ true))
    unfolding reaches
    reach_last i u e = elim (or_cases (Within i u) (X u && some g.size (λ t. g.linked t u && Within i t)) e) [
      | inl before ↦ inl before
      | inr last ↦ let (t, h, both) = some_one g.size (λ t. g.linked t u && Within i t) (grind arith) in inr (t, h, grind arith, grind arith, grind arith)
    ]

    pub reach_start : X s ≡ true → (i : ℕ) → Within i s ≡ true
    unfolding reaches
    reach_start x zero = grind arith
    reach_start x (suc i) = reach_more i s (reach_start x i)

    -- one link more reaches no further
    abbrev Still : ℕ → Type 0
    Still i = (t : ℕ) → t < g.size → Within (suc i) t ≡ true → Within i t ≡ true

    still_more : (i : ℕ) → Still i → Still (suc i)
    still_more i still u h e = elim (reach_last (suc i) u e) [ inl before ↦ before | inr (t, m, w, l, x) ↦ reach_step i t u m (still t m w) l x ]

    -- until then, each link more reaches one station more
    grows : s < g.size → X s ≡ true → (i : ℕ) → (i < count g.size (Within i)) ⊎ Still i
    grows h x zero = inl (omega (arith, count_lt g.size (λ t. false) (Within 0) s h (λ t l e. absurd (false≢true e)) refl (reach_start x 0)))
    grows h x (suc i) = elim (grows h x i) [
      | inr still ↦ inr (still_more i still)
      | inl far ↦ elim (cases_lt (count g.size (Within i)) (count g.size (Within (suc i)))) [
        | inl more ↦ inl (omega arith)
        | inr same ↦ inr (still_more i (count_same g.size (Within i) (Within (suc i)) (λ t l e. reach_more i t e) same))
      ]
    ]

    -- so as many links as stations reach all there is to reach
    pub reach_closed : s < g.size → X s ≡ true → (t u : ℕ) → t < g.size → u < g.size → Within g.size t ≡ true → g.linked t u ≡ true
        → X u ≡ true → Within g.size u ≡ true
    reach_closed h x t u ht hu e l y = elim (grows h x g.size) [
      | inl far ↦ absurd (omega (arith, count_le g.size (Within g.size)))
      | inr still ↦ still u hu (reach_step g.size t u ht e l y)
    ]

    pub chain_reaches : Lawful g → s < g.size → {t : ℕ} → Chain g X s t → Within g.size t ≡ true
    chain_reaches law h (start x) = reach_start x g.size
    chain_reaches law h (step {t = t} {u = u} c l x) = let (ht, hu) = law.inside t u l in reach_closed h (chain_first s c) t u ht hu (chain_reaches law h c) l x

    pub reach_chain : (i t : ℕ) → Within i t ≡ true → Chain g X s t
    unfolding reaches
    reach_chain zero t e = let (x, same) = and_parts (X t) (eqb s t) e in subst (λ u. Chain g X s u) (eqb-true s t same) (start (rw (eqb-true s t same) x))
    reach_chain (suc i) u e = elim (reach_last i u e) [ inl before ↦ reach_chain i u before | inr (t, h, w, l, x) ↦ step (reach_chain i t w) l x ]

-- A relation parts a group: each member is with itself, and it goes both ways and carries over.
pub record Parted (X : Group) (together : ℕ → ℕ → Bool) : Type 0 where
  pub inside : (s t : ℕ) → together s t ≡ true → (X s ≡ true) × (X t ≡ true)
  pub itself : (s : ℕ) → X s ≡ true → together s s ≡ true
  pub back : (s t : ℕ) → together s t ≡ true → together t s ≡ true
  pub onward : (s t u : ℕ) → together s t ≡ true → together t u ≡ true → together s u ≡ true

-- so to be one and the same, or with each other, is an equivalence
abbrev pub same_or : (ℕ → ℕ → Bool) → ℕ → ℕ → Bool
same_or together s t = eqb s t || together s t

pub parted_equivalence : (X : Group) (together : ℕ → ℕ → Bool) → Parted X together → IsEquivalence (same_or together)
parted_equivalence X together p = record {
  refl = λ s. grind arith;
  symm = both;
  congr = λ s t u e. same_test (same_or together s u) (same_or together t u) (onward t s u (sym (both s t) ∙ e)) (onward s t u e);
}
  where
    back : (s t : ℕ) → same_or together s t ≡ true → same_or together t s ≡ true
    back s t e = let other = p.back s t in grind arith

    both : (s t : ℕ) → same_or together s t ≡ same_or together t s
    both s t = same_test (same_or together s t) (same_or together t s) (back s t) (back t s)

    onward : (s t u : ℕ) → same_or together s t ≡ true → same_or together t u ≡ true → same_or together s u ≡ true
    onward s t u e f = elim (cases_eq s t) [
      | inl d ↦ rw d f
      | inr d ↦ elim (cases_eq t u) [
        | inl x ↦ rw (← x) e
        | inr x ↦ let on = p.onward s t u in grind arith
      ]
    ]

-- the search with as many links as stations, in a group of stations of a lawful site
module _ (g : Site) (law : Lawful g) (X : Group) (on_site : (s : ℕ) → X s ≡ true → s < g.size) where
  pub chain_found : (s t : ℕ) → Chain g X s t → reaches g X g.size s t ≡ true
  chain_found s t c = chain_reaches g X s law (on_site s (chain_first g X s c)) c

  pub reach_parts : Parted X (reaches g X g.size)
  reach_parts =
      let chain = λ (s t : ℕ). reach_chain g X s g.size t in record {
        inside = λ s t e. (chain_first g X s (chain s t e), chain_last g X s (chain s t e));
        itself = λ s x. chain_found s s (start x);
        back = λ s t e. chain_found t s (chain_back g X law s (chain s t e));
        onward = λ s t u e f. chain_found s u (chain_onward g X s t (chain s t e) (chain t u f));
      }

  pub reach_link : (s t : ℕ) → X s ≡ true → X t ≡ true → g.linked s t ≡ true → reaches g X g.size s t ≡ true
  reach_link s t x y l = chain_found s t (step (start x) l y)
