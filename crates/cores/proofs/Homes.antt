-- Homes and ups by a table of numbers, in words.
use Rattle.std.proofs.Common.{◌≡◌, ℕ, zero, suc, ◌<◌, ◌≤◌, true, false, ◌&&◌, eqb, ◌⊎◌, Some, None, Option, sym, refl, ap, ◌∙◌, inl, inr, le_antisymm, arith}
use Rattle.std.proofs.lemmas.Bool.{both_ways, cases_lt, cases_order}
use Rattle.cores.specs.Counting.{or_else}
use Rattle.cores.specs.Laws.{Found}
use Rattle.cores.specs.Site.{Site, Lawful}
use Rattle.cores.specs.Homes.{IsHome, HomeInWords, IsUp, UpInWords}
use Rattle.cores.specs.ByNumbers.{at_least, connected_by, core_home_by, home_by, home_below_by, up_by}
use Rattle.cores.proofs.Searches.{by_cases, lowest_first}
use Rattle.cores.proofs.Reaching.{Parted}
use Rattle.cores.proofs.ByNumbers.{level_on_site, level_from, level_parts}

module _ (g : Site) (law : Lawful g) (c : ℕ → ℕ) where
  parts : (k : ℕ) → Parted (at_least g c k) (connected_by g c k)
  parts k = level_parts g c law k

  on_site : (k s t : ℕ) → connected_by g c k s t ≡ true → t < g.size
  on_site k s t e = level_on_site g c k t ((parts k).inside s t e).1

  abbrev Home : ℕ → ℕ → Type 0
  Home = IsHome c (connected_by g c)

  abbrev Up : ℕ → ℕ → Type 0
  Up = IsUp c (connected_by g c) (home_by g c)

  -- h is the home of the k-core around s
  record IsCoreHome (k s h : ℕ) : Type 0 where
    is : core_home_by g c k s ≡ Some h
    numbered : c h ≡ k
    around : connected_by g c k s h ≡ true
    lowest : (t : ℕ) → c t ≡ k → connected_by g c k s t ≡ true → h ≤ t

  -- no station of number k is in the k-core around s
  abbrev NoCoreHome : ℕ → ℕ → Type 0
  NoCoreHome k s = (t : ℕ) → c t ≡ k → connected_by g c k s t ≡ false

  core_home_is : (k s : ℕ) → ((h : ℕ) × IsCoreHome k s h) ⊎ ((core_home_by g c k s ≡ None) × NoCoreHome k s)
  unfolding core_home_by
  core_home_is k s = go (core_home_by g c k s) refl (lowest_first g.size (λ t. eqb (c t) k && connected_by g c k s t))
    where
      go : (o : Option ℕ) → core_home_by g c k s ≡ o → Found g.size (λ t. eqb (c t) k && connected_by g c k s t) o
          → ((h : ℕ) × IsCoreHome k s h) ⊎ ((core_home_by g c k s ≡ None) × NoCoreHome k s)
      go (Some h) d (on, here, first) =
          let low : (t : ℕ) → c t ≡ k → connected_by g c k s t ≡ true → h ≤ t = λ t x y.
          elim (cases_lt t h) [ inl below ↦ let none = first t below in grind arith | inr high ↦ high ] in
          inl (h, record { is = d; numbered = grind arith; around = grind arith; lowest = low })
      go None d none = inr (d, λ t x. by_cases (connected_by g c k s t) (λ e. let absent = none t (on_site k s t e) in grind arith) (λ e. e))

  core_home_from : (k s t : ℕ) → c t ≡ k → connected_by g c k s t ≡ true → (h : ℕ) × IsCoreHome k s h
  core_home_from k s t d e = elim (core_home_is k s) [ inl r ↦ r | inr (is, none) ↦ absurd (both_ways (connected_by g c k s t) (none t d) e) ]

  -- homes
  own_core : (s : ℕ) → s < g.size → connected_by g c (c s) s s ≡ true
  own_core s h = (parts (c s)).itself s (level_from g c (c s) s h (omega arith))

  home_only : (s a b : ℕ) → Home s a → Home s b → a ≡ b
  home_only s a b p q = le_antisymm (p.lowest b q.same_number q.together) (q.lowest a p.same_number p.together)

  home_core : (s : ℕ) → s < g.size → IsCoreHome (c s) s (home_by g c s)
  unfolding home_by
  home_core s h = let (a, p) = core_home_from (c s) s s refl (own_core s h) in rw p.is p

  home_is : (s : ℕ) → s < g.size → Home s (home_by g c s)
  home_is s h = let p = home_core s h in record { same_number = p.numbered; together = p.around; lowest = p.lowest }

  -- the home of a core is a home
  core_home_home : (k s h : ℕ) → IsCoreHome k s h → home_by g c h ≡ h
  core_home_home k s h p =
      let on : h < g.size = on_site k s h p.around in
      home_only h (home_by g c h) h (home_is h on) (record {
        same_number = refl;
        together = own_core h on;
        lowest = λ t d e. p.lowest t (d ∙ p.numbered) ((parts k).onward s h t p.around (rw p.numbered at e));
      })

  -- a home is the lowest of its number in its core
  own_lowest : (u v : ℕ) → home_by g c u ≡ u → c v ≡ c u → connected_by g c (c u) u v ≡ true → u ≤ v
  own_lowest u v own d e = omega (arith, own, (home_is u (level_on_site g c (c u) u ((parts (c u)).inside u v e).0)).lowest v d e)

  pub home_by_in_words : (s : ℕ) → s < g.size → HomeInWords c (connected_by g c) (home_by g c) s
  home_by_in_words s h = let p = home_is s h in (p, (λ a q. home_only s a (home_by g c s) q p), core_home_home (c s) s (home_by g c s) (home_core s h))

  -- the home below the level m that is nearest to it, in the cores around s
  record Nearest (m s u : ℕ) : Type 0 where
    below : c u < m
    own : home_by g c u ≡ u
    around : connected_by g c (c u) s u ≡ true
    nearest : (t : ℕ) → c u < c t → c t < m → connected_by g c (c t) s t ≡ false

  -- no smaller number than m has a station in a core around s
  abbrev Bare : ℕ → ℕ → Type 0
  Bare m s = (t : ℕ) → c t < m → connected_by g c (c t) s t ≡ false

  home_below_is : (m s : ℕ) → ((u : ℕ) × (home_below_by g c m s ≡ Some u) × Nearest m s u) ⊎ ((home_below_by g c m s ≡ None) × Bare m s)
  unfolding home_below_by
  home_below_is zero s = inr (refl, λ t l. absurd (omega arith))
  home_below_is (suc k) s = elim (core_home_is k s) [
    | inl (h, p) ↦
        let at = p.numbered in
        let own = core_home_home k s h p in
        let near : Nearest (suc k) s h = record { below = omega arith; own = own; around = rw at p.around; nearest = λ t a b. absurd (omega arith) } in
        inl (h, ap (λ o. or_else o (home_below_by g c k s)) p.is, near)
    | inr (none, away) ↦
        let lower = ap (λ o. or_else o (home_below_by g c k s)) none in
        elim (home_below_is k s) [
          | inl (u, is, p) ↦
              let below = p.below in
              let near : Nearest (suc k) s u = record {
                below = omega arith;
                own = p.own;
                around = p.around;
                nearest = λ t a b. let here = away t in let rest = p.nearest t in grind arith;
              } in
              inl (u, lower ∙ is, near)
          | inr (is, bare) ↦ inr (lower ∙ is, λ t b. let here = away t in let rest = bare t in grind arith)
        ]
  ]

  -- an up, or none
  up_is : (s : ℕ) → ((u : ℕ) × (up_by g c s ≡ Some u) × Up s u) ⊎ ((up_by g c s ≡ None) × (home_by g c s ≡ s → Bare (c s) s))
  unfolding up_by
  up_is s = by_cases (eqb (home_by g c s) s)
      (λ x. elim (home_below_is (c s) s) [
        | inl (u, is, p) ↦ inl (u, grind arith, record { of_home = grind arith; smaller = p.below; at_home = p.own; around = p.around; nearest = p.nearest })
        | inr (is, bare) ↦ inr (grind arith, λ d. bare)
      ])
      (λ x. inr (grind arith, λ d. absurd (grind arith)))

  up_only : (s u v : ℕ) → Up s u → Up s v → u ≡ v
  up_only s u v p q =
      let d : c u ≡ c v = elim (cases_order (c u) (c v)) [
        | inl same ↦ same
        | inr (inl less) ↦ absurd (both_ways (connected_by g c (c v) s v) (p.nearest v less q.smaller) q.around)
        | inr (inr more) ↦ absurd (both_ways (connected_by g c (c u) s u) (q.nearest u more p.smaller) p.around)
      ] in
      let part = parts (c u) in
      let both : connected_by g c (c u) u v ≡ true = part.onward u s v (part.back s u p.around) (rw (← d) at q.around) in
      le_antisymm (own_lowest u v p.at_home (sym d) both) (own_lowest v u q.at_home d (rw d at (part.back u v both)))

  pub up_by_in_words : (s : ℕ) → UpInWords c (connected_by g c) (home_by g c) (up_by g c) s
  up_by_in_words s = elim (up_is s) [
    | inl (u, is, p) ↦ record {
      is = λ v e. let same : u ≡ v = cc (is, e) in rw same at p;
      only = λ v q. is ∙ ap Some (up_only s u v p q);
      missing = λ e d. absurd (grind arith);
      outermost = λ out. absurd (both_ways (connected_by g c (c u) s u) (out u p.smaller) p.around);
    }
    | inr (is, out) ↦ record {
      is = λ v e. absurd (grind arith);
      only = λ v q. absurd (both_ways (connected_by g c (c v) s v) (out q.of_home v q.smaller) q.around);
      missing = λ e d. out d;
      outermost = λ o. is;
    }
  ]
