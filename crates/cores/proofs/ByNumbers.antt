-- Homes and ups by a table of numbers: what is connected at a level, and that core numbers give the homes and ups of the site.
use Rattle.std.proofs.Common.{◌≡◌, ℕ, zero, suc, ◌<◌, ◌≤◌, true, ◌&&◌, eqb, refl, ap, inl, inr, arith}
use mathlib.Core.Path.{fun_ext}
use Rattle.std.specs.Option.{unwrap_or}
use Rattle.std.proofs.lemmas.Bool.{cases_lt}
use Rattle.cores.specs.Site.{Site, Lawful}
use Rattle.cores.specs.Numbers.{in_core, number}
use Rattle.cores.specs.Forest.{Chain, reaches, connected, core_home, home, home_below, up}
use Rattle.cores.specs.Orders.{CoreNumbers}
use Rattle.cores.specs.ByNumbers.{at_least, connected_by, core_home_by, home_by, home_below_by, up_by, ConnectedByNumbersMeansAChain, ByCoreNumbersTheyAreThoseOfTheSite}
use Rattle.cores.proofs.Searches.{by_cases, lowest_same}
use Rattle.cores.proofs.Numbers.{core_on_site, core_number}
use Rattle.cores.proofs.Reaching.{Parted, chain_found, reach_chain, reach_parts, reach_link}

module _ (g : Site) (c : ℕ → ℕ) where
  pub level_on_site : (k s : ℕ) → at_least g c k s ≡ true → s < g.size
  unfolding at_least
  level_on_site k s e = grind arith

  pub level_number : (k s : ℕ) → at_least g c k s ≡ true → k ≤ c s
  unfolding at_least
  level_number k s e = grind arith

  pub level_from : (k s : ℕ) → s < g.size → k ≤ c s → at_least g c k s ≡ true
  unfolding at_least
  level_from k s h o = grind arith

  module _ (law : Lawful g) where
    pub level_parts : (k : ℕ) → Parted (at_least g c k) (connected_by g c k)
    unfolding connected_by
    level_parts k = reach_parts g law (at_least g c k) (level_on_site k)

    pub level_chain : (k s t : ℕ) → connected_by g c k s t ≡ true → Chain g (at_least g c k) s t
    unfolding connected_by
    level_chain k s t = reach_chain g (at_least g c k) s g.size t

    pub level_link : (k s t : ℕ) → g.linked s t ≡ true → k ≤ c s → k ≤ c t → connected_by g c k s t ≡ true
    unfolding connected_by
    level_link k s t l o p =
        let (hs, ht) = law.inside s t l in
        reach_link g law (at_least g c k) (level_on_site k) s t (level_from k s hs o) (level_from k t ht p) l

pub connected_by_chain : ConnectedByNumbersMeansAChain
unfolding connected_by
connected_by_chain g law c k s t = (level_chain g c law k s t, chain_found g law (at_least g c k) (level_on_site g c k) s t)

-- core numbers
module _ (g : Site) (law : Lawful g) (c : ℕ → ℕ) (right : CoreNumbers g c) where
  same_level : (k : ℕ) → at_least g c k ≡ in_core g k
  unfolding at_least
  same_level k = fun_ext (λ t. elim (cases_lt t g.size) [
    | inl on ↦ let here = core_number g k t on in let same = right t on in grind arith
    | inr off ↦ by_cases (in_core g k t) (λ e. absurd (omega (arith, core_on_site g k t e))) (λ e. grind arith)
  ])

  same_connected : (k s t : ℕ) → connected_by g c k s t ≡ connected g k s t
  unfolding connected_by connected
  same_connected k s t = ap (λ X. reaches g X g.size s t) (same_level k)

  same_core_home : (k s : ℕ) → core_home_by g c k s ≡ core_home g k s
  unfolding core_home_by core_home
  same_core_home k s = lowest_same g.size (λ t. eqb (c t) k && connected_by g c k s t) (λ t. eqb (number g t) k && connected g k s t)
      (λ t h. let same = right t h in let with = same_connected k s t in grind arith)

  same_home : (s : ℕ) → c s ≡ number g s → home_by g c s ≡ home g s
  unfolding home_by home
  same_home s e = rw e (ap (λ o. unwrap_or o s) (same_core_home (number g s) s))

  same_home_below : (k s : ℕ) → home_below_by g c k s ≡ home_below g k s
  unfolding home_below_by home_below
  same_home_below zero s = refl
  same_home_below (suc k) s = rw (same_core_home k s, same_home_below k s) refl

  same_up : (s : ℕ) → c s ≡ number g s → up_by g c s ≡ up g s
  unfolding up_by up
  same_up s e = rw (same_home s e, e, same_home_below (number g s) s) refl

pub same_by_core_numbers : ByCoreNumbersTheyAreThoseOfTheSite
same_by_core_numbers g law c right s h = (same_home g law c right s (right s h), same_up g law c right s (right s h))

-- the numbers of the site give what is connected, the home and the up of any station, on the site or not
module _ (g : Site) (law : Lawful g) where
  pub own_connected : connected_by g (number g) ≡ connected g
  own_connected = fun_ext (λ k. fun_ext (λ s. fun_ext (λ t. same_connected g law (number g) (λ u h. refl) k s t)))

  pub own_home : home_by g (number g) ≡ home g
  own_home = fun_ext (λ s. same_home g law (number g) (λ u h. refl) s refl)

  pub own_up : up_by g (number g) ≡ up g
  own_up = fun_ext (λ s. same_up g law (number g) (λ u h. refl) s refl)
