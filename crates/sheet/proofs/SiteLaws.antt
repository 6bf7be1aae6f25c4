-- The plan of a site is well formed.
use Rattle.std.proofs.Common.{◌≡◌, ℕ, ◌<◌, true, map, length, get_or, Some, None, sym, ◌∙◌, arith}
use Rattle.std.specs.List.{range_with_len}
use Rattle.std.proofs.lemmas.List.FromFn.{length-map-range_with_len, get_or-map-range_with_len}
use Rattle.std.proofs.lemmas.Bool.Decides.{nat_tests}
use Rattle.cores.specs.Site.{Site, Lawful, sized}
use Rattle.cores.specs.Numbers.{number}
use Rattle.cores.specs.Forest.{home, up}
use Rattle.cores.specs.Drawing.{drawn}
use Rattle.cores.proofs.Sums.{once_length}
use Rattle.cores.proofs.Numbers.{number_below}
use Rattle.cores.proofs.Forest.{connected_on_site, home_in_words, up_in_words}
use Rattle.cores.proofs.Drawing.{drawn_is}
use Rattle.sheet.specs.Plans.{Fits, WellFormed, stations, entry}
use Rattle.sheet.specs.Sites.{plan_of, PlansOfSitesAreWellFormed}
use Rattle.sheet.proofs.SheetLaws.{written_and_read}

module _ (g : Site) (law : Lawful g) where
  listed : {A : Type 0} (f : ℕ → A) → length (map f (range_with_len 0 g.size)) ≡ g.size
  listed f = length-map-range_with_len f 0 g.size

  at : {A : Type 0} (f : ℕ → A) (s : ℕ) (d : A) → s < g.size → get_or (map f (range_with_len 0 g.size)) s d ≡ f s
  at f s d h = get_or-map-range_with_len f 0 g.size s s d h (omega arith)

  pub up_on_site : (s u : ℕ) → up g s ≡ Some u → u < g.size
  up_on_site s u e = connected_on_site g law (number g u) s u ((up_in_words g law s).is u e).around

  fits : (s : ℕ) → s < g.size → Fits g.size s (entry (plan_of g) s)
  unfolding plan_of
  fits s h = record {
    number = rw (at (number g) s 0 h) (number_below g law s h);
    home = rw (at (home g) s 0 h) (connected_on_site g law (number g s) s (home g s) (home_in_words g law s h).0.together);
    up = λ u e.
        let is = (up_in_words g law s).is u (sym (at (up g) s None h) ∙ e) in
        (connected_on_site g law (number g u) s u is.around, at (home g) s 0 h ∙ is.of_home);
  }

  pub plan_well_formed : sized g.size ≡ true → WellFormed (plan_of g)
  unfolding plan_of
  plan_well_formed counted =
      let n : stations (plan_of g) ≡ g.size = listed (number g) in
      let homes = listed (home g) in
      let ups = listed (up g) in
      let order = once_length g.size (drawn g) (drawn_is g).each_once in
      record {
        counted = rw n counted;
        lengths = grind (arith, nat_tests);
        fits = λ s h. rw n (fits s (rw n at h));
        each_once = λ t. rw n ((drawn_is g).each_once t);
      }

pub site_plans : PlansOfSitesAreWellFormed
site_plans g law counted = let p = plan_well_formed g law counted in (p, written_and_read (plan_of g) p)
