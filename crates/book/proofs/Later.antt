-- Neighbours that stand later, and that the order bears the numbers out.
use Rattle.std.proofs.Common.{◌≡◌, ◌≢◌, ◌⊎◌, ℕ, zero, suc, ◌-◌, ◌<◌, ◌≤◌, true, false, ◌&&◌, leb, List, count_by, length, filter, get_or, set, refl, sym, ap, ◌∙◌, inl, inr, get_or-set_same, get_or-set_other, arith}
use Rattle.std.proofs.lemmas.List.Sums.{length-filter}
use Rattle.std.proofs.lemmas.Bool.{cases_eq, cases_lt, both_ways}
use Rattle.cores.specs.Counting.{bit, count, holds}
use Rattle.cores.specs.Site.{Site}
use Rattle.cores.specs.Numbers.{Group, hears}
use Rattle.cores.proofs.Counts.{count_mono}
use Rattle.cores.proofs.Numbers.{hears_mono}
use Rattle.view.proofs.Filtered.{kept_times}
use Rattle.book.specs.Orders.{PutLast}
use Rattle.book.specs.Tables.{Links, row, site_of, Sound}
use Rattle.book.specs.Current.{stands_later, later, BearsOut}
use Rattle.book.specs.Updates.{support}
use Rattle.book.proofs.Queues.{listed_length}

pub none_counted : (n : ℕ) → count n (λ t. false) ≡ 0
unfolding count bit
none_counted zero = refl
none_counted (suc n) = omega (arith, none_counted n)

-- one station stands later than another by its number, or by its place
module _ (c p : List ℕ) (s t : ℕ) where
  pub later_cases : stands_later c p s t ≡ true → (get_or c s 0 < get_or c t 0) ⊎ ((get_or c s 0 ≡ get_or c t 0) × (get_or p s 0 ≤ get_or p t 0))
  later_cases e = elim (cases_lt (get_or c s 0) (get_or c t 0)) [ inl more ↦ inl more | inr less ↦ inr (grind arith, grind arith) ]

  pub later_greater : get_or c s 0 < get_or c t 0 → stands_later c p s t ≡ true
  later_greater more = grind arith

  pub later_behind : get_or c s 0 ≡ get_or c t 0 → get_or p s 0 ≤ get_or p t 0 → stands_later c p s t ≡ true
  later_behind same behind = grind arith

module _ (l : Links) (sound : Sound l) where
  -- the neighbours that are counted along a row are those that are heard
  pub row_heard : (X : Group) (s : ℕ) → count_by X (row l s) ≡ hears (site_of l) X s
  unfolding hears bit
  row_heard X s =
      let law = sound.faithful in
      sym (length-filter X (row l s))
      ∙ listed_length l.stations (λ t. holds (row l s) t && X t) (filter X (row l s))
      (λ t e. (law.lawful.inside s t (grind arith)).1)
      (λ t. let kept = kept_times X t (row l s) in let once = law.once s t in grind arith)

  pub later_heard : (c p : List ℕ) (s : ℕ) → later l c p s ≡ hears (site_of l) (stands_later c p s) s
  later_heard c p s = row_heard (stands_later c p s) s

  -- whoever has neighbours is a station
  pub heard_on_site : (X : Group) (s : ℕ) → 0 < hears (site_of l) X s → s < l.stations
  unfolding hears
  heard_on_site X s some = elim (cases_lt s l.stations) [
    | inl on ↦ on
    | inr off ↦ absurd (omega (
      arith,
      some,
      none_counted l.stations,
      count_mono l.stations (λ t. holds (row l s) t && X t) (λ t. false) (λ t m e. absurd (omega (arith, off, (sound.faithful.lawful.inside s t (grind arith)).0))),
    ))
  ]

  -- those that stand later are at most those of a group that takes each of them, on this site or another one
  pub later_within : (c p : List ℕ) (s : ℕ) (h : Site) (X : Group) → l.stations ≡ h.size
      → ((t : ℕ) → s < 512 → t < 512 → (t ≢ s) → holds (row l s) t ≡ true → stands_later c p s t ≡ true → (h.linked s t ≡ true) × (X t ≡ true))
      → later l c p s ≤ hears h X s
  later_within c p s h X size takes =
      let law = sound.faithful.lawful in
      omega (
        arith,
        later_heard c p s,
        hears_mono (site_of l) h (stands_later c p s) X s size (λ t m e x.
            let (on_s, on_t) = law.inside s t e in
            takes t (omega (arith, on_s, sound.few)) (omega (arith, on_t, sound.few)) (λ at. both_ways (holds (row l s) s) (law.apart s) (rw at at e)) e x),
      )

  -- a station that has too few neighbours for k is lowered, and put behind all others: still the order bears the numbers out
  module _ (c p q : List ℕ) (s k : ℕ) (entries : length c ≡ 512) (on : s < 512) (put : PutLast s p q) (is : get_or c s 0 ≡ k) (few : support l c k s < k) where
    abbrev lowered : List ℕ
    lowered = set c s (k - 1)

    here : get_or lowered s 0 ≡ k - 1
    here = get_or-set_same c s (k - 1) 0 (omega (arith, entries, on))

    there : (t : ℕ) → t ≢ s → get_or lowered t 0 ≡ get_or c t 0
    there t off = get_or-set_other c s t (k - 1) 0 off

    pub lowered_bears_out : BearsOut l c p → BearsOut l lowered q
    lowered_bears_out old t = elim (cases_eq t s) [
      | inl at ↦ rw at (omega (
        arith,
        here,
        few,
        row_heard (λ u. leb k (get_or c u 0)) s,
        later_within lowered q s (site_of l) (λ u. leb k (get_or c u 0)) refl (λ u h on_u off link e. (
          link,
          elim (later_cases lowered q s u e) [
            | inl more ↦ let same = there u off in let at_s = here in grind arith
            | inr tie ↦ absurd (omega (arith, tie.1, put.1 u on_u off))
          ],
        )),
      ))
      | inr off ↦ omega (
        arith,
        there t off,
        old t,
        later_heard c p t,
        later_within lowered q t (site_of l) (stands_later c p t) refl (λ u on_t on_u other link e. (
          link,
          elim (cases_eq u s) [
            | inl at ↦ later_greater c p t u (rw at (elim (later_cases lowered q t u e) [
              | inl more ↦ omega (arith, is, here, there t off, few, ap (λ v. get_or lowered v 0) at, more)
              | inr tie ↦ omega (arith, is, here, there t off, few, ap (λ v. get_or lowered v 0) at, tie.0)
            ]))
            | inr off_u ↦ elim (later_cases lowered q t u e) [
              | inl more ↦ later_greater c p t u (omega (arith, more, there t off, there u off_u))
              | inr tie ↦ later_behind c p t u (omega (arith, tie.0, there t off, there u off_u)) (put.0 t u on_t on_u off off_u tie.1)
            ]
          ],
        )),
      )
    ]
