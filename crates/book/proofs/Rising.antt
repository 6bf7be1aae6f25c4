-- Numbers on their way up.
use Rattle.std.proofs.Common.{◌≡◌, ◌≢◌, Bool, ℕ, ◌+◌, ◌⊎◌, ◌<◌, true, false, eqb, Some, List, [], ◌∷◌, ◌++◌, length, get_or, set, refl, sym, ap, ◌∙◌, inl, inr, length-set, get_or-set_same, get_or-set_other, arith}
use Rattle.std.specs.List.{slice_get}
use Rattle.std.proofs.lemmas.Bool.{cases_eq, cases_lt}
use Rattle.cores.specs.Counting.{bit, holds}
use Rattle.cores.proofs.Searches.{by_cases}
use Rattle.cores.proofs.Entries.{holds_nothing, holds_times, times_none}
use Rattle.book.specs.Tables.{Links, row, site_of, Sound}
use Rattle.book.specs.Current.{stands_later, later}
use Rattle.book.specs.Updates.{rises, in_row_behind, Raising, Raised, Watched}
use Rattle.book.proofs.Queues.{placed_below, room_left, holds_last, times_last}
use Rattle.book.proofs.Later.{later_cases, later_greater, later_behind, later_heard, later_within, heard_on_site}
use Rattle.book.proofs.Watching.{moved_watched}

module _ (l : Links) (k : ℕ) where
  -- a station rises by number and by its later neighbours
  pub rises_by : (c p : List ℕ) (s : ℕ) → rises l c p k s ≡ true → (get_or c s 0 ≡ k) × (k < later l c p s)
  unfolding rises
  rises_by c p s e = (grind arith, grind arith)

  pub rises_from : (c p : List ℕ) (s : ℕ) → get_or c s 0 ≡ k → k < later l c p s → rises l c p k s ≡ true
  unfolding rises
  rises_from c p s is more = grind arith

  pub raising_first : (c : List ℕ) → Sound l → length c ≡ 512 → Raising l k c []
  raising_first c sound long = record { sound = sound; entries = long; rose = λ t. omega (arith, times_none t) }

  pub raised_first : (c : List ℕ) → Raised k c c []
  raised_first c = record { risen = λ t e. holds_nothing t e; others = λ t e. refl }

  -- a station that rises is lifted and noted
  module _ (c p noted : List ℕ) (s : ℕ) (up : Raising l k c noted) (rise : rises l c p k s ≡ true) where
    abbrev lifted : List ℕ
    lifted = set c s (k + 1)

    is : get_or c s 0 ≡ k
    is = (rises_by c p s rise).0

    on : s < l.stations
    on = heard_on_site l up.sound (stands_later c p s) s (omega (arith, later_heard l up.sound c p s, (rises_by c p s rise).1))

    pub rising_within : s < 512
    rising_within = omega (arith, on, up.sound.few)

    pub rising_room : length noted < 512
    rising_room = let same = is in omega (arith, up.sound.few, room_left l.stations (λ t. eqb (get_or c t 0) (k + 1)) noted up.rose s on (grind arith))

    here : get_or lifted s 0 ≡ k + 1
    here = get_or-set_same c s (k + 1) 0 (omega (arith, up.entries, rising_within))

    there : (t : ℕ) → t ≢ s → get_or lifted t 0 ≡ get_or c t 0
    there t off = get_or-set_other c s t (k + 1) 0 off

    -- it was not noted before
    new : holds noted s ≡ false
    unfolding bit
    new = by_cases (holds noted s) (λ e. let some = holds_times noted s e in let rose = up.rose s in let same = is in absurd (grind arith)) (λ e. e)

    pub risen_raising : Raising l k lifted (noted ++ s ∷ [])
    unfolding bit
    risen_raising = record {
      sound = up.sound;
      entries = length-set c s (k + 1) ∙ up.entries;
      rose = λ t. let more = times_last t s noted in let before = up.rose t in elim (cases_eq t s) [
        | inl at ↦
            let now = here in
            let same = is in
            let within = on in
            let entry : get_or c t 0 ≡ get_or c s 0 = ap (λ u. get_or c u 0) at in
            let entry_now : get_or lifted t 0 ≡ get_or lifted s 0 = ap (λ u. get_or lifted u 0) at in
            grind arith
        | inr off ↦ let same = there t off in grind arith
      ];
    }

    pub risen_raised : (before : List ℕ) → Raised k before c noted → Raised k before lifted (noted ++ s ∷ [])
    risen_raised before now = record {
      risen = λ t e. let held = holds_last t s noted in elim (cases_eq t s) [
        | inl at ↦ rw at (sym (now.others s new) ∙ is, here)
        | inr off ↦ let rose = now.risen t (grind arith) in (rose.0, there t off ∙ rose.1)
      ];
      others = λ t e. let held = holds_last t s noted in elim (cases_eq t s) [
        | inl at ↦ absurd (grind arith)
        | inr off ↦ there t off ∙ now.others t (grind arith)
      ];
    }

    -- a neighbour of it that is not ahead may rise now
    pub risen_watched : (listed rest : ℕ → Bool) (v : ℕ) → ((t : ℕ) → (t ≢ s) → listed t ≡ true → rest t ≡ true)
        → Watched (in_row_behind l p) (rises l c p k) listed noted v → Watched (in_row_behind l p) (rises l lifted p k) rest (noted ++ s ∷ []) v
    risen_watched = moved_watched (in_row_behind l p) (rises l c p k) (rises l lifted p k) noted s near
      where
        -- one for which it stood later before, if it hears it, has as many later neighbours as before
        as_many : (t : ℕ) → t ≢ s → k < later l lifted p t → (holds (row l t) s ≡ true → stands_later c p t s ≡ true) → k < later l c p t
        as_many t off more before = omega (
          arith,
          more,
          later_heard l up.sound c p t,
          later_within l up.sound lifted p t (site_of l) (stands_later c p t) refl (λ u on_t on_u other link e. (
            link,
            elim (cases_eq u s) [
              | inl at ↦ rw at (before (rw at at link))
              | inr off_u ↦
                  let same = there u off_u in
                  let same_t = there t off in
                  elim (later_cases lifted p t u e) [ inl greater ↦ later_greater c p t u (omega arith) | inr tie ↦ later_behind c p t u (omega (arith, tie.0)) tie.1 ]
            ],
          )),
        )

        near : (t : ℕ) → rises l lifted p k t ≡ true → (t ≢ s) × ((rises l c p k t ≡ true) ⊎ (in_row_behind l p s t ≡ true))
        near t e =
            let (at_k, more) = rises_by lifted p t e in
            let off : t ≢ s = λ at. omega (arith, at_k, here, ap (λ u. get_or lifted u 0) at) in
            let was_k : get_or c t 0 ≡ k = sym (there t off) ∙ at_k in (
              off,
              by_cases (in_row_behind l p s t)
                  (λ by. inr by)
                  (λ no. inl (rises_from c p t was_k (as_many t off more (λ heard.
                  let back = up.sound.faithful.lawful.both_ways s t in
                  later_behind c p t s (was_k ∙ sym is) (elim (cases_lt (get_or p s 0) (get_or p t 0)) [ inl ahead ↦ absurd (grind arith) | inr behind ↦ behind ]))))),
            )

  -- one that rose is a station
  pub risen_within : (c noted : List ℕ) (v s : ℕ) → slice_get noted v ≡ Some s → Raising l k c noted → (s < 512) × (v < 512)
  risen_within c noted v s got up =
      let (on, few) = placed_below l.stations (λ t. eqb (get_or c t 0) (k + 1)) noted up.rose v s got in
      (omega (arith, up.sound.few), omega (arith, up.sound.few))
