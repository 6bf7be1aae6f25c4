-- Numbers on their way down, and that they end as the core numbers.
use Rattle.std.proofs.Common.{◌≡◌, Bool, ◌≢◌, ℕ, ◌+◌, ◌-◌, ◌⊎◌, ◌<◌, ◌≤◌, true, false, leb, eqb, Some, List, [], ◌∷◌, ◌++◌, length, get_or, set, sym, ap, ◌∙◌, inl, inr, length-set, get_or-set_same, get_or-set_other, arith}
use Rattle.std.specs.List.{slice_get}
use Rattle.std.proofs.lemmas.Bool.{cases_eq, cases_lt, both_ways, leb-true, le-leb}
use Rattle.cores.specs.Counting.{bit, holds}
use Rattle.cores.specs.Site.{Site}
use Rattle.cores.specs.Numbers.{Group, hears, number}
use Rattle.cores.proofs.Searches.{by_cases}
use Rattle.cores.proofs.Entries.{times_none}
use Rattle.cores.proofs.Numbers.{Holding, hears_within, number_atleast, number_heard, number_off_site}
use Rattle.book.specs.Tables.{Links, row, site_of, Sound}
use Rattle.book.specs.Orders.{PutLast}
use Rattle.book.specs.Current.{BearsOut}
use Rattle.book.specs.Updates.{support, falls, in_row, AtMostOneHigh, Lowering, Watched}
use Rattle.book.proofs.Later.{row_heard, lowered_bears_out}
use Rattle.book.proofs.Watching.{moved_watched}
use Rattle.book.proofs.Queues.{placed_below, room_left, times_last}

-- those that have k or more by the numbers c
abbrev pub level : List ℕ → ℕ → Group
level c k t = leb k (get_or c t 0)

-- the neighbours that are counted along the row are those that are heard
pub support_heard : (l : Links) → Sound l → (c : List ℕ) (k s : ℕ) → support l c k s ≡ hears (site_of l) (level c k) s
support_heard l sound c k s = row_heard l sound (level c k) s

module _ (l : Links) (k : ℕ) where
  abbrev g : Site
  g = site_of l

  -- a station falls by number and by support
  pub falls_by : (c : List ℕ) (s : ℕ) → falls l c k s ≡ true → (get_or c s 0 ≡ k) × (support l c k s < k)
  unfolding falls
  falls_by c s e = (grind arith, grind arith)

  pub falls_from : (c : List ℕ) (s : ℕ) → get_or c s 0 ≡ k → support l c k s < k → falls l c k s ≡ true
  unfolding falls
  falls_from c s e few = grind arith

  -- whose number is no smaller than k has k or more by numbers of which none is too low
  high_level : (c : List ℕ) → AtMostOneHigh g k c → (t : ℕ) → k ≤ number g t → level c k t ≡ true
  high_level c high t h = elim (high t) [ inl right ↦ le-leb _ _ (omega arith) | inr above ↦ absurd (omega (arith, above.2)) ]

  -- so whoever falls has k, and one too much
  pub one_too_high : (c : List ℕ) → Sound l → AtMostOneHigh g k c → (s : ℕ) → falls l c k s ≡ true → (0 < k) × (s < l.stations) × (number g s + 1 ≡ k)
  one_too_high c sound high s e =
      let (is, few) = falls_by c s e in
      elim (high s) [
        | inr above ↦ (omega arith, above.0, above.2)
        | inl right ↦ elim (cases_lt s l.stations) [
          | inr off ↦ absurd (omega (arith, number_off_site g s off))
          | inl on ↦ absurd (omega (
            arith,
            number_heard g s on,
            support_heard l sound c k s,
            hears_within g (λ t. leb (number g s) (number g t)) (level c k) s (λ t m a x. high_level c high t (omega (arith, leb-true _ _ x))),
          ))
        ]
      ]

  -- where nobody falls, every number is right
  pub nobody_falls : (c : List ℕ) → Sound l → AtMostOneHigh g k c → ((s : ℕ) → falls l c k s ≡ false) → (s : ℕ) → get_or c s 0 ≡ number g s
  nobody_falls c sound high none s = elim (high s) [
    | inl right ↦ right
    | inr above ↦ absurd (omega (arith, above.2, number_atleast g k s (level c k) above.0 (le-leb _ _ (omega (arith, above.1))) held))
  ]
    where
      held : Holding g k (level c k)
      held t on e = elim (high t) [
        | inr above ↦ elim (cases_lt (support l c k t) k) [ inl few ↦ absurd (both_ways (falls l c k t) (none t) (falls_from c t above.1 few)) | inr enough ↦ omega (arith, support_heard l sound c k t) ]
        | inl right ↦ omega (
          arith,
          leb-true _ _ e,
          number_heard g t on,
          hears_within g (λ u. leb (number g t) (number g u)) (level c k) t (λ u m a x. high_level c high u (omega (arith, leb-true _ _ e, leb-true _ _ x))),
        )
      ]

  -- a station that falls is lowered and noted
  module _ (c p noted : List ℕ) (s : ℕ) (low : Lowering l k c p noted) (fall : falls l c k s ≡ true) where
    abbrev lowered : List ℕ
    lowered = set c s (k - 1)

    facts : (0 < k) × (s < l.stations) × (number g s + 1 ≡ k)
    facts = one_too_high c low.sound low.high s fall

    pub falling_within : s < 512
    falling_within = omega (arith, facts.1, low.sound.few)

    pub falling_some : 1 ≤ k
    falling_some = facts.0

    pub falling_room : length noted < 512
    falling_room =
        let is = (falls_by c s fall).0 in
        omega (arith, low.sound.few, room_left l.stations (λ t. eqb (get_or c t 0 + 1) k) noted low.fell s facts.1 (grind arith))

    here : get_or lowered s 0 ≡ k - 1
    here = get_or-set_same c s (k - 1) 0 (omega (arith, low.entries, falling_within))

    there : (t : ℕ) → t ≢ s → get_or lowered t 0 ≡ get_or c t 0
    there t off = get_or-set_other c s t (k - 1) 0 off

    pub fallen_lowering : (q : List ℕ) → PutLast s p q → Lowering l k lowered q (noted ++ s ∷ [])
    unfolding bit
    fallen_lowering q put = record {
      sound = low.sound;
      entries = length-set c s (k - 1) ∙ low.entries;
      high = λ t. elim (cases_eq t s) [
        | inl at ↦ inl (rw at (omega (arith, here, facts.2)))
        | inr off ↦ let same = there t off in elim (low.high t) [ inl right ↦ inl (same ∙ right) | inr above ↦ inr (above.0, same ∙ above.1, above.2) ]
      ];
      bears_out = let (is, few) = falls_by c s fall in lowered_bears_out l low.sound c p q s k low.entries falling_within put is few low.bears_out;
      fell = λ t. let more = times_last t s noted in let before = low.fell t in elim (cases_eq t s) [
        | inl at ↦
            let is = (falls_by c s fall).0 in
            let now = here in
            let (some, on, one) = facts in
            let entry : get_or c t 0 ≡ get_or c s 0 = ap (λ u. get_or c u 0) at in
            let entry_now : get_or lowered t 0 ≡ get_or lowered s 0 = ap (λ u. get_or lowered u 0) at in
            grind arith
        | inr off ↦ let same = there t off in grind arith
      ];
    }

    -- a neighbour of it may fall now
    pub fallen_watched : (listed rest : ℕ → Bool) (v : ℕ) → ((t : ℕ) → (t ≢ s) → listed t ≡ true → rest t ≡ true)
        → Watched (in_row l) (falls l c k) listed noted v → Watched (in_row l) (falls l lowered k) rest (noted ++ s ∷ []) v
    fallen_watched = moved_watched (in_row l) (falls l c k) (falls l lowered k) noted s near
      where
        -- one that does not hear it has the support that it had
        fewer : (t : ℕ) → support l lowered k t < k → holds (row l t) s ≡ false → support l c k t < k
        fewer t few apart = omega (
          arith,
          support_heard l low.sound c k t,
          support_heard l low.sound lowered k t,
          hears_within g (level c k) (level lowered k) t (λ u m a x. let same = there u (λ d. both_ways (holds (row l t) s) apart (rw d at a)) in grind arith),
        )

        near : (t : ℕ) → falls l lowered k t ≡ true → (t ≢ s) × ((falls l c k t ≡ true) ⊎ (holds (row l s) t ≡ true))
        near t e =
            let (is, few) = falls_by lowered t e in
            let off : t ≢ s = λ at. omega (arith, is, here, facts.0, ap (λ u. get_or lowered u 0) at) in (
              off,
              by_cases (holds (row l t) s)
                  (λ heard. inr (rw (low.sound.faithful.lawful.both_ways s t) heard))
                  (λ apart. inl (falls_from c t (sym (there t off) ∙ is) (fewer t few apart))),
            )

  -- none fell at first
  pub lowering_first : (c p : List ℕ) → Sound l → length c ≡ 512 → AtMostOneHigh g k c → BearsOut l c p → Lowering l k c p []
  lowering_first c p sound long high bears_out = record { sound = sound; entries = long; high = high; bears_out = bears_out; fell = λ t. omega (arith, times_none t) }

  -- one that fell is a station
  pub fallen_within : (c p noted : List ℕ) (v s : ℕ) → slice_get noted v ≡ Some s → Lowering l k c p noted → (s < 512) × (v < 512)
  fallen_within c p noted v s got low =
      let (on, few) = placed_below l.stations (λ t. eqb (get_or c t 0 + 1) k) noted low.fell v s got in
      (omega (arith, low.sound.few), omega (arith, low.sound.few))
