-- Stations that are still to be looked at, as those that move are noted one after the other and those near them visited.
use Rattle.std.proofs.Common.{◌≡◌, ◌≢◌, ◌⊎◌, ℕ, ◌+◌, ◌<◌, ◌≤◌, Bool, true, false, Some, None, List, [], ◌∷◌, ◌++◌, length, drop, get_or, ap, inl, inr, length-append, arith}
use Rattle.std.specs.List.{slice_get}
use Rattle.std.proofs.lemmas.List.{drop_all}
use Rattle.std.proofs.lemmas.Bool.{cases_eq, both_ways, false≢true}
use Rattle.cores.specs.Counting.{holds}
use Rattle.cores.proofs.Searches.{by_cases}
use Rattle.cores.proofs.Entries.{holds_later, holds_nothing}
use Rattle.book.specs.Updates.{at_or_behind, Watched}
use Rattle.book.proofs.Queues.{holds_last, drop_last, drop_next, drop_got, taken_none}

-- the rest of a list, as its next entry is looked at
pub next_rest : (stations : List ℕ) (i : ℕ) → i < length stations → (t : ℕ) → t ≢ get_or stations i 0 → holds (drop i stations) t ≡ true → holds (drop (i + 1) stations) t ≡ true
next_rest stations i h t off e = holds_later t (get_or stations i 0) (drop (i + 1) stations) (rw (drop_next i stations h) at e) off

-- behind the end nobody is listed
pub none_rest : (stations : List ℕ) (i : ℕ) → length stations ≤ i → (t : ℕ) → holds (drop i stations) t ≡ true → false ≡ true
none_rest stations i end t e = holds_nothing t (rw (drop_all i stations end) at e)

-- the same of those that are not ahead of a place
module _ (p : List ℕ) (place : ℕ) (stations : List ℕ) (i : ℕ) (h : i < length stations) where
  pub next_behind : (t : ℕ) → t ≢ get_or stations i 0 → at_or_behind p place (drop i stations) t ≡ true → at_or_behind p place (drop (i + 1) stations) t ≡ true
  next_behind t off e = let rest = next_rest stations i h t off in grind arith

  -- the next entry is ahead
  pub next_ahead : get_or p (get_or stations i 0) 0 < place → (t : ℕ) → at_or_behind p place (drop i stations) t ≡ true → at_or_behind p place (drop (i + 1) stations) t ≡ true
  next_ahead ahead t e = elim (cases_eq t (get_or stations i 0)) [
    | inl at ↦ let same : get_or p t 0 ≡ get_or p (get_or stations i 0) 0 = ap (λ u. get_or p u 0) at in absurd (grind arith)
    | inr off ↦ next_behind t off e
  ]

-- nobody is ahead of place 0
pub all_behind : (p stations : List ℕ) (t : ℕ) → holds stations t ≡ true → at_or_behind p 0 stations t ≡ true
all_behind p stations t e = grind arith

module _ (near : ℕ → ℕ → Bool) where
  -- s moves and is noted: whoever is to move now was to move before, or is near s
  pub moved_watched : (before now : ℕ → Bool) (noted : List ℕ) (s : ℕ)
      → ((t : ℕ) → now t ≡ true → (t ≢ s) × ((before t ≡ true) ⊎ (near s t ≡ true)))
      → (listed rest : ℕ → Bool) (v : ℕ) → ((t : ℕ) → (t ≢ s) → listed t ≡ true → rest t ≡ true)
      → Watched near before listed noted v → Watched near now rest (noted ++ s ∷ []) v
  moved_watched before now noted s moves listed rest v left watched = record {
    within = omega (arith, watched.within, length-append noted (s ∷ []));
    seen = λ t e.
        let (off, why) = moves t e in
        elim why [
          | inr by ↦ inr (s, rw behind (rw holds_last (grind arith)), by)
          | inl old ↦ elim (watched.seen t old) [
            | inl on ↦ inl (left t off on)
            | inr by ↦ inr (by.0, rw behind (rw holds_last (let held = by.1 in grind arith)), by.2)
          ]
        ];
  }
    where
      behind : drop v (noted ++ s ∷ []) ≡ drop v noted ++ s ∷ []
      behind = drop_last v s noted watched.within

  module _ (moving : ℕ → Bool) where
    -- whoever is listed is listed elsewhere
    pub still_watched : (noted : List ℕ) (listed rest : ℕ → Bool) (v : ℕ) → ((t : ℕ) → moving t ≡ true → listed t ≡ true → rest t ≡ true)
        → Watched near moving listed noted v → Watched near moving rest noted v
    still_watched noted listed rest v left watched = record {
      within = watched.within;
      seen = λ t e. elim (watched.seen t e) [ inr by ↦ inr by | inl on ↦ inl (left t e on) ];
    }

    -- one that does not move is no longer looked at
    pub kept_watched : (noted : List ℕ) (s : ℕ) → moving s ≡ false → (listed rest : ℕ → Bool) (v : ℕ) → ((t : ℕ) → (t ≢ s) → listed t ≡ true → rest t ≡ true)
        → Watched near moving listed noted v → Watched near moving rest noted v
    kept_watched noted s stays listed rest v left = still_watched noted listed rest v (λ t e on. left t (λ at. both_ways (moving s) stays (rw at at e)) on)

    -- those near one that was noted come next
    pub visited_watched : (noted : List ℕ) (v s : ℕ) → slice_get noted v ≡ Some s → Watched near moving (λ t. false) noted v → Watched near moving (near s) noted (v + 1)
    visited_watched noted v s got watched =
        let (h, rest) = drop_got noted v s got in
        record {
          within = omega arith;
          seen = λ t e. elim (watched.seen t e) [
            | inl nothing ↦ absurd (false≢true nothing)
            | inr by ↦
                let held : holds (s ∷ drop (v + 1) noted) by.0 ≡ true = rw (← rest) by.1 in
                elim (cases_eq by.0 s) [
                  | inl same ↦ inl (rw (← same) by.2)
                  | inr other ↦ inr (by.0, holds_later by.0 s (drop (v + 1) noted) held other, by.2)
                ]
          ];
        }

    -- when all were visited, nobody is to move
    pub watched_over : (noted : List ℕ) (v : ℕ) → slice_get noted v ≡ None → Watched near moving (λ t. false) noted v → (t : ℕ) → moving t ≡ false
    watched_over noted v end watched t = by_cases (moving t) (λ e. absurd (elim (watched.seen t e) [
      | inl nothing ↦ false≢true nothing
      | inr by ↦ holds_nothing by.0 (rw (drop_all v noted (taken_none noted v end)) at by.1)
    ])) (λ e. e)
