-- The table of those that moved, while it is filled.
use Rattle.std.proofs.Common.{◌≡◌, ℕ, ◌+◌, ◌<◌, ◌≤◌, true, false, cond, not, eqb, List, [], ◌∷◌, ◌++◌, length, get_or, take, set, refl, sym, ap, ◌∙◌, arith, length-set, append-nil}
use Rattle.std.proofs.lemmas.List.{take_more_set}
use Rattle.std.proofs.lemmas.List.FromFn.{filter_of_map_range_with_len_more}
use Rattle.transcript.specs.declared.lines.Moved.{Moved}
use Rattle.walkthrough.specs.Linking.{movement_of, moved_below}

-- the first `count` entries are the stations below s that moved
pub record Noted (before now : List ℕ) (s count : ℕ) (table : List Moved) : Type 0 where
  pub room : length table ≡ 512
  pub few : count ≤ s
  pub front : take count table ≡ moved_below before now s

module _ (before now : List ℕ) where
  pub noted_none : (table : List Moved) → length table ≡ 512 → Noted before now 0 0 table
  unfolding moved_below
  noted_none table room = record { room = room; few = omega arith; front = refl }

  module _ (s count : ℕ) (table : List Moved) (on : s < 512) (noted : Noted before now s count table) where
    below_more : moved_below before now (s + 1) ≡ moved_below before now s ++ cond (not (eqb (get_or before s 0) (get_or now s 0))) (movement_of before now s ∷ []) []
    unfolding moved_below
    below_more = filter_of_map_range_with_len_more (λ (moved : Moved). not (eqb moved.from moved.to)) (movement_of before now) 0 s s (omega arith)

    -- a station that moved is noted
    pub noted_more : eqb (get_or before s 0) (get_or now s 0) ≡ false → Noted before now (s + 1) (count + 1) (set table count (movement_of before now s))
    noted_more differs = record {
      room = length-set table count (movement_of before now s) ∙ noted.room;
      few = omega (arith, noted.few);
      front =
          take_more_set table count (movement_of before now s) (omega (arith, noted.few, noted.room))
          ∙ ap (λ ms. ms ++ movement_of before now s ∷ []) noted.front
          ∙ sym (below_more ∙ rw differs refl);
    }

    -- and another is passed over
    pub noted_past : eqb (get_or before s 0) (get_or now s 0) ≡ true → Noted before now (s + 1) count table
    noted_past same = record {
      room = noted.room;
      few = omega (arith, noted.few);
      front = noted.front ∙ sym (below_more ∙ rw same (append-nil (moved_below before now s)));
    }
