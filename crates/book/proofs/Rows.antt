-- Rows with one neighbour more or less: as the code shifts them, and what they list.
use Rattle.std.proofs.Common.{◌≡◌, ℕ, suc, ◌+◌, ◌-◌, ◌<◌, ◌≤◌, Bool, nat_eq, nat_lt, eqb, List, ◌∷◌, ◌++◌, length, take, drop, get_or, set, append-nil, ap₂, Some, None, Option, sym, refl, ap, ◌∙◌, inl, inr, arith, length-take, length-take-le, length-set, get_or-set_same, get_or-set_other}
use Rattle.std.specs.List.{insert, remove, CopiedTo, SameBelow, position, position_or_len}
use Rattle.std.specs.Option.{unwrap_or}
use Rattle.std.proofs.lemmas.List.{same_lists, get_or-take, take_min, take_all, drop_all}
use Rattle.std.proofs.lemmas.List.Sums.{prefix_len-le-length, fails_before_first, passes_at_first, split_at_first}
use Rattle.std.proofs.lemmas.List.Edits.{length-insert, length-remove, get_or-insert_at, get_or-insert_below, get_or-insert_above, get_or-remove_below, get_or-remove_above}
use Rattle.std.proofs.lemmas.Bool.{cases_lt, cases_eq}
use Rattle.cores.specs.Counting.{bit, times}
use Rattle.cores.proofs.Entries.{times_at, place_of, times_cons, times_append, times_parts}
use Rattle.view.specs.Rows.{Rising}
use Rattle.book.specs.Stations.{put, cut}

-- entries up to a length, with those from a place on shifted up, and one written there
pub shifted_up : (xs ys : List ℕ) (len t place : ℕ) → len < length xs → place ≤ len → length ys ≡ length xs
    → CopiedTo xs ys place (place + 1) (len - place) → SameBelow xs ys (place + 1)
    → take (len + 1) (set ys place t) ≡ insert (take len xs) place t
shifted_up xs ys len t place h l long copied same =
    let short = length-take-le len xs (omega arith) in
    let all = length-take-le (len + 1) (set ys place t) (omega (arith, length-set ys place t)) in
    same_lists _ _ (omega (arith, length-insert (take len xs) place t (omega arith)))
    (λ k d m. let within = get_or-take (len + 1) (set ys place t) k d (omega arith) in within ∙ elim (cases_eq k place) [
      | inl at ↦ rw at (get_or-set_same ys place t d (omega arith) ∙ sym (get_or-insert_at (take len xs) place t d (omega arith)))
      | inr off ↦ get_or-set_other ys place k t d off ∙ elim (cases_lt k place) [
        | inl low ↦ same k d (omega arith) ∙ sym (get_or-insert_below (take len xs) place t d k low (omega arith) ∙ get_or-take len xs k d (omega arith))
        | inr high ↦
            let from : place + (k - (place + 1)) ≡ k - 1 = omega arith in
            let next : k - 1 + 1 ≡ k = omega arith in
            copied k d (omega arith) (omega arith) ∙ ap (λ i. get_or xs i d) from
            ∙ sym (ap (λ i. get_or (insert (take len xs) place t) i d) (sym next) ∙ get_or-insert_above (take len xs) place t d (k - 1) (omega arith) (omega arith) ∙ get_or-take len xs (k - 1) d (omega arith))
      ]
    ])

-- the same with those behind a place shifted down
pub shifted_down : (xs ys : List ℕ) (len place : ℕ) → len ≤ length xs → place < len → length ys ≡ length xs
    → CopiedTo xs ys (place + 1) place (len - (place + 1)) → SameBelow xs ys place
    → take (len - 1) ys ≡ remove (take len xs) place
shifted_down xs ys len place h l long copied same =
    let short = length-take-le len xs h in
    let all = length-take-le (len - 1) ys (omega arith) in
    same_lists _ _ (omega (arith, length-remove (take len xs) place (omega arith)))
    (λ k d m. let within = get_or-take (len - 1) ys k d (omega arith) in within ∙ elim (cases_lt k place) [
      | inl low ↦ same k d low ∙ sym (get_or-remove_below (take len xs) place d k low (omega arith) ∙ get_or-take len xs k d (omega arith))
      | inr high ↦
          let from : place + 1 + (k - place) ≡ k + 1 = omega arith in
          copied k d high (omega arith) ∙ ap (λ i. get_or xs i d) from
          ∙ sym (get_or-remove_above (take len xs) place d k high (omega arith) ∙ get_or-take len xs (k + 1) d (omega arith))
    ])

-- the first place that passes, or the end
pub first_within : (p : ℕ → Bool) (xs : List ℕ) → position_or_len p xs ≤ length xs
first_within p xs = prefix_len-le-length _ xs

pub first_or_end : (p : ℕ → Bool) (xs : List ℕ) (r : Option ℕ) → r ≡ position p xs → unwrap_or r (length xs) ≡ position_or_len p xs
first_or_end p xs r e = let within = first_within p xs in grind arith

pub first_found : (p : ℕ → Bool) (xs : List ℕ) (place : ℕ) → Some place ≡ position p xs → (place ≡ position_or_len p xs) × (place < length xs)
first_found p xs place e = (grind arith, grind arith)

pub none_found : (p : ℕ → Bool) (xs : List ℕ) → None ≡ position p xs → position_or_len p xs ≡ length xs
none_found p xs e = let within = first_within p xs in grind arith

-- a front that is taken again by its own length
pub taken_again : (len : ℕ) (row : List ℕ) → take (length (take len row)) row ≡ take len row
taken_again len row = ap (λ n. take n row) (length-take len row) ∙ take_min len row

module _ (t : ℕ) (row : List ℕ) (len : ℕ) where
  -- the first len entries of a row, as insert and remove of a station change them
  abbrev xs : List ℕ
  xs = take len row

  pub put_in : (ys : List ℕ) (place : ℕ) → length xs < length row → place ≡ position_or_len (nat_lt t) xs → length ys ≡ length row
      → CopiedTo row ys place (place + 1) (length xs - place) → SameBelow row ys (place + 1)
      → take (length xs + 1) (set ys place t) ≡ put t xs
  put_in ys place room first long copied same =
      let within = first_within (nat_lt t) xs in
      shifted_up row ys (length xs) t place room (omega arith) long copied same
      ∙ ap (λ zs. insert zs place t) (taken_again len row)
      ∙ ap (λ i. insert xs i t) first

  pub taken_out : (ys : List ℕ) (place : ℕ) → Some place ≡ position (nat_eq t) xs → length ys ≡ length row
      → CopiedTo row ys (place + 1) place (length xs - (place + 1)) → SameBelow row ys place
      → take (length xs - 1) ys ≡ cut t xs
  taken_out ys place found long copied same =
      let (first, within) = first_found (nat_eq t) xs place found in
      shifted_down row ys (length xs) place (omega (arith, length-take len row)) within long copied same
      ∙ ap (λ zs. remove zs place) (taken_again len row)
      ∙ ap (λ i. remove xs i) first

  pub not_there : None ≡ position (nat_eq t) xs → xs ≡ cut t xs
  not_there none =
      let i = position_or_len (nat_eq t) xs in
      let end = none_found (nat_eq t) xs none in
      sym (append-nil xs) ∙ ap₂ ◌++◌ (sym (take_all i xs (omega arith))) (sym (drop_all (suc i) xs (omega arith)))

module _ (t : ℕ) (xs : List ℕ) where
  -- what is put in is listed once more
  pub put_times : (u : ℕ) → times u (put t xs) ≡ bit (eqb u t) + times u xs
  put_times u =
      let i = position_or_len (nat_lt t) xs in
      omega (arith, times_append u (take i xs) (t ∷ drop i xs), times_cons u t (drop i xs), times_parts u i xs)

  pub put_length : length (put t xs) ≡ length xs + 1
  put_length = length-insert xs (position_or_len (nat_lt t) xs) t (first_within (nat_lt t) xs)

  -- and the row still rises
  pub put_rises : Rising xs → times t xs ≡ 0 → Rising (put t xs)
  put_rises rises none = risen (position_or_len (nat_lt t) xs) refl
    where
      apart : (k : ℕ) → k < length xs → get_or xs k 0 ≡ t → ⊥
      apart k h e = omega (arith, none, times_at t xs k h e)

      risen : (i : ℕ) → i ≡ position_or_len (nat_lt t) xs → Rising (insert xs i t)
      risen i first k h =
          let within = first_within (nat_lt t) xs in
          let long = length-insert xs i t (omega arith) in
          let below : (j : ℕ) → j < i → get_or (insert xs i t) j 0 ≡ get_or xs j 0 = λ j l. get_or-insert_below xs i t 0 j l (omega arith) in
          let at = get_or-insert_at xs i t 0 (omega arith) in
          let above : (j : ℕ) → i ≤ j → get_or (insert xs i t) (j + 1) 0 ≡ get_or xs j 0 = λ j l. get_or-insert_above xs i t 0 j l (omega arith) in
          elim (cases_lt (k + 1) i) [
            | inl low ↦ omega (arith, below k (omega arith), below (k + 1) low, rises k (omega arith))
            | inr up ↦ elim (cases_eq (k + 1) i) [
              | inl front ↦
                  let smaller = fails_before_first (nat_lt t) xs k 0 (omega arith) in
                  let other = apart k (omega arith) in
                  let here = below k (omega arith) in
                  let next : get_or (insert xs i t) (k + 1) 0 ≡ t = rw front at in
                  grind arith
              | inr past ↦ elim (cases_eq k i) [
                | inl here ↦
                    let greater = passes_at_first (nat_lt t) xs 0 (omega (arith, long)) in
                    let this : get_or (insert xs i t) k 0 ≡ t = rw here at in
                    let next = above k (omega arith) in
                    let same : get_or xs k 0 ≡ get_or xs (position_or_len (nat_lt t) xs) 0 = ap (λ j. get_or xs j 0) (here ∙ first) in
                    grind arith
                | inr behind ↦
                    let last : k - 1 + 1 ≡ k = omega arith in
                    let this : get_or (insert xs i t) k 0 ≡ get_or xs (k - 1) 0 = ap (λ j. get_or (insert xs i t) j 0) (sym last) ∙ above (k - 1) (omega arith) in
                    let same : get_or xs (k - 1 + 1) 0 ≡ get_or xs k 0 = ap (λ j. get_or xs j 0) last in
                    omega (arith, above k (omega arith), rises (k - 1) (omega arith))
              ]
            ]
          ]

  -- what is listed is found, and cut there
  module _ (listed : 0 < times t xs) where
    abbrev i : ℕ
    i = position_or_len (nat_eq t) xs

    found : i < length xs
    found =
        let (k, h, e) = place_of t xs listed in
        let front = fails_before_first (nat_eq t) xs k 0 in
        grind arith

    there : get_or xs i 0 ≡ t
    there = let passes = passes_at_first (nat_eq t) xs 0 found in grind arith

    -- it is listed once less
    pub cut_times : (u : ℕ) → times u (cut t xs) + bit (eqb u t) ≡ times u xs
    cut_times u =
        let split = ap (times u) (split_at_first (nat_eq t) xs 0 found) in
        let next : suc i ≡ i + 1 = omega arith in
        let back : times u (drop (suc i) xs) ≡ times u (drop (i + 1) xs) = ap (λ k. times u (drop k xs)) next in
        let one : bit (eqb u (get_or xs i 0)) ≡ bit (eqb u t) = ap (λ x. bit (eqb u x)) there in
        omega (
          arith,
          times_append u (take i xs) (drop (suc i) xs),
          times_append u (take i xs) (get_or xs i 0 ∷ drop (i + 1) xs),
          times_cons u (get_or xs i 0) (drop (i + 1) xs),
        )

    pub cut_length : length (cut t xs) + 1 ≡ length xs
    cut_length = length-remove xs i found

    -- and the row still rises
    pub cut_rises : Rising xs → Rising (cut t xs)
    cut_rises rises k l =
        let below : (j : ℕ) → j < i → get_or (cut t xs) j 0 ≡ get_or xs j 0 = λ j m. get_or-remove_below xs i 0 j m found in
        let above : (j : ℕ) → i ≤ j → get_or (cut t xs) j 0 ≡ get_or xs (j + 1) 0 = λ j m. get_or-remove_above xs i 0 j m found in
        elim (cases_lt (k + 1) i) [
          | inl low ↦ omega (arith, below k (omega arith), below (k + 1) low, rises k (omega (arith, cut_length)))
          | inr up ↦ elim (cases_lt k i) [
            | inl front ↦ omega (arith, below k front, above (k + 1) up, rises k (omega (arith, cut_length)), rises (k + 1) (omega (arith, cut_length)))
            | inr behind ↦ omega (arith, above k behind, above (k + 1) up, rises (k + 1) (omega (arith, cut_length)))
          ]
        ]
