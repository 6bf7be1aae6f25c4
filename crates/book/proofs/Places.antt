-- Places as stations are put ahead of all others or behind them.
use Rattle.std.proofs.Common.{◌≡◌, ◌≢◌, ℕ, zero, suc, ◌+◌, ◌-◌, ◌<◌, ◌≤◌, Bool, true, cond, ◌||◌, ltb, eqb, List, [], ◌∷◌, le_antisymm, map, append-nil, take, drop, ◌++◌, length, length-set, get_or, set, refl, sym, ap, ◌∙◌, inl, inr, get_or-set_same, get_or-set_other, arith}
use Rattle.std.proofs.Math.ListN.{get_or-map}
use Rattle.std.proofs.lemmas.List.{length-map, length-take-le, get_or_default, get_or_past, get_or-take, take_all, take_more, drop_all}
use Rattle.std.proofs.lemmas.List.Sums.{sum_by-cons, count_by-le-length}
use Rattle.std.proofs.lemmas.Grind.{common_steps}
use Rattle.std.proofs.lemmas.List.Edits.{map_over_more}
use Rattle.std.proofs.lemmas.Bool.{cases_eq, cases_lt}
use Rattle.cores.specs.Counting.{holds}
use Rattle.cores.proofs.Entries.{holds_nothing, holds_times, place_of}
use Rattle.book.specs.Orders.{Apart, Kept, KeptBut, PutFirst, PutLast, Forward, LastFirst, lower}
use Rattle.book.proofs.Queues.{holds_last}

-- one entry more of a list that is changed entry by entry
pub one_more : (f : ℕ → ℕ) (old now : List ℕ) (i : ℕ) → i < length old → now ≡ map f (take i old) ++ drop i old
    → set now i (f (get_or now i 0)) ≡ map f (take (i + 1) old) ++ drop (i + 1) old
one_more f old now i h so_far =
    let long : length now ≡ length old = grind (arith, common_steps) in
    map_over_more f old now i (get_or now i 0) h so_far (get_or_default now i 0 (get_or now i 0) (omega arith))

pub all_changed : (f : ℕ → ℕ) (old now : List ℕ) (i : ℕ) → length old ≤ i → now ≡ map f (take i old) ++ drop i old → now ≡ map f old
all_changed f old now i end so_far = so_far ∙ ap (λ rest. map f (take i old) ++ rest) (drop_all i old end) ∙ append-nil (map f (take i old)) ∙ ap (map f) (take_all i old end)

lower_step : (z : ℕ) (xs : List ℕ) (x : ℕ) → lower (z ∷ xs) x ≡ cond (ltb z x) 1 0 + lower xs x
lower_step z xs x = sum_by-cons (λ y. cond (ltb y x) 1 0) z xs

-- at least as many are lower than a higher place, and more if the lower one is among them
lower_mono : (xs : List ℕ) (x y : ℕ) → x ≤ y → lower xs x ≤ lower xs y
lower_mono [] x y less = omega arith
lower_mono (z ∷ xs) x y less = let rest = lower_mono xs x y less in let at_x = lower_step z xs x in let at_y = lower_step z xs y in grind arith

lower_more : (xs : List ℕ) (x y i : ℕ) → x < y → i < length xs → get_or xs i 0 ≡ x → lower xs x < lower xs y
lower_more [] x y i less within at = absurd (omega (arith, within))
lower_more (z ∷ xs) x y zero less within at = let rest = lower_mono xs x y (omega (arith, less)) in let at_x = lower_step z xs x in let at_y = lower_step z xs y in grind arith
lower_more (z ∷ xs) x y (suc i) less within at = let rest = lower_more xs x y i less (omega (arith, within)) at in let at_x = lower_step z xs x in let at_y = lower_step z xs y in grind arith

-- places in the middle, by how many are lower
module _ (p : List ℕ) (first last : ℕ) (apart : Apart p first last) (middle : ℕ) where
  abbrev pub moved : List ℕ
  moved = map (λ x. middle + lower p x) p

  moved_at : (t : ℕ) → t < 512 → get_or moved t 0 ≡ middle + lower p (get_or p t 0)
  moved_at t h =
      get_or_default moved t 0 (middle + lower p 0) (omega (arith, h, apart.all, length-map p (λ x. middle + lower p x)))
      ∙ get_or-map (λ x. middle + lower p x) p t 0

  pub moved_kept : Kept p moved
  moved_kept t u ht hu less = elim (cases_lt (get_or p u 0) (get_or p t 0)) [
    | inl more ↦ absurd (omega (arith, less, moved_at t ht, moved_at u hu, lower_more p (get_or p u 0) (get_or p t 0) u more (omega (arith, hu, apart.all)) refl))
    | inr fine ↦ fine
  ]

  pub moved_apart : middle + 512 < 65536 → Apart moved middle (middle + 512)
  moved_apart fits = record {
    all = length-map p (λ x. middle + lower p x) ∙ apart.all;
    fits = fits;
    within = λ t h. (omega (arith, moved_at t h), omega (arith, moved_at t h, apart.all, count_by-le-length (λ y. ltb y (get_or p t 0)) p));
    own = λ t u ht hu same. apart.own t u ht hu (le_antisymm (moved_kept t u ht hu (omega (arith, same))) (moved_kept u t hu ht (omega (arith, same))));
  }

-- one station is put at a place that nobody has
module _ (p : List ℕ) (s place : ℕ) (long : length p ≡ 512) (on : s < 512) where
  put_at : get_or (set p s place) s 0 ≡ place
  put_at = get_or-set_same p s place 0 (omega (arith, long, on))

  put_other : (t : ℕ) → t ≢ s → get_or (set p s place) t 0 ≡ get_or p t 0
  put_other t off = get_or-set_other p s t place 0 off

  put_kept : KeptBut s p (set p s place)
  put_kept t u ht hu off_t off_u less = omega (arith, less, put_other t off_t, put_other u off_u)

  module _ (first last low high : ℕ) (apart : Apart p first last) (free : (t : ℕ) → t < 512 → get_or p t 0 ≢ place) where
    put_apart : high < 65536 → low ≤ first → last ≤ high → low ≤ place → place ≤ high → Apart (set p s place) low high
    put_apart fits wide_low wide_high l h = record {
      all = length-set p s place ∙ long;
      fits = fits;
      within = λ t on_t. elim (cases_eq t s) [
        | inl at ↦ rw at (omega (arith, put_at, l), omega (arith, put_at, h))
        | inr off ↦ (omega (arith, put_other t off, (apart.within t on_t).0, wide_low), omega (arith, put_other t off, (apart.within t on_t).1, wide_high))
      ];
      own = λ t u ht hu same. elim (cases_eq t s) [
        | inl at ↦ elim (cases_eq u s) [
          | inl too ↦ at ∙ sym too
          | inr off ↦ absurd (free u hu (sym (put_other u off) ∙ sym same ∙ ap (λ v. get_or (set p s place) v 0) at ∙ put_at))
        ]
        | inr off ↦ elim (cases_eq u s) [
          | inl at ↦ absurd (free t ht (sym (put_other t off) ∙ same ∙ ap (λ v. get_or (set p s place) v 0) at ∙ put_at))
          | inr too ↦ apart.own t u ht hu (sym (put_other t off) ∙ same ∙ put_other u too)
        ]
      ];
    }

  module _ (first last : ℕ) (apart : Apart p first last) where
    pub first_put : place < first → PutFirst s p (set p s place)
    first_put less = (put_kept, λ t h off. omega (arith, put_at, put_other t off, (apart.within t h).0, less))

    pub first_apart : place < first → place ≤ last → Apart (set p s place) place last
    first_apart less low = put_apart first last place last apart (λ t h e. omega (arith, (apart.within t h).0, less, e)) apart.fits (omega (arith, less)) (omega arith) (omega arith) low

    pub last_put : last < place → PutLast s p (set p s place)
    last_put more = (put_kept, λ t h off. omega (arith, put_at, put_other t off, (apart.within t h).1, more))

    pub last_apart : last < place → place < 65536 → first ≤ place → Apart (set p s place) first place
    last_apart more fits high = put_apart first last first place apart (λ t h e. omega (arith, (apart.within t h).1, more, e)) fits (omega arith) (omega (arith, more)) high (omega arith)

-- what keeps all in order, and then all but s
pub kept_then : (p q r : List ℕ) (s : ℕ) → Kept p q → KeptBut s q r → KeptBut s p r
kept_then p q r s first second t u ht hu off_t off_u less = first t u ht hu (second t u ht hu off_t off_u less)

-- each station at the place of its index, from the middle on
pub own_places : (p : List ℕ) (middle : ℕ) → length p ≡ 512 → middle + 511 < 65536 → ((t : ℕ) → t < 512 → get_or p t 0 ≡ middle + t) → Apart p middle (middle + 511)
own_places p middle long fits own = record {
  all = long;
  fits = fits;
  within = λ t h. (omega (arith, own t h), omega (arith, own t h, h));
  own = λ t u ht hu same. omega (arith, own t ht, own u hu, same);
}

-- a greater place is a lesser distance from the end
pub by_distance : (p : List ℕ) (first last : ℕ) → Apart p first last
    → (s t : ℕ) → 65535 - get_or p s 0 ≤ 65535 - get_or p t 0 → get_or p t 0 ≤ get_or p s 0
by_distance p first last apart s t less = elim (cases_lt t 512) [
  | inl on ↦ omega (arith, (apart.within t on).1, apart.fits, less)
  | inr off ↦ let none = get_or_past p t 0 (omega (arith, off, apart.all)) in omega arith
]

-- Stations that are put ahead of all others, one after the other, the one at the greatest place first.
module _ (p : List ℕ) where
  -- to begin with none is
  pub none_forward : Forward (holds []) p p
  none_forward s t on_s on_t le = (λ e. holds_nothing t e, λ same. le)

  -- the same members
  pub same_forward : (M N : ℕ → Bool) (q : List ℕ) → ((t : ℕ) → M t ≡ N t) → Forward M p q → Forward N p q
  same_forward M N q same forward s t on_s on_t le =
      let (first, kept) = forward s t on_s on_t le in
      (λ e. sym (same s) ∙ first (same t ∙ e), λ both. kept (same s ∙ both ∙ sym (same t)))

  -- and one more
  module _ (xs : List ℕ) (i : ℕ) (within : i < length xs) (order : LastFirst p xs) (q r : List ℕ) (moved_up : PutFirst (get_or xs i 0) q r) where
    abbrev x : ℕ
    x = get_or xs i 0

    abbrev now : ℕ → Bool
    now = holds (take (i + 1) xs)

    now_is : (t : ℕ) → now t ≡ (holds (take i xs) t || eqb t x)
    now_is t = ap (λ ys. holds ys t) (take_more xs i 0 within) ∙ holds_last t x (take i xs)

    now_last : now x ≡ true
    now_last = let is = now_is x in grind arith

    now_other : (t : ℕ) → t ≢ x → now t ≡ holds (take i xs) t
    now_other t off = let is = now_is t in grind arith

    -- those before stood no further ahead
    before : (t : ℕ) → t ≢ x → now t ≡ true → get_or p x 0 ≤ get_or p t 0
    before t off e =
        let (j, low, at) = place_of t (take i xs) (holds_times (take i xs) t (sym (now_other t off) ∙ e)) in
        let less : j < i = omega (arith, low, length-take-le i xs (omega (arith, within))) in
        let is : get_or xs j 0 ≡ t = sym (get_or-take i xs j 0 less) ∙ at in
        let place : get_or p (get_or xs j 0) 0 ≡ get_or p t 0 = ap (λ u. get_or p u 0) is in
        omega (arith, order j i (omega (arith, less)) within, place)

    pub more_forward : Forward (holds (take i xs)) p q → Forward now p r
    more_forward so_far s t on_s on_t le = elim (cases_eq t x) [
      | inl at ↦ elim (cases_eq s x) [
        | inl too ↦ (λ e. rw too now_last, λ same. let place : get_or p s 0 ≡ get_or p t 0 = ap (λ u. get_or p u 0) (too ∙ sym at) in omega (arith, place))
        | inr off ↦
            let place : get_or r t 0 ≡ get_or r x 0 = ap (λ u. get_or r u 0) at in
            absurd (omega (arith, le, place, moved_up.1 s on_s off))
      ]
      | inr off ↦ elim (cases_eq s x) [
        | inl at ↦ (
          λ e. rw at now_last,
          λ same.
              let place : get_or p s 0 ≡ get_or p x 0 = ap (λ u. get_or p u 0) at in
              omega (arith, place, before t off (sym same ∙ rw at now_last)),
        )
        | inr too ↦
            let (first, kept) = so_far s t on_s on_t (moved_up.0 s t on_s on_t too off le) in
            (λ e. now_other s too ∙ first (sym (now_other t off) ∙ e), λ same. kept (sym (now_other s too) ∙ same ∙ now_other t off))
      ]
    ]
