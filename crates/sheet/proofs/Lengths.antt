-- How long a sheet and its parts are, and that they are bytes.
use Rattle.std.proofs.Common.{◌≡◌, ℕ, zero, suc, ◌+◌, ◌*◌, ◌<◌, ◌≤◌, Bool, true, false, not, eqb, ltb, List, [], ◌∷◌, ◌++◌, map, length, get_or, is_some, Some, None, Option, sym, refl, ap, subst, ◌∙◌, add-one, add-mul, append_assoc, append-nil, inl, inr, arith, length-append}
use Rattle.std.specs.List.{flat_map, range_with_len}
use Rattle.std.proofs.lemmas.Bool.Decides.{nat_tests}
use Rattle.std.proofs.lemmas.Grind.{flat_map-append}
use Rattle.cores.specs.Counting.{bit, times}
use Rattle.cores.specs.Site.{sized}
use Rattle.cores.proofs.Searches.{range_more}
use Rattle.cores.proofs.Counts.{bit_le, bit_false}
use Rattle.std.proofs.lemmas.Bool.{cases_eq}
use Rattle.std.proofs.lemmas.List.{length-map}
use Rattle.std.proofs.lemmas.List.Elements.{All-append}
use Rattle.sheet.specs.declared.entry.Present.{Present}
use Rattle.std.proofs.lemmas.List.FromFn.{length-range_with_len, length-map-range_with_len, get_or-map-range_with_len}
use Rattle.cores.proofs.Entries.{times_none, times_cons, times_append}
use Rattle.cores.proofs.Sums.{once_length}
use Rattle.view.proofs.Admitted.{sized_within}
use Rattle.sheet.specs.declared.entry.Entry.{Entry}
use Rattle.sheet.specs.Plans.{Plan, WellFormed, Fits, stations, entry, lowest_fault, has_equal_lengths}
use Rattle.sheet.specs.Encoding.{field, field_if, up_field, present, map_byte, entry_bytes, station_bytes, encode, HasSheetOf, ASheetIsBytes, TheLengthsOfSheets}
use Rattle.sheet.specs.Decoding.{plan_from}
use Rattle.sheet.proofs.FieldLaws.{AreBytes}
use Rattle.sheet.proofs.SheetLaws.{fit_from, entries_of_plan, entries_at_each, accepted_plan}
use Rattle.sheet.proofs.Faults.{well_formed_without_fault}

-- ---- the parts

pub length-field : (v : ℕ) → length (field v) ≡ 2
unfolding field
length-field v = refl

length-field_if : (b : Bool) (v : ℕ) → length (field_if b v) ≡ 2 * bit b
unfolding field_if bit
length-field_if true v = length-field v
length-field_if false v = refl

length-up_field : (o : Option ℕ) → length (up_field o) ≡ 2 * bit (is_some o)
unfolding up_field bit
length-up_field None = refl
length-up_field (Some u) = length-field u

pub length-entry_bytes : (s : ℕ) (e : Entry)
    → length (entry_bytes s e) ≡ 1 + (length (field_if (present s e).number e.number) + (length (field_if (present s e).home e.home) + length (up_field e.up)))
unfolding entry_bytes
length-entry_bytes s e = simp length-append (omega arith)

-- a home and an up are never both present
entry_length : (n s : ℕ) (e : Entry) → Fits n s e → (1 ≤ length (entry_bytes s e)) × (length (entry_bytes s e) ≤ 5)
entry_length n s e fits = go e.up refl
  where
    whole : length (entry_bytes s e) ≡ 1 + (2 * bit (present s e).number + (2 * bit (present s e).home + 2 * bit (is_some e.up)))
    whole = omega (arith, length-entry_bytes s e, length-field_if (present s e).number e.number, length-field_if (present s e).home e.home, length-up_field e.up)

    go : (o : Option ℕ) → e.up ≡ o → (1 ≤ length (entry_bytes s e)) × (length (entry_bytes s e) ≤ 5)
    go None is =
        let no_up : bit (is_some e.up) ≡ 0 = bit_false (is_some e.up) (rw is refl) in
        (omega (arith, whole), omega (arith, whole, bit_le (present s e).number, bit_le (present s e).home))
    go (Some u) is =
        let own = (fits.up u is).1 in
        let no_home : bit (present s e).home ≡ 0 = bit_false (present s e).home (grind (arith, nat_tests)) in
        (omega (arith, whole), omega (arith, whole, bit_le (present s e).number, bit_le (is_some e.up)))

-- ---- the stations, one after the other

pub station_more : {A : Type 0} (f : ℕ → List A) (s : ℕ) → flat_map f (range_with_len 0 (s + 1)) ≡ flat_map f (range_with_len 0 s) ++ f s
station_more f s = ap (λ m. flat_map f (range_with_len 0 m)) (add-one s) ∙ ap (flat_map f) (range_more s) ∙ flat_map-append f (range_with_len 0 s) (s ∷ []) ∙ ap (λ xs. flat_map f (range_with_len 0 s) ++ xs) (append-nil (f s))

-- one more station behind what was written
pub station_behind : {A : Type 0} (f : ℕ → List A) (s : ℕ) (old now new : List A) → now ≡ old ++ flat_map f (range_with_len 0 s) → new ≡ now ++ f s → new ≡ old ++ flat_map f (range_with_len 0 (s + 1))
station_behind f s old now new before here =
    here ∙ ap (λ xs. xs ++ f s) before ∙ append_assoc old (flat_map f (range_with_len 0 s)) (f s) ∙ ap (λ xs. old ++ xs) (sym (station_more f s))

length_more : (f : ℕ → List ℕ) (n : ℕ) → length (flat_map f (range_with_len 0 (suc n))) ≡ length (flat_map f (range_with_len 0 n)) + length (f n)
length_more f n = ap (λ m. length (flat_map f (range_with_len 0 m))) (sym (add-one n)) ∙ ap length (station_more f n) ∙ length-append (flat_map f (range_with_len 0 n)) (f n)

-- each so long
stations_length : (f : ℕ → List ℕ) (lo hi n : ℕ) → ((s : ℕ) → s < n → (lo ≤ length (f s)) × (length (f s) ≤ hi))
    → (n * lo ≤ length (flat_map f (range_with_len 0 n))) × (length (flat_map f (range_with_len 0 n)) ≤ n * hi)
stations_length f lo hi zero each = (omega arith, omega arith)
stations_length f lo hi (suc n) each =
    let below = stations_length f lo hi n (λ s h. each s (omega arith)) in
    let here = each n (omega arith) in
    (omega (arith, length_more f n, below.0, here.0, add-mul n 1 lo), omega (arith, length_more f n, below.1, here.1, add-mul n 1 hi))

-- there is room for one more while there is room for all
pub station_room : (f : ℕ → List ℕ) (n s : ℕ) → s < n → length (flat_map f (range_with_len 0 s)) + length (f s) ≤ length (flat_map f (range_with_len 0 n))
station_room f zero s h = absurd (omega arith)
station_room f (suc n) s h = elim (cases_eq s n) [
  | inl d ↦ rw d (omega (arith, length_more f n))
  | inr d ↦ omega (arith, length_more f n, station_room f n s (omega arith))
]

pub length-flat_map_field : (ts : List ℕ) → length (flat_map field ts) ≡ 2 * length ts
length-flat_map_field [] = refl
length-flat_map_field (t ∷ ts) = omega (arith, length-append (field t) (flat_map field ts), length-field t, length-flat_map_field ts)

-- ---- whole sheets

pub length-encode : (p : Plan) → length (encode p) ≡ 2 + (length (station_bytes p) + 2 * length p.order)
unfolding encode
length-encode p = simp length-append (omega (arith, length-field (stations p), length-flat_map_field p.order))

pub encode_between : (p : Plan) → WellFormed p → (3 * stations p + 2 ≤ length (encode p)) × (length (encode p) ≤ 7 * stations p + 2)
unfolding station_bytes
encode_between p well =
    let n = stations p in
    let each = stations_length (λ s. entry_bytes s (entry p s)) 1 5 n (λ s h. entry_length n s (entry p s) (well.fits s h)) in
    let places = once_length n p.order well.each_once in
    (omega (arith, length-encode p, each.0), omega (arith, length-encode p, each.1))

-- room for every sheet
pub encode_room : (p : Plan) → sized (stations p) ≡ true → has_equal_lengths p ≡ true → lowest_fault p ≡ None → length (encode p) ≤ 3586
encode_room p counted even none =
    let between = encode_between p ((well_formed_without_fault p counted even).0 none) in
    let few = sized_within (stations p) counted in
    omega arith

-- ---- plans with the shortest and the longest sheet

times-range_with_len : (n t : ℕ) → times t (range_with_len 0 n) ≡ bit (ltb t n)
unfolding bit
times-range_with_len zero t = let none = times_none t in grind (arith, nat_tests)
times-range_with_len (suc n) t =
    let parts : times t (range_with_len 0 (suc n)) ≡ times t (range_with_len 0 n) + times t (n ∷ []) = ap (times t) (range_more n) ∙ times_append t (range_with_len 0 n) (n ∷ []) in
    let below = times-range_with_len n t in
    let last = times_cons t n [] in
    let none = times_none t in
    grind (arith, nat_tests)

alike : (f : ℕ → Entry) (k n : ℕ) → sized n ≡ true → ((s : ℕ) → s < n → Fits n s (f s)) → ((s : ℕ) → length (entry_bytes s (f s)) ≡ k) → HasSheetOf n (n * k + 2 * n + 2)
unfolding station_bytes
alike f k n counted fits long =
    let es = map f (range_with_len 0 n) in
    let ts = range_with_len 0 n in
    let p = plan_from es ts in
    let count = length-map-range_with_len f 0 n in
    let fit = fit_from n 0 es (λ i j d h at. rw (get_or-map-range_with_len f 0 n i j d (omega arith) at) (fits j (omega arith))) in
    let well = accepted_plan n es ts counted count (length-range_with_len 0 n) fit (times-range_with_len n) in
    let all : stations p ≡ n = length-map es (λ e. e.number) ∙ count in
    let entry_is : (s : ℕ) → s < stations p → entry p s ≡ f s = λ s h.
    sym (entries_at_each p s (f s) h) ∙ ap (λ es. get_or es s (f s)) (entries_of_plan es ts) ∙ get_or-map-range_with_len f 0 n s s (f s) (omega arith) (omega arith) in
    let each = stations_length (λ s. entry_bytes s (entry p s)) k k (stations p) (λ s h. (let is : length (entry_bytes s (entry p s)) ≡ k = ap (λ e. length (entry_bytes s e)) (entry_is s h) ∙ long s in (omega arith, omega arith))) in
    let low : stations p * k ≤ length (station_bytes p) = each.0 in
    let high : length (station_bytes p) ≤ stations p * k = each.1 in
    (p, well, all, omega (arith, length-encode p, low, high, ap (λ m. m * k) all, length-range_with_len 0 n))

longest_entry : ℕ → Entry
longest_entry s = record { number = 1; home = s; up = Some 0 }

shortest_entry : ℕ → Entry
shortest_entry s = record { number = 0; home = s; up = None }

length-longest : (s : ℕ) → length (entry_bytes s (longest_entry s)) ≡ 5
unfolding longest_entry bit
length-longest s =
    let own : not (eqb s s) ≡ false = grind (arith, nat_tests) in
    omega (arith, length-entry_bytes s (longest_entry s), length-field_if true 1, length-field_if (not (eqb s s)) s ∙ ap (λ b. 2 * bit b) own, length-up_field (Some 0))

length-shortest : (s : ℕ) → length (entry_bytes s (shortest_entry s)) ≡ 1
unfolding shortest_entry bit
length-shortest s =
    let own : not (eqb s s) ≡ false = grind (arith, nat_tests) in
    omega (arith, length-entry_bytes s (shortest_entry s), length-field_if false 0, length-field_if (not (eqb s s)) s ∙ ap (λ b. 2 * bit b) own, length-up_field None)

pub lengths_of_sheets : TheLengthsOfSheets
unfolding longest_entry shortest_entry
lengths_of_sheets n = record {
  at_least = λ p well is. (let between = encode_between p well in omega arith);
  at_most = λ p well is. (let between = encode_between p well in omega arith);
  shortest = λ counted.
      let some = sized_within n counted in
      subst (HasSheetOf n) (omega arith) (alike shortest_entry 1 n counted (λ s h. record { number = omega arith; home = h; up = λ u d. absurd cc }) length-shortest);
  longest = λ counted two.
      subst (HasSheetOf n) (omega arith) (alike longest_entry 5 n counted (λ s h. record { number = omega arith; home = h; up = λ u d. (let zero_is : 0 ≡ u = cc in (omega arith, refl)) }) length-longest);
}

-- ---- bytes

pub field_bytes : (v : ℕ) → AreBytes (field v)
unfolding field
field_bytes v zero d h = omega arith
field_bytes v (suc zero) d h = omega arith
field_bytes v (suc (suc k)) d h = absurd (omega arith)

field_if_bytes : (b : Bool) (v : ℕ) → AreBytes (field_if b v)
unfolding field_if
field_if_bytes true v = field_bytes v
field_if_bytes false v = λ k d h. absurd (omega arith)

up_field_bytes : (o : Option ℕ) → AreBytes (up_field o)
unfolding up_field
up_field_bytes (Some u) = field_bytes u
up_field_bytes None = λ k d h. absurd (omega arith)

entry_are_bytes : (s : ℕ) (e : Entry) → AreBytes (entry_bytes s e)
unfolding entry_bytes map_byte
entry_are_bytes s e =
    All-append (λ b. b < 256) (map_byte (present s e) ∷ []) _ (first (present s e))
    (All-append (λ b. b < 256) (field_if (present s e).number e.number) _ (field_if_bytes (present s e).number e.number)
    (All-append (λ b. b < 256) (field_if (present s e).home e.home) (up_field e.up) (field_if_bytes (present s e).home e.home) (up_field_bytes e.up)))
  where
    first : (has : Present) → AreBytes (map_byte has ∷ [])
    first has zero d h = omega (arith, bit_le has.number, bit_le has.home, bit_le has.up)
    first has (suc k) d h = absurd (omega arith)

flat_map_bytes : {A : Type 0} (f : A → List ℕ) (xs : List A) → ((x : A) → AreBytes (f x)) → AreBytes (flat_map f xs)
flat_map_bytes f [] each = λ k d h. absurd (omega arith)
flat_map_bytes f (x ∷ xs) each = All-append (λ b. b < 256) (f x) (flat_map f xs) (each x) (flat_map_bytes f xs each)

pub sheet_is_bytes : ASheetIsBytes
unfolding encode station_bytes
sheet_is_bytes p =
    All-append (λ b. b < 256) (field (stations p)) _ (field_bytes (stations p))
    (All-append (λ b. b < 256) (station_bytes p) _ (flat_map_bytes (λ s. entry_bytes s (entry p s)) (range_with_len 0 (stations p)) (λ s. entry_are_bytes s (entry p s)))
    (flat_map_bytes field p.order field_bytes))
