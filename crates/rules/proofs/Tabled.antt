-- What the table of numbers says of the levels.
use Rattle.std.proofs.Common.{◌≡◌, ℕ, suc, ◌+◌, ◌<◌, ◌≤◌, true, false, leb, List, ◌++◌, length, get_or, take, drop, Ok, Err, sym, refl, ap, ◌∙◌, add-one, arith}
use Rattle.std.specs.List.{Contains}
use Rattle.std.proofs.lemmas.List.{take_at, ext_get_or}
use Rattle.std.proofs.lemmas.List.FromFn.{length-map-range_with_len, get_or-map-range_with_len}
use Rattle.std.proofs.lemmas.Grind.{get_or_default_zero}
use Rattle.std.proofs.lemmas.Bool.Decides.{nat_tests}
use Rattle.refusals.specs.declared.Refusal.{Refusal}
use Rattle.refusals.specs.declared.Refusal.TheVariants.{CountOutOfRange, BufferShort}
use Rattle.rules.specs.declared.counts.Counts.{Counts}
use Rattle.cores.specs.Site.{Site, Lawful, sized}
use Rattle.cores.specs.Numbers.{in_core, number}
use Rattle.cores.proofs.Searches.{by_cases}
use Rattle.cores.proofs.Numbers.{core_number, number_below}
use Rattle.view.specs.Answers.{answer, left_in}
use Rattle.view.proofs.Admitted.{sized_within}
use Rattle.sheet.specs.Sites.{plan_of}
use Rattle.drawer.specs.Calls.{written_for}
use Rattle.rules.specs.Levels.{counts_of, top, levels}
use Rattle.rules.specs.Noted.{Holds, counts_from}
use Rattle.rules.proofs.Links.{no_counts, counts_same}
use Rattle.rules.proofs.Tops.{top_had, top_is}

module _ (g : Site) where
  numbers_length : length (plan_of g).numbers ≡ g.size
  unfolding plan_of
  numbers_length = length-map-range_with_len (number g) 0 g.size

  pub levels_length : length (levels g) ≡ top g + 1
  unfolding levels
  levels_length = length-map-range_with_len _ 0 (suc (top g)) ∙ sym (add-one (top g))

  -- what a call answered that writes 512 entries at most, and left in a table with room for all
  module _ {A : Type 0} (xs : List A) (fits : sized g.size ≡ true → length xs ≤ 512) where
    pub counted_out : (e : Refusal) → Err e ≡ answer length (written_for g 512 xs) → (sized g.size ≡ false) × (e ≡ CountOutOfRange)
    counted_out e answered = by_cases (sized g.size) (λ small. let few = fits small in absurd (grind (arith, nat_tests))) (λ large. (large, grind (arith, nat_tests)))

    pub written_out : (n : ℕ) (table blank : List A) → Ok n ≡ answer length (written_for g 512 xs) → table ≡ left_in (λ xs. xs) (written_for g 512 xs) blank
        → (sized g.size ≡ true) × (take n table ≡ xs)
    written_out n table blank answered left =
        by_cases (sized g.size)
        (λ small.
        let few = fits small in
        let all : written_for g 512 xs ≡ Ok xs = grind (arith, nat_tests) in
        let counted : length xs ≡ n = grind (arith, nat_tests) in
        (small, rw (left, all) (take_at xs (drop (length xs) blank) n counted)))
        (λ large. absurd (grind (arith, nat_tests)))

  numbers_few : sized g.size ≡ true → length (plan_of g).numbers ≤ 512
  numbers_few small = omega (arith, numbers_length, (sized_within g.size small).1)

  pub refused : (e : Refusal) (room : ℕ) → Err e ≡ answer length (written_for g 512 (plan_of g).numbers) → written_for g room (levels g) ≡ Err e
  refused e room answered =
      let (large, is) = counted_out (plan_of g).numbers numbers_few e answered in
      rw (large, is) refl

  pub taken : (n : ℕ) (table blank : List ℕ) → Ok n ≡ answer length (written_for g 512 (plan_of g).numbers) → table ≡ left_in (λ xs. xs) (written_for g 512 (plan_of g).numbers) blank
      → (sized g.size ≡ true) × (take n table ≡ (plan_of g).numbers)
  taken = written_out (plan_of g).numbers numbers_few

  -- a lawful site has no more levels than stations
  pub levels_few : Lawful g → sized g.size ≡ true → length (levels g) ≤ 512
  levels_few law small =
      let (more, few) = sized_within g.size small in
      let (s, h, is) = top_had g more in
      omega (arith, levels_length, number_below g law s h)

  -- a table of the numbers
  module _ (numbers : List ℕ) (are : numbers ≡ (plan_of g).numbers) where
    number_there : (s : ℕ) → s < g.size → get_or numbers s 0 ≡ number g s
    unfolding plan_of
    number_there s h = rw are (get_or-map-range_with_len (number g) 0 g.size s s 0 h (omega arith))

    pub as_many : length numbers ≡ g.size
    as_many = ap length are ∙ numbers_length

    -- their greatest is the top
    pub greatest_is_top : (k : ℕ) → ((s : ℕ) → s < length numbers → get_or numbers s 0 ≤ k) → Contains numbers k → k ≡ top g
    greatest_is_top k most (s, h, e) =
        let long = as_many in
        let at : get_or numbers s 0 ≡ k = sym (get_or_default_zero numbers s k h) ∙ e in
        top_is g k s (λ t l. omega (arith, number_there t l, most t (omega arith))) (omega arith) (omega (arith, at, number_there s (omega arith)))

    -- and the counts from each number on are the levels
    pub levels_are : (list : List Counts) → length list ≡ top g + 1 → Holds (counts_from g (λ s. get_or numbers s 0)) list → list ≡ levels g
    unfolding levels
    levels_are list long holds =
        ext_get_or no_counts list (levels g) (long ∙ sym levels_length) (λ k h.
        holds k no_counts h
        ∙ counts_same g _ (in_core g k) (λ s l. ap (leb k) (number_there s l) ∙ sym (core_number g k s l))
        ∙ sym (get_or-map-range_with_len (λ k. counts_of g (in_core g k)) 0 (suc (top g)) k k no_counts (omega arith) (omega arith)))

  -- with room for the levels, they are written, and else nothing is
  module _ (small : sized g.size ≡ true) (old : List Counts) (n : ℕ) (is : n ≡ top g + 1) where
    written : n ≤ length old → written_for g (length old) (levels g) ≡ Ok (levels g)
    written room = let long = levels_length in grind (arith, nat_tests)

    short : length old < n → written_for g (length old) (levels g) ≡ Err (BufferShort n)
    short room = let long = levels_length in grind (arith, nat_tests)

    pub all_answered : n ≤ length old → Ok n ≡ answer length (written_for g (length old) (levels g))
    all_answered room = rw (written room, levels_length, is) refl

    pub all_left : n ≤ length old → (list : List Counts) → list ≡ levels g → list ++ drop n old ≡ left_in (λ xs. xs) (written_for g (length old) (levels g)) old
    all_left room list are = rw (written room, are, levels_length, is) refl

    pub short_answered : length old < n → Err (BufferShort n) ≡ answer length (written_for g (length old) (levels g))
    short_answered room = rw (short room) refl

    pub old_left : length old < n → old ≡ left_in (λ xs. xs) (written_for g (length old) (levels g)) old
    old_left room = rw (short room) refl
