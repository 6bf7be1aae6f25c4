-- Rows of bits that are sound show a lawful site.
use Rattle.std.proofs.Common.{◌≡◌, ℕ, ◌+◌, ◌-◌, ◌*◌, ◌/◌, ◌%◌, ◌^◌, ◌<◌, ◌≤◌, true, false, ◌&&◌, eqb, List, [], Some, None, Option, length, filter, is_ok, get_or, take, sym, refl, ap, ◌∙◌, inl, inr, arith}
use Rattle.std.proofs.Math.ListN.{drop_of_length-le}
use Rattle.std.proofs.Math.Nat.{add-mul, mul-le-mul_right}
use Rattle.std.proofs.Math.Seq.{take-nil}
use Rattle.std.proofs.lemmas.Bool.{false_from_ne_true, cases_lt, both_ways, ne_eqb}
use Rattle.std.proofs.lemmas.List.Edits.{length-between}
use Rattle.std.specs.Option.{SomeIff, option_eq}
use Rattle.std.specs.List.{range_with_len}
use Rattle.cores.specs.Counting.{lowest}
use Rattle.cores.specs.Site.{Lawful}
use Rattle.cores.proofs.Searches.{same_test, some_at, lowest_at}
use Rattle.view.specs.Bits.{bit_set, one_at, ones_from}
use Rattle.view.specs.Rows.{Faithful, each_neighbour}
use Rattle.view.specs.Grid.{Bitmap, row_length, shaped, row_bytes, cell, no_neighbour, bad_row, sound, site_of}
use Rattle.view.specs.GridChecked.{checked}
use Rattle.view.specs.GridTables.{Bit}
use Rattle.view.proofs.Ranges.{none_kept, kept_longer, each_faithful}
use Rattle.view.proofs.Bits.{bytes_listed}
use Rattle.view.proofs.Ones.{one_past}

-- a row has a bit for each station, and not many spare ones
pub bits_enough : (n : ℕ) → (n ≤ 8 * row_length n) × (8 * row_length n ≤ n + 7)
unfolding row_length
bits_enough n = (omega arith, omega arith)

module _ (b : Bitmap) (right : shaped b ≡ true) where
  bytes_long : length b.bytes ≡ b.stations * row_length b.stations
  unfolding shaped
  bytes_long = grind arith

  -- the rows lie in the bytes, one behind the other
  pub row_fits : (s long : ℕ) → long ≡ row_length b.stations → s < b.stations → s * long + long ≤ length b.bytes
  row_fits s long is l = rw is (omega (arith, bytes_long, add-mul s 1 (row_length b.stations), mul-le-mul_right {m = s + 1} {n = b.stations} (row_length b.stations) (omega arith)))

  row_behind : (s : ℕ) → b.stations ≤ s → length b.bytes ≤ s * row_length b.stations
  row_behind s l = omega (arith, bytes_long, mul-le-mul_right {m = b.stations} {n = s} (row_length b.stations) l)

  pub row_on : (s : ℕ) → s < b.stations → length (row_bytes b s) ≡ row_length b.stations
  unfolding row_bytes
  row_on s l = let from = s * row_length b.stations in let fits = row_fits s _ refl l in omega (arith, length-between b.bytes from (from + row_length b.stations) fits)

  pub row_off : (s : ℕ) → b.stations ≤ s → row_bytes b s ≡ []
  unfolding row_bytes
  row_off s l = ap (take (s * row_length b.stations + row_length b.stations - s * row_length b.stations)) (drop_of_length-le b.bytes (row_behind s l)) ∙ take-nil _

-- the length, as the code tests it where the product may not fit
pub length_tested : (n w v long : ℕ) (r : Option ℕ) → w ≡ v → SomeIff r (n * w < 2 ^ 64) (n * w) → long < 2 ^ 64 → option_eq eqb r (Some long) ≡ eqb long (n * v)
length_tested n w v long None e fits small = rw (← e) (sym (ne_eqb long (n * w) (λ d. fits (omega (arith, d)))))
length_tested n w v long (Some x) e (fits, is) small = rw (← e, ← is) (grind arith)

-- past the end of a row no bit is set
pub cell_past : (b : Bitmap) (s t : ℕ) → length (row_bytes b s) ≤ t / 8 → cell b s t ≡ false
unfolding cell
cell_past b s t = one_past (row_bytes b s) t

pub cell_at : (b : Bitmap) (s t byte : ℕ) → byte ≡ get_or (row_bytes b s) (t / 8) 0 → cell b s t ≡ bit_set byte (t % 8)
unfolding cell
cell_at b s t byte e = rw e refl

-- a bit by the place of its byte, and its place in that byte
pub bit_in : (row : List ℕ) (k i : ℕ) → i < 8 → one_at row (0 + 8 * k + i) ≡ bit_set (get_or row k 0) i
bit_in row k i h =
    let byte : (0 + 8 * k + i) / 8 ≡ k = omega arith in
    let place : (0 + 8 * k + i) % 8 ≡ i = omega arith in
    ap (λ n. bit_set (get_or row n 0) ((0 + 8 * k + i) % 8)) byte ∙ ap (bit_set (get_or row k 0)) place

-- where the rows are sound, a bit that is set is for a neighbour
module _ (b : Bitmap) (ok : sound b ≡ true) where
  sound_few : b.stations ≤ 512
  unfolding sound
  sound_few = grind arith

  pub sound_shaped : shaped b ≡ true
  unfolding sound
  sound_shaped = grind arith

  -- so a row has at most 64 bytes
  pub row_short : (s : ℕ) → length (row_bytes b s) ≤ 64
  row_short s = elim (cases_lt s b.stations) [
    | inl on ↦ omega (arith, row_on b sound_shaped s on, bits_enough b.stations, sound_few)
    | inr off ↦ omega (arith, ap length (row_off b sound_shaped s off))
  ]

  within : (s t : ℕ) → cell b s t ≡ true → (s < b.stations) × (t < 8 * row_length b.stations)
  within s t h = elim (cases_lt s b.stations) [
    | inl on ↦ (
      on,
      elim (cases_lt t (8 * row_length b.stations)) [
        | inl l ↦ l
        | inr far ↦ absurd (both_ways (cell b s t) (cell_past b s t (omega (arith, row_on b sound_shaped s on))) h)
      ],
    )
    | inr off ↦ absurd (both_ways (cell b s t) (cell_past b s t (omega (arith, ap length (row_off b sound_shaped s off)))) h)
  ]

  pub linked_cell : (s t : ℕ) → cell b s t ≡ true → (s < b.stations) × Bit b s t
  unfolding sound bad_row
  linked_cell s t h =
      let (on, bits) = within s t h in
      let good = lowest_at b.stations (bad_row b) s (grind arith) on in
      let fine = some_at (8 * row_length b.stations) (λ u. cell b s u && no_neighbour b s u) t good bits in
      (on, record { other = grind arith; on_site = grind arith; in_return = grind arith })

  lawful : Lawful (site_of b)
  lawful = record {
    inside = λ s t h. let (from, bit) = linked_cell s t h in (from, bit.on_site);
    apart = λ s. false_from_ne_true _ (λ y. (linked_cell s s y).1.other refl);
    both_ways = λ s t. same_test (cell b s t) (cell b t s) (λ h. (linked_cell s t h).1.in_return) (λ h. (linked_cell t s h).1.in_return);
  }

  pub grid_faithful : Faithful (site_of b) (each_neighbour (site_of b))
  grid_faithful = each_faithful (site_of b) lawful

  -- the neighbours of a station are the bits of its row that are set
  pub row_bits : (s : ℕ) → each_neighbour (site_of b) s ≡ filter (one_at (row_bytes b s)) (range_with_len 0 (8 * length (row_bytes b s)))
  unfolding cell
  row_bits s = elim (cases_lt s b.stations) [
    | inl on ↦
        let (enough, _) = bits_enough b.stations in
        sym (kept_longer (cell b s) b.stations (8 * row_length b.stations) enough (λ t h. false_from_ne_true _ (λ y. let to = (linked_cell s t y).1.on_site in absurd (omega arith))))
        ∙ ap (λ n. filter (cell b s) (range_with_len 0 (8 * n))) (sym (row_on b sound_shaped s on))
    | inr off ↦
        none_kept (cell b s) 0 b.stations (λ t h. false_from_ne_true _ (λ y. let from = (linked_cell s t y).0 in absurd (omega arith)))
        ∙ ap (λ n. filter (cell b s) (range_with_len 0 (8 * length n))) (sym (row_off b sound_shaped s off))
  ]

  -- read a byte at a time
  pub row_listed : (s : ℕ) → each_neighbour (site_of b) s ≡ ones_from 0 (row_bytes b s)
  row_listed s = row_bits s ∙ bytes_listed (one_at (row_bytes b s)) (row_bytes b s) 0 (λ k i h l. bit_in (row_bytes b s) k i l)

-- rows that pass are sound
pub grid_passed : (b : Bitmap) → is_ok (checked b) ≡ true → sound b ≡ true
unfolding sound
grid_passed b h = grind arith

-- and so are the rows of no stations
pub no_rows_sound : sound (record { stations = 0; bytes = [] }) ≡ true
unfolding sound shaped row_length lowest
no_rows_sound = refl
