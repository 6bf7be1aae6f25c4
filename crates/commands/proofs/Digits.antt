-- Digits that were encoded are decoded to the bytes that they stand for.
use Rattle.std.proofs.Common.{◌≡◌, ℕ, suc, ◌+◌, ◌*◌, ◌/◌, ◌%◌, ◌<◌, false, List, [], ◌∷◌, length, codes, refl, ap, ◌∙◌, arith, Some, Ok}
use Rattle.std.specs.Char.{is_ascii_uppercase}
use Rattle.std.specs.List.{flat_map, list_any}
use Rattle.std.specs.Fmt.{digit_glyph}
use Rattle.std.specs.Str.{bytes_eq}
use Rattle.std.proofs.lemmas.Bool.Decides.{nat_tests}
use Rattle.hex.specs.Hex.{IsBytes, decode_of, decode_pairs, hex_digit_value, pair_value}
use Rattle.hex.proofs.HexLemmas.{decode_of-even}
use Rattle.hex.proofs.Pairs.{cons_byte, decode_pairs-ok_pair}
use Rattle.transcript.specs.Wording.{hexadecimal}
use Rattle.commands.specs.Hexadecimals.{EncodedAndDecodedIsTheSame}

digit_back : (d : ℕ) → d < 16 → hex_digit_value (digit_glyph false d) ≡ Some d
digit_back d h = grind (arith, nat_tests)

no_capital : (d : ℕ) → d < 16 → is_ascii_uppercase (digit_glyph false d) ≡ false
no_capital d h = grind (arith, nat_tests)

byte_back : (b i : ℕ) → b < 256 → pair_value (digit_glyph false (b / 16)) (digit_glyph false (b % 16)) i ≡ Ok b
byte_back b i h =
    let high = digit_back (b / 16) (omega arith) in
    let low = digit_back (b % 16) (omega arith) in
    let whole : b / 16 * 16 + b % 16 ≡ b = omega arith in
    rw (high, low, whole) refl

pairs_back : (i : ℕ) (bytes : List ℕ) → IsBytes bytes → decode_pairs i (flat_map hexadecimal bytes) ≡ Ok bytes
unfolding decode_pairs
pairs_back i [] h = refl
pairs_back i (b ∷ rest) h = decode_pairs-ok_pair i (digit_glyph false (b / 16)) (digit_glyph false (b % 16)) b (flat_map hexadecimal rest) (byte_back b i (h 0)) ∙ ap (cons_byte b) (pairs_back (i + 2) rest (λ k. h (suc k)))

two_each : (bytes : List ℕ) → length (flat_map hexadecimal bytes) ≡ 2 * length bytes
two_each [] = refl
two_each (b ∷ rest) = let e = two_each rest in omega (arith, e)

no_capitals : (bytes : List ℕ) → IsBytes bytes → list_any is_ascii_uppercase (flat_map hexadecimal bytes) ≡ false
no_capitals [] h = refl
no_capitals (b ∷ rest) h =
    let byte : b < 256 = h 0 in
    rw (no_capital (b / 16) (omega arith), no_capital (b % 16) (omega arith)) (no_capitals rest (λ k. h (suc k)))

two_are_not_one : (x y : ℕ) (rest : List ℕ) → bytes_eq (x ∷ y ∷ rest) (codes "-") ≡ false
two_are_not_one x y rest = grind (arith, nat_tests)

pub encoded_and_decoded : EncodedAndDecodedIsTheSame
encoded_and_decoded [] h = refl
encoded_and_decoded (b ∷ rest) h =
    let digits = flat_map hexadecimal (b ∷ rest) in
    let back : decode_of digits ≡ Ok (b ∷ rest) = decode_of-even digits (let e = two_each (b ∷ rest) in omega (arith, e)) ∙ pairs_back 0 (b ∷ rest) h in
    rw (two_are_not_one _ _ _, no_capitals (b ∷ rest) h, back) refl
