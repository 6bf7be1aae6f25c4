-- Bytes as hexadecimal digits. Assumes nothing.
use Rattle.std.specs.Prelude.{◌≡◌, ℕ, cond, List, [], ◌∷◌, codes, Option, Some, None, Ok, Err, Result}
use Rattle.std.specs.Char.{is_ascii_uppercase}
use Rattle.std.specs.List.{flat_map, list_any}
use Rattle.std.specs.Str.{bytes_eq}
use Rattle.hex.specs.Hex.{decode_of, IsBytes}
use Rattle.transcript.specs.Wording.{hexadecimal}

-- the value, where there is one
abbrev pub value_of : {X E : Type 0} → Result X E → Option X
value_of (Ok x) = Some x
value_of (Err e) = None

-- the bytes that digits write, each by two, in lower case; `-` writes none
abbrev pub decoded : List ℕ → Option (List ℕ)
decoded digits =
    cond (bytes_eq digits (codes "-")) (Some [])
    (cond (list_any is_ascii_uppercase digits) None (value_of (decode_of digits)))

-- the digits of bytes, or `-` if there are none
abbrev pub encoded : List ℕ → List ℕ
encoded [] = codes "-"
encoded (byte ∷ bytes) = flat_map hexadecimal (byte ∷ bytes)

-- Bytes that were encoded and are decoded are the same bytes.
abbrev pub EncodedAndDecodedIsTheSame : Type 0
EncodedAndDecodedIsTheSame = (bytes : List ℕ) → IsBytes bytes → decoded (encoded bytes) ≡ Some bytes
