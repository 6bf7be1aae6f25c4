use Rattle.std.proofs.Common.{◌≡◌, ℕ, ◌<◌, not, nat_eq, nat_lt, ◌&&◌, bit_and, refl, arith}
use Rattle.std.proofs.lemmas.Bool.{agree_below_at}
use Rattle.std.proofs.lemmas.Bool.Decides.{nat_tests}
use Rattle.sheet.specs.Fields.{is_map}
use Rattle.sheet.proofs.fields.is_map.Goals as goal

tested : (byte : ℕ) → byte < 256 → (nat_lt byte 8 && not (nat_eq (bit_and byte 6) 6)) ≡ is_map byte
unfolding is_map
tested byte h = agree_below_at (λ m. nat_lt m 8 && not (nat_eq (bit_and m 6) 6)) is_map 256 byte refl h

pub returns-then-byte-lt8 : goal.returns-then-byte-lt8
returns-then-byte-lt8 c = let all = tested c.args.byte c.ranges.byte.fits in grind (arith, nat_tests)

pub returns-else-byte-lt8 : goal.returns-else-byte-lt8
returns-else-byte-lt8 c = let all = tested c.args.byte c.ranges.byte.fits in grind (arith, nat_tests)
