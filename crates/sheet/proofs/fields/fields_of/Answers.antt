use Rattle.std.proofs.Common.{not, nat_eq, bit_and, refl}
use Rattle.std.proofs.lemmas.Bool.{agree_below_at}
use Rattle.sheet.specs.Fields.{is_set, fields_of}
use Rattle.sheet.proofs.fields.fields_of.Goals as goal

pub returns : goal.returns
unfolding fields_of
returns c =
    let m = c.args.map in
    let number = agree_below_at (λ m. not (nat_eq (bit_and m 1) 0)) (is_set 0) 256 m refl (c.ranges.map.fits) in
    let home = agree_below_at (λ m. not (nat_eq (bit_and m 2) 0)) (is_set 1) 256 m refl (c.ranges.map.fits) in
    let up = agree_below_at (λ m. not (nat_eq (bit_and m 4) 0)) (is_set 2) 256 m refl (c.ranges.map.fits) in
    rw (number, home, up) refl
