use Rattle.std.proofs.Common.{length, append_assoc, ap, arith, length-append}
use Rattle.sheet.specs.Encoding.{entry_bytes}
use Rattle.sheet.proofs.Lengths.{length-entry_bytes}
use Rattle.sheet.proofs.draft.Draft.push_entry.Goals as goal

pub push-requires : goal.push-requires
push-requires c = omega (arith, length-entry_bytes c.args.s c.args.entry)

pub push_field_if-requires : goal.push_field_if-requires
push_field_if-requires c = rw c.present-has.ensures (
    omega (arith, length-entry_bytes c.args.s c.args.entry, simp length-append at (ap length c.push.ensures)))

pub push_field_if-requires-2 : goal.push_field_if-requires-2
push_field_if-requires-2 c = rw c.present-has.ensures (
    omega (arith, length-entry_bytes c.args.s c.args.entry, simp length-append at (ap length c.push.ensures), rw c.present-has.ensures at (simp length-append at (ap length c.push_field_if.ensures))))

pub push_up-requires : goal.push_up-requires
push_up-requires c =
    omega (
      arith,
      length-entry_bytes c.args.s c.args.entry,
      simp length-append at (ap length c.push.ensures),
      rw c.present-has.ensures at (simp length-append at (ap length c.push_field_if.ensures)),
      rw c.present-has.ensures at (simp length-append at (ap length c.push_field_if-2.ensures)),
    )

pub returns : goal.returns
unfolding entry_bytes
returns c = rw (c.push_up.ensures, c.push_field_if-2.ensures, c.push_field_if.ensures, c.push.ensures, c.map_byte.ensures, c.present-has.ensures) (simp append_assoc)
