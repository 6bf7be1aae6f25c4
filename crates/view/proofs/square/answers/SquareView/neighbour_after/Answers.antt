use Rattle.std.proofs.Common.{◌≡◌, ◌+◌, ◌-◌, ◌*◌, length, filter, find, sym, ◌∙◌, arith}
use Rattle.std.proofs.Math.Nat.{sub-zero}
use Rattle.std.specs.List.{range_with_len, slice_get}
use Rattle.view.specs.Bits.{one_at}
use Rattle.view.specs.Grid.{bitmap, row_bytes}
use Rattle.view.proofs.Grids.{sound_shaped, row_short, row_bits}
use Rattle.view.proofs.Ones.{first_kept, kept_behind}
use Rattle.view.proofs.square.answers.SquareView.neighbour_after.Goals as goal
use Rattle.view.proofs.square.answers.SquareView.neighbour_after.Goals.{then-place-eq0, else-place-eq0}

pub row-requires : goal.row-requires
row-requires c = sound_shaped (bitmap c.args.self.now.grid) c.args.self.now.sound

pub find_one-requires : goal.find_one-requires
find_one-requires c = rw c.row.ensures (row_short (bitmap c.args.self.now.grid) c.args.self.now.sound c.args.s)

pub returns : goal.returns
returns c = λ stands.
    let b = bitmap c.args.self.now.grid in
    let row = row_bytes b c.args.s in
    let short = row_short b c.args.self.now.sound c.args.s in
    let bits = row_bits b c.args.self.now.sound c.args.s in
    let found : find (one_at row) (range_with_len c.if-place-eq0.from (8 * length row - c.if-place-eq0.from)) ≡ slice_get (filter (one_at row) (range_with_len 0 (8 * length row))) c.args.place =
    elim c.if-place-eq0.branch [
      | then-place-eq0 w ↦ rw (w.from-is, w.if-place-eq0.true, sub-zero) (sym (first_kept (one_at row) (range_with_len 0 (8 * length row))))
      | else-place-eq0 w ↦
          let (on, same) = kept_behind (one_at row) (8 * length row) c.args.place c.args.before (rw bits at stands) w.if-place-eq0.false in
          let next : c.if-place-eq0.from ≡ c.args.before + 1 = omega (arith, on, short, w.from-is, w.saturating_add-from.ensures) in
          rw next (sym same)
    ] in
    c.find_one.ensures ∙ rw (c.row.ensures, bits) found
