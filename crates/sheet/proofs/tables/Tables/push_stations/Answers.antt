use Rattle.std.proofs.Common.{◌≡◌, ◌++◌, length, ap, subst, ◌∙◌, arith, length-append}
use Rattle.std.specs.List.{flat_map, range_with_len}
use Rattle.sheet.specs.Plans.{stations, entry}
use Rattle.sheet.specs.Encoding.{entry_bytes, station_bytes}
use Rattle.sheet.specs.Parts.{plan_of_tables, bytes_written}
use Rattle.sheet.proofs.Lengths.{station_behind, station_room}
use Rattle.sheet.proofs.tables.Tables.push_stations.Goals as goal

pub push_entry-requires : goal.push_entry-requires
unfolding station_bytes
push_entry-requires c =
    let p = plan_of_tables c.args.self.now in
    rw c.entry.ensures (
    omega (
      arith,
      c.requires.room,
      simp length-append at (ap length c.loop-s.invariant),
      station_room (λ s. entry_bytes s (entry p s)) (stations p) c.loop-s.s c.loop-s-test.true,
    ))

pub loop-s-preserved : goal.loop-s-preserved
loop-s-preserved c =
    let p = plan_of_tables c.args.self.now in
    let before = bytes_written c.loop-s.sheet in
    station_behind (λ s. entry_bytes s (entry p s)) c.loop-s.s (bytes_written c.args.sheet.now) before (bytes_written c.push_entry.new.self) c.loop-s.invariant (c.push_entry.ensures ∙ ap (λ e. before ++ entry_bytes c.loop-s.s e) c.entry.ensures)

pub returns : goal.returns
unfolding station_bytes
returns c =
    let p = plan_of_tables c.args.self.now in
    let all : c.loop-s.s ≡ stations p = omega arith in
    subst (λ n. bytes_written c.loop-s.sheet ≡ bytes_written c.args.sheet.now ++ flat_map (λ s. entry_bytes s (entry p s)) (range_with_len 0 n)) all c.loop-s.invariant
