-- The site of a survey has a sheet, and the sheet has its place in a buffer.
use Rattle.std.proofs.Common.{is_ok, cond, nat_le, ◌≡◌, ℕ, ◌≤◌, true, length, Ok, Err, arith}
use Rattle.std.proofs.lemmas.Bool.{leb-true, le-leb}
use Rattle.std.specs.Cmp.{second_so}
use Rattle.refusals.specs.declared.Refusal.TheVariants.{CountOutOfRange, BufferShort}
use Rattle.view.specs.Answers.{answer}
use Rattle.drawer.specs.Calls.{written_for}
use Rattle.cores.specs.Site.{Site, Lawful, sized}
use Rattle.sheet.specs.Plans.{WellFormed, stations}
use Rattle.sheet.specs.Sites.{plan_of, sheet_of}
use Rattle.sheet.proofs.Lengths.{encode_between}
use Rattle.sheet.proofs.SiteLaws.{plan_well_formed}

-- The sheet of a site of 1 to 512 stations fits the longest one.
pub sheet_fits : (g : Site) → Lawful g → sized g.size ≡ true → length (sheet_of g) ≤ 3586
sheet_fits g lawful some =
    let well : WellFormed (plan_of g) = plan_well_formed g lawful some in
    let few : stations (plan_of g) ≤ 512 = leb-true (stations (plan_of g)) 512 (second_so _ _ well.counted) in
    omega (arith, few, encode_between (plan_of g) well)

-- The book answers with a length where its site has a sheet.
pub is_written : (g : Site) (room : ℕ) → room ≡ 3586 → Lawful g → sized g.size ≡ true → is_ok (answer length (written_for g room (sheet_of g))) ≡ true
is_written g room all lawful counted =
    let fits : nat_le (length (sheet_of g)) room ≡ true = le-leb _ _ (omega (arith, all, sheet_fits g lawful counted)) in
    λ i. is_ok (answer length (cond (counted i) (cond (fits i) (Ok (sheet_of g)) (Err (BufferShort (length (sheet_of g))))) (Err CountOutOfRange)))
