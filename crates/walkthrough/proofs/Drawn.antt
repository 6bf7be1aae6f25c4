-- What is drawn is the sheet of the site.
use Rattle.std.proofs.Common.{◌≡◌, ℕ, List, length, take, Ok, arith}
use Rattle.std.proofs.lemmas.Bool.Decides.{nat_tests}
use Rattle.cores.specs.Site.{Site}
use Rattle.view.specs.Answers.{answer, left_in}
use Rattle.view.proofs.Fronts.{front_left}
use Rattle.sheet.specs.Sites.{sheet_of}
use Rattle.drawer.specs.Calls.{written_for}

pub drawn_sheet : (g : Site) (room n : ℕ) (buffer old : List ℕ) → Ok n ≡ answer length (written_for g room (sheet_of g))
    → buffer ≡ left_in (λ bytes. bytes) (written_for g room (sheet_of g)) old → take n buffer ≡ sheet_of g
drawn_sheet g room n buffer old answered written =
    let outcome : written_for g room (sheet_of g) ≡ Ok (sheet_of g) = grind (arith, nat_tests) in
    let long : length (sheet_of g) ≡ n = grind (arith, nat_tests) in
    front_left (λ bytes. bytes) (written_for g room (sheet_of g)) (sheet_of g) n buffer old outcome long written
