-- What calls answer, and what they leave in what was lent to them. Assumes nothing.
use Rattle.std.specs.Prelude.{ℕ, cond, List, ◌++◌, length, drop, Ok, Err, Result, nat_le}
use Rattle.std.specs.Result.{result_map_both}
use Rattle.refusals.specs.declared.Refusal.{Refusal}
use Rattle.refusals.specs.declared.Refusal.TheVariants.{CountOutOfRange, BufferShort}
use Rattle.cores.specs.Site.{Site, sized, link_count}

-- A station count outside 1 to 512 is refused.
abbrev pub counted : ℕ → Result (Unit {0}) Refusal
counted n = cond (sized n) (Ok tt) (Err CountOutOfRange)

-- how many links a site of 1 to 512 stations has
abbrev pub links_answer : Site → Result ℕ Refusal
links_answer g = cond (sized g.size) (Ok (link_count g)) (Err CountOutOfRange)

-- what needs so much room is refused where there is less
abbrev pub with_room : {A : Type 0} → ℕ → ℕ → A → Result A Refusal
with_room needed room x = cond (nat_le needed room) (Ok x) (Err (BufferShort needed))

-- what a call answers: how much it accepted, or its refusal
abbrev pub answer : {A : Type 0} → (A → ℕ) → Result A Refusal → Result ℕ Refusal
answer size outcome = result_map_both size (λ e. e) outcome

-- what a call leaves in a table or a buffer: in front what it answers for, behind it what stood there, and after a refusal all that stood there
abbrev pub left_in : {A B : Type 0} → (A → List B) → Result A Refusal → List B → List B
left_in part (Ok x) old = part x ++ drop (length (part x)) old
left_in part (Err e) old = old
