-- Which stations a service list marks. Assumes nothing.
use Rattle.std.specs.Prelude.{ℕ, Bool, false, cond, Ok, Err, Result, nat_lt, replicate, slice_set, slice_index_or}
use Rattle.refusals.specs.declared.Refusal.{Refusal}
use Rattle.refusals.specs.declared.Refusal.TheVariants.{OffSite}
use Rattle.cores.specs.Numbers.{Group}
use Rattle.view.specs.declared.service.ServiceList.{ServiceList}

-- the list with no mark set
abbrev pub no_marks : ServiceList
no_marks = record { marks = replicate 512 false }

-- the stations whose mark is set; a station of 512 or more has no mark
abbrev pub is_marked : ServiceList → Group
is_marked list s = slice_index_or list.marks s false

-- the list with the mark of one station set or clear; nothing changes where it has none
abbrev pub with_mark : ServiceList → ℕ → Bool → ServiceList
with_mark list s set = record { marks = slice_set list.marks s set }

-- what mark and clear answer: a station of 512 or more is refused
abbrev pub noted : ℕ → Result (Unit {0}) Refusal
noted s = cond (nat_lt s 512) (Ok tt) (Err (OffSite s))
