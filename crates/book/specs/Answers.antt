-- What the calls of a book answer. Assumes nothing.
use Rattle.std.specs.Prelude.{ℕ, min, Bool, cond, not, Some, None, Option, Ok, Err, Result, ◌==◌, nat_le, nat_lt}
use Rattle.refusals.specs.declared.Refusal.{Refusal}
use Rattle.refusals.specs.declared.Refusal.TheVariants.{CountOutOfRange, OffSite, EqualEnds, AlreadyLinked, NotLinked, RowFull}
use Rattle.cores.specs.Counting.{count}
use Rattle.cores.specs.Site.{Site}
use Rattle.cores.specs.Numbers.{number}

-- done, or refused
abbrev pub Answer : Type 0
Answer = Result (Unit {0}) Refusal

-- the site after a call: the new one if it is done, and after a refusal the old one
abbrev pub after : Answer → Site → Site → Site
after (Ok u) new old = new
after (Err e) new old = old

-- a refusal if something is wrong, or else the next answer
abbrev pub refuse_if : Bool → Refusal → Answer → Answer
refuse_if wrong e next = cond wrong (Err e) next

-- what is asked of the ends of a link: there are stations, both ends are among them, and they are two
abbrev pub ends_judged : Site → ℕ → ℕ → Answer → Answer
ends_judged g a b next =
    refuse_if (g.size == 0) CountOutOfRange
    (refuse_if (nat_le g.size a) (OffSite a)
    (refuse_if (nat_le g.size b) (OffSite b)
    (refuse_if (a == b) (EqualEnds a) next)))

-- has a station as many links as it can have
abbrev pub full : Site → ℕ → Bool
full g s = nat_le 32 (count g.size (g.linked s))

-- what is answered to a new link between a and b
abbrev pub link_answer : Site → ℕ → ℕ → Answer
link_answer g a b =
    ends_judged g a b
    (refuse_if (g.linked a b) (AlreadyLinked (min a b))
    (refuse_if (full g a) (RowFull a)
    (refuse_if (full g b) (RowFull b) (Ok tt))))

-- what is answered where the link between a and b is to be taken away
abbrev pub unlink_answer : Site → ℕ → ℕ → Answer
unlink_answer g a b = ends_judged g a b (refuse_if (not (g.linked a b)) (NotLinked (min a b)) (Ok tt))

-- the number of a station, or none if it is not on the site
abbrev pub number_answer : Site → ℕ → Option ℕ
number_answer g s = cond (nat_lt s g.size) (Some (number g s)) None
