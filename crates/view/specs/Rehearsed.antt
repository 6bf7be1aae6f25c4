-- What a rehearsal remembers. Assumes nothing.
use Rattle.std.specs.Prelude.{ℕ, Bool}
use Rattle.std.specs.Borrow.{GName}
use Rattle.view.specs.declared.rehearsal.Rehearsal.{Rehearsal}
use Rattle.view.specs.declared.service.ServiceList.{ServiceList}
use Rattle.view.specs.Service.{with_mark}

-- by which name its list was lent to it
abbrev pub lent : Rehearsal → GName
lent r = r.list.ghost_name

-- that list, as it is now
abbrev pub rehearsed : Rehearsal → ServiceList
rehearsed r = r.list.now

-- the station whose mark it set
abbrev pub station : Rehearsal → ℕ
station r = r.station

-- was that mark set before
abbrev pub was_marked : Rehearsal → Bool
was_marked r = r.before

-- the list with that mark given back
abbrev pub given_back : Rehearsal → ServiceList
given_back r = with_mark r.list.now r.station r.before
