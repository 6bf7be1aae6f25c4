-- What a struck view holds. Assumes nothing.
use Rattle.cores.specs.Numbers.{Group}
use Rattle.view.specs.declared.View.{Ghosts}
use Rattle.view.specs.declared.struck.Struck.{Struck}
use Rattle.view.specs.Service.{is_marked}

-- the stations that a struck view strikes
abbrev pub struck : {V : Type 0} {means : Ghosts V} → Struck V means → Group
struck view = is_marked view.list

-- the view that it lies over
abbrev pub below : {V : Type 0} {means : Ghosts V} → Struck V means → V
below view = view.below
