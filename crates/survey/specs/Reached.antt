-- What a reading has come to. Assumes nothing.
use Rattle.std.specs.Prelude.{Result}
use Rattle.std.specs.Result.{result_map_both}

-- what a reading answers, without its value
abbrev pub answered : {A E : Type 0} → Result A E → Result (Unit {0}) E
answered r = result_map_both (λ _. tt) (λ e. e) r

-- the answer of a call, with what it has come to
abbrev pub reached : {A B E : Type 0} → Result A E → B → Result B E
reached r new = result_map_both (λ _. new) (λ e. e) r
