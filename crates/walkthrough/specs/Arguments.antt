-- What an argument of the program does. Assumes nothing.
use Rattle.std.specs.Prelude.{ℕ, true, Some, None, Err, Option, Result}
use Rattle.std.specs.Result.{result_map_both}
use Rattle.transcript.specs.declared.lines.Line.{Line}
use Rattle.transcript.specs.declared.lines.Line.TheVariants.{NoStation, Verdict}
use Rattle.view.specs.declared.service.ServiceList.{ServiceList}
use Rattle.view.specs.Service.{with_mark, noted}

-- the list with the mark of the station that an argument names, if it names one
abbrev pub struck_by : Option ℕ → ServiceList → ServiceList
struck_by (Some station) list = with_mark list station true
struck_by None list = list

-- nothing more, or the line that tells why it strikes no station
abbrev pub strike_answer : ℕ → Option ℕ → Result (Unit {0}) Line
strike_answer argument (Some station) = result_map_both (λ u. u) (λ refusal. Verdict (Err refusal)) (noted station)
strike_answer argument None = Err (NoStation argument)
