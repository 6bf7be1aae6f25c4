-- The level that a named rule chooses. Assumes nothing.
use Rattle.std.specs.Prelude.{ℕ, Result}
use Rattle.std.specs.Ordering.{int_cmp}
use Rattle.refusals.specs.declared.Refusal.{Refusal}
use Rattle.cores.specs.Site.{Site}
use Rattle.rules.specs.Scores.{average, by_fraction, net, paired, by_pair}
use Rattle.rules.specs.Choices.{choice_answer}
use Rattle.commands.specs.declared.scoring.Scoring.{Scoring}
use Rattle.commands.specs.declared.scoring.Scoring.TheVariants.{Average, Net, AverageThenNet, NetThenAverage}

-- the level of a site, or the refusal
abbrev pub chosen_by : Scoring → Site → Result ℕ Refusal
chosen_by Average g = choice_answer g average by_fraction
chosen_by (Net weights) g = choice_answer g (net weights) int_cmp
chosen_by (AverageThenNet weights) g = choice_answer g (paired average (net weights)) (by_pair by_fraction int_cmp)
chosen_by (NetThenAverage weights) g = choice_answer g (paired (net weights) average) (by_pair int_cmp by_fraction)
