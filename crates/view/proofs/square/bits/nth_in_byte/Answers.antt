use Rattle.std.proofs.Common.{rules, tests, sym, ◌∙◌, arith}
use Rattle.std.proofs.lemmas.Iterator.{YieldsList-from_range}
use Rattle.std.proofs.lemmas.Iterator.Adapters.{option_map_id}
use Rattle.std.proofs.lemmas.Iterator.Consumers.{nth_from_yields_List, YieldsList-from_filter, YieldsList-at}
use Rattle.view.specs.Bits.{bit_set, ones_of}
use Rattle.view.proofs.square.bits.nth_in_byte.Goals as goal

pub returns : goal.returns
unfolding ones_of
returns c =
    sym (option_map_id c.nth.result)
    ∙ nth_from_yields_List c.nth.result c.nth.new.self c.args.place c.nth.ensures.ran
    (YieldsList-from_filter _ (bit_set c.args.byte) (YieldsList-at c.filter.ensures.source (YieldsList-from_range 0 8 8 (cc) (omega arith))) c.filter.ensures.closure
    (λ x b q k. search (rules, tests)))
