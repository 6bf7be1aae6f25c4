use Rattle.std.proofs.Common.{◌≡◌, ◌-◌, true, false, [], ◌∷◌, length, take, drop, codes, ap, ◌∙◌, sym}
use Rattle.std.specs.Option.{option_map}
use Rattle.commands.specs.Numerals.{bytes_of}
use Rattle.commands.specs.Rules.{same_words}
use Rattle.commands.specs.declared.scoring.Scoring.TheVariants.{NetThenAverage}
use Rattle.commands.proofs.NumberSteps.{lack_stays, exit}
use Rattle.commands.proofs.Phrases.{judged, net_then_average, net_alone, none_of_none}
use Rattle.commands.proofs.scoring.Scoring.read.Goals as goal

pub returns-then-eq : goal.returns-then-eq
returns-then-eq c =
    let words = c.args.words.now in
    let same : same_words (bytes_of words) (codes "average" ∷ []) ≡ true =
    rw c.as_slice.ensures at (judged words c.as_slice.result.now true (sym c.eq.ensures ∙ c.if-eq.true)) in
    rw same

pub returns-in_err-read_net-2 : goal.returns-in_err-read_net-2
returns-in_err-read_net-2 c =
    let words = c.args.words.now in
    let alone : same_words (bytes_of words) (codes "average" ∷ []) ≡ false =
    rw c.as_slice.ensures at (judged words c.as_slice.result.now false (sym c.eq.ensures ∙ c.if-eq.false)) in
    let is = net_then_average words alone (judged (take 2 words) _ false c.in_default.ensures.cases) c.in-Some-strip_suffix.net.now (judged (drop (length words - 2) words) _ true c.in-Some-strip_suffix.ensures.cases.0) c.in-Some-strip_suffix.ensures.cases.1 in
    let e = c.in_err-read_net-2.field-0.0 in
    rw (exit c.from_residual-in_err-read_net-2.result e c.from_residual-in_err-read_net-2.ensures.1)
    (lack_stays _ _ (none_of_none NetThenAverage _ _ is) e c.in_err-read_net-2.ensures)

pub returns-in-Some-strip_suffix : goal.returns-in-Some-strip_suffix
returns-in-Some-strip_suffix c =
    let words = c.args.words.now in
    let alone : same_words (bytes_of words) (codes "average" ∷ []) ≡ false =
    rw c.as_slice.ensures at (judged words c.as_slice.result.now false (sym c.eq.ensures ∙ c.if-eq.false)) in
    let is = net_then_average words alone (judged (take 2 words) _ false c.in_default.ensures.cases) c.in-Some-strip_suffix.net.now (judged (drop (length words - 2) words) _ true c.in-Some-strip_suffix.ensures.cases.0) c.in-Some-strip_suffix.ensures.cases.1 in
    is ∙ ap (option_map NetThenAverage) c.in_ok-read_net-2.ensures

pub returns-in_err-read_net-3 : goal.returns-in_err-read_net-3
returns-in_err-read_net-3 c =
    let words = c.args.words.now in
    let alone : same_words (bytes_of words) (codes "average" ∷ []) ≡ false =
    rw c.as_slice.ensures at (judged words c.as_slice.result.now false (sym c.eq.ensures ∙ c.if-eq.false)) in
    let is = net_alone words alone (judged (take 2 words) _ false c.in_default.ensures.cases) (judged (drop (length words - 2) words) _ false c.in_default-strip_suffix.ensures.cases) in
    let e = c.in_err-read_net-3.field-0.0 in
    rw (exit c.from_residual-in_err-read_net-3.result e c.from_residual-in_err-read_net-3.ensures.1) (lack_stays _ _ (none_of_none _ _ _ is) e c.in_err-read_net-3.ensures)
