use Rattle.std.proofs.Common.{ltb, leb, get_or}
use Rattle.inspector.proofs.Support.{Counted, OnSite}
use Rattle.inspector.proofs.judging.Judged.is_at_fault.Given as goal

abbrev pub invariant-loop-t : goal.invariant-loop-t
invariant-loop-t g l =
    let judged = l.fn.self in
    let site = g.V.View.site judged.view.now in
    let coming = l.t-iterator in
    OnSite site coming
    × Counted site (λ t. leb (get_or judged.numbers.now l.fn.s 0) (get_or judged.numbers.now t 0)) l.fn.s coming l.supporting
    × Counted site (λ t. ltb (get_or judged.places l.fn.s 0) (get_or judged.places t 0)) l.fn.s coming l.later
