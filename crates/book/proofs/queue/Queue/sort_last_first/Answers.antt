use Rattle.std.proofs.Common.{◌≡◌, ◌-◌, ap, ◌∙◌, get_or, take, length, rules}
use Rattle.std.specs.List.Sorted.{IsPermutation}
use Rattle.std.proofs.lemmas.List.Sorted.{IsNonDecreasingBy-from_sort_by_key}
use Rattle.book.specs.Orders.{LastFirst}
use Rattle.book.specs.Queues.{noted}
use Rattle.book.proofs.Rows.{taken_again}
use Rattle.book.proofs.Places.{by_distance}
use Rattle.book.proofs.Queues.{front_of, holds_sorted}
use Rattle.book.proofs.queue.Queue.sort_last_first.Goals as goal

pub returns-clause-same : goal.returns-clause-same
returns-clause-same c =
    let old = c.args.self.now in
    let sorted = c.sort_unstable_by_key.new.self in
    let part : take (length c.noted-len.result.now) old.stations ≡ noted old = ap (λ ys. take (length ys) old.stations) c.noted-len.ensures ∙ taken_again old.len old.stations in
    let same : IsPermutation (noted old) sorted = rw part at c.sort_unstable_by_key.ensures.permutation in
    let long : length sorted ≡ length (noted old) = c.sort_unstable_by_key.ensures.len ∙ ap length part in
    λ s. rw c.noted-len.ensures (rw (front_of old.len sorted old.stations long) (holds_sorted (noted old) sorted same s))

pub returns-clause-last_first : goal.returns-clause-last_first
returns-clause-last_first c =
    let old = c.args.self.now in
    let p = c.args.order.now.places in
    let sorted = c.sort_unstable_by_key.new.self in
    let part : take (length c.noted-len.result.now) old.stations ≡ noted old = ap (λ ys. take (length ys) old.stations) c.noted-len.ensures ∙ taken_again old.len old.stations in
    let long : length sorted ≡ length (noted old) = c.sort_unstable_by_key.ensures.len ∙ ap length part in
    let falls = IsNonDecreasingBy-from_sort_by_key (λ s. 65535 - get_or p s 0) sorted c.sort_unstable_by_key.ensures.sorted (λ a r q k. search rules) in
    let last_first : LastFirst p sorted = λ i j o h. by_distance p c.args.order.now.first c.args.order.now.last c.args.order.now.apart _ _ (falls i j 0 o h) in
    rw c.noted-len.ensures (rw (front_of old.len sorted old.stations long) last_first)
