-- Steps that are carried out one after the other, and the numbers that are written after them.
use Rattle.std.proofs.Common.{◌≡◌, ℕ, ◌+◌, ◌<◌, ◌≤◌, List, length, get_or, drop}
use Rattle.std.proofs.lemmas.List.{drop_more, drop_all}
use Rattle.std.proofs.lemmas.List.FromFn.{length-map-range_with_len}
use Rattle.cores.specs.Site.{Site}
use Rattle.cores.specs.Numbers.{number}
use Rattle.sheet.specs.Sites.{plan_of}
use Rattle.planner_c.specs.declared.linking.Step.{Step}
use Rattle.planner_c.specs.Given.{after_step, after_steps}

pub numbers_length : (g : Site) → length (plan_of g).numbers ≡ g.size
unfolding plan_of
numbers_length g = length-map-range_with_len (number g) 0 g.size

-- one step more
pub stepped : (steps : List Step) (i : ℕ) (step : Step) (old new whole : Site) → i < length steps → new ≡ after_step (get_or steps i step) old
    → after_steps (drop i steps) old ≡ whole → after_steps (drop (i + 1) steps) new ≡ whole
unfolding after_steps
stepped steps i step old new whole h is so_far = rw is (rw (drop_more steps i step h) at so_far)

-- and no more
pub all_stepped : (steps : List Step) (i : ℕ) (g whole : Site) → length steps ≤ i → after_steps (drop i steps) g ≡ whole → g ≡ whole
unfolding after_steps
all_stepped steps i g whole h so_far = rw (drop_all i steps h) at so_far
