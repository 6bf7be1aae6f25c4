-- Stations that are marked one after the other.
use Rattle.std.proofs.Common.{◌≡◌, ℕ, ◌+◌, ◌<◌, ◌≤◌, true, List, length, get_or, drop, Ok, Err, refl}
use Rattle.std.proofs.lemmas.List.{drop_more, drop_all}
use Rattle.refusals.specs.declared.Refusal.{Refusal}
use Rattle.view.specs.declared.service.ServiceList.{ServiceList}
use Rattle.view.specs.Service.{noted, with_mark}
use Rattle.console.specs.Plans.{marked_on}

module _ (list : ServiceList) (stations : List ℕ) (i : ℕ) where
  -- one mark more
  pub mark_on : i < length stations → noted (get_or stations i 0) ≡ Ok tt → marked_on list (drop i stations) ≡ marked_on (with_mark list (get_or stations i 0) true) (drop (i + 1) stations)
  unfolding marked_on
  mark_on h done = rw (drop_more stations i 0 h, done) refl

  -- a mark that is refused
  pub mark_off : i < length stations → (e : Refusal) → noted (get_or stations i 0) ≡ Err e → marked_on list (drop i stations) ≡ Err e
  unfolding marked_on
  mark_off h e refused = rw (drop_more stations i 0 h, refused) refl

  -- no mark is left
  pub all_marked : length stations ≤ i → marked_on list (drop i stations) ≡ Ok list
  unfolding marked_on
  all_marked h = rw (drop_all i stations h) refl
