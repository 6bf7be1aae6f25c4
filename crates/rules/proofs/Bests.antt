-- The best item that `max_by` finds.
use Rattle.std.proofs.Common.{◌≡◌, Ordering, Some, None, Option, List, [], ◌∷◌, refl, ap, ◌∙◌, subst}
use Rattle.std.specs.List.{FoldsTo, reduce}
use Rattle.std.specs.Borrow.{Bor}
use Rattle.std.specs.Fn.{Mut, CalledAtTwo}
use Rattle.std.specs.Option.{MatchOption, option_map_or}
use Rattle.std.specs.Ordering.{max_by_ordering}
use Rattle.std.specs.Iterator.{PickTurn, PicksByCall}
use Rattle.std.proofs.lemmas.Iterator.{YieldsList}
use Rattle.std.proofs.lemmas.Iterator.Consumers.{reduce_from_yields_List}

-- f compares two items by an order, and each call leaves it as it was
module _ {A F : Type 0} (g : Mut F (Bor A × (Bor A × Unit {0})) Ordering) (f : F) (order : A → A → Ordering)
    (compares : (a b : A) (o : Ordering) (q : F) → CalledAtTwo g f a b o q → (q ≡ f) × (o ≡ order a b)) where
  -- of two items, the greater, and the second where they are level
  abbrev later : A → A → A
  later a b = max_by_ordering (order a b) a b

  turns : (h : F) (a : A) (xs : List A) (q : F) (y : A) → h ≡ f → FoldsTo {P = F × A} (PickTurn max_by_ordering g) (h, a) xs (q, y)
      → FoldsTo (λ a b next. next ≡ later a b) a xs y
  turns h a [] q y same e = ap (λ p. p.1) e
  turns h a (x ∷ xs) q y same (next, (o, called, item), rest) =
      let (left, is) = compares a x o next.0 (subst (λ z. CalledAtTwo g z a x o next.0) same called) in
      (next.1, item ∙ ap (λ z. max_by_ordering z a x) is, turns next.0 next.1 xs q y left rest)

  pub best_by_call : {S : Type 0} {steps : S → Option A → S → Type 0} (s : S) (r : Option A) (all : List A) → PicksByCall steps max_by_ordering g s f r
      → YieldsList steps (λ x. x) s all → r ≡ reduce later all
  best_by_call s None all picks yields = reduce_from_yields_List later s None picks yields
  best_by_call s (Some y) all (x, xs, q, drains, folds) yields =
      reduce_from_yields_List later s (Some y) (x, xs, drains, turns f x xs q y refl folds) yields

-- `map_or` gives what v reads of an item, or d
pub map_or_is : {A B : Type 0} (o : Option A) (r d : B) (v : A → B) (Q : A → Type 0) → ((x : A) → Q x → r ≡ v x) → MatchOption o (r ≡ d) Q → r ≡ option_map_or v o d
map_or_is None r d v Q reads e = e
map_or_is (Some x) r d v Q reads e = reads x e
