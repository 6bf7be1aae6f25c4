-- The drawn order: what it removes at each place, that no other list does, and the numbers that it shows.
use Rattle.std.proofs.Common.{◌≡◌, ℕ, zero, suc, ◌<◌, ◌≤◌, true, false, not, ◌&&◌, ◌||◌, ltb, leb, ◌⊎◌, List, [], ◌∷◌, length, get_or, take, Some, None, Option, sym, refl, ap, ◌∙◌, subst, inl, inr, le_antisymm, arith}
use mathlib.Core.Path.{fun_ext}
use Rattle.std.proofs.lemmas.List.{ext_get_or}
use Rattle.std.proofs.lemmas.Bool.{both_ways, cases_eq, cases_lt}
use Rattle.cores.specs.Counting.{bit, count, times, holds}
use Rattle.cores.specs.Laws.{Found}
use Rattle.cores.specs.Site.{Site}
use Rattle.cores.specs.Numbers.{Group, hears, without, number}
use Rattle.cores.specs.Drawing.{has_fewest, next, removed, drawn, left, left_at, IsNext, IsDrawn, GreatestMet, TheDrawnOrderRemovesTheFewestFirst, NumbersAreTheGreatestCountsMet}
use Rattle.cores.proofs.Searches.{by_cases, same_test, all_at, all_from, lowest_first, lowest_of, least}
use Rattle.cores.proofs.Counts.{count_le, count_without}
use Rattle.cores.proofs.Entries.{times_none, times_cons, holds_none, holds_cons, front_place, place_front}
use Rattle.cores.proofs.Sums.{once_length}
use Rattle.cores.proofs.Numbers.{hears_within, number_group, number_atleast}

module _ (g : Site) where
  abbrev Fewest : Group → ℕ → Type 0
  Fewest X s = (t : ℕ) → t < g.size → X t ≡ true → hears g X s ≤ hears g X t

  fewest_is : (X : Group) (s : ℕ) → has_fewest g X s ≡ true → (X s ≡ true) × Fewest X s
  unfolding has_fewest
  fewest_is X s e = (grind arith, λ t h x. let at = all_at g.size (λ t. not (X t) || leb (hears g X s) (hears g X t)) t in grind arith)

  is_fewest : (X : Group) (s : ℕ) → X s ≡ true → Fewest X s → has_fewest g X s ≡ true
  unfolding has_fewest
  is_fewest X s x f = let every = all_from g.size (λ t. not (X t) || leb (hears g X s) (hears g X t)) (λ t h. let few = f t h in grind arith) in grind arith

  -- there is a next one, or nobody is left
  abbrev Nobody : Group → Type 0
  Nobody X = (t : ℕ) → t < g.size → X t ≡ false

  next_is : (X : Group) → ((m : ℕ) × (next g X ≡ Some m) × IsNext g X m) ⊎ ((next g X ≡ None) × Nobody X)
  unfolding next
  next_is X = go (next g X) refl (lowest_first g.size (has_fewest g X))
    where
      go : (o : Option ℕ) → next g X ≡ o → Found g.size (has_fewest g X) o
          → ((m : ℕ) × (next g X ≡ Some m) × IsNext g X m) ⊎ ((next g X ≡ None) × Nobody X)
      go (Some m) d (l, here, first) =
          let few = fewest_is X m here in
          inl (
            m,
            d,
            record {
              on_site = l;
              member = few.0;
              fewest = few.1;
              lowest = λ t h x same. elim (cases_lt t m) [
                | inl low ↦ absurd (both_ways (has_fewest g X t) (first t low) (is_fewest X t x (λ u k y. omega (arith, few.1 u k y))))
                | inr high ↦ high
              ];
            },
          )
      go None d none = inr (
        d,
        λ t h. by_cases (X t)
            (λ x. let m = least g.size X (hears g X) t h x in absurd (both_ways (has_fewest g X m.0) (none m.0 m.1) (is_fewest X m.0 m.2 m.3)))
            (λ x. x),
      )

  pub next_only : (X : Group) (a b : ℕ) → IsNext g X a → IsNext g X b → a ≡ b
  next_only X a b p q =
      let same : hears g X a ≡ hears g X b = le_antisymm (p.fewest b q.on_site q.member) (q.fewest a p.on_site p.member) in
      le_antisymm (p.lowest b q.on_site q.member (sym same)) (q.lowest a p.on_site p.member same)

  -- one turn of the removal
  removed_none : (X : Group) → removed g 0 X ≡ []
  unfolding removed
  removed_none X = refl

  removed_turn : (i : ℕ) (X : Group)
      → ((m : ℕ) × IsNext g X m × (removed g (suc i) X ≡ m ∷ removed g i (without m X))) ⊎ (Nobody X × (removed g (suc i) X ≡ []))
  unfolding removed
  removed_turn i X = elim (next_is X) [ inl (m, is, p) ↦ inl (m, p, rw (is, removed) refl) | inr (is, nobody) ↦ inr (nobody, rw (is, removed) refl) ]

  -- each station of X is removed once, if there are turns enough
  nobody_once : (X : Group) → Nobody X → (t : ℕ) → times t [] ≡ bit (ltb t g.size && X t)
  unfolding bit
  nobody_once X nobody t = let none = times_none t in let here = nobody t in grind arith

  removed_once : (i : ℕ) (X : Group) → count g.size X ≤ i → (t : ℕ) → times t (removed g i X) ≡ bit (ltb t g.size && X t)
  unfolding bit without
  removed_once zero X few t = rw (removed_none X) (nobody_once X (λ u h. by_cases (X u) (λ x. absurd (omega (arith, count_without g.size X u h x))) (λ x. x)) t)
  removed_once (suc i) X few t = elim (removed_turn i X) [
    | inl (m, p, is) ↦
        let less = count_without g.size X m p.on_site p.member in
        let rest = removed_once i (without m X) (omega arith) t in
        let first = times_cons t m (removed g i (without m X)) in
        let on_site = p.on_site in
        let member = p.member in
        rw is (grind arith)
    | inr (nobody, is) ↦ rw is (nobody_once X nobody t)
  ]

  -- and at each place stands the next of those that are left
  abbrev InTurn : Group → List ℕ → Type 0
  InTurn X xs = (j : ℕ) → j < length xs → IsNext g (λ t. X t && left xs j t) (get_or xs j 0)

  turn_more : (X : Group) (m : ℕ) (xs : List ℕ) → IsNext g X m → InTurn (without m X) xs → InTurn X (m ∷ xs)
  unfolding left without
  turn_more X m xs p rest zero h = subst (λ Y. IsNext g Y m) (fun_ext (λ t. let none = holds_none t in grind arith)) p
  turn_more X m xs p rest (suc j) h = subst (λ Y. IsNext g Y (get_or xs j 0)) (fun_ext (λ t. let one = holds_cons t m (take j xs) in grind arith)) (rest j (omega arith))

  removed_in_turn : (i : ℕ) (X : Group) → InTurn X (removed g i X)
  removed_in_turn zero X = rw (removed_none X) (λ j h. absurd (omega arith))
  removed_in_turn (suc i) X = elim (removed_turn i X) [
    | inl (m, p, is) ↦ rw is (turn_more X m (removed g i (without m X)) p (removed_in_turn i (without m X)))
    | inr (nobody, is) ↦ rw is (λ j h. absurd (omega arith))
  ]

  pub drawn_is : IsDrawn g (drawn g)
  unfolding drawn
  drawn_is = record {
    each_once = λ t. removed_once g.size (λ u. true) (count_le g.size (λ u. true)) t ∙ ap bit (grind arith);
    in_turn = removed_in_turn g.size (λ u. true);
  }

-- the stations that are left, by their places in the order
pub left_out : (order : List ℕ) (i j t : ℕ) → left order i t ≡ true → j < i → j < length order → get_or order j 0 ≡ t → ⊥
unfolding left
left_out order i j t e l h d = let gone = place_front t i j order l h d in both_ways (holds (take i order) t) (grind arith) gone

pub left_in : (order : List ℕ) (i t : ℕ) → ((j : ℕ) → j < i → j < length order → get_or order j 0 ≡ t → ⊥) → left order i t ≡ true
unfolding left
left_in order i t f = by_cases (holds (take i order) t) (λ e. let at = front_place t i order e in absurd (f at.0 at.1 at.2 at.3)) (λ e. grind arith)

pub left_earlier : (order : List ℕ) (i j t : ℕ) → i ≤ j → left order j t ≡ true → left order i t ≡ true
left_earlier order i j t o e = left_in order i t (λ k l h d. left_out order j k t e (omega arith) h d)

-- orders that agree up to a place leave the same stations there
left_same : (a b : List ℕ) (i : ℕ) → length a ≡ length b → ((j : ℕ) → j < i → get_or a j 0 ≡ get_or b j 0) → left a i ≡ left b i
left_same a b i e f = fun_ext (λ t. same_test (left a i t) (left b i t)
    (λ x. left_in b i t (λ j l h d. left_out a i j t x l (omega arith) (f j l ∙ d)))
    (λ x. left_in a i t (λ j l h d. left_out b i j t x l (omega arith) (sym (f j l) ∙ d))))

module _ (g : Site) where
  same_front : (a b : List ℕ) → IsDrawn g a → IsDrawn g b → length a ≡ length b → (i : ℕ) → i ≤ length a → (j : ℕ) → j < i → get_or a j 0 ≡ get_or b j 0
  same_front a b p q e zero o j h = absurd (omega arith)
  same_front a b p q e (suc i) o j h =
      let before = same_front a b p q e i (omega arith) in
      elim (cases_eq j i) [
        | inl d ↦ rw d (next_only g (left a i) (get_or a i 0) (get_or b i 0) (p.in_turn i (omega arith)) (rw (left_same a b i e before) (q.in_turn i (omega arith))))
        | inr d ↦ before j (omega arith)
      ]

  pub drawn_only : (a b : List ℕ) → IsDrawn g a → IsDrawn g b → a ≡ b
  drawn_only a b p q =
      let e : length a ≡ length b = once_length g.size a p.each_once ∙ sym (once_length g.size b q.each_once) in
      ext_get_or 0 a b e (λ i h. same_front a b p q e (length a) (omega arith) i h)

  -- along a drawn order, the number at a place is at least each count met, and no more than one of them
  module _ (order : List ℕ) (p : IsDrawn g order) (i : ℕ) (h : i < length order) where
    counts_below : (j : ℕ) → j ≤ i → left_at g order j ≤ number g (get_or order i 0)
    unfolding left_at
    counts_below j o =
        let here = p.in_turn i h in
        let still_left = left_earlier order j i (get_or order i 0) o here.member in
        number_atleast g (left_at g order j) (get_or order i 0) (left order j) here.on_site still_left (p.in_turn j (omega arith)).fewest

    -- met where the group behind the number loses its first member
    count_met : (j : ℕ) × (j ≤ i) × (number g (get_or order i 0) ≤ left_at g order j)
    unfolding left_at
    count_met =
        let (X, member, steady) = number_group g (get_or order i 0) (p.in_turn i h).on_site in
        let (j, l, first, low) = lowest_of (suc i) (λ j. X (get_or order j 0)) i (omega arith) member in
        let all_left : (t : ℕ) → X t ≡ true → left order j t ≡ true = λ t x. left_in order j t (λ k b c d. omega (arith, low k (rw d x))) in
        let few = hears_within g X (left order j) (get_or order j 0) (λ t m a x. all_left t x) in
        (j, omega arith, omega (arith, steady.heard (get_or order j 0) first))

    pub number_met : GreatestMet (left_at g order) i (number g (get_or order i 0))
    number_met = let (j, o, high) = count_met in record { met = (j, o, le_antisymm (counts_below j o) high); most = counts_below }

pub drawn_fewest_first : TheDrawnOrderRemovesTheFewestFirst
drawn_fewest_first g = (drawn_is g, λ order p. drawn_only g order (drawn g) p (drawn_is g))

pub numbers_met : NumbersAreTheGreatestCountsMet
numbers_met g i h = number_met g (drawn g) (drawn_is g) i (omega (arith, once_length g.size (drawn g) (drawn_is g).each_once))
