-- The stations sorted by their neighbours left: as one is put in or taken out, and which is the first.
use Rattle.std.proofs.Common.{◌≡◌, ℕ, ◌+◌, ◌<◌, ◌≤◌, true, false, Some, None, Option, List, [], length, replicate, set, get_or-set_same, get_or-set_other, refl, sym, ap, ◌∙◌, subst, inl, inr, arith}
use Rattle.std.proofs.lemmas.Bool.{both_ways, cases_eq, cases_lt, eqb-true}
use Rattle.std.proofs.lemmas.List.{get_or-replicate}
use Rattle.std.proofs.Math.ListN.{get_or-eq_default}
use Rattle.cores.specs.Numbers.{including, without}
use Rattle.drawer.specs.declared.removal.Removal.{Removal}
use Rattle.drawer.specs.declared.stations.StationSet.{StationSet}
use Rattle.drawer.specs.Stations.{is_in, IsFirst}
use Rattle.drawer.specs.Peeling.{entry, there, says, set_at, SortedByLeft, CountsWithin, NoLater, IsLeast}
use Rattle.drawer.proofs.Sets.{all_same, in_no_words}

-- what an entry says
said : (k : ℕ) (o : Option ℕ) → says k o ≡ true → o ≡ Some k
said k None e = absurd cc
said k (Some j) e = ap Some (eqb-true j k e)

says_it : (k : ℕ) (o : Option ℕ) → o ≡ Some k → says k o ≡ true
says_it k o e = rw e (grind arith)

-- nobody at first
pub sorted_none : (none : StationSet) → ((t : ℕ) → is_in none t ≡ false) → SortedByLeft (replicate 512 None) (replicate 512 none)
sorted_none none empty k t = rw (all_same {A = Option ℕ} None 512 t) (elim (cases_lt k 512) [
  | inl within ↦ rw (get_or-replicate 512 k none (record { words = [] }) within) (empty t)
  | inr past ↦ rw (get_or-eq_default (replicate 512 none) (record { words = [] }) past) (in_no_words t)
])

pub within_none : (k n : ℕ) → CountsWithin k n (replicate 512 None)
within_none k n t j e = let none = all_same {A = Option ℕ} None 512 t in absurd cc

module _ (table : List (Option ℕ)) (sets : List StationSet) (sorted : SortedByLeft table sets) where
  module _ (t k : ℕ) (x : StationSet) (within : t < length table) (room : k < length sets) where
    -- as the entry of t changes, so does the set of k, and no other
    sorted_set : (o : Option ℕ) → is_in x t ≡ says k o → ((u : ℕ) → (u ≡ t → ⊥) → is_in x u ≡ is_in (set_at sets k) u) → ((j : ℕ) → (j ≡ k → ⊥) → says j o ≡ says j (entry table t))
        → SortedByLeft (set table t o) (set sets k x)
    sorted_set o here others same j u = elim (cases_eq j k) [
      | inl is ↦ let set_here = get_or-set_same sets k x (record { words = [] }) room in elim (cases_eq u t) [
        | inl it ↦ rw (is, it, set_here, get_or-set_same table t o None within) here
        | inr apart ↦ rw (is, set_here, get_or-set_other table t u o None apart) (others u apart ∙ sorted k u)
      ]
      | inr other ↦ let set_other = get_or-set_other sets k j x (record { words = [] }) other in elim (cases_eq u t) [
        | inl it ↦ rw (it, set_other, get_or-set_same table t o None within) (sorted j t ∙ sym (same j other))
        | inr apart ↦ rw (set_other, get_or-set_other table t u o None apart) (sorted j u)
      ]
    ]

    pub sorted_put : there table t ≡ false → ((u : ℕ) → is_in x u ≡ including t (is_in (set_at sets k)) u) → SortedByLeft (set table t (Some k)) (set sets k x)
    unfolding including
    sorted_put gone put =
        let is = put t in
        sorted_set (Some k) (rw is (grind arith)) (λ u apart. put u ∙ grind arith) (λ j other. grind arith)

    pub sorted_taken : entry table t ≡ Some k → ((u : ℕ) → is_in x u ≡ without t (is_in (set_at sets k)) u) → SortedByLeft (set table t None) (set sets k x)
    unfolding without
    sorted_taken was taken =
        let is = taken t in
        sorted_set None (rw is (grind arith)) (λ u apart. taken u ∙ grind arith) (λ j other. rw was (grind arith))

-- the bounds as an entry changes
pub within_set : (table : List (Option ℕ)) (from to low high t : ℕ) (o : Option ℕ) → t < length table → low ≤ from → to ≤ high → ((j : ℕ) → o ≡ Some j → (low ≤ j) × (j < high))
    → CountsWithin from to table → CountsWithin low high (set table t o)
within_set table from to low high t o long lower higher here within u j e = elim (cases_eq u t) [
  | inl it ↦ here j (sym (get_or-set_same table t o None long) ∙ ap (entry (set table t o)) (sym it) ∙ e)
  | inr apart ↦ let (least, most) = within u j (sym (get_or-set_other table t u o None apart) ∙ e) in (omega (arith, least), omega (arith, most))
]

module _ (table : List (Option ℕ)) (sets : List StationSet) (sorted : SortedByLeft table sets) (k to : ℕ) (within : CountsWithin k to table) where
  -- nobody has k
  pub within_next : IsFirst (is_in (set_at sets k)) None → CountsWithin (k + 1) to table
  within_next (none, _) t j e = elim (cases_eq j k) [
    | inl same ↦ absurd (both_ways _ (none refl t) (sorted k t ∙ says_it k (entry table t) (e ∙ ap Some same)))
    | inr other ↦ let (least, most) = within t j e in (omega (arith, least, other), most)
  ]

  -- the lowest of those that have k is the least
  pub first_is_least : (r : Removal) → r.left ≡ k → IsFirst (is_in (set_at sets k)) (Some r.station) → IsLeast table (Some r)
  first_is_least r at (_, some) = (λ e. absurd cc, λ x e. let same : r ≡ x = cc in subst Leading same leading)
    where
      Leading : Removal → Type 0
      Leading x = (entry table x.station ≡ Some x.left) × ((t j : ℕ) → entry table t ≡ Some j → NoLater x j t)

      leading : Leading r
      leading =
          let (here, first) = some r.station refl in (
            said k (entry table r.station) (sym (sorted k r.station) ∙ here) ∙ ap Some (sym at),
            λ t j e. (omega (arith, (within t j e).0, at), λ same. first t (sorted k t ∙ says_it k (entry table t) (e ∙ ap Some (sym same ∙ at)))),
          )

-- nobody is there
pub nobody_is_there : (table : List (Option ℕ)) (k to : ℕ) → to ≤ k → CountsWithin k to table → IsLeast table None
nobody_is_there table k to past within = (λ e t. go t (entry table t) refl, λ r e. absurd cc)
  where
    go : (t : ℕ) (o : Option ℕ) → entry table t ≡ o → o ≡ None
    go t None e = refl
    go t (Some j) e = absurd (omega (arith, within t j e))
