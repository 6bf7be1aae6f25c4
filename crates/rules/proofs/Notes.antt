-- What is noted of stations and links, one at a time.
use Rattle.std.proofs.Common.{◌≡◌, ℕ, ◌+◌, ◌-◌, ◌^◌, ◌<◌, ◌≤◌, min, max, Bool, true, false, cond, ◌&&◌, ltb, eqb, All, List, [], ◌∷◌, ◌++◌, filter, count_by, length, get_or, set, get_or-set_same, get_or-set_other, length-set, length-append, sym, refl, ap, ◌∙◌, inl, inr, arith}
use Rattle.std.proofs.lemmas.Bool.{cases_eq}
use Rattle.std.proofs.lemmas.Grind.{common_steps}
use Rattle.std.proofs.lemmas.List.Elements.{filter-append}
use Rattle.std.proofs.lemmas.List.Sums.{sum_by-append, length-filter, count_by-le-length}
use Rattle.rules.specs.declared.counts.Counts.{Counts}
use Rattle.cores.specs.Counting.{bit, count}
use Rattle.cores.specs.Site.{Site}
use Rattle.cores.specs.Numbers.{Group}
use Rattle.cores.proofs.Counts.{count_le, count_more}
use Rattle.cores.proofs.Sums.{total_same, count_total, entries_below}
use Rattle.view.specs.Rows.{Faithful}
use Rattle.view.proofs.Filtered.{kept_times}
use Rattle.view.proofs.Lower.{row_length}
use Rattle.rules.specs.Levels.{links_below}
use Rattle.rules.specs.Noted.{Holds, is_smaller, is_greater, noted, with_link}
use Rattle.rules.proofs.Links.{links_few, links_more, same_counts}

-- a list holds what is the same
pub holds_same : (f h : ℕ → Counts) (list : List Counts) → Holds f list → ((k : ℕ) → k < length list → f k ≡ h k) → Holds h list
holds_same f h list holds same k d l = holds k d l ∙ same k l

-- one entry is written
pub holds_written : (f h : ℕ → Counts) (list : List Counts) (i : ℕ) (x : Counts) → i < length list → Holds f list → x ≡ h i → ((k : ℕ) → (k ≡ i → ⊥) → f k ≡ h k) → Holds h (set list i x)
holds_written f h list i x within holds here others k d l = elim (cases_eq k i) [
  | inl same ↦ rw same (get_or-set_same list i x d within ∙ here)
  | inr other ↦ get_or-set_other list i k x d other ∙ holds k d (omega (arith, length-set list i x)) ∙ others k other
]

-- an entry with one member, one inside link or one boundary link more
abbrev pub one_member : Counts → Counts
one_member x = record { members = x.members + 1; inside = x.inside; boundary = x.boundary }

abbrev pub one_inside : Counts → Counts
one_inside x = record { members = x.members; inside = x.inside + 1; boundary = x.boundary }

abbrev pub one_boundary : Counts → Counts
one_boundary x = record { members = x.members; inside = x.inside; boundary = x.boundary + 1 }

-- one entry is changed
holds_changed : (f : ℕ → Counts) (change : Counts → Counts) (list : List Counts) (i : ℕ) (d : Counts) → i < length list → Holds f list
    → Holds (λ k. cond (eqb i k) (change (f k)) (f k)) (set list i (change (get_or list i d)))
holds_changed f change list i d within holds =
    holds_written f _ list i _ within holds (grind (arith, ap change (holds i d within))) (λ k other. grind arith)

pub link_held : (f : ℕ → Counts) (list : List Counts) (a b i j : ℕ) (d : Counts) → i ≡ min a b → j ≡ max a b → i < length list → j < length list → Holds f list
    → let once = set list i (one_inside (get_or list i d)) in
    Holds (λ k. with_link a b k (f k)) (set once j (one_boundary (get_or once j d)))
unfolding bit
link_held f list a b i j d lower higher low high holds =
    let once = set list i (one_inside (get_or list i d)) in
    let inside = holds_changed f one_inside list i d low holds in
    let both = holds_changed _ one_boundary once j d (omega (arith, length-set list i (one_inside (get_or list i d)))) inside in
    holds_same _ (λ k. with_link a b k (f k)) (set once j (one_boundary (get_or once j d))) both (λ k l. rw (← lower, ← higher) (parts (eqb i k) (eqb j k) (f k)))
  where
    parts : (p q : Bool) (x : Counts) → cond q (one_boundary (cond p (one_inside x) x)) (cond p (one_inside x) x)
        ≡ record { members = x.members; inside = x.inside + bit p; boundary = x.boundary + bit q }
    parts true true x = refl
    parts true false x = same_counts _ _ refl refl (omega arith)
    parts false true x = same_counts _ _ refl (omega arith) refl
    parts false false x = same_counts _ _ refl (omega arith) (omega arith)

-- how many stations below s are met that pass q
pub met : ℕ → Group → List ℕ → ℕ
met s q row = count_by (λ t. ltb t s) (filter q row)

met_more : (s : ℕ) (q : Group) (row : List ℕ) (t : ℕ) → met s q (row ++ t ∷ []) ≡ met s q row + bit (ltb t s && q t)
unfolding met bit
met_more s q row t =
    ap (count_by (λ u. ltb u s)) (filter-append q row (t ∷ []))
    ∙ sum_by-append (λ u. cond (ltb u s) 1 0) (filter q row) (filter q (t ∷ []))
    ∙ ap (λ n. count_by (λ u. ltb u s) (filter q row) + n) (one (q t) refl)
  where
    one : (b : Bool) → q t ≡ b → count_by (λ u. ltb u s) (filter q (t ∷ [])) ≡ bit (ltb t s && q t)
    one true e = grind (arith, common_steps)
    one false e = grind (arith, common_steps)

met_none : (s : ℕ) (q : Group) → met s q [] ≡ 0
unfolding met
met_none s q = refl

met_few : (s : ℕ) (q : Group) (row : List ℕ) → met s q row ≤ length row
unfolding met
met_few s q row = omega (arith, count_by-le-length (λ t. ltb t s) (filter q row), length-filter q row, count_by-le-length q row)

-- a row names each neighbour once
met_all : (g : Site) (row : ℕ → List ℕ) → Faithful g row → (s : ℕ) (q : Group) → met s q (row s) ≡ count s (λ t. g.linked s t && q t)
unfolding met bit
met_all g row law s q =
    entries_below s (filter q (row s))
    ∙ total_same s _ (λ t. bit (g.linked s t && q t)) (λ t h. let kept = kept_times q t (row s) in let once = law.once s t in grind arith)
    ∙ sym (count_total s (λ t. g.linked s t && q t))

-- what is noted at k once station s and its first links, to those in the row, are noted too
abbrev pub noting : Site → (ℕ → ℕ) → ℕ → List ℕ → ℕ → Counts
noting g c s row k = record {
  members = count (s + 1) (λ u. eqb (c u) k);
  inside = links_below g s (is_smaller c k) + met s (is_smaller c k s) row;
  boundary = links_below g s (is_greater c k) + met s (is_greater c k s) row;
}

module _ (g : Site) (c : ℕ → ℕ) (s : ℕ) where
  -- no more members are noted than there are stations
  pub members_few : (list : List Counts) (i : ℕ) (d : Counts) → i < length list → Holds (noted g c s) list → (get_or list i d).members ≤ s
  members_few list i d within holds = omega (arith, ap (λ x. x.members) (holds i d within), count_le s (λ u. eqb (c u) i))

  -- the station itself
  pub station_held : (list : List Counts) (i : ℕ) (d : Counts) → i ≡ c s → i < length list → Holds (noted g c s) list → Holds (noting g c s []) (set list i (one_member (get_or list i d)))
  unfolding bit
  station_held list i d is within holds =
      holds_same _ (noting g c s []) (set list i (one_member (get_or list i d))) (holds_changed (noted g c s) one_member list i d within holds)
      (λ k l.
      let same : cond (eqb i k) (one_member (noted g c s k)) (noted g c s k) ≡ cond (eqb (c s) k) (one_member (noted g c s k)) (noted g c s k) = rw is refl in
      same ∙ one (eqb (c s) k) (noted g c s k)
      ∙ same_counts _ _ (sym (count_more s (λ u. eqb (c u) k))) (omega (arith, met_none s (is_smaller c k s))) (omega (arith, met_none s (is_greater c k s))))
    where
      one : (b : Bool) (x : Counts) → cond b (one_member x) x ≡ record { members = x.members + bit b; inside = x.inside; boundary = x.boundary }
      one true x = refl
      one false x = same_counts _ _ (omega arith) refl refl

  module _ (row : List ℕ) (t : ℕ) where
    met_lower : (q : Group) → t < s → met s q (row ++ t ∷ []) ≡ met s q row + bit (q t)
    unfolding bit
    met_lower q h = let more = met_more s q row t in grind arith

    met_higher : (q : Group) → s ≤ t → met s q (row ++ t ∷ []) ≡ met s q row
    unfolding bit
    met_higher q h = let more = met_more s q row t in grind arith

    -- a link to a lower station
    pub link_met : (list : List Counts) → t < s → Holds (λ k. with_link (c s) (c t) k (noting g c s row k)) list → Holds (noting g c s (row ++ t ∷ [])) list
    link_met list h holds =
        holds_same _ _ list holds (λ k l. same_counts _ _ refl (omega (arith, met_lower (is_smaller c k s) h)) (omega (arith, met_lower (is_greater c k s) h)))

    -- one to a higher station is noted there
    pub link_passed : (list : List Counts) → s ≤ t → Holds (noting g c s row) list → Holds (noting g c s (row ++ t ∷ [])) list
    link_passed list h holds =
        holds_same _ _ list holds (λ k l. same_counts _ _ refl (omega (arith, met_higher (is_smaller c k s) h)) (omega (arith, met_higher (is_greater c k s) h)))

  -- all its links
  pub row_met : (row : ℕ → List ℕ) → Faithful g row → (list : List Counts) → Holds (noting g c s (row s)) list → Holds (noted g c (s + 1)) list
  row_met row law list holds =
      holds_same _ _ list holds (λ k l. same_counts _ _ refl
      (omega (arith, links_more g s (is_smaller c k), met_all g row law s (is_smaller c k s)))
      (omega (arith, links_more g s (is_greater c k), met_all g row law s (is_greater c k s))))

  -- few links are noted along a row
  pub noting_few : (front behind : List ℕ) (row : ℕ → List ℕ) → Faithful g row → g.size ≤ 512 → s ≤ 512 → front ++ behind ≡ row s → (list : List Counts) → Holds (noting g c s front) list
      → All (λ x. (x.inside < 2 ^ 32 - 1) × (x.boundary < 2 ^ 32 - 1)) list
  noting_few front behind row law small low whole list holds k d l =
      let at = holds k d l in
      let parts : length front + length behind ≡ length (row s) = sym (length-append front behind) ∙ ap length whole in
      let short : length front ≤ 512 = omega (arith, parts, row_length g row law s, count_le g.size (g.linked s)) in (
        rw at (omega (arith, links_few g s (is_smaller c k) low, met_few s (is_smaller c k s) front)),
        rw at (omega (arith, links_few g s (is_greater c k) low, met_few s (is_greater c k s) front)),
      )
