-- Components under links, as links are taken one after the other.
use Rattle.std.proofs.Common.{◌≡◌, ℕ, ◌+◌, ◌<◌, ◌≤◌, Bool, true, false, ◌&&◌, ◌||◌, eqb, leb, List, [], ◌∷◌, length, get_or, set, min, max, ◌++◌, refl, sym, ap, ◌∙◌, inl, inr, arith}
use mathlib.Core.Path.{fun_ext}
use Rattle.std.specs.Cmp.{IsEquivalence}
use Rattle.cores.specs.Counting.{bit, holds}
use Rattle.cores.specs.Site.{Site}
use Rattle.cores.proofs.Entries.{times_none, times_cons, times_append, times_holds, holds_none}
use Rattle.std.proofs.lemmas.List.{get_or-set_same, get_or-set_other, length-set}
use Rattle.std.proofs.lemmas.Bool.{false≢true, and_parts, or_cases, or_left, cases_eq, cases_lt, eqb-true, eq-eqb}
use Rattle.view.specs.Components.{together, HasLabels, AreComponents, AreSettled, LeadTogether, AreShortened, with_link, with_links_of}
use Rattle.view.specs.Rows.{Faithful}

abbrev pub Links : Type 0
Links = ℕ → ℕ → Bool

-- labels that lead downward
abbrev pub Downward : List ℕ → Type 0
Downward labels = (s : ℕ) → s < length labels → get_or labels s 0 ≤ s

-- each station on its own
pub apart : (labels : List ℕ) → ((s : ℕ) → s < 512 → get_or labels s 0 ≡ s) → (n : ℕ) → n ≤ 512 → AreComponents n (λ s t. false) labels
apart labels own n few = record {
  joined = λ R law has s t h l e. absurd (false≢true e);
  only = λ R law within s h. rw (own s (omega arith)) (law.refl s);
}

-- an equivalence has s and u together if it has both together with t
module _ (R : Links) (law : IsEquivalence R) where
  back : (s t : ℕ) → R s t ≡ true → R t s ≡ true
  back s t e = law.symm t s ∙ e

  via : (s t u : ℕ) → R s t ≡ true → R t u ≡ true → R s u ≡ true
  via s t u e f = law.congr s t u e ∙ f

  both_to : (s t u : ℕ) → R s t ≡ true → R u t ≡ true → R s u ≡ true
  both_to s t u e f = via s t u e (back u t f)

  -- either may come first
  greater_first : (a b : ℕ) → R (max a b) (min a b) ≡ R a b
  greater_first a b = elim (cases_lt a b) [
    | inl less ↦ let most : max a b ≡ b = omega arith in let least : min a b ≡ a = omega arith in rw (most, least) (law.symm b a)
    | inr other ↦ let most : max a b ≡ a = omega arith in let least : min a b ≡ b = omega arith in rw (most, least) refl
  ]

-- one label that is replaced
module _ (labels : List ℕ) (s : ℕ) (h : s < length labels) (x : ℕ) where
  at_it : get_or (set labels s x) s 0 ≡ x
  at_it = get_or-set_same labels s x 0 h

  at_others : (a : ℕ) → (a ≡ s → ⊥) → get_or (set labels s x) a 0 ≡ get_or labels a 0
  at_others a d = get_or-set_other labels s a x 0 d

  pub still_downward : Downward labels → x ≤ s → Downward (set labels s x)
  still_downward down low a l = elim (cases_eq a s) [
    | inl d ↦ rw (d, at_it) low
    | inr d ↦ rw (at_others a d) (down a (omega (arith, length-set labels s x)))
  ]

  -- what an equivalence has to have
  has_new : (n : ℕ) (R : Links) → R s x ≡ true → HasLabels n labels R → HasLabels n (set labels s x) R
  has_new n R e has a l = elim (cases_eq a s) [
    | inl d ↦ rw (d, at_it) e
    | inr d ↦ rw (at_others a d) (has a l)
  ]

  has_old : (n : ℕ) (R : Links) → R s (get_or labels s 0) ≡ true → HasLabels n (set labels s x) R → HasLabels n labels R
  has_old n R e has a l = elim (cases_eq a s) [
    | inl d ↦ rw d e
    | inr d ↦ rw (at_others a d) at (has a l)
  ]

-- a label is replaced by its own label
module _ (labels : List ℕ) (down : Downward labels) (s : ℕ) (h : s < length labels) where
  abbrev pub label : ℕ
  label = get_or labels s 0

  abbrev pub next : ℕ
  next = get_or labels label 0

  next_own : label ≡ s → next ≡ s
  next_own own = ap (λ a. get_or labels a 0) own ∙ own

  pub shortened : AreShortened labels (set labels s next)
  shortened = record {
    kept = λ n R law has a l. elim (cases_lt s n) [
      | inl on ↦ has_new labels s h next n R (via R law s label next (has s on) (has label (omega (arith, down s h)))) has a l
      | inr off ↦ rw (at_others labels s h next a (λ d. omega arith)) (has a l)
    ];
    only = λ n R law has a l. elim (cases_lt s n) [
      | inl on ↦
          let here : R s next ≡ true = rw (at_it labels s h next) at (has s on) in
          has_old labels s h next n R (elim (cases_eq label s) [
            | inl own ↦ rw own (law.refl s)
            | inr other ↦ both_to R law s next label here (rw (at_others labels s h next label other) at (has label (omega (arith, down s h))))
          ]) has a l
      | inr off ↦ rw (at_others labels s h next a (λ d. omega arith)) at (has a l)
    ];
    own = λ a e. elim (cases_eq a s) [
      | inl d ↦ rw d (at_it labels s h next ∙ next_own (rw d at e))
      | inr d ↦ at_others labels s h next a d ∙ e
    ];
    as_many = length-set labels s next;
  }

  -- the stations before s are settled, and now s is too
  pub settled_more : AreSettled s labels → AreSettled (s + 1) (set labels s next)
  settled_more done a l = elim (cases_eq a s) [
    | inl d ↦ rw (d, at_it labels s h next) (elim (cases_eq label s) [
      | inl own ↦ ap (λ b. get_or (set labels s next) b 0) (next_own own) ∙ at_it labels s h next
      | inr other ↦
          let low = down s h in
          let lower = down label (omega arith) in
          at_others labels s h next next (λ e. omega arith) ∙ done label (omega arith)
    ])
    | inr d ↦
        let low = down a (omega arith) in
        rw (at_others labels s h next a d, at_others labels s h next (get_or labels a 0) (λ e. omega arith)) (done a (omega arith))
  ]

  -- a way on from s
  pub led_on : (n from : ℕ) → s < n → LeadTogether n labels from s → LeadTogether n (set labels s next) from next
  led_on n from on lead R law has =
      via R law from s next (lead R law (shortened.only n R law has)) (rw (at_it labels s h next) at (has s on))

-- nothing was changed, or twice
pub not_shortened : (labels : List ℕ) → AreShortened labels labels
not_shortened labels = record { kept = λ n R law has. has; only = λ n R law has. has; own = λ s e. e; as_many = refl }

pub shortened_twice : (old labels new : List ℕ) → AreShortened old labels → AreShortened labels new → AreShortened old new
shortened_twice old labels new p q = record {
  kept = λ n R law has. q.kept n R law (p.kept n R law has);
  only = λ n R law has. p.only n R law (q.only n R law has);
  own = λ s e. q.own s (p.own s e);
  as_many = q.as_many ∙ p.as_many;
}

pub still_components : (n : ℕ) (links : Links) (old new : List ℕ) → AreShortened old new → AreComponents n links old → AreComponents n links new
still_components n links old new p c = record {
  joined = λ R law has. c.joined R law (p.only n R law has);
  only = λ R law within. p.kept n R law (c.only R law within);
}

-- the components of s and t become one
module _ (n : ℕ) (links : Links) (s t : ℕ) (hs : s < n) (ht : t < n) (labels : List ℕ) (c : AreComponents n links labels) where
  -- an equivalence that has s and t together has the new link, and one that has the new link has the old ones
  joined_too : (R : Links) → IsEquivalence R → HasLabels n labels R → R s t ≡ true → (a b : ℕ) → a < n → b < n → with_link links s t a b ≡ true → R a b ≡ true
  joined_too R law has st a b h l x = elim (or_cases (links a b) (eqb a s && eqb b t) x) [
    | inl linked ↦ c.joined R law has a b h l linked
    | inr ends ↦ let (p, q) = and_parts (eqb a s) (eqb b t) ends in rw (eqb-true a s p, eqb-true b t q) st
  ]

  only_too : (R : Links) → IsEquivalence R → ((a b : ℕ) → with_link links s t a b ≡ true → R a b ≡ true) → HasLabels n labels R
  only_too R law within = c.only R law (λ a b x. within a b (or_left (links a b) (eqb a s && eqb b t) x))

  -- they were one before
  pub joined_already : together labels s t ≡ true → AreComponents n (with_link links s t) labels
  joined_already e = record {
    joined = λ R law has. joined_too R law has (both_to R law s (get_or labels s 0) t (has s hs) (rw (← eqb-true _ _ e) at (has t ht)));
    only = only_too;
  }

  -- or the greater of two stations that are their own labels gets the lower as its label
  pub joined_now : (a b : ℕ) → a ≤ s → b ≤ t → n ≤ length labels → LeadTogether n labels s a → LeadTogether n labels t b
      → get_or labels a 0 ≡ a → get_or labels b 0 ≡ b → AreComponents n (with_link links s t) (set labels (max a b) (min a b))
  joined_now a b la lb few sa tb own_a own_b = record {
    joined = λ R law has.
        let before = has_old labels m on low n R (rw own (law.refl m)) has in
        let ab : R a b ≡ true = sym (greater_first R law a b) ∙ (rw (at_it labels m on low) at (has m (omega arith))) in
        joined_too R law before (via R law s a t (sa R law before) (both_to R law a b t ab (tb R law before)));
    only = λ R law within.
        let before = only_too R law within in
        let st : R s t ≡ true = within s t (grind arith) in
        let ab : R a b ≡ true = via R law a s b (back R law s a (sa R law before)) (via R law s t b st (tb R law before)) in
        has_new labels m on low n R (greater_first R law a b ∙ ab) before;
  }
    where
      m : ℕ
      m = max a b

      low : ℕ
      low = min a b

      on : m < length labels
      on = omega arith

      own : get_or labels m 0 ≡ m
      own = elim (cases_lt a b) [
        | inl less ↦ let most : max a b ≡ b = omega arith in rw most own_b
        | inr other ↦ let most : max a b ≡ a = omega arith in rw most own_a
      ]

-- once labels are settled, those in one component have one label
module _ (n : ℕ) (links : Links) (labels : List ℕ) (settled : AreSettled n labels) (c : AreComponents n links labels) where
  pub linked_together : (s t : ℕ) → s < n → t < n → links s t ≡ true → together labels s t ≡ true
  linked_together = c.joined (together labels) (record {
    refl = λ s. eq-eqb _ _ refl;
    symm = λ s t. grind arith;
    congr = λ s t u e. ap (λ x. eqb x (get_or labels u 0)) (eqb-true _ _ e);
  }) (λ s h. eq-eqb _ _ (sym (settled s h)))

  pub together_only : (R : Links) → IsEquivalence R → ((s t : ℕ) → links s t ≡ true → R s t ≡ true)
      → (s t : ℕ) → s < n → t < n → together labels s t ≡ true → R s t ≡ true
  together_only R law within s t h l e =
      let has = c.only R law within in
      both_to R law s (get_or labels s 0) t (has s h) (rw (← eqb-true _ _ e) at (has t l))

-- some links, and those from s to the stations of a list that have its number or more too
abbrev pub with_links_to : Links → (ℕ → ℕ) → ℕ → List ℕ → Links
with_links_to links c s ts a b = links a b || (eqb a s && holds ts b && leb (c s) (c b))

pub no_links_to : (links : Links) (c : ℕ → ℕ) (s : ℕ) → with_links_to links c s [] ≡ links
no_links_to links c s = fun_ext (λ a. fun_ext (λ b. let none = holds_none b in grind arith))

holds_last : (ts : List ℕ) (t b : ℕ) → holds (ts ++ t ∷ []) b ≡ (holds ts b || eqb b t)
unfolding holds bit
holds_last ts t b = let parts = times_append b ts (t ∷ []) in let last = times_cons b t [] in let none = times_none b in grind arith

pub links_to_more : (links : Links) (c : ℕ → ℕ) (s : ℕ) (ts : List ℕ) (t : ℕ) → c s ≤ c t
    → with_links_to links c s (ts ++ t ∷ []) ≡ with_link (with_links_to links c s ts) s t
links_to_more links c s ts t o = fun_ext (λ a. fun_ext (λ b. let last = holds_last ts t b in elim (cases_eq b t) [
  | inl d ↦ let same : c b ≡ c t = ap c d in grind arith
  | inr d ↦ grind arith
]))

pub links_to_lower : (links : Links) (c : ℕ → ℕ) (s : ℕ) (ts : List ℕ) (t : ℕ) → c t < c s
    → with_links_to links c s (ts ++ t ∷ []) ≡ with_links_to links c s ts
links_to_lower links c s ts t o = fun_ext (λ a. fun_ext (λ b. let last = holds_last ts t b in elim (cases_eq b t) [
  | inl d ↦ let same : c b ≡ c t = ap c d in grind arith
  | inr d ↦ grind arith
]))

-- all neighbours of s, by a view
module _ (g : Site) (row : ℕ → List ℕ) (law : Faithful g row) (s : ℕ) where
  held_linked : (t : ℕ) → holds (row s) t ≡ g.linked s t
  unfolding holds bit
  held_linked t = let once = law.once s t in grind arith

  pub links_to_all : (links : Links) (c : ℕ → ℕ) (ts : List ℕ) → ts ≡ row s → with_links_to links c s ts ≡ with_links_of g c links s
  links_to_all links c ts is = rw is (fun_ext (λ a. fun_ext (λ b. let held = held_linked b in grind arith)))

  pub neighbour_on_site : (front : List ℕ) (t : ℕ) (behind : List ℕ) → front ++ t ∷ behind ≡ row s → t < g.size
  unfolding bit
  neighbour_on_site front t behind is =
      let parts = times_append t front (t ∷ behind) in
      let own = times_cons t t behind in
      let held : holds (row s) t ≡ true = rw (← is) (times_holds (front ++ t ∷ behind) t (grind arith)) in
      (law.lawful.inside s t (sym (held_linked t) ∙ held)).1
