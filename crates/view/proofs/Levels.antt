-- The components of the stations of a level and above, level by level.
use Rattle.std.proofs.Common.{◌≡◌, ℕ, ◌+◌, ◌<◌, ◌≤◌, true, false, ◌&&◌, ◌||◌, eqb, ltb, leb, List, get_or, refl, ◌∙◌, inl, inr, arith}
use mathlib.Core.Path.{fun_ext}
use Rattle.std.proofs.lemmas.Bool.{cases_eq, or_cases, or_right, eq-eqb, eqb-true}
use Rattle.cores.specs.Site.{Site, Lawful}
use Rattle.cores.specs.Forest.{Chain, start, step}
use Rattle.cores.specs.ByNumbers.{at_least, connected_by}
use Rattle.cores.proofs.Searches.{same_test, by_cases}
use Rattle.cores.proofs.Reaching.{same_or, parted_equivalence, chain_last}
use Rattle.cores.proofs.ByNumbers.{level_number, level_from, level_parts, level_chain, level_link}
use Rattle.view.specs.Components.{together, AreComponents, AreSettled, with_links_of, links_at}
use Rattle.view.proofs.Joining.{Links, linked_together, together_only}

module _ (g : Site) (c : ℕ → ℕ) where
  -- the links above a level, and those from its stations below i
  abbrev pub links_so_far : ℕ → ℕ → Links
  links_so_far k i a b = links_at g c (k + 1) a b || (ltb a i && eqb (c a) k && g.linked a b && leb k (c b))

  pub no_links_yet : (k : ℕ) → links_so_far k 0 ≡ links_at g c (k + 1)
  no_links_yet k = fun_ext (λ a. fun_ext (λ b. grind arith))

  pub links_of_one_more : (k i : ℕ) → c i ≡ k → with_links_of g c (links_so_far k i) i ≡ links_so_far k (i + 1)
  links_of_one_more k i e = fun_ext (λ a. fun_ext (λ b. elim (cases_eq a i) [
    | inl d ↦ rw d (grind arith)
    | inr d ↦ grind arith
  ]))

  pub links_of_no_more : (k i : ℕ) → (c i ≡ k → ⊥) → links_so_far k i ≡ links_so_far k (i + 1)
  links_of_no_more k i e = fun_ext (λ a. fun_ext (λ b. elim (cases_eq a i) [
    | inl d ↦ rw d (grind arith)
    | inr d ↦ grind arith
  ]))

  at_level : (k a b : ℕ) → links_at g c k a b ≡ true → (g.linked a b ≡ true) × (k ≤ c a) × (k ≤ c b)
  unfolding links_at
  at_level k a b e = (grind arith, grind arith, grind arith)

  from_level : (k a b : ℕ) → g.linked a b ≡ true → k ≤ c a → k ≤ c b → links_at g c k a b ≡ true
  unfolding links_at
  from_level k a b l o p = grind arith

  so_far_at_level : (k i a b : ℕ) → links_so_far k i a b ≡ true → links_at g c k a b ≡ true
  unfolding links_at
  so_far_at_level k i a b e = grind arith

  so_far_above : (k i a b : ℕ) → g.linked a b ≡ true → k + 1 ≤ c a → k + 1 ≤ c b → links_so_far k i a b ≡ true
  so_far_above k i a b l o p = let above = from_level (k + 1) a b l o p in grind arith

  so_far_here : (k i a b : ℕ) → g.linked a b ≡ true → a < i → c a ≡ k → k ≤ c b → links_so_far k i a b ≡ true
  so_far_here k i a b l h d o = grind arith

  -- a level is joined once the links from all of its stations are taken
  pub level_joined : Lawful g → (k : ℕ) (labels : List ℕ) → AreComponents g.size (links_so_far k g.size) labels → AreComponents g.size (links_at g c k) labels
  level_joined law k labels p = record {
    joined = λ R equivalence has a b h l e.
        let (linked, low, high) = at_level k a b e in
        let near = p.joined R equivalence has in
        elim (cases_eq (c a) k) [
          | inl d ↦ near a b h l (so_far_here k g.size a b linked h d high)
          | inr d ↦ elim (cases_eq (c b) k) [
            | inl x ↦ equivalence.symm a b ∙ near b a l h (so_far_here k g.size b a (law.both_ways b a ∙ linked) l x low)
            | inr x ↦ near a b h l (so_far_above k g.size a b linked (omega arith) (omega arith))
          ]
        ];
    only = λ R equivalence within. p.only R equivalence (λ a b e. within a b (so_far_at_level k g.size a b e));
  }

  -- above all numbers there are no links
  pub no_links_above : Lawful g → (k : ℕ) → ((s : ℕ) → s < g.size → c s < k) → links_at g c k ≡ (λ s t. false)
  no_links_above law k low = fun_ext (λ a. fun_ext (λ b. by_cases (links_at g c k a b)
      (λ e. let (linked, o, p) = at_level k a b e in absurd (omega (arith, low a (law.inside a b linked).0)))
      (λ e. e)))

  -- a level without stations adds none
  pub no_links_added : Lawful g → (k : ℕ) → ((s : ℕ) → s < g.size → c s ≡ k → ⊥) → links_at g c (k + 1) ≡ links_at g c k
  no_links_added law k none = fun_ext (λ a. fun_ext (λ b. same_test (links_at g c (k + 1) a b) (links_at g c k a b)
      (λ e. let (linked, o, p) = at_level (k + 1) a b e in from_level k a b linked (omega arith) (omega arith))
      (λ e.
      let (linked, o, p) = at_level k a b e in
      let (on, off) = law.inside a b linked in
      from_level (k + 1) a b linked (omega (arith, none a on)) (omega (arith, none b off)))))

  -- the components of a level connect what is connected there
  module _ (law : Lawful g) (k : ℕ) (labels : List ℕ) (settled : AreSettled g.size labels) (p : AreComponents g.size (links_at g c k) labels) where
    chain_together : (s : ℕ) {t : ℕ} → Chain g (at_least g c k) s t → get_or labels s 0 ≡ get_or labels t 0
    chain_together s (start x) = refl
    chain_together s (step {t = t} {u = u} chain l x) =
        let (on, off) = law.inside t u l in
        let last = chain_last g (at_least g c k) s chain in
        chain_together s chain
        ∙ eqb-true _ _ (linked_together g.size (links_at g c k) labels settled p t u on off (from_level k t u l (level_number g c k t last) (level_number g c k u x)))

    together_connected : (s t : ℕ) → s < g.size → t < g.size → k ≤ c s → together labels s t ≡ true → connected_by g c k s t ≡ true
    together_connected s t h l o e =
        let parts = level_parts g c law k in
        let both = together_only g.size (links_at g c k) labels settled p (same_or (connected_by g c k)) (parted_equivalence (at_least g c k) (connected_by g c k) parts)
        (λ a b x. let (linked, m, n) = at_level k a b x in or_right (eqb a b) (connected_by g c k a b) (level_link g c law k a b linked m n))
        s t h l e in
        elim (or_cases (eqb s t) (connected_by g c k s t) both) [
          | inl same ↦ rw (← eqb-true s t same) (parts.itself s (level_from g c k s h o))
          | inr connected ↦ connected
        ]

    pub component_connected : (s t : ℕ) → s < g.size → t < g.size → k ≤ c s → together labels s t ≡ connected_by g c k s t
    component_connected s t h l o = same_test (together labels s t) (connected_by g c k s t) (together_connected s t h l o)
        (λ e. eq-eqb _ _ (chain_together s (level_chain g c law k s t e)))
