-- One link more: which numbers change, by how much, and how the stations that move hang together.
use Rattle.std.proofs.Common.{◌≡◌, ℕ, zero, suc, ◌+◌, ◌<◌, ◌≤◌, min, true, false, ◌&&◌, ◌||◌, ◌⊎◌, sym, refl, ap, inl, inr, arith}
use mathlib.Core.Path.{fun_ext}
use Rattle.std.proofs.lemmas.Bool.{or_cases, cases_eq, cases_lt}
use Rattle.cores.specs.Counting.{count}
use Rattle.cores.specs.Site.{Site}
use Rattle.cores.specs.Numbers.{Group, hears, in_core, number, IsSteady}
use Rattle.cores.specs.Forest.{Chain, reaches}
use Rattle.cores.specs.Links.{ends, moves, MovingIsHavingAnotherNumber}
use Rattle.cores.proofs.Searches.{by_cases}
use Rattle.cores.proofs.Counts.{count_but_one}
use Rattle.cores.proofs.Numbers.{Holding, hears_mono, hears_within, core_holding, core_number, number_group, number_atleast}
use Rattle.cores.proofs.Reaching.{reach_start, reach_closed, reach_chain, chain_last}

pub moving : MovingIsHavingAnotherNumber
unfolding moves
moving old new s = ((λ e d. grind arith), λ f. grind arith)

pub moves_back : (old new : Site) → moves old new ≡ moves new old
unfolding moves
moves_back old new = fun_ext (λ s. grind arith)

-- h has the links of g, and no other but perhaps that between a and b
pub record OneMore (g h : Site) (a b : ℕ) : Type 0 where
  pub same_size : g.size ≡ h.size
  pub old : (s t : ℕ) → g.linked s t ≡ true → h.linked s t ≡ true
  pub new : (s t : ℕ) → h.linked s t ≡ true → (g.linked s t || ends a b s t) ≡ true

module _ (g h : Site) (a b : ℕ) (one : OneMore g h a b) where
  pub hears_more : (X : Group) (s : ℕ) → hears g X s ≤ hears h X s
  hears_more X s = hears_mono g h X X s one.same_size (λ t l e x. (one.old s t e, x))

  -- no more are heard by a station that is no end, or whose other end is not in the group
  pub hears_same : (X : Group) (s : ℕ) → (s ≡ a → X b ≡ false) → (s ≡ b → X a ≡ false) → hears h X s ≤ hears g X s
  unfolding ends
  hears_same X s not_b not_a = hears_mono h g X X s (sym one.same_size) (λ t l e x. let new = one.new s t e in (grind arith, x))

  number_keeps : (s : ℕ) → s < g.size → number g s ≤ number h s
  number_keeps s l =
      let (X, member, p) = number_group g s l in
      number_atleast h (number g s) s X (omega (arith, one.same_size)) member (λ t m x. omega (arith, p.heard t x, hears_more X t))

  module _ (la : a < g.size) (lb : b < g.size) (apart : a ≡ b → ⊥) where
    -- at most one more is heard: the other end
    pub hears_one : (X : Group) (s : ℕ) → hears h X s ≤ hears g X s + 1
    unfolding hears ends
    hears_one X s = elim (cases_eq s a) [
      | inl at_a ↦ but b (λ t e d. let new = one.new s t e in grind arith)
      | inr off_a ↦ but a (λ t e d. let new = one.new s t e in grind arith)
    ]
      where
        but : (m : ℕ) → ((t : ℕ) → h.linked s t ≡ true → (t ≡ m → ⊥) → g.linked s t ≡ true)
            → count h.size (λ t. h.linked s t && X t) ≤ count g.size (λ t. g.linked s t && X t) + 1
        but m f =
            let more : Group = λ t. h.linked s t && X t in
            omega (arith, ap (λ n. count n more) one.same_size, count_but_one g.size (λ t. g.linked s t && X t) more m (λ t l e d. let kept = f t in grind arith))

    falls_one : (k : ℕ) (X : Group) → IsSteady h (suc k) X → Holding g k X
    falls_one k X p t l x = omega (arith, p.heard t x, hears_one X t)

    number_one : (s : ℕ) → s < g.size → number h s ≤ number g s + 1
    number_one s l = go (number h s) (number_group h s (omega (arith, one.same_size)))
      where
        go : (m : ℕ) → (X : Group) × (X s ≡ true) × IsSteady h m X → m ≤ number g s + 1
        go zero X = omega arith
        go (suc k) (X, member, p) = omega (arith, number_atleast g k s X l member (falls_one k X p))

    -- a group of h that lifts s above its number in g holds both ends
    holds_ends : (k s : ℕ) (X : Group) → s < g.size → number g s < k → X s ≡ true → IsSteady h k X → (X a ≡ true) × (X b ≡ true)
    holds_ends k s X l low x p =
        let lost : ((t : ℕ) → X t ≡ true → (t ≡ a → X b ≡ false) × (t ≡ b → X a ≡ false)) → ⊥ = λ no_link.
        omega (arith, number_atleast g k s X l x (λ t m y. omega (arith, p.heard t y, hears_same X t (no_link t y).0 (no_link t y).1))) in (
          by_cases (X a) (λ e. e) (λ e. absurd (lost (λ t y. ((λ d. grind arith), λ d. e)))),
          by_cases (X b) (λ e. e) (λ e. absurd (lost (λ t y. ((λ d. e), λ d. grind arith)))),
        )

    -- where both ends are in the k-core set of g already, the group and that set together are steady in g
    both_above : (k s : ℕ) (X : Group) → s < g.size → X s ≡ true → IsSteady h k X → k ≤ number g a → k ≤ number g b → k ≤ number g s
    both_above k s X l x p high_a high_b =
        let Y : Group = λ t. X t || in_core g k t in
        number_atleast g k s Y l (grind arith) (λ t m y. by_cases (in_core g k t)
        (λ e. omega (arith, core_holding g k t e, hears_within g (in_core g k) Y t (λ u n w z. grind arith)))
        (λ e. let low = core_number g k t m in
        omega (arith, p.heard t (grind arith), hears_same X t (λ d. grind arith) (λ d. grind arith), hears_within g X Y t (λ u n w z. grind arith))))

    -- what is true of a number that changes
    pub record Lifted (s : ℕ) : Type 0 where
      pub by_one : number h s ≡ number g s + 1
      pub smaller : number g s ≡ min (number g a) (number g b)
      pub smaller_after : number h s ≡ min (number h a) (number h b)

    pub number_lifted : (s : ℕ) → s < g.size → (number h s ≡ number g s → ⊥) → Lifted s
    number_lifted s l moved =
        let k = number g s in
        let up : number h s ≡ suc k = omega (arith, number_keeps s l, number_one s l) in
        let (X, member, own) = number_group h s (omega (arith, one.same_size)) in
        let p : IsSteady h (suc k) X = rw up at own in
        let (in_a, in_b) = holds_ends (suc k) s X l (omega arith) member p in
        let low_a : k ≤ number g a = number_atleast g k a X la in_a (falls_one k X p) in
        let low_b : k ≤ number g b = number_atleast g k b X lb in_b (falls_one k X p) in
        let high_a : suc k ≤ number h a = number_atleast h (suc k) a X (omega (arith, one.same_size)) in_a (λ t m x. p.heard t x) in
        let high_b : suc k ≤ number h b = number_atleast h (suc k) b X (omega (arith, one.same_size)) in_b (λ t m x. p.heard t x) in
        let above = both_above (suc k) s X l member p in
        let smaller : k ≡ min (number g a) (number g b) = elim (cases_lt k (number g a)) [
          | inr level_a ↦ omega arith
          | inl above_a ↦ elim (cases_lt k (number g b)) [ inr level_b ↦ omega arith | inl above_b ↦ absurd (omega (arith, above above_a above_b)) ]
        ] in
        record { by_one = omega arith; smaller = smaller; smaller_after = omega (arith, number_one a la, number_one b lb) }

    -- the stations that move
    abbrev M : Group
    M = moves g h

    -- if no chain of them led to an end, those that a chain from s leads to and the core set above them would be steady in g
    pub moved_chain : (s : ℕ) → s < g.size → M s ≡ true → (end : ℕ) × ((end ≡ a) ⊎ (end ≡ b)) × Chain g M s end
    unfolding ends
    moved_chain s l e = by_cases (C a)
        (λ x. (a, inl refl, reach_chain g M s g.size a x))
        (λ x. by_cases (C b) (λ y. (b, inr refl, reach_chain g M s g.size b y)) (λ y. absurd (neither x y)))
      where
        k : ℕ
        k = suc (number g s)

        C : Group
        C t = reaches g M g.size s t

        Y : Group
        Y t = C t || in_core g k t

        lifted : (t : ℕ) → t < g.size → C t ≡ true → number h t ≡ k
        lifted t m c =
            let here = number_lifted t m ((moving g h t).0 (chain_last g M s (reach_chain g M s g.size t c))) in
            let own = number_lifted s l ((moving g h s).0 e) in
            omega (arith, here.by_one, here.smaller, own.smaller)

        near : (t u : ℕ) → t < g.size → u < g.size → C t ≡ true → g.linked t u ≡ true → in_core h k u ≡ true → Y u ≡ true
        near t u m n c w i =
            let low = core_number g k u n in
            let high = core_number h k u (omega (arith, one.same_size)) in
            let closed = reach_closed g M s l e t u m n c w in
            let moves_u = (moving g h u).1 in
            by_cases (in_core g k u) (λ x. grind arith) (λ x. let c_u = closed (moves_u (λ d. grind arith)) in grind arith)

        strong : (t : ℕ) → t < g.size → C t ≡ true → C a ≡ false → C b ≡ false → k ≤ hears g Y t
        strong t m c x y =
            let level = lifted t m c in
            let by_number = core_number h k t (omega (arith, one.same_size)) in
            omega (
              arith,
              core_holding h k t (grind arith),
              hears_mono h g (in_core h k) Y t (sym one.same_size) (λ u n w j.
                  let new = one.new t u w in
                  let old : g.linked t u ≡ true = grind arith in
                  (old, near t u m (omega (arith, one.same_size)) c old j)),
            )

        neither : C a ≡ false → C b ≡ false → ⊥
        neither x y =
            let start : C s ≡ true = reach_start g M s e g.size in
            omega (
              arith,
              number_atleast g k s Y l (grind arith) (λ t m z. elim (or_cases (C t) (in_core g k t) z) [
                | inl c ↦ strong t m c x y
                | inr c ↦ omega (arith, core_holding g k t c, hears_within g (in_core g k) Y t (λ u n w v. grind arith))
              ]),
            )
