-- The numbers after one link more or less, before the stations that have too few neighbours fall.
use Rattle.std.proofs.Common.{◌≡◌, ◌≢◌, ℕ, zero, suc, ◌+◌, ◌<◌, ◌≤◌, min, true, false, leb, List, [], ◌∷◌, get_or, sym, ap, ◌∙◌, inl, inr, arith}
use Rattle.std.proofs.lemmas.Bool.{both_ways, cases_eq, cases_lt, leb-true, le-leb}
use Rattle.cores.specs.Counting.{bit, holds}
use Rattle.cores.specs.Site.{Site, Lawful}
use Rattle.cores.specs.Numbers.{hears, number}
use Rattle.cores.specs.Links.{ends, joined, parted}
use Rattle.cores.proofs.Searches.{by_cases}
use Rattle.cores.proofs.Entries.{holds_first, holds_more, holds_times}
use Rattle.cores.proofs.Numbers.{hears_mono, hears_within, number_heard, number_off_site}
use Rattle.cores.proofs.Lifting.{hears_more, hears_same, hears_one}
use Rattle.cores.proofs.Links.{joined_one, parted_one, link_more, link_less}
use Rattle.book.specs.Tables.{Links, row, site_of, Sound}
use Rattle.book.specs.Orders.{Forward}
use Rattle.book.specs.Current.{stands_later, later, BearsOut}
use Rattle.book.specs.Updates.{support, falls, rises, in_row, in_row_behind, AtMostOneHigh, Watched, Raising, Raised}
use Rattle.book.proofs.Falling.{level, support_heard, falls_by}
use Rattle.book.proofs.Later.{later_cases, later_greater, later_behind, later_heard, later_within}
use Rattle.book.proofs.Rising.{rises_by, rises_from}
use Rattle.book.proofs.Granted.{CanLink, CanUnlink}

-- Numbers that settle once those on a list are looked at.
abbrev pub Settles : Links → ℕ → List ℕ → List ℕ → List ℕ → Type 0
Settles l k c p list = AtMostOneHigh (site_of l) k c × BearsOut l c p × Watched (in_row l) (falls l c k) (holds list) [] 0

-- a station that is counted is on the site
on_site : (g : Site) (s : ℕ) → 0 < number g s → s < g.size
on_site g s some = elim (cases_lt s g.size) [ inl on ↦ on | inr off ↦ absurd (omega (arith, number_off_site g s off)) ]

module _ (g : Site) (law : Lawful g) (a b k : ℕ) (level_is : k ≡ min (number g a) (number g b)) (o : List ℕ) (right : (s : ℕ) → get_or o s 0 ≡ number g s) (l : Links) (sound : Sound l) where
  -- whoever had k heard enough before, and does so now if all that it heard is heard and none has less
  enough : (c : List ℕ) (j t : ℕ) → get_or o t 0 ≡ j → 0 < j → l.stations ≡ g.size
      → ((u : ℕ) → g.linked t u ≡ true → holds (row l t) u ≡ true)
      → ((u : ℕ) → j ≤ number g u → j ≤ get_or c u 0) → j ≤ support l c j t
  enough c j t is some size keep high =
      let level_t : number g t ≡ j = sym (right t) ∙ is in
      omega (
        arith,
        number_heard g t (on_site g t (omega arith)),
        support_heard l sound c j t,
        hears_mono g (site_of l) (λ u. leb (number g t) (number g u)) (level c j) t (sym size) (λ u m e x. (keep u e, le-leb _ _ (high u (omega (arith, leb-true _ _ x))))),
      )

  module _ (can : CanUnlink g a b) (is : site_of l ≡ parted g a b) where
    less_size : l.stations ≡ g.size
    unfolding parted
    less_size = ap (λ h. h.size) is

    -- one link less: only stations of number k may have too much
    pub less_high : AtMostOneHigh (site_of l) k o
    unfolding parted
    less_high s = rw is (elim (cases_lt s g.size) [
      | inr off ↦ inl (right s ∙ number_off_site g s off ∙ sym (number_off_site (parted g a b) s off))
      | inl on ↦ elim (link_less g law a b can.stands s on) [
        | inl same ↦ inl (right s ∙ sym same)
        | inr moved ↦ inr (omega (arith, less_size), omega (arith, right s, moved.1.smaller), omega (arith, moved.0, moved.1.smaller))
      ]
    ])

    -- and only the ends may fall at first
    pub less_watched : Watched (in_row l) (falls l o k) (holds (a ∷ b ∷ [])) [] 0
    unfolding parted ends
    less_watched = record {
      within = omega arith;
      seen = λ t e. elim (cases_eq t a) [
        | inl at ↦ inl (holds_first t a (b ∷ []) at)
        | inr off_a ↦ elim (cases_eq t b) [
          | inl at ↦ inl (holds_more t a (b ∷ []) (holds_first t b [] at))
          | inr off_b ↦
              let (is_k, few) = falls_by l k o t e in
              absurd (omega (
                arith,
                enough o k t is_k (omega arith) less_size
                    (λ u link. ap (λ h. h.linked t u) is ∙ grind arith)
                    (λ u high. omega (arith, right u)),
              ))
        ]
      ];
    }

  -- the numbers before, which the order bore out on the old rows
  module _ (old : Links) (sound_old : Sound old) (was : site_of old ≡ g) (p : List ℕ) (bore_out : BearsOut old o p) where
    -- so many stood later before
    before : (s : ℕ) → hears g (stands_later o p s) s ≤ get_or o s 0
    before s = omega (arith, bore_out s, later_heard old sound_old o p s, ap (λ h. hears h (stands_later o p s) s) was)

    -- one link less: the order still bears them out
    pub less_bears_out : site_of l ≡ parted g a b → BearsOut l o p
    less_bears_out is s = omega (
      arith,
      before s,
      later_heard l sound o p s,
      ap (λ h. hears h (stands_later o p s) s) is,
      hears_more (parted g a b) g a b (parted_one g a b) (stands_later o p s) s,
    )

    module _ (can : CanLink g a b) (is : site_of l ≡ joined g a b) where
      abbrev h : Site
      h = joined g a b

      -- whoever has one end only as a neighbour of less number has as many later neighbours as before
      later_same : (s : ℕ) → (s ≡ a → stands_later o p s b ≡ false) → (s ≡ b → stands_later o p s a ≡ false) → hears h (stands_later o p s) s ≤ get_or o s 0
      later_same s not_b not_a = omega (arith, before s, hears_same g h a b (joined_one g a b) (stands_later o p s) s not_b not_a)

      later_one : (s : ℕ) → hears h (stands_later o p s) s ≤ get_or o s 0 + 1
      later_one s = omega (arith, before s, hears_one g h a b (joined_one g a b) can.ends.on_a can.ends.on_b can.ends.apart (stands_later o p s) s)

      more_size : l.stations ≡ g.size
      unfolding joined
      more_size = ap (λ h. h.size) is

      -- one link more: only the ends may rise at first
      pub more_rising : Watched (in_row_behind l p) (rises l o p k) (holds (a ∷ b ∷ [])) [] 0
      more_rising = record {
        within = omega arith;
        seen = λ t e. elim (cases_eq t a) [
          | inl at ↦ inl (holds_first t a (b ∷ []) at)
          | inr off_a ↦ elim (cases_eq t b) [
            | inl at ↦ inl (holds_more t a (b ∷ []) (holds_first t b [] at))
            | inr off_b ↦
                let (is_k, more) = rises_by l k o p t e in
                absurd (omega (
                  arith,
                  is_k,
                  more,
                  later_heard l sound o p t,
                  ap (λ h. hears h (stands_later o p t) t) is,
                  later_same t (λ at. absurd (off_a at)) (λ at. absurd (off_b at)),
                ))
          ]
        ];
      }

      module _ (c noted : List ℕ) (up : Raising l k c noted) (now : Raised k o c noted) (over : (t : ℕ) → rises l c p k t ≡ false) where
        -- a link that stood before
        kept_link : (s t : ℕ) → g.linked s t ≡ true → holds (row l s) t ≡ true
        unfolding joined
        kept_link s t e = ap (λ h. h.linked s t) is ∙ grind arith

        -- who is left behind has no more than k later neighbours
        left : (t : ℕ) → get_or c t 0 ≡ k → hears h (stands_later c p t) t ≤ k
        left t at = elim (cases_lt k (later l c p t)) [
          | inl more ↦ absurd (both_ways (rises l c p k t) (over t) (rises_from l k c p t at more))
          | inr few ↦ omega (arith, few, later_heard l sound c p t, ap (λ h. hears h (stands_later c p t) t) is)
        ]

        -- whoever has more than k on the new site stands later than one that moves and was not noted, or is one itself, further ahead
        stays_behind : (t u : ℕ) → get_or c t 0 ≡ k → u < g.size → k + 1 ≤ number h u
            → (holds noted u ≡ false → get_or o u 0 ≡ k → get_or p u 0 < get_or p t 0 → ⊥) → stands_later c p t u ≡ true
        stays_behind t u at on high none = by_cases (holds noted u)
            (λ held. later_greater c p t u (omega (arith, at, (now.risen u held).1)))
            (λ out. elim (link_more g law a b can.ends.on_a can.ends.on_b can.ends.apart can.free u on) [
              | inl same ↦ later_greater c p t u (omega (arith, at, now.others u out, right u))
              | inr moved ↦
                  let is_k : get_or o u 0 ≡ k = omega (arith, right u, moved.1.smaller) in
                  elim (cases_lt (get_or p u 0) (get_or p t 0)) [
                    | inl ahead ↦ absurd (none out is_k ahead)
                    | inr behind ↦ later_behind c p t u (omega (arith, at, now.others u out)) behind
                  ]
            ])

        -- whoever moves was noted: one that was not, and stood first of such, would have more than k later neighbours
        noted_before : (m t : ℕ) → get_or p t 0 < m → t < g.size → get_or o t 0 ≡ k → k + 1 ≤ number h t → holds noted t ≡ false → ⊥
        unfolding joined
        noted_before zero t low on is_k high out = omega arith
        noted_before (suc m) t low on is_k high out =
            let at : get_or c t 0 ≡ k = now.others t out ∙ is_k in
            omega (
              arith,
              high,
              left t at,
              number_heard h t on,
              hears_within h (λ u. leb (number h t) (number h u)) (stands_later c p t) t (λ u on_u e x.
                  stays_behind t u at on_u (omega (arith, high, leb-true _ _ x)) (λ out_u is_u ahead. noted_before m u (omega arith) on_u is_u (omega (arith, high, leb-true _ _ x)) out_u)),
            )

        moved_rose : (s : ℕ) → s < g.size → number h s ≡ number g s + 1 → number g s ≡ k → holds noted s ≡ true
        moved_rose s on up_one was_k = by_cases (holds noted s) (λ e. e) (λ out. absurd (noted_before (get_or p s 0 + 1) s (omega arith) on (right s ∙ was_k) (omega arith) out))

        -- one link more: those that rose may have too much, and the others are right
        more_high : AtMostOneHigh (site_of l) (k + 1) c
        unfolding joined bit
        more_high s = rw is (elim (cases_lt s g.size) [
          | inr off ↦ inl (now.others s (by_cases (holds noted s) (λ e. let some = holds_times noted s e in let few = up.rose s in let size = more_size in absurd (grind arith)) (λ e. e))
              ∙ right s ∙ number_off_site g s off ∙ sym (number_off_site (joined g a b) s off))
          | inl on ↦ elim (link_more g law a b can.ends.on_a can.ends.on_b can.ends.apart can.free s on) [
            | inl same ↦ by_cases (holds noted s)
                (λ e. let (j, one) = now.risen s e in inr (omega (arith, more_size), one, omega (arith, right s)))
                (λ e. inl (now.others s e ∙ right s ∙ sym same))
            | inr moved ↦
                let (j, one) = now.risen s (moved_rose s on moved.0 (omega (arith, moved.1.smaller))) in
                inl (omega (arith, right s, moved.0))
          ]
        ])

        -- and only those that rose may fall at first
        more_watched : (list : List ℕ) → ((t : ℕ) → holds list t ≡ holds noted t) → Watched (in_row l) (falls l c (k + 1)) (holds list) [] 0
        more_watched list all = record {
          within = omega arith;
          seen = λ t e. inl (all t ∙ by_cases (holds noted t) (λ held. held) (λ out.
              let (is_one, few) = falls_by l (k + 1) c t e in
              absurd (omega (
                arith,
                enough c (k + 1) t (sym (now.others t out) ∙ is_one) (omega arith) more_size (kept_link t)
                    (λ u high. by_cases (holds noted u) (λ held. omega (arith, (now.risen u held).1)) (λ free. omega (arith, now.others u free, right u))),
              ))));
        }

        size : l.stations ≡ h.size
        unfolding joined
        size = more_size

        -- once those that rose are brought forward, the order bears out their numbers too
        more_bears_out : (q : List ℕ) → Forward (holds noted) p q → BearsOut l c q
        more_bears_out q forward s = by_cases (holds noted s) risen (λ out. elim (cases_eq (get_or c s 0) k) [ inl at ↦ behind out at | inr off ↦ elsewhere out off ])
          where
            near : (t : ℕ) → holds (row l s) t ≡ true → h.linked s t ≡ true
            near t link = sym (ap (λ g. g.linked s t) is) ∙ link

            risen : holds noted s ≡ true → later l c q s ≤ get_or c s 0
            risen held =
                let (was, one) = now.risen s held in
                omega (
                  arith,
                  was,
                  one,
                  later_one s,
                  later_within l sound c q s h (stands_later o p s) size (λ t on_s on_t off link e. (
                    near t link,
                    elim (later_cases c q s t e) [
                      | inl more ↦ by_cases (holds noted t)
                          (λ held_t. absurd (omega (arith, more, one, (now.risen t held_t).1)))
                          (λ out. later_greater o p s t (omega (arith, more, was, one, now.others t out)))
                      | inr tie ↦ by_cases (holds noted t)
                          (λ held_t. later_behind o p s t (omega (arith, was, (now.risen t held_t).0)) ((forward s t on_s on_t tie.1).1 (held ∙ sym held_t)))
                          (λ out. later_greater o p s t (omega (arith, tie.0, was, one, now.others t out)))
                    ],
                  )),
                )

            behind : holds noted s ≡ false → get_or c s 0 ≡ k → later l c q s ≤ get_or c s 0
            behind out at = omega (
              arith,
              at,
              left s at,
              later_within l sound c q s h (stands_later c p s) size (λ t on_s on_t off link e. (
                near t link,
                elim (later_cases c q s t e) [
                  | inl more ↦ later_greater c p s t more
                  | inr tie ↦ by_cases (holds noted t)
                      (λ held_t. absurd (omega (arith, tie.0, at, (now.risen t held_t).1)))
                      (λ out_t. later_behind c p s t tie.0 ((forward s t on_s on_t tie.1).1 (out ∙ sym out_t)))
                ],
              )),
            )

            -- neither end of another number than k stands behind the other
            no_end : holds noted s ≡ false → (get_or c s 0 ≢ k) → (x y : ℕ) → k ≡ min (get_or o x 0) (get_or o y 0) → s ≡ x → stands_later o p s y ≡ false
            no_end out off x y smaller at =
                let same = now.others s out in
                let own : get_or o s 0 ≡ get_or o x 0 = ap (λ u. get_or o u 0) at in
                by_cases (stands_later o p s y)
                (λ e. absurd (elim (later_cases o p s y e) [ inl more ↦ off (omega (arith, more, smaller, same, own)) | inr tie ↦ off (omega (arith, tie.0, smaller, same, own)) ]))
                (λ e. e)

            elsewhere : holds noted s ≡ false → (get_or c s 0 ≢ k) → later l c q s ≤ get_or c s 0
            elsewhere out off =
                let same = now.others s out in
                let smaller : k ≡ min (get_or o a 0) (get_or o b 0) = omega (arith, level_is, right a, right b) in
                let smaller_back : k ≡ min (get_or o b 0) (get_or o a 0) = omega (arith, level_is, right a, right b) in
                omega (
                  arith,
                  same,
                  later_same s (no_end out off a b smaller) (no_end out off b a smaller_back),
                  later_within l sound c q s h (stands_later o p s) size (λ t on_s on_t other link e. (
                    near t link,
                    elim (later_cases c q s t e) [
                      | inl more ↦ by_cases (holds noted t)
                          (λ held_t. let (was, one) = now.risen t held_t in later_greater o p s t (elim (cases_lt (get_or o s 0) (get_or o t 0)) [ inl less ↦ less | inr no_less ↦ absurd (off (omega (arith, more, same, was, one))) ]))
                          (λ out_t. later_greater o p s t (omega (arith, more, same, now.others t out_t)))
                      | inr tie ↦ by_cases (holds noted t)
                          (λ held_t. absurd (both_ways (holds noted s) out ((forward s t on_s on_t tie.1).0 held_t)))
                          (λ out_t. later_behind o p s t (omega (arith, tie.0, same, now.others t out_t)) ((forward s t on_s on_t tie.1).1 (out ∙ sym out_t)))
                    ],
                  )),
                )

        pub more_settles : (q : List ℕ) → Forward (holds noted) p q → (list : List ℕ) → ((t : ℕ) → holds list t ≡ holds noted t)
            → Settles l (k + 1) c q list
        more_settles q forward list all = (more_high, more_bears_out q forward, more_watched list all)
