-- From what is noted at each number to the counts of each level, from the greatest number down.
use Rattle.std.proofs.Common.{◌≡◌, ℕ, zero, suc, ◌+◌, ◌-◌, ◌<◌, ◌≤◌, cond, ◌&&◌, ◌||◌, ltb, leb, eqb, List, length, get_or, set, replicate, sym, refl, ap, ◌∙◌, arith}
use Rattle.std.proofs.lemmas.Bool.Decides.{nat_tests}
use Rattle.rules.specs.declared.counts.Counts.{Counts}
use Rattle.cores.specs.Counting.{bit}
use Rattle.cores.specs.Site.{Site}
use Rattle.cores.proofs.Counts.{count_le}
use Rattle.rules.specs.Levels.{links_below}
use Rattle.rules.specs.Noted.{Holds, is_smaller, is_greater, noted, counts_from}
use Rattle.rules.proofs.Links.{count_split, count_nobody, links_none, links_few, links_split, links_nowhere, no_counts, same_counts}
use Rattle.rules.proofs.Notes.{holds_same, holds_written}

-- nothing is noted at first
pub nothing_noted : (g : Site) (c : ℕ → ℕ) (n : ℕ) → Holds (noted g c 0) (replicate n no_counts)
nothing_noted g c n k d l =
    blank n k l
    ∙ same_counts _ _ (sym (count_nobody 0 (λ u. eqb (c u) k) (λ t h. absurd (omega arith)))) (sym (links_none g (is_smaller c k))) (sym (links_none g (is_greater c k)))
  where
    blank : (n k : ℕ) → k < length (replicate n no_counts) → get_or (replicate n no_counts) k d ≡ no_counts
    blank zero k h = absurd (omega arith)
    blank (suc n) zero h = refl
    blank (suc n) (suc k) h = blank n k (omega arith)

-- how many links reach the stations that have k or more
pub reaching : Site → (ℕ → ℕ) → ℕ → ℕ
reaching g c k = links_below g g.size (λ s t. leb k (c s) || leb k (c t))

-- The sweep down to a level: what it has counted there, and a list that has the counts from there on, and what was noted below.
pub record Swept (g : Site) (c : ℕ → ℕ) (level m i r : ℕ) (list : List Counts) : Type 0 where
  pub members : m ≡ (counts_from g c level).members
  pub inside : i ≡ (counts_from g c level).inside
  pub reached : r ≡ reaching g c level
  pub entries : Holds (λ k. cond (ltb k level) (noted g c g.size k) (counts_from g c k)) list

module _ (g : Site) (c : ℕ → ℕ) where
  -- with a place for each number, there is nobody above the list
  pub swept_none : (list : List Counts) → ((s : ℕ) → s < g.size → c s < length list) → Holds (noted g c g.size) list → Swept g c (length list) 0 0 0 list
  unfolding reaching
  swept_none list above noted =
      let top = length list in
      record {
        members = sym (count_nobody g.size (λ s. leb top (c s)) (λ t h. let low = above t h in grind (arith, nat_tests)));
        inside = sym (links_nowhere g g.size (λ s t. leb top (c s) && leb top (c t)) (λ s t h l. let low = above s h in grind (arith, nat_tests)));
        reached = sym (links_nowhere g g.size (λ s t. leb top (c s) || leb top (c t)) (λ s t h l. let low = above s h in let also = above t l in grind (arith, nat_tests)));
        entries = holds_same _ _ list noted (λ k l. grind arith);
      }

  module _ (k : ℕ) where
    -- from the level above, with what is noted
    members_down : (counts_from g c k).members ≡ (counts_from g c (k + 1)).members + (noted g c g.size k).members
    unfolding bit
    members_down = count_split g.size _ _ _ (λ t h. grind (arith, nat_tests))

    inside_down : (counts_from g c k).inside ≡ (counts_from g c (k + 1)).inside + (noted g c g.size k).inside
    unfolding bit
    inside_down = links_split g g.size _ _ _ (λ s t h l. grind (arith, nat_tests))

    reaching_down : reaching g c k ≡ reaching g c (k + 1) + (noted g c g.size k).boundary
    unfolding reaching bit
    reaching_down = links_split g g.size _ _ _ (λ s t h l. grind (arith, nat_tests))

    -- what reaches a level is inside, or at its boundary
    reaching_parts : reaching g c k ≡ (counts_from g c k).inside + (counts_from g c k).boundary
    unfolding reaching bit
    reaching_parts = links_split g g.size _ _ _ (λ s t h l. grind arith)

    module _ (m i r : ℕ) (list : List Counts) (d : Counts) (within : k < length list) (swept : Swept g c (k + 1) m i r list) where
      noted_there : get_or list k d ≡ noted g c g.size k
      noted_there = let at = swept.entries k d within in grind arith

      members_swept : m + (get_or list k d).members ≡ (counts_from g c k).members
      members_swept = omega (arith, swept.members, ap (λ x. x.members) noted_there, members_down)

      inside_swept : i + (get_or list k d).inside ≡ (counts_from g c k).inside
      inside_swept = omega (arith, swept.inside, ap (λ x. x.inside) noted_there, inside_down)

      reached_swept : r + (get_or list k d).boundary ≡ reaching g c k
      reached_swept = omega (arith, swept.reached, ap (λ x. x.boundary) noted_there, reaching_down)

      -- the counts are small, and no more links are inside than reach
      pub swept_few : g.size ≤ 512 → (m + (get_or list k d).members ≤ 512) × (i + (get_or list k d).inside ≤ r + (get_or list k d).boundary) × (r + (get_or list k d).boundary ≤ 262144)
      unfolding reaching
      swept_few few = (
        omega (arith, members_swept, count_le g.size (λ s. leb k (c s))),
        omega (arith, inside_swept, reached_swept, reaching_parts),
        omega (arith, reached_swept, links_few g g.size (λ s t. leb k (c s) || leb k (c t)) few),
      )

      -- the entry of the level is written
      pub swept_more : let now = get_or list k d in
          Swept g c k (m + now.members) (i + now.inside) (r + now.boundary)
          (set list k (record { members = m + now.members; inside = i + now.inside; boundary = r + now.boundary - (i + now.inside) }))
      swept_more =
          let now = get_or list k d in
          let x : Counts = record { members = m + now.members; inside = i + now.inside; boundary = r + now.boundary - (i + now.inside) } in
          let is : x ≡ counts_from g c k = same_counts x (counts_from g c k) members_swept inside_swept (omega (arith, inside_swept, reached_swept, reaching_parts)) in
          record {
            members = members_swept;
            inside = inside_swept;
            reached = reached_swept;
            entries = holds_written _ (λ j. cond (ltb j k) (noted g c g.size j) (counts_from g c j)) list k x within swept.entries (grind arith) (λ j other. grind arith);
          }

  pub swept_all : (m i r : ℕ) (list : List Counts) → Swept g c 0 m i r list → Holds (counts_from g c) list
  swept_all m i r list swept = holds_same _ _ list swept.entries (λ k l. grind arith)
