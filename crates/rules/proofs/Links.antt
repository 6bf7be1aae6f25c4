-- Links that pass a test of their ends, counted, and the counts of a group.
use Rattle.std.proofs.Common.{◌≡◌, ℕ, zero, suc, ◌+◌, ◌*◌, ◌<◌, ◌≤◌, Bool, false, ◌&&◌, refl, ap, ap₂, ◌∙◌, add-one, arith}
use Rattle.cores.specs.Counting.{bit, count, total}
use Rattle.cores.specs.Site.{Site, Lawful}
use Rattle.cores.specs.Numbers.{Group}
use Rattle.cores.proofs.Counts.{count_le, bit_false}
use Rattle.cores.proofs.Sums.{total_same, total_add, total_le, total_zero, count_total}
use Rattle.rules.specs.declared.counts.Counts.{Counts}
use Rattle.rules.specs.Levels.{links_below, counts_of}

-- what passes r, passes p or q, and not both
pub count_split : (n : ℕ) (r p q : Group) → ((t : ℕ) → t < n → bit (r t) ≡ bit (p t) + bit (q t)) → count n r ≡ count n p + count n q
unfolding count
count_split zero r p q parts = refl
count_split (suc n) r p q parts = omega (arith, count_split n r p q (λ t h. parts t (omega arith)), parts n (omega arith))

pub count_same_tests : (n : ℕ) (p q : Group) → ((t : ℕ) → t < n → p t ≡ q t) → count n p ≡ count n q
unfolding count bit
count_same_tests zero p q same = refl
count_same_tests (suc n) p q same = let below = count_same_tests n p q (λ t h. same t (omega arith)) in let here = same n (omega arith) in grind arith

pub count_nobody : (n : ℕ) (p : Group) → ((t : ℕ) → t < n → p t ≡ false) → count n p ≡ 0
unfolding count
count_nobody zero p none = refl
count_nobody (suc n) p none = omega (arith, count_nobody n p (λ t h. none t (omega arith)), bit_false (p n) (none n (omega arith)))

-- one station more
pub links_more : (g : Site) (n : ℕ) (p : ℕ → ℕ → Bool) → links_below g (n + 1) p ≡ links_below g n p + count n (λ t. g.linked n t && p n t)
unfolding links_below total
links_more g n p = rw add-one

pub links_none : (g : Site) (p : ℕ → ℕ → Bool) → links_below g 0 p ≡ 0
unfolding links_below total
links_none g p = refl

pub links_few : (g : Site) (n : ℕ) (p : ℕ → ℕ → Bool) → n ≤ 512 → links_below g n p ≤ n * 512
unfolding links_below
links_few g n p few = total_le n 512 (λ s. count s (λ t. g.linked s t && p s t)) (λ s h. omega (arith, count_le s (λ t. g.linked s t && p s t)))

pub links_split : (g : Site) (n : ℕ) (r p q : ℕ → ℕ → Bool) → ((s t : ℕ) → s < n → t < n → bit (r s t) ≡ bit (p s t) + bit (q s t))
    → links_below g n r ≡ links_below g n p + links_below g n q
unfolding links_below bit
links_split g n r p q parts =
    let row : (ℕ → ℕ → Bool) → ℕ → ℕ = λ p s. count s (λ t. g.linked s t && p s t) in
    omega (
      arith,
      total_same n (row r) (λ s. row p s + row q s) (λ s h. count_split s (λ t. g.linked s t && r s t) (λ t. g.linked s t && p s t) (λ t. g.linked s t && q s t) (λ t l. let here = parts s t h (omega arith) in grind arith)),
      total_add n (row p) (row q),
    )

pub links_same : (g : Site) (n : ℕ) (p q : ℕ → ℕ → Bool) → ((s t : ℕ) → s < n → t < n → p s t ≡ q s t) → links_below g n p ≡ links_below g n q
unfolding links_below
links_same g n p q same =
    total_same n _ _ (λ s h. count_same_tests s (λ t. g.linked s t && p s t) (λ t. g.linked s t && q s t) (λ t l. let here = same s t h (omega arith) in grind arith))

pub links_nowhere : (g : Site) (n : ℕ) (p : ℕ → ℕ → Bool) → ((s t : ℕ) → s < n → t < n → p s t ≡ false) → links_below g n p ≡ 0
unfolding links_below
links_nowhere g n p none =
    let row : ℕ → ℕ = λ s. count s (λ t. g.linked s t && p s t) in
    omega (arith, total_same n row (λ s. 0) (λ s h. count_nobody s (λ t. g.linked s t && p s t) (λ t l. let here = none s t h (omega arith) in grind arith)), total_zero n)

-- the ends of all links, one after the other: a link passes from its higher end, and from its lower end
pub links_both_ways : (g : Site) → Lawful g → (n : ℕ) (p : ℕ → ℕ → Bool)
    → total n (λ s. count n (λ t. g.linked s t && p s t)) ≡ links_below g n p + links_below g n (λ s t. p t s)
unfolding links_below total count bit
links_both_ways g law zero p = refl
links_both_ways g law (suc n) p =
    let to_n = total_same n (λ s. bit (g.linked s n && p s n)) (λ s. bit (g.linked n s && p s n)) (λ s h. let both = law.both_ways s n in grind arith) in
    let split = total_add n (λ s. count n (λ t. g.linked s t && p s t)) (λ s. bit (g.linked s n && p s n)) in
    let apart = law.apart n in
    let alone : bit (g.linked n n && p n n) ≡ 0 = grind arith in
    omega (arith, links_both_ways g law n p, count_total n (λ s. g.linked n s && p s n))

-- no stations and no links
abbrev pub no_counts : Counts
no_counts = record { members = 0; inside = 0; boundary = 0 }

-- counts with the same parts are the same
pub same_counts : (x y : Counts) → x.members ≡ y.members → x.inside ≡ y.inside → x.boundary ≡ y.boundary → x ≡ y
same_counts x y members inside boundary =
    ap (λ m. three m x.inside x.boundary) members ∙ ap₂ (three y.members) inside boundary
  where
    three : ℕ → ℕ → ℕ → Counts
    three m i b = record { members = m; inside = i; boundary = b }

-- groups of the same stations have the same counts
pub counts_same : (g : Site) (X Y : Group) → ((s : ℕ) → s < g.size → X s ≡ Y s) → counts_of g X ≡ counts_of g Y
counts_same g X Y same =
    same_counts (counts_of g X) (counts_of g Y)
    (count_same_tests g.size X Y same)
    (links_same g g.size _ _ (λ s t h l. let here = same s h in let there = same t l in grind arith))
    (links_same g g.size _ _ (λ s t h l. let here = same s h in let there = same t l in grind arith))
