-- Facts about whole sites.
use Rattle.std.proofs.Common.{◌≡◌, ℕ, zero, suc, ◌*◌, Bool, refl, ap, ap₂, arith}
use mathlib.Core.Path.{fun_ext}
use Rattle.cores.specs.Counting.{bit, count, total}
use Rattle.cores.specs.Laws.{EachLinkHasTwoEnds}
use Rattle.cores.specs.Site.{SameSizeAndLinksMakeTheSameSite}
use Rattle.cores.proofs.Counts.{bit_false}
use Rattle.cores.proofs.Sums.{total_same, total_add, count_total}

-- one station more adds its links to lower ones twice: at itself, and at each of those
pub two_ends : EachLinkHasTwoEnds
unfolding total count
two_ends g law = twice g.size
  where
    twice : (n : ℕ) → total n (λ s. count n (g.linked s)) ≡ 2 * total n (λ s. count s (g.linked s))
    twice zero = refl
    twice (suc n) =
        let to_n = total_same n (λ s. bit (g.linked s n)) (λ s. bit (g.linked n s)) (λ s h. ap bit (law.both_ways s n)) in
        let split = total_add n (λ s. count n (g.linked s)) (λ s. bit (g.linked s n)) in
        omega (arith, twice n, count_total n (g.linked n), bit_false (g.linked n n) (law.apart n))

pub same_site : SameSizeAndLinksMakeTheSameSite
same_site g h size links = ap₂ (λ (n : ℕ) (l : ℕ → ℕ → Bool). record { size = n; linked = l }) size (fun_ext (λ s. fun_ext (λ t. links s t)))
