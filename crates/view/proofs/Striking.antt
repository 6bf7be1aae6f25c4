-- A view that is lawful stays so where stations are struck.
use Rattle.std.proofs.Common.{◌≡◌, ℕ, zero, suc, Bool, false, ◌&&◌, leb, List, refl, arith}
use Rattle.cores.specs.Counting.{bit, count}
use Rattle.cores.specs.Numbers.{Group, hears, number}
use Rattle.cores.specs.Site.{Site}
use Rattle.cores.proofs.Numbers.{number_off_site, number_heard}
use Rattle.cores.proofs.Sites.{same_site}
use Rattle.view.specs.Laws.{StruckStationsStandAlone, StrikingTwiceStrikesBoth}
use Rattle.view.specs.Rows.{Faithful}
use Rattle.view.specs.Struck.{struck_site, struck_row, shows_link}
use Rattle.view.proofs.Filtered.{kept_rises, kept_times}

pub struck_faithful : (X : Group) (g : Site) (row : ℕ → List ℕ) → Faithful g row → Faithful (struck_site X g) (struck_row X row)
unfolding bit
struck_faithful X g row law = record {
  lawful = record {
    inside = λ s t h. law.lawful.inside s t (grind arith);
    apart = λ s. let none = law.lawful.apart s in grind arith;
    both_ways = λ s t. let both = law.lawful.both_ways s t in grind arith;
  };
  once = λ s t. let below = law.once s t in let kept = kept_times (shows_link X s) t (row s) in grind arith;
  rising = λ s. kept_rises (shows_link X s) (row s) (law.rising s);
}

-- no number is counted where none passes
none_pass : (n : ℕ) (p : ℕ → Bool) → ((t : ℕ) → p t ≡ false) → count n p ≡ 0
unfolding count bit
none_pass zero p none = refl
none_pass (suc n) p none = let below = none_pass n p none in let here = none n in grind arith

pub struck_alone : StruckStationsStandAlone
unfolding hears
struck_alone X g s struck =
    let alone : (t : ℕ) → (struck_site X g).linked s t ≡ false = λ t. grind arith in
    let k = number (struck_site X g) s in
    let off = number_off_site (struck_site X g) s in
    let on = number_heard (struck_site X g) s in
    let heard = none_pass g.size (λ t. (struck_site X g).linked s t && leb k (number (struck_site X g) t)) (λ t. let none = alone t in grind arith) in
    (alone, grind arith)

pub struck_twice : StrikingTwiceStrikesBoth
struck_twice X Y g = same_site _ _ refl (λ s t. grind arith)
