-- One link more and one link less, as sites.
use Rattle.std.proofs.Common.{◌≡◌, ℕ, false, sym, refl, inl, inr, arith}
use Rattle.std.proofs.lemmas.Bool.{cases_eq, both_ways}
use Rattle.cores.specs.Site.{Site, Lawful}
use Rattle.cores.specs.Numbers.{number}
use Rattle.cores.specs.Links.{ends, joined, parted, OneLinkMoreLiftsByOne, OneLinkLessLowersByOne, OneLinkMoreOrLessIsLawful, OneLinkMoreAndLessUndoEachOther}
use Rattle.cores.proofs.Sites.{same_site}
use Rattle.cores.proofs.Lifting.{OneMore, moving, moves_back, number_lifted, moved_chain}

pub joined_one : (g : Site) (a b : ℕ) → OneMore g (joined g a b) a b
unfolding joined
joined_one g a b = record { same_size = refl; old = λ s t e. grind arith; new = λ s t e. e }

pub parted_one : (g : Site) (a b : ℕ) → OneMore (parted g a b) g a b
unfolding parted
parted_one g a b = record { same_size = refl; old = λ s t e. grind arith; new = λ s t e. grind arith }

pub link_lawful : OneLinkMoreOrLessIsLawful
unfolding joined parted ends
link_lawful g law a b = (
  (λ la lb apart. record {
    inside = λ s t e. let on = law.inside s t in (grind arith, grind arith);
    apart = λ s. let own = law.apart s in grind arith;
    both_ways = λ s t. let same = law.both_ways s t in grind arith;
  }),
  record {
    inside = λ s t e. law.inside s t (grind arith);
    apart = λ s. let own = law.apart s in grind arith;
    both_ways = λ s t. let same = law.both_ways s t in grind arith;
  },
)

pub link_undone : OneLinkMoreAndLessUndoEachOther
unfolding joined parted ends
link_undone g law a b =
    let back = law.both_ways a b in (
      (λ e. same_site (parted (joined g a b) a b) g refl (λ s t. grind arith)),
      (λ e. same_site (joined (parted g a b) a b) g refl (λ s t. grind arith)),
    )

-- a link that does not stand is taken away in vain
parted_none : (g : Site) → Lawful g → (a b : ℕ) → g.linked a b ≡ false → parted g a b ≡ g
unfolding parted ends
parted_none g law a b e = let back = law.both_ways a b in same_site (parted g a b) g refl (λ s t. grind arith)

pub link_more : OneLinkMoreLiftsByOne
link_more g law a b la lb apart none s l =
    let h = joined g a b in
    let one = joined_one g a b in
    elim (cases_eq (number h s) (number g s)) [
      | inl same ↦ inl same
      | inr moved ↦
          let up = number_lifted g h a b one la lb apart s l moved in
          let chain = moved_chain g h a b one la lb apart s l ((moving g h s).1 moved) in
          inr (up.by_one, record { smaller = up.smaller; hangs = rw (parted_none g law a b none) chain })
    ]

-- seen from the site without the link, this is one link more
pub link_less : OneLinkLessLowersByOne
unfolding parted
link_less g law a b link s l =
    let h = parted g a b in
    let one = parted_one g a b in
    let (la, lb) = law.inside a b link in
    let apart : a ≡ b → ⊥ = λ d. both_ways (g.linked b b) (law.apart b) (rw d at link) in
    elim (cases_eq (number g s) (number h s)) [
      | inl same ↦ inl (sym same)
      | inr moved ↦
          let up = number_lifted h g a b one la lb apart s l moved in
          let chain = moved_chain h g a b one la lb apart s l ((moving h g s).1 moved) in
          inr (up.by_one, record { smaller = up.smaller_after; hangs = rw (moves_back g h) chain })
    ]
