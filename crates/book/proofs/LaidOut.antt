-- A table of stations without links is current.
use Rattle.std.proofs.Common.{◌≡◌, ℕ, zero, suc, ◌≤◌, List, Ok, [], count_by, length, get_or, replicate, refl, sym, ap, ◌∙◌, subst, inl, inr, arith}
use Rattle.std.proofs.lemmas.List.{length-replicate}
use Rattle.std.proofs.lemmas.Bool.{false≢true, cases_lt}
use Rattle.cores.specs.Counting.{bit, times, holds}
use Rattle.cores.specs.Site.{laid_out}
use Rattle.cores.specs.Numbers.{hears, number}
use Rattle.cores.proofs.Entries.{times_none, holds_none}
use Rattle.cores.proofs.Sites.{same_site}
use Rattle.cores.proofs.Numbers.{number_group, number_off_site}
use Rattle.view.specs.Answers.{counted}
use Rattle.view.specs.Rows.{Faithful}
use Rattle.view.proofs.Admitted.{sized_within}
use Rattle.book.specs.declared.table.Table.{Table}
use Rattle.book.specs.Tables.{links, numbers, places, row, unlinked, site_of, Sound}
use Rattle.book.specs.Current.{Current, stands_later}
use Rattle.book.proofs.Later.{none_counted}

-- the same value at each place, and past the end
all_same : {A : Type 0} (n s : ℕ) (x : A) → get_or (replicate n x) s x ≡ x
all_same zero s x = refl
all_same (suc n) zero x = refl
all_same (suc n) (suc s) x = all_same n s x

module _ (n : ℕ) where
  no_row : (s : ℕ) → row (unlinked n) s ≡ []
  no_row s = all_same 512 s []

  pub unlinked_site : site_of (unlinked n) ≡ laid_out n
  unlinked_site = same_site (site_of (unlinked n)) (laid_out n) refl (λ s t. ap (λ xs. holds xs t) (no_row s) ∙ holds_none t)

  -- nobody hears anybody
  no_number : (s : ℕ) → number (laid_out n) s ≡ 0
  unfolding hears
  no_number s = elim (cases_lt s n) [
    | inl low ↦ let (X, member, steady) = number_group (laid_out n) s low in omega (arith, steady.heard s member, none_counted n)
    | inr high ↦ number_off_site (laid_out n) s high
  ]

  no_links_faithful : Faithful (laid_out n) (row (unlinked n))
  unfolding bit
  no_links_faithful = record {
    lawful = record { inside = λ s t e. absurd (false≢true e); apart = λ s. refl; both_ways = λ s t. refl };
    once = λ s t. ap (times t) (no_row s) ∙ times_none t;
    rising = λ s i h. let none = ap length (no_row s) in absurd (omega arith);
  }

  unlinked_sound : n ≤ 512 → Sound (unlinked n)
  unlinked_sound h = record {
    few = h;
    records = length-replicate {A = List ℕ} 512 [];
    room = λ s. let none = ap length (no_row s) in omega arith;
    faithful = subst (λ g. Faithful g (row (unlinked n))) (sym unlinked_site) no_links_faithful;
  }

  pub laid_out_current : (table : Table) → n ≤ 512 → links table ≡ unlinked n → numbers table ≡ replicate 512 0 → Current table
  laid_out_current table h same zeros = record {
    sound = subst Sound (sym same) (unlinked_sound h);
    right = λ s. ap (λ xs. get_or xs s 0) zeros ∙ all_same 512 s 0 ∙ sym (ap (λ l. number (site_of l) s) same ∙ ap (λ g. number g s) unlinked_site ∙ no_number s);
    bears_out = λ s. let nobody = ap (count_by (stands_later (numbers table) (places table) s)) (ap (λ l. row l s) same ∙ no_row s) in omega arith;
  }

  pub laid_out_site : (table : Table) → links table ≡ unlinked n → site_of (links table) ≡ laid_out n
  laid_out_site table same = ap site_of same ∙ unlinked_site

-- a count that is taken
pub counted_few : (n : ℕ) (u : Unit {0}) → counted n ≡ Ok u → n ≤ 512
counted_few n u e = (sized_within n (grind arith)).1
