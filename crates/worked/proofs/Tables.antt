-- A plan from a table of its numbers: once no station is at fault for them, homes and ups are worked out by the table alone.
use Rattle.std.proofs.Common.{◌≡◌, ℕ, zero, suc, ◌<◌, Bool, true, false, cond, not, ◌&&◌, eqb, ltb, leb, List, [], ◌∷◌, length, get_or, None, Option, unwrap_or, sym, refl, ap, ◌∙◌, ap₂, inl, inr, arith}
use mathlib.Core.Path.{fun_ext}
use Rattle.std.proofs.lemmas.List.FromFn.{fill_by_all}
use Rattle.std.proofs.lemmas.List.{get_or_past}
use Rattle.std.proofs.lemmas.Bool.{cases_lt, not-true}
use Rattle.cores.specs.Counting.{all, or_else, lowest}
use Rattle.cores.specs.Site.{Site, Lawful, laid_out}
use Rattle.cores.specs.Numbers.{Group, in_core, number}
use Rattle.cores.specs.Forest.{reaches, connected, core_home, home, home_below, up}
use Rattle.cores.specs.Drawing.{drawn}
use Rattle.cores.specs.Orders.{at_fault}
use Rattle.cores.specs.Links.{joined, moves}
use Rattle.cores.proofs.Searches.{by_cases, all_at}
use Rattle.cores.proofs.Numbers.{core_on_site, core_number, number_off_site}
use Rattle.cores.proofs.Drawing.{drawn_is}
use Rattle.cores.proofs.Orders.{faultless_means}
use Rattle.cores.proofs.Links.{link_lawful}
use Rattle.worked.specs.Sites.{joined_all, each, PlanOf}

-- links between different stations of the site
unfoldable pub fair : ℕ → List (ℕ × ℕ) → Bool
fair n [] = true
fair n (l ∷ ls) = ltb l.0 n && ltb l.1 n && not (eqb l.0 l.1) && fair n ls

pub all_lawful : (g : Site) → Lawful g → (ls : List (ℕ × ℕ)) → fair g.size ls ≡ true → Lawful (joined_all g ls)
unfolding fair joined_all joined
all_lawful g law [] e = law
all_lawful g law (l ∷ ls) e = all_lawful (joined g l.0 l.1) ((link_lawful g law l.0 l.1).0 (grind arith) (grind arith) (λ d. grind arith)) ls (grind arith)

pub laid_out_lawful : (n : ℕ) → Lawful (laid_out n)
laid_out_lawful n = record { inside = λ s t e. absurd (grind arith); apart = λ s. refl; both_ways = λ s t. refl }

-- homes and ups by numbers c
module _ (g : Site) (c : ℕ → ℕ) where
  unfoldable pub core_by : ℕ → Group
  core_by k s = ltb s g.size && leb k (c s)

  unfoldable pub core_home_by : ℕ → ℕ → Option ℕ
  core_home_by k s = lowest g.size (λ t. eqb (c t) k && reaches g (core_by k) g.size s t)

  unfoldable pub home_by : ℕ → ℕ
  home_by s = unwrap_or (core_home_by (c s) s) s

  unfoldable pub below_by : ℕ → ℕ → Option ℕ
  below_by zero s = None
  below_by (suc j) s = or_else (core_home_by j s) (below_by j s)

  unfoldable pub up_by : ℕ → Option ℕ
  up_by s = cond (eqb (home_by s) s) (below_by (c s) s) None

  -- they are those of the definitions, where c is the number
  module _ (same : number g ≡ c) where
    pub core_same : (k s : ℕ) → in_core g k s ≡ core_by k s
    unfolding core_by
    core_same k s = by_cases (in_core g k s)
        (λ e. let on = core_on_site g k s e in let by = core_number g k s on in let at = ap (λ f. f s) same in grind arith)
        (λ e. by_cases (ltb s g.size) (λ l. let by = core_number g k s (grind arith) in let at = ap (λ f. f s) same in grind arith) (λ l. grind arith))

    core_home_same : (k s : ℕ) → core_home g k s ≡ core_home_by k s
    unfolding core_home core_home_by connected
    core_home_same k s = ap₂ (λ (f : ℕ → ℕ) (X : Group). lowest g.size (λ t. eqb (f t) k && reaches g X g.size s t)) same (fun_ext (core_same k))

    home_same : (s : ℕ) → home g s ≡ home_by s
    unfolding home home_by
    home_same s = ap (λ o. unwrap_or o s) (core_home_same (number g s) s ∙ ap (λ f. core_home_by (f s) s) same)

    below_same : (k s : ℕ) → home_below g k s ≡ below_by k s
    unfolding home_below below_by
    below_same zero s = refl
    below_same (suc j) s = ap₂ or_else (core_home_same j s) (below_same j s)

    up_same : (s : ℕ) → up g s ≡ up_by s
    unfolding up up_by
    up_same s =
        let below = below_same (number g s) s ∙ ap (λ f. below_by (f s) s) same in
        ap₂ (λ h o. cond (eqb h s) o None) (home_same s) below

-- the numbers that a table claims
abbrev pub claimed : List ℕ → ℕ → ℕ
claimed numbers s = get_or numbers s 0

module _ (g : Site) (numbers order : List ℕ) (long : length numbers ≡ g.size) (ordered : drawn g ≡ order) where
  -- numbers for which no station is at fault, over the drawn order, are the numbers
  pub certified : Lawful g → all g.size (λ s. not (at_fault g (claimed numbers) order s)) ≡ true → number g ≡ claimed numbers
  certified law e = fun_ext (λ s. elim (cases_lt s g.size) [
    | inl on ↦ sym (((faultless_means g law (claimed numbers) order (rw (← ordered) (drawn_is g).each_once)).0 faultless).0 s on)
    | inr off ↦ number_off_site g s off ∙ sym (get_or_past numbers s 0 (omega arith))
  ])
    where
      faultless : (s : ℕ) → s < g.size → at_fault g (claimed numbers) order s ≡ false
      faultless s h = not-true (at_fault g (claimed numbers) order s) (all_at g.size (λ s. not (at_fault g (claimed numbers) order s)) s e h)

  pub planned : number g ≡ claimed numbers → (homes : List ℕ) (ups : List (Option ℕ))
      → each g (home_by g (claimed numbers)) ≡ homes → each g (up_by g (claimed numbers)) ≡ ups → PlanOf g numbers homes ups order
  planned same homes ups housed raised = record {
    numbered = ap (λ f. each g f) same ∙ sym (fill_by_all (claimed numbers) numbers g.size 0 long (λ k h. refl));
    housed = ap (λ f. each g f) (fun_ext (home_same g (claimed numbers) same)) ∙ housed;
    raised = ap (λ f. each g f) (fun_ext (up_same g (claimed numbers) same)) ∙ raised;
    ordered = ordered;
  }

-- who moves between two sites whose numbers are known
pub moved_by : (old new : Site) (c d : ℕ → ℕ) → number old ≡ c → number new ≡ d → each old (moves old new) ≡ each old (λ s. not (eqb (c s) (d s)))
unfolding moves
moved_by old new c d before after = ap₂ (λ (f h : ℕ → ℕ). each old (λ s. not (eqb (f s) (h s)))) before after
