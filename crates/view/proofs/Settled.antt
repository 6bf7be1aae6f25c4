-- What a level writes into the tables of homes and ups, station by station.
use Rattle.std.proofs.Common.{◌≡◌, ℕ, ◌+◌, ◌<◌, ◌≤◌, true, false, ◌&&◌, eqb, List, length, get_or, slice_index, set, sym, ap, ◌∙◌, arith}
use Rattle.std.specs.Option.{unwrap_or}
use Rattle.std.proofs.lemmas.Bool.{eq-eqb, ne_eqb, cond-true, cond-false}
use Rattle.cores.specs.Site.{Site, Lawful}
use Rattle.cores.specs.ByNumbers.{connected_by, core_home_by, home_by}
use Rattle.cores.proofs.Searches.{lowest_same}
use Rattle.view.specs.Ups.{up_in_table}
use Rattle.view.specs.Components.{together, AreComponents, AreSettled, links_at, lowest_with}
use Rattle.view.specs.Settling.{rewritten, home_at_level, waits, up_at_level}
use Rattle.view.proofs.Levels.{component_connected}
use Rattle.view.proofs.Written.{rewritten_behind, rewritten_more, rewritten_kept}

-- the components of a level by a table of numbers, and a station s of the site
module _ (g : Site) (law : Lawful g) (numbers : List ℕ) (right : length numbers ≡ g.size) (k : ℕ) (labels : List ℕ) (settled : AreSettled g.size labels)
    (p : AreComponents g.size (links_at g (slice_index numbers) k) labels) (s : ℕ) (on_site : s < g.size) where
  lowest_home : k ≤ get_or numbers s 0 → lowest_with numbers labels k s ≡ core_home_by g (slice_index numbers) k s
  unfolding core_home_by
  lowest_home o =
      let c : ℕ → ℕ = slice_index numbers in
      rw right (lowest_same g.size (λ t. eqb (c t) k && together labels s t) (λ t. eqb (c t) k && connected_by g c k s t)
      (λ t l. let same = component_connected g c law k labels settled p s t on_site l o in grind arith))

  own_home : get_or numbers s 0 ≡ k → unwrap_or (lowest_with numbers labels k s) s ≡ home_by g (slice_index numbers) s
  unfolding home_by
  own_home e = ap (λ o. unwrap_or o s) (lowest_home (omega arith) ∙ ap (λ j. core_home_by g (slice_index numbers) j s) (sym e))

  pub home_set : (old homes : List ℕ) (x : ℕ) → s < length old → homes ≡ rewritten s (home_at_level g (slice_index numbers) k) old
      → get_or numbers s 0 ≡ k → x ≡ unwrap_or (lowest_with numbers labels k s) s → set homes s x ≡ rewritten (s + 1) (home_at_level g (slice_index numbers) k) old
  home_set old homes x h so_far e is = rw so_far (rewritten_more s (home_at_level g (slice_index numbers) k) old x h
      (is ∙ own_home e ∙ sym (cond-true (eqb (get_or numbers s 0) k) (home_by g (slice_index numbers) s) (get_or old s 0) (eq-eqb _ _ e))))

  pub up_set : (homes old ups : List ℕ) (x : ℕ) → s < length old → ups ≡ rewritten s (up_at_level g (slice_index numbers) k homes) old
      → waits (slice_index numbers) k homes s (get_or ups s 0) ≡ true → x ≡ up_in_table (lowest_with numbers labels k s)
      → set ups s x ≡ rewritten (s + 1) (up_at_level g (slice_index numbers) k homes) old
  up_set homes old ups x h so_far e is =
      let above : k < get_or numbers s 0 = grind arith in
      let c : ℕ → ℕ = slice_index numbers in
      let before : get_or ups s 0 ≡ get_or old s 0 = rw so_far (rewritten_behind s (up_at_level g c k homes) old s (omega arith)) in
      rw so_far (rewritten_more s (up_at_level g c k homes) old x h
      (is ∙ ap up_in_table (lowest_home (omega arith)) ∙ sym (cond-true (waits c k homes s (get_or old s 0)) (up_in_table (core_home_by g c k s)) (get_or old s 0) (rw before at e))))

-- entries that a level leaves as they are
module _ (g : Site) (c : ℕ → ℕ) (k s : ℕ) where
  pub home_left : (old homes : List ℕ) → s < length old → homes ≡ rewritten s (home_at_level g c k) old → (c s ≡ k → ⊥) → homes ≡ rewritten (s + 1) (home_at_level g c k) old
  home_left old homes h so_far d = so_far ∙ rewritten_kept s (home_at_level g c k) old h (cond-false (eqb (c s) k) (home_by g c s) (get_or old s 0) (ne_eqb _ _ d))

  pub up_left : (homes old ups : List ℕ) → s < length old → ups ≡ rewritten s (up_at_level g c k homes) old → waits c k homes s (get_or ups s 0) ≡ false
      → ups ≡ rewritten (s + 1) (up_at_level g c k homes) old
  up_left homes old ups h so_far e =
      let before : get_or ups s 0 ≡ get_or old s 0 = rw so_far (rewritten_behind s (up_at_level g c k homes) old s (omega arith)) in
      so_far ∙ rewritten_kept s (up_at_level g c k homes) old h (cond-false (waits c k homes s (get_or old s 0)) (up_in_table (core_home_by g c k s)) (get_or old s 0) (rw before at e))
