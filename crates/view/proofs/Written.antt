-- Tables whose first entries are rewritten.
use Rattle.std.proofs.Common.{◌≡◌, ℕ, ◌+◌, ◌<◌, ◌≤◌, List, map, length, get_or, set, drop, sym, refl, ap, ◌∙◌, inl, inr, arith}
use Rattle.std.specs.List.{range_with_len}
use Rattle.std.proofs.lemmas.List.{length-drop, length-append, length-set, get_or-set_same, get_or-set_other, set-get_or}
use Rattle.std.proofs.lemmas.List.FromFn.{length-map-range_with_len, get_or-map-range_with_len}
use Rattle.std.proofs.lemmas.Grind.{common_steps, same_number_lists}
use Rattle.std.proofs.lemmas.Bool.{cases_lt, cases_eq}
use Rattle.view.specs.Settling.{rewritten}

-- a change of entries
abbrev pub Change : Type 0
Change = ℕ → ℕ → ℕ

module _ (n : ℕ) (f : Change) (old : List ℕ) where
  pub rewritten_length : n ≤ length old → length (rewritten n f old) ≡ length old
  unfolding rewritten
  rewritten_length h =
      let entry : ℕ → ℕ = λ s. f s (get_or old s 0) in
      omega (arith, length-append (map entry (range_with_len 0 n)) (drop n old), length-map-range_with_len entry 0 n, length-drop n old)

  pub rewritten_at : (s : ℕ) → s < n → get_or (rewritten n f old) s 0 ≡ f s (get_or old s 0)
  unfolding rewritten
  rewritten_at s h =
      let entry : ℕ → ℕ = λ s. f s (get_or old s 0) in
      let long = length-map-range_with_len entry 0 n in
      let at = get_or-map-range_with_len entry 0 n s s 0 h (omega arith) in
      grind (arith, common_steps)

  pub rewritten_behind : (s : ℕ) → n ≤ s → get_or (rewritten n f old) s 0 ≡ get_or old s 0
  unfolding rewritten
  rewritten_behind s h =
      let entry : ℕ → ℕ = λ s. f s (get_or old s 0) in
      let long = length-map-range_with_len entry 0 n in
      grind (arith, common_steps)

-- a table that has the entries of a rewritten one is that one
pub rewritten_is : (n : ℕ) (f : Change) (old new : List ℕ) → n ≤ length old → length new ≡ length old → ((s : ℕ) → s < n → get_or new s 0 ≡ f s (get_or old s 0))
    → ((s : ℕ) → n ≤ s → get_or new s 0 ≡ get_or old s 0) → new ≡ rewritten n f old
rewritten_is n f old new h long front behind = same_number_lists new (rewritten n f old) (long ∙ sym (rewritten_length n f old h))
    (λ s l. elim (cases_lt s n) [
      | inl low ↦ front s low ∙ sym (rewritten_at n f old s low)
      | inr high ↦ behind s high ∙ sym (rewritten_behind n f old s high)
    ])

pub rewritten_none : (f : Change) (old : List ℕ) → rewritten 0 f old ≡ old
unfolding rewritten
rewritten_none f old = refl

-- one entry more
pub rewritten_more : (n : ℕ) (f : Change) (old : List ℕ) (x : ℕ) → n < length old → x ≡ f n (get_or old n 0) → set (rewritten n f old) n x ≡ rewritten (n + 1) f old
rewritten_more n f old x h e =
    let long = rewritten_length n f old (omega arith) in
    rewritten_is (n + 1) f old (set (rewritten n f old) n x) (omega arith) (length-set (rewritten n f old) n x ∙ long)
    (λ s l. elim (cases_eq s n) [
      | inl d ↦ rw d (get_or-set_same (rewritten n f old) n x 0 (omega arith) ∙ e)
      | inr d ↦ get_or-set_other (rewritten n f old) n s x 0 d ∙ rewritten_at n f old s (omega arith)
    ])
    (λ s l. get_or-set_other (rewritten n f old) n s x 0 (λ d. omega arith) ∙ rewritten_behind n f old s (omega arith))

pub rewritten_kept : (n : ℕ) (f : Change) (old : List ℕ) → n < length old → f n (get_or old n 0) ≡ get_or old n 0 → rewritten n f old ≡ rewritten (n + 1) f old
rewritten_kept n f old h e =
    sym (set-get_or (rewritten n f old) n 0) ∙ rewritten_more n f old (get_or (rewritten n f old) n 0) h (rewritten_behind n f old n (omega arith) ∙ sym e)

-- one change after the other
pub rewritten_again : (n : ℕ) (f g h : Change) (old : List ℕ) → n ≤ length old → ((s : ℕ) → s < n → g s (f s (get_or old s 0)) ≡ h s (get_or old s 0))
    → rewritten n g (rewritten n f old) ≡ rewritten n h old
rewritten_again n f g h old l same =
    let long = rewritten_length n f old l in
    rewritten_is n h old (rewritten n g (rewritten n f old)) l (rewritten_length n g (rewritten n f old) (omega arith) ∙ long)
    (λ s m. rewritten_at n g (rewritten n f old) s m ∙ ap (g s) (rewritten_at n f old s m) ∙ same s m)
    (λ s m. rewritten_behind n g (rewritten n f old) s m ∙ rewritten_behind n f old s m)

-- no change
pub rewritten_unchanged : (n : ℕ) (f : Change) (old : List ℕ) → n ≤ length old → ((s : ℕ) → s < n → f s (get_or old s 0) ≡ get_or old s 0) → old ≡ rewritten n f old
rewritten_unchanged n f old l same = rewritten_is n f old old l refl (λ s m. sym (same s m)) (λ s m. refl)
