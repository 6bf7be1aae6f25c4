-- What a test keeps of the numbers of a range.
use Rattle.std.proofs.Common.{◌≡◌, ℕ, zero, suc, ◌+◌, ◌-◌, ◌<◌, ◌≤◌, Bool, true, false, cond, ◌&&◌, ltb, nat_le, [], ◌∷◌, ◌++◌, map, filter, refl, ap, ◌∙◌, append-nil, arith}
use Rattle.std.specs.List.{range_with_len}
use Rattle.std.proofs.lemmas.List.Elements.{filter-append}
use Rattle.std.proofs.lemmas.List.FromFn.{length-range_with_len, get_or-range_with_len}
use Rattle.cores.specs.Counting.{bit, times}
use Rattle.cores.specs.Site.{Site, Lawful}
use Rattle.cores.proofs.Entries.{times_none, times_cons}
use Rattle.view.specs.Rows.{Rising, Faithful, each_neighbour}
use Rattle.view.proofs.Filtered.{kept_rises, kept_times}

-- a range in two parts
pub range_parts : (a n m : ℕ) → range_with_len a (n + m) ≡ range_with_len a n ++ range_with_len (a + n) m
range_parts a zero m = ap (λ k. range_with_len a k) (omega arith) ∙ ap (λ k. range_with_len k m) (omega arith)
range_parts a (suc n) m =
    let longer : suc n + m ≡ suc (n + m) = omega arith in
    let behind : a + 1 + n ≡ a + suc n = omega arith in
    ap (range_with_len a) longer ∙ ap (λ xs. a ∷ xs) (range_parts (a + 1) n m) ∙ ap (λ k. a ∷ (range_with_len (a + 1) n ++ range_with_len k m)) behind

pub range_rises : (a n : ℕ) → Rising (range_with_len a n)
range_rises a n i h =
    let size = length-range_with_len a n in
    let here = get_or-range_with_len a n i 0 (omega arith) in
    let next = get_or-range_with_len a n (i + 1) 0 (omega arith) in
    omega arith

pub range_times : (t a n : ℕ) → times t (range_with_len a n) ≡ bit (nat_le a t && ltb t (a + n))
unfolding bit
range_times t a zero = let none = times_none t in grind arith
range_times t a (suc n) = let first = times_cons t a (range_with_len (a + 1) n) in let rest = range_times t (a + 1) n in grind arith

-- none is kept where none passes
pub none_kept : (p : ℕ → Bool) (a n : ℕ) → ((t : ℕ) → a ≤ t → p t ≡ false) → filter p (range_with_len a n) ≡ []
none_kept p a zero none = refl
none_kept p a (suc n) none = rw (none a (omega arith)) (none_kept p (a + 1) n (λ t h. none t (omega arith)))

-- numbers past the last that passes add nothing
pub kept_longer : (p : ℕ → Bool) (n k : ℕ) → n ≤ k → ((t : ℕ) → n ≤ t → p t ≡ false) → filter p (range_with_len 0 k) ≡ filter p (range_with_len 0 n)
kept_longer p n k h none =
    let long : k ≡ n + (k - n) = omega arith in
    let start : 0 + n ≡ n = omega arith in
    ap (λ m. filter p (range_with_len 0 m)) long
    ∙ ap (filter p) (range_parts 0 n (k - n))
    ∙ filter-append p (range_with_len 0 n) (range_with_len (0 + n) (k - n))
    ∙ ap (λ xs. filter p (range_with_len 0 n) ++ xs) (ap (λ m. filter p (range_with_len m (k - n))) start ∙ none_kept p n (k - n) none)
    ∙ append-nil (filter p (range_with_len 0 n))

-- what is kept of a range that begins further up
pub kept_further : (p q : ℕ → Bool) (base a n : ℕ) → ((i : ℕ) → i < a + n → p (base + i) ≡ q i) → filter p (range_with_len (base + a) n) ≡ map (λ i. base + i) (filter q (range_with_len a n))
kept_further p q base a zero same = refl
kept_further p q base a (suc n) same =
    let up : base + a + 1 ≡ base + (a + 1) = omega arith in
    let further : filter p (range_with_len (base + a + 1) n) ≡ map (λ i. base + i) (filter q (range_with_len (a + 1) n)) =
    ap (λ k. filter p (range_with_len k n)) up ∙ kept_further p q base (a + 1) n (λ i h. same i (omega arith)) in
    step (q a) (same a (omega arith)) further
  where
    step : (b : Bool) → p (base + a) ≡ b → filter p (range_with_len (base + a + 1) n) ≡ map (λ i. base + i) (filter q (range_with_len (a + 1) n))
        → cond (p (base + a)) ((base + a) ∷ filter p (range_with_len (base + a + 1) n)) (filter p (range_with_len (base + a + 1) n))
        ≡ map (λ i. base + i) (cond b (a ∷ filter q (range_with_len (a + 1) n)) (filter q (range_with_len (a + 1) n)))
    step true e further = rw e (ap (λ xs. (base + a) ∷ xs) further)
    step false e further = rw e further

-- the neighbours of a station by the links of a lawful site are its row
pub each_faithful : (g : Site) → Lawful g → Faithful g (each_neighbour g)
unfolding bit
each_faithful g law = record {
  lawful = law;
  once = λ s t. let kept = kept_times (g.linked s) t (range_with_len 0 g.size) in let within = range_times t 0 g.size in let inside = law.inside s t in grind arith;
  rising = λ s. kept_rises (g.linked s) (range_with_len 0 g.size) (range_rises 0 g.size);
}
