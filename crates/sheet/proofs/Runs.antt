-- Loops over the stations and over the order: what was read so far, and what is read of the rest, is the whole.
use Rattle.std.proofs.Common.{◌≡◌, ℕ, suc, ◌+◌, ◌-◌, ◌<◌, ◌≤◌, true, false, eqb, ltb, List, [], ◌∷◌, ◌++◌, map, length, get_or, set, take, drop, Ok, Err, sym, refl, ap, ◌∙◌, append_assoc, append-nil, arith, take-append-drop}
use Rattle.std.proofs.lemmas.List.{take_more_set, take_more, take_all, drop-set-lt, drop-drop, map-append, nil_from_length}
use Rattle.std.proofs.lemmas.Bool.Decides.{nat_tests}
use Rattle.cores.specs.Site.{sized}
use Rattle.cores.specs.Numbers.{Group, without}
use Rattle.sheet.specs.declared.entry.Entry.{Entry}
use Rattle.sheet.specs.Fields.{Reading, ◌>>=◌, word_at, field_at}
use Rattle.sheet.specs.Decoding.{entry_at, entries_at, order_at, plan_from, sheet_at}

-- a reading, behind what was read in front of it
abbrev pub with_front : {A : Type 0} → List A → Reading (List A) → Reading (List A)
with_front front later = later >>= λ r. Ok (front ++ r.0, r.1)

front_more : {A : Type 0} (front : List A) (a : A) (later : Reading (List A)) → with_front front (later >>= λ o. Ok (a ∷ o.0, o.1)) ≡ with_front (front ++ a ∷ []) later
front_more front a (Ok r) = ap (λ xs. Ok (xs, r.1)) (sym (append_assoc front (a ∷ []) r.0))
front_more front a (Err rest) = refl

front_none : {A : Type 0} (later : Reading (List A)) → with_front [] later ≡ later
front_none (Ok r) = refl
front_none (Err rest) = refl

front_end : {A : Type 0} (front : List A) (rest : List ℕ) → with_front front (Ok ([], rest)) ≡ Ok (front, rest)
front_end front rest = ap (λ xs. Ok (xs, rest)) (append-nil front)

-- ---- the stations

pub entries_more : (n s : ℕ) (table : List Entry) (rest behind : List ℕ) (e : Entry) (whole : Reading (List Entry)) → s < n → n ≤ length table → Ok (e, behind) ≡ entry_at n s rest
    → with_front (take s table) (entries_at n (n - s) s rest) ≡ whole → with_front (take (s + 1) (set table s e)) (entries_at n (n - (s + 1)) (s + 1) behind) ≡ whole
unfolding entries_at
entries_more n s table rest behind e whole h long read so_far =
    let left : n - s ≡ suc (n - (s + 1)) = omega arith in
    let in_table : s < length table = omega arith in
    rw (take_more_set table s e in_table, ← front_more (take s table) e (entries_at n (n - (s + 1)) (s + 1) behind)) (rw (left, ← read) at so_far)

pub entries_fault : (n s : ℕ) (front : List Entry) (rest fault : List ℕ) (whole : Reading (List Entry)) → s < n → Err fault ≡ entry_at n s rest
    → with_front front (entries_at n (n - s) s rest) ≡ whole → Err fault ≡ whole
unfolding entries_at
entries_fault n s front rest fault whole h read so_far = let left : n - s ≡ suc (n - (s + 1)) = omega arith in rw (left, ← read) at so_far

pub entries_end : (n s : ℕ) (table : List Entry) (rest : List ℕ) (whole : Reading (List Entry)) → n ≡ s → with_front (take s table) (entries_at n (n - s) s rest) ≡ whole → Ok (take n table, rest) ≡ whole
unfolding entries_at
entries_end n s table rest whole all so_far =
    let left : s - s ≡ 0 = omega arith in
    rw all (sym (front_end (take s table) rest) ∙ (rw (all, left) at so_far))

-- ---- the order

pub order_start : (n : ℕ) (X Y : Group) (bytes : List ℕ) → X ≡ Y → with_front [] (order_at X (n - 0) bytes) ≡ order_at Y n bytes
order_start n X Y bytes same = let all : n - 0 ≡ n = omega arith in rw (same, all) (front_none (order_at Y n bytes))

pub order_more : (n i : ℕ) (X : Group) (table : List ℕ) (rest behind : List ℕ) (v : ℕ) (whole : Reading (List ℕ)) → i < n → n ≤ length table → Ok (v, behind) ≡ word_at rest → X v ≡ true
    → with_front (take i table) (order_at X (n - i) rest) ≡ whole → with_front (take (i + 1) (set table i v)) (order_at (without v X) (n - (i + 1)) behind) ≡ whole
unfolding order_at field_at
order_more n i X table rest behind v whole h long read passes so_far =
    let left : n - i ≡ suc (n - (i + 1)) = omega arith in
    let in_table : i < length table = omega arith in
    rw (take_more_set table i v in_table, ← front_more (take i table) v (order_at (without v X) (n - (i + 1)) behind)) (rw (left, ← read, passes) at so_far)

pub order_cut : (n i : ℕ) (X : Group) (front : List ℕ) (rest fault : List ℕ) (whole : Reading (List ℕ)) → i < n → Err fault ≡ word_at rest
    → with_front front (order_at X (n - i) rest) ≡ whole → Err fault ≡ whole
unfolding order_at field_at
order_cut n i X front rest fault whole h read so_far = let left : n - i ≡ suc (n - (i + 1)) = omega arith in rw (left, ← read) at so_far

pub order_fault : (n i : ℕ) (X : Group) (front : List ℕ) (rest behind : List ℕ) (v : ℕ) (whole : Reading (List ℕ)) → i < n → Ok (v, behind) ≡ word_at rest → X v ≡ false
    → with_front front (order_at X (n - i) rest) ≡ whole → Err rest ≡ whole
unfolding order_at field_at
order_fault n i X front rest behind v whole h read fails so_far = let left : n - i ≡ suc (n - (i + 1)) = omega arith in rw (left, ← read, fails) at so_far

pub order_end : (n i : ℕ) (X : Group) (table : List ℕ) (rest : List ℕ) (whole : Reading (List ℕ)) → n ≡ i → with_front (take i table) (order_at X (n - i) rest) ≡ whole → Ok (take n table, rest) ≡ whole
unfolding order_at
order_end n i X table rest whole all so_far =
    let left : i - i ≡ 0 = omega arith in
    rw all (sym (front_end (take i table) rest) ∙ (rw (all, left) at so_far))

-- ---- a table that is filled from the front

pub record Filled {A B : Type 0} (part : A → B) (i : ℕ) (items : List A) (old table : List B) : Type 0 where
  pub front : take i table ≡ map part (take i items)
  pub behind : drop i table ≡ drop i old

pub Filled-none : {A B : Type 0} (part : A → B) (items : List A) (table : List B) → Filled part 0 items table table
Filled-none part items table = record { front = refl; behind = refl }

pub Filled-more : {A B : Type 0} (part : A → B) (i : ℕ) (items : List A) (old table : List B) (x : A) (v : B) → i < length items → i < length table → x ≡ get_or items i x → part x ≡ v
    → Filled part i items old table → Filled part (i + 1) items old (set table i v)
Filled-more part i items old table x v h l at is f = record {
  front = take_more_set table i v l ∙ rw (f.front, take_more items i x h, ← at, map-append, is) refl;
  behind = drop-set-lt (i + 1) table i v (omega arith) ∙ sym (drop-drop 1 i table) ∙ ap (drop 1) f.behind ∙ drop-drop 1 i old;
}

pub Filled-all : {A B : Type 0} (part : A → B) (n : ℕ) (items : List A) (old table : List B) → length items ≡ n → Filled part n items old table → table ≡ map part items ++ drop n old
Filled-all part n items old table long f = sym (take-append-drop n table) ∙ rw (f.front, f.behind, take_all n items (omega arith)) refl

-- ---- a whole sheet

pub sheet_whole : (bytes behind_count behind_entries behind_order : List ℕ) (n : ℕ) (es : List Entry) (ts : List ℕ)
    → Ok (n, behind_count) ≡ field_at sized bytes → Ok (es, behind_entries) ≡ entries_at n n 0 behind_count → Ok (ts, behind_order) ≡ order_at (λ t. ltb t n) n behind_entries
    → true ≡ eqb (length behind_order) 0 → (entries : List Entry) (order : List ℕ) → take n entries ≡ es → take n order ≡ ts → Ok (plan_from (take n entries) (take n order), []) ≡ sheet_at bytes
unfolding sheet_at
sheet_whole bytes behind_count behind_entries behind_order n es ts count_read es_read ts_read ended entries order all_entries all_order =
    let none : behind_order ≡ [] = nil_from_length behind_order (grind (arith, nat_tests)) in
    rw (← count_read, ← es_read, ← ts_read, ← ended, all_entries, all_order, none) refl
