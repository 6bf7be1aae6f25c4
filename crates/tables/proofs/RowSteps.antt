-- A row, word by word, and the rows of a text, line by line.
use Rattle.std.proofs.Common.{◌≡◌, ℕ, ◌+◌, List, [], ◌∷◌, ◌++◌, length, IsErrAnd, Ok, Err, Result, refl, ap, ◌∙◌, append_assoc, append-nil, length-append}
use Rattle.std.proofs.lemmas.Result.{err_from_is_err_and}
use Rattle.text.specs.Texts.{Part, tokens_of}
use Rattle.view.specs.Listing.{Lists}
use Rattle.tables.specs.declared.fault.Unread.{Unread}
use Rattle.tables.specs.declared.fault.Unread.TheVariants.{TooLong, NotAStation, NoMemory}
use Rattle.tables.specs.Listings.{Fault, too_long, not_a_station, before, station_of, row_of, rows_of, counts}
use Rattle.tables.specs.Answered.{giving, Meant, with_rows}

-- A fault goes through what leaves faults as they are.
fault_stays : {X Y : Type 0} (m : Result X Fault) (k : Result X Fault → Result Y Fault) → ((f : Fault) → k (Err f) ≡ Err f) → (e : Unread) → Meant m (Err e) → Meant (k m) (Err e)
fault_stays m k same TooLong h = ap k h ∙ same too_long
fault_stays m k same (NotAStation line byte) h = ap k h ∙ same (not_a_station line byte)
fault_stays m k same NoMemory h = tt

-- What is meant, said in other words.
pub meant_by : {X : Type 0} {m m' : Result X Fault} (r : Result X Unread) → m' ≡ m → Meant m r → Meant m' r
meant_by r e h = rw e h

-- What the exit of a `?` answers.
pub passed_on : {X Y : Type 0} (m : Result Y Fault) (f : X → Y) (r : Result X Unread) (e : Unread) → IsErrAnd r (λ y. y ≡ e) → Meant m (Err e) → Meant m (giving f r)
passed_on m f r e h said = let p = err_from_is_err_and r h in rw (p.1, p.2) said

-- A table whose next row goes on behind its ends so far.
abbrev pub row_goes_on : Lists → Result (List ℕ) Fault → Result Lists Fault
row_goes_on t (Ok r) = Ok (record { starts = t.starts ++ length (t.ends ++ r) ∷ []; ends = t.ends ++ r })
row_goes_on t (Err e) = Err e

module _ (t : Lists) where
  push_step : (s : ℕ) (r : Result (List ℕ) Fault) → row_goes_on t (before (Ok s) r) ≡ row_goes_on (record { starts = t.starts; ends = t.ends ++ s ∷ [] }) r
  push_step s (Ok xs) = simp append_assoc
  push_step s (Err e) = refl

  -- One station more.
  pub row_on : (n : ℕ) (w : Part) (ws : List Part) (s : ℕ) → Meant (station_of n w) (Ok s)
      → row_goes_on t (row_of n (w ∷ ws)) ≡ row_goes_on (record { starts = t.starts; ends = t.ends ++ s ∷ [] }) (row_of n ws)
  unfolding row_of
  row_on n w ws s e = ap (λ r. row_goes_on t (before r (row_of n ws))) e ∙ push_step s (row_of n ws)

  pub row_off : (n : ℕ) (w : Part) (ws : List Part) (e : Unread) → Meant (station_of n w) (Err e) → Meant (row_goes_on t (row_of n (w ∷ ws))) (Err e)
  unfolding row_of
  row_off n w ws e h = fault_stays (station_of n w) (λ r. row_goes_on t (before r (row_of n ws))) (λ f. refl) e h

  pub row_done : (n : ℕ) → row_goes_on t (row_of n []) ≡ Ok (record { starts = t.starts ++ length t.ends ∷ []; ends = t.ends })
  unfolding row_of
  row_done n = simp append-nil

  one_row : (r : Result (List ℕ) Fault) → row_goes_on t r ≡ with_rows t (before r (Ok []))
  unfolding counts
  one_row (Ok r) = simp (append-nil, length-append)
  one_row (Err e) = refl

  pub row_begins : (n : ℕ) (l : List ℕ) → row_goes_on t (row_of n (tokens_of l)) ≡ with_rows t (rows_of n (l ∷ []))
  unfolding rows_of
  row_begins n l = one_row (row_of n (tokens_of l))

  -- One row more.
  added : (r : Result (List ℕ) Fault) (rs : Result (List (List ℕ)) Fault) (new : Lists) → with_rows t (before r (Ok [])) ≡ Ok new → with_rows t (before r rs) ≡ with_rows new rs
  unfolding counts
  added (Ok r) (Ok rs) new h =
      let e : new ≡ record { starts = t.starts ++ (length t.ends + length r) ∷ []; ends = t.ends ++ (r ++ []) } = cc in
      rw e (simp (append_assoc, append-nil, length-append))
  added (Ok r) (Err e) new h = refl
  added (Err e) rs new h = cc

  same_fault : (r : Result (List ℕ) Fault) (rs : Result (List (List ℕ)) Fault) (e : Unread) → Meant (with_rows t (before r (Ok []))) (Err e) → Meant (with_rows t (before r rs)) (Err e)
  same_fault (Err f) rs e h = h
  same_fault (Ok r) rs TooLong h = cc
  same_fault (Ok r) rs (NotAStation line byte) h = cc
  same_fault (Ok r) rs NoMemory h = tt

  pub rows_on : (n : ℕ) (l : List ℕ) (ls : List (List ℕ)) (new : Lists) → with_rows t (rows_of n (l ∷ [])) ≡ Ok new → with_rows t (rows_of n (l ∷ ls)) ≡ with_rows new (rows_of (n + 1) ls)
  unfolding rows_of
  rows_on n l ls new h = added (row_of n (tokens_of l)) (rows_of (n + 1) ls) new h

  pub rows_off : (n : ℕ) (l : List ℕ) (ls : List (List ℕ)) (e : Unread) → Meant (with_rows t (rows_of n (l ∷ []))) (Err e) → Meant (with_rows t (rows_of n (l ∷ ls))) (Err e)
  unfolding rows_of
  rows_off n l ls e h = same_fault (row_of n (tokens_of l)) (rows_of (n + 1) ls) e h

  pub rows_done : (n : ℕ) → with_rows t (rows_of n []) ≡ Ok t
  unfolding rows_of counts
  rows_done n = simp append-nil
