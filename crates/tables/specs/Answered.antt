use Rattle.std.specs.Prelude.{◌≡◌, ℕ, List, ◌++◌, length, Ok, Err, vec_items, Result}
use Rattle.std.specs.List.{flat_map}
use Rattle.view.specs.Listing.{Lists}
use Rattle.tables.specs.declared.fault.Unread.{Unread}
use Rattle.tables.specs.declared.fault.Unread.TheVariants.{TooLong, NotAStation, NoMemory}
use Rattle.tables.specs.declared.rows.Table.{Table}
use Rattle.tables.specs.Listings.{Fault, too_long, not_a_station, counts}

-- What a table lists.
abbrev pub listing_of : Table → Lists
listing_of t = record { starts = vec_items t.starts; ends = vec_items t.ends }

-- An answer with another value.
abbrev pub giving : {X Y : Type 0} → (X → Y) → Result X Unread → Result Y Unread
giving f (Ok x) = Ok (f x)
giving f (Err e) = Err e

-- Unless there was no memory, the answer is what is meant.
abbrev pub Meant : {X : Type 0} → Result X Fault → Result X Unread → Type 0
Meant m (Ok x) = m ≡ Ok x
Meant m (Err TooLong) = m ≡ Err too_long
Meant m (Err (NotAStation line byte)) = m ≡ Err (not_a_station line byte)
Meant m (Err NoMemory) = Unit {0}

-- Rows behind those of a table.
abbrev pub with_rows : Lists → Result (List (List ℕ)) Fault → Result Lists Fault
with_rows t (Ok rs) = Ok (record { starts = t.starts ++ counts (length t.ends) rs; ends = t.ends ++ flat_map (λ r. r) rs })
with_rows t (Err e) = Err e
