-- Tables of stations, and the links and numbers that they hold.
use Rattle.std.proofs.Common.{◌≡◌, ℕ, List, [], map, length, get_or, set, sym, ap, ◌∙◌}
use Rattle.std.proofs.lemmas.List.{map-set, length-map}
use Rattle.std.proofs.Math.Seq.{map-set_same}
use Rattle.std.proofs.Math.ListN.{get_or-map}
use Rattle.book.specs.declared.station.Station.{Station}
use Rattle.book.specs.Stations.{entries}
use Rattle.book.specs.declared.order.Order.{Order}
use Rattle.book.specs.declared.table.Table.{Table}
use Rattle.book.specs.Tables.{links, numbers, row, with_row, Sound}

-- a record of nothing
abbrev pub blank : Station
blank = record { row = []; len = 0; number = 0 }

-- one record is changed
module _ (n s : ℕ) (stations : List Station) (new : Station) (order : Order) where
  pub one_row : (f : List ℕ → List ℕ) → entries new ≡ f (entries (get_or stations s blank))
      → links (record { count = n; stations = set stations s new; order = order }) ≡ with_row (links (record { count = n; stations = stations; order = order })) s (f (get_or (map entries stations) s []))
  one_row f e =
      let at = get_or-map entries stations s blank in
      ap (λ rows. record { stations = n; rows = rows }) (map-set entries stations s new ∙ ap (set (map entries stations) s) (e ∙ ap f (sym at)))

  pub same_rows : entries new ≡ entries (get_or stations s blank)
      → links (record { count = n; stations = set stations s new; order = order }) ≡ links (record { count = n; stations = stations; order = order })
  same_rows e = ap (λ rows. record { stations = n; rows = rows }) (map-set_same entries stations s new blank e)

  pub one_number : (number : ℕ) → new.number ≡ number
      → numbers (record { count = n; stations = set stations s new; order = order }) ≡ set (numbers (record { count = n; stations = stations; order = order })) s number
  one_number number e = map-set (λ (station : Station). station.number) stations s new ∙ ap (set (map (λ (station : Station). station.number) stations) s) e

  pub same_numbers : new.number ≡ (get_or stations s blank).number
      → numbers (record { count = n; stations = set stations s new; order = order }) ≡ numbers (record { count = n; stations = stations; order = order })
  same_numbers e = map-set_same (λ (station : Station). station.number) stations s new blank e

-- as many numbers as rows
pub numbers_long : (table : Table) → Sound (links table) → length (numbers table) ≡ 512
numbers_long table sound =
    length-map table.stations (λ (station : Station). station.number) ∙ sym (length-map table.stations entries) ∙ sound.records

-- the row of a record
pub row_at : (table : Table) (s : ℕ) → entries (get_or table.stations s blank) ≡ row (links table) s
row_at table s = sym (get_or-map entries table.stations s blank)
