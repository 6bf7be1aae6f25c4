-- What the definitions say, in words. Each law stands on the contract of a function of `laws`.
use Rattle.std.specs.Prelude.{◌≡◌, ℕ, ◌≤◌, Bool, true, false, cond, ◌&&◌, ◌||◌, List, [], length, ◌==◌, nat_lt}
use Rattle.cores.specs.Numbers.{Group, number}
use Rattle.cores.specs.Site.{Site}
use Rattle.view.specs.Rows.{Faithful}
use Rattle.view.specs.Listing.{Lists}
use Rattle.view.specs.Checked.{checked}
use Rattle.view.specs.Tables.{Verdict}
use Rattle.view.specs.Grid.{Bitmap}
use Rattle.view.specs.GridChecked.{checked as bits_checked}
use Rattle.view.specs.GridTables.{Verdict as BitsVerdict}
use Rattle.view.specs.declared.service.ServiceList.{ServiceList}
use Rattle.view.specs.Service.{no_marks, is_marked, with_mark}
use Rattle.view.specs.Struck.{struck_site}

-- A station at or past the station count has no neighbours, in any view.
abbrev pub StationsOffTheSiteHaveNoNeighbours : Type 0
StationsOffTheSiteHaveNoNeighbours = (g : Site) (row : ℕ → List ℕ) → Faithful g row → (s : ℕ) → g.size ≤ s → row s ≡ []

-- The check of two lists judges as the rules say in words.
abbrev pub TheCheckJudgesInWords : Type 0
TheCheckJudgesInWords = (l : Lists) → Verdict l (checked l)

-- The check of rows of bits does too.
abbrev pub TheCheckOfBitsJudgesInWords : Type 0
TheCheckOfBitsJudgesInWords = (b : Bitmap) → BitsVerdict b (bits_checked b)

-- A list has 512 marks, as its array in code has. Setting or clearing one changes that mark alone, and a station of 512 or more has none.
abbrev pub MarksStandApart : Type 0
MarksStandApart = (list : ServiceList) → length list.marks ≡ 512
    → (s t : ℕ) (set : Bool) → (is_marked (with_mark list s set) t ≡ cond (t == s && nat_lt s 512) set (is_marked list t)) × (512 ≤ t → is_marked list t ≡ false)

-- No mark is set at first.
abbrev pub NoMarkIsSetAtFirst : Type 0
NoMarkIsSetAtFirst = (t : ℕ) → is_marked no_marks t ≡ false

-- A struck station has no neighbours, and so its number is 0.
abbrev pub StruckStationsStandAlone : Type 0
StruckStationsStandAlone = (X : Group) (g : Site) (s : ℕ) → X s ≡ true → ((t : ℕ) → (struck_site X g).linked s t ≡ false) × (number (struck_site X g) s ≡ 0)

-- Striking twice strikes the stations of both groups.
abbrev pub StrikingTwiceStrikesBoth : Type 0
StrikingTwiceStrikesBoth = (X Y : Group) (g : Site) → struck_site X (struck_site Y g) ≡ struck_site (λ s. X s || Y s) g
