-- Components of stations under some links, kept as labels: the label of a station is one of its component. Assumes nothing.
use Rattle.std.specs.Prelude.{◌≡◌, ℕ, ◌<◌, Bool, true, ◌&&◌, ◌||◌, List, Option, length, ◌==◌, nat_le, slice_index}
use Rattle.std.specs.Cmp.{IsEquivalence}
use Rattle.cores.specs.Counting.{lowest}
use Rattle.cores.specs.Site.{Site}

-- have s and t one label
abbrev pub together : List ℕ → ℕ → ℕ → Bool
together labels s t = slice_index labels s == slice_index labels t

-- an equivalence has each station below n together with its label
abbrev pub HasLabels : ℕ → List ℕ → (ℕ → ℕ → Bool) → Type 0
HasLabels n labels R = (s : ℕ) → s < n → R s (slice_index labels s) ≡ true

-- The labels of the stations below n are of the components under some links: an equivalence that has each station together with its label
-- has linked stations together, and one that has linked stations together has each station together with its label.
pub record AreComponents (n : ℕ) (links : ℕ → ℕ → Bool) (labels : List ℕ) : Type 0 where
  pub joined : (R : ℕ → ℕ → Bool) → IsEquivalence R → HasLabels n labels R → (s t : ℕ) → s < n → t < n → links s t ≡ true → R s t ≡ true
  pub only : (R : ℕ → ℕ → Bool) → IsEquivalence R → ((s t : ℕ) → links s t ≡ true → R s t ≡ true) → HasLabels n labels R

-- the label of each station below n is its own label
abbrev pub AreSettled : ℕ → List ℕ → Type 0
AreSettled n labels = (s : ℕ) → s < n → slice_index labels (slice_index labels s) ≡ slice_index labels s

-- s and t are in one component by the labels: an equivalence that has each station below n together with its label has s and t together
abbrev pub LeadTogether : ℕ → List ℕ → ℕ → ℕ → Type 0
LeadTogether n labels s t = (R : ℕ → ℕ → Bool) → IsEquivalence R → HasLabels n labels R → R s t ≡ true

-- The components stay the same: an equivalence has each station together with its new label if it has it together with the old one, and the
-- other way round. A station that was its own label still is.
pub record AreShortened (old new : List ℕ) : Type 0 where
  pub kept : (n : ℕ) (R : ℕ → ℕ → Bool) → IsEquivalence R → HasLabels n old R → HasLabels n new R
  pub only : (n : ℕ) (R : ℕ → ℕ → Bool) → IsEquivalence R → HasLabels n new R → HasLabels n old R
  pub own : (s : ℕ) → slice_index old s ≡ s → slice_index new s ≡ s
  pub as_many : length new ≡ length old

-- some links, and one from s to t too
abbrev pub with_link : (ℕ → ℕ → Bool) → ℕ → ℕ → ℕ → ℕ → Bool
with_link links s t a b = links a b || (a == s && b == t)

-- some links, and those from s to stations that have its number or more too
abbrev pub with_links_of : Site → (ℕ → ℕ) → (ℕ → ℕ → Bool) → ℕ → ℕ → ℕ → Bool
with_links_of g c links s a b = links a b || (a == s && g.linked s b && nat_le (c s) (c b))

-- the links between stations that have k or more by the numbers c
unfoldable pub links_at : Site → (ℕ → ℕ) → ℕ → ℕ → ℕ → Bool
links_at g c k s t = g.linked s t && nat_le k (c s) && nat_le k (c t)

-- the lowest station of number k that has the label of s, if there is one
abbrev pub lowest_with : List ℕ → List ℕ → ℕ → ℕ → Option ℕ
lowest_with numbers labels k s = lowest (length numbers) (λ t. (slice_index numbers t == k) && together labels s t)
