-- Homes and ups in words, for any numbers and any way to be connected in one core. Assumes nothing.
use Rattle.std.specs.Prelude.{◌≡◌, ℕ, ◌<◌, ◌≤◌, Bool, true, false, Some, None, Option}

module _ (number : ℕ → ℕ) (connected : ℕ → ℕ → ℕ → Bool) where
  -- h is the home of s: it has the number of s, is in its connected core, and is the lowest such station.
  pub record IsHome (s h : ℕ) : Type 0 where
    pub same_number : number h ≡ number s
    pub together : connected (number s) s h ≡ true
    pub lowest : (t : ℕ) → number t ≡ number s → connected (number s) s t ≡ true → h ≤ t

  -- no smaller number has a station in a core around s
  abbrev pub Outermost : ℕ → Type 0
  Outermost s = (t : ℕ) → number t < number s → connected (number t) s t ≡ false

  module _ (home : ℕ → ℕ) where
    -- That holds of the home and of no other station, and the home is its own home.
    abbrev pub HomeInWords : ℕ → Type 0
    HomeInWords s = IsHome s (home s) × ((h : ℕ) → IsHome s h → h ≡ home s) × (home (home s) ≡ home s)

    -- u is the up of the home s: it has a smaller number, is a home, has s in its connected core, and no number in between has a station there.
    pub record IsUp (s u : ℕ) : Type 0 where
      pub of_home : home s ≡ s
      pub smaller : number u < number s
      pub at_home : home u ≡ u
      pub around : connected (number u) s u ≡ true
      pub nearest : (t : ℕ) → number u < number t → number t < number s → connected (number t) s t ≡ false

    -- That holds of the up and of no other station; a home has no up exactly if no smaller number has a station in a core around it.
    pub record UpInWords (up : ℕ → Option ℕ) (s : ℕ) : Type 0 where
      pub is : (u : ℕ) → up s ≡ Some u → IsUp s u
      pub only : (u : ℕ) → IsUp s u → up s ≡ Some u
      pub missing : up s ≡ None → home s ≡ s → Outermost s
      pub outermost : Outermost s → up s ≡ None
