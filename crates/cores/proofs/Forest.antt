-- Connected cores, homes and ups.
use Rattle.std.proofs.Common.{◌≡◌, ℕ, ◌<◌, true}
use Rattle.cores.specs.Site.{Site, Lawful}
use Rattle.cores.specs.Numbers.{in_core, number}
use Rattle.cores.specs.Homes.{HomeInWords, UpInWords}
use Rattle.cores.specs.Forest.{connected, home, up, Parts, ConnectedMeansAChain}
use Rattle.cores.proofs.Numbers.{core_on_site}
use Rattle.cores.proofs.Reaching.{Parted, reach_chain, chain_found, reach_parts}
use Rattle.cores.proofs.ByNumbers.{own_connected, own_home, own_up}
use Rattle.cores.proofs.Homes.{home_by_in_words, up_by_in_words}

pub connected_chain : ConnectedMeansAChain
unfolding connected
connected_chain g law k s t =
    (reach_chain g (in_core g k) s g.size t, chain_found g law (in_core g k) (core_on_site g k) s t)

module _ (g : Site) (law : Lawful g) where
  parted : (k : ℕ) → Parted (in_core g k) (connected g k)
  unfolding connected
  parted k = reach_parts g law (in_core g k) (core_on_site g k)

  pub connected_parts : (k : ℕ) → Parts g k
  connected_parts k = let p = parted k in record { inside = p.inside; itself = p.itself; back = p.back; onward = p.onward }

  pub connected_on_site : (k s t : ℕ) → connected g k s t ≡ true → t < g.size
  connected_on_site k s t e = core_on_site g k t ((connected_parts k).inside s t e).1

  -- the homes and ups of the site are those by its numbers
  pub home_in_words : (s : ℕ) → s < g.size → HomeInWords (number g) (connected g) (home g) s
  home_in_words s h = rw (own_connected g law, own_home g law) at (home_by_in_words g law (number g) s h)

  pub up_in_words : (s : ℕ) → UpInWords (number g) (connected g) (home g) (up g) s
  up_in_words s = rw (own_connected g law, own_home g law, own_up g law) at (up_by_in_words g law (number g) s)
