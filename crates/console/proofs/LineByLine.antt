-- Lines that are carried out one after the other.
use Rattle.std.proofs.Common.{◌≡◌, ℕ, List, [], ◌∷◌, sym, ap, ◌∙◌}
use Rattle.cores.specs.Site.{Site}
use Rattle.console.specs.Calls.{site_after_line, site_after_lines}

-- one line more
pub lines_on : (left rest : List (List ℕ)) (line : List ℕ) (g h : Site) → left ≡ line ∷ rest → h ≡ site_after_line line g → site_after_lines rest h ≡ site_after_lines left g
unfolding site_after_lines
lines_on left rest line g h cut done = ap (site_after_lines rest) done ∙ sym (ap (λ (ls : List (List ℕ)). site_after_lines ls g) cut)

-- no line is left
pub lines_done : (left : List (List ℕ)) (g : Site) → left ≡ [] → g ≡ site_after_lines left g
unfolding site_after_lines
lines_done left g none = sym (ap (λ (ls : List (List ℕ)). site_after_lines ls g) none)
