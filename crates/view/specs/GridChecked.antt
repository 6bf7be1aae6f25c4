-- The verdict on rows of bits, and the site that they open as. Assumes nothing.
use Rattle.std.specs.Prelude.{◌&&◌, Result}
use Rattle.refusals.specs.declared.TableFault.{TableFault}
use Rattle.refusals.specs.declared.Refusal.{Refusal}
use Rattle.cores.specs.Site.{Site, sized}
use Rattle.view.specs.Checked.{first_fault, refused, site_if}
use Rattle.view.specs.Grid.{Bitmap, shaped, lowest_bad_row, site_of}

-- the first fault of rows of bits
abbrev pub judged : Bitmap → Result (Unit {0}) TableFault
judged b = first_fault (sized b.stations && shaped b) (lowest_bad_row b)

-- the verdict on them
abbrev pub checked : Bitmap → Result (Unit {0}) Refusal
checked b = refused (judged b)

-- and what they mean
abbrev pub opened : Bitmap → Site
opened b = site_if (checked b) (site_of b)
