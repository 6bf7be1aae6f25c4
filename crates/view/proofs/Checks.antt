-- What the verdict on two lists says of them.
use Rattle.std.proofs.Common.{◌≡◌, true, [], ◌∷◌, is_ok, refl, arith}
use Rattle.cores.specs.Counting.{all, lowest}
use Rattle.view.specs.Listing.{Lists, never_falls, shaped, sound}
use Rattle.view.specs.Checked.{checked}

-- lists that pass are sound
pub passed_sound : (ls : Lists) → is_ok (checked ls) ≡ true → sound ls ≡ true
unfolding sound
passed_sound ls h = grind arith

-- the view with no stations is sound
pub empty_sound : sound (record { starts = 0 ∷ []; ends = [] }) ≡ true
unfolding sound shaped never_falls all lowest
empty_sound = refl
