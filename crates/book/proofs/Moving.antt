-- What a call moves that is not refused.
use Rattle.std.proofs.Common.{◌≡◌, ℕ, Ok, sym, subst}
use Rattle.cores.specs.Site.{Site, Lawful}
use Rattle.cores.specs.Links.{joined, parted, MovesUp, MovesDown}
use Rattle.cores.proofs.Links.{link_more, link_less}
use Rattle.book.specs.Answers.{link_answer, unlink_answer}
use Rattle.book.proofs.Granted.{link_granted, unlink_granted}

pub moves_up : (old new : Site) → Lawful old → (a b : ℕ) (u : Unit {0}) → link_answer old a b ≡ Ok u → new ≡ joined old a b → MovesUp old new a b
moves_up old new law a b u granted is =
    let can = link_granted old a b u granted in
    subst (λ g. MovesUp old g a b) (sym is) (link_more old law a b can.ends.on_a can.ends.on_b can.ends.apart can.free)

pub moves_down : (old new : Site) → Lawful old → (a b : ℕ) (u : Unit {0}) → unlink_answer old a b ≡ Ok u → new ≡ parted old a b → MovesDown old new a b
moves_down old new law a b u granted is =
    let can = unlink_granted old a b u granted in
    subst (λ g. MovesDown old g a b) (sym is) (link_less old law a b can.stands)
