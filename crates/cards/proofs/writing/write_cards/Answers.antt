use Rattle.std.proofs.Common.{◌≡◌, ℕ, ◌+◌, ◌*◌, ◌<◌, length, get_or, refl, ap, ◌∙◌, arith}
use Rattle.sheet.specs.Encoding.{field}
use Rattle.cards.specs.Cards.{card_by}
use Rattle.cards.specs.Parts.{cards_in}
use Rattle.cards.proofs.Runs.{written_more, written_all}
use Rattle.cards.proofs.writing.write_cards.Goals as goal

pub loop-s-preserved : goal.loop-s-preserved
unfolding field
loop-s-preserved c =
    let card : ℕ → ℕ = λ t. card_by t (get_or c.args.homes.now t 0) (get_or c.args.ups.now t 0) in
    let s = c.loop-s.s in
    let bytes : c.to_le_bytes.result ≡ field (card s) = c.to_le_bytes.ensures ∙ ap field c.card.ensures in
    let room : 2 * s + 1 < length c.args.out.now = omega (arith, c.requires.room, c.loop-s-test.true) in
    written_more card s _ _ c.args.out.now c.loop-s.out room (rw bytes refl) c.loop-s.invariant

pub returns : goal.returns
unfolding cards_in
returns c =
    let card : ℕ → ℕ = λ t. card_by t (get_or c.args.homes.now t 0) (get_or c.args.ups.now t 0) in
    let all : c.loop-s.s ≡ length c.args.homes.now = omega (arith, c.loop-s-test.false, c.loop-s.auto.s-end) in
    rw all at (written_all card c.loop-s.s c.args.out.now c.loop-s.out c.loop-s.invariant)
