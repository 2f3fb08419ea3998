use Rattle.std.proofs.Common.{◌∙◌, ℕ, ap, arith}
use Rattle.aeth_stimuli.specs.Stimuli.{Offer}
use Rattle.aeth_network.proofs.Firsts.{row-first, row-late, row-none}
use Rattle.aeth_network.proofs.next.next_offer.Goals as goal

-- The cycle of a word.
abbrev cycle_of : Offer → ℕ
cycle_of one = one.cycle

-- That of the word at the place.
pub returns-then-row-to : goal.returns-then-row-to
returns-then-row-to c =
    row-first cycle_of c.args.offers.now c.requires.order c.args.time c.args.to c.args.place
    c.requires.to c.requires.place c.index-offers-place.result c.row.inside.cycle
    (ap cycle_of (c.row.view_is ∙ c.index-offers-place.is)) c.if-place-offers.true c.if-row-to.true

-- It is not below the limit.
pub returns-else-row-to : goal.returns-else-row-to
returns-else-row-to c =
    row-late cycle_of c.args.offers.now c.requires.order c.args.time c.args.to c.args.place
    c.requires.to c.requires.place c.index-offers-place.result c.row.inside.cycle
    (ap cycle_of (c.row.view_is ∙ c.index-offers-place.is)) c.if-place-offers.true c.if-row-to.false

-- No word is left.
pub returns-else-place-offers : goal.returns-else-place-offers
returns-else-place-offers c =
    row-none cycle_of c.args.offers.now c.requires.order c.args.time c.args.to c.args.place
    c.requires.to c.requires.place (λ d inside. absurd (omega arith))
