use Rattle.std.proofs.Common.{◌∙◌, get_or, length, sym}
use Rattle.aeth_router.specs.Router.{numbers_of}
use Rattle.aeth_router.proofs.LinkLemmas.{is_among-at}
use Rattle.aeth_router.proofs.Steps.{HasNoFlit-more, numbers_of-at, numbers_of-below}
use Rattle.aeth_router.proofs.router.are_empty.Goals as goal

-- Each link is a link.
pub is_empty-requires : goal.is_empty-requires
is_empty-requires c =
    numbers_of-below c.args.links.now c.loop-link.link-index (length c.args.wires.now) _
    c.requires c.loop-link-test.true

-- One has a flit.
pub returns-then-not-is_empty : goal.returns-then-not-is_empty
returns-then-not-is_empty c =
    let links = c.args.links.now in
    let place = c.loop-link.link-index in
    let link = (get_or links place (record { 0 = 0 })).0 in (
      (λ is. absurd (cc is)),
      (λ empty. sym c.if-not-is_empty.true
          ∙ c.is_empty.ensures.1 (empty link (is_among-at (numbers_of links) place link
          (numbers_of-at links place (record { 0 = 0 }) c.loop-link-test.true)))),
    )

-- One link more is empty.
pub loop-link-preserved : goal.loop-link-preserved
loop-link-preserved c =
    let links = c.args.links.now in
    let place = c.loop-link.link-index in
    HasNoFlit-more (numbers_of links) c.args.wires.now place
    (get_or links place (record { 0 = 0 })).0
    (numbers_of-at links place (record { 0 = 0 }) c.loop-link-test.true)
    (c.is_empty.ensures.0 c.if-not-is_empty.false) c.loop-link.invariant
