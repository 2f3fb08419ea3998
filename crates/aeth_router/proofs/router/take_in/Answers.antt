use Rattle.std.proofs.Common.{◌≡◌, arith, get_or, length}
use Rattle.std.proofs.lemmas.List.{length-map}
use Rattle.aeth_base.specs.declared.ids.LinkId.{LinkId}
use Rattle.aeth_router.specs.Router.{numbers_of}
use Rattle.aeth_router.proofs.Steps.{HasTaken-all, HasTaken-none, HasTaken-some, numbers_of-at}
use Rattle.aeth_router.proofs.Steps.{free-at, numbers_of-below}
use Rattle.aeth_router.proofs.router.take_in.Goals.{then-not-is_empty, else-not-is_empty}
use Rattle.aeth_router.proofs.router.take_in.Goals as goal

-- Each incoming link is a link.
pub is_empty-requires : goal.is_empty-requires
is_empty-requires c =
    numbers_of-below c.args.incoming.now c.loop-place.place (length c.args.wires.now) _
    c.requires.links c.loop-place-test.true

pub get-requires : goal.get-requires
get-requires c =
    numbers_of-below c.args.incoming.now c.loop-place.place (length c.args.wires.now) _
    c.requires.links c.loop-place-test.true

-- One link more has been asked.
pub loop-place-preserved : goal.loop-place-preserved
loop-place-preserved c =
    let place = c.loop-place.place in
    let links = c.args.incoming.now in
    let wires = c.args.wires.now in
    let first = c.args.held.now in
    let held = c.loop-place.held in
    let within = c.loop-place-test.true in
    let places = c.requires.places in
    let size : length held ≡ length first = c.loop-place.auto.held in
    let link = (get_or links place (record { 0 = 0 })).0 in
    let at = numbers_of-at links place (record { 0 = 0 }) within in
    let free = free-at first place c.requires.none (omega arith) in
    elim c.if-not-is_empty.branch [
      | then-not-is_empty w ↦
          rw (w.held-is, w.is_any-is)
          (HasTaken-some wires first (numbers_of links) place link held c.loop-place.is_any
          w.get.result at (omega arith) w.get.ensures c.loop-place.invariant)
      | else-not-is_empty w ↦
          rw (w.held-is, w.is_any-is)
          (HasTaken-none wires first (numbers_of links) place link held c.loop-place.is_any at free
          (c.is_empty.ensures.0 w.if-not-is_empty.false) c.loop-place.invariant)
    ]

-- All have been asked.
pub returns-clause-held : goal.returns-clause-held
returns-clause-held c =
    let links = numbers_of c.args.incoming.now in
    let numbers = length-map c.args.incoming.now (λ (link : LinkId). link.0) in
    let places = c.requires.places in
    let size : length c.loop-place.held ≡ length c.args.held.now = c.loop-place.auto.held in
    let end = c.loop-place.auto.place-end in
    let over = c.loop-place-test.false in
    HasTaken-all c.args.wires.now c.args.held.now links c.loop-place.place c.loop-place.held
    c.loop-place.is_any (omega arith) (omega arith) c.loop-place.invariant
