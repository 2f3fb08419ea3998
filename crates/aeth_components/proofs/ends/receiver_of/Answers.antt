use Rattle.std.proofs.Common.{◌+◌, arith}
use Rattle.aeth_chip.proofs.WireLemmas.{have_delays, wire_at-behind, wires_of-split}
use Rattle.aeth_components.proofs.ends.receiver_of.Goals as goal

-- A stage is one of the components.
pub returns-clause-below : goal.returns-clause-below
returns-clause-below c =
    let links = c.args.chip.now.links in
    let split = wires_of-split links (have_delays c.args.chip.now c.slots.ensures.chip) in
    let behind = wire_at-behind links c.args.link.0 (c.args.place + 1) (λ none. omega arith) in
    omega (
      arith,
      split,
      behind,
      c.wire-next.ensures.wire,
      c.wire-next.ensures.below,
      c.nis.ensures.nis,
      c.routers.ensures.routers,
      c.links.ensures.links,
    )
