use Rattle.std.proofs.Common.{◌∙◌, ◌+◌, arith, length}
use Rattle.aeth_chip.proofs.OriginLemmas.{links_placed}
use Rattle.aeth_chip.proofs.distances.Distances.of.Goals as goal

-- The ends of the links have places.
pub over-requires-clause-places : goal.over-requires-clause-places
over-requires-clause-places c =
    let chip = c.args.chip.now in
    rw (
      c.routers.ensures.routers,
      c.nis.ensures.nis,
      c.in_ok-links.ensures.items_if_clones_equal (λ x y same. same) ∙ c.all_links.ensures.links,
    )
    (links_placed chip c.all_links.ensures.chip (length chip.routers + length chip.nis)
    (omega arith))
