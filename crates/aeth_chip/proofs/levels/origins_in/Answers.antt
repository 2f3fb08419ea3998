use Rattle.std.proofs.Common.{arith}
use Rattle.aeth_chip.{specs.Limits.max_places, proofs.OriginLemmas.links_placed}
use Rattle.aeth_chip.proofs.levels.origins_in.Goals as goal

-- The ends of the links have places.
pub enter_all-requires-clause-links : goal.enter_all-requires-clause-links
enter_all-requires-clause-links c =
    let chip = c.all_links.ensures.chip in
    let few = chip.routers in
    let fewer = chip.nis in
    rw (c.all_links.ensures.links, c.routers.ensures.routers)
    (links_placed c.args.chip.now chip max_places (omega arith))
