use Rattle.std.proofs.{Common.length, Math.Nat.lt_of_lt_of_le}
use Rattle.aeth_chip.proofs.OriginLemmas.{ends_below, origins-more}
use Rattle.aeth_chip.proofs.levels.enter_all.Goals as goal

-- The link begins and ends at a place.
pub enter-requires-clause-to : goal.enter-requires-clause-to
enter-requires-clause-to c =
    let size = c.loop-link.invariant.size in
    let below = ends_below c.args.routers (length c.args.origins.now) c.args.links.now
    c.loop-link.link-index _ c.requires.routers c.requires.links c.loop-link-test.true in
    rw size below.1

pub enter-requires-clause-from : goal.enter-requires-clause-from
enter-requires-clause-from c =
    lt_of_lt_of_le
    (ends_below c.args.routers (length c.args.origins.now) c.args.links.now c.loop-link.link-index _
    c.requires.routers c.requires.links c.loop-link-test.true).0
    c.requires.most

-- One more link was entered.
pub loop-link-preserved : goal.loop-link-preserved
loop-link-preserved c =
    origins-more c.args.routers (length c.args.origins.now) c.args.links.now c.loop-link.link-index
    _ c.loop-link.origins c.enter.new.origins c.loop-link-test.true c.loop-link.invariant
    c.enter.ensures
