use Rattle.std.proofs.Common.{arith}
use Rattle.aeth_server.proofs.ShapeLemmas.{buffer-most}
use Rattle.aeth_server.proofs.shape.buffer.Goals as goal

-- A round trip takes at most two tables, two paths and the longest delay.
pub returns-clause-most : goal.returns-clause-most
returns-clause-most c =
    let size = c.size-size.ensures in
    let most = buffer-most _ _ _ _ c.div_ceil.ensures size.least
    (omega (arith, c.rate-rate.ensures.within, size.size))
    (omega (
      arith,
      c.latency.ensures.most,
      c.latency-credits.ensures.most,
      c.requires.most_delay,
      c.requires.most_back,
    )) in
    omega (arith, most)
