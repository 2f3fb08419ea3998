use Rattle.std.proofs.Common.{arith}
use Rattle.aeth_server.proofs.ShapeLemmas.{need-most}
use Rattle.aeth_server.proofs.shape.ChannelShape.rate.Goals as goal

-- No more slots are needed than the table has.
pub overflow_mul-result : goal.overflow_mul-result
overflow_mul-result c =
    let set = c.size-size.ensures.set in
    omega (arith, need-most _ set c.requires, set.within)

pub returns-clause-within : goal.returns-clause-within
returns-clause-within c = omega (arith, need-most _ c.size-size.ensures.set c.requires)

pub returns-clause-most : goal.returns-clause-most
returns-clause-most c =
    let set = c.size-size.ensures.set in
    omega (arith, need-most _ set c.requires, set.within)
