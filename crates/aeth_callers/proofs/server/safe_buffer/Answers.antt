use Rattle.std.proofs.Common.{ap, arith, subst, sym}
use Rattle.aeth_server.specs.Shape.{IsGranted, buffer_of}
use Rattle.aeth_server.proofs.ShapeLemmas.{shape-granted}
use Rattle.aeth_callers.proofs.server.safe_buffer.Goals as goal

-- So the law of private servers holds of each server of this shape with so large a buffer.
pub returns : goal.returns
returns c server same rising enough =
    c.bound.ensures.lands server
    (subst IsGranted (sym same)
    (shape-granted c.args.shape.now c.size-own.ensures.set c.size-back.ensures.set c.requires)) rising
    (let room = ap buffer_of same in omega (arith, enough, room, c.buffer.ensures.gives))
