use Rattle.std.proofs.Common.{arith}
use Rattle.aeth_server.specs.Shape.{buffer_of}
use Rattle.aeth_server.proofs.ShapeLemmas.{buffer-room, granted-size}
use Rattle.aeth_server.proofs.laws.buffer_room.Goals as goal

-- The quotient is rounded up.
pub returns : goal.returns
returns c = λ shape granted.
    buffer-room shape (buffer_of shape) (granted-size shape granted) (omega arith)
