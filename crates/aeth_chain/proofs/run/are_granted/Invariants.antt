use Rattle.std.proofs.Common.{take, All}
use Rattle.aeth_server.specs.{ChannelShape.shape_of, Shape.IsGranted}
use Rattle.aeth_chain.proofs.run.are_granted.Given as goal

-- The shapes so far are.
abbrev pub invariant-loop-shape : goal.invariant-loop-shape
invariant-loop-shape l =
    All (λ shape. IsGranted (shape_of shape)) (take l.shape-index l.shapes)
