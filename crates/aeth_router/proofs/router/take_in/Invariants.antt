use Rattle.aeth_router.{specs.Router.numbers_of, proofs.Steps.HasTaken}
use Rattle.aeth_router.proofs.router.take_in.Given as goal

-- What has been taken so far.
abbrev pub invariant-loop-place : goal.invariant-loop-place
invariant-loop-place l =
    HasTaken l.wires l.fn.held (numbers_of l.incoming) l.place l.held l.is_any
