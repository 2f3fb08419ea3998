use Rattle.std.proofs.Common.{◌<◌, All}
use Rattle.aeth_allocation_tests.proofs.grants.path_of.Given as goal

-- The links so far are below the count.
abbrev pub invariant-loop-number : goal.invariant-loop-number
invariant-loop-number l = All (λ link. link.0 < l.links) l.path
