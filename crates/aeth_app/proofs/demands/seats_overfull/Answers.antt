use Rattle.std.proofs.Common.{◌∙◌, count_by}
use Rattle.aeth_app.specs.{App.is_fixed_to, Demands.above, Limits.seats_per_ni}
use Rattle.aeth_app.proofs.WalkParts.{found-range}
use Rattle.aeth_app.proofs.demands.seats_overfull.Goals as goal

-- The walk over all interfaces finds the first.
pub returns : goal.returns
returns c =
    c.found.ensures ∙ found-range
    (λ ni. above seats_per_ni (count_by (is_fixed_to ni) c.args.cores.now)) c.args.nis c.loop-ni.ni
    0 c.loop-ni.walk c.loop-ni-test.false c.loop-ni.invariant
