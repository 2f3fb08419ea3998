use Rattle.std.proofs.Common.{subst}
use Rattle.aeth_components.specs.Busy.{AreNoted}
use Rattle.aeth_components.proofs.channels.Channels.new.Goals as goal

-- What was noted is of these channels.
pub invariant_of-result : goal.invariant_of-result
invariant_of-result c =
    subst (AreNoted c.in_ok-noted.noted.busy c.in_ok-noted.noted.taking c.in_ok-noted.noted.homes)
    c.deref.ensures.value c.in_ok-noted.ensures
