use Rattle.aeth_routed_sessions.proofs.WiredLemmas.{is_wired}
use Rattle.aeth_routed_sessions.proofs.laws.chips_are_wired.Goals as goal

-- Each wire has one place on one link.
pub returns : goal.returns
returns c = is_wired
