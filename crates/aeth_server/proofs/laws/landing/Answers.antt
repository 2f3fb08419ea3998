use Rattle.aeth_server.proofs.LandingLemmas.{landing_cycle-lands}
use Rattle.aeth_server.proofs.laws.landing.Goals as goal

-- The least cycle by whose end it has landed.
pub returns : goal.returns
returns c = landing_cycle-lands
