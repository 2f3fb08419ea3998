use Rattle.aeth_reconf.proofs.OneWritten.{written_meet}
use Rattle.aeth_reconf.proofs.laws.written_routes_are_together.Goals as goal

-- By when each switch begins to set.
pub returns-clause-group : goal.returns-clause-group
returns-clause-group c groups row_of spans rows may one other i j s e t both =
    (written_meet groups row_of spans rows may one other i j s e t both).group

pub returns-clause-together : goal.returns-clause-together
returns-clause-together c groups row_of spans rows may one other i j s e t both =
    (written_meet groups row_of spans rows may one other i j s e t both).together
