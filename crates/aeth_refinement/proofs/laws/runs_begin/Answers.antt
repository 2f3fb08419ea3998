use Rattle.aeth_refinement.proofs.Beginning.{runs}
use Rattle.aeth_refinement.proofs.laws.runs_begin.Goals as goal

-- The tables are written, and all else is empty.
pub returns : goal.returns
returns c = λ sessions ok channel events all empty are.
    runs sessions ok channel events all empty are
    (c.events_change_their_own.ensures.queues events all.parts)
    (c.events_change_their_own.ensures.slots events all.parts)
