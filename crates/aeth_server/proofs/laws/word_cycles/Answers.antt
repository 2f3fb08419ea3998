use Rattle.aeth_server.proofs.WordCycles.{taking-lands, taking-next, word-credited, word-landed}
use Rattle.aeth_server.proofs.WordCycles.{word-sent, word-taken}
use Rattle.aeth_server.proofs.laws.word_cycles.Goals as goal

-- Nothing lets it go before, and nothing holds it back then.
pub returns-clause-sent : goal.returns-clause-sent
returns-clause-sent c = word-sent

pub returns-clause-lands : goal.returns-clause-lands
returns-clause-lands c = word-landed

-- All words before it are taken by then, and it has landed.
pub returns-clause-waits : goal.returns-clause-waits
returns-clause-waits c = taking-lands

-- By the equations of a cycle.
pub returns-clause-taken : goal.returns-clause-taken
returns-clause-taken c = word-taken

pub returns-clause-later : goal.returns-clause-later
returns-clause-later c = taking-next

-- As with words, in slots of the opposite channel.
pub returns-clause-credited : goal.returns-clause-credited
returns-clause-credited c = word-credited
