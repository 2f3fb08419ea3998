use Rattle.std.proofs.Common.{refl}
use Rattle.aeth_accepted.proofs.TableFlows.{rows-of_tables, shapes-of_tables}
use Rattle.aeth_accepted.proofs.laws.sessions_run_by_tables.Goals as goal

-- Each connection of the use case has all its seats and grants.
pub returns-clause-rows : goal.returns-clause-rows
returns-clause-rows c = rows-of_tables

pub returns-clause-shapes : goal.returns-clause-shapes
returns-clause-shapes c = shapes-of_tables

-- A row is made of the same words.
pub returns-clause-flows : goal.returns-clause-flows
returns-clause-flows c = λ inputs channel session.
    record { route = refl; remote = refl; slots = refl; buffer = refl }
