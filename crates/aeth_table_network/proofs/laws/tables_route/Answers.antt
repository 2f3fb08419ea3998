use Rattle.aeth_table_network.proofs.Tables.{tables-route}
use Rattle.aeth_table_network.proofs.laws.tables_route.Goals as goal

-- The rows of the use case in force are such.
pub returns : goal.returns
returns c = λ inputs accepted.
    tables-route inputs accepted
    (c.rows_fit.ensures inputs.chip inputs.app inputs.plan accepted.design)
    (c.rows_at_are_in_force.ensures inputs accepted) (c.rows_route.ensures inputs accepted)
