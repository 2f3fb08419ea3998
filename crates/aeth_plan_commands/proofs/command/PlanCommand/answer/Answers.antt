use Rattle.aeth_plan_commands.proofs.command.PlanCommand.answer.Goals as goal

-- The task of the command is answered.
pub returns-in-Tables : goal.returns-in-Tables
returns-in-Tables g c = rw c.in-Tables.is c.answer.ensures

pub returns-in-RouteTables : goal.returns-in-RouteTables
returns-in-RouteTables g c = rw c.in-RouteTables.is c.answer-in-RouteTables.ensures

pub returns-in-Audit : goal.returns-in-Audit
returns-in-Audit g c = rw c.in-Audit.is c.answer-in-Audit.ensures

pub returns-in-Chain : goal.returns-in-Chain
returns-in-Chain g c = rw c.in-Chain.is c.answer-in-Chain.ensures
