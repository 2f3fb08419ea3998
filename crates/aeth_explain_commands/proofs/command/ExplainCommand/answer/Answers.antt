use Rattle.aeth_explain_commands.proofs.command.ExplainCommand.answer.Goals as goal

-- The task of the command is answered.
pub returns-in-Explain : goal.returns-in-Explain
returns-in-Explain g c = rw c.in-Explain.is c.answer.ensures

pub returns-in-Confirm : goal.returns-in-Confirm
returns-in-Confirm g c = rw c.in-Confirm.is c.answer-in-Confirm.ensures
