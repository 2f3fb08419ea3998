use Rattle.aeth_cli.proofs.commands.command_answer.Goals as goal

-- The task of the command is answered.
pub returns-in-Design : goal.returns-in-Design
returns-in-Design g c = rw c.in-Design.is c.answer.ensures

pub returns-in-Explain : goal.returns-in-Explain
returns-in-Explain g c = rw c.in-Explain.is c.answer-in-Explain.ensures

pub returns-in-Plan : goal.returns-in-Plan
returns-in-Plan g c = rw c.in-Plan.is c.answer-in-Plan.ensures

pub returns-in-Run : goal.returns-in-Run
returns-in-Run g c = rw c.in-Run.is c.answer-in-Run.ensures

pub returns-in-Links : goal.returns-in-Links
returns-in-Links g c = rw c.in-Links.is c.answer-in-Links.ensures
