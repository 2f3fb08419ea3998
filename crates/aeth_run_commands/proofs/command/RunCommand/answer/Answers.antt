use Rattle.aeth_answers.specs.Places.{files_of}
use Rattle.aeth_run_commands.proofs.command.RunCommand.answer.Goals as goal

-- The task of the command is answered.
pub returns-in-Simulate : goal.returns-in-Simulate
returns-in-Simulate g c = rw c.in-Simulate.is c.answer.ensures

pub returns-in-SimulateTables : goal.returns-in-SimulateTables
returns-in-SimulateTables g c = rw c.in-SimulateTables.is c.answer-in-SimulateTables.ensures

-- No file is read.
pub returns-in-Demo : goal.returns-in-Demo
returns-in-Demo g c =
    rw c.in-Demo.is (c.answer-in-Demo.ensures (files_of g.H.Shelf c.args.shelf.now))
