use Rattle.std.proofs.Common.{sym}
use Rattle.aeth_answers.specs.Places.{files_of}
use Rattle.aeth_cli.proofs.CommandLemmas.{AnswersWords-command}
use Rattle.aeth_cli.proofs.commands.words_answer.Goals as goal

-- The task of the command is answered.
pub returns-in-Some : goal.returns-in-Some
returns-in-Some g c =
    AnswersWords-command
    (record { headers = g.M.Machine.outcome; tables = g.T.Machine.outcome })
    (files_of g.H.Shelf c.args.shelf.now)
    (files_of g.H.Shelf c.command_answer.new.shelf) _ c.in-Some.command c.command_answer.result
    (sym c.in-Some.ensures.command) c.command_answer.ensures
