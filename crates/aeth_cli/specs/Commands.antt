-- The commands, and what each asks for.
-- This project's own.
pub mod Links
use Rattle.std.proofs.Common.{ℕ, ◌≡◌, List, [], ◌∷◌, Option, Some, None, Result}
use Rattle.std.specs.{Prelude.⊤, Option.option_map, Option.option_or}
use Rattle.aeth_answers.specs.{Job.Job, Job.usage, Places.Files, Places.IsAfter, Places.NoneFailed}
use Rattle.aeth_answers.specs.{Stop.IfAnswer, Stop.UnlessEnds, Task.ComesTo, Task.IsAnswer}
use Rattle.aeth_answers.specs.{Task.Task, Task.job_with, declared.answer.Stop.Stop}
use Rattle.aeth_design_commands.specs.Commands.{design_command, design_task}
use Rattle.aeth_explain_commands.specs.Commands.{explain_command, refusals_task}
use Rattle.aeth_plan_commands.specs.Commands.{plan_command, plan_task}
use Rattle.aeth_run_commands.specs.{Commands.run_command, Commands.run_task, Outcomes.Outcomes}
use Rattle.aeth_cli.specs.Commands.Links.{links_command, links_task}
use Rattle.aeth_cli.specs.declared.commands.Command.{Command}
use Rattle.aeth_design_commands.specs.Commands as design
use Rattle.aeth_plan_commands.specs.Commands as plan
use Rattle.aeth_run_commands.specs.Commands as run
use Rattle.aeth_cli.specs.Commands.Links as links
use Rattle.aeth_cli.specs.declared.commands.Command.TheVariants as command

-- The command that the words are, if they are one: the first is its name. No two commands have one
-- name.
abbrev pub command_of : List (List ℕ) → Option Command
command_of [] = None
command_of (name ∷ words) =
    option_or (option_map command.Design (design_command name words))
    (option_or (option_map command.Explain (explain_command name words))
    (option_or (option_map command.Plan (plan_command name words))
    (option_or (option_map command.Run (run_command name words))
    (option_map command.Links (links_command name words)))))

-- The numbers of a command are in the ranges of its words.
abbrev pub HasRanges : Command → Type 0
HasRanges (command.Design one) = design.HasRanges one
HasRanges (command.Explain one) = ⊤
HasRanges (command.Plan one) = plan.HasRanges one
HasRanges (command.Run one) = run.HasRanges one
HasRanges (command.Links one) = links.HasRanges one

module _ (outcomes : Outcomes) where
  -- What a command does, with the logs that inputs give.
  abbrev pub task_of : Command → Task
  task_of (command.Design one) = design_task one
  task_of (command.Explain one) = refusals_task one
  task_of (command.Plan one) = plan_task one
  task_of (command.Run one) = run_task outcomes one
  task_of (command.Links one) = links_task one

  -- What words come to: a command to the job of its task, with some bytes for each file that isn't
  -- told; words that are none to usage.
  abbrev pub WordsComeTo : (List ℕ → Option (List ℕ)) → Option Command → Job → Type 0
  WordsComeTo content None answer = answer ≡ usage
  WordsComeTo content (Some command) answer = ComesTo content (task_of command) answer

  -- What is asked for by a command, or by words that are none, where the contents on which it rests
  -- are told.
  abbrev pub asked_job : (List ℕ → Option (List ℕ)) → Option Command → Option Job
  asked_job content None = Some usage
  asked_job content (Some command) = job_with content (task_of command)

  -- What the words of a command line ask for.
  abbrev pub job : (List ℕ → Option (List ℕ)) → List (List ℕ) → Option Job
  job content words = asked_job content (command_of words)

  -- The answer to a command, or to words that are none, for which no file is read.
  abbrev pub IsAnswerTo : Files → Files → Option Command → Job → Type 0
  IsAnswerTo old new None answer = (answer ≡ usage) × NoneFailed old new
  IsAnswerTo old new (Some command) answer = IsAnswer old new (task_of command) answer

  -- A call answers a command, or words that are none, and whatever it comes to, it only read. Want of
  -- memory stands for no fault of the shelf.
  pub record AnswersWords (old new : Files) (said : Option Command) (result : Result Job Stop)
      : Type 0 where
    pub after : IsAfter old new
    pub faultless : UnlessEnds result (NoneFailed old new)
    pub answers : IfAnswer result (IsAnswerTo old new said)
