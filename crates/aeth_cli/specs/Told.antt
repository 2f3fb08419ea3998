-- What `links` prints, by values that files of the shelf told.
-- This project's own.
use Rattle.std.proofs.Common.{ℕ, ◌≡◌, List, Option}
use Rattle.aeth_accepted.specs.Inputs.{Inputs, run_of}
use Rattle.aeth_answers.specs.Job.{Job}
use Rattle.aeth_command_laws.specs.{Logged.IsCleanLog, Told.AreInputsTold}
use Rattle.aeth_links.specs.Carried.{carried_rows}
use Rattle.aeth_cli.specs.{Commands.Links.links_job, declared.commands.links.LoggedRun.LoggedRun}

-- The job is the log of what the links carry in the run of accepted inputs, which their files told, and no
-- row of it breaks a rule.
pub record IsLinksLog (content : List ℕ → Option (List ℕ)) (one : LoggedRun) (asked : Job)
    : Type 0 where
  pub inputs : Inputs
  pub told : AreInputsTold content one.files one.cycles inputs
  pub job_is : asked ≡ links_job inputs
  pub clean : IsCleanLog (run_of inputs).design (run_of inputs).spans inputs.switches one.cycles
      (carried_rows (run_of inputs))
