use Rattle.std.proofs.Common.{arith, filter, subst, sym, nat_lt}
use Rattle.std.proofs.lemmas.Option.{same_Some}
use Rattle.aeth_accepted.specs.Inputs.{run_of}
use Rattle.aeth_answers.specs.Task.{ends}
use Rattle.aeth_audit.specs.Breaks.{IsAuditOf}
use Rattle.aeth_links.specs.Carried.{carried_rows}
use Rattle.aeth_reconf.specs.Timeline.{timeline_of}
use Rattle.aeth_run_commands.specs.TracedDesigns.{traced_inputs}
use Rattle.aeth_cli.specs.Commands.Links.{links_job}
use Rattle.aeth_cli.proofs.laws.links_are_clean.Goals as goal

-- What the links carry is judged to be clean, and so it is.
pub returns : goal.returns
returns c = λ words content one asked is told finished.
    let within = c.commands_are_in_range.ensures.links words one is in
    let (read, are, at_end) = c.traced_runs.ensures content one.files one.cycles
    (λ seen. ends (links_job (traced_inputs seen one.cycles))) asked (omega (arith, within)) told
    finished in
    let inputs = traced_inputs read one.cycles in
    let run = run_of inputs in
    let timeline = timeline_of run.design.groups run.spans run.switches in
    let rows = carried_rows run in
    record {
      inputs = inputs;
      told = are;
      job_is = sym (same_Some (links_job inputs) asked at_end);
      clean = subst (IsAuditOf run.design timeline one.cycles
          (filter (λ row. nat_lt row.cycle one.cycles) rows))
          (c.carried_logs_are_clean.ensures inputs are.accepted one.cycles (omega arith))
          (c.audits.ensures run (c.runs_are_sound.ensures.sound inputs are.accepted) rows one.cycles);
    }
