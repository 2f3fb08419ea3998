use Rattle.std.proofs.Common.{◌≤◌, ◌∙◌, ap, arith, sum_by}
use Rattle.aeth_report.specs.{Limits.max_total, Log.LogData}
use Rattle.aeth_machine.{specs.Totals.late_in, proofs.TotalLemmas.late-le-landings}
use Rattle.aeth_run_commands.proofs.demo.summary_line.Goals as goal

-- There are no more late landings than landings.
pub late-requires : goal.late-requires
late-requires c =
    let log = c.args.log.now in
    let fewer = late-le-landings log.channels in
    let few : sum_by late_in log.channels ≤ max_total =
    omega (arith, fewer, c.requires.landings) in
    rw (c.deref-4.ensures.value ∙ ap (λ (l : LogData). l.channels) c.log.view_is) few
