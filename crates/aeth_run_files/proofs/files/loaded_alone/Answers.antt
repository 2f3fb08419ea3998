use Rattle.std.proofs.Common.{◌<◌, List, length, subst}
use Rattle.aeth_trace.specs.declared.switches.SwitchRow.{SwitchRow}
use Rattle.aeth_trace.proofs.FileLemmas.{switches_of-alone}
use Rattle.aeth_run_files.proofs.files.loaded_alone.Goals as goal

-- Fewer than two rows are told whatever the spans.
pub returns-then-rows-lt2 : goal.returns-then-rows-lt2
returns-then-rows-lt2 c =
    let few = subst (λ (rows : List SwitchRow). length rows < 2) c.rows.ensures c.if-rows-lt2.true in
    λ spans. switches_of-alone c.args.app.now _ spans c.args.bytes.now c.in-Ok.switches
    c.in-Ok.ensures.reads few
