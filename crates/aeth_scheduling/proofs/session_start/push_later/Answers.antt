use Rattle.std.proofs.Common.{◌∷◌, ◌∙◌, arith, length, suc}
use Rattle.aeth_trace.specs.declared.switches.SwitchRow.{SwitchRow}
use Rattle.aeth_schedule.specs.ByLine.{session_starts_at}
use Rattle.aeth_scheduling.proofs.EnteringLemmas.{entered-from, list-from}
use Rattle.aeth_scheduling.proofs.SessionStartLemmas.{session_starts-next}
use Rattle.aeth_scheduling.proofs.session_start.push_later.Goals as goal

-- A row and those that follow it enter known use cases.
pub push_opened-requires-clause-rows : goal.push_opened-requires-clause-rows
push_opened-requires-clause-rows c =
    let first = c.args.first.now in
    let place = c.loop-place.place in
    rw (list-from first.later.now place (record { cycle = 0; to = record { 0 = 0 }; drain = 0 })
    c.loop-place-test.true)
    (entered-from (length c.args.task.now.groups.now.uses) first.entered.now
    (first.row.now ∷ first.later.now) (suc place) c.requires.rows)

-- One switch more.
pub loop-place-preserved : goal.loop-place-preserved
loop-place-preserved c =
    let task = c.args.task.now in
    let later = c.args.first.now.later.now in
    let place = c.loop-place.place in
    let default : SwitchRow = record { cycle = 0; to = record { 0 = 0 }; drain = 0 } in
    record {
      from = c.requires.rows.rows_are.known (suc place) default (omega (arith, c.loop-place-test.true));
      found = c.in_ok-push_opened.ensures.found;
      session_starts =
          session_starts-next task.groups.now task.spans.now task.all.now task.words.now task.cycles
          c.loop-place.from.0 place later default
          (session_starts_at task.all.now c.loop-place.list.items) _ c.loop-place-test.true
          c.in_ok-push_opened.ensures.session_starts ∙ c.loop-place.invariant.session_starts;
    }
