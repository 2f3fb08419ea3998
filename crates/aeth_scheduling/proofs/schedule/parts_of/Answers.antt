use Rattle.std.proofs.Common.{refl}
use Rattle.aeth_accepted.specs.Inputs.{run_of}
use Rattle.aeth_group.specs.Members.{groups_of}
use Rattle.aeth_schedule.specs.{SessionStarts.session_starts_of, Lines.all_lines}
use Rattle.aeth_schedule.proofs.SwitchRows.{rows-known}
use Rattle.aeth_scheduling.specs.Entered.{entered_lines}
use Rattle.aeth_scheduling.proofs.ScheduleLemmas.{entered-are, entered-same, session_starts-by}
use Rattle.aeth_scheduling.proofs.ScheduleLemmas.{session_starts-lines, loaded-lines, loaded-same}
use Rattle.aeth_scheduling.proofs.ScheduleLemmas.{rows-are, timed-by, timed-lines, timed-same}
use Rattle.aeth_scheduling.proofs.ScheduleLemmas.{windows-by}
use Rattle.aeth_scheduling.proofs.schedule.parts_of.Goals as goal

-- Each switch enters a use case that has its channels.
pub loaded_of-requires : goal.loaded_of-requires
loaded_of-requires c =
    let inputs = c.args.inputs.now in
    let accepted = c.are_accepted.ensures in
    rw (c.rows-rows.ensures, c.switches.ensures, c.requires.lines, entered-are inputs accepted)
    (rows-known inputs accepted)

pub timed_events-requires-clause-rows : goal.timed_events-requires-clause-rows
timed_events-requires-clause-rows c =
    let inputs = c.args.inputs.now in
    rw (c.rows-rows.ensures, c.switches.ensures, c.requires.groups)
    (rows-known inputs c.are_accepted.ensures)

pub windows_of-requires : goal.windows_of-requires
windows_of-requires c =
    let inputs = c.args.inputs.now in
    rw (c.rows-rows.ensures, c.switches.ensures, c.requires.groups)
    (rows-known inputs c.are_accepted.ensures)

pub session_starts_of-requires-clause-rows : goal.session_starts_of-requires-clause-rows
session_starts_of-requires-clause-rows c =
    let inputs = c.args.inputs.now in
    rw (c.rows-rows.ensures, c.switches.ensures, c.requires.groups)
    (rows-are inputs c.are_accepted.ensures)

-- The parts are those of the schedule.
pub returns : goal.returns
unfolding session_starts_of
returns c =
    let inputs = c.args.inputs.now in
    let accepted = c.are_accepted.ensures in
    let groups = groups_of inputs.app in
    let task = c.args.task.now.spans.now in
    let planned = c.requires.spans.planned in
    let entered = entered_lines inputs in
    let same = entered-same inputs accepted in
    let spans = (run_of inputs).spans in
    rw (
      c.in_ok-loaded.ensures,
      c.in_ok-timed.ensures.events,
      c.in_ok-session_starts.ensures,
      c.in_ok-windows.ensures,
      c.in_ok-rooms.ensures,
      c.rows-rows.ensures,
      c.switches.ensures,
      c.requires.groups,
      c.requires.lines,
      c.requires.words,
      c.requires.cycles,
      timed-by groups task spans entered inputs.switches inputs.cycles planned,
      session_starts-by groups task spans entered inputs.words inputs.cycles inputs.switches
          planned,
      timed-lines groups spans entered (all_lines inputs) inputs.switches inputs.cycles same,
      session_starts-lines groups spans entered (all_lines inputs) inputs.words inputs.cycles
          inputs.switches same,
      loaded-lines groups spans entered (all_lines inputs) inputs.switches same,
      windows-by task (run_of inputs).spans inputs.switches planned,
      timed-same inputs accepted inputs.switches refl,
      loaded-same inputs accepted inputs.switches refl,
    ) refl
