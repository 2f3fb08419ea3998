-- What the switches of a run do to tables and queues.
--
--   switches_from, later_switches      each row with the use case that it leaves
--   events_by, timed_of, events_at      the events of a switch, of a run, and of a cycle
--   loaded_by, loaded_of      what is written before the first cycle
-- Slot tables that are written while the network runs: after Æthereal (2005). The rest: this
-- project's own.
use Rattle.std.proofs.Common.{ℕ, ◌==◌, List, [], ◌∷◌, filter, flat_map, map}
use Rattle.aeth_group.specs.Members.{group_at, groups_of, has_at}
use Rattle.aeth_ni.specs.{Program.program_of, declared.write.Write.Write}
use Rattle.aeth_trace.specs.declared.switches.SwitchRow.{SwitchRow}
use Rattle.aeth_report.specs.Sessions.{Switch, close_by}
use Rattle.aeth_reconf.specs.Rows.{rows_closing, rows_opening, rows_that}
use Rattle.aeth_components.specs.declared.event.Event.{Event, TheVariants.Change}
use Rattle.aeth_accepted.specs.Inputs.{Inputs, design_of, row_at, run_of}
use Rattle.aeth_schedule.specs.{Timed.events_with, Timed.within, declared.timed.Timed.Timed}

-- Rows as switches, the first of which leaves this use case.
abbrev pub switches_from : ℕ → List SwitchRow → List Switch
switches_from u [] = []
switches_from u (row ∷ rows) = record { leaves = u; row = row } ∷ switches_from row.to.0 rows

-- Those of a list of rows, whose first is no switch: it is loaded.
abbrev pub later_switches : List SwitchRow → List Switch
later_switches [] = []
later_switches (first ∷ rows) = switches_from first.to.0 rows

-- The writes are made.
abbrev pub changes : List Write → List Event
changes writes = map (λ write. Change write) writes

module _ (inputs : Inputs) where
  -- The events of a switch.
  abbrev pub events_by : Switch → List Timed
  events_by switch =
      events_with (close_by (run_of inputs).spans switch)
      (rows_closing (groups_of inputs.app) (row_at (design_of inputs)) switch.leaves
      switch.row.to.0)
      (rows_opening (groups_of inputs.app) (row_at (design_of inputs)) switch.leaves
      switch.row.to.0)

  -- The events of a run, below its end.
  unfoldable pub timed_of : List Timed
  timed_of = within inputs.cycles (flat_map events_by (later_switches inputs.switches))

  -- The events of a cycle.
  abbrev pub events_at : ℕ → List Event
  events_at t = map (λ one. one.event) (filter (λ one. one.cycle == t) timed_of)

  -- The writes that load the use case of the first row.
  abbrev pub loaded_by : List SwitchRow → List Event
  loaded_by [] = []
  loaded_by (first ∷ rows) =
      changes (program_of [] (rows_that (groups_of inputs.app) (row_at (design_of inputs))
      (group_at (groups_of inputs.app) first.to.0) (has_at (groups_of inputs.app) first.to.0)))

  -- What is written before the first cycle.
  abbrev pub loaded_of : List Event
  loaded_of = loaded_by inputs.switches
