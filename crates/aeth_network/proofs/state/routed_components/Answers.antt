use Rattle.std.proofs.Common.{◌≡◌, ◌∙◌, All, List, [], ap, length, refl, subst, sym}
use Rattle.aeth_router.specs.declared.part.Part.{Part}
use Rattle.aeth_components.specs.{Changes.switched, Components.ComponentsState, Entering.TakesRows}
use Rattle.aeth_components.specs.{Making.new_parts}
use Rattle.aeth_schedule.specs.{Rooms.rooms_of, Schedule.ScheduleData, Switching.loaded_of}
use Rattle.aeth_running.proofs.PlayedTables.{first-fit, tables-take}
use Rattle.aeth_running.proofs.RouterTables.{tables-loaded}
use Rattle.aeth_running.specs.Routing.{entered_first, first_rows, kind_of}
use Rattle.aeth_stimuli.{specs.Loaded.loaded_as, proofs.FittingEvents.rooms-counted}
use Rattle.aeth_network.{specs.Routes.routing_in, proofs.FirstNetwork.loaded-doable}
use Rattle.aeth_network.proofs.state.routed_components.Goals as goal

-- There is a room for each queue.
pub loaded-requires-clause-rooms : goal.loaded-requires-clause-rooms
loaded-requires-clause-rooms c =
    rw c.chip-chip.ensures (ap (λ (schedule : ScheduleData). length schedule.rooms) c.requires.schedule
    ∙ rooms-counted c.args.inputs.now)

-- The components can do what is written first.
pub loaded-requires-clause-loaded : goal.loaded-requires-clause-loaded
loaded-requires-clause-loaded c =
    let inputs = c.args.inputs.now in
    let accepted = c.are_accepted.ensures in
    rw (c.chip-chip.ensures, c.requires.schedule, c.kind_of.ensures) (loaded-doable inputs accepted
    (kind_of (routing_in c.args.tables.now)) (c.stimuli_are_stimuli.ensures inputs accepted).loaded)

-- The first rows are in range of their tables.
pub enter_first-requires : goal.enter_first-requires
enter_first-requires c =
    let inputs = c.args.inputs.now in
    let routing = routing_in c.args.tables.now in
    let kind = kind_of routing in
    let loaded : c.in_ok-components.components ≡ loaded_as kind inputs =
    c.in_ok-components.ensures
    ∙ rw (
      c.chip-chip.ensures,
      c.app-app.ensures,
      c.words-words.ensures,
      c.requires.schedule,
      c.kind_of.ensures,
    ) refl in
    let made = switched (loaded_of inputs) (new_parts inputs.chip kind (rooms_of inputs)) in
    subst (λ (parts : List Part). All (TakesRows (first_rows routing)) parts)
    (sym (ap (λ (all : ComponentsState). all.parts) loaded))
    (tables-take inputs.chip (first_rows routing) (first-fit inputs routing c.requires.routed) kind []
    made (tables-loaded inputs.chip kind (rooms_of inputs) (loaded_of inputs)))

-- The first rows are entered in those that are loaded.
pub returns : goal.returns
returns c =
    let inputs = c.args.inputs.now in
    let routing = routing_in c.args.tables.now in
    let loaded : c.in_ok-components.components ≡ loaded_as (kind_of routing) inputs =
    c.in_ok-components.ensures
    ∙ rw (
      c.chip-chip.ensures,
      c.app-app.ensures,
      c.words-words.ensures,
      c.requires.schedule,
      c.kind_of.ensures,
    ) refl in
    c.enter_first.ensures
    ∙ ap (λ (all : ComponentsState). record all { parts = entered_first routing all.parts }) loaded
