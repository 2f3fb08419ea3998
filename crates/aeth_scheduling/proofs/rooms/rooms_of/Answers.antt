use Rattle.std.proofs.Common.{◌∙◌, ◌*◌, ℕ, [], length}
use Rattle.std.proofs.lemmas.List.{length-replicate}
use Rattle.aeth_group.specs.Members.{groups_of}
use Rattle.aeth_ni.specs.Limits.{queues_of_interface}
use Rattle.aeth_tables.specs.Buffers.{buffers_of}
use Rattle.aeth_schedule.specs.Rooms.{rooms_of}
use Rattle.aeth_scheduling.proofs.RoomLaws.{all-land, same-rooms}
use Rattle.aeth_scheduling.proofs.RoomLemmas.{none-in, raised_all-in}
use Rattle.aeth_scheduling.proofs.rooms.rooms_of.Goals as goal

-- The plan is accepted.
pub buffers-requires-clause-plan : goal.buffers-requires-clause-plan
buffers-requires-clause-plan c =
    rw (c.chip-chip.ensures, c.app.ensures, c.groups.ensures, c.plan.ensures)
    c.are_accepted.ensures.design.plan_is

pub buffers-requires-clause-accepted : goal.buffers-requires-clause-accepted
buffers-requires-clause-accepted c =
    rw (c.chip-chip.ensures, c.app.ensures, c.groups.ensures, c.plan.ensures)
    c.are_accepted.ensures.design.accepted

-- Each channel lands at a queue of the chip.
pub raise_all-requires : goal.raise_all-requires
raise_all-requires c =
    let inputs = c.args.inputs.now in
    let items = c.in_ok-rooms.ensures.items_if_clones_equal (λ y same. same) in
    let count = queues_of_interface * length inputs.chip.nis in
    rw (
      items,
      c.nis.ensures.nis,
      c.deref.ensures.value,
      c.in_ok-buffers.ensures,
      c.chip-chip.ensures,
      c.app.ensures,
      c.groups.ensures,
      c.plan.ensures,
      length-replicate {A = ℕ} count 0,
    )
    (all-land inputs c.are_accepted.ensures)

-- The rooms are those for the channels of all use cases.
pub returns : goal.returns
unfolding rooms_of
returns c =
    let inputs = c.args.inputs.now in
    let accepted = c.are_accepted.ensures in
    let items = c.in_ok-rooms.ensures.items_if_clones_equal (λ y same. same) in
    let count = queues_of_interface * length inputs.chip.nis in
    let needed = buffers_of inputs.chip inputs.app (groups_of inputs.app) inputs.plan in
    rw (
      c.raise_all.ensures,
      items,
      c.nis.ensures.nis,
      c.deref.ensures.value,
      c.in_ok-buffers.ensures,
      c.chip-chip.ensures,
      c.app.ensures,
      c.groups.ensures,
      c.plan.ensures,
      ← none-in count,
    )
    (raised_all-in [] needed count (all-land inputs accepted) ∙ same-rooms inputs accepted count)
