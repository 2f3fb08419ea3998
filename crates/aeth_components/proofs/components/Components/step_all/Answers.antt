use Rattle.std.proofs.Common.{◌≡◌, ◌∙◌, ◌++◌, ap, arith, drop, length, map, refl, sym, take}
use Rattle.aeth_base.proofs.Lists.{written_back}
use Rattle.aeth_components.proofs.components.Components.step_all.Goals.{After-land, After-run}
use Rattle.aeth_components.proofs.components.Components.step_all.Goals.{After-deref_mut-2}
use Rattle.aeth_components.proofs.CountedCycle.{Cycle-counted, IsComponents-counted}
use Rattle.aeth_components.proofs.WiringLemmas.{length-wires_driven}
use Rattle.aeth_components.proofs.SeenLemmas.{wirings-seen}
use Rattle.aeth_components.proofs.SeenPhases.{Runs-landed, wirings-landed, ways-landed}
use Rattle.aeth_components.proofs.WaitingLemmas.{AreEnqueuing-landed}
use Rattle.aeth_components.specs.{Components.ComponentsState, Components.Runs}
use Rattle.aeth_components.specs.{Components.components_of, Components.ready_of, Wirings.wiring_of}
use Rattle.aeth_components.specs.{Passing.way_of, Phases.Moment, Ready.AreReady, Seen.all_seen}
use Rattle.aeth_components.specs.{Seen.flits_landed, Seen.interfaces_latched}
use Rattle.aeth_components.proofs.components.Components.step_all.Given as given
use Rattle.aeth_components.proofs.components.Components.step_all.Goals as goal

-- What the run requires holds of the components in their vector.
pub run-requires : goal.run-requires
run-requires g c =
    let all = c.self.inside in
    let parts = c.deref_mut.ensures.value in
    record {
      wired = rw parts c.self.invariant.0.wired;
      ready = rw parts c.self.invariant.1;
      injecting = rw parts c.self.invariant.2;
      channel_states = rw parts c.self.invariant.0.channel_states;
      events = rw (parts, ← wirings-seen all.wires all.parts.items)
          (rw (← c.self.view_is) at c.requires.events);
      enqueuing = rw parts c.self.invariant.3;
    }

-- The components are those that the run leaves.
run_size : (g : given.Over) (c : goal.After-run g)
    → length c.run.new.parts ≡ length c.self.inside.parts.items
run_size g c = c.run.auto.parts ∙ ap length c.deref_mut.ensures.value

run_parts : (g : given.Over) (c : goal.After-run g)
    → take c.self.inside.parts.len (c.run.new.parts
    ++ drop (length c.run.new.parts) c.self.inside.parts.items) ≡ c.run.new.parts
run_parts g c =
    written_back c.self.inside.parts.items c.run.new.parts c.self.inside.parts.len
    c.self.inside.parts.ok.0 (run_size g c)

read_parts : (g : given.Over) (c : goal.After-deref_mut-2 g)
    → c.deref_mut-2.result.now ≡ c.run.new.parts
read_parts g c = c.deref_mut-2.ensures.value ∙ run_parts g ((goal.at-After-deref_mut-2 g c).After-run)

-- There are as many wires, and the components have the wirings that they had.
sized : (g : given.Over) (c : goal.After-run g)
    → length c.run.new.wires ≡ length c.self.inside.wires
sized g c =
    let all = c.self.inside in
    let moment : Moment = record {
      parts = all_seen all.wires c.deref_mut.result.now;
      channel_states = all.channels.channel_states;
    } in
    rw c.run.ensures.wires (length-wires_driven
    (ready_of all.channels.words c.args.events.now c.args.cycle moment).parts (length all.wires)
    c.args.cycle)

wired_for : (g : given.Over) (c : goal.After-run g)
    → map wiring_of c.run.new.parts ≡ map wiring_of c.self.inside.parts.items
wired_for g c = c.run.ensures.wirings ∙ ap (map wiring_of) c.deref_mut.ensures.value

pub land-requires : goal.land-requires
land-requires g c =
    let run = (goal.at.land-requires g c).After-run in
    let parts = read_parts g ((goal.at.land-requires g c).After-deref_mut-2) in
    record {
      wired = rw (parts, sized g run, wired_for g run) c.self.invariant.0.wired;
      ends = rw (parts, sized g run, wired_for g run, c.run.ensures.turns) c.self.invariant.1.ends;
      noted = rw (parts, c.run.ensures.ways, c.deref_mut.ensures.value, c.run.ensures.turns) c.self.invariant.1.noted;
      onward = rw (sized g run, c.run.ensures.turns) refl;
      injecting = rw parts c.run.ensures.injecting;
      channel_states =
          rw (parts, c.self.invariant.0.landings, ← c.run.ensures.words)
          c.run.ensures.channel_states;
      flits = rw (sized g run) c.self.invariant.0.flits;
      cycle = omega (arith, c.requires.cycle);
    }

-- The vector has the components behind the landing.
land_parts : (g : given.Over) (c : goal.After-land g)
    → take c.self.inside.parts.len (c.land.new.parts ++ drop (length c.land.new.parts)
    (take c.self.inside.parts.len (c.run.new.parts
    ++ drop (length c.run.new.parts) c.self.inside.parts.items)))
    ≡ flits_landed c.run.new.wires c.run.new.parts
land_parts g c =
    let run = (goal.at-After-land g c).After-run in
    let read = read_parts g ((goal.at-After-land g c).After-deref_mut-2) in
    rw (run_parts g run) (written_back c.run.new.parts c.land.new.parts c.self.inside.parts.len
    (c.self.inside.parts.ok.0 ∙ sym (run_size g run)) (c.land.auto.parts ∙ ap length read)
    ∙ c.land.ensures.parts ∙ ap (flits_landed c.run.new.wires) read)

-- The components before the cycle, as they stand.
abbrev held : (g : given.Over) → goal.After-land g → ComponentsState
held g c =
    let all = c.self.inside in
    components_of all.parts.items all.wires all.channels.channel_states all.channels.words
    all.counts.landings.items all.counts.flits.items

-- Both halves are a run.
runs : (g : given.Over) (c : goal.After-land g) → Runs c.self.inside.channels.words
    c.args.events.now c.args.cycle c.self.inside.wires c.run.new.wires
    (record {
      parts = all_seen c.self.inside.wires c.self.inside.parts.items;
      channel_states = c.self.inside.channels.channel_states;
    })
    (record {
      parts = all_seen c.run.new.wires (flits_landed c.run.new.wires c.run.new.parts);
      channel_states = c.run.new.channels.channel_states;
    })
runs g c =
    let all = c.self.inside in
    Runs-landed all.channels.words c.args.events.now c.args.cycle all.wires c.run.new.wires
    all.parts.items c.run.new.parts (flits_landed c.run.new.wires c.run.new.parts)
    all.channels.channel_states
    c.run.new.channels.channel_states (rw c.deref_mut.ensures.value at c.run.ensures.moment)
    (rw c.deref_mut.ensures.value at c.run.ensures.wires) refl

-- The components are ready for the next cycle.
ready : (g : given.Over) (c : goal.After-land g)
    → AreReady (map wiring_of (flits_landed c.run.new.wires c.run.new.parts))
    (map way_of (flits_landed c.run.new.wires c.run.new.parts)) c.run.new.wires c.land.new.turns
ready g c =
    let run = (goal.at-After-land g c).After-run in
    let read = read_parts g ((goal.at-After-land g c).After-deref_mut-2) in
    let before = c.self.invariant.1 in
    let wires = c.run.new.wires in
    let parts = c.run.new.parts in
    let ways = c.run.ensures.ways ∙ ap (map way_of) c.deref_mut.ensures.value in
    rw (c.land.ensures.turns, wirings-landed wires parts, ways-landed wires parts) (record {
      ends = rw (c.run.ensures.turns, wired_for g run, sized g run) before.ends;
      noted = rw (c.run.ensures.turns, ways) before.noted;
      flits = refl;
      size = c.land.ensures.size;
      forwarded = rw read at c.land.ensures.forwarded;
      tables = rw (c.run.ensures.turns, ways) before.tables;
    })

-- What holds of components still holds.
pub invariant_of-self : goal.invariant_of-self
invariant_of-self g c =
    let land = (goal.at.invariant_of-self g c).After-land in
    let read = read_parts g ((goal.at.invariant_of-self g c).After-deref_mut-2) in
    let wires = c.run.new.wires in
    let parts = c.run.new.parts in
    let counts = rw read at c.land.ensures.channel_states in
    rw (land_parts g land, c.land.ensures.words, c.run.ensures.words) (
      IsComponents-counted (held g land) parts (runs g land) counts
          (rw read at c.land.ensures.landings) c.land.ensures.flits
          c.self.invariant.0 (rw c.run.ensures.words at c.run.ensures.channel_states),
      ready g land,
      rw (c.land.ensures.parts ∙ ap (flits_landed wires) read) at c.land.ensures.injecting,
      rw counts (AreEnqueuing-landed c.args.cycle wires parts (interfaces_latched wires parts)
          c.run.new.channels.channel_states c.run.new.enqueuing c.run.ensures.enqueuing),
    )

-- A cycle.
pub returns-clause-cycle : goal.returns-clause-cycle
returns-clause-cycle g c =
    let land = (goal.at.returns-clause-cycle g c).After-land in
    let read = read_parts g ((goal.at.returns-clause-cycle g c).After-deref_mut-2) in
    rw (← c.self.view_is, land_parts g land, c.land.ensures.words, c.run.ensures.words)
    (Cycle-counted (held g land) c.run.new.parts (runs g land)
    (rw read at c.land.ensures.channel_states)
    (rw read at c.land.ensures.landings) c.land.ensures.flits)

-- So many steps.
pub returns-clause-steps : goal.returns-clause-steps
returns-clause-steps g c =
    rw (← c.self.view_is) (omega (arith, c.run.ensures.steps, c.land.ensures.steps))
