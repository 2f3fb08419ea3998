use Rattle.std.proofs.Common.{◌≡◌, ◌∙◌, List, ap, length, map, subst, sym}
use Rattle.aeth_router.specs.declared.part.Part.{Part}
use Rattle.aeth_components.proofs.cycle.run.Goals.{After-refill}
use Rattle.aeth_components.proofs.ReadyLemmas.{AreReady-noted}
use Rattle.aeth_components.proofs.RoomLemmas.{IsFull-driven, IsFull-pulled, IsFull-switched}
use Rattle.aeth_components.proofs.SeenLemmas.{moment_with}
use Rattle.aeth_components.proofs.SeenPhases.{wirings-driven, ready-seen, ways-driven, ways-pulled}
use Rattle.aeth_components.proofs.SeenPhases.{ways-refilled, ways-switched}
use Rattle.aeth_components.proofs.WaitingLemmas.{AreEnqueuing-taken, AreEnqueuing-marked_active}
use Rattle.aeth_components.specs.{Components.ready_of, Components.wires_driven, Wirings.wiring_of}
use Rattle.aeth_components.specs.{Enqueuing.AreEnqueuing, Enqueuing.HasEvent, Passing.way_of}
use Rattle.aeth_components.specs.{Phases.Moment, Phases.in_turn, Phases.pulled, Phases.refilled}
use Rattle.aeth_components.specs.{Seen.interfaces_driven, Seen.seen, Sending.IsSending}
use Rattle.aeth_components.proofs.cycle.run.Given as given
use Rattle.aeth_components.proofs.cycle.run.Goals as goal

-- Who waits at an interface that an event is for may enqueue words, and all other full queues stay
-- full.
pub refill-requires-clause-enqueuing : goal.refill-requires-clause-enqueuing
refill-requires-clause-enqueuing g c =
    let events = c.args.events.now in
    AreEnqueuing-marked_active (HasEvent events) c.args.parts.now c.switch.new.parts
    c.args.channels.now.channel_states c.args.enqueuing.now c.mark_active_for.new.self
    c.mark_active_for.ensures
    (λ end none full. rw c.switch.ensures.parts (IsFull-switched events c.args.parts.now end none full))
    c.requires.enqueuing

-- Events and refilling keep the wirings, and how flits are passed on alike in every cycle.
ways-ready : (g : given.Over) (c : goal.After-refill g)
    → map way_of c.refill.new.parts ≡ map way_of c.args.parts.now
ways-ready g c =
    ap (λ (moment : Moment). map way_of moment.parts) c.refill.ensures.turns
    ∙ ways-refilled c.args.channels.now.words c.args.cycle
    (record { parts = c.switch.new.parts; channel_states = c.args.channels.now.channel_states })
    ∙ ap (map way_of) c.switch.ensures.parts
    ∙ ways-switched c.args.events.now c.args.parts.now

pub drive-requires : goal.drive-requires
drive-requires g c =
    let refilled = (goal.at.drive-requires g c).After-refill in
    record {
      wired = rw (c.refill.ensures.wirings, c.switch.ensures.wirings) c.requires.wired;
      ready = rw (ways-ready g refilled, c.refill.ensures.wirings, c.switch.ensures.wirings)
          (AreReady-noted c.requires.ready);
      injecting = c.refill.ensures.injecting;
      waiting = c.refill.ensures.enqueuing.places;
    }

-- The phases, one after the other.
refilled_of : (g : given.Over) (c : goal.After-refill g)
    → record { parts = c.refill.new.parts; channel_states = c.refill.new.self.channel_states }
    ≡ ready_of c.args.channels.now.words c.args.events.now c.args.cycle
    (record { parts = c.args.parts.now; channel_states = c.args.channels.now.channel_states })
refilled_of g c =
    c.refill.ensures.turns
    ∙ ap (λ (parts : List Part). in_turn (refilled c.args.channels.now.words c.args.cycle)
    (record { parts = parts; channel_states = c.args.channels.now.channel_states }))
    c.switch.ensures.parts

pub returns-clause-moment : goal.returns-clause-moment
returns-clause-moment g c =
    c.take.ensures.turns
    ∙ ap (λ (parts : List Part). in_turn (pulled c.args.cycle)
    (record { parts = parts; channel_states = c.refill.new.self.channel_states }))
    c.drive.ensures.parts
    ∙ ap (λ (moment : Moment). in_turn (pulled c.args.cycle)
    (record moment { parts = interfaces_driven c.args.cycle moment.parts }))
    (refilled_of g ((goal.at.returns-clause-moment g c).After-refill))

-- What is driven is what components drive that are seen with what the wires had.
pub returns-clause-wires : goal.returns-clause-wires
returns-clause-wires g c =
    let wires = c.args.wires.now in
    subst (λ (moment : Moment).
    c.drive.new.wires ≡ wires_driven moment.parts (length wires) c.args.cycle)
    (ap (moment_with (seen wires)) (refilled_of g ((goal.at.returns-clause-wires g c).After-refill))
    ∙ sym (ready-seen c.args.channels.now.words c.args.events.now c.args.cycle wires
    (record { parts = c.args.parts.now; channel_states = c.args.channels.now.channel_states })))
    c.drive.ensures.wires

-- Driving and taking keep the wirings, and how flits are passed on.
pub returns-clause-wirings : goal.returns-clause-wirings
returns-clause-wirings g c =
    c.take.ensures.wirings ∙ ap (map wiring_of) c.drive.ensures.parts
    ∙ wirings-driven c.args.cycle c.refill.new.parts ∙ c.refill.ensures.wirings
    ∙ c.switch.ensures.wirings

pub returns-clause-ways : goal.returns-clause-ways
returns-clause-ways g c =
    ap (λ (moment : Moment). map way_of moment.parts) c.take.ensures.turns
    ∙ ways-pulled c.args.cycle
    (record { parts = c.drive.new.parts; channel_states = c.refill.new.self.channel_states })
    ∙ ap (map way_of) c.drive.ensures.parts ∙ ways-driven c.args.cycle c.refill.new.parts
    ∙ ways-ready g ((goal.at.returns-clause-ways g c).After-refill)

-- Who waits at an interface that has sent may enqueue words. Taking leaves full queues full.
pub returns-clause-enqueuing : goal.returns-clause-enqueuing
returns-clause-enqueuing g c =
    let cycle = c.args.cycle in
    let parts = c.refill.new.parts in
    let moment : Moment =
    record { parts = c.drive.new.parts; channel_states = c.refill.new.self.channel_states } in
    let marked_active =
    AreEnqueuing-marked_active (IsSending cycle parts) parts moment.parts moment.channel_states
    c.refill.new.enqueuing c.drive.new.enqueuing c.drive.ensures.enqueuing
    (λ end none full. rw c.drive.ensures.parts (IsFull-driven cycle parts end none full))
    c.refill.ensures.enqueuing in
    subst (λ (moment : Moment). AreEnqueuing moment.parts moment.channel_states
    c.drive.new.enqueuing)
    (sym c.take.ensures.turns)
    (AreEnqueuing-taken cycle moment (in_turn (pulled cycle) moment).parts c.drive.new.enqueuing
    (IsFull-pulled cycle moment) marked_active)
