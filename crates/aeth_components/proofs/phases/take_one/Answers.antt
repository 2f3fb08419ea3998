use Rattle.std.proofs.Common.{slice_get, ◌≡◌, ◌+◌, ◌∙◌, ℕ, List, ap, ap₂, arith, inl, set, sym}
use Rattle.aeth_base.proofs.Lists.{slice_get-slice_set_same}
use Rattle.aeth_router.specs.declared.part.Part.{Part}
use Rattle.aeth_components.proofs.phases.take_one.Goals.{else-channel_state-via-then-channel_state+else-is_open}
use Rattle.aeth_components.proofs.phases.take_one.Goals.{else-channel_state-via-else-channel_state}
use Rattle.aeth_components.proofs.InjectingLemmas.{HasPlaces-part}
use Rattle.aeth_components.proofs.MarkedActiveLemmas.{AreInjecting-turned}
use Rattle.aeth_components.proofs.PartLemmas.{map_or-read, set-with_part}
use Rattle.aeth_components.proofs.TurnLemmas.{pulled-closed, pulled-none, pulled-open}
use Rattle.aeth_components.specs.Changes.{on_interface, told_at, told_by, with_part}
use Rattle.aeth_components.specs.Phases.{asked_of}
use Rattle.aeth_components.specs.Queues.{dequeued, dequeues}
use Rattle.aeth_ni.specs.Interface.{changed}
use Rattle.aeth_components.proofs.phases.take_one.Goals as goal

-- The words are taken, and counted.
pub returns-then-is_open-clause-turn : goal.returns-then-is_open-clause-turn
returns-then-is_open-clause-turn c =
    let channel_state = c.args.channel_state.now in
    let parts = c.args.parts.now in
    let number = channel_state.receiver.ni.0 in
    let within = c.requires.end.part in
    let asked : c.min-pull.result ≡ asked_of channel_state = omega arith in
    ap₂ (λ (list : List Part) (n : ℕ).
    (list, record channel_state { taken = channel_state.taken + n }))
    (ap (set parts number) c.dequeue.ensures.part
    ∙ set-with_part parts number
    (on_interface (changed channel_state.receiver.queue (dequeued c.min-pull.result)))
    c.index-parts-channel_state.result within
    ∙ ap (λ n. with_part number (on_interface (changed channel_state.receiver.queue (dequeued n)))
    parts) asked)
    (c.dequeue.ensures.count
    ∙ sym (map_or-read parts number
    (told_by channel_state.receiver.queue (dequeues c.min-pull.result))
    c.index-parts-channel_state.result within)
    ∙ ap (λ n. told_at channel_state.receiver (dequeues n) parts) asked)
    ∙ sym (pulled-open c.args.cycle parts channel_state (sym c.is_open.ensures ∙ c.if-is_open.true))

-- There is a place for its queue.
pub tell-requires : goal.tell-requires
tell-requires c =
    HasPlaces-part c.args.parts.now c.args.channel_state.now.receiver.ni.0 c.args.injecting.now
    c.requires.injecting
    c.requires.end.part

-- The queue is marked active where it has something to send.
pub returns-then-is_open-clause-injecting : goal.returns-then-is_open-clause-injecting
returns-then-is_open-clause-injecting c =
    let parts = c.args.parts.now in
    let end = c.args.channel_state.now.receiver in
    let within = c.requires.end.part in
    let moved = ap (set parts end.ni.0) c.dequeue.ensures.part
    ∙ set-with_part parts end.ni.0 (on_interface (changed end.queue (dequeued c.min-pull.result)))
    c.index-parts-channel_state.result within in
    rw moved (AreInjecting-turned parts end (dequeued c.min-pull.result) c.dequeue.new.part
    c.args.injecting.now c.tell.new.self
    c.requires.injecting c.tell.ensures.marked_active c.tell.ensures.kept
    (ap (λ (list : List Part). slice_get list end.ni.0) (sym moved)
    ∙ slice_get-slice_set_same parts end.ni.0 c.dequeue.new.part within) within)

-- Where all that has landed was taken, nothing is.
pub returns-else-channel_state-clause-turn : goal.returns-else-channel_state-clause-turn
returns-else-channel_state-clause-turn c =
    let parts = c.args.parts.now in
    let channel_state = c.args.channel_state.now in
    elim c.else-channel_state.branch [
      | else-channel_state-via-then-channel_state+else-is_open w ↦
          sym (pulled-closed c.args.cycle parts channel_state
          (sym w.is_open.ensures ∙ w.if-is_open.false))
      | else-channel_state-via-else-channel_state w ↦
          sym (pulled-none c.args.cycle parts channel_state (inl w.if-channel_state.false))
    ]
