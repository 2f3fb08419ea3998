use Rattle.std.proofs.Common.{slice_get, ℕ, ◌+◌, ◌-◌, ◌∙◌, List, Option, ap, ap₂, arith, drop}
use Rattle.std.proofs.Common.{length-drop, set, sym, length-take}
use Rattle.std.specs.Option.{option_map_or}
use Rattle.aeth_base.proofs.Lists.{slice_get-slice_set_same}
use Rattle.aeth_router.specs.declared.part.Part.{Part}
use Rattle.aeth_components.proofs.phases.refill_one.Goals.{else-channel_state-via-then-channel_state+else-is_open}
use Rattle.aeth_components.proofs.phases.refill_one.Goals.{else-channel_state-via-else-channel_state}
use Rattle.aeth_components.proofs.InjectingLemmas.{HasPlaces-part}
use Rattle.aeth_components.proofs.MarkedActiveLemmas.{AreInjecting-turned}
use Rattle.aeth_components.proofs.PartLemmas.{map_or-read, set-with_part}
use Rattle.aeth_components.proofs.TurnLemmas.{refilled-closed, refilled-none, refilled-open}
use Rattle.aeth_components.specs.{Changes.on_interface, Changes.told_by, Phases.left_of}
use Rattle.aeth_components.specs.{Queues.filled, Queues.fits, Enqueuing.room_left}
use Rattle.aeth_ni.specs.Interface.{changed}
use Rattle.aeth_components.proofs.phases.refill_one.Goals as goal

-- The words are enqueued, and counted.
pub returns-then-is_open-clause-turn : goal.returns-then-is_open-clause-turn
returns-then-is_open-clause-turn c =
    let channel_state = c.args.channel_state.now in
    let parts = c.args.parts.now in
    let number = channel_state.sender.ni.0 in
    let left = left_of c.args.words.now channel_state in
    let within = c.requires.channel_state.sender.part in
    ap₂ (λ (list : List Part) (n : ℕ).
    (list, record channel_state { enqueued = channel_state.enqueued + n }))
    (ap (set parts number) c.enqueue.ensures.part
    ∙ set-with_part parts number (on_interface (changed channel_state.sender.queue (filled left)))
    c.index-parts-channel_state.result within)
    (c.enqueue.ensures.count
    ∙ sym (map_or-read parts number (told_by channel_state.sender.queue (fits left))
    c.index-parts-channel_state.result within))
    ∙ sym (refilled-open c.args.words.now c.args.cycle parts channel_state
    (sym c.is_open.ensures ∙ c.if-is_open.true))

-- There is a place for its queue.
pub tell-requires : goal.tell-requires
tell-requires c =
    HasPlaces-part c.args.parts.now c.args.channel_state.now.sender.ni.0 c.args.injecting.now
    c.requires.injecting
    c.requires.channel_state.sender.part

-- The queue is marked active where it has something to send.
pub returns-then-is_open-clause-injecting : goal.returns-then-is_open-clause-injecting
returns-then-is_open-clause-injecting c =
    let parts = c.args.parts.now in
    let end = c.args.channel_state.now.sender in
    let within = c.requires.channel_state.sender.part in
    let moved = ap (set parts end.ni.0) c.enqueue.ensures.part
    ∙ set-with_part parts end.ni.0
    (on_interface (changed end.queue (filled (left_of c.args.words.now c.args.channel_state.now))))
    c.index-parts-channel_state.result within in
    rw moved (AreInjecting-turned parts end
    (filled (left_of c.args.words.now c.args.channel_state.now)) c.enqueue.new.part
    c.args.injecting.now c.tell.new.self
    c.requires.injecting c.tell.ensures.marked_active c.tell.ensures.kept
    (ap (λ (list : List Part). slice_get list end.ni.0) (sym moved)
    ∙ slice_get-slice_set_same parts end.ni.0 c.enqueue.new.part within) within)

-- Where all that is accepted was enqueued, nothing is.
pub returns-else-channel_state-clause-turn : goal.returns-else-channel_state-clause-turn
returns-else-channel_state-clause-turn c =
    let parts = c.args.parts.now in
    let channel_state = c.args.channel_state.now in
    elim c.else-channel_state.branch [
      | else-channel_state-via-then-channel_state+else-is_open w ↦
          sym (refilled-closed c.args.words.now c.args.cycle parts channel_state
          (sym w.is_open.ensures ∙ w.if-is_open.false))
      | else-channel_state-via-else-channel_state w ↦
          sym (refilled-none c.args.words.now c.args.cycle parts channel_state
          w.if-channel_state.false)
    ]

-- Where words are left, the source queue is full.
pub returns-then-is_open-clause-full : goal.returns-then-is_open-clause-full
returns-then-is_open-clause-full c = λ opened left.
    let channel_state = c.args.channel_state.now in
    let number = channel_state.sender.ni.0 in
    let from = channel_state.first + channel_state.enqueued in
    let count = length-take (channel_state.first + channel_state.accepted - from)
    (drop from c.args.words.now) in
    let rest = length-drop from c.args.words.now in
    let within = c.requires.channel_state.within in
    ap (λ (found : Option Part). option_map_or (told_by channel_state.sender.queue room_left) found
    0)
    (slice_get-slice_set_same c.args.parts.now number c.enqueue.new.part
    c.requires.channel_state.sender.part)
    ∙ c.enqueue.ensures.full (omega (arith, left, count, rest, within))

pub returns-else-channel_state-clause-full : goal.returns-else-channel_state-clause-full
returns-else-channel_state-clause-full c = λ opened left.
    elim c.else-channel_state.branch [
      | else-channel_state-via-then-channel_state+else-is_open w ↦
          absurd (cc (sym opened ∙ sym w.is_open.ensures ∙ w.if-is_open.false))
      | else-channel_state-via-else-channel_state w ↦
          absurd (let none = w.if-channel_state.false in omega (arith, none, left))
    ]
