-- Laws of the room in source queues: which phases of a cycle leave a full queue full.
use Rattle.std.proofs.Common.{ℕ, zero, suc, ◌≡◌, ◌∙◌, ◌||◌, refl, sym, ap, inl, inr, true, false}
use Rattle.std.proofs.Common.{map, List, [], ◌∷◌, length, Option, Some, None, slice_get, get_or}
use Rattle.std.proofs.Common.{set, ◌==◌, eq-eqb}
use Rattle.std.proofs.Math.{Bool.or-true, ListN.get_or-map, Seq.map-set_same}
use Rattle.std.proofs.lemmas.{Bool.cases_Bool, Bool.cases_eq, Option.slice_get-map}
use Rattle.std.specs.{List.list_any, List.range_with_len, Option.option_map, Option.option_map_or}
use Rattle.aeth_clocked.specs.declared.flit.Flit.{Flit}
use Rattle.aeth_ni.specs.{Component.Arrival, Component.interface_after, Component.landed_at}
use Rattle.aeth_ni.specs.{Interface.changed, Interface.queue_at, Limits.waiting_words}
use Rattle.aeth_ni.specs.{Queue.QueueState, Queue.empty_queue, Queue.word_taken}
use Rattle.aeth_router.specs.declared.part.Part.{Part}
use Rattle.aeth_router.specs.declared.part.Part.TheVariants.{Interface, Router, Stage, TableRouter}
use Rattle.aeth_router.specs.declared.router_row.RouterRow.{RouterRow}
use Rattle.aeth_components.specs.{declared.event.Event.Event}
use Rattle.aeth_components.specs.{declared.channel_state.ChannelEnd.ChannelEnd}
use Rattle.aeth_components.specs.{declared.channel_state.ChannelState.ChannelState}
use Rattle.aeth_components.specs.{Changes.event_done, Changes.happened, Changes.on_interface}
use Rattle.aeth_components.specs.{Changes.switched, Changes.told_at, Changes.told_by}
use Rattle.aeth_components.specs.{Entering.entered, Entering.with_rows, Events.event_part}
use Rattle.aeth_components.specs.{ChannelStates.is_open, Phases.Moment, Phases.asked_of}
use Rattle.aeth_components.specs.{Phases.in_turn, Phases.pulled, Queues.dequeued}
use Rattle.aeth_components.specs.{Enqueuing.HasEvent, Enqueuing.IsFull, Enqueuing.room_left}
use Rattle.aeth_components.specs.{Seen.flits_landed, Seen.interfaces_driven, Sending.IsSending}
use Rattle.aeth_components.specs.{FlitsOnWires.sends_own}
use Rattle.aeth_components.proofs.{AloneLemmas.slice_get-with_part_other, OwnLemmas.still-mute}
use Rattle.aeth_components.proofs.{PartLemmas.views-with_part, QueueLemmas.taken-none}
use Rattle.aeth_components.proofs.{QueueLemmas.taken-some, SeenPhases.views-landed}
use Rattle.aeth_components.proofs.{TurnLemmas.views-turns}

-- The room in the source queues of an interface.
abbrev rooms_of : Part → Option (List ℕ)
rooms_of (Interface ni) = Some (map room_left ni.queues)
rooms_of (Router router) = None
rooms_of (TableRouter router) = None
rooms_of (Stage stage) = None

-- The room in one of them.
abbrev room_in : ℕ → Option (Option (List ℕ)) → ℕ
room_in queue None = 0
room_in queue (Some None) = 0
room_in queue (Some (Some rooms)) = get_or rooms queue waiting_words

told-rooms : (queue : ℕ) (found : Option Part) → option_map_or (told_by queue room_left) found 0
    ≡ room_in queue (option_map rooms_of found)
told-rooms queue None = refl
told-rooms queue (Some (Interface ni)) = sym (get_or-map room_left ni.queues queue (empty_queue 0))
told-rooms queue (Some (Router router)) = refl
told-rooms queue (Some (TableRouter router)) = refl
told-rooms queue (Some (Stage stage)) = refl

told_at-rooms : (end : ChannelEnd) (parts : List Part) → told_at end room_left parts
    ≡ room_in end.queue (slice_get (map rooms_of parts) end.ni.0)
told_at-rooms end parts =
    told-rooms end.queue (slice_get parts end.ni.0)
    ∙ ap (room_in end.queue) (sym (slice_get-map rooms_of parts end.ni.0))

-- Where no room has changed, a full queue is full.
IsFull-same : (parts now : List Part) → map rooms_of now ≡ map rooms_of parts
    → (end : ChannelEnd) → IsFull parts end → IsFull now end
IsFull-same parts now same end full =
    told_at-rooms end now
    ∙ ap (λ (rooms : List (Option (List ℕ))). room_in end.queue (slice_get rooms end.ni.0)) same
    ∙ sym (told_at-rooms end parts) ∙ full

rooms-map : (change : Part → Part) → ((part : Part) → rooms_of (change part) ≡ rooms_of part)
    → (parts : List Part) → map rooms_of (map change parts) ≡ map rooms_of parts
rooms-map change kept [] = refl
rooms-map change kept (part ∷ parts) = rw (kept part, rooms-map change kept parts) refl

-- Words that are taken change no room.
room-taken : (queue : QueueState) → room_left (word_taken queue) ≡ room_left queue
room-taken queue = elim (cases_eq (length queue.received) 0) [
  | inl none ↦ ap room_left (taken-none queue none)
  | inr some ↦ ap room_left (taken-some queue some)
]

room-dequeued : (times : ℕ) (queue : QueueState)
    → room_left (dequeued times queue) ≡ room_left queue
room-dequeued zero queue = refl
room-dequeued (suc times) queue = room-taken (dequeued times queue) ∙ room-dequeued times queue

rooms-dequeued : (queue times : ℕ) (part : Part)
    → rooms_of (on_interface (changed queue (dequeued times)) part) ≡ rooms_of part
rooms-dequeued queue times (Interface ni) =
    ap (λ (rooms : List ℕ). Some rooms) (map-set_same room_left ni.queues queue
    (dequeued times (queue_at ni.queues queue)) (empty_queue 0)
    (room-dequeued times (queue_at ni.queues queue)))
rooms-dequeued queue times (Router router) = refl
rooms-dequeued queue times (TableRouter router) = refl
rooms-dequeued queue times (Stage stage) = refl

rooms-pulled : (cycle : ℕ) (parts : List Part) (channel_state : ChannelState)
    → map rooms_of (pulled cycle parts channel_state).0 ≡ map rooms_of parts
rooms-pulled cycle parts channel_state = elim (cases_Bool (is_open channel_state cycle)) [
  | inl opened ↦
      rw opened (views-with_part rooms_of channel_state.receiver.ni.0
      (on_interface (changed channel_state.receiver.queue (dequeued (asked_of channel_state))))
      (rooms-dequeued channel_state.receiver.queue (asked_of channel_state)) parts)
  | inr closed ↦ rw closed refl
]

-- So behind it full queues are full.
pub IsFull-pulled : (cycle : ℕ) (moment : Moment) (end : ChannelEnd) → IsFull moment.parts end
    → IsFull (in_turn (pulled cycle) moment).parts end
IsFull-pulled cycle moment =
    IsFull-same moment.parts (in_turn (pulled cycle) moment).parts
    (views-turns (pulled cycle) rooms_of (rooms-pulled cycle)
    (range_with_len 0 (length moment.channel_states)) moment)

-- So they are where flits land.
rooms-landed : (arrival : Option Arrival) (queues : List QueueState)
    → map room_left (landed_at arrival queues) ≡ map room_left queues
rooms-landed None queues = refl
rooms-landed (Some arrival) queues =
    map-set_same room_left queues arrival.header.queue _ (empty_queue 0) refl

pub IsFull-landed : (wires : List (Option Flit)) (parts : List Part) (end : ChannelEnd)
    → IsFull parts end → IsFull (flits_landed wires parts) end
IsFull-landed wires parts =
    IsFull-same parts (flits_landed wires parts)
    (views-landed rooms_of (λ arrival ni. ap (λ (rooms : List ℕ). Some rooms)
    (rooms-landed arrival ni.queues)) wires parts)

-- And where rows enter the tables of routers.
rooms-entered : (rows : List RouterRow) (part : Part) → rooms_of (entered rows part) ≡ rooms_of part
rooms-entered rows (Interface ni) = refl
rooms-entered rows (Router router) = refl
rooms-entered rows (TableRouter router) = refl
rooms-entered rows (Stage stage) = refl

pub IsFull-entered : (rows : List RouterRow) (parts : List Part) (end : ChannelEnd)
    → IsFull parts end → IsFull (with_rows rows parts) end
IsFull-entered rows parts =
    IsFull-same parts (with_rows rows parts) (rooms-map (entered rows) (rooms-entered rows) parts)

-- A component that sends nothing of its own keeps its rooms when it drives.
rooms-driven : (cycle : ℕ) (part : Part) → sends_own cycle part ≡ false
    → rooms_of (on_interface (λ ni. interface_after ni cycle) part) ≡ rooms_of part
rooms-driven cycle part mute = ap rooms_of (still-mute cycle part mute)

found-driven : (cycle queue : ℕ) (found : Option Part)
    → ((part : Part) → found ≡ Some part → sends_own cycle part ≡ true → ⊥)
    → option_map_or (told_by queue room_left)
    (option_map (on_interface (λ ni. interface_after ni cycle)) found) 0
    ≡ option_map_or (told_by queue room_left) found 0
found-driven cycle queue None mute = refl
found-driven cycle queue (Some part) mute = elim (cases_Bool (sends_own cycle part)) [
  | inl sends ↦ absurd (mute part refl sends)
  | inr silent ↦
      told-rooms queue (Some (on_interface (λ ni. interface_after ni cycle) part))
      ∙ ap (λ (rooms : Option (List ℕ)). room_in queue (Some rooms)) (rooms-driven cycle part silent)
      ∙ sym (told-rooms queue (Some part))
]

-- So behind the drive a full queue is full, but of an interface that sends.
pub IsFull-driven : (cycle : ℕ) (parts : List Part) (end : ChannelEnd)
    → (IsSending cycle parts end.ni.0 → ⊥) → IsFull parts end
    → IsFull (interfaces_driven cycle parts) end
IsFull-driven cycle parts end mute full =
    ap (λ (found : Option Part). option_map_or (told_by end.queue room_left) found 0)
    (slice_get-map (on_interface (λ ni. interface_after ni cycle)) parts end.ni.0)
    ∙ found-driven cycle end.queue (slice_get parts end.ni.0)
    (λ part at sends. mute (part, at, sends)) ∙ full

-- What happens at other interfaces changes no room.
slice_get-switched : (events : List Event) (parts : List Part) (number : ℕ)
    → (HasEvent events number → ⊥) → slice_get (switched events parts) number ≡ slice_get parts number
slice_get-switched [] parts number none = refl
slice_get-switched (event ∷ events) parts number none =
    let rest = list_any (λ event. event_part event == number) events in
    slice_get-switched events (happened parts event) number
    (λ is. none (ap (λ b. (event_part event == number) || b) is ∙ or-true (event_part event == number)))
    ∙ slice_get-with_part_other parts (event_part event) number (on_interface (event_done event))
    (λ same. none (ap (λ b. b || rest) (eq-eqb (event_part event) number (sym same))))

pub IsFull-switched : (events : List Event) (parts : List Part) (end : ChannelEnd)
    → (HasEvent events end.ni.0 → ⊥) → IsFull parts end → IsFull (switched events parts) end
IsFull-switched events parts end none full =
    ap (λ (found : Option Part). option_map_or (told_by end.queue room_left) found 0)
    (slice_get-switched events parts end.ni.0 none)
    ∙ full

-- A router or a stage that comes into the place of a component has no room.
pub IsFull-replaced : (number : ℕ) (part : Part) → ((queue : ℕ) → told_by queue room_left part ≡ 0)
    → (parts : List Part) (other queue : ℕ)
    → option_map_or (told_by queue room_left) (slice_get parts other) 0 ≡ 0
    → option_map_or (told_by queue room_left) (slice_get (set parts number part) other) 0 ≡ 0
IsFull-replaced number part none [] other queue full = full
IsFull-replaced zero part none (first ∷ parts) zero queue full = none queue
IsFull-replaced zero part none (first ∷ parts) (suc other) queue full = full
IsFull-replaced (suc number) part none (first ∷ parts) zero queue full = full
IsFull-replaced (suc number) part none (first ∷ parts) (suc other) queue full =
    IsFull-replaced number part none parts other queue full
