-- What the events of a cycle do to one queue.
use Rattle.std.proofs.Common.{ℕ, zero, suc, ◌≡◌, refl, sym, ◌∙◌, ap, subst, arith, List, [], ◌∷◌}
use Rattle.std.proofs.Common.{Some, map, slice_get}
use Rattle.std.proofs.lemmas.Option.{same_Some}
use Rattle.aeth_ni.specs.declared.write.Write.TheVariants.{ClearSlot, ClearRoute, SetRoute, SetSlot}
use Rattle.aeth_ni.specs.Interface.{InterfaceState}
use Rattle.aeth_ni.specs.Queue.{QueueState, finished, stopped, with_route, without_route}
use Rattle.aeth_router.specs.declared.part.Part.{Part}
use Rattle.aeth_router.specs.declared.part.Part.TheVariants.{Interface, Router, Stage, TableRouter}
use Rattle.aeth_components.specs.declared.channel_state.ChannelEnd.{ChannelEnd}
use Rattle.aeth_components.specs.declared.event.Event.{Event}
use Rattle.aeth_components.specs.declared.event.Event.TheVariants.{Halt, Finish, Change}
use Rattle.aeth_components.specs.Changes.{at_end, happened, on_interface, switched, with_part}
use Rattle.aeth_components.specs.Wirings.{Wiring, wiring_of}
use Rattle.aeth_components.specs.Switching.{SwitchesAlone, Touches, event_end, queue_done}
use Rattle.aeth_components.specs.View.{HasQueue, queue_of}
use Rattle.aeth_components.proofs.AloneLemmas.{queue_of-at_end_other, queue_of-at_end_same}
use Rattle.aeth_components.proofs.PartLemmas.{wirings-happened}

-- A change that keeps the queues of an interface changes no queue.
queue_of-kept : (parts : List Part) (number : ℕ) (change : InterfaceState → InterfaceState)
    → ((ni : InterfaceState) → (change ni).queues ≡ ni.queues) → (ni queue : ℕ)
    → queue_of (with_part number (on_interface change) parts) ni queue ≡ queue_of parts ni queue
queue_of-kept [] number change kept ni queue = refl
queue_of-kept (Interface state ∷ parts) zero change kept zero queue = rw (kept state) refl
queue_of-kept (Router router ∷ parts) zero change kept zero queue = refl
queue_of-kept (TableRouter router ∷ parts) zero change kept zero queue = refl
queue_of-kept (Stage stage ∷ parts) zero change kept zero queue = refl
queue_of-kept (part ∷ parts) zero change kept (suc ni) queue = refl
queue_of-kept (part ∷ parts) (suc number) change kept zero queue = refl
queue_of-kept (part ∷ parts) (suc number) change kept (suc ni) queue =
    queue_of-kept parts number change kept ni queue

-- What one event does to a queue that it doesn't change.
touched-end : (parts : List Part) (end : ChannelEnd) (change : QueueState → QueueState) (event : Event)
    (ni queue : ℕ) → event_end event ≡ Some end → (Touches event ni queue → ⊥)
    → queue_of (at_end end change parts) ni queue ≡ queue_of parts ni queue
touched-end parts end change event ni queue is none =
    queue_of-at_end_other parts end change ni queue
    (λ uses. none (record { end = end; is = is; at_ni = sym uses.0; at_queue = sym uses.1 }))

pub queue_of-happened_other : (parts : List Part) (event : Event) (ni queue : ℕ)
    → (Touches event ni queue → ⊥)
    → queue_of (happened parts event) ni queue ≡ queue_of parts ni queue
queue_of-happened_other parts (Halt end) ni queue none =
    touched-end parts end stopped (Halt end) ni queue refl none
queue_of-happened_other parts (Finish end) ni queue none =
    touched-end parts end finished (Finish end) ni queue refl none
queue_of-happened_other parts (Change (ClearSlot to slot)) ni queue none =
    queue_of-kept parts to.0 _ (λ state. refl) ni queue
queue_of-happened_other parts (Change (ClearRoute to number)) ni queue none =
    touched-end parts (record { ni = to; queue = number }) without_route
    (Change (ClearRoute to number)) ni
    queue refl none
queue_of-happened_other parts (Change (SetRoute to number route remote credits)) ni queue none =
    touched-end parts (record { ni = to; queue = number })
    (with_route (record { ports = route; remote = remote }) credits)
    (Change (SetRoute to number route remote credits)) ni queue refl none
queue_of-happened_other parts (Change (SetSlot to slot number)) ni queue none =
    queue_of-kept parts to.0 _ (λ state. refl) ni queue

-- What it does to the one that it changes.
same-end : (parts : List Part) (some end : ChannelEnd) (change : QueueState → QueueState)
    → Some some ≡ Some end → HasQueue (map wiring_of parts) end
    → queue_of (at_end some change parts) end.ni.0 end.queue
    ≡ change (queue_of parts end.ni.0 end.queue)
same-end parts some end change is has =
    ap (λ (other : ChannelEnd). queue_of (at_end other change parts) end.ni.0 end.queue)
    (same_Some some end is)
    ∙ queue_of-at_end_same parts end change has

queue_of-happened_same : (parts : List Part) (event : Event) (end : ChannelEnd)
    → event_end event ≡ Some end → HasQueue (map wiring_of parts) end
    → queue_of (happened parts event) end.ni.0 end.queue
    ≡ queue_done event (queue_of parts end.ni.0 end.queue)
queue_of-happened_same parts (Halt some) end is has =
    same-end parts some end stopped is has
queue_of-happened_same parts (Finish some) end is has =
    same-end parts some end finished is has
queue_of-happened_same parts (Change (ClearSlot to slot)) end is has = absurd cc
queue_of-happened_same parts (Change (ClearRoute to number)) end is has =
    same-end parts (record { ni = to; queue = number }) end without_route is has
queue_of-happened_same parts (Change (SetRoute to number route remote credits)) end is has =
    same-end parts (record { ni = to; queue = number }) end
    (with_route (record { ports = route; remote = remote }) credits) is has
queue_of-happened_same parts (Change (SetSlot to slot number)) end is has = absurd cc

-- What many do.
queue_of-switched_other : (events : List Event) (parts : List Part) (ni queue : ℕ)
    → ((i : ℕ) (event : Event) → slice_get events i ≡ Some event → Touches event ni queue → ⊥)
    → queue_of (switched events parts) ni queue ≡ queue_of parts ni queue
queue_of-switched_other [] parts ni queue none = refl
queue_of-switched_other (event ∷ events) parts ni queue none =
    queue_of-switched_other events (happened parts event) ni queue
    (λ i other at. none (suc i) other at)
    ∙ queue_of-happened_other parts event ni queue (none 0 event refl)

queue_of-switched_same : (events : List Event) (parts : List Part) (i : ℕ) (event : Event)
    (end : ChannelEnd) → slice_get events i ≡ Some event → event_end event ≡ Some end
    → HasQueue (map wiring_of parts) end
    → ((j : ℕ) (other : Event) → slice_get events j ≡ Some other
    → Touches other end.ni.0 end.queue → j ≡ i)
    → queue_of (switched events parts) end.ni.0 end.queue
    ≡ queue_done event (queue_of parts end.ni.0 end.queue)
queue_of-switched_same [] parts i event end at is has alone = absurd cc
queue_of-switched_same (first ∷ events) parts zero event end at is has alone =
    let same : first ≡ event = same_Some first event at in
    queue_of-switched_other events (happened parts first) end.ni.0 end.queue
    (λ j other there touches.
    absurd (let place = alone (suc j) other there touches in omega arith))
    ∙ ap (λ (event : Event). queue_of (happened parts event) end.ni.0 end.queue) same
    ∙ queue_of-happened_same parts event end is has
queue_of-switched_same (first ∷ events) parts (suc i) event end at is has alone =
    queue_of-switched_same events (happened parts first) i event end at is
    (subst (λ (wirings : List Wiring). HasQueue wirings end) (sym (wirings-happened first parts))
    has)
    (λ j other there touches.
    let place = alone (suc j) other there touches in omega arith)
    ∙ ap (queue_done event) (queue_of-happened_other parts first end.ni.0 end.queue
    (λ touches. absurd (let place = alone 0 first refl touches in omega arith)))

pub SwitchesAlone-holds : (events : List Event) (parts : List Part) → SwitchesAlone events parts
SwitchesAlone-holds events parts = record {
  other = queue_of-switched_other events parts;
  own = queue_of-switched_same events parts;
}
