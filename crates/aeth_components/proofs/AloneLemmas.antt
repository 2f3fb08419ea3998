-- Where no two open channel states share a queue, what each does in its turn it does alone.
use Rattle.std.proofs.Common.{ℕ, zero, suc, ◌≡◌, ◌≢◌, ◌<◌, refl, sym, ◌∙◌, ap, subst, arith, inl}
use Rattle.std.proofs.Common.{inr, map, length, List, [], ◌∷◌, Option, Some, slice_get}
use Rattle.std.proofs.Common.{get_or-set_other}
use Rattle.std.proofs.lemmas.{Bool.cases_eq, Option.same_Some}
use Rattle.std.specs.Option.{option_map_or}
use Rattle.aeth_router.specs.declared.part.Part.{Part}
use Rattle.aeth_router.specs.declared.part.Part.TheVariants.{Interface, Router, Stage, TableRouter}
use Rattle.aeth_components.specs.declared.channel_state.ChannelEnd.{ChannelEnd}
use Rattle.aeth_components.specs.Changes.{at_end, on_interface, told_at, told_by, with_part}
use Rattle.aeth_components.specs.Wirings.{Wiring, InterfaceWiring, wiring_of}
use Rattle.aeth_components.specs.View.{HasQueue, queue_in, queue_of}
use Rattle.aeth_components.proofs.QueueLemmas.{queue_at-changed}
use Rattle.aeth_ni.specs.Interface.{InterfaceState, changed, queue_at}
use Rattle.aeth_ni.specs.Queue.{QueueState, empty_queue}

-- The component that has changed, and any other.
pub slice_get-with_part_same : (parts : List Part) (number : ℕ) (change : Part → Part) (part : Part)
    → slice_get parts number ≡ Some part
    → slice_get (with_part number change parts) number ≡ Some (change part)
slice_get-with_part_same [] number change part at = absurd cc
slice_get-with_part_same (first ∷ parts) zero change part at =
    ap (λ (part : Part). Some (change part)) (same_Some first part at)
slice_get-with_part_same (first ∷ parts) (suc number) change part at =
    slice_get-with_part_same parts number change part at

pub slice_get-with_part_other : (parts : List Part) (number other : ℕ) (change : Part → Part)
    → other ≢ number → slice_get (with_part number change parts) other ≡ slice_get parts other
slice_get-with_part_other [] number other change apart = refl
slice_get-with_part_other (part ∷ parts) zero zero change apart = absurd (apart refl)
slice_get-with_part_other (part ∷ parts) zero (suc other) change apart = refl
slice_get-with_part_other (part ∷ parts) (suc number) zero change apart = refl
slice_get-with_part_other (part ∷ parts) (suc number) (suc other) change apart =
    slice_get-with_part_other parts number other change (λ same. apart (ap (λ n. suc n) same))

-- The interface of an end.
face_in : (part : Part) (number : _) (leaving entering : _) (slots queues : ℕ)
    → wiring_of part ≡ InterfaceWiring number leaving entering slots queues
    → (ni : InterfaceState) × (part ≡ Interface ni) × (length ni.queues ≡ queues)
face_in (Interface ni) number leaving entering slots queues is = (ni, refl, cc)
face_in (Router router) number leaving entering slots queues is = absurd cc
face_in (TableRouter router) number leaving entering slots queues is = absurd cc
face_in (Stage stage) number leaving entering slots queues is = absurd cc

pub interface-at : (parts : List Part) (number : ℕ) (wiring : Wiring)
    → slice_get (map wiring_of parts) number ≡ Some wiring
    → (part : Part) × (slice_get parts number ≡ Some part) × (wiring_of part ≡ wiring)
interface-at [] number wiring at = absurd cc
interface-at (part ∷ parts) zero wiring at = (part, refl, same_Some (wiring_of part) wiring at)
interface-at (part ∷ parts) (suc number) wiring at = interface-at parts number wiring at

pub interface-of : (parts : List Part) (end : ChannelEnd) → HasQueue (map wiring_of parts) end
    → (ni : InterfaceState) × (slice_get parts end.ni.0 ≡ Some (Interface ni))
    × (end.queue < length ni.queues)
interface-of parts end has =
    let found = interface-at parts end.ni.0
    (InterfaceWiring has.number has.leaving has.entering has.slots has.queues) has.face in
    let face = face_in found.0 has.number has.leaving has.entering has.slots has.queues found.2 in
    let within = has.within in
    let size = face.2 in
    (face.0, found.1 ∙ ap (λ (part : Part). Some part) face.1, omega arith)

-- The queue that has changed.
pub queue_of-at_end_same : (parts : List Part) (end : ChannelEnd) (change : QueueState → QueueState)
    → HasQueue (map wiring_of parts) end
    → queue_of (at_end end change parts) end.ni.0 end.queue
    ≡ change (queue_of parts end.ni.0 end.queue)
queue_of-at_end_same parts end change has =
    let found = interface-of parts end has in
    ap (queue_in end.queue) (slice_get-with_part_same parts end.ni.0
    (on_interface (changed end.queue change)) (Interface found.0) found.1)
    ∙ queue_at-changed end.queue change found.0 found.2
    ∙ ap (λ (part : Option Part). change (queue_in end.queue part)) (sym found.1)

-- Any other.
queue_in-other : (part : Part) (queue other : ℕ) (change : QueueState → QueueState)
    → other ≢ queue
    → queue_in other (Some (on_interface (changed queue change) part)) ≡ queue_in other (Some part)
queue_in-other (Interface ni) queue other change apart =
    get_or-set_other ni.queues queue other (change (queue_at ni.queues queue)) (empty_queue 0)
    apart
queue_in-other (Router router) queue other change apart = refl
queue_in-other (TableRouter router) queue other change apart = refl
queue_in-other (Stage stage) queue other change apart = refl

queue_of-same_part : (parts : List Part) (number queue other : ℕ)
    (change : QueueState → QueueState) → other ≢ queue
    → queue_in other
    (slice_get (with_part number (on_interface (changed queue change)) parts) number)
    ≡ queue_in other (slice_get parts number)
queue_of-same_part [] number queue other change apart = refl
queue_of-same_part (part ∷ parts) zero queue other change apart =
    queue_in-other part queue other change apart
queue_of-same_part (part ∷ parts) (suc number) queue other change apart =
    queue_of-same_part parts number queue other change apart

pub queue_of-at_end_other : (parts : List Part) (end : ChannelEnd) (change : QueueState → QueueState)
    (ni queue : ℕ) → ((ni ≡ end.ni.0) × (queue ≡ end.queue) → ⊥)
    → queue_of (at_end end change parts) ni queue ≡ queue_of parts ni queue
queue_of-at_end_other parts end change ni queue apart =
    elim (cases_eq ni end.ni.0) [
      | inl same ↦
          subst (λ n. queue_of (at_end end change parts) n queue ≡ queue_of parts n queue)
          (sym same)
          (queue_of-same_part parts end.ni.0 end.queue queue change
          (λ there. apart (same, there)))
      | inr other ↦
          ap (queue_in queue) (slice_get-with_part_other parts end.ni.0 ni
          (on_interface (changed end.queue change)) other)
    ]

-- What a queue tells.
pub told_at-queue_of : (parts : List Part) (end : ChannelEnd) (tells : QueueState → ℕ)
    → HasQueue (map wiring_of parts) end
    → told_at end tells parts ≡ tells (queue_of parts end.ni.0 end.queue)
told_at-queue_of parts end tells has =
    let found = interface-of parts end has in
    ap (λ (part : Option Part). option_map_or (told_by end.queue tells) part 0) found.1
    ∙ ap (λ (part : Option Part). tells (queue_in end.queue part)) (sym found.1)
