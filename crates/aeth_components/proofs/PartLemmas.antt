-- Laws of a change of one component.
use Rattle.std.proofs.Common.{ℕ, zero, suc, ◌≡◌, ◌<◌, ◌+◌, take, refl, sym, ◌∙◌, ap, arith, List}
use Rattle.std.proofs.Common.{[], ◌∷◌, length, map, fold, get_or, set, Option, Some, slice_get}
use Rattle.std.proofs.Common.{subst, IfSome, length-set}
use Rattle.std.proofs.lemmas.List.{length-map, take_more, Sums.fold_push}
use Rattle.std.proofs.lemmas.Option.{slice_get-get_or, slice_get-map}
use Rattle.std.specs.Option.{option_map, option_map_or}
use Rattle.aeth_base.proofs.Lists.{slice_get-slice_set_same}
use Rattle.aeth_ni.specs.declared.write.Write.{Write}
use Rattle.aeth_ni.specs.declared.write.Write.TheVariants.{ClearSlot, ClearRoute, SetRoute, SetSlot}
use Rattle.aeth_ni.specs.Interface.{InterfaceState}
use Rattle.aeth_ni.specs.Queue.{finished, stopped, with_route, without_route}
use Rattle.aeth_ni.specs.Writes.{written}
use Rattle.aeth_router.specs.declared.part.Part.{Part}
use Rattle.aeth_router.specs.declared.part.Part.TheVariants.{Interface, Router, Stage, TableRouter}
use Rattle.aeth_components.specs.declared.event.Event.{Event}
use Rattle.aeth_components.specs.declared.event.Event.TheVariants.{Halt, Finish, Change}
use Rattle.aeth_components.specs.Changes.{event_done, happened, on_interface, switched, with_part}
use Rattle.aeth_components.specs.Events.{IsDoable, Suits, event_part}
use Rattle.aeth_components.specs.Wirings.{Wiring, wiring_of}
use Rattle.aeth_components.proofs.WiringLemmas.{wiring_of-changed}

-- A component that is changed at its place has changed.
pub set-with_part : (parts : List Part) (number : ℕ) (change : Part → Part) (default : Part)
    → number < length parts
    → set parts number (change (get_or parts number default)) ≡ with_part number change parts
set-with_part [] number change default within = refl
set-with_part (first ∷ parts) zero change default within = refl
set-with_part (first ∷ parts) (suc number) change default within =
    ap (λ (rest : List Part). first ∷ rest)
    (set-with_part parts number change default (omega arith))

-- What is told of it is told by it.
pub map_or-read : (parts : List Part) (number : ℕ) (tells : Part → ℕ) (default : Part)
    → number < length parts
    → option_map_or tells (slice_get parts number) 0 ≡ tells (get_or parts number default)
map_or-read parts number tells default within =
    rw (slice_get-get_or parts number default within) refl

-- The number of components stays.
pub length-with_part : (number : ℕ) (change : Part → Part) (parts : List Part)
    → length (with_part number change parts) ≡ length parts
length-with_part number change [] = refl
length-with_part zero change (part ∷ parts) = refl
length-with_part (suc number) change (part ∷ parts) =
    ap (λ n. suc n) (length-with_part number change parts)

-- A change that changes nothing of the component at its place changes none.
pub with_part-same : (number : ℕ) (change : Part → Part) (parts : List Part)
    → ((part : Part) → slice_get parts number ≡ Some part → change part ≡ part)
    → with_part number change parts ≡ parts
with_part-same number change [] same = refl
with_part-same zero change (part ∷ parts) same =
    ap (λ (part : Part). part ∷ parts) (same part refl)
with_part-same (suc number) change (part ∷ parts) same =
    ap (λ (rest : List Part). part ∷ rest)
    (with_part-same number change parts (λ other at. same other at))

-- What a change keeps of each component it keeps of all.
module _ {X : Type 0} (view : Part → X) where
  pub views-with_part : (number : ℕ) (change : Part → Part)
      → ((part : Part) → view (change part) ≡ view part) → (parts : List Part)
      → map view (with_part number change parts) ≡ map view parts
  views-with_part number change kept [] = refl
  views-with_part zero change kept (part ∷ parts) =
      ap (λ (first : X). first ∷ map view parts) (kept part)
  views-with_part (suc number) change kept (part ∷ parts) =
      ap (λ (rest : List X). view part ∷ rest) (views-with_part number change kept parts)

  -- So do events.
  pub views-switched : ((event : Event) (part : Part)
      → view (on_interface (event_done event) part) ≡ view part)
      → (events : List Event) (parts : List Part)
      → map view (switched events parts) ≡ map view parts
  views-switched kept [] parts = refl
  views-switched kept (event ∷ events) parts =
      views-switched kept events (happened parts event)
      ∙ views-with_part (event_part event) (on_interface (event_done event)) (kept event) parts

-- So it is with wirings.
pub wirings-with_part : (number : ℕ) (change : Part → Part)
    → ((part : Part) → wiring_of (change part) ≡ wiring_of part) → (parts : List Part)
    → map wiring_of (with_part number change parts) ≡ map wiring_of parts
wirings-with_part = views-with_part wiring_of

-- No event changes a wiring.
wiring_of-written : (write : Write) (ni : InterfaceState)
    → wiring_of (Interface (written write ni)) ≡ wiring_of (Interface ni)
wiring_of-written (ClearSlot to slot) ni = rw (length-set ni.entries slot) refl
wiring_of-written (ClearRoute to queue) ni = wiring_of-changed queue without_route ni
wiring_of-written (SetRoute to queue route remote credits) ni =
    wiring_of-changed queue (with_route (record { ports = route; remote = remote }) credits) ni
wiring_of-written (SetSlot to slot queue) ni = rw (length-set ni.entries slot) refl

wiring_of-event : (event : Event) (part : Part)
    → wiring_of (on_interface (event_done event) part) ≡ wiring_of part
wiring_of-event event (Router router) = refl
wiring_of-event event (TableRouter router) = refl
wiring_of-event event (Stage stage) = refl
wiring_of-event (Halt end) (Interface ni) = wiring_of-changed end.queue stopped ni
wiring_of-event (Finish end) (Interface ni) = wiring_of-changed end.queue finished ni
wiring_of-event (Change write) (Interface ni) = wiring_of-written write ni

pub wirings-happened : (event : Event) (parts : List Part)
    → map wiring_of (happened parts event) ≡ map wiring_of parts
wirings-happened event parts =
    wirings-with_part (event_part event) (on_interface (event_done event)) (wiring_of-event event)
    parts

-- Nor do many.
pub wirings-switched : (events : List Event) (parts : List Part)
    → map wiring_of (switched events parts) ≡ map wiring_of parts
wirings-switched = views-switched wiring_of wiring_of-event

-- An event is done at its component.
pub happened-set : (event : Event) (before now : List Part) (number : ℕ) (other new : Part)
    → map wiring_of now ≡ map wiring_of before → number ≡ event_part event
    → IsDoable (map wiring_of before) event
    → new ≡ on_interface (event_done event) (get_or now number other)
    → set now number new ≡ happened now event
happened-set event before now number other new wired_for is doable to =
    let there = doable.part in
    let wirings = ap length wired_for in
    let size = length-map now wiring_of in
    let bound : number < length now = omega arith in
    ap (set now number) to
    ∙ set-with_part now number (on_interface (event_done event)) other bound
    ∙ ap (λ n. with_part n (on_interface (event_done event)) now) is

-- There the component is found behind it.
pub happened-there : (event : Event) (before now : List Part) (number : ℕ) (other new : Part)
    → map wiring_of now ≡ map wiring_of before → number ≡ event_part event
    → IsDoable (map wiring_of before) event
    → new ≡ on_interface (event_done event) (get_or now number other)
    → slice_get (happened now event) (event_part event) ≡ Some new
happened-there event before now number other new wired_for is doable to =
    let there = doable.part in
    let wirings = ap length wired_for in
    let size = length-map now wiring_of in
    let bound : number < length now = omega arith in
    ap (λ (parts : List Part). slice_get parts (event_part event))
    (sym (happened-set event before now number other new wired_for is doable to))
    ∙ ap (slice_get (set now number new)) (sym is)
    ∙ slice_get-slice_set_same now number new bound

-- One event more is done.
pub switched-more : (events : List Event) (before now : List Part) (place : ℕ) (default : Event)
    (number : ℕ) (other new : Part) → place < length events
    → now ≡ switched (take place events) before
    → number ≡ event_part (get_or events place default)
    → IsDoable (map wiring_of before) (get_or events place default)
    → new ≡ on_interface (event_done (get_or events place default)) (get_or now number other)
    → set now number new ≡ switched (take (place + 1) events) before
switched-more events before now place default number other new within so_far is doable to =
    let event = get_or events place default in
    happened-set event before now number other new
    (ap (map wiring_of) so_far ∙ wirings-switched (take place events) before) is doable to
    ∙ ap (λ (parts : List Part). happened parts event) so_far
    ∙ sym (fold_push happened before (take place events) event)
    ∙ ap (fold happened before) (sym (take_more events place default within))

-- What an event needs of its component, the component has.
pub Suits-read : (event : Event) (parts now : List Part) (number : ℕ) (default : Part)
    → map wiring_of now ≡ map wiring_of parts → IsDoable (map wiring_of parts) event
    → number ≡ event_part event → Suits event (wiring_of (get_or now number default))
Suits-read event parts now number default wirings doable is =
    let part = doable.part in
    let before = length-map parts wiring_of in
    let after = length-map now wiring_of in
    let same : length (map wiring_of now) ≡ length (map wiring_of parts) = ap length wirings in
    let within : number < length now = omega arith in
    let found : slice_get (map wiring_of parts) (event_part event)
    ≡ Some (wiring_of (get_or now number default)) =
    ap (λ (list : List Wiring). slice_get list (event_part event)) (sym wirings)
    ∙ ap (slice_get (map wiring_of now)) (sym is)
    ∙ slice_get-map wiring_of now number
    ∙ ap (option_map wiring_of) (slice_get-get_or now number default within) in
    subst (λ (wiring : Option Wiring). IfSome wiring (Suits event)) found doable.suits
