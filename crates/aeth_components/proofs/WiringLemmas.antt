-- Laws of what never changes of components.
use Rattle.std.proofs.Common.{ℕ, ◌≡◌, refl, sym, ◌∙◌, ap, length, map, Bool, List, [], ◌∷◌, get_or}
use Rattle.std.proofs.Common.{Option, Some, None, ◌<◌, zero, suc, slice_get, true, IsSome}
use Rattle.std.proofs.lemmas.List.FromFn.{length-map-range_with_len}
use Rattle.std.proofs.lemmas.Option.{same_Some, slice_get-map}
use Rattle.std.specs.{List.All, Option.option_map}
use Rattle.aeth_base.proofs.Members.{All-from_map}
use Rattle.aeth_clocked.specs.{Driven.driven, Driven.is_output, Driven.AreDisjoint, Wires.AreLinks}
use Rattle.aeth_clocked.specs.{Wires.flit_on, declared.flit.Flit.Flit}
use Rattle.aeth_clocked.proofs.DrivenLemmas.{is_output-at}
use Rattle.aeth_router.specs.Part.{emit_of, absorb_of, after_of, inputs_of, outputs_of}
use Rattle.aeth_router.specs.declared.part.Part.{Part}
use Rattle.aeth_router.specs.declared.part.Part.TheVariants.{Interface, Router, Stage, TableRouter}
use Rattle.aeth_ni.proofs.InterfaceLemmas.{length-with_queue}
use Rattle.aeth_ni.specs.{Component.Arrival, Component.absorbed, Component.arrival_of}
use Rattle.aeth_ni.specs.{Component.flit_sent_by, Component.landed_at, Component.queue_at_cycle}
use Rattle.aeth_ni.specs.{Interface.InterfaceState, Interface.changed, Interface.with_queue}
use Rattle.aeth_ni.specs.{Queue.QueueState, Queue.flit_landed, Sending.flit_sent}
use Rattle.aeth_components.specs.Components.{wires_driven}
use Rattle.aeth_components.specs.Wirings.{Wiring, InterfaceWiring, IsWired, wiring_of, receives_by}
use Rattle.aeth_components.specs.Wirings.{sends_by}

-- The outputs of a component are those of its wiring, and so are its inputs.
pub outputs_of-wiring : (part : Part) (link : ℕ)
    → outputs_of part link ≡ sends_by (wiring_of part) link
outputs_of-wiring (Interface ni) link = refl
outputs_of-wiring (Router router) link = refl
outputs_of-wiring (TableRouter router) link = refl
outputs_of-wiring (Stage stage) link = refl

pub inputs_of-wiring : (part : Part) (link : ℕ)
    → inputs_of part link ≡ receives_by (wiring_of part) link
inputs_of-wiring (Interface ni) link = refl
inputs_of-wiring (Router router) link = refl
inputs_of-wiring (TableRouter router) link = refl
inputs_of-wiring (Stage stage) link = refl

module _ (links : Part → ℕ → Bool) (kinds : Wiring → ℕ → Bool)
    (same : (part : Part) (link : ℕ) → links part link ≡ kinds (wiring_of part) link) where
  -- Where the links of all wirings are links, so are those of the components.
  AreLinks-wirings : (parts : List Part) (count : ℕ)
      → All (λ wiring. AreLinks (kinds wiring) count) (map wiring_of parts)
      → All (λ part. AreLinks (links part) count) parts
  AreLinks-wirings parts count all place default within link is =
      All-from_map wiring_of (λ wiring. AreLinks (kinds wiring) count) parts all place default
      within
      link (sym (same (get_or parts place default) link) ∙ is)

  -- Where wirings have no link in common, the components have none.
  AreDisjoint-wirings : (parts : List Part)
      → AreDisjoint kinds (map wiring_of parts) → AreDisjoint links parts
  AreDisjoint-wirings parts disjoint i j link part other at there is is_too =
      disjoint i j link (wiring_of part) (wiring_of other)
      (slice_get-map wiring_of parts i ∙ ap (option_map wiring_of) at)
      (slice_get-map wiring_of parts j ∙ ap (option_map wiring_of) there)
      (sym (same part link) ∙ is) (sym (same other link) ∙ is_too)

-- What the wirings of a network keep of its components.
module _ (parts : List Part) (count : ℕ) (wired : IsWired (map wiring_of parts) count) where
  pub AreLinks-outputs : All (λ part. AreLinks (outputs_of part) count) parts
  AreLinks-outputs =
      AreLinks-wirings outputs_of sends_by outputs_of-wiring parts count wired.outputs

  pub AreLinks-inputs : All (λ part. AreLinks (inputs_of part) count) parts
  AreLinks-inputs = AreLinks-wirings inputs_of receives_by inputs_of-wiring parts count wired.inputs

  pub AreDisjoint-parts : AreDisjoint outputs_of parts
  AreDisjoint-parts =
      AreDisjoint-wirings outputs_of sends_by outputs_of-wiring parts wired.disjoint

-- How many wires are driven.
pub length-wires_driven : (parts : List Part) (count cycle : ℕ)
    → length (wires_driven parts count cycle) ≡ count
length-wires_driven parts count cycle =
    length-map-range_with_len (driven outputs_of emit_of parts cycle) 0 count

-- An item of a mapped list is that of an item.
pub from-map : {X Y : Type 0} (f : X → Y) (xs : List X) (i : ℕ) (y : Y)
    → slice_get (map f xs) i ≡ Some y → (x : X) × (slice_get xs i ≡ Some x) × (y ≡ f x)
from-map f [] i y at = absurd cc
from-map f (x ∷ xs) zero y at = (x, refl, sym (same_Some (f x) y at))
from-map f (x ∷ xs) (suc i) y at = from-map f xs i y at

-- A flit is none that can't be one.
pub none-unless : (flit : Option Flit) → (IsSome flit → ⊥) → flit ≡ None
none-unless None never = refl
none-unless (Some flit) never = absurd (never refl)

-- On each wire some component sends.
pub is_output-parts : (parts : List Part) (count : ℕ) → IsWired (map wiring_of parts) count
    → (wire : ℕ) → wire < count → is_output outputs_of parts wire ≡ true
is_output-parts parts count wired wire within =
    let owner = wired.owned wire within in
    let part = from-map wiring_of parts owner.0 owner.1 owner.2 in
    is_output-at outputs_of parts owner.0 wire part.0 part.1
    (outputs_of-wiring part.0 wire ∙ ap (λ (wiring : Wiring). sends_by wiring wire) (sym part.2)
    ∙ owner.3)

-- An interface with other queues, and as many, has the same wiring.
wiring_of-queues : (ni : InterfaceState) (queues : List QueueState)
    → length queues ≡ length ni.queues
    → wiring_of (Interface (record ni { queues = queues })) ≡ wiring_of (Interface ni)
wiring_of-queues ni queues same =
    ap (InterfaceWiring ni.number ni.leaving ni.entering (length ni.entries)) same

pub wiring_of-changed : (queue : ℕ) (change : QueueState → QueueState) (ni : InterfaceState)
    → wiring_of (Interface (changed queue change ni)) ≡ wiring_of (Interface ni)
wiring_of-changed queue change ni =
    wiring_of-queues ni (with_queue queue change ni.queues)
    (length-with_queue queue change ni.queues)

-- Emitting changes no wiring, nor does latching.
length-flit_sent_by : (entry : Option ℕ) (queues : List QueueState)
    → length (flit_sent_by entry queues) ≡ length queues
length-flit_sent_by None queues = refl
length-flit_sent_by (Some queue) queues = length-with_queue queue flit_sent queues

wiring_of-after : (part : Part) (cycle : ℕ) → wiring_of (after_of part cycle) ≡ wiring_of part
wiring_of-after (Interface ni) cycle =
    wiring_of-queues ni (flit_sent_by (queue_at_cycle ni.entries cycle) ni.queues)
    (length-flit_sent_by (queue_at_cycle ni.entries cycle) ni.queues)
wiring_of-after (Router router) cycle = refl
wiring_of-after (TableRouter router) cycle = refl
wiring_of-after (Stage stage) cycle = refl

length-landed_at : (arrival : Option Arrival) (queues : List QueueState)
    → length (landed_at arrival queues) ≡ length queues
length-landed_at None queues = refl
length-landed_at (Some arrival) queues =
    length-with_queue arrival.header.queue (flit_landed arrival.header.credits arrival.words) queues

pub wiring_of-absorbed : (arrival : Option Arrival) (ni : InterfaceState)
    → wiring_of (Interface (absorbed arrival ni)) ≡ wiring_of (Interface ni)
wiring_of-absorbed arrival ni =
    wiring_of-queues ni (landed_at arrival ni.queues) (length-landed_at arrival ni.queues)

wiring_of-absorb : (part : Part) (wires : List (Option Flit))
    → wiring_of (absorb_of part wires) ≡ wiring_of part
wiring_of-absorb (Interface ni) wires =
    wiring_of-absorbed (arrival_of (flit_on wires ni.entering.0)) ni
wiring_of-absorb (Router router) wires = refl
wiring_of-absorb (TableRouter router) wires = refl
wiring_of-absorb (Stage stage) wires = refl

-- A change of all components keeps of them what it keeps of each.
pub views-map : {X : Type 0} (view : Part → X) (change : Part → Part)
    → ((part : Part) → view (change part) ≡ view part)
    → (parts : List Part) → map view (map change parts) ≡ map view parts
views-map view change kept [] = refl
views-map view change kept (part ∷ parts) = rw (kept part, views-map view change kept parts) refl

pub wirings-after : (parts : List Part) (cycle : ℕ)
    → map wiring_of (map (λ part. after_of part cycle) parts) ≡ map wiring_of parts
wirings-after parts cycle =
    views-map wiring_of (λ part. after_of part cycle) (λ part. wiring_of-after part cycle) parts

pub wirings-absorb : (parts : List Part) (wires : List (Option Flit))
    → map wiring_of (map (λ part. absorb_of part wires) parts) ≡ map wiring_of parts
wirings-absorb parts wires =
    views-map wiring_of (λ part. absorb_of part wires) (λ part. wiring_of-absorb part wires) parts
