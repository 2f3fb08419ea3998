-- Tables of routers: what leaves them, and what a change of tables leaves.
use Rattle.std.proofs.Common.{◌≡◌, ◌∙◌, ℕ, List, [], None, Option, Some, refl, sym, ap, map}
use Rattle.std.proofs.Common.{slice_get, ◌==◌, option_map, position}
use Rattle.std.proofs.lemmas.Option.{slice_get-map}
use Rattle.aeth_clocked.specs.{Wires.flit_on, declared.flit.Flit.Flit}
use Rattle.aeth_ni.specs.{Interface.InterfaceState, Interface.changed, Queue.QueueState}
use Rattle.aeth_router.specs.Part.{absorb_of, after_of}
use Rattle.aeth_router.specs.Router.{RouterState}
use Rattle.aeth_router.specs.Stage.{StageState}
use Rattle.aeth_router.specs.TableRouter.{TableRouterState}
use Rattle.aeth_router.specs.declared.part.Part.{Part}
use Rattle.aeth_router.specs.declared.part.Part.TheVariants.{Interface, Router, Stage, TableRouter}
use Rattle.aeth_components.proofs.WiringLemmas.{from-map, views-map}
use Rattle.aeth_components.specs.{Changes.on_interface, Changes.switched}
use Rattle.aeth_components.specs.{Components.ComponentsState, Components.ComponentsCycle}
use Rattle.aeth_components.specs.{Components.driven_from, Components.latched_of}
use Rattle.aeth_components.specs.{Components.moment_of, Components.ready_of}
use Rattle.aeth_components.specs.{Components.switched_from, Wirings.wiring_of, Phases.Moment}
use Rattle.aeth_components.specs.{Phases.in_turn, Phases.pulled, Switching.entry_in, View.queue_in}
use Rattle.aeth_components.specs.{declared.event.Event.Event}
use Rattle.aeth_invariant.specs.RoutedSessions.{RoutedSessions}
use Rattle.aeth_refinement.proofs.Kept.{kept-refilling, kept-switched, kept-taking}
use Rattle.aeth_refinement.specs.Routed.{AreRoutedBy, IsRoutedBy, table_from, table_in}
use Rattle.aeth_refinement.specs.Routed.{without_table}
use Rattle.aeth_refinement.specs.View.{HaveLatched, net_of}

-- ---- a cycle keeps tables

table_in-interface : (change : InterfaceState → InterfaceState) (part : Part)
    → table_in (on_interface change part) ≡ table_in part
table_in-interface change (Interface ni) = refl
table_in-interface change (Router router) = refl
table_in-interface change (TableRouter router) = refl
table_in-interface change (Stage stage) = refl

table_in-changed : (queue : ℕ) (change : QueueState → QueueState) (part : Part)
    → table_in (on_interface (changed queue change) part) ≡ table_in part
table_in-changed queue change part = table_in-interface (changed queue change) part

table_in-after : (cycle : ℕ) (part : Part) → table_in (after_of part cycle) ≡ table_in part
table_in-after cycle (Interface ni) = refl
table_in-after cycle (Router router) = refl
table_in-after cycle (TableRouter router) = refl
table_in-after cycle (Stage stage) = refl

table_in-absorb : (wires : List (Option Flit)) (part : Part)
    → table_in (absorb_of part wires) ≡ table_in part
table_in-absorb wires (Interface ni) = refl
table_in-absorb wires (Router router) = refl
table_in-absorb wires (TableRouter router) = refl
table_in-absorb wires (Stage stage) = refl

pub tables-switched : (events : List Event) (parts : List Part)
    → map table_in (switched events parts) ≡ map table_in parts
tables-switched = kept-switched table_in table_in-interface

-- Before the drive, and behind the latch.
pub tables-ready : (words : List ℕ) (events : List Event) (cycle : ℕ) (moment : Moment)
    → map table_in (ready_of words events cycle moment).parts ≡ map table_in moment.parts
tables-ready words events cycle moment =
    kept-refilling table_in table_in-changed words cycle (switched_from events moment)
    ∙ tables-switched events moment.parts

pub tables-latched : (words : List ℕ) (events : List Event) (cycle : ℕ) (wires : List (Option Flit))
    (moment : Moment) → map table_in (latched_of words events cycle wires moment).parts
    ≡ map table_in moment.parts
tables-latched words events cycle wires moment =
    let ready = ready_of words events cycle moment in
    let driven = driven_from cycle ready in
    views-map table_in (λ part. absorb_of part wires) (table_in-absorb wires)
    (in_turn (pulled cycle) driven).parts
    ∙ kept-taking table_in table_in-changed cycle driven
    ∙ views-map table_in (λ part. after_of part cycle) (table_in-after cycle) ready.parts
    ∙ tables-ready words events cycle moment

pub tables-kept : (events : List Event) (cycle : ℕ) (old new : ComponentsState)
    → ComponentsCycle events cycle old new → map table_in new.parts ≡ map table_in old.parts
tables-kept events cycle old new does =
    ap (map table_in) does.parts
    ∙ tables-latched old.words events cycle new.wires (moment_of old)

-- A table stands in other components with the same tables.
table-of : (part : Part) (router : TableRouterState)
    → Some (record router { held = [] }) ≡ table_in part
    → (own : TableRouterState) × (part ≡ TableRouter own)
    × (record router { held = [] } ≡ record own { held = [] })
table-of (Interface ni) router is = absurd (cc is)
table-of (Router own) router is = absurd (cc is)
table-of (TableRouter own) router is = (own, refl, cc is)
table-of (Stage stage) router is = absurd (cc is)

pub table-there : (one other : List Part) → map table_in one ≡ map table_in other → (i : ℕ)
    (router : TableRouterState) → slice_get one i ≡ Some (TableRouter router)
    → (own : TableRouterState) × (slice_get other i ≡ Some (TableRouter own))
    × (record router { held = [] } ≡ record own { held = [] })
table-there one other same i router at =
    let found = from-map table_in other i (table_in (TableRouter router))
    (ap (λ (tables : List (Option TableRouterState)). slice_get tables i) (sym same)
    ∙ slice_get-map table_in one i ∙ ap (option_map table_in) at) in
    let own = table-of found.0 router found.2 in
    (own.0, found.1 ∙ ap (λ (part : Part). Some part) own.1, own.2)

-- So routers are routed as before.
routed-bare : (sessions : RoutedSessions) (t : ℕ) (one other : TableRouterState)
    → record one { held = [] } ≡ record other { held = [] } → IsRoutedBy sessions t other
    → IsRoutedBy sessions t one
routed-bare sessions t one other same routed = record {
  some_slots = routed.some_slots;
  from = routed.from;
  entries = routed.entries;
  own = λ l port at.
      routed.own l port
      (ap (λ (router : TableRouterState). position (λ wire. wire == l) router.outgoing) (sym same)
      ∙ at)
      ∙ ap (λ (router : TableRouterState). table_from router t port) (sym same);
}

pub routed-same : (sessions : RoutedSessions) (t : ℕ) (one other : List Part)
    → map table_in one ≡ map table_in other → AreRoutedBy sessions t other
    → AreRoutedBy sessions t one
routed-same sessions t one other same routed i router at =
    let own = table-there one other same i router at in
    routed-bare sessions t router own.0 own.2 (routed i own.0 own.1)

-- ---- a change of tables keeps all else

wiring_of-without : (part : Part) → wiring_of part ≡ wiring_of (without_table part)
wiring_of-without (Interface ni) = refl
wiring_of-without (Router router) = refl
wiring_of-without (TableRouter router) = refl
wiring_of-without (Stage stage) = refl

entry_in-without : (slot : ℕ) (part : Option Part)
    → entry_in slot part ≡ entry_in slot (option_map without_table part)
entry_in-without slot None = refl
entry_in-without slot (Some (Interface ni)) = refl
entry_in-without slot (Some (Router router)) = refl
entry_in-without slot (Some (TableRouter router)) = refl
entry_in-without slot (Some (Stage stage)) = refl

queue_in-without : (queue : ℕ) (part : Option Part)
    → queue_in queue part ≡ queue_in queue (option_map without_table part)
queue_in-without queue None = refl
queue_in-without queue (Some (Interface ni)) = refl
queue_in-without queue (Some (Router router)) = refl
queue_in-without queue (Some (TableRouter router)) = refl
queue_in-without queue (Some (Stage stage)) = refl

-- Components that are the same without their tables.
is-stage : (part : Part) (stage : StageState) → Stage stage ≡ without_table part
    → part ≡ Stage stage
is-stage (Interface ni) stage is = absurd (cc is)
is-stage (Router router) stage is = absurd (cc is)
is-stage (TableRouter router) stage is = absurd (cc is)
is-stage (Stage own) stage is = cc is

is-interface : (part : Part) (ni : InterfaceState) → Interface ni ≡ without_table part
    → part ≡ Interface ni
is-interface (Interface own) ni is = cc is
is-interface (Router router) ni is = absurd (cc is)
is-interface (TableRouter router) ni is = absurd (cc is)
is-interface (Stage stage) ni is = absurd (cc is)

-- What holds of a router without its table.
latched-part : (parts : List Part) (wires : List (Option Flit)) → HaveLatched parts wires → (i : ℕ)
    (part : Part) → slice_get parts i ≡ Some part → (router : RouterState)
    → Router router ≡ without_table part → router.held ≡ map (flit_on wires) router.incoming
latched-part parts wires held i (Interface ni) at router is = absurd (cc is)
latched-part parts wires held i (Router own) at router is =
    let same : router ≡ own = cc is in
    ap (λ (r : RouterState). r.held) same ∙ held.routers i own at
    ∙ sym (ap (λ (r : RouterState). map (flit_on wires) r.incoming) same)
latched-part parts wires held i (TableRouter own) at router is =
    let bare : RouterState = record {
      incoming = own.incoming;
      outgoing = own.outgoing;
      held = own.held;
    } in
    let same : router ≡ bare = cc is in
    ap (λ (r : RouterState). r.held) same ∙ held.tables i own at
    ∙ sym (ap (λ (r : RouterState). map (flit_on wires) r.incoming) same)
latched-part parts wires held i (Stage stage) at router is = absurd (cc is)

module _ (one other : List Part) (same : map without_table one ≡ map without_table other) where
  pub wirings-but_tables : map wiring_of one ≡ map wiring_of other
  wirings-but_tables =
      sym (views-map wiring_of without_table (λ part. sym (wiring_of-without part)) one)
      ∙ ap (map wiring_of) same
      ∙ views-map wiring_of without_table (λ part. sym (wiring_of-without part)) other

  at-place : (i : ℕ)
      → option_map without_table (slice_get one i) ≡ option_map without_table (slice_get other i)
  at-place i =
      sym (slice_get-map without_table one i) ∙ ap (λ (parts : List Part). slice_get parts i) same
      ∙ slice_get-map without_table other i

  pub net-but_tables : (enqueued : ℕ → ℕ) (wires : List (Option Flit))
      → net_of enqueued one wires ≡ net_of enqueued other wires
  net-but_tables enqueued wires =
      let entries = λ (n x : ℕ). entry_in-without x (slice_get one n)
      ∙ ap (entry_in x) (at-place n) ∙ sym (entry_in-without x (slice_get other n)) in
      let queues = λ (n q : ℕ). queue_in-without q (slice_get one n)
      ∙ ap (queue_in q) (at-place n) ∙ sym (queue_in-without q (slice_get other n)) in
      λ i. record {
        entry = λ n x. entries n x i;
        queue = λ n q. queues n q i;
        held = flit_on wires;
        enqueued = enqueued;
      }

  found-at : (i : ℕ) (part : Part) → slice_get one i ≡ Some part
      → slice_get (map without_table other) i ≡ Some (without_table part)
  found-at i part at =
      ap (λ (parts : List Part). slice_get parts i) (sym same)
      ∙ slice_get-map without_table one i ∙ ap (option_map without_table) at

  -- An interface is in its place.
  pub interface-there : (i : ℕ) (ni : InterfaceState) → slice_get one i ≡ Some (Interface ni)
      → slice_get other i ≡ Some (Interface ni)
  interface-there i ni at =
      let found = from-map without_table other i (Interface ni) (found-at i _ at) in
      found.1 ∙ ap (λ (part : Part). Some part) (is-interface found.0 ni found.2)

  pub latched-but_tables : (wires : List (Option Flit)) → HaveLatched other wires
      → HaveLatched one wires
  latched-but_tables wires held = record {
    routers = λ i router at.
        let found = from-map without_table other i (Router router) (found-at i _ at) in
        latched-part other wires held i found.0 found.1 router found.2;
    tables = λ i router at.
        let found = from-map without_table other i _ (found-at i (TableRouter router) at) in
        latched-part other wires held i found.0 found.1 _ found.2;
    stages = λ i stage at.
        let found = from-map without_table other i (Stage stage) (found-at i _ at) in
        held.stages i stage (found.1 ∙ ap (λ (part : Part). Some part)
        (is-stage found.0 stage found.2));
  }
