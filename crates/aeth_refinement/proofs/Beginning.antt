-- Empty components with the tables of the first use case run.
use Rattle.std.proofs.Common.{◌≡◌, ◌<◌, ◌∙◌, ℕ, suc, refl, sym, ap, subst, arith, inl, inr, false}
use Rattle.std.proofs.Common.{List, Some, None, length, map}
use Rattle.aeth_ni.specs.{Queue.QueueState, declared.queue.Route.Route}
use Rattle.aeth_components.proofs.PartLemmas.{wirings-switched}
use Rattle.aeth_components.specs.{Changes.switched, Components.ComponentsState}
use Rattle.aeth_components.specs.{Components.wirings_of, Wirings.Wiring, Wirings.IsWired}
use Rattle.aeth_components.specs.{Wirings.wiring_of, Switching.SwitchesAlone, Switching.WritesAlone}
use Rattle.aeth_components.specs.{declared.event.Event.Event}
use Rattle.aeth_invariant.proofs.Whole.{begun}
use Rattle.aeth_invariant.specs.{WellRouted.AreWellRouted, Components.Net, Components.queue_of}
use Rattle.aeth_invariant.specs.{RoutedSessions.RoutedSessions, RoutedSessions.server_at}
use Rattle.aeth_invariant.specs.{Runs.Begins, Switches.HasEvent, Switches.Switched}
use Rattle.aeth_invariant.specs.{Switches.freed_of}
use Rattle.aeth_refinement.proofs.{Holding.latched-same, Kept.hardware-switched, Running.open-parts}
use Rattle.aeth_refinement.proofs.{Switching.Becomes, Switching.IsFinished, Switching.IsFreed}
use Rattle.aeth_refinement.proofs.{Switching.IsHalted, Switching.IsSet, Switching.Stays}
use Rattle.aeth_refinement.proofs.{Switching.becomes, Switching.switches}
use Rattle.aeth_refinement.specs.{Beginning.AreEmpty, Beginning.loaded_with, Events.AreEvents}
use Rattle.aeth_refinement.specs.{WiredFor.IsWiredFor, Running.Runs, View.net_of}

module _ (sessions : RoutedSessions) (ok : AreWellRouted sessions) (channel : ℕ → ℕ)
    (events : List Event)
    (all : ComponentsState) (empty : AreEmpty sessions all) (are : AreEvents sessions 0 events)
    (alone : SwitchesAlone events all.parts) (apart : WritesAlone events all.parts) where
  abbrev none : ℕ → ℕ
  none c = 0

  abbrev old : Net
  old = net_of none all.parts all.wires

  abbrev new : Net
  new = net_of none (switched events all.parts) all.wires

  change : Switched sessions 0 old new
  change = switches sessions 0 events all.parts none all.wires (length all.wires) empty.wired_for
      are alone
      apart

  -- A session has neither a halt nor a finish yet, and no route is cleared.
  never-suc : (cycle : ℕ → ℕ) (c : ℕ) → HasEvent sessions (λ d. suc (cycle d)) 0 c → ⊥
  never-suc cycle c event = let falls = event.falls in omega (arith, falls)

  never-freed : (c : ℕ) → HasEvent sessions (freed_of sessions) 0 c → ⊥
  never-freed c event =
      let falls = event.falls in
      let order = (ok.ordered event.number event.known).stop_freed in
      omega (arith, falls, order)

  change-of : (c : ℕ) → c < sessions.count
      → Becomes sessions 0 c (queue_of sessions old c) (queue_of sessions new c)
  change-of = becomes sessions 0 events all.parts none all.wires (length all.wires) empty.wired_for
      are
      alone apart

  -- So a queue is as it was, or has its route.
  stays : {X : Type 0} (part : QueueState → X) (c : ℕ) → c < sessions.count
      → ((route : Route) (credits : ℕ) (q : QueueState)
      → part (record q { route = Some route; counter = credits; halted = false }) ≡ part q)
      → part (queue_of sessions new c) ≡ part (queue_of sessions old c)
  stays part c h sets = elim (change-of c h) [
    | Stays same ↦ ap part same
    | IsHalted event is ↦ absurd (never-suc (λ d. (server_at sessions d).stop) c event)
    | IsFinished event is ↦ absurd (never-suc (λ d. (server_at sessions d).finish) c event)
    | IsFreed event is ↦ absurd (never-freed c event)
    | IsSet event route credits is ↦ ap part is ∙ sets route credits (queue_of sessions old c)
  ]

  runs-halt : (c : ℕ) → c < sessions.count → (queue_of sessions new c).halted ≡ false
  runs-halt c h = elim (change-of c h) [
    | Stays same ↦
        ap (λ (q : QueueState). q.halted) same
        ∙ ap (λ (q : QueueState). q.halted) (empty.queues c h).is
    | IsHalted event is ↦ absurd (never-suc (λ d. (server_at sessions d).stop) c event)
    | IsFinished event is ↦ absurd (never-suc (λ d. (server_at sessions d).finish) c event)
    | IsFreed event is ↦ absurd (never-freed c event)
    | IsSet event route credits is ↦ ap (λ (q : QueueState). q.halted) is
  ]

  begins : Begins sessions new
  begins = record {
    entry_only = λ n x queue is. elim (change.from_entry n x queue is) [
      | inl now ↦ now
      | inr before ↦
          let no : None ≡ Some queue = sym (empty.entries n x) ∙ before.0 in
          absurd (cc no)
    ];
    entry_all = λ n x c at falls. change.set_slot n x c at falls;
    route = λ c h set. change.set_route c h set;
    counter = λ c h set. change.set_counter c h set;
    waiting = λ c h. stays (λ q. q.waiting) c h (λ route credits q. refl)
        ∙ ap (λ (q : QueueState). q.waiting) (empty.queues c h).is;
    received = λ c h. stays (λ q. q.received) c h (λ route credits q. refl)
        ∙ ap (λ (q : QueueState). q.received) (empty.queues c h).is;
    owed = λ c h. stays (λ q. q.owed) c h (λ route credits q. refl)
        ∙ ap (λ (q : QueueState). q.owed) (empty.queues c h).is;
    halted = runs-halt;
    room = λ c h.
        let same = change.kept_room c h
        ∙ ap (λ (q : QueueState). q.room) (empty.queues c h).is in
        let enough = (empty.queues c h).enough in
        omega (arith, same, enough);
    held = empty.wires;
    enqueued = λ c h. refl;
  }

  pub runs : Runs sessions channel 0 none (loaded_with events all)
  runs =
      let wirings : map wiring_of (switched events all.parts) ≡ wirings_of all =
      wirings-switched events all.parts in
      record {
        wired = subst (λ (fs : List Wiring). IsWired fs (length all.wires)) (sym wirings)
            empty.wired;
        wired_for = subst (λ (fs : List Wiring). IsWiredFor sessions fs (length all.wires))
            (sym wirings)
            empty.wired_for;
        latched = latched-same (switched events all.parts) all.parts
            (hardware-switched events all.parts) all.wires empty.latched;
        stands = begun sessions ok new begins;
        going = λ c h going before. absurd (omega (arith, before));
        only = λ number channel_state at is.
            let upto = (open-parts channel_state 0 is).1 in
            let fin = empty.channel_states number channel_state at in
            absurd (omega (arith, upto, fin));
        gone = λ number channel_state at. inr (empty.channel_states number channel_state at);
        fresh = λ c h early. refl;
      }
