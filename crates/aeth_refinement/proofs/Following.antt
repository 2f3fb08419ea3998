-- One cycle of components that follow private servers is one of the law, and they follow them
-- still.
use Rattle.std.proofs.Common.{◌≡◌, ◌≤◌, ◌<◌, ◌∙◌, ℕ, suc, ◌+◌, ◌-◌, ◌%◌, refl, sym, ap, subst}
use Rattle.std.proofs.Common.{arith, List, Option, length, map}
use Rattle.std.specs.List.{range_with_len}
use Rattle.aeth_clocked.specs.{Wires.flit_on, declared.flit.Flit.Flit}
use Rattle.aeth_ni.specs.{Component.arrival_of, Queue.QueueState}
use Rattle.aeth_router.specs.{Part.absorb_of, declared.part.Part.Part}
use Rattle.aeth_components.proofs.WiringLemmas.{wirings-after, length-wires_driven}
use Rattle.aeth_components.proofs.PartLemmas.{wirings-switched}
use Rattle.aeth_components.proofs.TurnLemmas.{wirings-pulled, wirings-refilled, wirings-turns}
use Rattle.aeth_components.specs.{Changes.switched, Components.ComponentsState}
use Rattle.aeth_components.specs.{Components.driven_from, Components.wirings_of}
use Rattle.aeth_components.specs.{Components.moment_of, Components.switched_from}
use Rattle.aeth_components.specs.{Components.ComponentsCycle, Counting.counted, Wirings.Wiring}
use Rattle.aeth_components.specs.{Wirings.IsWired, Wirings.wiring_of, Laws.RefillsAlone}
use Rattle.aeth_components.specs.{Laws.TakesAlone, Phases.Moment, Phases.in_turn, Phases.pulled}
use Rattle.aeth_components.specs.{Phases.refilled, declared.event.Event.Event, Switching.entry_of}
use Rattle.aeth_components.specs.{View.queue_of as queue_in}
use Rattle.aeth_server.proofs.PrivateServerLemmas.{sent-more}
use Rattle.aeth_server.specs.PrivateServer.{arrived, landed, taken}
use Rattle.aeth_invariant.proofs.{Landing.lands, Owning.landed-most, Owning.owns-going}
use Rattle.aeth_invariant.proofs.{Owning.received-length, Queues.sent_from-kept, Unique.paths-of}
use Rattle.aeth_invariant.proofs.{Whole.IsStep, Whole.step, Words.length-words_from}
use Rattle.aeth_invariant.specs.{WellRouted.AreWellRouted, Carried.Exact, Components.Net}
use Rattle.aeth_invariant.specs.{Components.after, Components.queue_of, Components.words_for}
use Rattle.aeth_invariant.specs.{Components.driven as net_driven, Cycle.NetCycle, Cycle.Refilled}
use Rattle.aeth_invariant.specs.{Cycle.Took, RoutedSessions.RoutedSessions}
use Rattle.aeth_invariant.specs.{RoutedSessions.IsOpenSession, RoutedSessions.Owns}
use Rattle.aeth_invariant.specs.{RoutedSessions.flow_at, RoutedSessions.server_at, Standing.Stands}
use Rattle.aeth_invariant.specs.{Switches.HasEvent, Switches.Switched, Switches.finish_of}
use Rattle.aeth_refinement.proofs.{Arriving.counts-served, Arriving.latches, Driving.wires-driven}
use Rattle.aeth_refinement.proofs.{Holding.latched-absorb, Holding.latched-same}
use Rattle.aeth_refinement.proofs.{Kept.hardware-switched, Kept.hardware_in}
use Rattle.aeth_refinement.proofs.{Kept.hardware_in-changed, Kept.kept-refilling}
use Rattle.aeth_refinement.proofs.{OneQueue.entries-after, OneQueue.entry_of-same}
use Rattle.aeth_refinement.proofs.{OneQueue.queue_of-after, Refilling.refills}
use Rattle.aeth_refinement.proofs.{Refilling.refills-served, Routed.routed-same, Routed.tables-kept}
use Rattle.aeth_refinement.proofs.{Routed.tables-ready, Taking.took, Taking.took-served}
use Rattle.aeth_refinement.specs.{Following.Follows, WiredFor.IsWiredFor, Served.AreServed}
use Rattle.aeth_refinement.specs.{Served.enqueued_after, View.HaveLatched, View.net_of}

module _ (sessions : RoutedSessions) (ok : AreWellRouted sessions) (channel : ℕ → ℕ)
    (events : List Event) (t : ℕ)
    (enqueued : ℕ → ℕ) (old new : ComponentsState)
    (refilling : (words : List ℕ) (cycle : ℕ) (moment : Moment) → RefillsAlone words cycle moment)
    (taking : (cycle : ℕ) (moment : Moment) → TakesAlone cycle moment)
    (follows : Follows sessions channel t t enqueued old)
    (change : Switched sessions (t + 1) (net_of enqueued old.parts old.wires)
    (net_of enqueued (switched events old.parts) old.wires))
    (cycle : ComponentsCycle events t old new) where
  -- The components within the cycle, and their nets.
  abbrev tables : Moment
  tables = switched_from events (moment_of old)

  abbrev ready : Moment
  ready = in_turn (refilled old.words t) tables

  abbrev gone : Moment
  gone = driven_from t ready

  abbrev drained : Moment
  drained = in_turn (pulled t) gone

  abbrev latched : List Part
  latched = map (λ part. absorb_of part new.wires) drained.parts

  abbrev first : Net
  first = net_of enqueued old.parts old.wires

  abbrev second : Net
  second = net_of enqueued tables.parts old.wires

  abbrev more : ℕ → ℕ
  more = enqueued_after sessions second t

  abbrev third : Net
  third = net_of more ready.parts old.wires

  abbrev fourth : Net
  fourth = net_of more drained.parts new.wires

  -- All have the same wirings.
  tables-wirings : map wiring_of tables.parts ≡ wirings_of old
  tables-wirings = wirings-switched events old.parts

  ready-wirings : map wiring_of ready.parts ≡ wirings_of old
  ready-wirings =
      wirings-turns (refilled old.words t) (wirings-refilled old.words t)
      (range_with_len 0 (length tables.channel_states)) tables
      ∙ tables-wirings

  gone-wirings : map wiring_of gone.parts ≡ wirings_of old
  gone-wirings = wirings-after ready.parts t ∙ ready-wirings

  drained-wirings : map wiring_of drained.parts ≡ wirings_of old
  drained-wirings =
      wirings-turns (pulled t) (wirings-pulled t) (range_with_len 0 (length gone.channel_states))
      gone
      ∙ gone-wirings

  wired_for-at : (wirings : List Wiring) → wirings ≡ wirings_of old
      → IsWiredFor sessions wirings (length old.wires)
  wired_for-at wirings same =
      subst (λ (fs : List Wiring). IsWiredFor sessions fs (length old.wires)) (sym same)
      follows.wired_for

  -- A session in use has its queues.
  owns-now : (c : ℕ) → c < sessions.count → IsOpenSession sessions c t → Owns sessions c t
  owns-now c h going =
      let order = ok.ordered c h in
      let since = order.set_since in
      let go = order.set_go in
      let goes = going.goes in
      let unfinished = going.unfinished in
      record { since = omega (arith, since, go, goes); finish = omega (arith, unfinished) }

  low : (c : ℕ) → c < sessions.count → IsOpenSession sessions c t
      → enqueued c ≤ arrived (server_at sessions c) (t + 1)
  low c h going =
      let next : suc t ≡ t + 1 = omega arith in
      subst (λ n. enqueued c ≤ arrived (server_at sessions c) n) next
      (follows.stands.enqueued_arrived c h (owns-now c h going))

  -- Refilling.
  fill : Refilled sessions t second third
  fill = refills sessions ok channel old.words t (t + 1) t enqueued tables old.wires
      (length old.wires)
      (wired_for-at (map wiring_of tables.parts) tables-wirings) follows.served low
      (refilling old.words t tables)

  ready-served : AreServed sessions channel old.words t (t + 1) t more ready.channel_states
  ready-served = refills-served sessions ok channel old.words t (t + 1) t enqueued tables old.wires
      (length old.wires) (wired_for-at (map wiring_of tables.parts) tables-wirings) follows.served
      low
      (refilling old.words t tables)

  -- Driving.
  held : HaveLatched ready.parts old.wires
  held = latched-same ready.parts old.parts
      (kept-refilling hardware_in hardware_in-changed old.words t tables
      ∙ hardware-switched events old.parts) old.wires follows.latched

  drives : (l : ℕ) → flit_on new.wires l ≡ net_driven sessions third t l
  drives l =
      ap (λ (ws : List (Option Flit)). flit_on ws l) cycle.wires
      ∙ wires-driven sessions ok ready.parts old.wires t more
      (subst (λ (fs : List Wiring). IsWired fs (length old.wires)) (sym ready-wirings)
      follows.wired)
      (wired_for-at (map wiring_of ready.parts) ready-wirings) held
      (routed-same sessions t ready.parts old.parts
      (tables-ready old.words events t (moment_of old))
      follows.routed)
      follows.stands.held follows.stands.held_none l

  -- Taking. A session in use has no finish on its queue.
  unfinished : (c : ℕ) → c < sessions.count → IsOpenSession sessions c t
      → HasEvent sessions (finish_of sessions) (t + 1) c → ⊥
  unfinished c h going event =
      let d = event.number in
      let falls = event.falls in
      let order = ok.ordered d event.known in
      let since = order.set_since in
      let stop = order.set_stop in
      let drain = (ok.given d event.known).drained in
      let own : Owns sessions d t = record {
        since = omega (arith, since, stop, drain, falls);
        finish = omega (arith, falls);
      } in
      let one = (ok.apart d c event.known h).queue t own (owns-now c h going) event.same in
      let same = ap (λ n. (server_at sessions n).finish) one in
      let later = going.unfinished in
      omega (arith, falls, same, later)

  received-is : (c : ℕ) → c < sessions.count → IsOpenSession sessions c t
      → (queue_of sessions (after sessions third t) c).received
      ≡ (queue_of sessions first c).received
  received-is c h going =
      ap (λ (q : QueueState). q.received)
      (sent_from-kept (third.entry (sessions.routed_session c).ni (t % sessions.size))
      (sessions.routed_session c).queue
      (queue_of sessions third c))
      ∙ ap (λ (q : QueueState). q.received) (fill.kept c h)
      ∙ change.kept_received c h (unfinished c h going)

  few : (c : ℕ) → c < sessions.count → IsOpenSession sessions c t
      → length (queue_of sessions (after sessions third t) c).received
      ≤ landed (server_at sessions (sessions.opposite c)) (t + 1)
      - taken (server_at sessions (sessions.opposite c)) t
  few c h going =
      let d = sessions.opposite c in
      let next = ap (λ n. landed (server_at sessions d) n)
      (let e : suc t ≡ t + 1 = omega arith in e) in
      let same = ap (λ (ws : List ℕ). length ws) (received-is c h going) in
      let some = received-length sessions ok t t first follows.stands c h (owns-now c h going) in
      omega (arith, next, same, some)

  entries-gone : (n x : ℕ) → (after sessions third t).entry n x ≡ entry_of gone.parts n x
  entries-gone n x = sym (entry_of-same gone.parts ready.parts (entries-after t ready.parts) n x)

  queues-gone : (c : ℕ) → c < sessions.count → queue_of sessions (after sessions third t) c
      ≡ queue_in gone.parts (sessions.routed_session c).ni (sessions.routed_session c).queue
  queues-gone c h =
      sym (queue_of-after ready.parts t (sessions.routed_session c).ni
      (sessions.routed_session c).queue sessions.size
      (wired_for-at (map wiring_of ready.parts) ready-wirings).slots)

  drain : Took sessions t (after sessions third t) fourth
  drain = took sessions ok channel old.words t (t + 1) t more gone new.wires (length old.wires)
      (wired_for-at (map wiring_of gone.parts) gone-wirings) ready-served (after sessions third t)
      entries-gone queues-gone few (taking t gone)

  -- The whole cycle.
  whole : NetCycle sessions t first (flit_on new.wires) (net_of more latched new.wires)
  whole = record {
    tables = second;
    ready = third;
    pulled = fourth;
    switched = change;
    refilled = fill;
    drives = drives;
    took = drain;
    latched = latches sessions ok drained.parts new.wires (length old.wires)
        (wired_for-at (map wiring_of drained.parts) drained-wirings) more new.wires;
    enqueued = λ c h early. refl;
  }

  pub cycles : NetCycle sessions t first (flit_on new.wires) (net_of more new.parts new.wires)
  cycles = subst (λ (ps : List Part). NetCycle sessions t first (flit_on new.wires)
      (net_of more ps new.wires)) (sym cycle.parts) whole

  now : IsStep sessions ok t first (flit_on new.wires) (net_of more latched new.wires) whole
  now = step sessions ok t first (net_of more latched new.wires) (flit_on new.wires) follows.stands
      whole

  -- The counts behind it.
  pub drained-served : AreServed sessions channel old.words t (t + 1) (t + 1) more
      drained.channel_states
  unfolding whole
  drained-served =
      let next : suc t ≡ t + 1 = omega arith in
      took-served sessions ok channel old.words t (t + 1) t more gone new.wires (length old.wires)
      (wired_for-at (map wiring_of gone.parts) gone-wirings) ready-served (after sessions third t)
      entries-gone queues-gone few (taking t gone) (t + 1) (λ c h going.
      ap (λ n. taken (server_at sessions (sessions.opposite c)) n) (sym next)
      ∙ now.takes c h (owns-going sessions ok c t h going))

  comes : (c : ℕ) → c < sessions.count → IsOpenSession sessions c t
      → let end = sessions.routed_session (sessions.opposite c) in
      landed (server_at sessions c) (t + 1)
      + length (words_for end.queue (arrival_of (flit_on new.wires (sessions.entering end.ni))))
      ≡ landed (server_at sessions c) (t + 1 + 1)
  comes c h going =
      let server = server_at sessions c in
      let land = lands sessions ok t (flit_on new.wires) now.exact c h
      (owns-going sessions ok c t h going) in
      let grows = land.grows in
      let most = landed-most sessions ok c (suc (suc t)) h in
      let next = ap (λ n. landed server n) (let e : suc t ≡ t + 1 = omega arith in e) in
      let then = ap (λ n. landed server n) (let e : suc (suc t) ≡ t + 1 + 1 = omega arith in e) in
      let size = ap (λ (ws : List ℕ). length ws) land.words in
      let some = length-words_from (flow_at sessions c).values (landed server (suc t))
      (landed server (suc (suc t)) - landed server (suc t)) (omega (arith, grows, most)) in
      omega (arith, grows, next, then, size, some)

  fewer : (c : ℕ) → c < sessions.count → IsOpenSession sessions c t
      → landed (server_at sessions c) (t + 1 + 1) ≤ more c
  fewer c h going =
      let server = server_at sessions c in
      let paths = paths-of sessions ok c h in
      let path = paths.path in
      let sends = now.stands.enqueued_low c h (owns-going sessions ok c t h going) in
      let grown = sent-more server paths (t + 1 + 1 - server.shape.path_delay) (suc t)
      (omega (arith, path)) in
      omega (arith, sends, grown)

  behind-served : AreServed sessions channel old.words t (t + 1 + 1) (t + 1) more
      (map (counted t latched) drained.channel_states)
  behind-served = counts-served sessions ok drained.parts new.wires (length old.wires)
      (wired_for-at (map wiring_of drained.parts) drained-wirings) channel old.words t (t + 1)
      (t + 1)
      (t + 1 + 1) more drained.channel_states drained-served comes fewer

  -- They follow still.
  wires-same : length new.wires ≡ length old.wires
  wires-same = ap (λ (ws : List (Option Flit)). length ws) cycle.wires
      ∙ length-wires_driven ready.parts (length old.wires) t

  pub follow : Follows sessions channel t (t + 1) more new
  follow =
      let next : suc t ≡ t + 1 = omega arith in
      let wired_for : IsWiredFor sessions (wirings_of new) (length old.wires) =
      wired_for-at (wirings_of new) cycle.wirings in
      let wired : IsWired (wirings_of new) (length old.wires) =
      subst (λ (fs : List Wiring). IsWired fs (length old.wires)) (sym cycle.wirings) follows.wired
      in
      let stands : Stands sessions (t + 1) (t + 1) (net_of more latched new.wires) =
      subst (λ n. Stands sessions n n (net_of more latched new.wires)) next now.stands in
      let channel_states : AreServed sessions channel old.words t (t + 1 + 1) (t + 1) more
      new.channel_states =
      subst (AreServed sessions channel old.words t (t + 1 + 1) (t + 1) more)
      (sym cycle.channel_states)
      behind-served in
      record {
        wired = subst (IsWired (wirings_of new)) (sym wires-same) wired;
        wired_for = subst (IsWiredFor sessions (wirings_of new)) (sym wires-same) wired_for;
        latched = subst (λ (ps : List Part). HaveLatched ps new.wires) (sym cycle.parts)
            (latched-absorb drained.parts new.wires);
        routed = routed-same sessions t new.parts old.parts (tables-kept events t old new cycle)
            follows.routed;
        served = subst (λ (ws : List ℕ). AreServed sessions channel ws t (t + 1 + 1) (t + 1) more
            new.channel_states) (sym cycle.words) channel_states;
        stands = subst (λ (ps : List Part). Stands sessions (t + 1) (t + 1)
            (net_of more ps new.wires)) (sym cycle.parts) stands;
      }

  -- The wires have the flits of the private servers, and nothing else.
  pub exacts : Exact sessions t (flit_on new.wires)
  exacts = now.exact
