-- What components have latched, and what is counted of it.
use Rattle.std.proofs.Common.{◌≡◌, ◌≤◌, ◌<◌, ◌∙◌, ℕ, ◌+◌, refl, sym, ap, arith, inl, inr, Bool}
use Rattle.std.proofs.Common.{true, false, cond, leb, List, [], ◌∷◌, Option, Some, None, length}
use Rattle.std.proofs.Common.{map, slice_get, ◌==◌, Result, Ok, Err, option_map, leb-true}
use Rattle.std.proofs.Common.{length-take}
use Rattle.std.proofs.lemmas.{Bool.cases_Bool, Option.slice_get-map}
use Rattle.std.specs.Option.{option_map_or}
use Rattle.aeth_base.specs.{Limits.words_per_flit, declared.ids.LinkId.LinkId}
use Rattle.aeth_clocked.specs.{Wires.flit_on, declared.flit.Flit.Flit}
use Rattle.aeth_header.specs.Header.{fields_of, header_of}
use Rattle.aeth_header.specs.declared.{fault.HeaderFault.HeaderFault, header.Header.Header}
use Rattle.aeth_ni.specs.Component.{arrival_by, arrival_of, last_of}
use Rattle.aeth_ni.specs.Queue.{words_in}
use Rattle.aeth_router.specs.Part.{absorb_of}
use Rattle.aeth_router.specs.declared.part.Part.{Part}
use Rattle.aeth_router.specs.declared.part.Part.TheVariants.{Interface, Router, Stage, TableRouter}
use Rattle.aeth_components.proofs.CountingLemmas.{counted-closed, counted-open}
use Rattle.aeth_components.proofs.WiringLemmas.{from-map}
use Rattle.aeth_components.specs.{Counting.brings, Counting.brought_at, Counting.counted}
use Rattle.aeth_components.specs.{Wirings.InterfaceWiring, Wirings.wiring_of, ChannelStates.is_open}
use Rattle.aeth_components.specs.{Queues.brought_by, Queues.words_for as count_for}
use Rattle.aeth_components.specs.{declared.channel_state.ChannelEnd.ChannelEnd}
use Rattle.aeth_components.specs.{declared.channel_state.ChannelState.ChannelState}
use Rattle.aeth_server.specs.PrivateServer.{landed}
use Rattle.aeth_invariant.proofs.Unique.{known-back}
use Rattle.aeth_invariant.specs.{WellRouted.AreWellRouted, Components.brought, Components.words_for}
use Rattle.aeth_invariant.specs.{Cycle.Latched, RoutedSessions.RoutedSessions}
use Rattle.aeth_invariant.specs.{RoutedSessions.IsOpenSession, RoutedSessions.server_at}
use Rattle.aeth_refinement.proofs.OneQueue.{entries-absorb, entry_of-same, queue_of-absorb}
use Rattle.aeth_refinement.proofs.Serving.{opened}
use Rattle.aeth_refinement.specs.{WiredFor.HasSession, WiredFor.IsEndOf, WiredFor.IsWiredFor}
use Rattle.aeth_refinement.specs.{Served.AreServed, View.net_of}

-- A header has as many words as it says.
fits-header : (word : ℕ) (header : Header) → header_of word ≡ Ok header
    → header.count ≤ words_per_flit
fits-header word header is = elim (cases_Bool (leb (fields_of word).count words_per_flit)) [
  | inl fits ↦
      let same : fields_of word ≡ header = cc (sym (ap (λ (b : Bool).
      cond b (Ok (fields_of word)) (Err (record {}))) fits) ∙ is) in
      let few = leb-true (fields_of word).count words_per_flit fits in
      let count = ap (λ (h : Header). h.count) same in
      omega (arith, few, count)
  | inr not ↦
      let fault : Err (record {}) ≡ Ok header =
      sym (ap (λ (b : Bool). cond b (Ok (fields_of word)) (Err (record {}))) not) ∙ is in
      absurd (cc fault)
]

count-by : (flit : Flit) (queue : ℕ) (r : Result Header HeaderFault)
    → ((header : Header) → r ≡ Ok header → header.count ≤ words_per_flit)
    → count_for queue (last_of (arrival_by flit r)) ≡ length (words_for queue (arrival_by flit r))
count-by flit queue (Err fault) few = refl
count-by flit queue (Ok header) few =
    let words = words_in header flit in
    let size : header.count ≡ length words =
    let some = length-take header.count (flit.first ∷ flit.second ∷ []) in
    let most = few header refl in
    omega (arith, some, most) in
    let cases : (b : Bool) → cond b header.count 0 ≡ length (cond b words []) =
    elim [ true ↦ size | false ↦ refl ] in
    cases (header.queue == queue)

count-is : (flit : Option Flit) (queue : ℕ)
    → count_for queue (last_of (arrival_of flit)) ≡ length (words_for queue (arrival_of flit))
count-is None queue = refl
count-is (Some flit) queue =
    count-by flit queue (header_of flit.header) (fits-header flit.header)

module _ (sessions : RoutedSessions) (ok : AreWellRouted sessions) (parts : List Part)
    (wires : List (Option Flit))
    (count : ℕ) (wired_for : IsWiredFor sessions (map wiring_of parts) count) where
  abbrev last : List Part
  last = map (λ part. absorb_of part wires) parts

  -- What a session's queue is then.
  queue-latched : (c : ℕ) → (has : HasSession sessions (map wiring_of parts) c) → (enqueued : ℕ → ℕ)
      → (old : List (Option Flit))
      → (net_of enqueued last wires).queue (sessions.routed_session c).ni
      (sessions.routed_session c).queue
      ≡ brought (flit_on wires (sessions.entering (sessions.routed_session c).ni))
      (sessions.routed_session c).queue
      ((net_of enqueued parts old).queue (sessions.routed_session c).ni
      (sessions.routed_session c).queue)
  queue-latched c has enqueued old =
      let queue = (net_of enqueued parts old).queue (sessions.routed_session c).ni
      (sessions.routed_session c).queue in
      queue_of-absorb parts wires (sessions.routed_session c).ni (sessions.routed_session c).queue
      has.number
      has.leaving has.entering has.slots has.queues has.face has.within
      ∙ ap (λ w. brought (flit_on wires w) (sessions.routed_session c).queue queue) has.enters

  pub latches : (enqueued : ℕ → ℕ) (old : List (Option Flit))
      → Latched sessions (flit_on wires) (net_of enqueued parts old) (net_of enqueued last wires)
  latches enqueued old = record {
    queue = λ c h. queue-latched c (wired_for.session c h) enqueued old;
    entry = entry_of-same last parts (entries-absorb wires parts);
    held = λ l. refl;
  }

  -- What comes to a session's queue, as it is counted.
  brought-is : (c : ℕ) → c < sessions.count → (end : ChannelEnd) → IsEndOf sessions c end
      → brought_at end last
      ≡ length (words_for (sessions.routed_session c).queue
      (arrival_of (flit_on wires (sessions.entering (sessions.routed_session c).ni))))
  brought-is c h end is =
      let has = wired_for.session c h in
      let n = (sessions.routed_session c).ni in
      let q = (sessions.routed_session c).queue in
      let found = from-map wiring_of parts n _ has.face in
      let cases : (part : Part) → slice_get parts n ≡ Some part
      → InterfaceWiring has.number has.leaving has.entering has.slots has.queues ≡ wiring_of part
      → option_map_or (brought_by q) (slice_get last n) 0
      ≡ length (words_for q (arrival_of (flit_on wires (sessions.entering n)))) = elim [
        | Interface ni ↦ λ at same.
            let wire : has.entering ≡ ni.entering = cc same in
            ap (λ (part : Option Part). option_map_or (brought_by q) part 0)
            (slice_get-map (λ part. absorb_of part wires) parts n
            ∙ ap (option_map (λ part. absorb_of part wires)) at)
            ∙ count-is (flit_on wires ni.entering.0) q
            ∙ ap (λ w. length (words_for q (arrival_of (flit_on wires w))))
            (ap (λ (w : LinkId). w.0) (sym wire) ∙ has.enters)
        | Router router ↦ λ at same. absurd (cc same)
        | TableRouter router ↦ λ at same. absurd (cc same)
        | Stage stage ↦ λ at same. absurd (cc same)
      ] in
      ap (λ m. option_map_or (brought_by end.queue) (slice_get last m) 0) is.ni
      ∙ ap (λ m. option_map_or (brought_by m) (slice_get last n) 0) is.queue
      ∙ cases found.0 found.1 found.2

  still-counted : (t : ℕ) (channel_state : ChannelState)
      → is_open (counted t last channel_state) t ≡ is_open channel_state t
  still-counted t channel_state = elim (cases_Bool (is_open channel_state t)) [
    | inl is ↦ ap (λ (s : ChannelState). is_open s t) (counted-open t last channel_state is)
    | inr not ↦ ap (λ (s : ChannelState). is_open s t) (counted-closed t last channel_state not)
  ]

  -- What has landed of each session is counted.
  module _ (channel : ℕ → ℕ) (words : List ℕ) (t lands takes now : ℕ) (enqueued : ℕ → ℕ)
      (channel_states : List ChannelState)
      (served : AreServed sessions channel words t lands takes enqueued channel_states)
      (comes : (c : ℕ) → c < sessions.count → IsOpenSession sessions c t
      → let end = sessions.routed_session (sessions.opposite c) in
      landed (server_at sessions c) lands
      + length (words_for end.queue (arrival_of (flit_on wires (sessions.entering end.ni))))
      ≡ landed (server_at sessions c) now)
      (fewer : (c : ℕ) → c < sessions.count → IsOpenSession sessions c t
      → landed (server_at sessions c) now ≤ enqueued c) where
    pub counts-served : AreServed sessions channel words t now takes enqueued
        (map (counted t last) channel_states)
    counts-served = record {
      own = λ c h going.
          let has = served.own c h going in
          let channel_state = has.channel_state in
          let of = has.served.of in
          let counts = has.served.counted in
          let more = brings last channel_state in
          let brought =
          brought-is (sessions.opposite c) (known-back sessions ok c h) channel_state.receiver
          of.receiver in
          let lands_is = counts.landed_is in
          let enqueues_is = counts.enqueued_is in
          let come = comes c h going in
          let few = fewer c h going in
          record {
            channel_state = record channel_state { landed = channel_state.landed + more };
            at = slice_get-map (counted t last) channel_states (channel c)
                ∙ ap (option_map (counted t last)) has.at
                ∙ ap (λ (s : ChannelState). Some s)
                (counted-open t last channel_state
                (opened sessions ok words c t channel_state of going));
            served = record {
              of = record {
                sender = of.sender;
                receiver = of.receiver;
                go = of.go;
                fin = of.fin;
                values = of.values;
              };
              counted = record {
                enqueued_is = enqueues_is;
                landed_is = omega (arith, brought, lands_is, enqueues_is, come, few);
                taken_is = counts.taken_is;
              };
              fed = record {
                accepted = has.served.fed.accepted;
                pull = has.served.fed.pull;
              };
            };
          };
      only = λ number channel_state at is.
          let was = from-map (counted t last) channel_states number channel_state at in
          served.only number was.0 was.1
          (sym (still-counted t was.0) ∙ ap (λ (s : ChannelState). is_open s t) (sym was.2) ∙ is);
    }
