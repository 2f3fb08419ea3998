-- What the queue of a session sends in its slots is what its private server sends.
use Rattle.std.proofs.Common.{◌≡◌, ◌≤◌, ◌<◌, ◌∙◌, ◌⊎◌, ℕ, suc, ◌+◌, ◌-◌, ◌*◌, ◌/◌, ◌%◌, ◌^◌, min}
use Rattle.std.proofs.Common.{true, List, length, take, Option, Some, None, sym, ap, arith, inl}
use Rattle.std.proofs.Common.{inr, eqb-true, slice_index}
use Rattle.std.proofs.lemmas.Bool.{cases_lt}
use Rattle.aeth_base.specs.Limits.{words_per_flit}
use Rattle.aeth_clocked.specs.declared.flit.Flit.{Flit}
use Rattle.aeth_header.specs.{Header.word_of, Layout.port_bits}
use Rattle.aeth_ni.specs.Sending.{credits_sent, next_flit, words_sent}
use Rattle.aeth_report.specs.Carries.{flit_at, returns, sends, words_at}
use Rattle.aeth_server.specs.PrivateServer.{arrived, returned, sent}
use Rattle.aeth_server.proofs.{PrivateServerLemmas.words_ready, SessionEnds.idle-before}
use Rattle.aeth_invariant.specs.WellRouted.{AreWellRouted}
use Rattle.aeth_invariant.specs.Carried.{flit_of}
use Rattle.aeth_invariant.specs.Switches.{route_of}
use Rattle.aeth_invariant.specs.Components.{Net, after, is_entry, queue_of}
use Rattle.aeth_invariant.specs.RoutedSessions.{RoutedSessions, flow_at, has_slot, server_at}
use Rattle.aeth_invariant.specs.Standing.{HasCounter, MaySend, Stands}
use Rattle.aeth_invariant.proofs.{Counts.credited-slot, Counts.sent-slot, Owning.owns-running}
use Rattle.aeth_invariant.proofs.{Owning.waiting-length, Ready.Enough, Words.take-words_from}
use Rattle.aeth_invariant.proofs.{Unique.back_slot-is, Unique.early, Unique.in-slot}
use Rattle.aeth_invariant.proofs.{Unique.known-back, Unique.paths-of, Unique.returns-step}
use Rattle.aeth_invariant.proofs.{Unique.sends-step, Unique.slot-is}

-- An entry that names a queue is that queue's.
pub named-entry : (entry : Option ℕ) (queue : ℕ) → is_entry entry queue ≡ true → entry ≡ Some queue
named-entry None queue is = absurd cc
named-entry (Some named) queue is = ap (λ n. Some n) (eqb-true named queue is)

-- The least of what waits, of a flit's words and of a counter.
same_least : (size waiting all counter count : ℕ) → size ≡ waiting → counter ≡ count
    → min words_per_flit (min waiting counter) ≡ min words_per_flit (min all counter)
    → min (min size words_per_flit) counter ≡ min words_per_flit (min all count)
same_least size waiting all counter count sizes counts same =
    let first : min (min size words_per_flit) counter ≡ min words_per_flit (min waiting counter) =
    omega (arith, sizes) in
    first ∙ same ∙ ap (λ n. min words_per_flit (min all n)) counts

difference : (before after more : ℕ) → after ≡ before + more → more ≡ after - before
difference before after more is = omega (arith, is)

module _ (sessions : RoutedSessions) (ok : AreWellRouted sessions) (t : ℕ) (net : Net)
    (at : Stands sessions (suc t) t net) (enough : Enough sessions ok t net) where
  -- The slot of the cycle.
  abbrev slot : ℕ
  slot = t % sessions.size

  -- Until its stop a session has its counter.
  counted : (c : ℕ) → c < sessions.count → MaySend sessions c (suc t)
      → HasCounter sessions c (suc t)
  counted c h run =
      let own = owns-running sessions ok c (suc t) h run in
      record { set = run.set; finish = own.finish }

  -- In a slot of its own a queue sends the words that its private server sends.
  pub words-sent : (c : ℕ) → c < sessions.count → has_slot sessions c slot ≡ true
      → MaySend sessions c (suc t)
      → words_sent (queue_of sessions net c) ≡ sends (flow_at sessions c) t
  words-sent c h uses run =
      let server = server_at sessions c in
      let paths = paths-of sessions ok c h in
      let own = owns-running sessions ok c (suc t) h run in
      let some = waiting-length sessions ok (suc t) t net at c h own in
      let step = sends-step sessions ok c t in
      let stop = run.stop in
      elim (cases_lt t server.go) [
        | inl before ↦
            let none = (early sessions ok c t h before).0 in
            let nothing = (idle-before server paths (suc t) before).arrived in
            let few = at.enqueued_arrived c h own in
            omega arith
        | inr goes ↦
            let gone = sent server t in
            let queue = queue_of sessions net c in
            let counter = at.counter c h (counted c h run) in
            let went = sent-slot server paths t stop (slot-is sessions ok c t h ∙ uses) in
            let count : queue.counter ≡ server.buffer + returned server (suc t) - gone =
            omega (arith, counter) in
            let least : words_sent queue ≡ words_ready server paths t =
            same_least (length queue.waiting) (net.enqueued c - gone)
            (arrived server (suc t) - gone) queue.counter
            (server.buffer + returned server (suc t) - gone) some count
            (enough c queue.counter h own) in
            least
            ∙ difference gone (sent server (suc t)) (words_ready server paths t) went
            ∙ sym step
      ]

  -- And the credits that it gives back.
  pub credits-sent : (c : ℕ) → c < sessions.count → has_slot sessions c slot ≡ true
      → MaySend sessions c (suc t)
      → credits_sent (queue_of sessions net c) ≡ returns (flow_at sessions c) t
  credits-sent c h uses run =
      let g = known-back sessions ok c h in
      let d = sessions.opposite c in
      let server = server_at sessions d in
      let paths = paths-of sessions ok d g in
      let own = owns-running sessions ok c (suc t) h run in
      let owes = at.owed c h own in
      let step = returns-step sessions ok c t h in
      let stop = run.stop in
      let stops = (ok.answered c h).stop in
      elim (cases_lt t (server_at sessions c).go) [
        | inl before ↦
            let none = (early sessions ok c t h before).1 in
            let go = (ok.answered c h).go in
            let nothing = (idle-before server paths t (omega arith)).taken in
            omega arith
        | inr goes ↦
            let went = credited-slot server paths t (omega arith)
            (back_slot-is sessions ok c t h ∙ uses) in
            omega arith
      ]

  -- So its next flit is that of its session.
  pub flit-sent : (c : ℕ) → c < sessions.count → has_slot sessions c slot ≡ true
      → MaySend sessions c (suc t)
      → next_flit (queue_of sessions net c) (route_of (flow_at sessions c)) ≡ flit_of sessions c 0 t
  flit-sent c h uses run =
      let flow = flow_at sessions c in
      let queue = queue_of sessions net c in
      let own = owns-running sessions ok c (suc t) h run in
      let gone = sent flow.server t in
      let words = words-sent c h uses run in
      let credits = credits-sent c h uses run in
      let some = waiting-length sessions ok (suc t) t net at c h own in
      let within : sends flow t ≤ net.enqueued c - gone = omega (arith, words, some) in
      let taken_out : take (words_sent queue) queue.waiting ≡ words_at flow t =
      ap (λ (n : ℕ). take n queue.waiting) words
      ∙ ap (λ (ws : List ℕ). take (sends flow t) ws) (at.waiting c h own)
      ∙ take-words_from (sends flow t) flow.values gone (net.enqueued c - gone) within in
      let make : ℕ → ℕ → ℕ → List ℕ → Flit = λ ports credits count ws. record {
        header = word_of (record {
          route = ports;
          queue = flow.remote;
          credits = credits;
          count = count;
        });
        first = slice_index ws 0;
        second = slice_index ws 1;
      } in
      let all : flow.route ≡ flow.route / 2 ^ (port_bits * 0) = omega arith in
      ap (λ (ws : List ℕ). make flow.route (credits_sent queue) (words_sent queue) ws) taken_out
      ∙ ap (λ (n : ℕ). make flow.route (credits_sent queue) n (words_at flow t)) words
      ∙ ap (λ (n : ℕ). make flow.route n (sends flow t) (words_at flow t)) credits
      ∙ ap (λ (n : ℕ). make n (returns flow t) (sends flow t) (words_at flow t)) all
      ∙ ap (λ (n : ℕ). flit_at flow n t) (sym (ok.path c h).none_passed)

  -- A session whose entry the slot has, and which runs.
  pub record RunsAt (n queue : ℕ) : Type 0 where
    pub number : ℕ
    pub known : number < sessions.count
    pub ni : (sessions.routed_session number).ni ≡ n
    pub queue_is : (sessions.routed_session number).queue ≡ queue
    pub uses : has_slot sessions number slot ≡ true
    pub run : MaySend sessions number (suc t)

  -- An entry's session runs, or its queue is halted.
  pub entry-runs : (n queue : ℕ) → net.entry n slot ≡ Some queue
      → RunsAt n queue ⊎ ((net.queue n queue).halted ≡ true)
  entry-runs n queue is =
      let of = at.entry_only n slot queue is in
      let d = of.number in
      let order = ok.ordered d of.at.known in
      let after = order.slot_after slot of.at.uses in
      let cleared = order.slot_freed slot of.at.uses in
      let set = of.has.set in
      let freed = of.has.freed in
      elim (cases_lt t (server_at sessions d).stop) [
        | inl early ↦ inl (record {
          number = d;
          known = of.at.known;
          ni = of.at.ni;
          queue_is = of.queue_is;
          uses = of.at.uses;
          run = record { set = omega arith; stop = early };
        })
        | inr late ↦
            let halts = at.halted d of.at.known (omega arith) (omega arith) in
            inr (ap (λ m. (net.queue n m).halted) (sym of.queue_is)
            ∙ ap (λ m. (net.queue m (sessions.routed_session d).queue).halted) (sym of.at.ni)
            ∙ halts)
      ]

  -- Its queue.
  pub queue-there : (n queue : ℕ) (runs : RunsAt n queue)
      → net.queue n queue ≡ queue_of sessions net runs.number
  queue-there n queue runs =
      ap (λ m. net.queue n m) (sym runs.queue_is)
      ∙ ap (λ m. net.queue m (sessions.routed_session runs.number).queue) (sym runs.ni)

  -- A session that injects a flit has its entry, and runs.
  pub record IsInjecting (c : ℕ) : Type 0 where
    pub entry : net.entry (sessions.routed_session c).ni slot
        ≡ Some (sessions.routed_session c).queue
    pub uses : has_slot sessions c slot ≡ true
    pub run : MaySend sessions c (suc t)

  pub injecting : (c : ℕ) → c < sessions.count
      → 0 < sends (flow_at sessions c) t + returns (flow_at sessions c) t → IsInjecting c
  injecting c h some =
      let in_slot = in-slot sessions ok c t h some in
      let order = ok.ordered c h in
      let goes = in_slot.go in
      let stops = in_slot.stop in
      let set = order.set_go in
      let written = order.slot_before slot in_slot.uses in
      let cleared = order.slot_stop slot in_slot.uses in
      record {
        entry = at.entry_all c slot h
            (record { uses = in_slot.uses; set = omega arith; freed = omega arith });
        uses = in_slot.uses;
        run = record { set = omega arith; stop = stops };
      }
