-- What the queue of a session is behind the drive.
use Rattle.std.proofs.Common.{◌≡◌, ◌≤◌, ◌<◌, ◌∙◌, ℕ, suc, ◌+◌, ◌-◌, ◌%◌, Bool, true, cond, Option}
use Rattle.std.proofs.Common.{refl, sym, ap, subst, arith, inl, inr, eq-eqb}
use Rattle.std.proofs.lemmas.Bool.{cases_Bool, cases_lt, both_ways}
use Rattle.aeth_ni.specs.Sending.{credits_sent, flit_sent}
use Rattle.aeth_report.specs.Carries.{returns, sends}
use Rattle.aeth_server.specs.PrivateServer.{sent}
use Rattle.aeth_invariant.specs.WellRouted.{AreWellRouted}
use Rattle.aeth_invariant.specs.Switches.{route_of}
use Rattle.aeth_invariant.specs.Components.{Net, after, is_entry, queue_of}
use Rattle.aeth_invariant.specs.RoutedSessions.{RoutedSessions, Owns, flow_at, has_slot, server_at}
use Rattle.aeth_invariant.specs.Standing.{MaySend, Stands}
use Rattle.aeth_invariant.proofs.Owning.{owns-running, waiting-length}
use Rattle.aeth_invariant.proofs.Queues.{flit_sent-behind, flit_sent-halted, without, without-none}
use Rattle.aeth_invariant.proofs.Ready.{Enough}
use Rattle.aeth_invariant.proofs.Sending.{IsInjecting, credits-sent, entry-runs, injecting}
use Rattle.aeth_invariant.proofs.Sending.{named-entry, words-sent}

module _ (sessions : RoutedSessions) (ok : AreWellRouted sessions) (t : ℕ) (net : Net)
    (at : Stands sessions (suc t) t net) (enough : Enough sessions ok t net) where
  -- The slot of the cycle.
  abbrev slot : ℕ
  slot = t % sessions.size

  -- What a session's queue is behind the drive: without what its private server sends and returns.
  pub record Leaves (c : ℕ) : Type 0 where
    pub is : queue_of sessions (after sessions net t) c
        ≡ without (sends (flow_at sessions c) t) (returns (flow_at sessions c) t)
        (queue_of sessions net c)
    pub words : sends (flow_at sessions c) t ≤ net.enqueued c - sent (server_at sessions c) t
    pub counter : sends (flow_at sessions c) t ≤ (queue_of sessions net c).counter
    pub credits : returns (flow_at sessions c) t ≤ (queue_of sessions net c).owed

  -- A queue that nothing leaves.
  rests : (c : ℕ) → c < sessions.count
      → queue_of sessions (after sessions net t) c ≡ queue_of sessions net c
      → (IsInjecting sessions ok t net at enough c → ⊥) → Leaves c
  rests c h same never =
      let flow = flow_at sessions c in
      let none : sends flow t + returns flow t ≡ 0 =
      elim (cases_lt 0 (sends flow t + returns flow t)) [
        | inl some ↦ absurd (never (injecting sessions ok t net at enough c h some))
        | inr none ↦ omega (arith, none)
      ] in
      let no_words : sends flow t ≡ 0 = omega (arith, none) in
      let no_credits : returns flow t ≡ 0 = omega (arith, none) in
      record {
        is = same ∙ sym (without-none (sends flow t) (returns flow t) (queue_of sessions net c)
            no_words no_credits);
        words = omega (arith, no_words);
        counter = omega (arith, no_words);
        credits = omega (arith, no_credits);
      }

  -- A queue that is let go.
  let-go : (c : ℕ) → c < sessions.count → has_slot sessions c slot ≡ true
      → MaySend sessions c (suc t)
      → queue_of sessions (after sessions net t) c ≡ flit_sent (queue_of sessions net c) → Leaves c
  let-go c h uses run goes =
      let flow = flow_at sessions c in
      let queue = queue_of sessions net c in
      let own = owns-running sessions ok c (suc t) h run in
      let words = words-sent sessions ok t net at enough c h uses run in
      let credits = credits-sent sessions ok t net at enough c h uses run in
      let some = waiting-length sessions ok (suc t) t net at c h own in
      record {
        is = goes
            ∙ flit_sent-behind queue (route_of flow) (at.running c h run) (at.route c h run)
            ∙ ap (λ n. without n (credits_sent queue) queue) words
            ∙ ap (λ n. without (sends flow t) n queue) credits;
        words = omega (arith, words, some);
        counter = omega (arith, words);
        credits = omega (arith, credits);
      }

  -- A session's queue is let go in its slots, between its write and its stop; else its private
  -- server rests.
  pub leaves : (c : ℕ) → c < sessions.count → Owns sessions c (suc t) → Leaves c
  leaves c h own =
      let ni = (sessions.routed_session c).ni in
      let queue = queue_of sessions net c in
      let entry = net.entry ni slot in
      let number = (sessions.routed_session c).queue in
      elim (cases_Bool (is_entry entry number)) [
        | inr other ↦
            rests c h (ap (λ (b : Bool). cond b (flit_sent queue) queue) other) (λ injects.
            both_ways (is_entry entry number) other
            (ap (λ (e : Option ℕ). is_entry e number) injects.entry ∙ eq-eqb number number refl))
        | inl named ↦
            let goes : queue_of sessions (after sessions net t) c ≡ flit_sent queue =
            ap (λ (b : Bool). cond b (flit_sent queue) queue) named in
            elim (entry-runs sessions ok t net at enough ni number (named-entry entry number named)) [
              | inr halts ↦
                  rests c h (goes ∙ flit_sent-halted queue halts) (λ injects.
                  both_ways queue.halted (at.running c h injects.run) halts)
              | inl runs ↦
                  let d = runs.number in
                  let one = (ok.apart d c runs.known h).queue (suc t)
                  (owns-running sessions ok d (suc t) runs.known runs.run) own
                  (record { ni = runs.ni; queue = runs.queue_is }) in
                  let-go c h (subst (λ n. has_slot sessions n slot ≡ true) one runs.uses)
                  (subst (λ n. MaySend sessions n (suc t)) one runs.run) goes
            ]
      ]
