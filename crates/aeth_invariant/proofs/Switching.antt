-- The halts, finishes and writes of a cycle lead from the tables of the cycle before to its own.
use Rattle.std.proofs.Common.{◌≡◌, ◌≢◌, ◌≤◌, ◌<◌, ◌∙◌, ◌⊎◌, ℕ, suc, ◌+◌, ◌-◌, true, false, [], Some}
use Rattle.std.proofs.Common.{refl, sym, ap, arith, inl, inr}
use Rattle.std.proofs.lemmas.Bool.{cases_eq}
use Rattle.aeth_ni.specs.{Limits.waiting_words, Queue.QueueState}
use Rattle.aeth_server.specs.PrivateServer.{arrived, credited, landed, returned, sent, taken}
use Rattle.aeth_server.proofs.SessionEnds.{idle-before}
use Rattle.aeth_invariant.specs.WellRouted.{HasEntry, AreWellRouted}
use Rattle.aeth_invariant.specs.Carried.{words_from}
use Rattle.aeth_invariant.specs.Switches.{HasEvent, Switched, finish_of, route_of}
use Rattle.aeth_invariant.specs.Components.{Net, queue_of}
use Rattle.aeth_invariant.specs.RoutedSessions.{RoutedSessions, Owns, flow_at, has_slot, server_at}
use Rattle.aeth_invariant.specs.Standing.{HasCounter, IsEntryOf, MaySend, Stands}
use Rattle.aeth_invariant.proofs.Owning.{exact-same}
use Rattle.aeth_invariant.proofs.Unique.{known-back, paths-of}
use Rattle.aeth_invariant.proofs.Words.{same_words}
use Rattle.aeth_invariant.proofs.Events.{just-finished, lasts, no-finish, no-freed, no-set}
use Rattle.aeth_invariant.proofs.Events.{no-set-route, no-stop, own-since, same-queue}

module _ (sessions : RoutedSessions) (ok : AreWellRouted sessions) (t : ℕ) (old new : Net)
    (at : Stands sessions t t old)
    (change : Switched sessions (suc t) old new) where
  -- What a finish leaves.
  finished-waiting : (c : ℕ) → HasEvent sessions (finish_of sessions) (suc t) c
      → (queue_of sessions new c).waiting ≡ []
  finished-waiting c event =
      ap (λ (q : QueueState). q.waiting) (sym (same-queue sessions new event.number c event.same))
      ∙ change.finish_waiting event.number event.known event.falls

  finished-received : (c : ℕ) → HasEvent sessions (finish_of sessions) (suc t) c
      → (queue_of sessions new c).received ≡ []
  finished-received c event =
      ap (λ (q : QueueState). q.received) (sym (same-queue sessions new event.number c event.same))
      ∙ change.finish_received event.number event.known event.falls

  finished-owed : (c : ℕ) → HasEvent sessions (finish_of sessions) (suc t) c
      → (queue_of sessions new c).owed ≡ 0
  finished-owed c event =
      ap (λ (q : QueueState). q.owed) (sym (same-queue sessions new event.number c event.same))
      ∙ change.finish_owed event.number event.known event.falls

  -- A session that gets its queue now has done nothing yet.
  record IsFresh (c : ℕ) : Type 0 where
    enqueued : new.enqueued c ≡ 0
    early : t ≤ (server_at sessions c).go
    finished : HasEvent sessions (finish_of sessions) (suc t) c

  fresh : (c : ℕ) → c < sessions.count → (sessions.routed_session c).since ≡ suc t → IsFresh c
  fresh c h is =
      let last = lasts sessions ok c h in
      record {
        enqueued = change.enqueued c h (omega (arith, last.since, last.set, last.finish, is))
            ∙ at.none_enqueued c h (omega (arith, is));
        early = omega (arith, last.since, last.go, is);
        finished = just-finished sessions ok t c h is;
      }

  -- Nor has the opposite one, a cycle later either.
  record IsIdleThen (c : ℕ) : Type 0 where
    landed : landed (server_at sessions (sessions.opposite c)) (suc t) ≡ 0
    taken : taken (server_at sessions (sessions.opposite c)) t ≡ 0
    credited : credited (server_at sessions (sessions.opposite c)) t ≡ 0

  idle-then : (c : ℕ) → c < sessions.count → (sessions.routed_session c).since ≡ suc t
      → IsIdleThen c
  idle-then c h is =
      let d = sessions.opposite c in
      let paths = paths-of sessions ok d (known-back sessions ok c h) in
      let last = lasts sessions ok c h in
      let go = (ok.answered c h).go in
      let next = idle-before (server_at sessions d) paths (suc t)
      (omega (arith, last.since, last.go, is, go)) in
      let now = idle-before (server_at sessions d) paths t
      (omega (arith, last.since, last.go, is, go)) in
      record { landed = next.landed; taken = now.taken; credited = now.credited }

  -- An entry that was and stays a session's isn't touched.
  entry-stays : (c x : ℕ) → c < sessions.count → has_slot sessions c x ≡ true
      → (sessions.routed_session c).slot_set x ≤ t
      → suc t < (sessions.routed_session c).slot_freed x
      → new.entry (sessions.routed_session c).ni x ≡ old.entry (sessions.routed_session c).ni x
  entry-stays c x h uses set freed =
      change.kept_entry (sessions.routed_session c).ni x
      (λ d there falls.
      let order = (ok.ordered d there.known).slot_lasts x there.uses in
      let one = (ok.apart d c there.known h).entry x (suc t)
      (record {
        uses = there.uses;
        set = omega (arith, falls);
        freed = omega (arith, falls, order);
      })
      (record { uses = uses; set = omega (arith, set); freed = freed }) there.ni in
      let same = ap (λ n. (sessions.routed_session n).slot_set x) one in
      omega (arith, same, falls, set))
      (λ d there falls.
      let order = (ok.ordered d there.known).slot_lasts x there.uses in
      let one = (ok.apart d c there.known h).entry x t
      (record {
        uses = there.uses;
        set = omega (arith, falls, order);
        freed = omega (arith, falls);
      })
      (record { uses = uses; set = set; freed = omega (arith, freed) }) there.ni in
      let same = ap (λ n. (sessions.routed_session n).slot_freed x) one in
      omega (arith, same, falls, freed))

  entries-only : (n x queue : ℕ) → new.entry n x ≡ Some queue
      → IsEntryOf sessions (suc t) n x queue
  entries-only n x queue is = elim (change.from_entry n x queue is) [
    | inl now ↦
        let order = (ok.ordered now.number now.at.known).slot_lasts x now.at.uses in
        let falls = now.falls in
        record {
          number = now.number;
          at = now.at;
          queue_is = now.queue_is;
          has = record {
            uses = now.at.uses;
            set = omega (arith, falls);
            freed = omega (arith, falls, order);
          };
        }
    | inr (was, uncleared) ↦
        let of = at.entry_only n x queue was in
        let set = of.has.set in
        let freed = of.has.freed in
        record {
          number = of.number;
          at = of.at;
          queue_is = of.queue_is;
          has = record {
            uses = of.at.uses;
            set = omega (arith, set);
            freed = elim (cases_eq ((sessions.routed_session of.number).slot_freed x) (suc t)) [
              | inl now ↦ absurd (uncleared of.number of.at now)
              | inr other ↦ omega (arith, freed, other)
            ];
          };
        }
  ]

  entries-all : (c x : ℕ) → c < sessions.count → HasEntry sessions c x (suc t)
      → new.entry (sessions.routed_session c).ni x ≡ Some (sessions.routed_session c).queue
  entries-all c x h has =
      let set = has.set in
      let freed = has.freed in
      elim (cases_eq ((sessions.routed_session c).slot_set x) (suc t)) [
        | inl now ↦
            change.set_slot (sessions.routed_session c).ni x c
            (record { known = h; uses = has.uses; ni = refl }) now
        | inr other ↦
            entry-stays c x h has.uses (omega (arith, set, other)) freed
            ∙ at.entry_all c x h (record {
              uses = has.uses;
              set = omega (arith, set, other);
              freed = omega (arith, freed);
            })
      ]

  -- A running session's route was set already, or is set now.
  record Ran (c : ℕ) : Type 0 where
    run : MaySend sessions c t
    set : (sessions.routed_session c).set ≤ t
    freed : suc t < (sessions.routed_session c).freed
    stop : (server_at sessions c).stop ≢ t

  ran : (c : ℕ) → c < sessions.count → MaySend sessions c (suc t)
      → Ran c ⊎ ((sessions.routed_session c).set ≡ suc t)
  ran c h run =
      let set = run.set in
      let stop = run.stop in
      let freed = (lasts sessions ok c h).freed in
      elim (cases_eq (sessions.routed_session c).set (suc t)) [
        | inl now ↦ inr now
        | inr other ↦ inl (record {
          run = record { set = omega (arith, set, other); stop = omega (arith, stop) };
          set = omega (arith, set, other);
          freed = omega (arith, stop, freed);
          stop = λ is. absurd (omega (arith, is, stop));
        })
      ]

  routes : (c : ℕ) → c < sessions.count → MaySend sessions c (suc t)
      → (queue_of sessions new c).route ≡ Some (route_of (flow_at sessions c))
  routes c h run = elim (ran c h run) [
    | inr now ↦ change.set_route c h now
    | inl was ↦
        change.kept_route c h (no-set-route sessions ok t c h was.set was.freed)
        (no-freed sessions ok t c h was.set was.freed)
        ∙ at.route c h was.run
  ]

  runs : (c : ℕ) → c < sessions.count → MaySend sessions c (suc t)
      → (queue_of sessions new c).halted ≡ false
  runs c h run = elim (ran c h run) [
    | inr now ↦ change.set_halted c h now
    | inl was ↦
        let set = was.set in
        let freed = was.freed in
        change.kept_halted c h (no-set-route sessions ok t c h set freed)
        (no-stop sessions ok t c h (record { set = set; freed = omega (arith, freed) }) was.stop)
        ∙ at.running c h was.run
  ]

  halts : (c : ℕ) → c < sessions.count → (server_at sessions c).stop < suc t
      → suc t < (sessions.routed_session c).freed → (queue_of sessions new c).halted ≡ true
  halts c h stop freed =
      let set = (lasts sessions ok c h).set in
      elim (cases_eq (server_at sessions c).stop t) [
        | inl now ↦ change.halt c h (ap (λ n. suc n) now)
        | inr other ↦
            let before : (server_at sessions c).stop < t = omega (arith, stop, other) in
            change.kept_halted c h (no-set-route sessions ok t c h (omega (arith, set, stop)) freed)
            (no-stop sessions ok t c h
            (record { set = omega (arith, set, stop); freed = omega (arith, freed) }) other)
            ∙ at.halted c h before (omega (arith, freed))
      ]

  enqueued-low : (c : ℕ) → c < sessions.count → Owns sessions c (suc t)
      → sent (server_at sessions c) t ≤ new.enqueued c
  enqueued-low c h own = elim (own-since sessions ok t c own) [
    | inl was ↦ omega (arith, at.enqueued_low c h was, change.enqueued c h own.finish)
    | inr now ↦
        let none = idle-before (server_at sessions c) (paths-of sessions ok c h) t
        (fresh c h now).early in
        omega (arith, none.sent)
  ]

  enqueued-high : (c : ℕ) → c < sessions.count → Owns sessions c (suc t)
      → new.enqueued c ≤ sent (server_at sessions c) t + waiting_words
  enqueued-high c h own = elim (own-since sessions ok t c own) [
    | inl was ↦ omega (arith, at.enqueued_high c h was, change.enqueued c h own.finish)
    | inr now ↦ omega (arith, (fresh c h now).enqueued)
  ]

  enqueued-few : (c : ℕ) → c < sessions.count → Owns sessions c (suc t)
      → new.enqueued c ≤ arrived (server_at sessions c) (suc t)
  enqueued-few c h own = elim (own-since sessions ok t c own) [
    | inl was ↦ omega (arith, at.enqueued_arrived c h was, change.enqueued c h own.finish)
    | inr now ↦ omega (arith, (fresh c h now).enqueued)
  ]

  waits : (c : ℕ) → c < sessions.count → Owns sessions c (suc t)
      → (queue_of sessions new c).waiting ≡ words_from (flow_at sessions c).values
      (sent (server_at sessions c) t) (new.enqueued c - sent (server_at sessions c) t)
  waits c h own =
      let values = (flow_at sessions c).values in
      let gone = sent (server_at sessions c) t in
      elim (own-since sessions ok t c own) [
        | inl was ↦
            change.kept_waiting c h (no-finish sessions ok t c h was.since own.finish)
            ∙ at.waiting c h was
            ∙ ap (λ n. words_from values gone (n - gone)) (sym (change.enqueued c h own.finish))
        | inr now ↦
            let start = fresh c h now in
            finished-waiting c start.finished
            ∙ same_words values gone 0 gone (new.enqueued c - gone) refl
            (omega (arith, start.enqueued))
      ]

  receives : (c : ℕ) → c < sessions.count → Owns sessions c (suc t)
      → let d = sessions.opposite c in
      (queue_of sessions new c).received ≡ words_from (flow_at sessions d).values
      (taken (server_at sessions d) t)
      (landed (server_at sessions d) (suc t) - taken (server_at sessions d) t)
  receives c h own =
      let d = sessions.opposite c in
      let server = server_at sessions d in
      elim (own-since sessions ok t c own) [
        | inl was ↦
            change.kept_received c h (no-finish sessions ok t c h was.since own.finish)
            ∙ at.received c h was
        | inr now ↦
            let start = fresh c h now in
            let none = idle-then c h now in
            finished-received c start.finished
            ∙ same_words (flow_at sessions d).values (taken server t) 0 (taken server t)
            (landed server (suc t) - taken server t) refl (omega (arith, none.landed))
      ]

  counts : (c : ℕ) → c < sessions.count → HasCounter sessions c (suc t)
      → (queue_of sessions new c).counter + sent (server_at sessions c) t
      ≡ (server_at sessions c).buffer + returned (server_at sessions c) (suc t)
  counts c h has =
      let set = has.set in
      let finish = has.finish in
      elim (cases_eq (sessions.routed_session c).set (suc t)) [
        | inl now ↦
            let go = (lasts sessions ok c h).go in
            let none = idle-before (server_at sessions c) (paths-of sessions ok c h) (suc t)
            (omega (arith, go, now)) in
            let before = idle-before (server_at sessions c) (paths-of sessions ok c h) t
            (omega (arith, go, now)) in
            omega (arith, change.set_counter c h now, none.returned, before.sent)
        | inr other ↦
            let since = (lasts sessions ok c h).since in
            let same = change.kept_counter c h
            (no-finish sessions ok t c h (omega (arith, since, set, other)) finish)
            (no-set sessions ok t c h (omega (arith, set, other)) finish) in
            let was = at.counter c h
            (record { set = omega (arith, set, other); finish = omega (arith, finish) }) in
            omega (arith, same, was)
      ]

  owes : (c : ℕ) → c < sessions.count → Owns sessions c (suc t)
      → let d = sessions.opposite c in
      (queue_of sessions new c).owed + credited (server_at sessions d) t
      ≡ taken (server_at sessions d) t
  owes c h own = elim (own-since sessions ok t c own) [
    | inl was ↦
        let same = change.kept_owed c h (no-finish sessions ok t c h was.since own.finish) in
        omega (arith, same, at.owed c h was)
    | inr now ↦
        let none = idle-then c h now in
        omega (arith, finished-owed c (fresh c h now).finished, none.taken, none.credited)
  ]

  -- The tables of the cycle.
  pub switched : Stands sessions (suc t) t new
  switched = record {
    entry_only = entries-only;
    entry_all = entries-all;
    route = routes;
    running = runs;
    halted = halts;
    none_enqueued = λ c h soon.
        let last = lasts sessions ok c h in
        change.enqueued c h (omega (arith, last.since, last.set, last.finish, soon))
        ∙ at.none_enqueued c h (omega (arith, soon));
    enqueued_low = enqueued-low;
    enqueued_high = enqueued-high;
    enqueued_arrived = enqueued-few;
    waiting = waits;
    received = receives;
    counter = counts;
    owed = owes;
    room = λ c h. omega (arith, at.room c h, change.kept_room c h);
    held = λ v is. exact-same sessions v old.held new.held change.held (at.held v is);
    held_none = λ is l. change.held l ∙ at.held_none is l;
  }
