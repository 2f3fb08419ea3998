-- Interfaces emit the flits of the sessions that begin there, and nothing else.
use Rattle.std.proofs.Common.{◌≡◌, ◌<◌, ◌∙◌, ℕ, zero, suc, ◌+◌, ◌%◌, map, Option, Some, None, refl}
use Rattle.std.proofs.Common.{sym, ap, subst, arith, inl, inr}
use Rattle.std.proofs.lemmas.{Bool.both_ways, Option.same_Some}
use Rattle.aeth_clocked.specs.declared.flit.Flit.{Flit}
use Rattle.aeth_ni.specs.{Queue.QueueState, Sending.emitted, Sending.next_flit}
use Rattle.aeth_ni.specs.{declared.queue.Route.Route}
use Rattle.aeth_report.specs.Carries.{returns, sends}
use Rattle.aeth_report.proofs.SessionMeetings.{mapped_at}
use Rattle.aeth_router.{specs.Ports.flits_for, specs.Ports.sole, proofs.PortLemmas.Alone-from_sole}
use Rattle.aeth_invariant.specs.WellRouted.{AreWellRouted}
use Rattle.aeth_invariant.specs.Carried.{Comes, Exact, IsOnWire, flit_of}
use Rattle.aeth_invariant.specs.Switches.{route_of}
use Rattle.aeth_invariant.specs.Components.{Net, driven, emit, emitted_by, queue_of}
use Rattle.aeth_invariant.specs.RoutedSessions.{AtInterface, AtRouter, AtStage, RoutedSessions}
use Rattle.aeth_invariant.specs.RoutedSessions.{WireEnd, flow_at}
use Rattle.aeth_invariant.specs.Standing.{Stands}
use Rattle.aeth_invariant.proofs.Queues.{emitted-parts, emitted-some}
use Rattle.aeth_invariant.proofs.Ready.{Enough}
use Rattle.aeth_invariant.proofs.Routers.{not_both, not_end, place_before, router_all, router_only}
use Rattle.aeth_invariant.proofs.Routers.{same_interface, stage_all, stage_only, starts_at}
use Rattle.aeth_invariant.proofs.Unique.{injects-some, some-injected}
use Rattle.aeth_invariant.proofs.Sending.{RunsAt, credits-sent, entry-runs, flit-sent, injecting}
use Rattle.aeth_invariant.proofs.Sending.{queue-there, words-sent}

module _ (sessions : RoutedSessions) (ok : AreWellRouted sessions) (t : ℕ) (net : Net)
    (at : Stands sessions (suc t) t net) (enough : Enough sessions ok t net) where
  -- The slot of the cycle.
  abbrev slot : ℕ
  slot = t % sessions.size

  -- What it emits then is that session's flit.
  interface-comes : (l n queue : ℕ) (flit : Flit) → sessions.start l ≡ AtInterface n
      → RunsAt sessions ok t net at enough n queue
      → emitted (net.queue n queue) ≡ Some flit → Comes sessions l t flit
  interface-comes l n queue flit start runs emits =
      let c = runs.number in
      let flow = flow_at sessions c in
      let path = ok.path c runs.known in
      let parts = emitted-parts (queue_of sessions net c) flit
      (ap (λ (q : QueueState). emitted q)
      (sym (queue-there sessions ok t net at enough n queue runs)) ∙ emits) in
      let words = words-sent sessions ok t net at enough c runs.known runs.uses runs.run in
      let credits = credits-sent sessions ok t net at enough c runs.known runs.uses runs.run in
      let route : parts.route ≡ route_of flow =
      same_Some parts.route (route_of flow) (sym parts.routed ∙ at.route c runs.known runs.run) in
      let first : path.first ≡ l =
      ok.wired.leaves path.first (sessions.routed_session c).ni path.starts
      ∙ ap sessions.leaving runs.ni ∙ sym (ok.wired.leaves l n start) in
      record {
        number = c;
        place = 0;
        cycle = t;
        on = record {
          known = runs.known;
          place = path.at ∙ ap (λ m. Some m) first;
          time = omega arith;
          injected = injects-some sessions ok c t runs.known
              (omega (arith, parts.some, words, credits));
        };
        is = sym parts.is ∙ ap (λ (r : Route). next_flit (queue_of sessions net c) r) route
            ∙ flit-sent sessions ok t net at enough c runs.known runs.uses runs.run;
      }

  -- What an interface emits is a flit of a session that begins there.
  interface-only : (l n : ℕ) (flit : Flit) → sessions.start l ≡ AtInterface n
      → emitted_by (net.entry n slot) (net.queue n) ≡ Some flit → Comes sessions l t flit
  interface-only l n flit start is =
      let cases : (entry : Option ℕ) → net.entry n slot ≡ entry
      → emitted_by entry (net.queue n) ≡ Some flit → Comes sessions l t flit = elim [
        | None ↦ λ there none. absurd cc
        | Some queue ↦ λ there emits.
            elim (entry-runs sessions ok t net at enough n queue there) [
              | inr halts ↦ absurd (
                  let parts = emitted-parts (net.queue n queue) flit emits in
                  both_ways (net.queue n queue).halted parts.runs halts)
              | inl runs ↦ interface-comes l n queue flit start runs emits
            ]
      ] in
      cases (net.entry n slot) refl is

  -- An interface emits what its sessions are to send.
  interface-all : (l n c i u : ℕ) → sessions.start l ≡ AtInterface n → IsOnWire sessions l t c i u
      → emitted_by (net.entry n slot) (net.queue n) ≡ Some (flit_of sessions c i u)
  interface-all l n c zero u start on =
      let h = on.known in
      let flow = flow_at sessions c in
      let queue = queue_of sessions net c in
      let ni : (sessions.routed_session c).ni ≡ n =
      same_interface (sessions.routed_session c).ni n (sessions.start l)
      (starts_at sessions ok c l h on.place) start in
      let now : u ≡ t = let time = on.time in omega arith in
      let some = subst (λ v. 0 < sends flow v + returns flow v) now
      (some-injected sessions ok c u on.injected) in
      let sends_now = injecting sessions ok t net at enough c h some in
      let words = words-sent sessions ok t net at enough c h sends_now.uses sends_now.run in
      let credits = credits-sent sessions ok t net at enough c h sends_now.uses sends_now.run in
      ap (λ m. emitted_by (net.entry m slot) (net.queue m)) (sym ni)
      ∙ ap (λ (e : Option ℕ). emitted_by e (net.queue (sessions.routed_session c).ni))
      sends_now.entry
      ∙ emitted-some queue (route_of flow) (at.running c h sends_now.run)
      (at.route c h sends_now.run) (omega (arith, words, credits, some))
      ∙ ap (λ (f : Flit). Some f)
      (flit-sent sessions ok t net at enough c h sends_now.uses sends_now.run)
      ∙ ap (λ v. Some (flit_of sessions c 0 v)) (sym now)
  interface-all l n c (suc i) u start on =
      let m = place_before (sessions.routed_session c).wires i l on.place in
      absurd (elim ((ok.path c on.known).inner i m.0 l m.1 on.place) [
        | inl place ↦ not_both place.router n (sessions.start l) place.starts start
        | inr place ↦ not_end n m.0 (sessions.start l) start place.starts
      ])

  -- A router and a stage emit what the wires of the cycle before brought, and nothing in cycle 0.
  port_only : (v : ℕ) → v ≡ t → (l r : ℕ) (flit : Flit) → sessions.start l ≡ AtRouter r
      → sole (flits_for (sessions.port l) (map net.held (sessions.incoming r))) ≡ Some flit
      → Comes sessions l t flit
  port_only zero now l r flit start is =
      let alone = Alone-from_sole (sessions.port l) (map net.held (sessions.incoming r)) flit is in
      let from = mapped_at net.held (sessions.incoming r) alone.place (Some alone.flit)
      alone.names.at in
      let none : None ≡ Some alone.flit = sym (at.held_none (sym now) from.0) ∙ from.2 in
      absurd cc
  port_only (suc v) now l r flit start is =
      subst (λ n. Comes sessions l n flit) now
      (router_only sessions ok v net.held (at.held v now) l r flit start is)

  reads_only : (v : ℕ) → v ≡ t → (l m : ℕ) (flit : Flit) → sessions.start l ≡ AtStage m
      → net.held m ≡ Some flit → Comes sessions l t flit
  reads_only zero now l m flit start is =
      let none : None ≡ Some flit = sym (at.held_none (sym now) m) ∙ is in absurd cc
  reads_only (suc v) now l m flit start is =
      subst (λ n. Comes sessions l n flit) now
      (stage_only sessions ok v net.held (at.held v now) l m flit start is)

  port_all : (v : ℕ) → v ≡ t → (l r c i u : ℕ) → sessions.start l ≡ AtRouter r
      → IsOnWire sessions l t c i u
      → sole (flits_for (sessions.port l) (map net.held (sessions.incoming r)))
      ≡ Some (flit_of sessions c i u)
  port_all v now l r c zero u start on =
      absurd (not_both r (sessions.routed_session c).ni (sessions.start l) start
      (starts_at sessions ok c l on.known on.place))
  port_all zero now l r c (suc i) u start on = absurd (let time = on.time in omega arith)
  port_all (suc v) now l r c (suc i) u start on =
      router_all sessions ok v net.held (at.held v now) l r c (suc i) u start
      (subst (λ n. IsOnWire sessions l n c (suc i) u) (sym now) on)

  reads_all : (v : ℕ) → v ≡ t → (l m c i u : ℕ) → sessions.start l ≡ AtStage m
      → IsOnWire sessions l t c i u → net.held m ≡ Some (flit_of sessions c i u)
  reads_all v now l m c zero u start on =
      absurd (not_end (sessions.routed_session c).ni m (sessions.start l)
      (starts_at sessions ok c l on.known on.place) start)
  reads_all zero now l m c (suc i) u start on = absurd (let time = on.time in omega arith)
  reads_all (suc v) now l m c (suc i) u start on =
      stage_all sessions ok v net.held (at.held v now) l m c (suc i) u start
      (subst (λ n. IsOnWire sessions l n c (suc i) u) (sym now) on)

  -- The wires of cycle t are what the private servers say.
  pub wires-exact : Exact sessions t (driven sessions net t)
  wires-exact = record {
    only = λ l flit is.
        let cases : (end : WireEnd) → sessions.start l ≡ end → emit sessions net t l end ≡ Some flit
        → Comes sessions l t flit = elim [
          | AtRouter r ↦ λ start there. port_only t refl l r flit start there
          | AtInterface n ↦ λ start there. interface-only l n flit start there
          | AtStage m ↦ λ start there. reads_only t refl l m flit start there
        ] in
        cases (sessions.start l) refl is;
    all = λ l c i u on.
        let cases : (end : WireEnd) → sessions.start l ≡ end
        → emit sessions net t l end ≡ Some (flit_of sessions c i u) = elim [
          | AtRouter r ↦ λ start. port_all t refl l r c i u start on
          | AtInterface n ↦ λ start. interface-all l n c i u start on
          | AtStage m ↦ λ start. reads_all t refl l m c i u start on
        ] in
        cases (sessions.start l) refl;
  }
