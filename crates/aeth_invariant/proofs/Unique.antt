-- A wire has one flit at most in a cycle.
use Rattle.std.proofs.Common.{◌≡◌, ◌≤◌, ◌<◌, ◌∙◌, ℕ, suc, ◌+◌, ◌-◌, ◌%◌, ◌&&◌, Bool, true, false}
use Rattle.std.proofs.Common.{List, ltb, length, sym, ap, arith, inl, inr, eq-eqb, ltb-true, le-leb}
use Rattle.std.proofs.Common.{lt-ltb, eqb-true, ◌==◌, IsTrue, nat_le, nat_lt, not}
use Rattle.std.proofs.Math.Nat.{mod-add-mod}
use Rattle.std.proofs.lemmas.Bool.{cases_Bool, cases_lt, and_parts, and_from, both_ways}
use Rattle.std.proofs.lemmas.Bool.{not_from_false, not_from_true}
use Rattle.std.proofs.lemmas.Option.{slice_get_within}
use Rattle.std.specs.List.{list_any}
use Rattle.aeth_report.specs.Carries.{injects, returns, sends}
use Rattle.aeth_server.specs.{PrivateServer.PrivateServer, PrivateServer.credited}
use Rattle.aeth_server.specs.{PrivateServer.sent, Shape.HasPaths, SlotCycles.is_slot}
use Rattle.aeth_server.proofs.SessionEnds.{idle-before}
use Rattle.aeth_invariant.specs.WellRouted.{AreWellRouted}
use Rattle.aeth_invariant.specs.Carried.{IsOnWire}
use Rattle.aeth_invariant.specs.RoutedSessions.{RoutedSessions, IsOpenSession, IsInTables, flow_at}
use Rattle.aeth_invariant.specs.RoutedSessions.{has_slot, server_at}
use Rattle.aeth_invariant.proofs.Counts.{credited-rests, sent-rests}

module _ (sessions : RoutedSessions) (ok : AreWellRouted sessions) where
  abbrev other : ℕ → ℕ
  other c = sessions.opposite c

  -- The opposite session is one of all.
  pub known-back : (c : ℕ) → c < sessions.count → sessions.opposite c < sessions.count
  known-back c h = (ok.answered c h).known

  -- Both directions have a path.
  pub paths-of : (c : ℕ) → c < sessions.count → HasPaths (server_at sessions c).shape
  paths-of c h = (ok.given c h).sendable.paths

  -- A path has a wire.
  pub some-wires : (c : ℕ) → c < sessions.count → 0 < length (sessions.routed_session c).wires
  some-wires c h =
      let path = ok.path c h in
      let within = slice_get_within (sessions.routed_session c).wires 0 path.first path.at in
      omega arith

  -- What a session sends, by the counts of its server.
  pub sends-step : (c u : ℕ) → sends (flow_at sessions c) u
      ≡ sent (server_at sessions c) (suc u) - sent (server_at sessions c) u
  sends-step c u =
      let next : u + 1 ≡ suc u = omega arith in
      ap (λ n. sent (server_at sessions c) n - sent (server_at sessions c) u) next

  -- What it returns, by those of the opposite one.
  pub returns-step : (c u : ℕ) → c < sessions.count → returns (flow_at sessions c) u
      ≡ credited (server_at sessions (other c)) (suc u) - credited (server_at sessions (other c)) u
  returns-step c u h =
      let next : u + 1 ≡ suc u = omega arith in
      ap (λ (s : PrivateServer). credited s (u + 1) - credited s u) (ok.answered c h).server
      ∙ ap
      (λ n. credited (server_at sessions (other c)) n - credited (server_at sessions (other c)) u)
      next

  -- The slots of a server are those of its session.
  pub slot-is : (c u : ℕ) → c < sessions.count
      → is_slot (server_at sessions c).shape.size (server_at sessions c).shape.slots u
      ≡ has_slot sessions c (u % sessions.size)
  slot-is c u h =
      ap (λ n. list_any (λ x. u % n == x) (server_at sessions c).shape.slots) (ok.given c h).size

  -- So are the slots in which the opposite server gives credits back.
  pub back_slot-is : (c u : ℕ) → c < sessions.count
      → is_slot (server_at sessions (other c)).shape.size
      (server_at sessions (other c)).shape.back_slots u
      ≡ has_slot sessions c (u % sessions.size)
  back_slot-is c u h =
      let g = known-back c h in
      ap (λ (xs : List ℕ). is_slot (server_at sessions (other c)).shape.size xs u)
      ((ok.answered (other c) g).slots
      ∙ ap (λ d. (server_at sessions d).shape.slots) (ok.answered c h).back)
      ∙ ap (λ n. list_any (λ x. u % n == x) (server_at sessions c).shape.slots)
      (ok.given (other c) g).size

  -- Whether a session may send in a cycle.
  abbrev pub may_send : ℕ → ℕ → Bool
  may_send c u = ltb u (server_at sessions c).stop && has_slot sessions c (u % sessions.size)

  -- Where it may not, it sends and returns nothing.
  pub silent : (c u : ℕ) → c < sessions.count → may_send c u ≡ false
      → (sends (flow_at sessions c) u ≡ 0) × (returns (flow_at sessions c) u ≡ 0)
  silent c u h shut =
      let g = known-back c h in
      let own = server_at sessions c in
      let back = server_at sessions (other c) in
      let words = sent-rests own (paths-of c h) u
      (ap (λ (b : Bool). ltb u own.stop && b) (slot-is c u h) ∙ shut) in
      let credits = credited-rests back (paths-of (other c) g) u
      (ap (λ (b : Bool). ltb u back.stop && b) (back_slot-is c u h)
      ∙ ap (λ n. ltb u n && has_slot sessions c (u % sessions.size)) (ok.answered c h).stop ∙ shut)
      in
      let one = sends-step c u in
      let two = returns-step c u h in
      (omega arith, omega arith)

  -- Nothing is sent or returned before a session goes.
  pub early : (c u : ℕ) → c < sessions.count → u < (server_at sessions c).go
      → (sends (flow_at sessions c) u ≡ 0) × (returns (flow_at sessions c) u ≡ 0)
  early c u h before =
      let g = known-back c h in
      let go = (ok.answered c h).go in
      let words = idle-before (server_at sessions c) (paths-of c h) (suc u) before in
      let credits =
      idle-before (server_at sessions (other c)) (paths-of (other c) g) (suc u) (omega arith) in
      let no_words = words.sent in
      let no_credits = credits.credited in
      let one = sends-step c u in
      let two = returns-step c u h in
      (omega arith, omega arith)

  -- A slot of its own, while a session goes, before its stop.
  pub record IsInSlot (c u : ℕ) : Type 0 where
    pub uses : has_slot sessions c (u % sessions.size) ≡ true
    pub go : (server_at sessions c).go ≤ u
    pub stop : u < (server_at sessions c).stop

  -- Where it sends or returns something it is in such a slot.
  pub in-slot : (c u : ℕ) → c < sessions.count
      → 0 < sends (flow_at sessions c) u + returns (flow_at sessions c) u → IsInSlot c u
  in-slot c u h some =
      let may : may_send c u ≡ true = elim (cases_Bool (may_send c u)) [
        | inl is ↦ is
        | inr shut ↦
            let none = silent c u h shut in
            absurd (omega (arith, none.0, none.1, some))
      ] in
      let parts =
      and_parts (ltb u (server_at sessions c).stop) (has_slot sessions c (u % sessions.size)) may in
      record {
        uses = parts.1;
        go = elim (cases_lt u (server_at sessions c).go) [
          | inl before ↦
              let none = early c u h before in
              absurd (omega (arith, none.0, none.1, some))
          | inr goes ↦ goes
        ];
        stop = ltb-true u (server_at sessions c).stop parts.0;
      }

  -- So it injects a flit exactly where it has something to send.
  pub injects-some : (c u : ℕ) → c < sessions.count
      → 0 < sends (flow_at sessions c) u + returns (flow_at sessions c) u
      → IsTrue (injects (flow_at sessions c) u)
  injects-some c u h some =
      let flow = flow_at sessions c in
      let server = flow.server in
      let slot = in-slot c u h some in
      let nothing = sends flow u == 0 && returns flow u == 0 in
      let not_none : nothing ≡ false = elim (cases_Bool nothing) [
        | inl none ↦ absurd (
            let both = and_parts (sends flow u == 0) (returns flow u == 0) none in
            let a = eqb-true (sends flow u) 0 both.0 in
            let b = eqb-true (returns flow u) 0 both.1 in
            omega arith)
        | inr is ↦ is
      ] in
      and_from (nat_le server.go u && nat_lt u server.stop) (not nothing)
      (and_from (nat_le server.go u) (nat_lt u server.stop) (le-leb server.go u slot.go)
      (lt-ltb u server.stop slot.stop))
      (not_from_false nothing not_none)

  pub some-injected : (c u : ℕ) → IsTrue (injects (flow_at sessions c) u)
      → 0 < sends (flow_at sessions c) u + returns (flow_at sessions c) u
  some-injected c u injected =
      let flow = flow_at sessions c in
      let server = flow.server in
      let nothing = sends flow u == 0 && returns flow u == 0 in
      let parts = and_parts (nat_le server.go u && nat_lt u server.stop) (not nothing) injected in
      elim (cases_lt 0 (sends flow u + returns flow u)) [
        | inl some ↦ some
        | inr none ↦ absurd (
            let a : sends flow u ≡ 0 = omega arith in
            let b : returns flow u ≡ 0 = omega arith in
            let is = and_from (sends flow u == 0) (returns flow u == 0) (eq-eqb (sends flow u) 0 a)
            (eq-eqb (returns flow u) 0 b) in
            both_ways (not nothing) (not_from_true nothing is) parts.1)
      ]

  -- A flit is on the wires within its session alone: so the drain of the greatest path delay is
  -- enough.
  pub live : (l t c i u : ℕ) → IsOnWire sessions l t c i u → IsOpenSession sessions c t
  live l t c i u on =
      let slot = in-slot c u on.known (some-injected c u on.injected) in
      let goes = slot.go in
      let stops = slot.stop in
      let within = slice_get_within (sessions.routed_session c).wires i l on.place in
      let drained = (ok.given c on.known).drained in
      let time = on.time in
      record { goes = omega arith; unfinished = omega arith }

  -- So tables of routers have its session.
  pub in_tables : (l t c i u : ℕ) → IsOnWire sessions l t c i u → IsInTables sessions c t
  in_tables l t c i u on =
      let going = live l t c i u on in
      let goes = going.goes in
      let first = (ok.ordered c on.known).entered_go in
      record { since = omega (arith, first, goes); unfinished = going.unfinished }

  -- A wire has one flit at most.
  pub one_flit : (l t c i u d j v : ℕ) → IsOnWire sessions l t c i u → IsOnWire sessions l t d j v
      → (c ≡ d) × (i ≡ j) × (u ≡ v)
  one_flit l t c i u d j v one two =
      let x = (in-slot c u one.known (some-injected c u one.injected)).uses in
      let y = (in-slot d v two.known (some-injected d v two.injected)).uses in
      let same : (u % sessions.size + i) % sessions.size ≡ (v % sessions.size + j) % sessions.size =
      mod-add-mod u sessions.size i ∙ ap (λ n. n % sessions.size) (one.time ∙ sym two.time)
      ∙ sym (mod-add-mod v sessions.size j) in
      let found =
      (ok.apart c d one.known two.known).wire i j l (u % sessions.size) (v % sessions.size) t
      (in_tables l t c i u one) (in_tables l t d j v two) one.place two.place x y same in
      let places = found.1 in
      let now = one.time in
      let then = two.time in
      (found.0, found.1, omega arith)
