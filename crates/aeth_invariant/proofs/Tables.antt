-- A router by tables sends on what a router by headers does, where it holds what routed sessions
-- carry.
use Rattle.std.proofs.Common.{◌≡◌, ◌<◌, ◌∙◌, ℕ, zero, suc, ◌+◌, ◌%◌, map, true, Option, Some, None}
use Rattle.std.proofs.Common.{refl, sym, ap, subst, arith, option_and_then, option_map}
use Rattle.std.proofs.Math.Nat.{mod-add-mod}
use Rattle.std.proofs.lemmas.Option.{same_Some}
use Rattle.aeth_base.proofs.Division.{mod-before}
use Rattle.aeth_clocked.specs.declared.flit.Flit.{Flit}
use Rattle.aeth_report.proofs.SessionMeetings.{mapped_at}
use Rattle.aeth_router.proofs.PortLemmas.{Alone-from_sole}
use Rattle.aeth_router.specs.Ports.{flits_for, hopped, sole}
use Rattle.aeth_invariant.specs.WellRouted.{AreWellRouted}
use Rattle.aeth_invariant.specs.Carried.{Comes, Exact, IsOnWire, flit_of}
use Rattle.aeth_invariant.specs.RoutedSessions.{AtRouter, RoutedSessions, IsPlace, has_slot}
use Rattle.aeth_invariant.specs.Tables.{AreEntries, GoesOnOnce, HasPassing, passed_on}
use Rattle.aeth_invariant.proofs.Routers.{before, behind, from_router, goes_past, not_both}
use Rattle.aeth_invariant.proofs.Routers.{place_before, router_all, router_only, starts_at}
use Rattle.aeth_invariant.proofs.Routers.{to_router}
use Rattle.aeth_invariant.proofs.Routes.{routers_passed-on}
use Rattle.aeth_invariant.proofs.Unique.{in-slot, some-injected, in_tables}

-- Two answers that are given together.
same_answers : {X : Type 0} (one other : Option X)
    → ((x : X) → one ≡ Some x → other ≡ Some x) → ((x : X) → other ≡ Some x → one ≡ Some x)
    → one ≡ other
same_answers (Some x) other to back = sym (to x refl)
same_answers None None to back = refl
same_answers None (Some y) to back = back y refl

-- What is sent on is held, from the wire of the entry.
sent-by : (held : ℕ → Option Flit) (m : ℕ) (found : Option Flit) (flit : Flit) → held m ≡ found
    → option_map hopped found ≡ Some flit
    → (f : Flit) × (held m ≡ Some f) × (hopped f ≡ flit)
sent-by held m None flit holds is = absurd (cc is)
sent-by held m (Some f) flit holds is = (f, holds, same_Some (hopped f) flit is)

sent-from : (held : ℕ → Option Flit) (entry : Option ℕ) (flit : Flit)
    → option_map hopped (option_and_then held entry) ≡ Some flit
    → (m : ℕ) × (entry ≡ Some m) × (f : Flit) × (held m ≡ Some f) × (hopped f ≡ flit)
sent-from held None flit is = absurd (cc is)
sent-from held (Some m) flit is =
    let sent = sent-by held m (held m) flit refl is in (m, refl, sent.0, sent.1, sent.2)

module _ (sessions : RoutedSessions) (ok : AreWellRouted sessions) (some : 0 < sessions.size) where
  -- A flit on a wire was injected in a slot of its session's own.
  own-slot : (l t c i u : ℕ) → IsOnWire sessions l t c i u
      → has_slot sessions c (u % sessions.size) ≡ true
  own-slot l t c i u on =
      (in-slot sessions ok c u on.known (some-injected sessions ok c u on.injected)).uses

  -- And it comes to a wire in the slot that is as far behind.
  slot-on : (l t c i u : ℕ) → IsOnWire sessions l t c i u
      → (u % sessions.size + i) % sessions.size ≡ t % sessions.size
  slot-on l t c i u on =
      mod-add-mod u sessions.size i ∙ ap (λ n. n % sessions.size) on.time

  -- The entry for a wire that a flit is on is its session's: the flit goes on where the entry says.
  goes-there : (t m l d j u n : ℕ) → HasPassing sessions (suc t) m l
      → IsOnWire sessions m t d j u → IsPlace sessions d (suc j) n → IsPlace sessions d (suc j) l
  goes-there t m l d j u n entry on next =
      let c = entry.number in
      let i = entry.place in
      let passing = entry.passing in
      let slot : (passing.slot + i) % sessions.size ≡ t % sessions.size =
      let one : passing.slot + suc i ≡ (passing.slot + i) + 1 = omega arith in
      let two : suc t ≡ t + 1 = omega arith in
      mod-before (passing.slot + i) t 1 sessions.size (omega (arith, some))
      (rw (one, two) at passing.time) in
      let same = (ok.apart c d passing.known on.known).wire i j m passing.slot (u % sessions.size)
      (suc t) entry.in_tables
      (in_tables sessions ok n (suc t) d (suc j) u (behind sessions ok m n t d j u on next))
      passing.here on.place passing.uses (own-slot m t d j u on)
      (slot ∙ sym (slot-on m t d j u on)) in
      subst (λ n. IsPlace sessions n (suc j) l) same.0
      (subst (λ k. IsPlace sessions c (suc k) l) same.1 passing.next)

  module _ (t : ℕ) (held : ℕ → Option Flit) (exact : Exact sessions t held) (from : ℕ → Option ℕ)
      (entries : AreEntries sessions (suc t) from) where
    -- A flit that goes on has its entry.
    has-entry : (m l r c i u : ℕ) → sessions.start l ≡ AtRouter r → IsPlace sessions c i m
        → IsOnWire sessions l (suc t) c (suc i) u → from l ≡ Some m
    has-entry m l r c i u start here on =
        entries.all c i m l r start (in_tables sessions ok l (suc t) c (suc i) u on) (record {
          known = on.known;
          here = here;
          next = on.place;
          slot = u % sessions.size;
          uses = own-slot l (suc t) c (suc i) u on;
          time = slot-on l (suc t) c (suc i) u on;
        })

    -- A table sends on what is to go on there.
    pub passed-all : (l r c i u : ℕ) → sessions.start l ≡ AtRouter r
        → IsOnWire sessions l (suc t) c i u → passed_on from held l ≡ Some (flit_of sessions c i u)
    passed-all l r c zero u start on =
        absurd (not_both r (sessions.routed_session c).ni (sessions.start l) start
        (starts_at sessions ok c l on.known on.place))
    passed-all l r c (suc i) u start on =
        let m = place_before (sessions.routed_session c).wires i l on.place in
        let through = from_router sessions ok c i m.0 l r on.known m.1 on.place start in
        let holds : held m.0 ≡ Some (flit_of sessions c i u) =
        exact.all m.0 c i u (before sessions ok l m.0 t c i u on m.1) in
        ap (λ (o : Option ℕ). option_map hopped (option_and_then held o))
        (has-entry m.0 l r c i u start m.1 on)
        ∙ ap (λ (o : Option Flit). option_map hopped o) holds
        ∙ ap (λ (f : Flit). Some f) (routers_passed-on sessions ok c i m.0 l u on.known through.0)

    -- What it sends on is a flit of a session, one place on.
    pub passed-only : (l r : ℕ) (flit : Flit) → sessions.start l ≡ AtRouter r
        → passed_on from held l ≡ Some flit → Comes sessions l (suc t) flit
    passed-only l r flit start is =
        let sent = sent-from held (from l) flit is in
        let m = sent.0 in
        let entry = entries.only m l r start sent.1 in
        let passing = entry.passing in
        let comes = exact.only m sent.2 sent.3 in
        let d = comes.number in
        let j = comes.place in
        let u = comes.cycle in
        let on = comes.on in
        let through = from_router sessions ok entry.number entry.place m l r passing.known
        passing.here passing.next start in
        let next = goes_past sessions ok d j m on.known on.place
        (not_both r (sessions.routed_session (sessions.opposite d)).ni (sessions.end m) through.1)
        in
        let there = goes-there t m l d j u next.0 entry on next.1 in
        let hop = to_router sessions ok d j m l r on.known on.place there through.1 in
        record {
          number = d;
          place = suc j;
          cycle = u;
          on = behind sessions ok m l t d j u on there;
          is = sym sent.4 ∙ ap hopped comes.is
              ∙ routers_passed-on sessions ok d j m l u on.known hop.0;
        }

    -- A flit that a router holds goes on by one wire, and by no other.
    pub passed-once : (m r : ℕ) (flit : Flit) → sessions.end m ≡ AtRouter r → held m ≡ Some flit
        → GoesOnOnce sessions from m r
    passed-once m r flit end holds =
        let comes = exact.only m flit holds in
        let d = comes.number in
        let j = comes.place in
        let u = comes.cycle in
        let on = comes.on in
        let next = goes_past sessions ok d j m on.known on.place
        (not_both r (sessions.routed_session (sessions.opposite d)).ni (sessions.end m) end) in
        let hop = to_router sessions ok d j m next.0 r on.known on.place next.1 end in
        record {
          link = next.0;
          starts = hop.1;
          entry = has-entry m next.0 r d j u hop.1 on.place
              (behind sessions ok m next.0 t d j u on next.1);
          alone = λ l s start is.
              let there = goes-there t m l d j u next.0 (entries.only m l s start is) on next.1 in
              same_Some l next.0 (sym there ∙ next.1);
        }

    -- So a table sends on what headers do.
    pub forwards : (l r : ℕ) → sessions.start l ≡ AtRouter r
        → passed_on from held l
        ≡ sole (flits_for (sessions.port l) (map held (sessions.incoming r)))
    forwards l r start =
        same_answers (passed_on from held l)
        (sole (flits_for (sessions.port l) (map held (sessions.incoming r))))
        (λ flit is.
        let comes = passed-only l r flit start is in
        router_all sessions ok t held exact l r comes.number comes.place comes.cycle start comes.on
        ∙ ap (λ (f : Flit). Some f) (sym comes.is))
        (λ flit is.
        let comes = router_only sessions ok t held exact l r flit start is in
        passed-all l r comes.number comes.place comes.cycle start comes.on
        ∙ ap (λ (f : Flit). Some f) (sym comes.is))

-- Before the first cycle neither sends anything on.
pub forwards-none : (sessions : RoutedSessions) (held : ℕ → Option Flit) → ((l : ℕ) → held l ≡ None)
    → (from : ℕ → Option ℕ) (l r : ℕ)
    → passed_on from held l ≡ sole (flits_for (sessions.port l) (map held (sessions.incoming r)))
forwards-none sessions held none from l r =
    same_answers (passed_on from held l)
    (sole (flits_for (sessions.port l) (map held (sessions.incoming r))))
    (λ flit is.
    let sent = sent-from held (from l) flit is in
    let lost : None ≡ Some sent.2 = sym (none sent.0) ∙ sent.3 in
    absurd (cc lost))
    (λ flit is.
    let alone = Alone-from_sole (sessions.port l) (map held (sessions.incoming r)) flit is in
    let at = mapped_at held (sessions.incoming r) alone.place (Some alone.flit) alone.names.at in
    let lost : None ≡ Some alone.flit = sym (none at.0) ∙ at.2 in
    absurd (cc lost))
