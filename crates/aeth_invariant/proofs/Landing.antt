-- What the wires of a cycle bring to the queue at which a session lands.
use Rattle.std.proofs.Common.{◌≡◌, ◌≤◌, ◌<◌, ◌∙◌, ℕ, suc, ◌+◌, ◌-◌, Bool, cond, [], length, Option}
use Rattle.std.proofs.Common.{Some, None, true, refl, sym, ap, subst, arith, inl, inr, eqb-true}
use Rattle.std.proofs.Common.{◌==◌}
use Rattle.std.proofs.lemmas.Bool.{cases_Bool, cases_lt, eqb-false}
use Rattle.std.proofs.lemmas.Option.{slice_get_within}
use Rattle.aeth_clocked.specs.declared.flit.Flit.{Flit}
use Rattle.aeth_ni.specs.Component.{Arrival, arrival_of}
use Rattle.aeth_report.specs.Carries.{header_at, returns, sends, words_at}
use Rattle.aeth_server.specs.PrivateServer.{credited, landed, returned, sent}
use Rattle.aeth_server.proofs.PrivateServerLemmas.{credited-more, sent-more}
use Rattle.aeth_invariant.specs.WellRouted.{AreWellRouted}
use Rattle.aeth_invariant.specs.Carried.{Comes, Exact, IsOnWire, flit_of, words_from}
use Rattle.aeth_invariant.specs.Components.{credits_for, words_for}
use Rattle.aeth_invariant.specs.RoutedSessions.{AtInterface, RoutedSessions, IsPlace, IsSameQueue}
use Rattle.aeth_invariant.specs.RoutedSessions.{Owns, flow_at, server_at}
use Rattle.aeth_invariant.proofs.Owning.{owns-back, owns-going}
use Rattle.aeth_invariant.proofs.Routers.{not_both, not_end, place_at, same_interface}
use Rattle.aeth_invariant.proofs.Routes.{arrives}
use Rattle.aeth_invariant.proofs.Unique.{injects-some, known-back, live, one_flit, paths-of}
use Rattle.aeth_invariant.proofs.Unique.{returns-step, sends-step, some-wires}
use Rattle.aeth_invariant.proofs.Words.{same_words}

module _ (sessions : RoutedSessions) (ok : AreWellRouted sessions) where
  -- How many wires a session goes over, and the one by which it enters its receiver's interface.
  abbrev wires_of : ℕ → ℕ
  wires_of c = length (sessions.routed_session c).wires

  abbrev end_ni : ℕ → ℕ
  end_ni c = (sessions.routed_session (sessions.opposite c)).ni

  abbrev end_queue : ℕ → ℕ
  end_queue c = (sessions.routed_session (sessions.opposite c)).queue

  abbrev end_wire : ℕ → ℕ
  end_wire c = sessions.entering (end_ni c)

  -- The last wire of a path is that one.
  ends_at : (c : ℕ) → c < sessions.count → IsPlace sessions c (wires_of c - 1) (end_wire c)
      × (sessions.end (end_wire c) ≡ AtInterface (end_ni c))
  ends_at c h =
      let some = some-wires sessions ok c h in
      let m = place_at (sessions.routed_session c).wires (wires_of c - 1) (omega arith) in
      let end = (ok.path c h).last (wires_of c - 1) m.0 m.1 (omega arith) in
      let is : m.0 ≡ end_wire c = ok.wired.enters m.0 (end_ni c) end in
      (m.1 ∙ ap (λ n. Some n) is, ap sessions.end (sym is) ∙ end)

  -- A queue has one session at a time that lands there.
  one_receiver : (c d t : ℕ) → c < sessions.count → d < sessions.count → Owns sessions c t
      → Owns sessions d t → IsSameQueue sessions (sessions.opposite c) (sessions.opposite d) → c ≡ d
  one_receiver c d t h g own other same =
      let one = (ok.apart (sessions.opposite c) (sessions.opposite d) (known-back sessions ok c h)
      (known-back sessions ok d g)).queue t (owns-back sessions ok c t h own)
      (owns-back sessions ok d t g other) same in
      sym (ok.answered c h).back ∙ ap sessions.opposite one ∙ (ok.answered d g).back

  -- What has landed of a session, and what has returned to the opposite one, by its wires.
  landed-at : (c n : ℕ) → c < sessions.count
      → landed (server_at sessions c) n ≡ sent (server_at sessions c) (n - wires_of c)
  landed-at c n h = ap (λ k. sent (server_at sessions c) (n - k)) (ok.given c h).delay

  returned-at : (c n : ℕ) → c < sessions.count
      → returned (server_at sessions (sessions.opposite c)) n
      ≡ credited (server_at sessions (sessions.opposite c)) (n - wires_of c)
  returned-at c n h =
      let delay = (ok.answered (sessions.opposite c) (known-back sessions ok c h)).delay
      ∙ ap (λ d. (server_at sessions d).shape.path_delay) (ok.answered c h).back
      ∙ (ok.given c h).delay in
      ap (λ k. credited (server_at sessions (sessions.opposite c)) (n - k)) delay

  module _ (t : ℕ) (wires : ℕ → Option Flit) (exact : Exact sessions t wires) where
    -- What comes at the end of a session's path.
    abbrev pub comes_at : ℕ → Option Arrival
    comes_at c = arrival_of (wires (end_wire c))

    -- What lands for a session at the end of the cycle.
    pub record Lands (c : ℕ) : Type 0 where
      pub words : words_for (end_queue c) (comes_at c)
          ≡ words_from (flow_at sessions c).values (landed (server_at sessions c) (suc t))
          (landed (server_at sessions c) (suc (suc t)) - landed (server_at sessions c) (suc t))
      pub grows : landed (server_at sessions c) (suc t)
          ≤ landed (server_at sessions c) (suc (suc t))
      pub credits : credits_for (end_queue c) (comes_at c)
          + returned (server_at sessions (sessions.opposite c)) (suc t)
          ≡ returned (server_at sessions (sessions.opposite c)) (suc (suc t))

    -- Nothing lands where nothing was injected so many cycles ago.
    quiet : (c : ℕ) → c < sessions.count
        → ((u : ℕ) → u + (wires_of c - 1) ≡ t
        → sends (flow_at sessions c) u + returns (flow_at sessions c) u ≡ 0)
        → words_for (end_queue c) (comes_at c) ≡ [] → credits_for (end_queue c) (comes_at c) ≡ 0
        → Lands c
    quiet c h none no_words no_credits =
        let own = server_at sessions c in
        let back = server_at sessions (sessions.opposite c) in
        let some = some-wires sessions ok c h in
        let n = wires_of c in
        let same : (sent own (suc (suc t) - n) ≡ sent own (suc t - n))
        × (credited back (suc (suc t) - n) ≡ credited back (suc t - n)) =
        elim (cases_lt (suc t) n) [
          | inl before ↦
              let zero_both : suc (suc t) - n ≡ suc t - n = omega arith in
              (ap (λ k. sent own k) zero_both, ap (λ k. credited back k) zero_both)
          | inr after ↦
              let u = suc t - n in
              let next : suc (suc t) - n ≡ suc u = omega arith in
              let nothing = none u (omega arith) in
              let one = sends-step sessions ok c u in
              let two = returns-step sessions ok c u h in
              let words = sent-more own (paths-of sessions ok c h) u (suc u) (omega arith) in
              let credits = credited-more back
              (paths-of sessions ok (sessions.opposite c) (known-back sessions ok c h)) u (suc u)
              (omega arith) in (
                ap (λ k. sent own k) next ∙ omega (arith, nothing, one, words),
                ap (λ k. credited back k) next ∙ omega (arith, nothing, two, credits),
              )
        ] in
        let now : landed own (suc (suc t)) ≡ landed own (suc t) =
        landed-at c (suc (suc t)) h ∙ same.0 ∙ sym (landed-at c (suc t) h) in
        let returned_now : returned back (suc (suc t)) ≡ returned back (suc t) =
        returned-at c (suc (suc t)) h ∙ same.1 ∙ sym (returned-at c (suc t) h) in
        record {
          words = no_words ∙ same_words (flow_at sessions c).values (landed own (suc t)) 0
              (landed own (suc t)) (landed own (suc (suc t)) - landed own (suc t)) refl
              (omega (arith, now));
          grows = omega (arith, now);
          credits = omega (arith, no_credits, returned_now);
        }

    -- Where no flit of a session is on its last wire, it injected none so many cycles ago.
    not_carried : (c : ℕ) → c < sessions.count
        → ((u : ℕ) → IsOnWire sessions (end_wire c) t c (wires_of c - 1) u → ⊥)
        → (u : ℕ) → u + (wires_of c - 1) ≡ t
        → sends (flow_at sessions c) u + returns (flow_at sessions c) u ≡ 0
    not_carried c h none u time =
        elim (cases_lt 0 (sends (flow_at sessions c) u + returns (flow_at sessions c) u)) [
          | inl some ↦ absurd (none u (record {
            known = h;
            place = (ends_at c h).0;
            time = time;
            injected = injects-some sessions ok c u h some;
          }))
          | inr nothing ↦ omega (arith, nothing)
        ]

    -- A flit of the session is on that wire.
    lands-own : (c i u : ℕ) → IsOnWire sessions (end_wire c) t c i u → suc i ≡ wires_of c
        → comes_at c ≡ Some (record {
          header = header_at (flow_at sessions c) ((sessions.routed_session c).routers_passed i) u;
          words = words_at (flow_at sessions c) u;
        })
        → ((flow_at sessions c).remote == end_queue c) ≡ true → Lands c
    lands-own c i u on last comes is =
        let h = on.known in
        let flow = flow_at sessions c in
        let own = server_at sessions c in
        let back = server_at sessions (sessions.opposite c) in
        let time = on.time in
        let n = wires_of c in
        let first : suc t - n ≡ u = omega arith in
        let second : suc (suc t) - n ≡ suc u = omega arith in
        let before = landed-at c (suc t) h ∙ ap (λ k. sent own k) first in
        let after = landed-at c (suc (suc t)) h ∙ ap (λ k. sent own k) second in
        let gave = returned-at c (suc t) h ∙ ap (λ k. credited back k) first in
        let gives = returned-at c (suc (suc t)) h ∙ ap (λ k. credited back k) second in
        let one = sends-step sessions ok c u in
        let two = returns-step sessions ok c u h in
        let words = sent-more own (paths-of sessions ok c h) u (suc u) (omega arith) in
        let credits = credited-more back
        (paths-of sessions ok (sessions.opposite c) (known-back sessions ok c h)) u (suc u)
        (omega arith) in
        let brings : credits_for (end_queue c) (comes_at c) ≡ returns flow u =
        ap (λ (a : Option Arrival). credits_for (end_queue c) a) comes
        ∙ ap (λ (b : Bool). cond b (returns flow u) 0) is in
        record {
          words = ap (λ (a : Option Arrival). words_for (end_queue c) a) comes
              ∙ ap (λ (b : Bool). cond b (words_at flow u) []) is
              ∙ same_words flow.values (sent own u) (sends flow u) (landed own (suc t))
              (landed own (suc (suc t)) - landed own (suc t)) (sym before)
              (omega (arith, before, after, one));
          grows = omega (arith, before, after, words);
          credits = omega (arith, brings, gave, gives, two, credits);
        }

    -- A flit on that wire that names the queue is of the session.
    is_own : (c : ℕ) (flit : Flit) → c < sessions.count → Owns sessions c (suc t)
        → (comes : Comes sessions (end_wire c) t flit)
        → (flow_at sessions comes.number).remote ≡ end_queue c
        → (comes.number ≡ c) × (suc comes.place ≡ wires_of comes.number)
    is_own c flit h own comes named =
        let d = comes.number in
        let i = comes.place in
        let on = comes.on in
        let here = ends_at c h in
        let within = slice_get_within (sessions.routed_session d).wires i (end_wire c) on.place in
        let last : suc i ≡ wires_of d = elim (cases_lt (suc i) (wires_of d)) [
          | inl more ↦ absurd (
              let m = place_at (sessions.routed_session d).wires (suc i) more in
              elim ((ok.path d on.known).inner i (end_wire c) m.0 on.place m.1) [
                | inl place ↦ not_both place.router (end_ni c) (sessions.end (end_wire c))
                    place.ends here.1
                | inr place ↦ not_end (end_ni c) (end_wire c) (sessions.end (end_wire c)) here.1
                    place.ends
              ])
          | inr none ↦ omega arith
        ] in
        let ni : end_ni d ≡ end_ni c =
        same_interface (end_ni d) (end_ni c) (sessions.end (end_wire c))
        ((ok.path d on.known).last i (end_wire c) on.place last) here.1 in
        let queue : end_queue d ≡ end_queue c = sym (ok.answered d on.known).remote ∙ named in
        let going = live sessions ok (end_wire c) t d i comes.cycle on in (
          one_receiver d c (suc t) on.known h (owns-going sessions ok d t on.known going) own
              (record { ni = ni; queue = queue }),
          last,
        )

    -- A flit on the last wire brings a session what lands for it.
    lands-some : (c : ℕ) (flit : Flit) → c < sessions.count → Owns sessions c (suc t)
        → Comes sessions (end_wire c) t flit → wires (end_wire c) ≡ Some flit → Lands c
    lands-some c flit h own comes there =
        let d = comes.number in
        let i = comes.place in
        let u = comes.cycle in
        let flow = flow_at sessions d in
        let is : comes_at c ≡ Some (record {
          header = header_at flow ((sessions.routed_session d).routers_passed i) u;
          words = words_at flow u;
        }) =
        ap (λ (f : Option Flit). arrival_of f) there
        ∙ ap (λ (f : Flit). arrival_of (Some f)) comes.is
        ∙ arrives sessions ok d i u comes.on.known in
        elim (cases_Bool (flow.remote == end_queue c)) [
          | inr other ↦
              quiet c h
              (not_carried c h (λ v on.
              let one = one_flit sessions ok (end_wire c) t d i u c (wires_of c - 1) v comes.on on
              in
              eqb-false flow.remote (end_queue c) other
              (ap (λ n. (flow_at sessions n).remote) one.0 ∙ (ok.answered c h).remote)))
              (ap (λ (a : Option Arrival). words_for (end_queue c) a) is
              ∙ ap (λ (b : Bool). cond b (words_at flow u) []) other)
              (ap (λ (a : Option Arrival). credits_for (end_queue c) a) is
              ∙ ap (λ (b : Bool). cond b (returns flow u) 0) other)
          | inl named ↦
              let found = is_own c flit h own comes (eqb-true flow.remote (end_queue c) named) in
              lands-own c i u
              (subst (λ n. IsOnWire sessions (end_wire c) t n i u) found.0 comes.on)
              (found.1 ∙ ap (λ n. wires_of n) found.0)
              (subst (λ n. comes_at c ≡ Some (record {
                header = header_at (flow_at sessions n)
                    ((sessions.routed_session n).routers_passed i) u;
                words = words_at (flow_at sessions n) u;
              })) found.0 is)
              (ap (λ n. (flow_at sessions n).remote == end_queue c) (sym found.0) ∙ named)
        ]

    -- What comes for a session's queue are its words, and the credits that return.
    pub lands : (c : ℕ) → c < sessions.count → Owns sessions c (suc t) → Lands c
    lands c h own =
        let cases : (flit : Option Flit) → wires (end_wire c) ≡ flit → Lands c = elim [
          | None ↦ λ none.
              quiet c h
              (not_carried c h (λ u on.
              let some : None ≡ Some (flit_of sessions c (wires_of c - 1) u) =
              sym none ∙ exact.all (end_wire c) c (wires_of c - 1) u on in
              absurd cc))
              (ap (λ (f : Option Flit). words_for (end_queue c) (arrival_of f)) none)
              (ap (λ (f : Option Flit). credits_for (end_queue c) (arrival_of f)) none)
          | Some flit ↦ λ there. lands-some c flit h own (exact.only (end_wire c) flit there) there
        ] in
        cases (wires (end_wire c)) refl
