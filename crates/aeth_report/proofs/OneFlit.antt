-- A link is reserved in a cycle for one session at most, so there is one flit on it at most.
use Rattle.std.proofs.Common.{◌≡◌, ◌≤◌, ◌<◌, ◌∙◌, ℕ, suc, ◌+◌, ◌-◌, ◌%◌, ◌&&◌, Bool, true, false}
use Rattle.std.proofs.Common.{cond, Contains, Option, Some, None, slice_get, refl, sym, ap, subst}
use Rattle.std.proofs.Common.{inl, inr, arith, eq-eqb, leb-true, ltb-true, IfSome, IsTrue, not}
use Rattle.std.proofs.Common.{nat_le, nat_lt, ◌==◌, unwrap_or}
use Rattle.std.proofs.Math.Nat.{mod-add-mod}
use Rattle.std.proofs.lemmas.{Bool.cases_Bool, Bool.and_from, Bool.and_parts, Bool.and_right}
use Rattle.std.proofs.lemmas.{Bool.both_ways, Bool.not_from_true, List.Sums.sum_by-take-le}
use Rattle.aeth_base.specs.Limits.{max_path_delay}
use Rattle.aeth_base.specs.declared.ids.Channel.{Channel}
use Rattle.aeth_base.specs.declared.ids.Side.{Side, TheVariants.Fwd, TheVariants.Back}
use Rattle.aeth_chip.specs.Paths.{delay_of, offset, path_delay}
use Rattle.aeth_server.specs.{PrivateServer.PrivateServer, PrivateServer.credited}
use Rattle.aeth_server.specs.{PrivateServer.sent, Shape.HasPaths, SlotCycles.is_slot}
use Rattle.aeth_server.proofs.PrivateServerLemmas.{credited-next, credits_ready, sent-next}
use Rattle.aeth_server.proofs.PrivateServerLemmas.{words_ready}
use Rattle.aeth_server.proofs.SlotCycleLemmas.{member-is_slot}
use Rattle.aeth_report.specs.{declared.session.Close.Close, declared.session.Session.Session}
use Rattle.aeth_report.specs.{Channels.opposite, Channels.other_side, Design.grant_at, Flows.Flow}
use Rattle.aeth_report.specs.{Flows.Run, Flows.flow_of, Flows.server_of, Flows.sessions_in}
use Rattle.aeth_report.specs.{Carries.IsCarried, Carries.injects, Carries.returns, Carries.sends}
use Rattle.aeth_report.specs.{Sessions.IsInUse, Sessions.session_of, Sound.IsSound}
use Rattle.aeth_report.specs.{SessionList.flow_by, SessionList.listed_at, SessionList.place_at}
use Rattle.aeth_report.proofs.{ClosingLemmas.lands_by_finish, ClosingLemmas.session-delay}
use Rattle.aeth_report.proofs.{FlowPlaces.IsFlowOf, FlowPlaces.flows_of-place, GrantLemmas.EntersIn}
use Rattle.aeth_report.proofs.{GrantLemmas.entered_once, SessionMeetings.sessions_alone}
use Rattle.aeth_report.proofs.{SessionMeetings.sessions_meet, SessionNumbers.listed-among}
use Rattle.aeth_report.proofs.{SessionNumbers.one_number, StaysAlone.at-Contains}

-- The opposite of the opposite channel is the channel.
pub opposite-opposite : (channel : Channel) → opposite (opposite channel) ≡ channel
opposite-opposite channel =
    let cases : (side : Side) → other_side (other_side side) ≡ side =
    elim [ Fwd ↦ refl | Back ↦ refl ] in
    ap (λ (side : Side). record { conn = channel.conn; side = side }) (cases channel.side)

-- Outside its own slots a server sends no words.
sends-slot : (server : PrivateServer) → HasPaths server.shape → (u : ℕ)
    → is_slot server.shape.size server.shape.slots u ≡ false
    → sent server (u + 1) - sent server u ≡ 0
sends-slot server paths u other =
    let slot = is_slot server.shape.size server.shape.slots u in
    let shut = and_right (nat_lt u server.stop) slot other in
    let ready = words_ready server paths u in
    let same : sent server (u + 1) ≡ sent server u + 0 =
    (let next : u + 1 ≡ suc u = omega arith in ap (λ t. sent server t) next)
    ∙ sent-next server paths u ∙ ap (λ (b : Bool). sent server u + cond b ready 0) shut in
    omega arith

-- Outside the opposite slots it returns no credits.
returns-slot : (server : PrivateServer) → HasPaths server.shape → (u : ℕ)
    → is_slot server.shape.size server.shape.back_slots u ≡ false
    → credited server (u + 1) - credited server u ≡ 0
returns-slot server paths u other =
    let slot = is_slot server.shape.size server.shape.back_slots u in
    let shut = and_right (nat_lt u server.stop) slot other in
    let ready = credits_ready server paths u in
    let same : credited server (u + 1) ≡ credited server u + 0 =
    (let next : u + 1 ≡ suc u = omega arith in ap (λ t. credited server t) next)
    ∙ credited-next server paths u
    ∙ ap (λ (b : Bool). credited server u + cond b ready 0) shut in
    omega arith

module _ (run : Run) (sound : IsSound run) where
  -- Both directions of a session have a path.
  pub session-paths : (channel : Channel) (session : Session)
      → Contains (sessions_in run channel.conn.0) session
      → HasPaths (server_of run channel session).shape
  session-paths channel session has = record {
    path = (session-delay run sound channel session has).some;
    back_path = (session-delay run sound (opposite channel) session has).some;
  }

  -- A flit is injected in a slot of the channel, while its session goes, and before it stops.
  pub record IsInjected (channel : Channel) (session : Session) (u : ℕ) : Type 0 where
    pub goes : (server_of run channel session).go ≤ u
    pub stops : u < (server_of run channel session).stop
    pub slot : Contains (grant_at run.design channel session.group.0).slots.slots
        (u % run.design.chip.slots)

  pub injected-is : (channel : Channel) (session : Session) (u : ℕ)
      → Contains (sessions_in run channel.conn.0) session
      → IsTrue (injects (flow_of run channel session) u) → IsInjected channel session u
  injected-is channel session u has injected =
      let flow = flow_of run channel session in
      let server = flow.server in
      let none = sends flow u == 0 && returns flow u == 0 in
      let outer = and_parts (nat_le server.go u && nat_lt u server.stop) (not none) injected in
      let inner = and_parts (nat_le server.go u) (nat_lt u server.stop) outer.0 in
      let size = run.design.chip.slots in
      let slots = (grant_at run.design channel session.group.0).slots.slots in
      let back : flow.back.shape.back_slots ≡ slots =
      ap (λ (ch : Channel). (grant_at run.design ch session.group.0).slots.slots)
      (opposite-opposite channel) in
      record {
        goes = leb-true server.go u inner.0;
        stops = ltb-true u server.stop inner.1;
        slot = elim (cases_Bool (is_slot size slots u)) [
          | inl is ↦ member-is_slot size slots u is
          | inr other ↦
              let paths = session-paths channel session has in
              let back_paths = session-paths (opposite channel) session has in
              let no_words = sends-slot flow.server paths u other in
              let no_credits = returns-slot flow.back back_paths u
              (ap (λ xs. is_slot size xs u) back ∙ other) in
              let nothing = and_from (sends flow u == 0) (returns flow u == 0)
              (eq-eqb (sends flow u) 0 no_words) (eq-eqb (returns flow u) 0 no_credits) in
              absurd (both_ways (not none) (not_from_true none nothing) outer.1)
        ];
      }

  -- Until it has landed its session isn't finished.
  pub record IsOnItsWay (channel : Channel) (session : Session) (t : ℕ) : Type 0 where
    pub goes : (server_of run channel session).go ≤ t
    pub unfinished : t < (server_of run channel session).finish

  pub on_its_way : (channel : Channel) (session : Session) (i u t : ℕ)
      → Contains (sessions_in run channel.conn.0) session → IsInjected channel session u
      → u + offset run.design.chip.links (grant_at run.design channel session.group.0).path i ≡ t
      → IsOnItsWay channel session t
  on_its_way channel session i u t has injected time =
      let links = run.design.chip.links in
      let path = (grant_at run.design channel session.group.0).path in
      let lands = lands_by_finish run sound channel session has in
      let within : offset links path i ≤ path_delay links path =
      sum_by-take-le (delay_of links) path i in
      let goes = injected.goes in
      let stops = injected.stops in
      record { goes = omega arith; unfinished = omega arith }

  -- So the session is in use.
  used : (channel : Channel) (session : Session) (t : ℕ) → IsOnItsWay channel session t
      → IsInUse session t
  used channel session t way =
      let past : Close = record {
        until = run.cycles;
        stop = run.cycles;
        fin = run.cycles + max_path_delay;
      } in
      let cases : (o : Option Close) → t < (unwrap_or o past).fin
      → IfSome o (λ close. t < close.fin) = elim [
        | None ↦ λ below. tt
        | Some close ↦ λ below. below
      ] in
      record { goes = way.goes; unfinished = cases session.close way.unfinished }

  module _ (l t : ℕ) where
    -- The link is reserved in the cycle for a session, at a place of its path: it may inject a flit in
    -- cycle u, which would enter the link then.
    pub record IsReservedFor (channel : Channel) (number : ℕ) (session : Session) (i u : ℕ)
        : Type 0 where
      pub session_at : slice_get (sessions_in run channel.conn.0) number ≡ Some session
      pub injected : IsInjected channel session u
      pub place : slice_get (grant_at run.design channel session.group.0).path i
          ≡ Some (record { 0 = l })
      pub time : u + offset run.design.chip.links
          (grant_at run.design channel session.group.0).path i ≡ t

    -- It would enter it in the slot of the cycle.
    enters : (channel : Channel) (number : ℕ) (session : Session) (i u : ℕ)
        → IsReservedFor channel number session i u
        → EntersIn run.design sound.granted channel session.group.0 l i
        (t % run.design.chip.slots)
    enters channel number session i u reserved =
        let size = run.design.chip.slots in
        let ahead = offset run.design.chip.links
        (grant_at run.design channel session.group.0).path i in
        record {
          start = u % size;
          place = reserved.place;
          starts = reserved.injected.slot;
          slot = mod-add-mod u size ahead ∙ ap (λ n. n % size) reserved.time;
        }

    -- A session of which that holds is in use.
    in_use : (channel : Channel) (number : ℕ) (session : Session) (i u : ℕ)
        → IsReservedFor channel number session i u → IsInUse session t
    in_use channel number session i u reserved =
        let has = at-Contains (sessions_in run channel.conn.0) number session
        reserved.session_at in
        used channel session t (on_its_way channel session i u t has reserved.injected reserved.time)

    -- A link is reserved in a cycle for one session alone, at one place.
    pub reserved_once : (channel other : Channel) (m n i j u v : ℕ) (s e : Session)
        → IsReservedFor channel m s i u → IsReservedFor other n e j v
        → (channel ≡ other) × (m ≡ n) × (i ≡ j)
    reserved_once channel other m n i j u v s e one two =
        let groups = run.design.groups in
        let has_s = at-Contains (sessions_in run channel.conn.0) m s one.session_at in
        let has_e = at-Contains (sessions_in run other.conn.0) n e two.session_at in
        let used_s = in_use channel m s i u one in
        let used_e = in_use other n e j v two in
        let slot = t % run.design.chip.slots in
        let meet = sessions_meet groups run.spans run.switches channel.conn.0 other.conn.0 t
        sound.apart s e has_s has_e used_s used_e in
        let enters_too : EntersIn run.design sound.granted other s.group.0 l j slot =
        subst (λ (g : ℕ). EntersIn run.design sound.granted other g l j slot) (sym meet.group)
        (enters other n e j v two) in
        let same = entered_once run.design sound.granted channel other s.group.0 l i j slot
        meet.together (enters channel m s i u one) enters_too in
        let there : slice_get (sessions_in run channel.conn.0) n ≡ Some e =
        subst (λ (ch : Channel). slice_get (sessions_in run ch.conn.0) n ≡ Some e) (sym same.0)
        two.session_at in
        let numbers = sessions_alone groups run.spans run.switches channel.conn.0 t sound.apart m n
        s e one.session_at there used_s used_e in
        (same.0, numbers, same.1)

    -- What is known of a carried flit: its session, for which the link is reserved, and that it
    -- lands before the session finishes.
    pub record IsKnown (c i u : ℕ) (flow : Flow) : Type 0 where
      pub of : IsFlowOf run c flow
      pub reserved : IsReservedFor (listed_at run c).channel (place_at run c)
          (session_of run.spans (listed_at run c).stay) i u
      pub way : IsOnItsWay (listed_at run c).channel
          (session_of run.spans (listed_at run c).stay) t

    pub carried-known : (c i u : ℕ) (flow : Flow) → IsCarried run l t c i u flow
        → IsKnown c i u flow
    carried-known c i u flow carried =
        let of = flows_of-place run c flow carried.flow_is in
        let channel = (listed_at run c).channel in
        let session = session_of run.spans (listed_at run c).stay in
        let among = listed-among run c of.known in
        let has = at-Contains (sessions_in run channel.conn.0) (place_at run c) session among in
        let links = run.design.chip.links in
        let own = flow_by run (listed_at run c) in
        let is = sym of.is in
        let place : slice_get own.path i ≡ Some (record { 0 = l }) =
        subst (λ (f : Flow). slice_get f.path i ≡ Some (record { 0 = l })) is carried.place in
        let time : u + offset links own.path i ≡ t =
        subst (λ (f : Flow). u + offset links f.path i ≡ t) is carried.time in
        let given : injects own u ≡ true =
        subst (λ (f : Flow). injects f u ≡ true) is carried.injected in
        let injected = injected-is channel session u has given in
        record {
          of = of;
          reserved = record {
            session_at = among;
            injected = injected;
            place = place;
            time = time;
          };
          way = on_its_way channel session i u t has injected time;
        }

    -- One flow alone has a flit on the link in this cycle, at one place.
    pub one_flit : (c i u d j v : ℕ) (flow other : Flow) → IsCarried run l t c i u flow
        → IsCarried run l t d j v other → (c ≡ d) × (i ≡ j)
    one_flit c i u d j v flow other carried too =
        let one = carried-known c i u flow carried in
        let two = carried-known d j v other too in
        let p = listed_at run c in
        let q = listed_at run d in
        let same = reserved_once p.channel q.channel (place_at run c) (place_at run d) i j u v
        (session_of run.spans p.stay) (session_of run.spans q.stay) one.reserved two.reserved in
        (one_number run c d one.of.known two.of.known same.0 same.1, same.2)
