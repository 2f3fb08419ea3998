-- In a sound run a link is reserved in a cycle at one place of one channel's path at most.
use Rattle.std.proofs.Common.{◌≡◌, ◌∙◌, ◌<◌, ◌+◌, ◌%◌, ℕ, List, Contains, Option, Some, None}
use Rattle.std.proofs.Common.{slice_get, sym, ap, subst, arith, IfSome, unwrap_or}
use Rattle.std.proofs.lemmas.Option.{same_Some}
use Rattle.aeth_base.specs.{Limits.max_path_delay, declared.ids.Channel.Channel}
use Rattle.aeth_base.proofs.Members.{slice_get-Contains}
use Rattle.aeth_chip.specs.Paths.{offset}
use Rattle.aeth_server.proofs.SlotCycleLemmas.{member-is_slot}
use Rattle.aeth_reconf.specs.Timeline.{sessions_at}
use Rattle.aeth_report.specs.{Design.grant_at, Flows.Run, Flows.sessions_in, Sound.IsSound}
use Rattle.aeth_report.specs.{declared.session.Close.Close, declared.session.Session.Session}
use Rattle.aeth_report.proofs.ChannelLemmas.{channels_of-known}
use Rattle.aeth_report.proofs.OneFlit.{IsReservedFor, reserved_once}
use Rattle.aeth_audit.specs.{Reservations.Reservation, Reserved.IsReserved}

-- These are the sessions of a run.
abbrev pub AreSessionsOf : Run → List (List Session) → Type 0
AreSessionsOf run timeline = (c : ℕ) → c < run.design.groups.connections
    → sessions_at timeline c ≡ sessions_in run c

module _ (run : Run) (sound : IsSound run) (timeline : List (List Session))
    (sessions : AreSessionsOf run timeline) (l t : ℕ) where
  -- The run, for as many cycles as it takes to the end of this one.
  abbrev longer : Run
  longer = record run { cycles = t + 1 }

  longer-sound : IsSound longer
  longer-sound = record {
    granted = sound.granted;
    lags = sound.lags;
    known = sound.known;
    apart = sound.apart;
  }

  -- A reservation is one of a session by its number in this run.
  record IsNumbered (at : Reservation) : Type 0 where
    number : ℕ
    session : Session
    injected : ℕ
    group : session.group.0 ≡ at.group
    reserved : IsReservedFor longer longer-sound l t at.channel number session at.place injected

  -- What a session may inject by this cycle it injects before it stops.
  stops : (session : Session) (u : ℕ) → u < t + 1 → IfSome session.close (λ close. u < close.stop)
      → u < (unwrap_or session.close
      (record { until = t + 1; stop = t + 1; fin = t + 1 + max_path_delay })).stop
  stops session u before unstopped =
      let past : Close =
      record { until = t + 1; stop = t + 1; fin = t + 1 + max_path_delay } in
      let cases : (o : Option Close) → IfSome o (λ close. u < close.stop)
      → u < (unwrap_or o past).stop = elim [
        | None ↦ λ is. before
        | Some close ↦ λ is. is
      ] in
      cases session.close unstopped

  numbered : (at : Reservation) → IsReserved run.design timeline l t at → IsNumbered at
  numbered at is =
      let session = is.session in
      let channel = at.channel in
      let group = sym is.group in
      let same = sessions channel.conn.0
      (channels_of-known run.design.groups.connections channel is.is_channel) in
      let (number, at_number) = slice_get-Contains (sessions_in run channel.conn.0) session
      (subst (λ (all : List Session). Contains all session) same is.is_session) in
      let size = run.design.chip.slots in
      let links = run.design.chip.links in
      let slots = (grant_at run.design channel at.group).slots.slots in
      let time = is.time in
      let inside : Contains slots (is.injected % size) =
      member-is_slot size slots is.injected is.slot in
      record {
        number = number;
        session = session;
        injected = is.injected;
        group = is.group;
        reserved = record {
          session_at = at_number;
          injected = record {
            goes = is.may.goes;
            stops = stops session is.injected (omega arith) is.may.unstopped;
            slot = subst (λ (g : ℕ). Contains (grant_at run.design channel g).slots.slots
                (is.injected % size)) group inside;
          };
          place = subst (λ (g : ℕ). slice_get (grant_at run.design channel g).path at.place
              ≡ Some (record { 0 = l })) group is.place;
          time = subst (λ (g : ℕ). is.injected
              + offset links (grant_at run.design channel g).path at.place ≡ t) group is.time;
        };
      }

  -- There is one at most.
  pub reserved-one : (at other : Reservation) → IsReserved run.design timeline l t at
      → IsReserved run.design timeline l t other → at ≡ other
  reserved-one at other is too =
      let one = numbered at is in
      let two = numbered other too in
      let (channels, numbers, places) = reserved_once longer longer-sound l t at.channel
      other.channel one.number two.number at.place other.place one.injected two.injected one.session
      two.session one.reserved two.reserved in
      let conn : at.channel.conn.0 ≡ other.channel.conn.0 =
      ap (λ (ch : Channel). ch.conn.0) channels in
      let session : one.session ≡ two.session = same_Some one.session two.session
      (sym one.reserved.session_at ∙ ap (slice_get (sessions_in run at.channel.conn.0)) numbers
      ∙ ap (λ (c : ℕ). slice_get (sessions_in run c) two.number) conn
      ∙ two.reserved.session_at) in
      let group : at.group ≡ other.group =
      sym one.group ∙ ap (λ (s : Session). s.group.0) session ∙ two.group in
      λ i. record { channel = channels i; group = group i; place = places i }
