-- Each session stops early enough: what it has sent has landed when it finishes.
use Rattle.std.proofs.Common.{◌≡◌, ◌≤◌, ◌∙◌, ℕ, ◌+◌, Contains, Option, None, Some, ap, subst, arith}
use Rattle.std.proofs.Common.{IfSome, option_map, unwrap_or}
use Rattle.aeth_base.specs.{Limits.max_path_delay, declared.ids.Channel.Channel}
use Rattle.aeth_base.proofs.Members.{map-Contains}
use Rattle.aeth_chip.specs.Paths.{path_delay}
use Rattle.aeth_group.specs.Members.{group_at}
use Rattle.aeth_report.specs.{declared.session.Close.Close, declared.session.Session.Session}
use Rattle.aeth_report.specs.{Design.grant_at, Flows.Run, Flows.server_of, Flows.sessions_in}
use Rattle.aeth_report.specs.{Sessions.Stay, Sessions.Switch, Sessions.close_by}
use Rattle.aeth_report.specs.{Sessions.session_of, Sessions.stays_of, Sound.HasDelay, Sound.IsSound}
use Rattle.aeth_report.proofs.Stays.{IsClosedBy, IsStayOf, stays_of-is}

module _ (run : Run) (sound : IsSound run) (channel : Channel) where
  -- The delay of the channel's path in a group.
  abbrev delay_in : ℕ → ℕ
  delay_in group = path_delay run.design.chip.links (grant_at run.design channel group).path

  -- The stay of a session.
  pub record IsSessionOf (session : Session) : Type 0 where
    pub stay : Stay
    pub is : session_of run.spans stay ≡ session
    pub holds : IsStayOf run.design.groups channel.conn.0 stay

  -- Each session has one.
  pub stay_of : (session : Session) → Contains (sessions_in run channel.conn.0) session
      → IsSessionOf session
  stay_of session has =
      let groups = run.design.groups in
      let stays = stays_of groups channel.conn.0 run.switches in
      let found = map-Contains (session_of run.spans) stays session has in
      record {
        stay = found.0;
        is = found.1;
        holds = stays_of-is groups channel.conn.0 run.switches found.0 sound.known found.2;
      }

  -- The channel has a path in a session's group.
  pub session-delay : (session : Session) → Contains (sessions_in run channel.conn.0) session
      → HasDelay run.design.chip.links (grant_at run.design channel session.group.0).path
  session-delay session has =
      let of = stay_of session has in
      let group : group_at run.design.groups of.holds.use_case ≡ session.group.0 =
      of.holds.in_group ∙ ap (λ (s : Session). s.group.0) of.is in
      subst (λ (g : ℕ). HasDelay run.design.chip.links (grant_at run.design channel g).path) group
      (sound.granted.paths of.holds.use_case channel of.holds.has)

  -- What a session's server has sent by its stop has landed by its finish.
  pub lands_by_finish : (session : Session) → Contains (sessions_in run channel.conn.0) session
      → let server = server_of run channel session in
      server.stop + server.shape.path_delay ≤ server.finish
  lands_by_finish session has =
      let groups = run.design.groups in
      let of = stay_of session has in
      let few = (session-delay session has).few in
      let past : Close = record {
        until = run.cycles;
        stop = run.cycles;
        fin = run.cycles + max_path_delay;
      } in
      let group : of.stay.group ≡ session.group.0 = ap (λ (s : Session). s.group.0) of.is in
      let close : option_map (close_by run.spans) of.stay.closing ≡ session.close =
      ap (λ (s : Session). s.close) of.is in
      let cases : (o : Option Switch) → IfSome o (IsClosedBy groups channel.conn.0 of.stay.group)
      → (unwrap_or (option_map (close_by run.spans) o) past).stop + delay_in session.group.0
      ≤ (unwrap_or (option_map (close_by run.spans) o) past).fin = elim [
        | None ↦ λ closed. omega arith
        | Some switch ↦ λ closed.
            let above =
            sound.lags switch.leaves switch.row.to.0 channel closed.known closed.is_closed in
            let same : delay_in (group_at groups switch.leaves) ≡ delay_in session.group.0 =
            ap delay_in (closed.in_group ∙ group) in
            omega arith
      ] in
      subst (λ (o : Option Close).
      (unwrap_or o past).stop + delay_in session.group.0 ≤ (unwrap_or o past).fin) close
      (cases of.stay.closing of.holds.closed)
