-- The slots of each session's channel are suitable for what the channel wishes.
use Rattle.std.proofs.Common.{◌≡◌, ◌∙◌, ℕ, ◌+◌, ◌-◌, Contains, sym, ap, subst}
use Rattle.aeth_base.specs.declared.ids.{Channel.Channel, UseId.UseId}
use Rattle.aeth_slots.specs.Choice.{IsSuitable}
use Rattle.aeth_app.specs.{App.wish_of, Rates.need_of, declared.connection.Connection.Connection}
use Rattle.aeth_group.specs.Members.{group_at, groups_of}
use Rattle.aeth_server.specs.{Landing.WaitsAlone, Shape.Shape}
use Rattle.aeth_report.specs.{declared.session.Session.Session, Design.connection_at}
use Rattle.aeth_report.specs.{Design.shape_at, Flows.server_of, Flows.sessions_in, Sound.IsSound}
use Rattle.aeth_report.proofs.ClosingLemmas.{stay_of}
use Rattle.aeth_tables.proofs.UseLaws.{is_reserved}
use Rattle.aeth_accepted.specs.Inputs.{AreAccepted, Inputs, design_of, run_of}
use Rattle.aeth_accepted.specs.Wishes.{IsOfferedAlone, latency_at}
use Rattle.aeth_accepted.proofs.{GivenGrants.given_in, GivenGrants.use-known, TableFlows.shape-same}

-- What a channel needs.
abbrev pub need_at : Inputs → Channel → ℕ
need_at inputs channel =
    need_of inputs.app.slots (connection_at (design_of inputs) channel.conn) channel.side

-- A shape is suitable for what a channel needs and wishes.
abbrev IsFit : Inputs → Channel → Shape → Type 0
IsFit inputs channel shape =
    IsSuitable (need_at inputs channel) (latency_at inputs channel + 1 - shape.path_delay)
    (record { size = shape.size; slots = shape.slots })

module _ (inputs : Inputs) (accepted : AreAccepted inputs) (sound : IsSound (run_of inputs))
    (channel : Channel) (session : Session)
    (has : Contains (sessions_in (run_of inputs) channel.conn.0) session) where
  -- So is that of its session.
  pub session_fits : IsFit inputs channel (server_of (run_of inputs) channel session).shape
  session_fits =
      let design = design_of inputs in
      let side = channel.side in
      let of = stay_of (run_of inputs) sound channel session has in
      let u : UseId = record { 0 = of.holds.use_case } in
      let known = use-known inputs u.0 channel.conn.0 of.holds.has in
      let one = given_in inputs accepted u.0 channel.conn.0 of.holds.has in
      let group = group_at (groups_of inputs.app) u.0 in
      let in_group : group ≡ session.group.0 =
      of.holds.in_group ∙ ap (λ (s : Session). s.group.0) of.is in
      let reserved = is_reserved inputs.chip inputs.app inputs.plan accepted.design u.0 known
      one.granted one.is_in in
      let fits = λ (connection : Connection) (shape : Shape).
      IsSuitable (need_of inputs.app.slots connection side)
      ((wish_of connection side).latency + 1 - shape.path_delay)
      (record { size = shape.size; slots = shape.slots }) in
      let own = subst (λ (shape : Shape). fits one.granted.connection shape)
      (sym (shape-same inputs accepted u known one.granted one.is_in side))
      (reserved.serves side).suitable in
      let wished = subst (λ (connection : Connection). fits connection
      (shape_at design (record { conn = one.granted.conn; side = side }) group))
      (sym one.given.connection_is) own in
      let here = subst (λ (c : ℕ). fits (connection_at design channel.conn)
      (shape_at design (record { conn = record { 0 = c }; side = side }) group))
      one.given.conn_is wished in
      subst (λ (g : ℕ). fits (connection_at design channel.conn) (shape_at design channel g))
      in_group here

  -- A word that is offered alone waits alone, for the latency that the channel wishes.
  pub waits_alone : (i a : ℕ)
      → IsOfferedAlone (server_of (run_of inputs) channel session) i a (latency_at inputs channel)
      → WaitsAlone (server_of (run_of inputs) channel session) (need_at inputs channel) i a
      (latency_at inputs channel)
  waits_alone i a offered = record {
    least = offered.least;
    most = offered.most;
    offered = offered.offered;
    alone = offered.alone;
    credit = offered.credit;
    suitable = session_fits;
    in_time = offered.in_time;
  }
