-- No two channels of all use cases share a queue of an interface.
use Rattle.std.proofs.Common.{◌≡◌, ◌∙◌, ℕ, true, Contains, Some, slice_get, length, sym, ap, subst}
use Rattle.std.proofs.Common.{IsSomeAnd, IsTrue}
use Rattle.std.proofs.lemmas.Option.{same_Some}
use Rattle.aeth_base.specs.declared.ids.{Channel.Channel, CoreId.CoreId, NiId.NiId}
use Rattle.aeth_app.specs.{App.IsConnection, App.is_end, App.position_of}
use Rattle.aeth_app.specs.{declared.connection.Connection.Connection, Connections.sender}
use Rattle.aeth_app.proofs.{AppLemmas.position_of-few, PositionLemmas.position_of-apart}
use Rattle.aeth_plan.specs.Seated.{IsOneSeat}
use Rattle.aeth_group.{specs.Members.group_at, specs.Members.groups_of, specs.Members.has_at}
use Rattle.aeth_group.{specs.declared.grant.SeatLine.SeatLine, proofs.ListLemmas.all_at}
use Rattle.aeth_ni.specs.declared.row.ChannelRow.{ChannelRow}
use Rattle.aeth_reconf.specs.Windows.{AreQueuesApart}
use Rattle.aeth_seats.specs.Seats.{queue_of}
use Rattle.aeth_tables.specs.Granted.{sending_seat}
use Rattle.aeth_tables.proofs.ApartLaws.{ends_there, one_item, one_seat-back, one_sender}
use Rattle.aeth_tables.proofs.ApartLaws.{queue_parts, sender_ends}
use Rattle.aeth_tables.proofs.UseLaws.{is_planned}
use Rattle.aeth_accepted.specs.Inputs.{AreAccepted, Inputs, design_of, row_at}
use Rattle.aeth_accepted.proofs.SessionRows.{known, one, reserved, row-is}

module _ (inputs : Inputs) (accepted : AreAccepted inputs) where
  -- A channel that sends at a seat: of its core, with a position there.
  pub record SendsAt (channel : Channel) (ni : NiId) (queue : ℕ) : Type 0 where
    pub line : SeatLine
    pub connection : Connection
    pub ni_is : line.ni ≡ ni
    pub planned : Contains inputs.plan.seats line
    pub core_is : line.core ≡ sender connection channel.side
    pub there : slice_get inputs.app.connections channel.conn.0 ≡ Some connection
    pub ends : IsSomeAnd (slice_get inputs.app.connections channel.conn.0)
        (λ c. IsTrue (is_end line.core c))
    pub queue_is : queue_of line.seat (position_of inputs.app.connections line.core channel.conn.0)
        ≡ queue

  sends_at : (u : ℕ) (channel : Channel) → has_at (groups_of inputs.app) u channel.conn.0 ≡ true
      → SendsAt channel (row_at (design_of inputs) (group_at (groups_of inputs.app) u) channel).ni
      (row_at (design_of inputs) (group_at (groups_of inputs.app) u) channel).queue
  sends_at u channel has =
      let side = channel.side in
      let own = one inputs accepted u channel has in
      let granted = own.granted in
      let of = reserved inputs accepted u channel has in
      let line = sending_seat granted side in
      let seat = of.sends side in
      let planned = is_planned inputs.chip inputs.app inputs.plan accepted.design u
      (known inputs accepted u channel has) granted own.is_in in
      let row = row-is inputs accepted u channel has side in
      let conn = own.given.conn_is in
      let ends : IsSomeAnd (slice_get inputs.app.connections granted.conn.0)
      (λ c. IsTrue (is_end line.core c)) =
      rw seat.core_is (ends_there inputs.app granted (sender granted.connection side)
      of.connection_is (sender_ends granted.connection side)) in
      record {
        line = line;
        connection = granted.connection;
        ni_is = ap (λ (r : ChannelRow). r.ni) row;
        planned = planned.seated side;
        core_is = seat.core_is;
        there = ap (slice_get inputs.app.connections) (sym conn) ∙ of.connection_is;
        ends = subst (λ (n : ℕ). IsSomeAnd (slice_get inputs.app.connections n)
            (λ c. IsTrue (is_end line.core c))) conn ends;
        queue_is = ap (λ (n : ℕ). queue_of line.seat
            (position_of inputs.app.connections line.core n)) (sym conn)
            ∙ ap (λ (r : ChannelRow). r.queue) row;
      }

  -- Two that send from one queue of one interface are one.
  one_sends : (channel other : Channel) (ni ni' : NiId) (queue queue' : ℕ)
      → SendsAt channel ni queue → SendsAt other ni' queue' → ni ≡ ni' → queue ≡ queue'
      → channel ≡ other
  one_sends channel other ni ni' queue queue' a b same_ni same_queue =
      let app = inputs.app in
      let few_a = position_of-few app a.line.core channel.conn.0 accepted.design.app_is a.ends in
      let few_b = position_of-few app b.line.core other.conn.0 accepted.design.app_is b.ends in
      let parts = queue_parts a.line.seat b.line.seat
      (position_of app.connections a.line.core channel.conn.0)
      (position_of app.connections b.line.core other.conn.0) few_a.1 few_b.1
      (a.queue_is ∙ same_queue ∙ sym b.queue_is) in
      let lines : a.line ≡ b.line = one_item IsOneSeat inputs.plan.seats one_seat-back
      accepted.design.accepted.apart a.line b.line a.planned b.planned
      (record { ni = ap (λ (n : NiId). n.0) (a.ni_is ∙ same_ni ∙ sym b.ni_is); seat = parts.0 }) in
      let core : a.line.core ≡ b.line.core = ap (λ (l : SeatLine). l.core) lines in
      let conn = position_of-apart app.connections a.line.core channel.conn.0 other.conn.0 a.ends
      (subst (λ (k : CoreId). IsSomeAnd (slice_get app.connections other.conn.0)
      (λ c. IsTrue (is_end k c))) (sym core) b.ends)
      (parts.1 ∙ ap (λ (k : CoreId). position_of app.connections k other.conn.0) (sym core)) in
      let connection : a.connection ≡ b.connection = same_Some a.connection b.connection
      (sym a.there ∙ ap (slice_get app.connections) conn ∙ b.there) in
      let side : channel.side ≡ other.side = one_sender (length app.cores) a.connection
      (all_at (IsConnection (length app.cores)) app.connections channel.conn.0 a.connection
      accepted.design.app_is.joined a.there) channel.side other.side
      (sym a.core_is ∙ core ∙ b.core_is
      ∙ ap (λ (c : Connection). sender c other.side) (sym connection)) in
      λ i. record { conn = record { 0 = conn i }; side = side i }

  pub queues_apart : AreQueuesApart (groups_of inputs.app) (row_at (design_of inputs))
  queues_apart u v channel other has_one has_two ni queue =
      let row = row_at (design_of inputs) in
      let g = group_at (groups_of inputs.app) u in
      let h = group_at (groups_of inputs.app) v in
      one_sends channel other (row g channel).ni (row h other).ni (row g channel).queue
      (row h other).queue (sends_at u channel has_one) (sends_at v other has_two) ni queue
