-- Rows of one interface share no queue: their connections are at one core's seat, and have different
-- positions there.
use Rattle.std.proofs.Common.{◌≡◌, ◌<◌, ◌∙◌, ℕ, true, eqb, List, Some, Contains, slice_get, length}
use Rattle.std.proofs.Common.{refl, sym, ap, inl, inr, arith, subst, IsSomeAnd, IsTrue, eq-eqb}
use Rattle.std.proofs.lemmas.{Bool.cases_lt, Bool.or_left, Bool.or_right, Option.same_Some}
use Rattle.aeth_base.specs.declared.ids.{CoreId.CoreId, NiId.NiId, Side.Side, Side.TheVariants.Back}
use Rattle.aeth_base.specs.declared.ids.{Side.TheVariants.Fwd}
use Rattle.aeth_chip.specs.Chip.{ChipData}
use Rattle.aeth_app.specs.{App.AppData, App.IsConnection, App.is_end, App.position_of}
use Rattle.aeth_app.specs.{declared.connection.Connection.Connection, Limits.max_core_connections}
use Rattle.aeth_app.specs.{Connections.sender}
use Rattle.aeth_app.proofs.{AppLemmas.position_of-few, PositionLemmas.position_of-apart}
use Rattle.aeth_group.{specs.declared.grant.SeatLine.SeatLine, proofs.ListLemmas.all_at}
use Rattle.aeth_seats.specs.Seats.{queue_of}
use Rattle.aeth_plan.specs.{Plan.PlanData, Accepted.NoTwo, Seated.IsOneSeat, Design.IsDesign}
use Rattle.aeth_tables.specs.{Granted.sending_seat, Reserved.IsPlanned, Reserved.IsReserved}
use Rattle.aeth_tables.specs.{Tables.queue_at, declared.granted.GrantedConnection.GrantedConnection}
use Rattle.aeth_tables.proofs.ListLaws.{place_in}

-- ---- No two items

-- Of a list in which no two items are related, related ones are the same.
pub one_item : {X : Type 0} (Related : X → X → Type 0) (xs : List X)
    → ((a b : X) → Related a b → Related b a) → NoTwo Related xs → (a b : X)
    → Contains xs a → Contains xs b → Related a b → a ≡ b
one_item Related xs back clear a b has_a has_b related =
    let (i, at_i) = place_in xs a has_a in
    let (j, at_j) = place_in xs b has_b in
    let place : i ≡ j = elim (cases_lt i j) [
      | inl less ↦ absurd (clear i j a b less at_i at_j related)
      | inr least ↦ elim (cases_lt j i) [
        | inl less ↦ absurd (clear j i b a less at_j at_i (back a b related))
        | inr most ↦ omega arith
      ]
    ]
    in same_Some a b (sym at_i ∙ ap (slice_get xs) place ∙ at_j)

-- One seat is one either way.
pub one_seat-back : (a b : SeatLine) → IsOneSeat a b → IsOneSeat b a
one_seat-back a b one = record { ni = sym one.ni; seat = sym one.seat }

-- ---- Queue numbers

-- A queue number tells its seat and its position.
pub queue_parts : (seat seat' position position' : ℕ) → position < max_core_connections
    → position' < max_core_connections → queue_of seat position ≡ queue_of seat' position'
    → (seat ≡ seat') × (position ≡ position')
queue_parts seat seat' position position' first second same = (omega arith, omega arith)

-- The sender of a side is an end of the connection, and so is the receiver.
pub sender_ends : (connection : Connection) (side : Side)
    → is_end (sender connection side) connection ≡ true
sender_ends connection Fwd =
    or_left (eqb connection.from.0 connection.from.0) (eqb connection.to.0 connection.from.0)
    (eq-eqb connection.from.0 connection.from.0 refl)
sender_ends connection Back =
    or_right (eqb connection.from.0 connection.to.0) (eqb connection.to.0 connection.to.0)
    (eq-eqb connection.to.0 connection.to.0 refl)

-- A connection with an end at a core has it there.
pub ends_there : (app : AppData) (granted : GrantedConnection) (core : CoreId)
    → slice_get app.connections granted.conn.0 ≡ Some granted.connection
    → is_end core granted.connection ≡ true
    → IsSomeAnd (slice_get app.connections granted.conn.0) (λ c. IsTrue (is_end core c))
ends_there app granted core at ends = rw at ends

-- Sides of a connection with one sender are one.
pub one_sender : (cores : ℕ) (connection : Connection) → IsConnection cores connection → (s t : Side)
    → sender connection s ≡ sender connection t → s ≡ t
one_sender cores connection is Fwd Fwd same = refl
one_sender cores connection is Fwd Back same = absurd (is.apart (ap (λ (c : CoreId). c.0) same))
one_sender cores connection is Back Fwd same =
    absurd (is.apart (sym (ap (λ (c : CoreId). c.0) same)))
one_sender cores connection is Back Back same = refl

module _ (chip : ChipData) (app : AppData) (plan : PlanData) (design : IsDesign chip app plan)
  where
    -- Where two connections have one queue number at one interface, they are one, and so are the sides
    -- on which they send there.
    pub queues_apart : (group : ℕ) (a b : GrantedConnection) (s t : Side) → IsReserved chip app a
        → IsReserved chip app b → IsPlanned plan group a → IsPlanned plan group b
        → (sending_seat a s).ni ≡ (sending_seat b t).ni
        → queue_at app a.conn (sending_seat a s) ≡ queue_at app b.conn (sending_seat b t)
        → (a.conn.0 ≡ b.conn.0) × (a.connection ≡ b.connection → s ≡ t)
    queues_apart group a b s t of_a of_b planned_a planned_b ni queue =
        let line_a = sending_seat a s in
        let line_b = sending_seat b t in
        let seat_a = of_a.sends s in
        let seat_b = of_b.sends t in
        let end_a : IsSomeAnd (slice_get app.connections a.conn.0)
        (λ c. IsTrue (is_end line_a.core c)) =
        rw seat_a.core_is (ends_there app a (sender a.connection s) of_a.connection_is
        (sender_ends a.connection s)) in
        let end_b : IsSomeAnd (slice_get app.connections b.conn.0)
        (λ c. IsTrue (is_end line_b.core c)) =
        rw seat_b.core_is (ends_there app b (sender b.connection t) of_b.connection_is
        (sender_ends b.connection t)) in
        let few_a = position_of-few app line_a.core a.conn.0 design.app_is end_a in
        let few_b = position_of-few app line_b.core b.conn.0 design.app_is end_b in
        let parts = queue_parts line_a.seat line_b.seat
        (position_of app.connections line_a.core a.conn.0)
        (position_of app.connections line_b.core b.conn.0) few_a.1 few_b.1 queue in
        let one_line : line_a ≡ line_b = one_item IsOneSeat plan.seats one_seat-back
        design.accepted.apart line_a line_b (planned_a.seated s) (planned_b.seated t)
        (record { ni = ap (λ (n : NiId). n.0) ni; seat = parts.0 }) in
        let core : line_a.core ≡ line_b.core = ap (λ (l : SeatLine). l.core) one_line in
        let conn = position_of-apart app.connections line_a.core a.conn.0 b.conn.0 end_a
        (subst (λ (k : CoreId). IsSomeAnd (slice_get app.connections b.conn.0)
        (λ c. IsTrue (is_end k c))) (sym core) end_b)
        (parts.1 ∙ ap (λ (k : CoreId). position_of app.connections k b.conn.0) (sym core)) in (
          conn,
          λ (same : a.connection ≡ b.connection). one_sender (length app.cores) a.connection
              (all_at (IsConnection (length app.cores)) app.connections a.conn.0 a.connection
              design.app_is.joined of_a.connection_is) s t
              (sym seat_a.core_is ∙ core ∙ seat_b.core_is
              ∙ ap (λ (c : Connection). sender c t) (sym same)),
        )
