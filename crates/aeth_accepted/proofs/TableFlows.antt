-- The flow of a session is what the tables of its use case say.
use Rattle.std.proofs.Common.{◌≡◌, ◌∙◌, ◌<◌, ◌+◌, ◌*◌, ℕ, List, Option, Some, None, Contains}
use Rattle.std.proofs.Common.{slice_get, length, drop, refl, sym, ap, subst, arith, eqb, [], ◌∷◌}
use Rattle.std.proofs.Common.{All, filter, flat_map, map, option_and_then, position, unwrap_or}
use Rattle.std.proofs.Common.{map-id}
use Rattle.std.proofs.lemmas.List.{Concat.flat_map-cons, Elements.All-head, Elements.All-tail}
use Rattle.std.specs.List.{filter_map, range_with_len}
use Rattle.aeth_base.specs.Limits.{words_per_flit}
use Rattle.aeth_base.specs.declared.ids.{Channel.Channel, ConnId.ConnId, CoreId.CoreId}
use Rattle.aeth_base.specs.declared.ids.{LinkId.LinkId, RouterId.RouterId, Side.Side}
use Rattle.aeth_base.specs.declared.ids.{Side.TheVariants.Back, Side.TheVariants.Fwd, UseId.UseId}
use Rattle.aeth_base.specs.Sides.{channels_with, other_side}
use Rattle.aeth_base.proofs.Members.{Contains-filter_map, filter-Contains}
use Rattle.aeth_slots.specs.SlotSet.{Ascends}
use Rattle.aeth_server.specs.{ChannelShape.shape_of, Shape.IsGranted, Shape.Shape, Shape.buffer_of}
use Rattle.aeth_chip.specs.{Chip.ChipData, Chip.IsChip, Nodes.begins_at, Nodes.sender_of}
use Rattle.aeth_chip.specs.{Nodes.sends_on, Paths.path_delay, declared.node.Node.TheVariants.Router}
use Rattle.aeth_chip.proofs.NodeLemmas.{numbers_from-once}
use Rattle.aeth_router.proofs.LinkLemmas.{position-at}
use Rattle.aeth_app.specs.{App.position_of, App.wish_of, Limits.max_core_connections, Rates.need_of}
use Rattle.aeth_app.specs.{declared.connection.Connection.Connection}
use Rattle.aeth_app.specs.{Connections.receiver as receiving_core}
use Rattle.aeth_app.specs.{Connections.sender as sending_core}
use Rattle.aeth_group.specs.Members.{group_at, groups_of, has_at}
use Rattle.aeth_group.specs.declared.grant.{Grant.Grant, SeatLine.SeatLine}
use Rattle.aeth_header.specs.Route.{route_of}
use Rattle.aeth_report.specs.{declared.session.Session.Session, Channels.opposite}
use Rattle.aeth_report.specs.{Channels.receiver, Channels.sender, Design.grant_at, Design.queue_at}
use Rattle.aeth_report.specs.{Design.remote_at, Design.seat_at, Design.shape_at, Flows.server_of}
use Rattle.aeth_report.specs.{Flows.sessions_in, Sound.IsSound, Routes.port_of as port_named}
use Rattle.aeth_report.specs.{Routes.route_along as route_named}
use Rattle.aeth_report.proofs.ClosingLemmas.{stay_of}
use Rattle.aeth_reconf.specs.Rows.{channels_that, rows_that}
use Rattle.aeth_tables.specs.Granted.{Granted, grant_on, granted_in, granted_of, line_of}
use Rattle.aeth_tables.specs.Granted.{receiving_seat, sending_seat}
use Rattle.aeth_tables.specs.Reserved.{IsReserved}
use Rattle.aeth_tables.specs.Routes.{port_from, port_of, route_along}
use Rattle.aeth_tables.specs.Tables.{queue_at as queue_on, row_on, shape_on, tables_of}
use Rattle.aeth_tables.proofs.{ListLaws.all_from_places, ListLaws.has_place, PortLaws.at_port}
use Rattle.aeth_tables.proofs.{ReservedLaws.IsMade, ReservedLaws.made_of}
use Rattle.aeth_tables.proofs.{ShapeRanges.shape_in_range, UseLaws.is_reserved, UseLaws.made_in}
use Rattle.aeth_tables.proofs.{UseLaws.there}
use Rattle.aeth_accepted.specs.Inputs.{AreAccepted, Inputs, design_of, row_at, run_of}
use Rattle.aeth_accepted.proofs.GivenGrants.{IsGiven, connection-known, given_from_made, given_in}
use Rattle.aeth_accepted.proofs.GivenGrants.{use-known}

-- ---- Routes

-- The port of a link is found where its router sends on it.
ports-same : (chip : ChipData) → IsChip chip → (link : LinkId)
    → port_named chip.links link ≡ port_of chip.links link
ports-same chip is_chip link =
    let place : Option RouterId → Option ℕ =
    option_and_then (λ router. position (λ other. eqb other link.0) (sends_on (Router router) chip.links)) in
    let cases : (o : Option RouterId) → sender_of chip.links link.0 ≡ o
    → unwrap_or (place o) 0 ≡ port_from chip.links link o =
    elim [
      | None ↦ λ is. refl
      | Some router ↦ λ is.
          let at = (at_port chip link router is_chip is).at in
          let port = port_from chip.links link (Some router) in
          let here : slice_get (sends_on (Router router) chip.links) port ≡ Some link.0 =
          rw is at at in
          ap (λ (o : Option ℕ). unwrap_or o 0)
          (position-at (sends_on (Router router) chip.links) port link.0
          (numbers_from-once (begins_at (Router router)) 0 chip.links) here)
    ] in
    cases (sender_of chip.links link.0) refl

map-same : {X Y : Type 0} (f g : X → Y) (xs : List X) → ((x : X) → f x ≡ g x)
    → map f xs ≡ map g xs
map-same {X = X} {Y = Y} f g xs same = ap (λ (h : X → Y). map h xs) (λ i x. same x i)

-- Two words for the route along a path are one.
pub routes-same : (chip : ChipData) → IsChip chip → (path : List LinkId)
    → route_named chip.links path ≡ route_along chip.links path
routes-same chip is_chip path = ap route_of
    (map-same (port_named chip.links) (port_of chip.links) (drop 1 path) (ports-same chip is_chip))

-- ---- Queues

-- A seat that is found is the design's.
seat-found : (inputs : Inputs) (core : CoreId) (line : SeatLine)
    → line_of inputs.plan.seats core ≡ Some line → seat_at (design_of inputs) core ≡ line
seat-found inputs core line found =
    let missing : SeatLine = record { core = core; ni = record { 0 = 0 }; seat = 0 } in
    ap (λ (o : Option SeatLine). unwrap_or o missing) found

-- The receiving core of a side sits on the seat that receives.
made-receives : (inputs : Inputs) (group conn : ℕ) (granted : Granted)
    → IsMade inputs.app inputs.plan group conn granted → (side : Side)
    → line_of inputs.plan.seats (receiver granted.connection side)
    ≡ Some (receiving_seat granted side)
made-receives inputs group conn granted made Fwd = made.to
made-receives inputs group conn granted made Back = made.from

-- So does the sending core on the seat that sends.
made-sends : (inputs : Inputs) (group conn : ℕ) (granted : Granted)
    → IsMade inputs.app inputs.plan group conn granted → (side : Side)
    → line_of inputs.plan.seats (sender granted.connection side)
    ≡ Some (sending_seat granted side)
made-sends inputs group conn granted made Fwd = made.from
made-sends inputs group conn granted made Back = made.to

-- The queue at a core that sits on a seat.
queue-same : (inputs : Inputs) (core : CoreId) (line : SeatLine) (conn : ConnId)
    → seat_at (design_of inputs) core ≡ line → line.core ≡ core
    → queue_at (design_of inputs) core conn ≡ queue_on inputs.app conn line
queue-same inputs core line conn seat seated =
    let number : CoreId → SeatLine → ℕ = λ c l. max_core_connections * l.seat
    + position_of inputs.app.connections c conn.0 in
    ap (number core) seat ∙ ap (λ (c : CoreId). number c line) (sym seated)

-- Two words for the sender of a side are one.
senders-same : (connection : Connection) (side : Side)
    → sender connection side ≡ sending_core connection side
senders-same connection Fwd = refl
senders-same connection Back = refl

-- Two words for the receiver of a side are one,
receivers-same : (connection : Connection) (side : Side)
    → receiver connection side ≡ receiving_core connection side
receivers-same connection Fwd = refl
receivers-same connection Back = refl

-- ---- Flows

module _ (inputs : Inputs) (accepted : AreAccepted inputs) (u : UseId)
    (known : u.0 < length inputs.app.uses) where
  abbrev group : ℕ
  group = group_at (groups_of inputs.app) u.0

  module _ (granted : Granted)
      (has : Contains (granted_in inputs.app (groups_of inputs.app) inputs.plan u.0) granted)
      (side : Side) where
    abbrev channel : Channel
    channel = record { conn = granted.conn; side = side }

    -- It is made of its parts, for its own number.
    made : IsMade inputs.app inputs.plan group granted.conn.0 granted
    made =
        let (number, of_use, is_made) = made_in inputs.chip inputs.app inputs.plan accepted.design u.0
        known granted has in
        rw (sym is_made.conn_is) at is_made

    given : IsGiven inputs group granted.conn.0 granted
    given = given_from_made inputs group granted.conn.0 granted made

    reserved : IsReserved inputs.chip inputs.app granted
    reserved = is_reserved inputs.chip inputs.app inputs.plan accepted.design u.0 known granted has

    -- Its channel's shape by the design is that of the tables.
    pub shape-same : shape_at (design_of inputs) channel group
        ≡ shape_of (shape_on inputs.chip inputs.app granted side)
    shape-same =
        let design = design_of inputs in
        let own = given.grants_are side in
        let back : grant_at design (opposite channel) group ≡ grant_on granted (other_side side) =
        given.grants_are (other_side side) in
        let size = sym (reserved.serves side).size in
        let slots = sym accepted.of_chip.slots in
        let connection = given.connection_is in
        λ i. record {
          size = size i;
          slots = (own i).slots.slots;
          path_delay = path_delay inputs.chip.links (own i).path;
          rate = words_per_flit * need_of (slots i) (connection i) side;
          receiver_delay = (wish_of (connection i) side).delay;
          back_slots = (back i).slots.slots;
          back_path_delay = path_delay inputs.chip.links (back i).path;
        }

    remote-same : remote_at (design_of inputs) channel
        ≡ (row_on inputs.chip inputs.app granted side).remote
    remote-same =
        let line = receiving_seat granted side in
        let seat = seat-found inputs (receiver granted.connection side) line
        (made-receives inputs group granted.conn.0 granted made side) in
        ap (λ (c : Connection). queue_at (design_of inputs) (receiver c side) granted.conn)
        given.connection_is
        ∙ queue-same inputs (receiver granted.connection side) line granted.conn seat
        ((reserved.receives side).core_is ∙ sym (receivers-same granted.connection side))

    -- So is its row.
    pub row-same : row_on inputs.chip inputs.app granted side
        ≡ row_at (design_of inputs) group channel
    row-same =
        let design = design_of inputs in
        let line = sending_seat granted side in
        let grant = given.grants_are side in
        let seat = ap (λ (c : Connection). seat_at design (sender c side)) given.connection_is
        ∙ seat-found inputs (sender granted.connection side) line
        (made-sends inputs group granted.conn.0 granted made side) in
        let queue = ap (λ (c : Connection). queue_at design (sender c side) granted.conn)
        given.connection_is
        ∙ queue-same inputs (sender granted.connection side) line granted.conn
        (seat-found inputs (sender granted.connection side) line
        (made-sends inputs group granted.conn.0 granted made side))
        ((reserved.sends side).core_is ∙ sym (senders-same granted.connection side)) in
        let route = ap (λ (g : Grant). route_named inputs.chip.links g.path) grant
        ∙ routes-same inputs.chip accepted.design.chip_is (grant_on granted side).path in
        λ i. record {
          channel = channel;
          ni = (sym seat i).ni;
          queue = sym queue i;
          slots = (sym grant i).slots;
          route = sym route i;
          remote = sym remote-same i;
          credits = buffer_of (sym shape-same i);
        }

    -- The shape is granted what it asks for.
    pub shape-granted : IsGranted (shape_at (design_of inputs) channel group)
    shape-granted =
        let range = shape_in_range inputs.chip inputs.app accepted.design.chip_is
        accepted.design.app_is granted reserved side in
        let own = reserved.serves side in
        let back = reserved.serves (other_side side) in
        subst (λ (shape : Shape). IsGranted shape) (sym shape-same) (record {
          paths = record {
            path = omega (arith, range.least_links);
            back_path = omega (arith, range.least_back);
          };
          least_rate = omega (arith, range.least_need);
          ascends = rw own.size own.starts;
          capacity = omega (arith, range.capacity);
          back_ascends = subst (λ (n : ℕ). Ascends 0 n (grant_on granted (other_side side)).slots.slots)
              (sym own.size) back.starts;
          back_capacity = range.back_capacity;
        })

-- ---- Tables

-- A connection has all its seats and grants in a group, and what its sides give its channels have.
abbrev GivesSides : {Y : Type 0} → Inputs → ℕ → (Granted → Side → Y) → (Channel → Y) → ℕ → Type 0
GivesSides inputs g gives has c = (granted : Granted)
    × (granted_of inputs.app inputs.plan g c ≡ Some granted)
    × ((side : Side) → gives granted side ≡ has (record { conn = record { 0 = c }; side = side }))

-- What the sides of such connections give is what their channels have.
sides-given : {X Y : Type 0} (inputs : Inputs) (g : ℕ) (give : Granted → Side → X) (f : X → Y)
    (has : Channel → Y) (conns : List ℕ)
    → All (GivesSides inputs g (λ granted side. f (give granted side)) has) conns
    → map f (flat_map (λ granted. give granted Fwd ∷ give granted Back ∷ [])
    (filter_map (granted_of inputs.app inputs.plan g) conns))
    ≡ map has (flat_map channels_with conns)
sides-given inputs g give f has [] all = refl
sides-given inputs g give f has (c ∷ conns) all =
    let both = λ (granted : Granted). give granted Fwd ∷ give granted Back ∷ [] in
    let test = granted_of inputs.app inputs.plan g in
    let Gives = GivesSides inputs g (λ granted side. f (give granted side)) has in
    let (granted, is, sides) = All-head Gives c conns all in
    let rest = sides-given inputs g give f has conns (All-tail Gives c conns all) in
    let later = filter_map test conns in
    let first : filter_map test (c ∷ conns) ≡ granted ∷ later = rw is refl in
    ap (λ (gs : List Granted). map f (flat_map both gs)) first
    ∙ ap (map f) (flat_map-cons both granted later)
    ∙ (λ i. sides Fwd i ∷ sides Back i ∷ rest i)
    ∙ ap (map has) (sym (flat_map-cons channels_with c conns))

-- Each connection of a use case has what its sides give.
use-given : {Y : Type 0} (inputs : Inputs) → AreAccepted inputs → (u : UseId)
    → u.0 < length inputs.app.uses → (give : Granted → Side → Y) (has : Channel → Y)
    → ((granted : Granted) → Contains (granted_in inputs.app (groups_of inputs.app) inputs.plan u.0)
    granted → (side : Side)
    → give granted side ≡ has (record { conn = granted.conn; side = side }))
    → All (GivesSides inputs (group_at (groups_of inputs.app) u.0) give has)
    (filter (has_at (groups_of inputs.app) u.0) (range_with_len 0 (groups_of inputs.app).connections))
unfolding granted_in
use-given inputs accepted u known give has same =
    let groups = groups_of inputs.app in
    let g = group_at groups u.0 in
    let numbers = range_with_len 0 groups.connections in
    let conns = filter (has_at groups u.0) numbers in
    all_from_places (GivesSides inputs g give has) conns (λ place c at.
    let inside = has_place conns place c at in
    let of_use = (filter-Contains (has_at groups u.0) numbers c inside).1 in
    let (granted, gives) = there inputs.chip inputs.app inputs.plan accepted.design u.0 known c
    (connection-known inputs u.0 c of_use) of_use in
    let listed = Contains-filter_map (granted_of inputs.app inputs.plan g) conns c granted inside gives in
    let conn = (made_of inputs.app inputs.plan g c granted gives).conn_is in (
      granted,
      gives,
      λ side. same granted listed side
          ∙ ap (λ (n : ℕ). has (record { conn = record { 0 = n }; side = side })) conn,
    ))

-- The rows of the tables of a use case are those of its channels.
pub rows-of_tables : (inputs : Inputs) → AreAccepted inputs → (u : UseId)
    → u.0 < length inputs.app.uses
    → (tables_of inputs.chip inputs.app (groups_of inputs.app) inputs.plan u).rows
    ≡ rows_that (groups_of inputs.app) (row_at (design_of inputs))
    (group_at (groups_of inputs.app) u.0) (has_at (groups_of inputs.app) u.0)
unfolding tables_of granted_in
rows-of_tables inputs accepted u known =
    let groups = groups_of inputs.app in
    let group = group_at groups u.0 in
    let conns = filter (has_at groups u.0) (range_with_len 0 groups.connections) in
    let give = row_on inputs.chip inputs.app in
    let has = row_at (design_of inputs) group in
    sym (map-id _)
    ∙ sides-given inputs group give (λ row. row) has conns
    (use-given inputs accepted u known give has (row-same inputs accepted u known))

-- The shapes of the tables are those of the channels.
pub shapes-of_tables : (inputs : Inputs) → AreAccepted inputs → (u : UseId)
    → u.0 < length inputs.app.uses
    → map shape_of (tables_of inputs.chip inputs.app (groups_of inputs.app) inputs.plan u).shapes
    ≡ map (λ channel. shape_at (design_of inputs) channel (group_at (groups_of inputs.app) u.0))
    (channels_that (groups_of inputs.app) (has_at (groups_of inputs.app) u.0))
unfolding tables_of granted_in
shapes-of_tables inputs accepted u known =
    let groups = groups_of inputs.app in
    let group = group_at groups u.0 in
    let conns = filter (has_at groups u.0) (range_with_len 0 groups.connections) in
    let give = shape_on inputs.chip inputs.app in
    let has = λ (channel : Channel). shape_at (design_of inputs) channel group in
    sides-given inputs group give shape_of has conns
    (use-given inputs accepted u known (λ granted side. shape_of (give granted side)) has
    (λ granted listed side. sym (shape-same inputs accepted u known granted listed side)))

-- The shape of each session's channel is granted what it asks for.
pub sessions-granted : (inputs : Inputs) → AreAccepted inputs → IsSound (run_of inputs)
    → (channel : Channel) (session : Session)
    → Contains (sessions_in (run_of inputs) channel.conn.0) session
    → IsGranted (server_of (run_of inputs) channel session).shape
sessions-granted inputs accepted sound channel session has =
    let design = design_of inputs in
    let of = stay_of (run_of inputs) sound channel session has in
    let u : UseId = record { 0 = of.holds.use_case } in
    let known = use-known inputs u.0 channel.conn.0 of.holds.has in
    let one = given_in inputs accepted u.0 channel.conn.0 of.holds.has in
    let in_group : group_at (groups_of inputs.app) u.0 ≡ session.group.0 =
    of.holds.in_group ∙ ap (λ (s : Session). s.group.0) of.is in
    let granted = shape-granted inputs accepted u known one.granted one.is_in channel.side in
    let here = subst (λ (g : ℕ). IsGranted (shape_at design
    (record { conn = one.granted.conn; side = channel.side }) g)) in_group granted in
    subst (λ (c : ℕ). IsGranted (shape_at design
    (record { conn = record { 0 = c }; side = channel.side }) session.group.0)) one.given.conn_is here
