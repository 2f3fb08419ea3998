-- The tables of a use case by an accepted plan keep their promises.
use Rattle.std.proofs.Common.{◌≡◌, ◌∙◌, ◌<◌, ◌+◌, ◌*◌, ℕ, List, [], ◌∷◌, Some, Contains, slice_get}
use Rattle.std.proofs.Common.{length, map, drop, refl, sym, ap, subst, arith, add-one, flat_map}
use Rattle.std.proofs.Common.{option_map}
use Rattle.std.proofs.lemmas.Option.{none-some, same_Some, slice_get-map, slice_get_within}
use Rattle.std.specs.List.{range_with_len}
use Rattle.aeth_base.specs.declared.ids.{LinkId.LinkId, NiId.NiId, Side.Side, Side.TheVariants.Back}
use Rattle.aeth_base.specs.declared.ids.{Side.TheVariants.Fwd, Unit.Unit as GroupUnit, UseId.UseId}
use Rattle.aeth_slots.proofs.{Ascending.Ascends-filter, TestLemmas.Ascends-slots}
use Rattle.aeth_server.specs.{ChannelShape.IsShapeInRange, declared.shape.ChannelShape.ChannelShape}
use Rattle.aeth_chip.specs.{Chip.ChipData, Paths.IsAdmissible}
use Rattle.aeth_app.{specs.App.AppData, proofs.AppLemmas.position_of-few, specs.Connections.sender}
use Rattle.aeth_group.specs.Members.{group_at, groups_of, has_at}
use Rattle.aeth_group.specs.declared.grant.Grant.{Grant}
use Rattle.aeth_ni.specs.{Limits.queues_of_interface, declared.row.ChannelRow.ChannelRow}
use Rattle.aeth_plan.specs.{Plan.PlanData, Design.IsDesign}
use Rattle.aeth_trace.specs.Channels.{side_number}
use Rattle.aeth_tables.specs.Granted.{channels_with, grant_on, granted_in, other_side}
use Rattle.aeth_tables.specs.Granted.{receiving_seat, sending_seat}
use Rattle.aeth_tables.specs.Promises.{HasNumbers, HasOpposite, HaveOwnQueues, HaveOwnSlots, IsMet}
use Rattle.aeth_tables.specs.Promises.{KeepPromises, LeadsTo}
use Rattle.aeth_tables.specs.TableText.{IsPrintable, IsRowOf}
use Rattle.aeth_tables.specs.Tables.{queue_at, row_on, shape_on, tables_of}
use Rattle.aeth_tables.specs.declared.granted.GrantedConnection.{GrantedConnection}
use Rattle.aeth_tables.proofs.ApartLaws.{ends_there, queues_apart, sender_ends}
use Rattle.aeth_tables.proofs.ListLaws.{has_place, place_in}
use Rattle.aeth_tables.proofs.PlaceLaws.{IsGivenAt, all_given, ascends_once, channels_of_rows}
use Rattle.aeth_tables.proofs.PlaceLaws.{given_at, length-pairs, pairs, there_given}
use Rattle.aeth_tables.proofs.PortLaws.{at_port, digit_at, route_fits}
use Rattle.aeth_tables.proofs.SentLinks.{sent_along}
use Rattle.aeth_tables.proofs.ShapeRanges.{few_credits, shape_in_range}
use Rattle.aeth_tables.proofs.SlotLaws.{grants_apart}
use Rattle.aeth_tables.proofs.UseLaws.{conns_of, is_had, is_planned, is_reserved}

-- The seat from which the opposite channel sends is that at which a channel lands.
opposite_seat : (granted : GrantedConnection) (side : Side)
    → sending_seat granted (other_side side) ≡ receiving_seat granted side
opposite_seat granted Fwd = refl
opposite_seat granted Back = refl

opposite_end : (granted : GrantedConnection) (side : Side)
    → receiving_seat granted (other_side side) ≡ sending_seat granted side
opposite_end granted Fwd = refl
opposite_end granted Back = refl

-- A link behind the first of a path.
behind_first : (path : List LinkId) (place : ℕ) (link : LinkId)
    → slice_get path (place + 1) ≡ Some link → slice_get (drop 1 path) place ≡ Some link
behind_first [] place link there = absurd (none-some link there)
behind_first (first ∷ path) place link there =
    ap (slice_get (first ∷ path)) (sym (add-one place)) ∙ there

module _ (chip : ChipData) (app : AppData) (plan : PlanData) (design : IsDesign chip app plan)
    (u : ℕ) (within : u < length app.uses) where
  -- The connections of the use case.
  abbrev ones : List GrantedConnection
  ones = granted_in app (groups_of app) plan u

  -- ---- One connection

  queue_below : (one : GrantedConnection) (side : Side) → Contains ones one
      → queue_at app one.conn (sending_seat one side) < queues_of_interface
  queue_below one side has =
      let is = is_reserved chip app plan design u within one has in
      let seat = is.sends side in
      let few = position_of-few app (sending_seat one side).core one.conn.0 design.app_is
      (rw seat.core_is (ends_there app one (sender one.connection side) is.connection_is
      (sender_ends one.connection side))) in
      omega (arith, few.1, seat.seat)

  has_numbers : (one : GrantedConnection) (side : Side) → Contains ones one
      → HasNumbers (row_on chip app one side)
  has_numbers one side has = record {
    queue = queue_below one side has;
    remote = rw (← opposite_seat one side) (queue_below one (other_side side) has);
  }

  is_row : (one : GrantedConnection) (side : Side) → Contains ones one
      → IsRowOf chip app (row_on chip app one side)
  is_row one side has =
      let is = is_reserved chip app plan design u within one has in
      record {
        ni = (is.sends side).ni;
        conn = slice_get_within app.connections one.conn.0 one.connection is.connection_is;
        size = (is.serves side).size;
      }

  leads_to : (one : GrantedConnection) (side : Side) → Contains ones one
      → LeadsTo chip app plan (row_on chip app one side) (sending_seat one (other_side side)).ni
  leads_to one side has =
      let is = is_reserved chip app plan design u within one has in
      let serves = is.serves side in
      let grant = grant_on one side in
      let sent = sent_along chip.links app.detour _ _ grant.path serves.admissible in
      record {
        grant = grant;
        planned = (is_planned chip app plan design u within one has).planned side;
        slots = refl;
        leads = rw (opposite_seat one side) serves.admissible;
        fits = route_fits chip design.chip_is grant.path sent serves.admissible.fits;
        digits = λ place link at.
            let there = behind_first grant.path place link at in
            let (router, sends) = sent place link there in
            record {
              router = router;
              sends = sends;
              port = rw (digit_at chip design.chip_is grant.path sent place link there)
                  (at_port chip link router design.chip_is sends).at;
            };
      }

  has_opposite : (one : GrantedConnection) (side : Side) → Contains ones one
      → HasOpposite chip app plan (pairs (row_on chip app) ones) (row_on chip app one side)
  has_opposite one side has =
      let (place, at) = place_in ones one has in
      record {
        opposite = row_on chip app one (other_side side);
        is_in = has_place (pairs (row_on chip app) ones) (2 * place + side_number (other_side side))
            (row_on chip app one (other_side side))
            (there_given (row_on chip app) ones place one (other_side side) at);
        conn = refl;
        side = refl;
        queue = ap (queue_at app one.conn) (opposite_seat one side);
        remote = ap (queue_at app one.conn) (opposite_end one side);
        leads = leads_to one side has;
      }

  -- ---- Two rows

  -- Connections of one number stand at one place.
  one_place : (i j : ℕ) (a b : GrantedConnection) → slice_get ones i ≡ Some a
      → slice_get ones j ≡ Some b → a.conn.0 ≡ b.conn.0 → i ≡ j
  one_place i j a b at_i at_j same =
      let conns = conns_of chip app plan design u within in
      let groups = groups_of app in
      let number = λ (k : ℕ) (one : GrantedConnection) (at : slice_get ones k ≡ Some one).
      slice_get-map (λ (g : GrantedConnection). g.conn.0) ones k
      ∙ ap (option_map (λ (g : GrantedConnection). g.conn.0)) at in
      ascends_once 0 groups.connections
      (map (λ (g : GrantedConnection). g.conn.0) ones)
      (rw conns (Ascends-filter (has_at groups u) 0 groups.connections
      (range_with_len 0 groups.connections) (Ascends-slots groups.connections)))
      i j a.conn.0 (number i a at_i) (number j b at_j ∙ ap (λ (n : ℕ). Some n) (sym same))

  -- Rows of one connection's side are one.
  one_row : (i j : ℕ) (a b : ChannelRow) (x : IsGivenAt (row_on chip app) ones i a)
      (y : IsGivenAt (row_on chip app) ones j b) → x.granted.conn.0 ≡ y.granted.conn.0
      → (x.granted.connection ≡ y.granted.connection → x.side ≡ y.side) → i ≡ j
  one_row i j a b x y conn side =
      let place = one_place x.place y.place x.granted y.granted x.at y.at conn in
      let granted : x.granted ≡ y.granted =
      same_Some x.granted y.granted (sym x.at ∙ ap (slice_get ones) place ∙ y.at) in
      let sides = side (ap (λ (g : GrantedConnection). g.connection) granted) in
      let numbers = ap side_number sides in
      omega (arith, x.index, y.index, place, numbers)

  own_queues : HaveOwnQueues (pairs (row_on chip app) ones)
  own_queues i j a b at_i at_j ni queue =
      let x = given_at (row_on chip app) ones i a at_i in
      let y = given_at (row_on chip app) ones j b at_j in
      let has_x = has_place ones x.place x.granted x.at in
      let has_y = has_place ones y.place y.granted y.at in
      let apart = queues_apart chip app plan design (group_at (groups_of app) u) x.granted y.granted
      x.side y.side (is_reserved chip app plan design u within x.granted has_x)
      (is_reserved chip app plan design u within y.granted has_y)
      (is_planned chip app plan design u within x.granted has_x)
      (is_planned chip app plan design u within y.granted has_y)
      (ap (λ (r : ChannelRow). r.ni) x.is ∙ ni ∙ sym (ap (λ (r : ChannelRow). r.ni) y.is))
      (ap (λ (r : ChannelRow). r.queue) x.is ∙ queue ∙ sym (ap (λ (r : ChannelRow). r.queue) y.is)) in
      one_row i j a b x y apart.0 apart.1

  own_slots : HaveOwnSlots (pairs (row_on chip app) ones)
  own_slots i j a b slot at_i at_j ni slot_a slot_b =
      let x = given_at (row_on chip app) ones i a at_i in
      let y = given_at (row_on chip app) ones j b at_j in
      let has_x = has_place ones x.place x.granted x.at in
      let has_y = has_place ones y.place y.granted y.at in
      let is_x = is_reserved chip app plan design u within x.granted has_x in
      let is_y = is_reserved chip app plan design u within y.granted has_y in
      let of_x = is_planned chip app plan design u within x.granted has_x in
      let of_y = is_planned chip app plan design u within y.granted has_y in
      let one_ni : (sending_seat y.granted y.side).ni ≡ (sending_seat x.granted x.side).ni =
      ap (λ (r : ChannelRow). r.ni) y.is ∙ sym ni ∙ sym (ap (λ (r : ChannelRow). r.ni) x.is) in
      let serves_x = is_x.serves x.side in
      let serves_y = is_y.serves y.side in
      let grant = grants_apart chip app plan design u (sending_seat x.granted x.side).ni
      (receiving_seat x.granted x.side).ni (receiving_seat y.granted y.side).ni
      (grant_on x.granted x.side) (grant_on y.granted y.side) x.granted.conn.0 y.granted.conn.0 slot
      (is_x.sends x.side).ni (of_x.planned x.side) (of_y.planned y.side) (of_x.unit_is x.side)
      (of_y.unit_is y.side) (is_had chip app plan design u within x.granted has_x)
      (is_had chip app plan design u within y.granted has_y) (serves_x.size ∙ sym serves_y.size)
      serves_x.admissible
      (subst (λ (n : NiId). IsAdmissible chip.links app.detour n (receiving_seat y.granted y.side).ni
      (grant_on y.granted y.side).path) one_ni serves_y.admissible)
      (rw (← ap (λ (r : ChannelRow). r.slots) x.is) at slot_a)
      (rw (← ap (λ (r : ChannelRow). r.slots) y.is) at slot_b) in
      let conn : x.granted.conn.0 ≡ y.granted.conn.0 =
      sym (ap (λ (unit : GroupUnit). unit.conn.0) (of_x.unit_is x.side))
      ∙ ap (λ (g : Grant). g.unit.conn.0) grant
      ∙ ap (λ (unit : GroupUnit). unit.conn.0) (of_y.unit_is y.side) in
      let side : x.side ≡ y.side =
      sym (of_x.side_is x.side) ∙ ap (λ (g : Grant). g.side) grant ∙ of_y.side_is y.side in
      one_row i j a b x y conn (λ same. side)

  -- ---- Rows and shapes

  is_met : (i : ℕ) (row : ChannelRow) (shape : ChannelShape)
      → slice_get (pairs (row_on chip app) ones) i ≡ Some row
      → slice_get (pairs (shape_on chip app) ones) i ≡ Some shape → IsMet app row shape
  is_met i row shape at_row at_shape =
      let x = given_at (row_on chip app) ones i row at_row in
      let has = has_place ones x.place x.granted x.at in
      let is = is_reserved chip app plan design u within x.granted has in
      let there = there_given (shape_on chip app) ones x.place x.granted x.side x.at in
      let shape_is : shape_on chip app x.granted x.side ≡ shape =
      same_Some (shape_on chip app x.granted x.side) shape
      (sym there ∙ ap (slice_get (pairs (shape_on chip app) ones)) (sym x.index) ∙ at_shape) in
      let met : IsMet app (row_on chip app x.granted x.side) (shape_on chip app x.granted x.side) =
      record {
        connection = x.granted.connection;
        connection_is = is.connection_is;
        slots = refl;
        need = refl;
        suitable = (is.serves x.side).suitable;
        credits = refl;
        few_credits = few_credits chip app design.chip_is design.app_is x.granted is x.side;
      } in
      subst (λ (s : ChannelShape). IsMet app row s) shape_is
      (subst (λ (r : ChannelRow). IsMet app r (shape_on chip app x.granted x.side)) x.is met)

-- The tables keep what they promise.
pub keep_promises : (chip : ChipData) (app : AppData) (plan : PlanData) → IsDesign chip app plan
    → (u : UseId) → u.0 < length app.uses
    → KeepPromises chip app plan (tables_of chip app (groups_of app) plan u)
unfolding tables_of
keep_promises chip app plan design u within =
    let ones = granted_in app (groups_of app) plan u.0 in
    record {
      channels = channels_of_rows chip app ones
          ∙ ap (flat_map channels_with) (conns_of chip app plan design u.0 within);
      beside = length-pairs (shape_on chip app) ones ∙ sym (length-pairs (row_on chip app) ones);
      known = all_given (row_on chip app) (IsRowOf chip app) ones
          (is_row chip app plan design u.0 within);
      numbered = all_given (row_on chip app) HasNumbers ones
          (has_numbers chip app plan design u.0 within);
      queues = own_queues chip app plan design u.0 within;
      slots = own_slots chip app plan design u.0 within;
      opposite = all_given (row_on chip app)
          (HasOpposite chip app plan (pairs (row_on chip app) ones)) ones
          (has_opposite chip app plan design u.0 within);
      shapes = all_given (shape_on chip app) IsShapeInRange ones (λ one side has.
          shape_in_range chip app design.chip_is design.app_is one
          (is_reserved chip app plan design u.0 within one has) side);
      met = is_met chip app plan design u.0 within;
    }

-- They can be printed.
pub are_printable : (chip : ChipData) (app : AppData) (plan : PlanData) → IsDesign chip app plan
    → (u : UseId) → u.0 < length app.uses
    → IsPrintable chip app (tables_of chip app (groups_of app) plan u)
unfolding tables_of
are_printable chip app plan design u within =
    let kept = keep_promises chip app plan design u within in
    record {
      use_case = within;
      count = sym kept.beside;
      rows = kept.known;
      numbered = kept.numbered;
      shapes = kept.shapes;
    }
