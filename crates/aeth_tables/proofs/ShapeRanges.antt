-- The shapes of channels by an accepted plan meet the condition on shapes.
use Rattle.std.proofs.Common.{◌∙◌, ◌≤◌, ◌<◌, ◌*◌, List, [], ◌∷◌, All, length, refl, sym, arith}
use Rattle.std.proofs.lemmas.List.{Elements.All-head, Elements.All-tail, Sums.sum_by-cons}
use Rattle.aeth_base.specs.Limits.{credits_per_flit, max_path_delay, max_path_links}
use Rattle.aeth_base.specs.Limits.{max_queue_words, min_path_links, words_per_flit}
use Rattle.aeth_base.specs.declared.ids.LinkId.{LinkId}
use Rattle.aeth_base.specs.declared.ids.Side.{Side, TheVariants.Back, TheVariants.Fwd}
use Rattle.aeth_slots.specs.SlotSet.{IsSlotSet}
use Rattle.aeth_server.specs.ChannelShape.{shape_of, IsShapeInRange}
use Rattle.aeth_server.specs.Shape.{buffer_of, round_trip}
use Rattle.aeth_server.proofs.LatencyLemmas.{latency_of-within}
use Rattle.aeth_server.proofs.ShapeLemmas.{buffer-most, need-most}
use Rattle.aeth_chip.specs.{Chip.ChipData, Chip.IsChip, Paths.delay_of, Paths.path_delay}
use Rattle.aeth_chip.proofs.OffsetLemmas.{delay_of-range, offset-most, offset_all}
use Rattle.aeth_app.specs.App.{AppData, IsApp, IsConnection, IsWish, wish_of}
use Rattle.aeth_app.proofs.NeedLemmas.{need_of-some}
use Rattle.aeth_group.proofs.ListLemmas.{all_at}
use Rattle.aeth_tables.specs.{Granted.grant_on, Granted.other_side, Reserved.IsReserved}
use Rattle.aeth_tables.specs.{Tables.shape_on, declared.granted.GrantedConnection.GrantedConnection}
use Rattle.aeth_tables.proofs.{CreditNeeds.credits_carried, SentLinks.path_links}

-- A path takes at least as many cycles as it has links.
path_delay-least : (chip : ChipData) → IsChip chip → (path : List LinkId)
    → All (λ link. link.0 < length chip.links) path → length path ≤ path_delay chip.links path
path_delay-least chip is_chip [] links = omega arith
path_delay-least chip is_chip (l ∷ path) links =
    let rest = path_delay-least chip is_chip path
    (All-tail (λ link. link.0 < length chip.links) l path links) in
    let one = delay_of-range chip l is_chip
    (All-head (λ link. link.0 < length chip.links) l path links) in
    omega (arith, rest, one.0, sum_by-cons (delay_of chip.links) l path)

-- A path of few links takes no more than a path may take.
path_delay-most : (chip : ChipData) → IsChip chip → (path : List LinkId)
    → length path ≤ max_path_links → path_delay chip.links path ≤ max_path_delay
path_delay-most chip is_chip path few =
    omega (arith, offset-most chip is_chip path (length path), offset_all chip.links path)

module _ (chip : ChipData) (app : AppData) (is_chip : IsChip chip) (is_app : IsApp app)
    (granted : GrantedConnection) (is : IsReserved chip app granted) where
  connection_of : IsConnection (length app.cores) granted.connection
  connection_of = all_at (IsConnection (length app.cores)) app.connections granted.conn.0
      granted.connection is_app.joined is.connection_is

  wish_is : (side : Side) → IsWish (wish_of granted.connection side)
  wish_is Fwd = connection_of.fwd
  wish_is Back = connection_of.back

  -- A path of a channel takes as many cycles as a path may.
  delay_least : (side : Side)
      → min_path_links ≤ path_delay chip.links (grant_on granted side).path
  delay_least side =
      let serves = is.serves side in
      let path = (grant_on granted side).path in
      let links = path_links chip.links app.detour _ _ path serves.admissible in
      let least = path_delay-least chip is_chip path serves.links in
      omega (arith, links.0, least)

  delay_most : (side : Side) → path_delay chip.links (grant_on granted side).path ≤ max_path_delay
  delay_most side = path_delay-most chip is_chip (grant_on granted side).path
      (is.serves side).admissible.fits

  -- The shape of each channel meets the condition.
  pub shape_in_range : (side : Side) → IsShapeInRange (shape_on chip app granted side)
  shape_in_range side =
      let own = is.serves side in
      let opposite = is.serves (other_side side) in
      record {
        least_need = need_of-some app.slots granted.connection side;
        capacity = own.suitable.enough;
        back_capacity = omega (
          arith,
          credits_carried app.slots granted.connection side,
          opposite.suitable.enough,
        );
        same_size = own.size ∙ sym opposite.size;
        least_links = delay_least side;
        most_links = delay_most side;
        least_back = delay_least (other_side side);
        most_back = delay_most (other_side side);
        most_delay = (wish_is side).delay;
      }

  -- Slots of a grant are a slot set.
  slot_set : (side : Side) → IsSlotSet (grant_on granted side).slots
  slot_set side =
      let serves = is.serves side in
      record {
        some_size = omega (arith, serves.size, is_chip.some_slots);
        within = omega (arith, serves.size, is_chip.slots);
        ascends = rw serves.size serves.starts;
      }

  -- The buffer of each channel is one that a queue may have.
  pub few_credits : (side : Side)
      → buffer_of (shape_of (shape_on chip app granted side)) ≤ max_queue_words
  few_credits side =
      let shape = shape_on chip app granted side in
      let range = shape_in_range side in
      let own = slot_set side in
      let opposite = slot_set (other_side side) in
      let rate = words_per_flit * shape.need in
      let some : 1 ≤ rate = omega (arith, range.least_need) in
      let words = latency_of-within shape.slots.size shape.slots.slots words_per_flit rate some
      own.ascends in
      let credits = latency_of-within shape.slots.size shape.back.slots credits_per_flit rate some
      (rw range.same_size opposite.ascends) in
      let most = buffer-most rate shape.slots.size (round_trip (shape_of shape)) _ refl own.some_size
      (omega (arith, need-most shape own range))
      (omega (
        arith,
        words,
        credits,
        own.within,
        range.most_links,
        range.most_back,
        range.most_delay,
      )) in
      omega (arith, most)
