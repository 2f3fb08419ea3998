-- The rows of channels in use cases, by an accepted plan: from where to where they lead, and what they
-- are given.
use Rattle.std.proofs.Common.{◌≡◌, ◌≤◌, ◌<◌, ◌^◌, ◌∙◌, ℕ, true, refl, sym, ap, subst, arith}
use Rattle.aeth_base.specs.Limits.{max_queue_words}
use Rattle.aeth_base.specs.declared.ids.{Channel.Channel, NiId.NiId, Side.Side}
use Rattle.aeth_base.specs.declared.ids.{Side.TheVariants.Back, Side.TheVariants.Fwd}
use Rattle.aeth_chip.specs.Paths.{IsAdmissible}
use Rattle.aeth_group.specs.Members.{group_at, groups_of, has_at}
use Rattle.aeth_group.specs.declared.grant.{Grant.Grant, SeatLine.SeatLine}
use Rattle.aeth_header.specs.Layout.{queue_bits}
use Rattle.aeth_ni.specs.declared.row.ChannelRow.{ChannelRow}
use Rattle.aeth_report.specs.Channels.{opposite, other_side as opposite_side}
use Rattle.aeth_report.specs.Design.{grant_at, shape_at}
use Rattle.aeth_server.specs.Shape.{Shape, buffer_of}
use Rattle.aeth_tables.specs.{Granted.Granted, Granted.receiving_seat, Granted.sending_seat}
use Rattle.aeth_tables.specs.{Promises.HasNumbers, Tables.tables_of}
use Rattle.aeth_tables.proofs.{ListLaws.all_has, ShapeRanges.few_credits}
use Rattle.aeth_accepted.specs.Inputs.{AreAccepted, Inputs, design_of, row_at}
use Rattle.aeth_accepted.proofs.GivenGrants.{IsGivenIn}
use Rattle.aeth_accepted.proofs.SessionRows.{is_row, known, one, promised, reserved, row-is}
use Rattle.aeth_accepted.proofs.TableFlows.{shape-same}

-- The seat at which a side lands is that from which the other side sends.
seats_turned : (granted : Granted) (side : Side)
    → receiving_seat granted side ≡ sending_seat granted (opposite_side side)
seats_turned granted Fwd = refl
seats_turned granted Back = refl

module _ (inputs : Inputs) (accepted : AreAccepted inputs) (u : ℕ) (channel : Channel)
    (has : has_at (groups_of inputs.app) u channel.conn.0 ≡ true) where
  abbrev group : ℕ
  group = group_at (groups_of inputs.app) u

  -- The connection, with its seats and grants.
  abbrev own : IsGivenIn inputs u channel.conn.0
  own = one inputs accepted u channel has

  -- Its path leads from its interface to that of the opposite channel.
  pub leads : IsAdmissible inputs.chip.links inputs.app.detour
      (row_at (design_of inputs) (group_at (groups_of inputs.app) u) channel).ni
      (row_at (design_of inputs) (group_at (groups_of inputs.app) u) (opposite channel)).ni
      (grant_at (design_of inputs) channel (group_at (groups_of inputs.app) u)).path
  leads =
      let links = inputs.chip.links in
      let detour = inputs.app.detour in
      let side = channel.side in
      let a = (sending_seat own.granted side).ni in
      let b = (receiving_seat own.granted side).ni in
      let from : a ≡ (row_at (design_of inputs) group channel).ni =
      ap (λ (row : ChannelRow). row.ni) (row-is inputs accepted u channel has side) in
      let to : b ≡ (row_at (design_of inputs) group (opposite channel)).ni =
      ap (λ (seat : SeatLine). seat.ni) (seats_turned own.granted side)
      ∙ ap (λ (row : ChannelRow). row.ni) (row-is inputs accepted u channel has (opposite_side side)) in
      let grant = sym (own.given.grants_are side) in
      let serves = ((reserved inputs accepted u channel has).serves side).admissible in
      subst (λ (ni : NiId). IsAdmissible links detour ni
      (row_at (design_of inputs) group (opposite channel)).ni
      (grant_at (design_of inputs) channel group).path) from
      (subst (λ (ni : NiId). IsAdmissible links detour a ni
      (grant_at (design_of inputs) channel group).path) to
      (subst (λ (g : Grant). IsAdmissible links detour a b g.path) grant serves))

  -- The numbers of its row are those that a row may have.
  pub numbers : HasNumbers (row_at (design_of inputs) (group_at (groups_of inputs.app) u) channel)
  numbers = all_has HasNumbers
      (tables_of inputs.chip inputs.app (groups_of inputs.app) inputs.plan (record { 0 = u })).rows
      (row_at (design_of inputs) group channel)
      (promised inputs accepted u channel has).numbered (is_row inputs accepted u channel has)

  pub fits_remote :
      (row_at (design_of inputs) (group_at (groups_of inputs.app) u) channel).remote
      < 2 ^ queue_bits
  fits_remote = let below = numbers.remote in omega (arith, below)

  -- Its buffer is one that a queue may have.
  pub few_words : buffer_of
      (shape_at (design_of inputs) channel (group_at (groups_of inputs.app) u)) ≤ max_queue_words
  few_words =
      let few = few_credits inputs.chip inputs.app accepted.design.chip_is accepted.design.app_is
      own.granted (reserved inputs accepted u channel has) channel.side in
      let same = shape-same inputs accepted (record { 0 = u })
      (known inputs accepted u channel has) own.granted own.is_in channel.side in
      let here : buffer_of (shape_at (design_of inputs)
      (record { conn = own.granted.conn; side = channel.side }) group) ≤ max_queue_words =
      subst (λ (shape : Shape). buffer_of shape ≤ max_queue_words) (sym same) few in
      subst (λ (n : ℕ). buffer_of (shape_at (design_of inputs)
      (record { conn = record { 0 = n }; side = channel.side }) group) ≤ max_queue_words)
      own.given.conn_is here
