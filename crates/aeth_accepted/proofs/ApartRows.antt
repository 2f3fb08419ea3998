-- No two channels of one use case share a queue or a slot of an interface.
use Rattle.std.proofs.Common.{◌≡◌, ◌∙◌, slice_get, sym, ap, inl, inr}
use Rattle.std.proofs.lemmas.Option.{same_Some}
use Rattle.aeth_group.specs.Members.{group_at, groups_of}
use Rattle.aeth_ni.specs.declared.row.ChannelRow.{ChannelRow}
use Rattle.aeth_reconf.specs.Windows.{AreAllApart}
use Rattle.aeth_tables.{specs.Tables.tables_of, proofs.ListLaws.place_in}
use Rattle.aeth_accepted.specs.Inputs.{AreAccepted, Inputs, design_of, row_at}
use Rattle.aeth_accepted.proofs.SessionRows.{is_row, promised}

module _ (inputs : Inputs) (accepted : AreAccepted inputs) where
  -- Of one use case: rows of its tables are told apart.
  pub all_apart : AreAllApart (groups_of inputs.app) (row_at (design_of inputs))
  all_apart u channel other has_one has_two meets =
      let row = row_at (design_of inputs) (group_at (groups_of inputs.app) u) in
      let rows =
      (tables_of inputs.chip inputs.app (groups_of inputs.app) inputs.plan (record { 0 = u })).rows in
      let keeps = promised inputs accepted u channel has_one in
      let (i, at_i) = place_in rows (row channel) (is_row inputs accepted u channel has_one) in
      let (j, at_j) = place_in rows (row other) (is_row inputs accepted u other has_two) in
      let places : i ≡ j = elim meets.shares [
        | inl queue ↦ keeps.queues i j (row channel) (row other) at_i at_j meets.ni queue
        | inr (slot, in_one, in_two) ↦ keeps.slots i j (row channel) (row other) slot at_i at_j
            meets.ni in_one in_two
      ] in
      let same : row channel ≡ row other =
      same_Some (row channel) (row other) (sym at_i ∙ ap (slice_get rows) places ∙ at_j) in
      ap (λ (r : ChannelRow). r.channel) same
