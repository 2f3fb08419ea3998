-- The rows of channels in use cases, by an accepted plan: they are among those of the tables.
use Rattle.std.proofs.Common.{◌≡◌, ◌∙◌, ◌<◌, ℕ, List, true, Contains, length, sym, ap, subst, arith}
use Rattle.aeth_base.specs.declared.ids.{Channel.Channel, Side.Side}
use Rattle.aeth_base.proofs.Members.{Contains-map}
use Rattle.aeth_group.specs.Members.{group_at, groups_of, has_at}
use Rattle.aeth_group.proofs.MemberLemmas.{connections-groups_of}
use Rattle.aeth_ni.specs.declared.row.ChannelRow.{ChannelRow}
use Rattle.aeth_reconf.{proofs.WindowLemmas.channels_that-has, specs.Rows.channels_that}
use Rattle.aeth_tables.specs.{Promises.KeepPromises, Reserved.IsReserved, Tables.row_on}
use Rattle.aeth_tables.specs.{Tables.tables_of}
use Rattle.aeth_tables.proofs.{PromiseLaws.keep_promises, UseLaws.is_reserved}
use Rattle.aeth_accepted.specs.Inputs.{AreAccepted, Inputs, design_of, row_at}
use Rattle.aeth_accepted.proofs.GivenGrants.{IsGivenIn, connection-known, given_in, use-known}
use Rattle.aeth_accepted.proofs.TableFlows.{row-same, rows-of_tables}

module _ (inputs : Inputs) (accepted : AreAccepted inputs) (u : ℕ) (channel : Channel)
    (has : has_at (groups_of inputs.app) u channel.conn.0 ≡ true) where
  abbrev group : ℕ
  group = group_at (groups_of inputs.app) u

  -- The use case is one of the application's.
  pub known : u < length inputs.app.uses
  known = use-known inputs u channel.conn.0 has

  -- Its connection is given, with its seats and grants.
  pub one : IsGivenIn inputs u channel.conn.0
  one = given_in inputs accepted u channel.conn.0 has

  -- These are as they must be.
  pub reserved : IsReserved inputs.chip inputs.app one.granted
  reserved =
      is_reserved inputs.chip inputs.app inputs.plan accepted.design u known one.granted one.is_in

  -- The rows of its connection.
  pub row-is : (side : Side) → row_on inputs.chip inputs.app one.granted side
      ≡ row_at (design_of inputs) (group_at (groups_of inputs.app) u)
      (record { conn = channel.conn; side = side })
  row-is side =
      row-same inputs accepted (record { 0 = u }) known one.granted one.is_in side
      ∙ ap (λ (n : ℕ). row_at (design_of inputs) group
      (record { conn = record { 0 = n }; side = side })) one.given.conn_is

  -- The tables of the use case keep what they promise.
  pub promised : KeepPromises inputs.chip inputs.app inputs.plan
      (tables_of inputs.chip inputs.app (groups_of inputs.app) inputs.plan (record { 0 = u }))
  promised = keep_promises inputs.chip inputs.app inputs.plan accepted.design (record { 0 = u }) known

  -- Its row is among theirs.
  pub is_row : Contains
      (tables_of inputs.chip inputs.app (groups_of inputs.app) inputs.plan (record { 0 = u })).rows
      (row_at (design_of inputs) (group_at (groups_of inputs.app) u) channel)
  is_row =
      let groups = groups_of inputs.app in
      let below = connection-known inputs u channel.conn.0 has in
      let count = connections-groups_of inputs.app in
      let row = row_at (design_of inputs) group in
      subst (λ (rows : List ChannelRow). Contains rows (row channel))
      (sym (rows-of_tables inputs accepted (record { 0 = u }) known))
      (Contains-map row (channels_that groups (has_at groups u)) channel
      (channels_that-has groups (has_at groups u) channel (omega (arith, below, count)) has))
