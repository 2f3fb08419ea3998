-- A chain is a run of an accepted plan: its private servers are those of the run that has its offers as
-- words, and the landings are those of that run's log.
use Rattle.std.proofs.Common.{◌≡◌, ◌∙◌, ◌<◌, ◌≤◌, ℕ, true, List, [], ◌∷◌, Some, filter, length}
use Rattle.std.proofs.Common.{slice_get, refl, sym, ap, arith, option_map}
use Rattle.std.proofs.lemmas.List.Elements.{All-cons, All-nil}
use Rattle.std.proofs.lemmas.List.Sorted.{IsNonDecreasingBy-short}
use Rattle.std.proofs.lemmas.Option.{same_Some, slice_get-map}
use Rattle.std.specs.List.{range_with_len}
use Rattle.aeth_base.specs.{declared.ids.Channel.Channel, declared.ids.UseId.UseId}
use Rattle.aeth_base.specs.{Limits.max_cycles, Sides.channels_with}
use Rattle.aeth_base.proofs.Lists.{map-slice_get}
use Rattle.aeth_base.proofs.Members.{Contains-slice_get, filter-Contains, flat_map-Contains}
use Rattle.aeth_base.proofs.Ranges.{range-Contains}
use Rattle.aeth_server.specs.{ChannelShape.shape_of, declared.shape.ChannelShape.ChannelShape}
use Rattle.aeth_group.specs.Members.{group_at, groups_of, has_at}
use Rattle.aeth_trace.specs.declared.{switches.SwitchRow.SwitchRow, words.WordRow.WordRow}
use Rattle.aeth_reconf.specs.Rows.{channels_that}
use Rattle.aeth_report.{specs.Design.shape_at, proofs.ChannelLemmas.of_connection}
use Rattle.aeth_tables.specs.Tables.{tables_of}
use Rattle.aeth_accepted.specs.Inputs.{AreAccepted, Inputs, design_of, row_at}
use Rattle.aeth_accepted.proofs.TableFlows.{rows-of_tables, shapes-of_tables}
use Rattle.aeth_chain.specs.{ChainInputs.AreTabled, declared.item.ChainItem.ChainItem}

-- ---- what tables say
-- An item's channel is in the use case, and has its shape there.
pub record IsInUse (inputs : Inputs) (u : UseId) (channel : Channel) (shape : ChannelShape)
    : Type 0 where
  pub has : has_at (groups_of inputs.app) u.0 channel.conn.0 ≡ true
  pub conn : channel.conn.0 < (groups_of inputs.app).connections
  pub shape_is : shape_of shape
      ≡ shape_at (design_of inputs) channel (group_at (groups_of inputs.app) u.0)

module _ (inputs : Inputs) (u : UseId) (items : List ChainItem) (shapes : List ChannelShape)
    (tabled : AreTabled inputs u items shapes) (early : inputs.cycles ≤ max_cycles) where
  abbrev first : SwitchRow
  first = record { cycle = 0; to = u; drain = 0 }

  -- the inputs without words and receivers' rows, in this use case throughout
  abbrev pub bare : Inputs
  bare = record inputs { words = []; pulls = []; switches = first ∷ [] }

  pub bare-accepted : AreAccepted bare
  bare-accepted = record {
    design = tabled.design;
    of_chip = tabled.of_chip;
    words = record {
      few = omega arith;
      known = All-nil _;
      order = IsNonDecreasingBy-short (λ (row : WordRow). row.cycle) [] (omega arith);
      cycles = All-nil _;
    };
    pulls = record {
      few = omega arith;
      known = All-nil _;
      order = IsNonDecreasingBy-short _ [] (omega arith);
      cycles = All-nil _;
      pulls = All-nil _;
    };
    switches = record {
      few = omega arith;
      known = All-cons (λ (row : SwitchRow). row.to.0 < length inputs.app.uses) first []
          tabled.use_case (All-nil _);
      order = IsNonDecreasingBy-short (λ (row : SwitchRow). row.cycle) (first ∷ []) (omega arith);
      cycles = All-cons (λ (row : SwitchRow). row.cycle ≤ max_cycles) first [] (omega arith)
          (All-nil _);
      drains = All-cons (λ (row : SwitchRow). row.drain ≤ max_cycles) first [] (omega arith)
          (All-nil _);
      apart = refl;
      first = refl;
    };
    cycles = early;
  }

  pub item-in_use : (i : ℕ) (item : ChainItem) (shape : ChannelShape)
      → slice_get items i ≡ Some item → slice_get shapes i ≡ Some shape
      → IsInUse inputs u item.channel shape
  item-in_use i item shape at beside =
      let groups = groups_of inputs.app in
      let is = tabled.tabled i item shape at beside in
      let channels = channels_that (groups_of inputs.app) (has_at (groups_of inputs.app) u.0) in
      let rows = rows-of_tables bare bare-accepted u tabled.use_case in
      let (channel, found, told) = map-slice_get (row_at (design_of inputs)
      (group_at (groups_of inputs.app) u.0)) channels is.place is.row
      (sym (ap (λ rows. slice_get rows is.place) rows) ∙ is.row_at) in
      let same : channel ≡ item.channel =
      ap (λ row. row.channel) told ∙ is.channel_is in
      let shapes_are = shapes-of_tables bare bare-accepted u tabled.use_case in
      let mapped = slice_get-map shape_of (tables_of inputs.chip inputs.app (groups_of inputs.app)
      inputs.plan u).shapes is.place in
      let own = slice_get-map (λ one. shape_at (design_of inputs) one
      (group_at (groups_of inputs.app) u.0)) channels is.place in
      let shape_same : Some (shape_of shape)
      ≡ Some (shape_at (design_of inputs) channel (group_at (groups_of inputs.app) u.0)) =
      sym (mapped ∙ ap (option_map shape_of) is.shape_at)
      ∙ ap (λ xs. slice_get xs is.place) shapes_are ∙ own
      ∙ ap (option_map (λ one. shape_at (design_of inputs) one
      (group_at (groups_of inputs.app) u.0))) found in
      let held = Contains-slice_get channels is.place channel found in
      let (c, kept, with) = flat_map-Contains channels_with
      (filter (has_at (groups_of inputs.app) u.0)
      (range_with_len 0 (groups_of inputs.app).connections)) channel held in
      let (member, passes) = filter-Contains (has_at (groups_of inputs.app) u.0)
      (range_with_len 0 (groups_of inputs.app).connections) c kept in
      let conn : item.channel.conn.0 ≡ c =
      sym (ap (λ (one : Channel). one.conn.0) same) ∙ of_connection c channel with in
      record {
        has = ap (has_at (groups_of inputs.app) u.0) conn ∙ passes;
        conn = let low = range-Contains (groups_of inputs.app).connections c member in
            omega (arith, low, conn);
        shape_is = same_Some _ _ shape_same
            ∙ ap (λ one. shape_at (design_of inputs) one (group_at (groups_of inputs.app) u.0)) same;
      }
