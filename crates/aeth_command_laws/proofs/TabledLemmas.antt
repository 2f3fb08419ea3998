-- What `tables` prints binds each run of its plan.
use Rattle.std.proofs.Common.{◌≡◌, ◌<◌, ◌∙◌, ℕ, List, [], ◌∷◌, Contains, Option, Some, ap, arith}
use Rattle.std.proofs.Common.{length, map, refl, slice_get, suc, subst, sym, zero, eq-eqb}
use Rattle.std.proofs.lemmas.List.Elements.{Contains-append_left, Contains-append_right}
use Rattle.std.proofs.lemmas.Option.{same_Some}
use Rattle.std.specs.List.{range_with_len, zip}
use Rattle.aeth_accepted.specs.Inputs.{AreAccepted, Inputs, IsTabled, design_of, row_at, run_of}
use Rattle.aeth_accepted.proofs.GivenGrants.{connection-known}
use Rattle.aeth_answers.specs.{Job.Job, Status.done_status, Task.ends, Task.job_with}
use Rattle.aeth_app.specs.App.{AppData}
use Rattle.aeth_base.specs.declared.ids.{Channel.Channel, UseId.UseId}
use Rattle.aeth_base.specs.Sides.{channels_with}
use Rattle.aeth_base.proofs.{Lists.map-at, Lists.map-slice_get, Members.All-slice_get}
use Rattle.aeth_base.proofs.{Members.Contains-filter, Members.Contains-flat_map}
use Rattle.aeth_base.proofs.{Members.Contains-map, Members.Contains-slice_get}
use Rattle.aeth_base.proofs.{Members.Contains-there, Members.slice_get-Contains}
use Rattle.aeth_base.proofs.{Ranges.Contains-range, SideLemmas.own-channel}
use Rattle.aeth_chip.specs.Chip.{ChipData}
use Rattle.aeth_group.specs.Members.{group_at, groups_of, has_at}
use Rattle.aeth_group.proofs.MemberLemmas.{connections-groups_of}
use Rattle.aeth_ni.specs.{Limits.queues_of_interface, declared.row.ChannelRow.ChannelRow}
use Rattle.aeth_plan.specs.{Plan.PlanData, Plan.name_at, Design.IsDesign}
use Rattle.aeth_machine.specs.RunInputs.{inputs_of}
use Rattle.aeth_reconf.specs.Rows.{channels_that, rows_that}
use Rattle.aeth_report.specs.{Design.shape_at, Flows.flow_of, declared.session.Session.Session}
use Rattle.aeth_server.specs.{ChannelShape.shape_of, Shape.Shape, Shape.channel_latency}
use Rattle.aeth_server.specs.{declared.shape.ChannelShape.ChannelShape}
use Rattle.aeth_tables.specs.Promises.{HasNumbers, KeepPromises}
use Rattle.aeth_tables.specs.TableText.{IsRowOf, entry_lines, lines_of_queue, lines_with, promised}
use Rattle.aeth_tables.specs.TableText.{promised_of, queue_lines, queues_at, queues_with, rows_at}
use Rattle.aeth_tables.specs.Tables.{tables_of}
use Rattle.aeth_plan_commands.specs.PlannedUses.{PlannedUseData, plan_for, use_for}
use Rattle.aeth_plan_commands.specs.Tables.{tables_job, tables_task}
use Rattle.aeth_plan_commands.specs.declared.planned_uses.UseFiles.{UseFiles}
use Rattle.aeth_command_laws.specs.Tabled.{AreTablesTold, IsBinding, printed_line}
use Rattle.aeth_command_laws.proofs.ToldLemmas.{FilesTell, RunsTell, design_kept, not_refused}
use Rattle.aeth_command_laws.proofs.ToldLemmas.{plan_kept, use_kept}

-- What holds of tables, and of sessions by them.
pub record TablesTell : Type 0 where
  pub promises : (chip : ChipData) (app : AppData) (plan : PlanData) → IsDesign chip app plan
      → (u : UseId) → u.0 < length app.uses
      → KeepPromises chip app plan (tables_of chip app (groups_of app) plan u)
  pub rows : (inputs : Inputs) → AreAccepted inputs → (u : UseId) → u.0 < length inputs.app.uses
      → (tables_of inputs.chip inputs.app (groups_of inputs.app) inputs.plan u).rows
      ≡ rows_that (groups_of inputs.app) (row_at (design_of inputs))
      (group_at (groups_of inputs.app) u.0) (has_at (groups_of inputs.app) u.0)
  pub shapes : (inputs : Inputs) → AreAccepted inputs → (u : UseId) → u.0 < length inputs.app.uses
      → map shape_of (tables_of inputs.chip inputs.app (groups_of inputs.app) inputs.plan u).shapes
      ≡ map (λ channel. shape_at (design_of inputs) channel (group_at (groups_of inputs.app) u.0))
      (channels_that (groups_of inputs.app) (has_at (groups_of inputs.app) u.0))
  pub flows : (inputs : Inputs) (channel : Channel) (session : Session)
      → IsTabled (row_at (design_of inputs) session.group.0 channel)
      (flow_of (run_of inputs) channel session)

-- What stands at a place of two lists stands there in their pairs.
zip-at : {X Y : Type 0} (xs : List X) (ys : List Y) (i : ℕ) (x : X) (y : Y)
    → slice_get xs i ≡ Some x → slice_get ys i ≡ Some y → slice_get (zip xs ys) i ≡ Some (x, y)
zip-at [] ys i x y at beside = absurd (cc at)
zip-at (first ∷ xs) [] i x y at beside = absurd (cc beside)
zip-at (first ∷ xs) (other ∷ ys) zero x y at beside =
    let one = same_Some first x at in
    let two = same_Some other y beside in
    λ i. Some (one i, two i)
zip-at (first ∷ xs) (other ∷ ys) (suc i) x y at beside = zip-at xs ys i x y at beside

-- The line of a row that names an interface and a queue is printed.
line-printed : (one : PlannedUseData) (rows : List ChannelRow) (shapes : List ChannelShape)
    (row : ChannelRow) (shape : ChannelShape)
    → Contains (promised_of rows shapes) (promised (row, shape))
    → row.ni.0 < length one.design.chip.nis → row.queue < queues_of_interface
    → Contains (lines_with one.design.chip one.design.app one.use_case.0 (promised_of rows shapes))
    (printed_line one row shape)
unfolding queues_with
line-printed one rows shapes row shape has ni queue =
    let chip = one.design.chip in
    let app = one.design.app in
    let all = promised_of rows shapes in
    let own = rows_at row.ni.0 all in
    let name = name_at chip.nis row.ni.0 in
    let text = printed_line one row shape in
    let is_own : Contains (rows_at row.ni.0 all) (promised (row, shape)) =
    Contains-filter _ all (promised (row, shape)) has (eq-eqb row.ni.0 row.ni.0 refl) in
    let told : Contains (lines_of_queue app name own row.queue) text =
    Contains-map _ _ (promised (row, shape))
    (Contains-filter _ own (promised (row, shape)) is_own (eq-eqb row.queue row.queue refl)) in
    let at_ni : Contains (queues_at chip app all row.ni.0) text =
    Contains-flat_map (lines_of_queue app name own) (range_with_len 0 queues_of_interface) row.queue
    text (Contains-range 0 queues_of_interface row.queue (omega arith) (omega (arith, queue))) told in
    let among : Contains (queue_lines chip app all) text =
    Contains-flat_map (queues_at chip app all) (range_with_len 0 (length chip.nis)) row.ni.0 text
    (Contains-range 0 (length chip.nis) row.ni.0 (omega arith) (omega (arith, ni))) at_ni in
    Contains-there _ _ text (Contains-append_right (entry_lines chip all) _ text
    (Contains-append_left (queue_lines chip app all) _ text among))

module _ (tell : TablesTell) (one : PlannedUseData)
    (known : one.use_case.0 < length one.design.app.uses) where
  -- A session of a channel of the use case, by the grants of its group, is bound.
  binds-each : IsBinding one
  binds-each traces cycles accepted channel session has used group =
      let u = one.use_case in
      let inputs = inputs_of one.design one.plan traces cycles in
      let app = one.design.app in
      let groups = groups_of app in
      let design = design_of inputs in
      let tables = tables_of one.design.chip app groups one.plan u in
      let keep = tell.promises one.design.chip app one.plan accepted.design u known in
      let below = connection-known inputs u.0 channel.conn.0 used in
      let count = connections-groups_of app in
      let channels = channels_that groups (has_at groups u.0) in
      let listed : Contains channels channel = Contains-flat_map channels_with _ channel.conn.0 channel
      (Contains-filter (has_at groups u.0) (range_with_len 0 groups.connections) channel.conn.0
      (Contains-range 0 groups.connections channel.conn.0 (omega arith) (omega (arith, below, count)))
      used) (own-channel channel) in
      let (i, at) = slice_get-Contains channels channel listed in
      let row : ChannelRow = row_at design (group_at groups u.0) channel in
      let row_is : slice_get tables.rows i ≡ Some row =
      ap (λ (rows : List ChannelRow). slice_get rows i) (tell.rows inputs accepted u known)
      ∙ map-at (row_at design (group_at groups u.0)) channels i channel at in
      let mapped : slice_get (map shape_of tables.shapes) i
      ≡ Some (shape_at design channel (group_at groups u.0)) =
      ap (λ (shapes : List Shape). slice_get shapes i) (tell.shapes inputs accepted u known)
      ∙ map-at (λ (one : Channel). shape_at design one (group_at groups u.0)) channels i channel at in
      let (shape, shape_is, same) = map-slice_get shape_of tables.shapes i _ mapped in
      let listed_line : Contains (promised_of tables.rows tables.shapes) (promised (row, shape)) =
      Contains-slice_get (promised_of tables.rows tables.shapes) i (promised (row, shape))
      (map-at promised (zip tables.rows tables.shapes) i (row, shape)
      (zip-at tables.rows tables.shapes i row shape row_is shape_is)) in
      let own_shape : shape_at design channel session.group.0 ≡ shape_of shape =
      ap (shape_at design channel) group ∙ sym same in
      record {
        row = row;
        shape = shape;
        own = refl;
        printed = line-printed one tables.rows tables.shapes row shape listed_line
            (All-slice_get (IsRowOf one.design.chip app) tables.rows i row keep.known row_is).ni
            (All-slice_get HasNumbers tables.rows i row keep.numbered row_is).queue;
        runs = record {
          tabled = subst (λ (g : ℕ). IsTabled (row_at design g channel)
              (flow_of (run_of inputs) channel session)) group (tell.flows inputs channel session);
          rate = ap (λ (one : Shape). one.rate) own_shape;
          latency = ap channel_latency own_shape;
        };
      }

-- A job of `tables` that is done is the tables of a use case, and they bind.
pub tables-told : FilesTell → RunsTell → TablesTell → (content : List ℕ → Option (List ℕ))
    (files : UseFiles) (asked : Job) → job_with content (tables_task files) ≡ Some asked
    → asked.status ≡ done_status → AreTablesTold content files asked
tables-told tell runs_tell tables content files asked is finished =
    let kept = not_refused tell runs_tell content asked finished in
    let next = λ (one : PlannedUseData). ends (tables_job one) in
    let (design, given, on_use) = design_kept tell content asked kept files.chip files.app
    (λ design. use_for files design next) is in
    let (u, named, known, on_plan) = use_kept content asked kept design.app files.name
    (λ u. plan_for files design u next) on_use in
    let (plan, planned, at_end) = plan_kept tell runs_tell content asked finished files.chip
    files.app files.plan design given
    (λ plan. next (record { design = design; plan = plan; use_case = u })) on_plan in
    let one : PlannedUseData = record { design = design; plan = plan; use_case = u } in
    record {
      one = one;
      told = planned;
      use_case = known;
      named = named;
      job_is = sym (same_Some (tables_job one) asked at_end);
      binds = binds-each tables one known;
    }
