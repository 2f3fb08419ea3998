-- The tables of accepted inputs can be written: switches take a cycle for each write.
use Rattle.std.proofs.Common.{◌≡◌, ◌<◌, ◌&&◌, ◌∙◌, ℕ, Bool, not, List, [], ◌∷◌, filter, map, length}
use Rattle.std.proofs.Common.{slice_get, Some, sym, ap, arith, sum_by}
use Rattle.std.proofs.lemmas.List.Folds.{flat_map-map}
use Rattle.std.specs.List.{flat_map, range_with_len}
use Rattle.aeth_base.specs.declared.ids.Side.TheVariants.{Back, Fwd}
use Rattle.aeth_base.proofs.{Filters.filter-filter, Filters.filter-map, Members.filter-Contains}
use Rattle.aeth_group.specs.Members.{group_at, groups_of, has_at, is_kept}
use Rattle.aeth_group.proofs.MemberLemmas.{length-groups_of}
use Rattle.aeth_ni.specs.{Program.write_count, declared.row.ChannelRow.ChannelRow}
use Rattle.aeth_reconf.specs.{Rows.rows_that, Windows.AreCounted, Windows.AreWritable}
use Rattle.aeth_report.specs.{Channels.channels_with, Sound.IsSound}
use Rattle.aeth_tables.{specs.Granted.Granted, specs.Granted.granted_in, specs.Switching.rows_in}
use Rattle.aeth_tables.{specs.Tables.rows_on, proofs.ListLaws.has_place, proofs.UseLaws.conns_of}
use Rattle.aeth_accepted.specs.Inputs.{AreAccepted, Inputs, design_of, row_at, run_of}
use Rattle.aeth_accepted.proofs.{SoundRuns.AreSpans, TableFlows.row-same}
use Rattle.aeth_routed_sessions.proofs.Carrying.{flat_map-same, map-flat_map}

module _ (inputs : Inputs) (accepted : AreAccepted inputs) where
  -- The rows of the connections of a use case that pass a test are those of their channels.
  rows_passing : (w : ℕ) → w < length inputs.app.uses → (test : ℕ → Bool)
      → rows_in inputs.chip inputs.app (filter (λ (k : Granted). test k.conn.0)
      (granted_in inputs.app (groups_of inputs.app) inputs.plan w))
      ≡ rows_that (groups_of inputs.app) (row_at (design_of inputs))
      (group_at (groups_of inputs.app) w) (λ c. has_at (groups_of inputs.app) w c && test c)
  rows_passing w known test =
      let groups = groups_of inputs.app in
      let row = row_at (design_of inputs) (group_at groups w) in
      let all = granted_in inputs.app groups inputs.plan w in
      let conn : Granted → ℕ = λ k. k.conn.0 in
      let numbers = range_with_len 0 groups.connections in
      let some = filter (λ (k : Granted). test k.conn.0) all in
      let with_two : ℕ → List ChannelRow = λ c. map row (channels_with c) in
      let each : (i : ℕ) (k : Granted) → slice_get some i ≡ Some k
      → rows_on inputs.chip inputs.app k ≡ with_two k.conn.0 =
      λ i k at.
      let is_in = (filter-Contains (λ (g : Granted). test g.conn.0) all k (has_place some i k at)).0 in
      (λ q. row-same inputs accepted (record { 0 = w }) known k is_in Fwd q
      ∷ row-same inputs accepted (record { 0 = w }) known k is_in Back q ∷ []) in
      let conns : map conn some ≡ filter (λ c. has_at groups w c && test c) numbers =
      sym (filter-map test conn all)
      ∙ ap (filter test) (conns_of inputs.chip inputs.app inputs.plan accepted.design w known)
      ∙ filter-filter (has_at groups w) test numbers in
      flat_map-same (rows_on inputs.chip inputs.app) (λ (k : Granted). with_two k.conn.0) some each
      ∙ sym (flat_map-map with_two conn some)
      ∙ ap (flat_map with_two) conns
      ∙ sym (map-flat_map row channels_with (filter (λ c. has_at groups w c && test c) numbers))

  -- So a switch has a cycle for each write.
  counted : AreSpans inputs accepted → AreCounted (groups_of inputs.app) (row_at (design_of inputs))
      (run_of inputs).spans
  counted spans u v known_u known_v =
      let groups = groups_of inputs.app in
      let uses = length-groups_of inputs.app in
      let goes : ℕ → Bool = λ c. not (is_kept groups u v c) in
      let left = rows_passing u (omega (arith, known_u, uses)) goes in
      let entered = rows_passing v (omega (arith, known_v, uses)) goes in
      let closing = ap (λ (rows : List ChannelRow). sum_by write_count rows) left in
      let opening = ap (λ (rows : List ChannelRow). sum_by write_count rows) entered in
      let span = ap (λ (p : ℕ × ℕ). p.1) (spans u v known_u known_v) in
      omega (arith, closing, opening, span)

  pub writable : AreSpans inputs accepted → IsSound (run_of inputs)
      → AreWritable (groups_of inputs.app) (row_at (design_of inputs)) (run_of inputs).spans
      inputs.switches
  writable spans sound =
      record { counted = counted spans; known = sound.known; apart = sound.apart }
