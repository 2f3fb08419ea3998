-- The writes of a switch are made in the cycles of the windows.
use Rattle.std.proofs.Common.{◌≡◌, ◌<◌, ◌∙◌, ◌+◌, ◌++◌, ℕ, suc, List, [], ◌∷◌, Some, ap, length}
use Rattle.std.proofs.Common.{map, slice_get, arith}
use Rattle.std.proofs.lemmas.{List.length-map, Option.slice_get_within}
use Rattle.std.specs.List.{flat_map}
use Rattle.aeth_base.{specs.declared.ids.Channel.Channel, proofs.Lists.map-at}
use Rattle.aeth_group.specs.Members.{GroupsData, group_at}
use Rattle.aeth_ni.specs.Program.{closing_writes, opening_writes, write_count}
use Rattle.aeth_ni.specs.declared.write.Write.{Write}
use Rattle.aeth_ni.specs.declared.write.Write.TheVariants.{ClearRoute, ClearSlot, SetSlot}
use Rattle.aeth_ni.proofs.ProgramLemmas.{length-closing_writes, length-opening_writes}
use Rattle.aeth_trace.specs.Spans.{SpanData}
use Rattle.aeth_report.specs.Sessions.{Switch, closes, opens}
use Rattle.aeth_reconf.specs.Rows.{RowOf, channels_that, rows_closing, rows_opening, switch_program}
use Rattle.aeth_reconf.specs.Windows.{IsClosed, IsOpened, cleared_of, clears_from, closing_ahead}
use Rattle.aeth_reconf.specs.Windows.{freed_of, opening_ahead, set_of, set_route, slot_set_of}
use Rattle.aeth_reconf.proofs.WindowLemmas.{channels_that-has}
use Rattle.aeth_reconf.proofs.WriteCounts.{ahead_of-within, before, behind, length-writes, write_at}

module _ (groups : GroupsData) (row_of : RowOf) (spans : SpanData) (switch : Switch)
    (channel : Channel) where
  abbrev left : ℕ
  left = group_at groups switch.leaves

  abbrev entered : ℕ
  entered = group_at groups switch.row.to.0

  abbrev program : List Write
  program = switch_program groups row_of switch.leaves switch.row.to.0

  -- ---- a channel that closes

  -- The i-th of its writes.
  closing_at : IsClosed groups switch channel → (i k : ℕ) → i < write_count (row_of left channel)
      → clears_from spans switch + k ≡ cleared_of groups row_of spans channel switch i
      → slice_get program k ≡ slice_get (closing_writes (row_of left channel)) i
  closing_at closed i k within time =
      let u = switch.leaves in
      let v = switch.row.to.0 in
      let test = closes groups u v in
      let rows = rows_closing groups row_of u v in
      let closing = flat_map closing_writes rows in
      let opening = flat_map opening_writes (rows_opening groups row_of u v) in
      let has = channels_that-has groups test channel closed.known closed.is in
      let channels = channels_that groups test in
      let fits = ahead_of-within row_of left channels channel has in
      let all = length-writes row_of left closing_writes length-closing_writes rows in
      let ahead = closing_ahead groups row_of switch channel in
      let place : k ≡ ahead + i = omega arith in
      ap (λ n. slice_get (closing ++ opening) n) place
      ∙ before closing opening (ahead + i) (omega arith)
      ∙ write_at row_of left closing_writes length-closing_writes channels channel has i within

  -- That of a slot.
  pub clear_at : IsClosed groups switch channel → (place slot k : ℕ)
      → slice_get (row_of left channel).slots.slots place ≡ Some slot
      → clears_from spans switch + k ≡ cleared_of groups row_of spans channel switch place
      → slice_get program k ≡ Some (ClearSlot (row_of left channel).ni slot)
  clear_at closed place slot k at time =
      let row = row_of left channel in
      let clear = λ (s : ℕ). ClearSlot row.ni s in
      let inside = slice_get_within row.slots.slots place slot at in
      let same = length-map row.slots.slots clear in
      closing_at closed place k (omega arith) time
      ∙ before (map clear row.slots.slots) (ClearRoute row.ni row.queue ∷ []) place (omega arith)
      ∙ map-at clear row.slots.slots place slot at

  -- That of its route.
  pub free_at : IsClosed groups switch channel → (k : ℕ)
      → clears_from spans switch + k ≡ freed_of groups row_of spans left channel switch
      → slice_get program k
      ≡ Some (ClearRoute (row_of left channel).ni (row_of left channel).queue)
  free_at closed k time =
      let row = row_of left channel in
      let clear = λ (s : ℕ). ClearSlot row.ni s in
      let last = ClearRoute row.ni row.queue ∷ [] in
      let same = length-map row.slots.slots clear in
      let place : length row.slots.slots ≡ length (map clear row.slots.slots) + 0 = omega arith in
      closing_at closed (length row.slots.slots) k (omega arith) time
      ∙ ap (λ n. slice_get (map clear row.slots.slots ++ last) n) place
      ∙ behind (map clear row.slots.slots) last 0

  -- ---- a channel that opens

  -- The i-th of its writes.
  opening_at : IsOpened groups switch channel → (i k : ℕ)
      → i < write_count (row_of entered channel)
      → clears_from spans switch + k ≡ set_of groups row_of spans channel (Some switch) + i
      → slice_get program k ≡ slice_get (opening_writes (row_of entered channel)) i
  opening_at opened i k within time =
      let u = switch.leaves in
      let v = switch.row.to.0 in
      let test = opens groups u v in
      let rows = rows_closing groups row_of u v in
      let closing = flat_map closing_writes rows in
      let opening = flat_map opening_writes (rows_opening groups row_of u v) in
      let has = channels_that-has groups test channel opened.known opened.is in
      let channels = channels_that groups test in
      let ahead = opening_ahead groups row_of switch channel in
      let all = length-writes row_of left closing_writes length-closing_writes rows in
      let place : k ≡ length closing + (ahead + i) = omega arith in
      ap (λ n. slice_get (closing ++ opening) n) place ∙ behind closing opening (ahead + i)
      ∙ write_at row_of entered opening_writes length-opening_writes channels channel has i within

  -- That of its route.
  pub route_at : IsOpened groups switch channel → (k : ℕ)
      → clears_from spans switch + k ≡ set_of groups row_of spans channel (Some switch)
      → slice_get program k ≡ Some (set_route (row_of entered channel))
  route_at opened k time = opening_at opened 0 k (omega arith) (omega arith)

  -- That of a slot.
  pub slot_at : IsOpened groups switch channel → (place slot k : ℕ)
      → slice_get (row_of entered channel).slots.slots place ≡ Some slot
      → clears_from spans switch + k ≡ slot_set_of groups row_of spans channel (Some switch) place
      → slice_get program k
      ≡ Some (SetSlot (row_of entered channel).ni slot (row_of entered channel).queue)
  slot_at opened place slot k at time =
      let row = row_of entered channel in
      let inside = slice_get_within row.slots.slots place slot at in
      opening_at opened (suc place) k (omega arith) (omega arith)
      ∙ map-at (λ (s : ℕ). SetSlot row.ni s row.queue) row.slots.slots place slot at
