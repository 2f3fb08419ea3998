-- The events of a switch come in order, and no two of one cycle change one queue or write one slot.
use Rattle.std.proofs.Common.{◌≡◌, ◌≤◌, ◌<◌, ◌∙◌, ◌+◌, ◌++◌, ℕ, List, [], ◌∷◌, Contains, Some, ap}
use Rattle.std.proofs.Common.{arith, inl, inr, length, map, slice_get, subst, sym, sum_by}
use Rattle.std.proofs.Common.{length-append}
use Rattle.std.proofs.lemmas.{List.Concat.flat_map-cons, List.Elements.Contains-append_cases}
use Rattle.std.proofs.lemmas.{List.Sums.sum_by-cons, Option.same_Some, Option.slice_get_within}
use Rattle.std.specs.List.{AllPairs, flat_map}
use Rattle.aeth_base.specs.declared.ids.NiId.{NiId}
use Rattle.aeth_base.proofs.Members.{Contains-here, Contains-nil, map-Contains}
use Rattle.aeth_group.specs.Members.{GroupsData}
use Rattle.aeth_ni.specs.Program.{closing_writes, opening_writes, program_of, write_count}
use Rattle.aeth_ni.specs.declared.row.ChannelRow.{ChannelRow}
use Rattle.aeth_ni.specs.declared.write.Write.{Write, TheVariants.ClearRoute, TheVariants.ClearSlot}
use Rattle.aeth_ni.proofs.ProgramLemmas.{length-closing_writes, length-opening_writes}
use Rattle.aeth_trace.specs.Spans.{SpanData, span_of}
use Rattle.aeth_report.specs.Sessions.{Switch, close_by, go_by}
use Rattle.aeth_reconf.specs.Rows.{RowOf, rows_closing, rows_opening}
use Rattle.aeth_reconf.proofs.WriteCounts.{length-writes}
use Rattle.aeth_components.specs.Switching.{Touches, Writes}
use Rattle.aeth_components.specs.declared.event.Event.{Event}
use Rattle.aeth_components.specs.declared.event.Event.TheVariants.{Change, Finish, Halt}
use Rattle.aeth_components.specs.declared.channel_state.ChannelEnd.{ChannelEnd}
use Rattle.aeth_schedule.specs.{Lines.end_of, Timed.events_with, Timed.finishes_at, Timed.halts_at}
use Rattle.aeth_schedule.specs.{Timed.writes_from, declared.timed.Timed.Timed}
use Rattle.aeth_stimuli.proofs.Pairs.{pairs-append, pairs-cons, pairs-map, pairs-none}
use Rattle.aeth_stimuli.proofs.SwitchEvents.{IsWriteAt, IsChange, IsFinish, IsHalt, event-by}
use Rattle.aeth_stimuli.proofs.SwitchEvents.{write-of}

-- Two events change no queue in common, and write no slot in common.
pub record ArePlacedApart (one other : Event) : Type 0 where
  pub queues : (ni queue : ℕ) → Touches one ni queue → Touches other ni queue → ⊥
  pub slots : (ni slot : ℕ) → Writes one ni slot → Writes other ni slot → ⊥

-- An event comes no later than another, and is apart from it in one cycle.
pub record Precedes (one other : Timed) : Type 0 where
  pub order : one.cycle ≤ other.cycle
  pub apart : one.cycle ≡ other.cycle → ArePlacedApart one.event other.event

-- An earlier one does.
pub precedes-early : (one other : Timed) → one.cycle < other.cycle → Precedes one other
precedes-early one other early = record {
  order = omega (arith, early);
  apart = λ same. absurd (omega (arith, early, same));
}

-- So do writes, one in each cycle.
writes-precede : (cycle : ℕ) (writes : List Write) → AllPairs Precedes (writes_from cycle writes)
writes-precede cycle [] = pairs-none Precedes
writes-precede cycle (first ∷ writes) =
    let here : Timed = record { cycle = cycle; event = Change first } in
    pairs-cons Precedes here (writes_from (cycle + 1) writes) (λ other has.
    let time = (write-of (cycle + 1) writes other has).cycle_is in
    precedes-early here other (omega (arith, time))) (writes-precede (cycle + 1) writes)

-- Two rows have not one queue.
abbrev pub HaveOwn : ChannelRow → ChannelRow → Type 0
HaveOwn one other = one.ni.0 ≡ other.ni.0 → one.queue ≡ other.queue → ⊥

-- So an event at the end of the one changes no queue of the other.
ends-apart : (one other : ChannelRow) → HaveOwn one other → (a b : ChannelEnd) (ni queue : ℕ)
    → end_of one ≡ a → end_of other ≡ b → a.ni.0 ≡ ni → a.queue ≡ queue → b.ni.0 ≡ ni
    → b.queue ≡ queue → ⊥
ends-apart one other own a b ni queue first second at_ni at_queue too_ni too_queue =
    own (ap (λ (end : ChannelEnd). end.ni.0) first ∙ at_ni ∙ sym too_ni
    ∙ sym (ap (λ (end : ChannelEnd). end.ni.0) second))
    (ap (λ (end : ChannelEnd). end.queue) first ∙ at_queue ∙ sym too_queue
    ∙ sym (ap (λ (end : ChannelEnd). end.queue) second))

halts-apart : (one other : ChannelRow) → HaveOwn one other
    → ArePlacedApart (Halt (end_of one)) (Halt (end_of other))
halts-apart one other own = record {
  queues = λ ni queue a b. ends-apart one other own a.end b.end ni queue
      (same_Some (end_of one) a.end a.is) (same_Some (end_of other) b.end b.is) a.at_ni a.at_queue
      b.at_ni b.at_queue;
  slots = λ ni slot a b. absurd (cc a.is);
}

finishes-apart : (one other : ChannelRow) → HaveOwn one other
    → ArePlacedApart (Finish (end_of one)) (Finish (end_of other))
finishes-apart one other own = record {
  queues = λ ni queue a b. ends-apart one other own a.end b.end ni queue
      (same_Some (end_of one) a.end a.is) (same_Some (end_of other) b.end b.is) a.at_ni a.at_queue
      b.at_ni b.at_queue;
  slots = λ ni slot a b. absurd (cc a.is);
}

-- A finish is apart from a write that clears a slot.
clears-apart : (end : ChannelEnd) (ni : NiId) (slot : ℕ)
    → ArePlacedApart (Finish end) (Change (ClearSlot ni slot))
clears-apart end ni slot = record {
  queues = λ n queue a b. absurd (cc b.is);
  slots = λ n s a b. absurd (cc a.is);
}

-- ---- the first write

-- A write clears a slot.
record IsClear (write : Write) : Type 0 where
  ni : NiId
  slot : ℕ
  is : ClearSlot ni slot ≡ write

-- So a finish is apart from it.
clear-apart : (end : ChannelEnd) (one other : Event) (write : Write) → IsClear write
    → Finish end ≡ one → other ≡ Change write → ArePlacedApart one other
clear-apart end one other write clear first second =
    subst (λ (e : Event). ArePlacedApart one e) (ap (λ (w : Write). Change w) clear.is ∙ sym second)
    (subst (λ (e : Event). ArePlacedApart e (Change (ClearSlot clear.ni clear.slot))) first
    (clears-apart end clear.ni clear.slot))

-- The first of rows that close does, where each has a slot.
first-clears : (closing opening : List ChannelRow) (row : ChannelRow) (write : Write)
    → Contains closing row
    → ((one : ChannelRow) → Contains closing one → 0 < length one.slots.slots)
    → (k : ℕ) → k ≡ 0 → slice_get (program_of closing opening) k ≡ Some write → IsClear write
first-clears [] opening row write has slots k start at = Contains-nil has
first-clears (first ∷ closing) opening row write has slots k start at =
    let rest = flat_map closing_writes closing in
    let all = flat_map opening_writes opening in
    let last = ClearRoute first.ni first.queue ∷ [] in
    let cases : (own : List ℕ) → 0 < length own
    → slice_get (((map (λ slot. ClearSlot first.ni slot) own ++ last) ++ rest) ++ all) 0
    ≡ Some write → IsClear write = elim [
      | [] ↦ λ some is. absurd (omega (arith, some))
      | slot ∷ own ↦ λ some is. record {
        ni = first.ni;
        slot = slot;
        is = same_Some (ClearSlot first.ni slot) write is;
      }
    ] in
    cases first.slots.slots (slots first (Contains-here first closing))
    (ap (λ (writes : List Write). slice_get (writes ++ all) 0)
    (sym (flat_map-cons closing_writes first closing))
    ∙ ap (slice_get (program_of (first ∷ closing) opening)) (sym start) ∙ at)

-- Where a row closes there is a write.
some-writes : (closing : List ChannelRow) (row : ChannelRow) → Contains closing row
    → 1 ≤ sum_by write_count closing
some-writes [] row has = Contains-nil has
some-writes (first ∷ closing) row has =
    let sum = sum_by-cons write_count first closing in omega (arith, sum)

-- ---- the events of a switch

module _ (groups : GroupsData) (row_of : RowOf) (spans : SpanData) (switch : Switch) where
  abbrev closing : List ChannelRow
  closing = rows_closing groups row_of switch.leaves switch.row.to.0

  abbrev opening : List ChannelRow
  opening = rows_opening groups row_of switch.leaves switch.row.to.0

  -- The events of a switch between use cases with these rows.
  abbrev pub events_over : List Timed
  events_over = events_with (close_by spans switch)
      (rows_closing groups row_of switch.leaves switch.row.to.0)
      (rows_opening groups row_of switch.leaves switch.row.to.0)

  -- What a switch needs for that: a cycle for each write; a lag where channels close, of which each
  -- has a slot and a queue of its own.
  pub record IsFit : Type 0 where
    pub counted : sum_by write_count (rows_closing groups row_of switch.leaves switch.row.to.0)
        + sum_by write_count (rows_opening groups row_of switch.leaves switch.row.to.0)
        ≤ (span_of spans switch.leaves switch.row.to.0).1
    pub lag : (row : ChannelRow)
        → Contains (rows_closing groups row_of switch.leaves switch.row.to.0) row
        → 1 ≤ (span_of spans switch.leaves switch.row.to.0).0
    pub slots : (row : ChannelRow)
        → Contains (rows_closing groups row_of switch.leaves switch.row.to.0) row
        → 0 < length row.slots.slots
    pub queues : AllPairs HaveOwn (rows_closing groups row_of switch.leaves switch.row.to.0)

  -- There are as many writes as is told.
  program-counted : length (program_of closing opening)
      ≡ sum_by write_count closing + sum_by write_count opening
  program-counted =
      let closed = length-writes row_of 0 closing_writes length-closing_writes closing in
      let opened = length-writes row_of 0 opening_writes length-opening_writes opening in
      let both = length-append (flat_map closing_writes closing) (flat_map opening_writes opening) in
      omega (arith, closed, opened, both)

  -- The events of a switch are from its stop on, and before what it opens goes.
  pub record IsWhile (one : Timed) : Type 0 where
    pub first : (close_by spans switch).stop ≤ one.cycle
    pub last : one.cycle < go_by spans switch

  pub event-while : IsFit → (one : Timed) → Contains events_over one → IsWhile one
  event-while fit one has =
      let counted = fit.counted in
      elim (event-by (close_by spans switch) closing opening one has) [
        | IsHalt row is_in time event ↦
            let some = some-writes closing row is_in in
            record { first = omega (arith, time); last = omega (arith, time, some, counted) }
        | IsFinish row is_in time event ↦
            let some = some-writes closing row is_in in
            record { first = omega (arith, time); last = omega (arith, time, some, counted) }
        | IsChange change ↦
            let time = change.cycle_is in
            let inside = slice_get_within (program_of closing opening) change.k change.write change.at in
            let all = program-counted in
            record {
              first = omega (arith, time);
              last = omega (arith, time, inside, all, counted);
            }
      ]

  -- A finish comes no later than a write; in one cycle this is the first, which clears a slot.
  finish-precedes : IsFit → (row : ChannelRow)
      → Contains (rows_closing groups row_of switch.leaves switch.row.to.0) row → (one other : Timed)
      → (close_by spans switch).fin ≡ one.cycle → Finish (end_of row) ≡ one.event
      → IsWriteAt (close_by spans switch).fin
      (program_of (rows_closing groups row_of switch.leaves switch.row.to.0)
      (rows_opening groups row_of switch.leaves switch.row.to.0)) other
      → Precedes one other
  finish-precedes fit row is_in one other finished event change =
      let time = change.cycle_is in
      record {
        order = omega (arith, finished, time);
        apart = λ at_once. clear-apart (end_of row) one.event other.event change.write
            (first-clears closing opening row change.write is_in fit.slots change.k
            (omega (arith, finished, time, at_once)) change.at) event change.event_is;
      }

  -- A halt comes before all finishes and writes.
  halt-precedes : IsFit → (row : ChannelRow)
      → Contains (rows_closing groups row_of switch.leaves switch.row.to.0) row → (one other : Timed)
      → (close_by spans switch).stop ≡ one.cycle → (close_by spans switch).fin ≤ other.cycle
      → Precedes one other
  halt-precedes fit row is_in one other halted behind =
      let lag = fit.lag row is_in in precedes-early one other (omega (arith, halted, lag, behind))

  -- They come in order, and in one cycle they are apart.
  pub events-precede : IsFit → AllPairs Precedes events_over
  events-precede fit =
      let close = close_by spans switch in
      let program = program_of closing opening in
      let writes = writes_from close.fin program in
      let ends = finishes_at close.fin closing in
      let halt = λ (row : ChannelRow).
      let timed : Timed = record { cycle = close.stop; event = Halt (end_of row) } in timed in
      let finish = λ (row : ChannelRow).
      let timed : Timed = record { cycle = close.fin; event = Finish (end_of row) } in timed in
      let halts = pairs-map halt HaveOwn Precedes closing (λ a b has_a has_b own. record {
        order = omega arith;
        apart = λ same. halts-apart a b own;
      }) fit.queues in
      let finishes = pairs-map finish HaveOwn Precedes closing (λ a b has_a has_b own. record {
        order = omega arith;
        apart = λ same. finishes-apart a b own;
      }) fit.queues in
      let then_writes = pairs-append Precedes ends writes finishes (writes-precede close.fin program)
      (λ one other has_one has_other.
      let (row, same, is_in) = map-Contains finish closing one has_one in
      finish-precedes fit row is_in one other (ap (λ (x : Timed). x.cycle) same)
      (ap (λ (x : Timed). x.event) same) (write-of close.fin program other has_other)) in
      pairs-append Precedes (halts_at close.stop closing) (ends ++ writes) halts then_writes
      (λ one other has_one has_other.
      let (row, same, is_in) = map-Contains halt closing one has_one in
      let behind : close.fin ≤ other.cycle =
      elim (Contains-append_cases ends writes other has_other) [
        | inl second ↦
            let (again, too, inside) = map-Contains finish closing other second in
            let finished : close.fin ≡ other.cycle = ap (λ (x : Timed). x.cycle) too in
            omega (arith, finished)
        | inr third ↦
            let time = (write-of close.fin program other third).cycle_is in omega (arith, time)
      ] in
      halt-precedes fit row is_in one other (ap (λ (x : Timed). x.cycle) same) behind)
