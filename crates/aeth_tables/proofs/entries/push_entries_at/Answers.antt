use Rattle.std.proofs.Common.{◌≡◌, ◌∙◌, ◌++◌, [], ℕ, false, sym, ap, arith, flat_map, unwrap_or}
use Rattle.std.proofs.Common.{append-nil}
use Rattle.std.proofs.lemmas.Bool.{false_from_ne_true, false≢true}
use Rattle.std.specs.List.{range_with_len}
use Rattle.aeth_plan.specs.Plan.{name_at}
use Rattle.aeth_slots.{specs.SlotSet.has_slot, proofs.TestLemmas.has_slot-Decides}
use Rattle.aeth_text.specs.Spelling.{text_of_lines}
use Rattle.aeth_tables.specs.{Lines.entry_line, TableText.lines_of_slot}
use Rattle.aeth_tables.specs.{declared.promised.PromisedRow.PromisedRow}
use Rattle.aeth_tables.proofs.TextLaws.{lines_more, lines_more_of, printed-none}
use Rattle.aeth_tables.proofs.entries.push_entries_at.Goals.{else-has, then-has+in_ok-push_slot}
use Rattle.aeth_tables.proofs.entries.push_entries_at.Goals as goal

-- The slots of the interface's rows are of the chip's table.
pub push_slot-requires : goal.push_slot-requires
push_slot-requires c = λ k d within.
    let size = c.requires.rows k d within in
    omega (arith, size, c.loop-slot-test.true, c.slots-slot-end.ensures.slots)

-- One more slot, which some rows have or none has.
pub loop-slot-preserved : goal.loop-slot-preserved
loop-slot-preserved c =
    let nis = c.args.chip.now.nis in
    let ni = c.args.ni.0 in
    let own = c.args.own.now in
    let slot = c.loop-slot.slot in
    let taken = c.taken_by-taken.result in
    elim c.if-has.branch [
      | then-has+in_ok-push_slot w ↦
          lines_more_of lines_of_slot (name_at nis ni) w.as_bytes.result.now own own slot
          c.args.out.now.items c.loop-slot.out.items c.if-has.out.items
          (w.as_bytes.ensures.bytes ∙ sym (ap (λ o. unwrap_or o []) c.ni_name-name.ensures))
          (λ i. own) c.loop-slot.invariant
          (ap (λ v. v.items) w.out-is ∙ w.in_ok-push_slot.ensures)
      | else-has w ↦
          let test = λ (p : PromisedRow). has_slot p.row.slots slot in
          let free : has_slot taken slot ≡ false =
          false_from_ne_true (has_slot taken slot) (λ is. false≢true (sym w.if-has.false
          ∙ c.has.ensures.1 ((has_slot-Decides taken slot).0 is))) in
          let none = sym (c.taken_by-taken.ensures.taken slot
          (omega (arith, c.loop-slot-test.true, c.slots-slot-end.ensures.slots, c.slots.ensures.slots)))
          ∙ free in
          lines_more (lines_of_slot (name_at nis ni) own) slot
          c.args.out.now.items c.loop-slot.out.items c.if-has.out.items c.loop-slot.invariant
          (ap (λ v. v.items) w.out-is ∙ sym (append-nil c.loop-slot.out.items)
          ∙ ap (λ text. c.loop-slot.out.items ++ text) (sym (printed-none test
          (λ (p : PromisedRow). entry_line (name_at nis ni) slot p.row.queue) own none)))
    ]

-- All slots were seen.
pub returns : goal.returns
returns c =
    c.loop-slot.invariant
    ∙ ap (λ (n : ℕ). c.args.out.now.items ++ text_of_lines (flat_map
    (lines_of_slot (name_at c.args.chip.now.nis c.args.ni.0) c.args.own.now) (range_with_len 0 n)))
    (omega (arith, c.slots-slot-end.ensures.slots, c.loop-slot-test.false))
