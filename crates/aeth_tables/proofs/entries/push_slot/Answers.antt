use Rattle.std.proofs.Common.{◌∙◌, ap, sym}
use Rattle.std.proofs.lemmas.Bool.{false_from_ne_true, false≢true}
use Rattle.aeth_slots.{specs.SlotSet.has_slot, proofs.TestLemmas.has_slot-Decides}
use Rattle.aeth_tables.specs.{Lines.entry_line, declared.promised.PromisedRow.PromisedRow}
use Rattle.aeth_tables.proofs.TextLaws.{printed-fails, printed-passes}
use Rattle.aeth_tables.proofs.entries.push_slot.Goals.{else-has, then-has+in_ok-push_entry}
use Rattle.aeth_tables.proofs.entries.push_slot.Goals as goal

-- A row that has the slot is printed, and one that hasn't is passed.
pub loop-one-preserved : goal.loop-one-preserved
loop-one-preserved c =
    let slot = c.args.slot in
    let one = c.one-item.result in
    let decides = has_slot-Decides one.row.slots slot in
    elim c.if-has.branch [
      | then-has+in_ok-push_entry w ↦
          printed-passes (λ (p : PromisedRow). has_slot p.row.slots slot)
          (λ (p : PromisedRow). entry_line c.args.name.now slot p.row.queue) c.args.rows.now
          c.loop-one.one-index one c.loop-one.out.items c.if-has.out.items _ c.loop-one-test.true
          c.one-item.is (decides.1 (c.has.ensures.0 w.if-has.true))
          (ap (λ v. v.items) w.out-is ∙ w.in_ok-push_entry.ensures) c.loop-one.invariant
      | else-has w ↦
          printed-fails (λ (p : PromisedRow). has_slot p.row.slots slot)
          (λ (p : PromisedRow). entry_line c.args.name.now slot p.row.queue) c.args.rows.now
          c.loop-one.one-index one c.loop-one.out.items c.if-has.out.items _ c.loop-one-test.true
          c.one-item.is (false_from_ne_true (has_slot one.row.slots slot) (λ has.
          false≢true (sym w.if-has.false ∙ c.has.ensures.1 (decides.0 has))))
          (ap (λ v. v.items) w.out-is) c.loop-one.invariant
    ]
