use Rattle.std.proofs.Common.{◌∙◌, ◌++◌, ◌∷◌, [], Bool, take, sym, ap, arith, ◌||◌}
use Rattle.std.proofs.Math.Bool.{or-false}
use Rattle.std.proofs.lemmas.List.{take_more, Folds.list_any-append}
use Rattle.std.specs.List.{list_any}
use Rattle.aeth_slots.specs.SlotSet.{Slots, has_slot}
use Rattle.aeth_slots.proofs.TestLemmas.{has_slot-where}
use Rattle.aeth_tables.specs.declared.promised.PromisedRow.{PromisedRow}
use Rattle.aeth_tables.proofs.entries.taken_by.Goals as goal

-- The slots of one more row are taken too.
pub loop-one-preserved : goal.loop-one-preserved
loop-one-preserved c =
    let rows = c.args.rows.now in
    let i = c.loop-one.one-index in
    let one = c.one-item.result in
    let taken = c.loop-one.taken in
    let so_far = c.loop-one.invariant in
    let next = take_more rows i one c.loop-one-test.true
    ∙ ap (λ (p : PromisedRow). take i rows ++ p ∷ []) (sym c.one-item.is) in
    record {
      size = ap (λ (s : Slots). s.size) c.join-taken.ensures ∙ so_far.size;
      taken = λ slot below.
          let test = λ (p : PromisedRow). has_slot p.row.slots slot in
          ap (λ (s : Slots). has_slot s slot) c.join-taken.ensures
          ∙ has_slot-where taken.size (λ s. has_slot taken s || has_slot one.row.slots s) slot
          (omega (arith, below, so_far.size))
          ∙ ap (λ (b : Bool). b || has_slot one.row.slots slot) (so_far.taken slot below)
          ∙ sym (ap (list_any test) next ∙ list_any-append test (take i rows) (one ∷ [])
          ∙ ap (λ (b : Bool). list_any test (take i rows) || b) (or-false (test one)));
    }
