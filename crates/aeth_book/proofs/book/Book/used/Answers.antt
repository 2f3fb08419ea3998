use Rattle.std.proofs.Common.{◌∙◌, ◌≤◌, ◌<◌, List, get_or, length, max, sym, ap, arith, subst}
use Rattle.std.proofs.Common.{take_all}
use Rattle.aeth_group.{specs.Members.has_unit, specs.Rows.uses_of, proofs.RowLemmas.uses_of-below}
use Rattle.aeth_slots.specs.SlotSet.{Slots}
use Rattle.aeth_book.specs.Book.{BookData}
use Rattle.aeth_book.proofs.UseLemmas.{used_slots-within, used_by, used_by-all, used_by-more}
use Rattle.aeth_book.proofs.UseLemmas.{used_by-same}
use Rattle.aeth_book.proofs.book.Book.used.Goals.{then-has_unit, else-has_unit}
use Rattle.aeth_base.proofs.ExtremeLemmas.{ord_max-nat}
use Rattle.aeth_book.proofs.book.Book.used.Goals as goal

-- The use case is there.
pub mask-requires-clause-u : goal.mask-requires-clause-u
mask-requires-clause-u c =
    let row = c.uses_of-u-items.ensures ∙ ap (λ (b : BookData). uses_of b.groups c.args.unit.group.0) c.self.view_is in
    rw row (uses_of-below c.args.self.now.groups c.args.unit.group.0 c.loop-u.u-index
    (subst (λ (us : List _). c.loop-u.u-index < length us) row c.loop-u-test.true))

-- One more use case.
pub loop-u-preserved : goal.loop-u-preserved
loop-u-preserved c =
    let book = c.args.self.now in
    let unit = c.args.unit in
    let row = c.uses_of-u-items.result.now in
    let u = get_or row c.loop-u.u-index 0 in
    let same = c.has_unit.ensures
    ∙ ap (λ (b : BookData). has_unit b.groups unit u) c.self.view_is in
    elim c.if-has_unit.branch [
      | then-has_unit w ↦
          w.most-is ∙ w.max-most.ensures ∙ ord_max-nat c.loop-u.most w.count.result
          ∙ ap (λ n. max n w.count.result) c.loop-u.invariant
          ∙ ap (max _) (w.count.ensures.count ∙ ap (λ (s : Slots). length s.slots) w.mask.ensures)
          ∙ sym (used_by-more book unit c.args.link.0 row c.loop-u.u-index c.loop-u-test.true
          (sym same ∙ w.if-has_unit.true))
      | else-has_unit w ↦
          w.most-is ∙ c.loop-u.invariant
          ∙ used_by-same book unit c.args.link.0 row c.loop-u.u-index c.loop-u-test.true
          (sym same ∙ w.if-has_unit.false)
    ]

-- The greatest number of all.
pub returns-clause-used : goal.returns-clause-used
returns-clause-used c =
    let row = c.uses_of-u-items.result.now in
    let end : length row ≤ c.loop-u.u-index = omega (arith, c.loop-u-test.false) in
    c.loop-u.invariant
    ∙ ap (used_by c.args.self.now c.args.unit c.args.link.0)
    (take_all c.loop-u.u-index row end ∙ c.uses_of-u-items.ensures
    ∙ ap (λ (b : BookData). uses_of b.groups c.args.unit.group.0) c.self.view_is)
    ∙ used_by-all c.args.self.now c.args.unit c.args.link.0

-- Which is within the table.
pub returns-clause-within : goal.returns-clause-within
returns-clause-within c =
    omega (
      arith,
      returns-clause-used c,
      used_slots-within c.args.self.now c.args.unit c.args.link.0,
    )
