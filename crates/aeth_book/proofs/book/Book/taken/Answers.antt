use Rattle.std.proofs.Common.{◌∙◌, ◌≤◌, List, get_or, [], length, sym, ap, arith, subst, ◌<◌}
use Rattle.std.proofs.Common.{take_all}
use Rattle.aeth_group.{specs.Members.has_unit, specs.Rows.uses_of, proofs.RowLemmas.uses_of-below}
use Rattle.aeth_slots.specs.SlotSet.{joined}
use Rattle.aeth_book.specs.Book.{BookData}
use Rattle.aeth_book.proofs.UseLemmas.{joined_by, joined_by-all, joined_by-more, joined_by-none}
use Rattle.aeth_book.proofs.UseLemmas.{joined_by-same}
use Rattle.aeth_book.proofs.book.Book.taken.Goals.{then-has, else-has}
use Rattle.aeth_book.proofs.book.Book.taken.Goals as goal

-- No use case occupies nothing.
pub loop-u-init : goal.loop-u-init
loop-u-init c =
    c.empty-taken.ensures
    ∙ ap (λ (b : BookData). record { size = b.size; slots = [] }) c.self.view_is
    ∙ joined_by-none c.args.self.now c.args.unit c.args.link.0

-- The use case is there.
pub mask-requires-clause-u : goal.mask-requires-clause-u
mask-requires-clause-u c =
    let row = c.uses_of-u-items.ensures ∙ ap (λ (b : BookData). uses_of b.groups c.args.unit.group.0) c.self.view_is in
    rw row (uses_of-below c.args.self.now.groups c.args.unit.group.0 c.loop-u.u-index
    (subst (λ (us : List _). c.loop-u.u-index < length us) row c.loop-u-test.true))

-- One more use case.
pub loop-u-preserved : goal.loop-u-preserved
loop-u-preserved c =
    let book = c.args.self.now in
    let unit = c.args.unit in
    let row = c.uses_of-u-items.result.now in
    let u = get_or row c.loop-u.u-index 0 in
    let same = c.has_unit-has.ensures
    ∙ ap (λ (b : BookData). has_unit b.groups unit u) c.self.view_is in
    elim c.if-has.branch [
      | then-has w ↦
          w.taken-is ∙ w.join-taken.ensures ∙ ap (λ s. joined s w.mask.result) c.loop-u.invariant
          ∙ ap (joined _) w.mask.ensures
          ∙ joined_by-more book unit c.args.link.0 row c.loop-u.u-index c.loop-u-test.true
          (sym same ∙ w.if-has.true)
      | else-has w ↦
          w.taken-is ∙ c.loop-u.invariant
          ∙ joined_by-same book unit c.args.link.0 row c.loop-u.u-index c.loop-u-test.true
          (sym same ∙ w.if-has.false)
    ]

-- All of them occupy what is taken.
pub returns : goal.returns
returns c =
    let row = c.uses_of-u-items.result.now in
    let end : length row ≤ c.loop-u.u-index = omega (arith, c.loop-u-test.false) in
    c.loop-u.invariant
    ∙ ap (joined_by c.args.self.now c.args.unit c.args.link.0)
    (take_all c.loop-u.u-index row end ∙ c.uses_of-u-items.ensures
    ∙ ap (λ (b : BookData). uses_of b.groups c.args.unit.group.0) c.self.view_is)
    ∙ joined_by-all c.args.self.now c.args.unit c.args.link.0
