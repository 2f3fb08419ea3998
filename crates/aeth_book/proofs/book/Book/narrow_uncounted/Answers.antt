use Rattle.std.proofs.Common.{◌∙◌, ap}
use Rattle.aeth_slots.specs.SlotSet.{rotated, without}
use Rattle.aeth_book.proofs.FreeLemmas.{back_by, narrowed-without}
use Rattle.aeth_book.proofs.book.Book.narrow_uncounted.Goals as goal

-- The taken slots, so far back, are the starts that are lost.
pub returns : goal.returns
returns c =
    let offset = c.args.offset in
    let size = c.size-size.ensures in
    c.without.ensures
    ∙ ap (without c.args.set.now) (
    c.rotate.ensures
    ∙ ap (λ s. rotated (back_by offset s) c.taken.result) (size.size ∙ c.requires.size)
    ∙ ap (rotated (back_by offset c.args.self.now.size)) c.taken.ensures
    )
    ∙ narrowed-without c.args.self.now c.args.unit c.args.link.0 offset c.args.set.now size.set
    c.requires.size
