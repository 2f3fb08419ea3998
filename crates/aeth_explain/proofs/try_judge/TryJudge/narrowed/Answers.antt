use Rattle.std.proofs.Common.{◌≡◌, ◌∙◌, List, ap, get_or, subst}
use Rattle.std.proofs.lemmas.Option.{get_or_from_slice_get}
use Rattle.aeth_slots.specs.SlotSet.{Slots, rotated, without}
use Rattle.aeth_book.specs.{Book.BookData, Free.taken_slots}
use Rattle.aeth_book.proofs.FreeLemmas.{back_by, narrowed-without}
use Rattle.aeth_paths.specs.Trials.{book_of}
use Rattle.aeth_explain.specs.Masks.{IsTryJudge, TryJudgeData}
use Rattle.aeth_explain.proofs.try_judge.TryJudge.narrowed.Goals as goal

-- The taken slots, so far back, are the starts that are lost.
pub returns : goal.returns
returns c =
    let judge : TryJudgeData = c.args.self.now in
    let masks : List Slots = c.self.inside.taken.items in
    let book : BookData = book_of judge.chip judge.groups judge.trial in
    let is : IsTryJudge judge masks =
    subst (λ (j : TryJudgeData). IsTryJudge j masks) c.self.view_is c.self.invariant in
    let l = c.args.link.0 in
    let after = c.args.after in
    let own : Slots = taken_slots book judge.trial.ask.unit l in
    let mask : c.index-taken-at.result ≡ own =
    c.index-taken-at.is ∙ ap (λ ms. get_or ms l c.index-taken-at.result) c.deref-taken.ensures.value
    ∙ get_or_from_slice_get masks l own c.index-taken-at.result (is.taken.each l c.requires.link) in
    c.without.ensures
    ∙ ap (without c.args.set.now) (
    c.rotate.ensures
    ∙ ap (λ s. rotated (back_by after s) c.index-taken-at.result)
    (c.size-size.ensures.size ∙ c.requires.size)
    ∙ ap (rotated (back_by after judge.chip.slots)) mask
    )
    ∙ narrowed-without book judge.trial.ask.unit l after c.args.set.now c.size-size.ensures.set
    c.requires.size
