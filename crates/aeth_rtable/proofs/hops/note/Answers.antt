use Rattle.std.proofs.Common.{◌+◌, ◌*◌, ◌∙◌, Some, not, ap}
use Rattle.std.proofs.lemmas.Option.{slice_get-get_or}
use Rattle.aeth_base.proofs.TestLemmas.{is_some-false, is_some-true}
use Rattle.aeth_rtable.proofs.EntryLaws.{noted-before, noted-more}
use Rattle.aeth_rtable.proofs.hops.note.Goals as goal

-- The hop is noted.
pub returns-then-is_none : goal.returns-then-is_none
returns-then-is_none c = λ hops has.
    let entries = c.args.entries.now in
    let place = c.args.hop.to.0 * c.args.slots + c.args.hop.slot in
    let none = is_some-false _ (c.is_none.ensures ∙ ap not c.if-is_none.true) in
    noted-more c.args.slots hops c.args.hop entries has c.requires.slot c.requires.room
    (slice_get-get_or entries place _ c.requires.room ∙ ap (λ o. Some o) none)

-- Another is noted there.
pub returns-else-is_none : goal.returns-else-is_none
returns-else-is_none c = λ hops has.
    let entries = c.args.entries.now in
    let place = c.args.hop.to.0 * c.args.slots + c.args.hop.slot in
    let (from, is) = is_some-true _ (c.is_none.ensures ∙ ap not c.if-is_none.false) in
    noted-before c.args.slots hops c.args.hop entries has from
    (slice_get-get_or entries place _ c.requires.room ∙ ap (λ o. Some o) is)
