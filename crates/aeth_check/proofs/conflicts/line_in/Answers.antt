use Rattle.std.proofs.{Common.◌∙◌, Common.◌+◌, Common.◌∷◌, Common.[], Common.Bool, Common.drop}
use Rattle.std.proofs.{Common.sym, Common.ap, Math.Bool.or-false, lemmas.List.drop_more}
use Rattle.aeth_group.specs.declared.grant.Grant.{Grant}
use Rattle.aeth_check.{specs.Meetings.conflicts, proofs.ConflictLaws.conflicts-sym}
use Rattle.aeth_check.{proofs.MeetingLaws.line_here, proofs.MeetingLaws.line_on}
use Rattle.aeth_check.proofs.conflicts.line_in.Goals as goal

-- This grant conflicts with the one that is held.
pub returns-then-meets_some : goal.returns-then-meets_some
returns-then-meets_some c = λ one held.
    let test : Grant → Bool = conflicts c.args.chip.now.links c.args.groups.now one in
    let other = c.other-item.result in
    line_here test c.args.others.now c.loop-other.other-index other c.loop-other.line _
    (drop_more c.args.others.now c.loop-other.other-index other c.loop-other-test.true
    ∙ ap (λ x. x ∷ drop (c.loop-other.other-index + 1) c.args.others.now) (sym c.other-item.is))
    (c.loop-other.invariant one held)
    (conflicts-sym c.args.chip.now.links c.args.groups.now one other
    ∙ sym (or-false (conflicts c.args.chip.now.links c.args.groups.now other one))
    ∙ sym (c.meets_some.ensures (one ∷ []) held) ∙ c.if-meets_some.true)

-- This one doesn't.
pub loop-other-preserved : goal.loop-other-preserved
loop-other-preserved c = λ one held.
    let test : Grant → Bool = conflicts c.args.chip.now.links c.args.groups.now one in
    let other = c.other-item.result in
    rw c.line_after-line.ensures
    (line_on test c.args.others.now c.loop-other.other-index other c.loop-other.line _
    (drop_more c.args.others.now c.loop-other.other-index other c.loop-other-test.true
    ∙ ap (λ x. x ∷ drop (c.loop-other.other-index + 1) c.args.others.now) (sym c.other-item.is))
    (c.loop-other.invariant one held)
    (conflicts-sym c.args.chip.now.links c.args.groups.now one other
    ∙ sym (or-false (conflicts c.args.chip.now.links c.args.groups.now other one))
    ∙ sym (c.meets_some.ensures (one ∷ []) held) ∙ c.if-meets_some.false))
