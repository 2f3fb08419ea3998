use Rattle.std.proofs.Common.{◌∙◌, ◌+◌, ◌∷◌, Bool, ap, drop, not, sym}
use Rattle.std.proofs.lemmas.List.{drop_more}
use Rattle.aeth_group.specs.{declared.grant.Grant.Grant, Members.is_member}
use Rattle.aeth_check.proofs.MeetingLaws.{line_here, line_on}
use Rattle.aeth_check.proofs.channels.first_stranger.Goals as goal

-- The line of this grant is the first.
pub returns-then-not-member : goal.returns-then-not-member
returns-then-not-member c =
    let test : Grant → Bool = λ g. not (is_member c.args.groups.now g.unit.group.0 g.unit.conn.0) in
    let grant = c.grant-item.result in
    line_here test c.args.grants.now c.loop-grant.grant-index grant c.loop-grant.line _
    (drop_more c.args.grants.now c.loop-grant.grant-index grant c.loop-grant-test.true
    ∙ ap (λ x. x ∷ drop (c.loop-grant.grant-index + 1) c.args.grants.now) (sym c.grant-item.is))
    c.loop-grant.invariant (ap not (sym c.member.ensures ∙ c.if-not-member.true))

-- It is behind this grant.
pub loop-grant-preserved : goal.loop-grant-preserved
loop-grant-preserved c =
    let test : Grant → Bool = λ g. not (is_member c.args.groups.now g.unit.group.0 g.unit.conn.0) in
    let grant = c.grant-item.result in
    rw c.line_after-line.ensures
    (line_on test c.args.grants.now c.loop-grant.grant-index grant c.loop-grant.line _
    (drop_more c.args.grants.now c.loop-grant.grant-index grant c.loop-grant-test.true
    ∙ ap (λ x. x ∷ drop (c.loop-grant.grant-index + 1) c.args.grants.now) (sym c.grant-item.is))
    c.loop-grant.invariant (ap not (sym c.member.ensures ∙ c.if-not-member.false)))
