use Rattle.std.proofs.Common.{◌∙◌, ◌+◌, ◌∷◌, Bool, ap, drop, not, slice_get, sym}
use Rattle.std.proofs.lemmas.List.{drop_more}
use Rattle.aeth_group.specs.declared.grant.Grant.{Grant}
use Rattle.aeth_check.specs.Channels.{fits_path}
use Rattle.aeth_check.proofs.MeetingLaws.{line_here, line_on}
use Rattle.aeth_check.proofs.grants.first_invalid.Goals as goal

-- The line of this grant is the first.
pub returns-then-not-fits_path : goal.returns-then-not-fits_path
returns-then-not-fits_path c =
    let test : Grant → Bool = λ g. not (fits_path c.args.chip.now c.args.app.now c.args.seating.now g
    (slice_get c.args.app.now.connections g.unit.conn.0)) in
    let grant = c.grant-item.result in
    line_here test c.args.grants.now c.loop-grant.grant-index grant c.loop-grant.line _
    (drop_more c.args.grants.now c.loop-grant.grant-index grant c.loop-grant-test.true
    ∙ ap (λ x. x ∷ drop (c.loop-grant.grant-index + 1) c.args.grants.now) (sym c.grant-item.is))
    c.loop-grant.invariant (ap not (sym c.fits_path.ensures ∙ c.if-not-fits_path.true))

-- It is behind this grant.
pub loop-grant-preserved : goal.loop-grant-preserved
loop-grant-preserved c =
    let test : Grant → Bool = λ g. not (fits_path c.args.chip.now c.args.app.now c.args.seating.now g
    (slice_get c.args.app.now.connections g.unit.conn.0)) in
    let grant = c.grant-item.result in
    rw c.line_after-line.ensures
    (line_on test c.args.grants.now c.loop-grant.grant-index grant c.loop-grant.line _
    (drop_more c.args.grants.now c.loop-grant.grant-index grant c.loop-grant-test.true
    ∙ ap (λ x. x ∷ drop (c.loop-grant.grant-index + 1) c.args.grants.now) (sym c.grant-item.is))
    c.loop-grant.invariant (ap not (sym c.fits_path.ensures ∙ c.if-not-fits_path.false)))
