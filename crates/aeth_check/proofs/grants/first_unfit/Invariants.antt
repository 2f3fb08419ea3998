use Rattle.std.proofs.Common.{◌≡◌, drop, not, slice_get}
use Rattle.aeth_check.specs.{Firsts.first_line, Channels.fits_slots}
use Rattle.aeth_check.proofs.grants.first_unfit.Given as goal

-- The first unfit slots are among those that are left.
abbrev pub invariant-loop-grant : goal.invariant-loop-grant
invariant-loop-grant l =
    first_line (λ grant. not (fits_slots l.chip l.app grant
    (slice_get l.app.connections grant.unit.conn.0))) l.line (drop l.grant-index l.grants)
    ≡ first_line (λ grant. not (fits_slots l.chip l.app grant
    (slice_get l.app.connections grant.unit.conn.0))) l.first l.grants
