use Rattle.std.proofs.Common.{◌≡◌, drop, not, slice_get}
use Rattle.aeth_check.specs.{Firsts.first_line, Channels.fits_path}
use Rattle.aeth_check.proofs.grants.first_invalid.Given as goal

-- The first invalid path is among those that are left.
abbrev pub invariant-loop-grant : goal.invariant-loop-grant
invariant-loop-grant l =
    first_line (λ grant. not (fits_path l.chip l.app l.seating grant
    (slice_get l.app.connections grant.unit.conn.0))) l.line (drop l.grant-index l.grants)
    ≡ first_line (λ grant. not (fits_path l.chip l.app l.seating grant
    (slice_get l.app.connections grant.unit.conn.0))) l.first l.grants
