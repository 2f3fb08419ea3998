use Rattle.std.proofs.Common.{◌≡◌, drop, max}
use Rattle.aeth_tables.specs.Changes.{lag_in, made}
use Rattle.aeth_tables.proofs.switching.lag_in.Given as goal

-- The greatest lag is the one so far or of a change that is left.
abbrev pub invariant-loop-change : goal.invariant-loop-change
invariant-loop-change l =
    max l.lag (lag_in (made l.groups l.u.0 l.v.0 (drop l.change-index l.changes)))
    ≡ lag_in (made l.groups l.u.0 l.v.0 l.changes)
