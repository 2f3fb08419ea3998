use Rattle.std.proofs.Common.{◌≡◌, map, take}
use Rattle.aeth_audit.specs.Tables.{address_of}
use Rattle.aeth_audit.proofs.table.addresses_of.Given as goal

-- The addresses of the grants so far.
abbrev pub invariant-loop-grant : goal.invariant-loop-grant
invariant-loop-grant l =
    l.addresses.items ≡ map (address_of l.chip l.app l.seats) (take l.grant-index l.grants)
