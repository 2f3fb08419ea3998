use Rattle.std.proofs.Common.{filter, take, flat_map}
use Rattle.aeth_group.specs.Members.{has_unit}
use Rattle.aeth_rtable.specs.{Entries.Adds, Hops.hops_of}
use Rattle.aeth_rtable.proofs.hops.note_grants.Given as goal

-- The hops of the grants so far are noted.
abbrev pub invariant-loop-grant : goal.invariant-loop-grant
invariant-loop-grant l = Adds l.chip.slots (flat_map (hops_of l.chip.links)
    (filter (λ grant. has_unit l.groups grant.unit l.fn.u.0) (take l.grant-index l.grants)))
    l.fn.entries l.entries
