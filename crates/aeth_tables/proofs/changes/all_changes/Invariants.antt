use Rattle.std.{proofs.Common.◌≡◌, proofs.Common.map, specs.List.range_with_len}
use Rattle.aeth_tables.specs.{Changes.change_of, Granted.granted_in}
use Rattle.aeth_tables.proofs.changes.all_changes.Given as goal

-- The changes of the use cases so far.
abbrev pub invariant-loop-u : goal.invariant-loop-u
invariant-loop-u l = l.all.items
    ≡ map (λ u. map (change_of l.chip) (granted_in l.app l.groups l.plan u)) (range_with_len 0 l.u)
