use Rattle.std.{proofs.Common.◌≡◌, proofs.Common.nat_lt, specs.List.list_all}
use Rattle.aeth_plan.proofs.starts.set_is_below.Given as goal

-- All are below the size exactly where those that are left are.
abbrev pub invariant-loop-start : goal.invariant-loop-start
invariant-loop-start l =
    list_all (λ start. nat_lt start l.size) l.start-iterator
    ≡ list_all (λ start. nat_lt start l.size) l.set.slots
