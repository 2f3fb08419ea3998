use Rattle.std.{proofs.Common.◌≡◌, proofs.Common.◌-◌, proofs.Common.map, specs.List.range_with_len}
use Rattle.aeth_chip.specs.Index.{crowded_in}
use Rattle.aeth_document.specs.Walks.{walked}
use Rattle.aeth_chip.proofs.ports.crowded_lists.Given as goal

abbrev pub invariant-loop-router : goal.invariant-loop-router
invariant-loop-router l =
    walked l.walk (map (crowded_in l.its) (range_with_len l.router (l.routers - l.router)))
    ≡ walked l.fn.walk (map (crowded_in l.its) (range_with_len 0 l.routers))
