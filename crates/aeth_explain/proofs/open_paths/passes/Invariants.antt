use Rattle.std.proofs.Common.{◌≡◌, drop}
use Rattle.aeth_chip.specs.{Paths.to_of, declared.node.Node.TheVariants.Router}
use Rattle.aeth_paths.specs.Search.{passes}
use Rattle.aeth_explain.proofs.open_paths.passes.Given as goal

-- Whether a link ends there is decided by those that are left.
abbrev pub invariant-loop-i : goal.invariant-loop-i
invariant-loop-i l =
    passes (to_of l.chip.links) (drop l.i l.path) (Router l.fn.router)
    ≡ passes (to_of l.chip.links) l.path (Router l.fn.router)
