use Rattle.std.proofs.Common.{◌≡◌, drop}
use Rattle.aeth_chip.specs.declared.node.Node.TheVariants.{Ni}
use Rattle.aeth_explain.specs.Cuts.{are_joined}
use Rattle.aeth_explain.proofs.try_judge.TryJudge.are_joined.Given as goal

-- Whether all are joined is decided by the links that are left.
abbrev pub invariant-loop-i : goal.invariant-loop-i
invariant-loop-i l =
    are_joined l.self.chip.links l.at (drop l.i l.path)
    ≡ are_joined l.self.chip.links (Ni l.fn.ni) l.path
