use Rattle.std.{proofs.Common.◌≡◌, proofs.Common.drop, specs.List.list_any}
use Rattle.aeth_base.specs.declared.ids.NiId.{NiId}
use Rattle.aeth_chip.specs.declared.node.Node.TheVariants.{Ni}
use Rattle.aeth_explain.specs.Cuts.{are_joined}
use Rattle.aeth_explain.proofs.try_judge.TryJudge.leave_sender.Given as goal

-- Whether a sender is one is decided by those that are left.
abbrev pub invariant-loop-i : goal.invariant-loop-i
invariant-loop-i l =
    list_any (λ (ni : NiId). are_joined l.self.chip.links (Ni ni) l.path)
    (drop l.i l.self.trial.from)
    ≡ list_any (λ (ni : NiId). are_joined l.self.chip.links (Ni ni) l.path) l.self.trial.from
