use Rattle.std.proofs.Common.{false}
use Rattle.aeth_explain.specs.{Fronts.lists_so_far, Walks.IsWalked}
use Rattle.aeth_explain.proofs.walks.walk_all.Given as goal

-- No live path is among the lists over the senders' links so far, and their shortest cuts are put down.
abbrev pub invariant-loop-number : goal.invariant-loop-number
invariant-loop-number l =
    IsWalked l.listed.chip.now l.judge.groups l.listed.trial.now
    (lists_so_far l.listed.chip.now l.listed.trial.now l.number) l.fn.cuts false l.cuts
