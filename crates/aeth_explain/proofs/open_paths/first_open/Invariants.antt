use Rattle.std.proofs.Common.{◌≡◌, None}
use Rattle.aeth_explain.specs.Fronts.{first_so_far}
use Rattle.aeth_explain.proofs.open_paths.first_open.Given as goal

-- Nothing is open over the senders' links so far.
abbrev pub invariant-loop-number : goal.invariant-loop-number
invariant-loop-number l =
    first_so_far l.listed.chip.now l.listed.trial.now l.listed.cuts.now l.number ≡ None
