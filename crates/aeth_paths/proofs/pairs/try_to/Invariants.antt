use Rattle.std.proofs.Common.{◌≡◌, ◌+◌, ◌<◌, ◌≤◌, All, take, sum_by}
use Rattle.aeth_base.specs.declared.ids.NiId.{NiId}
use Rattle.aeth_paths.specs.{Open.allowed_steps, Open.each_once, Pairs.OfferedTo, Pairs.Tries}
use Rattle.aeth_paths.specs.{Walk.costs_of, Walk.path_in, Walk.priced}
use Rattle.aeth_paths.proofs.pairs.try_to.Given as goal

-- The receivers so far were tried.
abbrev pub invariant-loop-i : goal.invariant-loop-i
invariant-loop-i g l = record {
  best : l.best ≡ priced (costs_of l.task) (path_in l.best);
  tries : Tries (costs_of l.task) (path_in l.fn.best) (path_in l.best)
      (OfferedTo l.task.book.now l.task.ask l.crowded l.a (take l.i l.to));
  below : All (λ (n : NiId). n.0 < l.below) (take l.i l.to);
  steps : l.steps ≤ l.fn.steps + sum_by (allowed_steps l.task.chip.now l.task.book.now
      l.task.prices.now l.task.ask l.crowded l.a) (each_once (take l.i l.to));
}
