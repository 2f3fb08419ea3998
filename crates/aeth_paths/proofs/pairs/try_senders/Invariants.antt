use Rattle.std.proofs.Common.{◌≡◌, ◌+◌, ◌<◌, ◌≤◌, All, None, take}
use Rattle.aeth_base.specs.declared.ids.NiId.{NiId}
use Rattle.aeth_paths.specs.{Open.all_steps, Pairs.OfferedFrom, Pairs.Tries, Walk.costs_of}
use Rattle.aeth_paths.specs.{Walk.path_in, Walk.priced}
use Rattle.aeth_paths.proofs.pairs.try_senders.Given as goal

-- The senders so far were tried.
abbrev pub invariant-loop-i : goal.invariant-loop-i
invariant-loop-i g l = record {
  best : l.best ≡ priced (costs_of l.task) (path_in l.best);
  tries : Tries (costs_of l.task) None (path_in l.best)
      (OfferedFrom l.task.book.now l.task.ask l.crowded (take l.i l.from) l.to);
  below : All (λ (n : NiId). n.0 < l.below) (take l.i l.from);
  steps : l.steps ≤ l.fn.steps + all_steps l.task.chip.now l.task.book.now l.task.prices.now
      l.task.ask (take l.i l.from) l.to l.crowded;
}
