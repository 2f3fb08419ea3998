use Rattle.std.proofs.Common.{◌≡◌, ◌-◌, ◌+◌, ◌≤◌, length, take, sum_by}
use Rattle.std.specs.List.{flat_map}
use Rattle.aeth_chip.specs.LeastOnward.{least_from}
use Rattle.aeth_paths.specs.Search.{along, completions, first_from}
use Rattle.aeth_paths.specs.Walk.{field_of, path_in, priced}
use Rattle.aeth_paths.proofs.StepLemmas.{steps_over}
use Rattle.aeth_paths.proofs.search.+extend.Given as goal

-- One link fewer may follow.
abbrev pub decreases-extend : goal.decreases-extend
decreases-extend g l = l.left

-- What is best over the links so far, and the steps that they took.
abbrev pub invariant-loop-place : goal.invariant-loop-place
invariant-loop-place g l =
    let f = field_of l.task l.goal in
    let links = f.leaving l.prefix.end in
    record {
      within : l.place ≤ length links;
      best : l.best ≡ priced f.cost (first_from f (path_in l.fn.best)
          (flat_map (along f l.prefix.path (completions f (l.left - 1))) (take l.place links)));
      steps : l.steps ≤ l.fn.steps + l.place + sum_by (steps_over f
          (least_from l.task.chip.now l.goal.ni) (l.left - 1) l.prefix.path) (take l.place links);
    }
