use Rattle.aeth_paths.proofs.CandidateLemmas.{task-ends, task-first, task-none}
use Rattle.aeth_paths.proofs.pairs.first_found.Goals as goal

-- The best path leads from an interface to an interface.
pub found-requires-clause-ends : goal.found-requires-clause-ends
found-requires-clause-ends g c =
    task-ends c.args.task.now c.args.from.now c.args.to.now c.args.crowded.now c.requires.task
    c.in-Some.best.path c.in-Some.ensures.tries

-- There is no candidate.
pub returns-in-None-clause-found : goal.returns-in-None-clause-found
returns-in-None-clause-found g c =
    task-none c.args.task.now c.args.from.now c.args.to.now c.args.crowded.now c.requires.task
    c.in-None.ensures.tries

-- The first is found.
pub returns-in-Some-clause-found : goal.returns-in-Some-clause-found
returns-in-Some-clause-found g c =
    task-first c.args.task.now c.args.from.now c.args.to.now c.args.crowded.now c.requires.task
    c.in-Some.best.path c.found.result c.in-Some.ensures.tries c.found.ensures.path
    c.found.ensures.ends c.found.ensures.slots
