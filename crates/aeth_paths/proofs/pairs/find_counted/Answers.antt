use Rattle.aeth_paths.proofs.pairs.find_counted.Goals as goal

-- What is searched is of this book and these prices, for this request.
pub returns-clause-found : goal.returns-clause-found
returns-clause-found g c =
    let task = c.task_of-task.ensures in
    rw (task.book, task.prices, task.ask) at c.first_found.ensures.found

pub returns-clause-steps : goal.returns-clause-steps
returns-clause-steps g c =
    let task = c.task_of-task.ensures in
    rw (task.chip, task.book, task.prices, task.ask) at c.first_found.ensures.steps
