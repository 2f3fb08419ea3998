use Rattle.aeth_paths.proofs.pairs.find.Goals as goal

-- What is searched is of this book and these prices, for this request.
pub returns : goal.returns
returns g c =
    let task = c.task_of-task.ensures in
    rw (task.book, task.prices, task.ask) at c.found_from.ensures
