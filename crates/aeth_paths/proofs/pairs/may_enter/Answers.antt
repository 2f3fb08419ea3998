use Rattle.aeth_paths.proofs.EnterLemmas.{enters-dead}
use Rattle.aeth_paths.proofs.pairs.may_enter.Goals as goal

-- A path that ends there ends with this link.
pub returns : goal.returns
returns c =
    let tells = rw c.free-free.ensures.free at c.suitable.ensures.suitable in
    enters-dead c.args.task.now.chip.now c.args.task.now.book.now c.args.task.now.ask c.args.ni
    c.entering.result c.alone-last.result c.suitable.result c.requires.task.is_chip
    c.requires.task.is_book c.requires.task.book c.entering.ensures.receives c.alone-last.ensures
    tells
