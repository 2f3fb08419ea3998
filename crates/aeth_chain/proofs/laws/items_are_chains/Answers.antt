use Rattle.aeth_tables.proofs.PromiseLaws.{keep_promises}
use Rattle.aeth_chain.proofs.{TabledShapes.found-chain, TabledShapes.found-shapes}
use Rattle.aeth_chain.proofs.{TabledShapes.tables-use, ToldLemmas.told-items, WorkLemmas.word-items}
use Rattle.aeth_chain.proofs.laws.items_are_chains.Goals as goal

-- A word tells names of items.
pub returns-clause-named : goal.returns-clause-named
returns-clause-named c = word-items

-- The items have shapes.
pub returns-clause-chain : goal.returns-clause-chain
returns-clause-chain c = λ chip app plan design u known names items few is.
    found-chain chip app plan u _ (tables-use chip app plan u)
    (keep_promises chip app plan design u known) known items (told-items app u.0 names items few is)

-- They are those of the tables.
pub returns-clause-tabled : goal.returns-clause-tabled
returns-clause-tabled c = λ chip app plan design u known names items few is.
    found-shapes chip app plan u _ (tables-use chip app plan u)
    (keep_promises chip app plan design u known) known items (told-items app u.0 names items few is)
