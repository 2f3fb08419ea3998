use Rattle.aeth_records.proofs.Lefts.{left_at}
use Rattle.aeth_records.proofs.records.open.Goals as goal

pub returns-clause-all : goal.returns-clause-all
returns-clause-all c = left_at c.from_reader.result _ _ c.from_reader.ensures.source
    c.from_reader.ensures.state
