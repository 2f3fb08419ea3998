use Rattle.aeth_records.proofs.Lefts.{left_by, reading_on}
use Rattle.csv.specs.Records.{fields_of}
use Rattle.aeth_records.proofs.records.next_row.Goals as goal

pub returns-in-Ok-clause-reading : goal.returns-in-Ok-clause-reading
returns-in-Ok-clause-reading c found =
    let e = c.in-Ok.ensures in
    reading_on c.args.reader.now c.read_byte_record.new.self
    (fields_of c.read_byte_record.new.row) c.requires (rw found at
    (e.reads c.requires.plain c.requires.ready)) (e.ready c.requires.plain) e.flexible

pub returns-in-Ok-clause-row : goal.returns-in-Ok-clause-row
returns-in-Ok-clause-row c =
    let e = c.in-Ok.ensures in
    left_by c.in-Ok.found c.args.reader.now c.read_byte_record.new.self
    (fields_of c.read_byte_record.new.row) c.requires (e.reads c.requires.plain c.requires.ready)
