use Rattle.std.proofs.Common.{ap, Err}
use Rattle.aeth_answers.specs.Places.{files_of}
use Rattle.aeth_answers.proofs.FileLemmas.{IsAnswer-too_long, Leaves-text_file}
use Rattle.aeth_answers.proofs.TaskLemmas.{IsAnswer-fault, NoneFailed-counted}
use Rattle.aeth_answers.proofs.files.read_file.Goals as goal

-- The file was read.
pub returns-in-Ok : goal.returns-in-Ok
returns-in-Ok g c =
    let read = rw c.as_str.ensures at c.in-Ok.ensures in
    let clean = NoneFailed-counted g.H.Shelf c.args.shelf.now c.read_all.new.shelf
    (λ counts. read.faultless counts (λ fault. cc)) in record {
      after = record { kept = read.kept; later = read.later };
      faultless = clean;
      judges = λ next. Leaves-text_file (files_of g.H.Shelf c.args.shelf.now)
          (files_of g.H.Shelf c.read_all.new.shelf) c.args.file.now c.args.name.now
          c.in-Ok.bytes.items next (record { kept = read.kept; later = read.later })
          clean read.ok read.within;
    }

-- The file can't be read.
pub returns-in-Err-Fault : goal.returns-in-Err-Fault
returns-in-Err-Fault g c =
    let read = rw c.as_str.ensures at c.in-Err-Fault.ensures in
    let rose = read.cause (ap Err c.in-Err-Fault.field-0-is) in record {
      after = record { kept = read.kept; later = read.later };
      faultless = tt;
      judges = λ next. IsAnswer-fault (files_of g.H.Shelf c.args.shelf.now)
          (files_of g.H.Shelf c.read_all.new.shelf) c.args.file.now c.args.name.now _
          c.in_ok-fault.fault rose c.in_ok-fault.ensures;
    }

-- The file is too long.
pub returns-in_ok-too_long-in-Err-TooLong : goal.returns-in_ok-too_long-in-Err-TooLong
returns-in_ok-too_long-in-Err-TooLong g c =
    let read = rw c.as_str.ensures at c.in-Err-TooLong.ensures in
    let long = ap Err c.in-Err-TooLong.field-0-is in
    let clean = NoneFailed-counted g.H.Shelf c.args.shelf.now c.read_all.new.shelf
    (λ counts. read.faultless counts (λ fault. cc)) in record {
      after = record { kept = read.kept; later = read.later };
      faultless = tt;
      judges = λ next. IsAnswer-too_long (files_of g.H.Shelf c.args.shelf.now)
          (files_of g.H.Shelf c.read_all.new.shelf) c.args.file.now c.args.name.now next
          c.in_ok-too_long-in-Err-TooLong.field-0 clean
          (λ bytes told. read.only_too_long bytes told long)
          c.in_ok-too_long-in-Err-TooLong.ensures;
    }
