-- The records of a file, as `csv` reads them.
use Rattle.std.proofs.Common.{ℕ, List}
use Rattle.csv.specs.Reading.{default_config, records, strip_bom}

-- The records of bytes with the default settings, the header among them: each is the list of its
-- fields. A mark of the byte order at the front is left out.
abbrev pub records_of : List ℕ → List (List (List ℕ))
records_of bytes = records default_config (strip_bom bytes)
