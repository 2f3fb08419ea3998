-- The records that a reader of known bytes has left.
-- This project's own, over the words of `csv`.
use Rattle.std.proofs.Common.{◌≡◌, ◌+◌, ℕ, List, [], true, false, length, Option, Some, unwrap_or}
use Rattle.std.specs.Borrow.{Bor}
use Rattle.csv.specs.Machine.{ends_at_end}
use Rattle.csv.specs.Reading.{Ready, default_config, is_flexible, reader_config, reader_state}
use Rattle.csv.specs.Reading.{reader_trim, records_from, source_of}
use Rattle.csv.specs.declared.reader.Reader.{Reader}
use Rattle.csv.specs.declared.reader.Trim.TheVariants as trim

-- A reader of bytes that are known.
abbrev pub SliceReader : Type 0
SliceReader = Reader (Bor (List ℕ))

-- The bytes of a slice.
abbrev pub known : Bor (List ℕ) → Option (List ℕ)
known s = Some s.now

-- The bytes that a reader has left.
abbrev pub bytes_left : SliceReader → List ℕ
bytes_left r = unwrap_or (source_of known r) []

-- The reader stands between two records of known bytes, with the default settings, and takes
-- records of any number of fields.
pub record IsReading (r : SliceReader) : Type 0 where
  pub plain : reader_trim r ≡ trim.None
  pub ready : Ready r
  pub settings : reader_config r ≡ default_config
  pub flexible : is_flexible r ≡ true
  pub source : source_of known r ≡ Some (bytes_left r)
  pub between : ends_at_end (reader_state r) ≡ false

-- The records that a reader has left.
unfoldable pub left : SliceReader → List (List (List ℕ))
left r = records_from default_config (length (bytes_left r) + 1) (reader_state r) (bytes_left r)
