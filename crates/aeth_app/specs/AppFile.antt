-- The application of a file's bytes, or the first rule that the file breaks.
-- This project's own.
use Rattle.std.proofs.Common.{ℕ, List, length, map, codes, Option, Some, None, Result, Ok, Err}
use Rattle.toml.specs.Data.{Members}
use Rattle.aeth_base.specs.{Faults.BrokenRule, declared.shown.Shown.TheVariants.Nothing}
use Rattle.aeth_chip.specs.Chip.{ChipData}
use Rattle.aeth_document.specs.{Chain.◌>>=◌, Document.document_of, Values.integer_at}
use Rattle.aeth_document.specs.{Values.text_if, Walks.judged, Walks.size_of}
use Rattle.aeth_app.specs.{App.AppData, Demands.demands, Keys.wrong_keys, Parts.connection_of}
use Rattle.aeth_app.specs.{Parts.core_of, Parts.told_price, Parts.use_of, Ranges.out_of_range}
use Rattle.aeth_app.specs.{Repeats.name_twice, Tables.connections_in, Tables.cores_in}
use Rattle.aeth_app.specs.{Tables.names_in, Tables.uses_in, Unknown.unknown_name}

-- The application of these tables, on a chip, where each name is known.
unfoldable pub told_app : ChipData → Members → AppData
told_app chip root = record {
  slots = chip.slots;
  detour = size_of (integer_at (codes "detour") root);
  price = told_price (text_if (codes "cost") root);
  cores = map (core_of chip.nis) (cores_in root);
  connections = map (connection_of (names_in (cores_in root))) (connections_in root);
  uses = map (use_of (names_in (connections_in root)) (names_in (uses_in root))) (uses_in root);
}

-- The application, for so many network interfaces, or the first rule on what it asks for that it
-- breaks.
abbrev pub demanded : ℕ → AppData → Result AppData BrokenRule
demanded nis app = demands nis app.cores app.connections >>= (λ _. Ok app)

-- The application of a root table, on a chip, or the first rule that the table breaks.
unfoldable pub app_in : ChipData → Members → Result AppData BrokenRule
app_in chip root = do
  keys ← judged 2 (codes "WrongKey") (wrong_keys root)
  ranges ← judged 3 (codes "OutOfRange") (out_of_range root)
  apart ← judged 4 (codes "NameTwice") (name_twice root)
  known ← judged 5 (codes "UnknownName") (unknown_name chip.nis root)
  demanded (length chip.nis) (told_app chip root)

-- Rule 1, BadToml: the bytes aren't UTF-8 or aren't TOML. It has the place 0 and no value.
abbrev pub app_of_document : ChipData → Option Members → Result AppData BrokenRule
app_of_document chip None =
    Err (record { rule = 1; name = codes "BadToml"; place = 0; value = Nothing })
app_of_document chip (Some root) = app_in chip root

-- The application of a file's bytes, on a chip, or the first rule that the file breaks.
unfoldable pub app_of : ChipData → List ℕ → Result AppData BrokenRule
app_of chip bytes = app_of_document chip (document_of bytes)
