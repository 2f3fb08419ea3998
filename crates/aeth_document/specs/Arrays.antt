-- The tables and the texts of an array that are left, one after the other.
-- This project's own.
use Rattle.std.{proofs.Common.ℕ, proofs.Common.List, proofs.Common.map, specs.List.filter_map}
use Rattle.toml.specs.{Data.Members, Data.as_str, Data.as_table, View.view}
use Rattle.aeth_document.specs.declared.tables.{Tables.Tables, Texts.Texts}

-- The tables that are left.
abbrev pub tables_in : Tables → List Members
tables_in tables = filter_map as_table (map view tables.values.now)

-- The texts that are left.
abbrev pub texts_in : Texts → List (List ℕ)
texts_in texts = filter_map as_str (map view texts.values.now)
