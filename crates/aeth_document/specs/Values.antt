-- What stands at a key of a table.
-- This project's own.
use Rattle.std.proofs.Common.{ℕ, ℤ, pos, List, [], Option, option_map, option_and_then, unwrap_or}
use Rattle.std.specs.List.{filter_map}
use Rattle.toml.specs.Data.{Data, Members, get_member, as_str, as_integer, as_array, as_table}
use Rattle.aeth_document.specs.Keys.{listed}

-- The integer at a key, 0 where none stands there.
unfoldable pub integer_at : List ℕ → Members → ℤ
integer_at k ms = unwrap_or (option_and_then as_integer (get_member k ms)) (pos 0)

-- The integer at a key, if one stands there.
unfoldable pub integer_if : List ℕ → Members → Option ℤ
integer_if k ms = option_and_then as_integer (get_member k ms)

-- The text at a key, empty where none stands there.
unfoldable pub text_at : List ℕ → Members → List ℕ
text_at k ms = unwrap_or (option_and_then as_str (get_member k ms)) []

-- The text at a key, if one stands there.
unfoldable pub text_if : List ℕ → Members → Option (List ℕ)
text_if k ms = option_and_then as_str (get_member k ms)

-- The table at a key, if one stands there.
unfoldable pub table_at : List ℕ → Members → Option Members
table_at k ms = option_and_then as_table (get_member k ms)

-- The items of the array at a key, none where no array stands there.
unfoldable pub items_at : List ℕ → Members → List Data
items_at k ms = unwrap_or (option_map listed (option_and_then as_array (get_member k ms))) []

-- The texts of the array at a key.
abbrev pub texts_at : List ℕ → Members → List (List ℕ)
texts_at k ms = filter_map as_str (items_at k ms)

-- The tables of the array at a key.
abbrev pub tables_at : List ℕ → Members → List Members
tables_at k ms = filter_map as_table (items_at k ms)
