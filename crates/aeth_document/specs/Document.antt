-- The tree of a file.
use Rattle.std.proofs.Common.{ℕ, List, Option, None, if◌then◌else◌}
use Rattle.std.specs.Str.{is_utf8}
use Rattle.toml.specs.{Data.Members, Parse.parse_document}

-- The table that the bytes spell, if they are UTF-8 and TOML.
unfoldable pub document_of : List ℕ → Option Members
document_of bytes = if is_utf8 bytes then parse_document bytes else None
