-- Names: which bytes are one.
-- This project's own.
use Rattle.std.proofs.Common.{ℕ, Bool, List, Option, Some, None, length, nat_le, ◌==◌, ◌&&◌, ◌||◌}
use Rattle.std.proofs.Common.{if◌then◌else◌}
use Rattle.std.specs.List.{list_all}
use Rattle.aeth_base.specs.Limits.{max_name_bytes}

-- A byte of a name: one of `a-z`, `0-9` and `_`.
abbrev pub is_name_byte : ℕ → Bool
is_name_byte byte =
    ((nat_le 97 byte && nat_le byte 122) || (nat_le 48 byte && nat_le byte 57)) || byte == 95

-- Bytes that are a name: at least one, at most so many, and all of them bytes of a name.
abbrev pub is_name : List ℕ → Bool
is_name bytes =
    nat_le 1 (length bytes) && nat_le (length bytes) max_name_bytes && list_all is_name_byte bytes

-- The name of these bytes, if they are one.
abbrev pub name_of : List ℕ → Option (List ℕ)
name_of bytes = if is_name bytes then Some bytes else None
