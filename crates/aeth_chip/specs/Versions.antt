-- A file of version 1 as one of version 2.
-- This project's own.
use Rattle.std.proofs.Common.{ℕ, pos, codes, List, if◌then◌else◌}
use Rattle.toml.specs.Data.{Data, Members, integer, member, no_members, same_key}

-- A table with another value at a key that stands there.
abbrev pub with_value : List ℕ → Data → Members → Members
with_value key value no_members = no_members
with_value key value (member other old table) =
    if same_key key other then member other value table
    else member other old (with_value key value table)

-- The same root table with `version = 2`.
abbrev pub in_version_2 : Members → Members
in_version_2 root = with_value (codes "version") (integer (pos 2)) root
