-- Keys of a table that are its fields in their order.
-- This project's own.
use Rattle.std.proofs.Common.{true, false, ℕ, Bool, ◌&&◌, List, [], ◌∷◌, Option, Some, None}
use Rattle.std.proofs.Common.{if◌then◌else◌}
use Rattle.std.specs.{Str.bytes_eq, Ordering.is_lt, Ordering.nat_cmp, Cmp.Lexicographic.slice_cmp}
use Rattle.toml.specs.Data.{Data}
use Rattle.aeth_document.specs.Keys.{Fields, has_kind, is_optional}

-- Each of the fields may be absent.
abbrev pub are_optional : Fields → Bool
are_optional [] = true
are_optional (f ∷ fs) = is_optional f.1 && are_optional fs

-- The fields behind the one of an entry's key that the entry fits, where all before it may be
-- absent and have lesser keys.
abbrev pub fields_behind : Fields → (List ℕ × Data) → Option Fields
fields_behind [] e = None
fields_behind (f ∷ fs) e =
    if bytes_eq f.0 e.0 then (if has_kind f.1 e.1 then Some fs else None)
    else if is_optional f.1 && is_lt (slice_cmp nat_cmp f.0 e.0) then fields_behind fs e else None

-- There are fields, and they pass the test.
abbrev pub are_some : (Fields → Bool) → Option Fields → Bool
are_some test None = false
are_some test (Some fs) = test fs

-- Each entry fits a field, in the order of both, and the fields that are passed over may be absent.
abbrev pub fits_in_order : Fields → List (List ℕ × Data) → Bool
fits_in_order fs [] = are_optional fs
fits_in_order fs (e ∷ es) = are_some (λ behind. fits_in_order behind es) (fields_behind fs e)
