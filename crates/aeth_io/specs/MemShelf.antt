-- A shelf in memory, and what one call on it does.
-- This project's own.
use Rattle.std.proofs.Common.{ℕ, ◌-◌, ◌||◌, ◌==◌, ◌++◌, min, Bool, List, find, length, take, drop}
use Rattle.std.proofs.Common.{Option, is_none, if◌then◌else◌, map, string_bytes, String, Vec}
use Rattle.std.proofs.Common.{Global}
use Rattle.std.specs.{List.list_any, Option.option_map, Str.bytes_eq}
use Rattle.aeth_io.specs.Causes.{one_more}

-- A file: its name and its bytes.
pub record File : Type 0 where
  pub name : List ℕ
  pub bytes : List ℕ

-- The files of pairs of a text and bytes.
abbrev pub files_of : List (String Global × Vec ℕ Global) → List File
files_of pairs = map (λ p. record { name = string_bytes p.0; bytes = p.1.items }) pairs

-- The files that a shelf in memory holds, and how many bytes it gives at a call; the numbers of the
-- calls that fail, counted from 0; and how many calls were made, and how many failed.
pub record ShelfState : Type 0 where
  pub files : List File
  pub most : ℕ
  pub fail : List ℕ
  pub calls : ℕ
  pub faults : ℕ

-- The bytes of the first file of a name, if there is one.
abbrev pub content_of : List File → List ℕ → Option (List ℕ)
content_of files name =
    option_map (λ file. file.bytes) (find (λ file. bytes_eq file.name name) files)

-- The next call on a name fails: its number is listed, or no file has the name.
abbrev pub is_refusing : ShelfState → List ℕ → Bool
is_refusing shelf name =
    list_any (λ n. n == shelf.calls) shelf.fail || is_none (content_of shelf.files name)

-- How many bytes a call gives from a place on: as many as the file has there, as are asked for, and
-- as a call gives at most, whichever is least.
abbrev pub given_of : ℕ → List ℕ → ℕ → ℕ → ℕ
given_of most bytes at room = min (min room most) (length bytes - at)

-- The buffer after a call that gives them: they are its first bytes, and the others stay.
abbrev pub buffer_after : ℕ → List ℕ → ℕ → List ℕ → List ℕ
buffer_after most bytes at into =
    let n = given_of most bytes at (length into) in take n (drop at bytes) ++ drop n into

-- The shelf after a call on a name.
abbrev pub after_read : ShelfState → List ℕ → ShelfState
after_read shelf name =
    if is_refusing shelf name
    then record shelf { calls = one_more shelf.calls; faults = one_more shelf.faults }
    else record shelf { calls = one_more shelf.calls }
