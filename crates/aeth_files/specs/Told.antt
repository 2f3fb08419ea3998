-- What a file tells, where the shelf tells its bytes.
-- This project's own.
use Rattle.std.proofs.Common.{ℕ, ◌≡◌, ◌≤◌, List, length, Option, Some, Result, Ok}
use Rattle.aeth_base.specs.Faults.{BrokenRule}
use Rattle.aeth_io.specs.Limits.{max_file_bytes}

-- The shelf tells the bytes of this name, they aren't too many, and they tell this value.
pub record IsTold {A : Type 0} (content : List ℕ → Option (List ℕ)) (name : List ℕ)
    (told_by : List ℕ → Result A BrokenRule) (value : A) : Type 0 where
  pub bytes : List ℕ
  pub held : content name ≡ Some bytes
  pub short : length bytes ≤ max_file_bytes
  pub told : told_by bytes ≡ Ok value
