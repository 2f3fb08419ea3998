-- How a name lies in memory: its bytes, and zeros behind them.
use Rattle.std.proofs.Common.{◌≡◌, ◌≤◌, ◌-◌, ◌++◌, ℕ, List, true, length, take, drop, replicate}
use Rattle.std.proofs.Common.{arith, length-take, take-append-drop}
use Rattle.aeth_base.specs.{declared.name.Name.TheInside.Inside, Limits.max_name_bytes}
use Rattle.aeth_base.specs.{Name.is_name}

-- A name of some length, with zeros behind it.
pub record IsPadded (bytes : List ℕ) (len : ℕ) : Type 0 where
  pub size : length bytes ≡ max_name_bytes
  pub within : len ≤ max_name_bytes
  pub rest : drop len bytes ≡ replicate (max_name_bytes - len) 0
  pub named : is_name (take len bytes) ≡ true

-- The bytes of a name with zeros behind them.
abbrev pub padded : List ℕ → List ℕ
padded name = name ++ replicate (max_name_bytes - length name) 0

-- A name in memory, from its bytes.
abbrev pub inside_of : List ℕ → Inside
inside_of name = record { bytes = padded name; len = length name }

-- A name in memory is made again from its bytes.
pub inside_of-view : (a : Inside) → IsPadded a.bytes a.len → inside_of (take a.len a.bytes) ≡ a
inside_of-view a is_padded =
    let size = is_padded.size in
    let within = is_padded.within in
    let len_is : length (take a.len a.bytes) ≡ a.len = omega (arith, length-take a.len a.bytes) in
    let bytes_are : take a.len a.bytes ++ replicate (max_name_bytes - a.len) 0 ≡ a.bytes =
    rw (← is_padded.rest) (take-append-drop a.len a.bytes) in
    rw (len_is, bytes_are)
