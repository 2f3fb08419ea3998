-- To which ports flits go, as a table tells it.
-- This project's own.
use Rattle.std.proofs.Common.{◌≡◌, ◌<◌, ◌^◌, ℕ, Bool, false, true, Option, Some, List, [], ◌∷◌}
use Rattle.std.proofs.Common.{length, slice_get}
use Rattle.aeth_clocked.specs.declared.flit.Flit.{Flit}
use Rattle.aeth_header.specs.Layout.{port_bits}
use Rattle.aeth_router.specs.Ports.{flits_for}

-- A header names one of so many output ports.
abbrev pub named_ports : ℕ
named_ports = 2 ^ port_bits

-- Whether there is a flit.
abbrev pub is_any : List Flit → Bool
is_any [] = false
is_any (flit ∷ flits) = true

-- The table tells of each port whether a held flit names it.
pub record AreNamed (table : List Bool) (held : List (Option Flit)) : Type 0 where
  pub size : length table ≡ named_ports
  pub at : (port : ℕ) → port < named_ports
      → slice_get table port ≡ Some (is_any (flits_for port held))
