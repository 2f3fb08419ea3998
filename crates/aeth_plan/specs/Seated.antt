-- Where a plan seats cores. Seats: after UMARS (2005), which places cores on network interfaces.
use Rattle.std.proofs.Common.{◌≡◌, ◌==◌, List, [], ◌∷◌, Option, Some, None, if◌then◌else◌}
use Rattle.aeth_base.specs.declared.ids.{CoreId.CoreId, NiId.NiId}
use Rattle.aeth_group.specs.declared.grant.SeatLine.{SeatLine}

-- Two lines seat cores on one seat: the interface is one, and the seat there.
pub record IsOneSeat (a b : SeatLine) : Type 0 where
  pub ni : a.ni.0 ≡ b.ni.0
  pub seat : a.seat ≡ b.seat

-- The network interface of a core's seat; `None` where the core isn't seated.
abbrev pub ni_of : List SeatLine → CoreId → Option NiId
ni_of [] core = None
ni_of (line ∷ lines) core = if line.core.0 == core.0 then Some line.ni else ni_of lines core
