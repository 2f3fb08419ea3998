-- What it is that a row breaks a rule, and what an audit says, in words apart from its steps.
--
--   IsUnreserved, IsForeign, IsBrokenOff      rules 1 to 3
--   Breaks, IsClean      a row breaks a rule, or none
--   IsFirst, IsAuditOf      what an audit says
-- This project's own.
use Rattle.std.proofs.Common.{◌≡◌, ◌<◌, ◌⊎◌, ℕ, ◌+◌, false, List, Contains, Some, slice_get}
use Rattle.aeth_report.specs.{Design.Design, declared.session.Session.Session}
use Rattle.aeth_audit.specs.{Audit.is_joined, Audit.is_of_channel, Limits.broken_off}
use Rattle.aeth_audit.specs.{Limits.foreign, Limits.unreserved, Reservations.Reservation}
use Rattle.aeth_audit.specs.{Reserved.IsReserved, declared.verdict.Audit.Audit}
use Rattle.aeth_audit.specs.{declared.verdict.Audit.TheVariants.Clean}
use Rattle.aeth_audit.specs.{declared.verdict.Audit.TheVariants.Fault, declared.row.LinkRow.LinkRow}

module _ (design : Design) (timeline : List (List Session)) (cycles : ℕ)
    (rows : List LinkRow) where
  -- The row's link isn't reserved in its cycle.
  abbrev pub IsUnreserved : LinkRow → Type 0
  IsUnreserved row = (at : Reservation) → IsReserved design timeline row.link.0 row.cycle at → ⊥

  -- It is reserved for a channel, and the flit is none of this channel.
  pub record IsForeign (row : LinkRow) : Type 0 where
    pub at : Reservation
    pub reserved : IsReserved design timeline row.link.0 row.cycle at
    pub other : is_of_channel design at row.flit ≡ false

  -- It is reserved at a place of a path, and the flit isn't on the link before it or on the one
  -- after it when it would have to be.
  pub record IsBrokenOff (row : LinkRow) : Type 0 where
    pub at : Reservation
    pub reserved : IsReserved design timeline row.link.0 row.cycle at
    pub apart : is_joined design cycles rows at row ≡ false

  -- A row breaks a rule.
  abbrev pub Breaks : LinkRow → ℕ → Type 0
  Breaks row rule = ((rule ≡ unreserved) × IsUnreserved row)
      ⊎ ((rule ≡ foreign) × IsForeign row) ⊎ ((rule ≡ broken_off) × IsBrokenOff row)

  -- It breaks none.
  abbrev pub IsClean : LinkRow → Type 0
  IsClean row = (rule : ℕ) → Breaks row rule → ⊥

  -- The row of this number, counted from 1, breaks a rule and no lesser one, and no row before it
  -- breaks any.
  pub record IsFirst (rule number : ℕ) : Type 0 where
    pub place : ℕ
    pub row : LinkRow
    pub numbered : number ≡ place + 1
    pub at : slice_get rows place ≡ Some row
    pub breaks : Breaks row rule
    pub least : (lesser : ℕ) → lesser < rule → Breaks row lesser → ⊥
    pub first : (k : ℕ) (before : LinkRow) → k < place → slice_get rows k ≡ Some before
        → IsClean before

  -- An audit says that no row breaks a rule, or which row is the first that does, and which is the
  -- least rule that it breaks.
  abbrev pub IsAuditOf : Audit → Type 0
  IsAuditOf Clean = (row : LinkRow) → Contains rows row → IsClean row
  IsAuditOf (Fault rule number) = IsFirst rule number
