use Rattle.std.proofs.Common.{◌≡◌, ℕ, Bool, drop, length}
use Rattle.aeth_chip.specs.Paths.{offset}
use Rattle.aeth_check.specs.Meetings.{meets}
use Rattle.aeth_group.specs.Tables.{IsTable}
use Rattle.aeth_check.proofs.masks.meets_row.Given as goal

-- Whether flits meet is decided by the links that are left.
abbrev pub invariant-loop-i : goal.invariant-loop-i
invariant-loop-i l = (test : ℕ → ℕ → ℕ → Bool)
    → IsTable l.chip.slots (length l.chip.links) test l.masks
    → meets (test l.u) l.grant.slots l.chip.links (offset l.chip.links l.grant.path l.i)
    (drop l.i l.grant.path)
    ≡ meets (test l.u) l.grant.slots l.chip.links 0 l.grant.path
