use Rattle.std.proofs.Common.{◌≡◌, ◌&&◌, ℕ, Bool, drop, length}
use Rattle.std.specs.List.{list_any}
use Rattle.aeth_group.specs.{Members.has_unit, Tables.IsTable}
use Rattle.aeth_check.specs.Meetings.{meets, touches}
use Rattle.aeth_check.proofs.masks.meets.Given as goal

-- Whether flits meet is decided by the use cases of the group that are left.
abbrev pub invariant-loop-u : goal.invariant-loop-u
invariant-loop-u l = (test : ℕ → ℕ → ℕ → Bool)
    → IsTable l.chip.slots (length l.chip.links) test l.masks
    → list_any (λ u. has_unit l.groups l.grant.unit u
    && meets (test u) l.grant.slots l.chip.links 0 l.grant.path)
    (drop l.u-index l.u-items)
    ≡ touches l.chip.links l.groups test l.grant
