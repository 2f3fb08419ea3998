use Rattle.std.proofs.Common.{◌≡◌, ◌≤◌, ◌*◌, take, length}
use Rattle.aeth_chip.specs.Paths.{offset}
use Rattle.aeth_base.specs.Limits.{max_link_delay}
use Rattle.aeth_group.specs.Tables.{Changes, hits_row}
use Rattle.aeth_book.proofs.changes.change_row.Given as goal

-- The masks have changed by the links so far.
abbrev pub invariant-loop-i : goal.invariant-loop-i
invariant-loop-i l = record {
  after : l.after ≡ offset l.links l.path l.i;
  bound : l.after ≤ l.i * max_link_delay;
  changes : Changes l.slots.size (length l.links)
      (hits_row l.slots l.links l.u (take l.i l.path)) l.put l.fn.masks l.masks;
}
