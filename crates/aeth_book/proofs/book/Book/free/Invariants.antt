use Rattle.std.proofs.Common.{◌≡◌, ◌≤◌, ◌*◌, take}
use Rattle.aeth_chip.specs.Paths.{offset}
use Rattle.aeth_base.specs.Limits.{max_link_delay}
use Rattle.aeth_book.specs.Free.{free_starts}
use Rattle.aeth_book.proofs.book.Book.free.Given as goal

-- The free starts of the links so far.
abbrev pub invariant-loop-i : goal.invariant-loop-i
invariant-loop-i l = record {
  after : l.after ≡ offset l.self.links l.path l.i;
  bound : l.after ≤ l.i * max_link_delay;
  free : l.free ≡ free_starts l.self l.unit (take l.i l.path);
}
