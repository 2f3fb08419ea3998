use Rattle.std.proofs.Common.{◌≡◌, ◌≤◌, ◌*◌}
use Rattle.aeth_base.specs.Limits.{max_link_delay}
use Rattle.aeth_chip.specs.Paths.{offset}
use Rattle.aeth_chip.proofs.chip.Chip.offset.Given as goal

abbrev pub invariant-loop-i : goal.invariant-loop-i
invariant-loop-i l = record {
  sum : l.delay ≡ offset l.self.links l.path l.i;
  few : l.delay ≤ l.i * max_link_delay;
}
