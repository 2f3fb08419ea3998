use Rattle.std.proofs.Common.{◌≡◌, ◌≤◌, ◌*◌}
use Rattle.aeth_base.specs.Limits.{max_link_delay}
use Rattle.aeth_chip.specs.Paths.{offset}
use Rattle.aeth_check.proofs.TakenLaws.{AreTakenTo}
use Rattle.aeth_check.proofs.masks.take.Given as goal

-- The links so far have their sets.
abbrev pub invariant-loop-i : goal.invariant-loop-i
invariant-loop-i l = record {
  sum : l.offset ≡ offset l.chip.links l.grant.path l.i;
  few : l.offset ≤ l.i * max_link_delay;
  taken : AreTakenTo l.chip.links l.grant l.sets l.i;
}
