use Rattle.std.proofs.Common.{◌≡◌, ◌≤◌, ◌*◌, take}
use Rattle.aeth_base.specs.Limits.{max_link_delay}
use Rattle.aeth_book.specs.Free.{free_starts}
use Rattle.aeth_chip.specs.Paths.{offset}
use Rattle.aeth_paths.specs.Trials.{book_of}
use Rattle.aeth_explain.proofs.try_judge.TryJudge.is_dead.Given as goal

-- The free starts of the links so far.
abbrev pub invariant-loop-i : goal.invariant-loop-i
invariant-loop-i l = record {
  after : l.after ≡ offset l.self.chip.links l.path l.i;
  bound : l.after ≤ l.i * max_link_delay;
  free : l.free ≡ free_starts (book_of l.self.chip l.self.groups l.self.trial)
      l.self.trial.ask.unit (take l.i l.path);
}
