use Rattle.std.proofs.Common.{◌∙◌}
use Rattle.aeth_scheduling.proofs.ScheduleLemmas.{task-of}
use Rattle.aeth_scheduling.proofs.schedule.schedule_of.Goals as goal

-- The words, their places and the cycles are those of the inputs.
pub invariant_of-task : goal.invariant_of-task
invariant_of-task c =
    let inputs = c.args.inputs.now in
    let starts = rw (c.words.ensures, c.app.ensures) at (c.deref-2.ensures.value
    ∙ c.in_ok-starts.ensures) in
    record {
      is = task-of inputs c.are_accepted.ensures _ _ _ c.groups.ensures c.in_ok-spans.ensures
          (c.deref.ensures.value ∙ c.in_ok-all.ensures) _ _ _ c.words-2.ensures starts
          c.cycles.ensures;
    }

-- So the task is theirs.
pub parts_of-requires : goal.parts_of-requires
parts_of-requires c = record {
  groups = c.groups.ensures;
  spans = c.in_ok-spans.ensures;
  lines = c.deref.ensures.value ∙ c.in_ok-all.ensures;
  words = c.words-2.ensures;
  cycles = c.cycles.ensures;
}
