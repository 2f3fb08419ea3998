use Rattle.std.proofs.Common.{arith, length, sym}
use Rattle.std.proofs.lemmas.List.FromFn.{map-range_with_len_more}
use Rattle.aeth_schedule.specs.Values.{values_of}
use Rattle.aeth_scheduling.proofs.Places.{values-few, values-next}
use Rattle.aeth_scheduling.proofs.placing.starts.Goals as goal

-- There aren't so many words.
pub overflow_add-start : goal.overflow_add-start
overflow_add-start c =
    let before = values-few c.args.words.now c.loop-c.c c.requires in
    let start = c.loop-c.invariant.start in
    let more = c.count_with-start.ensures.most in
    let within = c.loop-c-test.true in
    let end = c.loop-c.auto.c-end in
    let count = c.connections-c-end.ensures.most in
    omega arith

-- One connection more.
pub loop-c-preserved : goal.loop-c-preserved
loop-c-preserved c =
    let next = values-next c.args.words.now c.loop-c.c in
    let start = c.loop-c.invariant.start in
    let more = c.count_with-start.ensures.count in
    record {
      starts = rw (c.in_ok-push.ensures.items, c.loop-c.invariant.starts, start)
          (sym (map-range_with_len_more (λ d. length (values_of c.args.words.now d)) 0 c.loop-c.c
          c.loop-c.c (omega arith)));
      start = omega arith;
    }
