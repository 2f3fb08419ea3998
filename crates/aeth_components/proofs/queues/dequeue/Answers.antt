use Rattle.std.proofs.Common.{◌≡◌, ◌<◌, ◌+◌, length, suc, ap, ◌∙◌, arith}
use Rattle.aeth_components.proofs.QueueLemmas.{changed-changed, changed-dequeued_more}
use Rattle.aeth_components.proofs.QueueLemmas.{held-dequeued, length-no_first, length-some_first}
use Rattle.aeth_components.specs.Queues.{dequeued}
use Rattle.aeth_ni.specs.{Interface.changed, Queue.word_taken}
use Rattle.aeth_components.proofs.queues.dequeue.Goals as goal

-- Where none was left, all were taken.
pub returns-then-is_none-clause-count : goal.returns-then-is_none-clause-count
returns-then-is_none-clause-count c =
    let size = c.last.ensures.interface.count in
    let held = held-dequeued c.args.queue c.loop-count.count c.args.ni.now c.loop-count.ni
    (omega arith) c.loop-count.invariant.ni in
    let none = length-no_first c.take.result _ c.take.ensures.word c.if-is_none.ensures in
    omega arith

pub returns-then-is_none-clause-ni : goal.returns-then-is_none-clause-ni
returns-then-is_none-clause-ni c =
    let ni = c.args.ni.now in
    let number = c.args.queue in
    let times = c.loop-count.count in
    let size = c.last.ensures.interface.count in
    let within : number < length ni.queues = omega arith in
    let held = held-dequeued number times ni c.loop-count.ni within c.loop-count.invariant.ni in
    let none = length-no_first c.take.result _ c.take.ensures.word c.if-is_none.ensures in
    c.take.ensures.taken ∙ ap (changed number word_taken) c.loop-count.invariant.ni
    ∙ changed-changed number (dequeued times) word_taken ni within
    ∙ changed-dequeued_more number times c.args.pull ni (omega arith) (omega arith)

-- One word more is taken.
pub loop-count-preserved : goal.loop-count-preserved
loop-count-preserved c =
    let ni = c.args.ni.now in
    let number = c.args.queue in
    let times = c.loop-count.count in
    let size = c.last.ensures.interface.count in
    let within : number < length ni.queues = omega arith in
    let held = held-dequeued number times ni c.loop-count.ni within c.loop-count.invariant.ni in
    let some = length-some_first c.take.result _ c.take.ensures.word c.if-is_none.ensures in
    record {
      ni = c.take.ensures.taken ∙ ap (changed number word_taken) c.loop-count.invariant.ni
          ∙ changed-changed number (dequeued times) word_taken ni within
          ∙ ap (λ n. changed number (dequeued n) ni)
          (let next : suc times ≡ times + 1 = omega arith in next);
      held = omega arith;
    }
