use Rattle.std.proofs.Common.{◌≡◌, ◌∙◌, ◌++◌, [], ℕ, sym, ap, arith, flat_map, unwrap_or}
use Rattle.std.specs.List.{range_with_len}
use Rattle.aeth_plan.specs.Plan.{name_at}
use Rattle.aeth_text.specs.Spelling.{text_of_lines}
use Rattle.aeth_ni.specs.Limits.{queues_of_interface}
use Rattle.aeth_tables.specs.TableText.{lines_of_queue, queues_with}
use Rattle.aeth_tables.proofs.TextLaws.{lines_more_of}
use Rattle.aeth_tables.proofs.queues.push_queues_at.Goals as goal

-- One more queue.
pub loop-queue-preserved : goal.loop-queue-preserved
loop-queue-preserved c =
    let nis = c.args.chip.now.nis in
    let own = c.args.own.now in
    lines_more_of (lines_of_queue c.args.app.now) (name_at nis c.args.ni.0) c.as_bytes.result.now
    own own c.loop-queue.queue c.args.out.now.items c.loop-queue.out.items
    c.push_queue_of.new.out.items
    (c.as_bytes.ensures.bytes ∙ sym (ap (λ o. unwrap_or o []) c.ni_name-name.ensures))
    (λ i. own) c.loop-queue.invariant c.in_ok-push_queue_of.ensures

-- All queues were seen.
pub returns : goal.returns
unfolding queues_with
returns c =
    let all : c.loop-queue.queue ≡ queues_of_interface = omega (arith, c.loop-queue-test.false) in
    c.loop-queue.invariant
    ∙ ap (λ (n : ℕ). c.args.out.now.items ++ text_of_lines (flat_map
    (lines_of_queue c.args.app.now (name_at c.args.chip.now.nis c.args.ni.0) c.args.own.now)
    (range_with_len 0 n)))
    all
