use Rattle.std.proofs.lemmas.Result.{err_from_is_err_and}
use Rattle.aeth_records.specs.Records.{records_of}
use Rattle.aeth_trace.proofs.{FileLemmas.are_switches, KnownLemmas.are_known-All}
use Rattle.aeth_trace.specs.{declared.switches.SwitchRow.SwitchRow, SwitchFaults.switches_told}
use Rattle.aeth_trace.proofs.switches.read_switches.Goals as goal

-- The use cases that rows name are known.
pub judge_apart-requires : goal.judge_apart-requires
judge_apart-requires c =
    rw (c.deref-3.ensures.value, ← c.deref.ensures.value, c.requires, ← c.uses.ensures.uses)
    (are_known-All (λ (row : SwitchRow). row.to.0) 2 c.uses.result 1 c.deref.result.now
    c.in_ok-judge_known.field-0 c.in_ok-judge_known.ensures.reads)

-- The rows keep the rules.
pub returns-clause-switches : goal.returns-clause-switches
returns-clause-switches c =
    are_switches c.args.app.now c.args.spans.now (records_of c.args.bytes.now)
    c.in_ok-rows.rows.items c.in_ok-judge_known.field-0 c.in_ok-judge_order.field-0
    c.in_ok-judge_apart.field-0 c.in_ok-judge_count.field-0 c.in_ok-judge_first.field-0
    c.in_ok-rows.ensures.reads
    (rw (c.deref.ensures.value, c.uses.ensures.uses) at c.in_ok-judge_known.ensures.reads)
    (rw c.deref-2.ensures.value at c.in_ok-judge_order.ensures.reads)
    (rw c.deref-3.ensures.value at c.in_ok-judge_apart.ensures.reads)
    (rw (c.len.ensures, c.in_ok-rows.rows.ok.0) at c.in_ok-judge_count.ensures.reads)
    (rw c.deref-4.ensures.value at c.in_ok-judge_first.ensures.reads)

-- The faults of the rules that all files have tell of no row.
pub returns-in_err-rows-clause-of_row : goal.returns-in_err-rows-clause-of_row
returns-in_err-rows-clause-of_row c =
    let p = err_from_is_err_and c.from_residual.result c.from_residual.ensures.1 in
    rw (p.1, p.2) (c.in_err-rows.ensures.plain (switches_told c.args.app.now c.args.bytes.now))

pub returns-in_err-judge_known-clause-of_row : goal.returns-in_err-judge_known-clause-of_row
returns-in_err-judge_known-clause-of_row c =
    let p = err_from_is_err_and c.from_residual-in_err-judge_known.result c.from_residual-in_err-judge_known.ensures.1 in
    rw (p.1, p.2) (c.in_err-judge_known.ensures.plain (switches_told c.args.app.now c.args.bytes.now))

pub returns-in_err-judge_order-clause-of_row : goal.returns-in_err-judge_order-clause-of_row
returns-in_err-judge_order-clause-of_row c =
    let p = err_from_is_err_and c.from_residual-in_err-judge_order.result c.from_residual-in_err-judge_order.ensures.1 in
    rw (p.1, p.2) (c.in_err-judge_order.ensures.plain (switches_told c.args.app.now c.args.bytes.now))
