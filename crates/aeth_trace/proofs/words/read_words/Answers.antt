use Rattle.std.proofs.Common.{length}
use Rattle.aeth_trace.specs.{Limits.max_rows, declared.words.WordRow.WordRow}
use Rattle.aeth_trace.proofs.{FileLemmas.are_words, FileLemmas.few, KnownLemmas.are_known-All}
use Rattle.aeth_trace.proofs.{OrderLemmas.in_order-rises}
use Rattle.aeth_records.specs.Records.{records_of}
use Rattle.aeth_trace.proofs.words.read_words.Goals as goal

-- The connections that rows name are known.
pub of-requires-clause-known : goal.of-requires-clause-known
of-requires-clause-known c =
    rw (
      c.deref-3.ensures.value,
      ← c.deref.ensures.value,
      c.connections-2.ensures.connections,
      ← c.connections.ensures.connections,
    )
    (are_known-All (λ (row : WordRow). row.channel.conn.0) 1 c.connections.result 1 c.deref.result.now
    c.in_ok-judge_known.field-0 c.in_ok-judge_known.ensures.reads)

-- Cycles ascend, the index has the rows of each channel, and there are few.
pub invariant_of-result : goal.invariant_of-result
invariant_of-result c =
    let rises = (in_order-rises (λ (row : WordRow). row.cycle) 0 1 c.deref-2.result.now
    c.in_ok-judge_order.field-0 c.in_ok-judge_order.ensures.reads).1 in
    let small = few max_rows (length c.in_ok-rows.rows.items) c.in_ok-judge_count.field-0
    (rw (c.len.ensures, c.in_ok-rows.rows.ok.0) at c.in_ok-judge_count.ensures.reads) in (
      rw c.deref-2.ensures.value at rises,
      rw c.deref-3.ensures.value at c.in_ok-index.ensures,
      small,
    )

-- The rows keep the rules.
pub returns-clause-words : goal.returns-clause-words
returns-clause-words c =
    are_words c.args.app.now (records_of c.args.bytes.now) c.in_ok-rows.rows.items
    c.in_ok-judge_known.field-0 c.in_ok-judge_order.field-0 c.in_ok-judge_count.field-0
    c.in_ok-rows.ensures.reads
    (rw (c.deref.ensures.value, c.connections.ensures.connections) at c.in_ok-judge_known.ensures.reads)
    (rw c.deref-2.ensures.value at c.in_ok-judge_order.ensures.reads)
    (rw (c.len.ensures, c.in_ok-rows.rows.ok.0) at c.in_ok-judge_count.ensures.reads)
