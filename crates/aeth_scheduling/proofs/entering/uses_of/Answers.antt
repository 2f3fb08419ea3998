use Rattle.std.proofs.Common.{◌∙◌, get_or, sym, take}
use Rattle.std.proofs.lemmas.{Bool.false≢true, List.take_more}
use Rattle.aeth_scheduling.proofs.EnteringLemmas.{uses-more, uses-same}
use Rattle.aeth_scheduling.proofs.entering.uses_of.Goals.{else-not-is_among}
use Rattle.aeth_scheduling.proofs.entering.uses_of.Goals.{then-not-is_among+in_ok-push}
use Rattle.aeth_scheduling.proofs.entering.uses_of.Goals as goal

-- One row more.
pub loop-row-preserved : goal.loop-row-preserved
loop-row-preserved c =
    let rows = c.args.rows.now in
    let i = c.loop-row.row-index in
    let row = get_or rows i (record { cycle = 0; to = record { 0 = 0 }; drain = 0 }) in
    let done = take i rows in
    let so_far = c.loop-row.entered.items in
    let is = rw c.deref.ensures.value at c.is_among.ensures in
    rw (take_more rows i (record { cycle = 0; to = record { 0 = 0 }; drain = 0 }) c.loop-row-test.true)
    (elim c.if-not-is_among.branch [
      | then-not-is_among+in_ok-push w ↦
          rw (w.entered-is, w.in_ok-push.ensures.items)
          (uses-more done row so_far c.loop-row.invariant
          (λ has. false≢true (sym w.if-not-is_among.true ∙ is.1 has)))
      | else-not-is_among w ↦
          rw w.entered-is (uses-same done row so_far c.loop-row.invariant
          (is.0 w.if-not-is_among.false))
    ])
