use Rattle.std.proofs.Common.{◌∙◌, ◌++◌, ◌∷◌, [], take, sym, ap, arith}
use Rattle.std.proofs.lemmas.List.{take_more}
use Rattle.aeth_tables.specs.{TableText.rows_at, declared.promised.PromisedRow.PromisedRow}
use Rattle.aeth_tables.proofs.OwnRows.{own-more}
use Rattle.aeth_tables.proofs.promised.rows_by_interface.Goals as goal

-- One more row.
pub loop-one-preserved : goal.loop-one-preserved
loop-one-preserved c =
    let rows = c.args.rows.now in
    let i = c.loop-one.one-index in
    let one = c.one-item.result in
    let next = take_more rows i one c.loop-one-test.true
    ∙ ap (λ (p : PromisedRow). take i rows ++ p ∷ []) (sym c.one-item.is) in
    let so_far = c.loop-one.invariant in
    record {
      size = c.put_row.ensures.size ∙ so_far.size;
      own = λ ni within. c.in_ok-put_row.ensures.rows ni (omega (arith, within, so_far.size))
          ∙ ap (λ own. own ++ rows_at ni (one ∷ [])) (so_far.own ni within)
          ∙ sym (ap (rows_at ni) next ∙ own-more (take i rows) one ni);
    }
