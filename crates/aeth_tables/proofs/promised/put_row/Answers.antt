use Rattle.std.proofs.Common.{◌∙◌, ◌++◌, ◌∷◌, [], ap, arith}
use Rattle.std.specs.declared.{alloc.Global.Global, vec.Vec.Vec}
use Rattle.aeth_tables.{specs.declared.promised.PromisedRow.PromisedRow, proofs.OwnRows.put-own}
use Rattle.aeth_tables.proofs.promised.put_row.Goals as goal

-- The row stands at the end of the list of its interface.
pub returns-in_ok-push-clause-rows : goal.returns-in_ok-push-clause-rows
returns-in_ok-push-clause-rows c = λ ni within.
    put-own c.args.lists.now.items c.index_mut.result.now c.push.new.self c.args.one.now
    (omega (arith, c.if-place-len.true, c.len.ensures))
    (c.in_ok-push.ensures.items
    ∙ ap (λ (v : Vec PromisedRow Global). v.items ++ c.args.one.now ∷ []) c.index_mut.ensures.value)
    ni
