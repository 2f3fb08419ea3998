use Rattle.std.proofs.{Common.sym, Common.arith, lemmas.List.FromFn.map-range_with_len_more}
use Rattle.aeth_app.specs.App.{has_connection}
use Rattle.aeth_group.proofs.groups.connections_of.Goals as goal

-- One more connection.
pub loop-c-preserved : goal.loop-c-preserved
loop-c-preserved c =
    let more = map-range_with_len_more (has_connection c.args.app.now.uses c.args.u.0) 0 c.loop-c.c
    c.loop-c.c (omega arith) in
    rw (c.in_ok-push.ensures.items, c.loop-c.invariant, c.has.ensures) (sym more)
