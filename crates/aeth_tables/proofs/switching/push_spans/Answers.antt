use Rattle.std.proofs.Common.{arith}
use Rattle.aeth_tables.proofs.SpanLaws.{changes_are, spans-more}
use Rattle.aeth_tables.proofs.switching.push_spans.Goals as goal

-- One more switch.
pub loop-v-preserved : goal.loop-v-preserved
loop-v-preserved c =
    let all = c.args.all.now in
    let left = changes_are all c.args.u.0 c.index-all-u.result
    (omega (arith, c.requires.u, c.requires.all)) c.index-all-u.is in
    let entered = changes_are all c.loop-v.v c.index-all-v.result
    (omega (arith, c.loop-v-test.true, c.uses-v-end.ensures.uses, c.requires.all))
    c.index-all-v.is in
    spans-more c.args.groups.now all c.args.u.0 c.loop-v.v c.index-all-u.result
    c.index-all-v.result c.args.pairs.now.items c.loop-v.pairs.items c.push.new.self.items
    c.span_in.result left entered c.loop-v.invariant c.span_in.ensures
    c.in_ok-push.ensures.items
