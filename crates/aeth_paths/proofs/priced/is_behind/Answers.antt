use Rattle.std.proofs.Common.{◌∙◌, ◌<◌, ◌++◌, sym, ap, arith, le-ltb, ltb-true}
use Rattle.std.specs.Ordering.{is_lt}
use Rattle.aeth_base.proofs.TestLemmas.{true_from_IsTrue}
use Rattle.aeth_paths.proofs.OrderLemmas.{front-link, links-differ, links-same}
use Rattle.aeth_paths.proofs.priced.is_behind.Goals as goal

-- Two links differ.
pub returns-then-link-its : goal.returns-then-link-its
returns-then-link-its c behind rest =
    let more : c.link-its.result.0 < c.link-link.result.0 = ltb-true _ _ (true_from_IsTrue _ behind) in
    sym (ap is_lt (c.loop-i.invariant rest))
    ∙ links-differ (c.args.path.now ++ rest) c.args.other.now c.loop-i.i c.link-link.result
    c.link-its.result (front-link c.args.path.now rest c.loop-i.i c.link-link.result
    c.link-link.ensures) c.link-its.ensures c.if-link-its.true
    ∙ le-ltb c.link-link.result.0 c.link-its.result.0 (omega arith)

-- Two links are one.
pub loop-i-preserved : goal.loop-i-preserved
loop-i-preserved c rest =
    sym (links-same (c.args.path.now ++ rest) c.args.other.now c.loop-i.i c.link-link.result
    c.link-its.result (front-link c.args.path.now rest c.loop-i.i c.link-link.result
    c.link-link.ensures) c.link-its.ensures c.if-link-its.false)
    ∙ c.loop-i.invariant rest
