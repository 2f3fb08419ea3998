use Rattle.std.proofs.Common.{◌≡◌, ◌∙◌, ◌≤◌, length, sym, ap, arith}
use Rattle.std.specs.Ordering.{is_lt}
use Rattle.aeth_paths.proofs.OrderLemmas.{before-links, links-differ, links-end, links-same}
use Rattle.aeth_paths.proofs.priced.comes_before.Goals as goal

-- Two links differ.
pub returns-then-link-its : goal.returns-then-link-its
returns-then-link-its c =
    let path = c.args.path.now in
    let other = c.args.other.now.path in
    sym (links-differ path other c.loop-i.i c.link-link.result c.link-its.result
    c.link-link.ensures c.link-its.ensures c.if-link-its.true)
    ∙ ap is_lt c.loop-i.invariant
    ∙ before-links c.args.cost path c.args.other.now.cost other c.if-cost-other.false
    (omega (arith, c.len.ensures.len, c.len-2.ensures.len, c.if-len.false))

-- Two links are one.
pub loop-i-preserved : goal.loop-i-preserved
loop-i-preserved c =
    sym (links-same c.args.path.now c.args.other.now.path c.loop-i.i c.link-link.result
    c.link-its.result c.link-link.ensures c.link-its.ensures c.if-link-its.false)
    ∙ c.loop-i.invariant

-- All links are.
pub returns : goal.returns
returns c =
    let path = c.args.path.now in
    let other = c.args.other.now.path in
    let equal : length path ≡ length other =
    omega (arith, c.len.ensures.len, c.len-2.ensures.len, c.if-len.false) in
    let all : length path ≤ c.loop-i.i =
    omega (arith, c.loop-i-test.false, c.len-i-end.ensures.len) in
    sym (links-end path other c.loop-i.i all (omega (arith, all, equal)))
    ∙ ap is_lt c.loop-i.invariant
    ∙ before-links c.args.cost path c.args.other.now.cost other c.if-cost-other.false equal
