use Rattle.std.proofs.Common.{sym, ◌∙◌, arith}
use Rattle.aeth_check.proofs.UnitLists.{lacking_end, lacking_here, lacking_on}
use Rattle.aeth_check.proofs.channels.first_lacking.Goals as goal

-- A unit of this connection lacks a side.
pub returns-in-Some : goal.returns-in-Some
returns-in-Some c =
    lacking_here c.args.grants.now c.args.groups.now c.loop-c.c _ c.loop-c.invariant c.in-Some.found
    (omega (arith, c.loop-c-test.true, c.requires.connections)) (sym c.lacking_with.ensures ∙ c.in-Some.is)

-- None of them does.
pub loop-c-preserved : goal.loop-c-preserved
loop-c-preserved c =
    lacking_on c.args.grants.now c.args.groups.now c.loop-c.c _ c.loop-c.invariant
    (omega (arith, c.loop-c-test.true, c.requires.connections)) (sym c.lacking_with.ensures ∙ c.in_default.is)

-- No connection is left.
pub returns : goal.returns
returns c =
    lacking_end c.args.grants.now c.args.groups.now c.loop-c.c _ c.loop-c.invariant
    (omega (arith, c.loop-c-test.false, c.requires.connections))
