use Rattle.std.proofs.Common.{ap, sym, ◌∙◌}
use Rattle.aeth_chip.specs.{Nodes.ends_at, declared.node.Node.TheVariants.Router}
use Rattle.aeth_chip.specs.{PathTests.link_passes}
use Rattle.aeth_check.proofs.Walks.{any_here, any_on}
use Rattle.aeth_check.proofs.routes.comes_to.Goals as goal

-- The link at this place ends there.
pub returns-then-ends_at : goal.returns-then-ends_at
returns-then-ends_at c =
    any_here _ c.args.path.now c.loop-i.i c.link.result _ c.link.ensures
    (ap (link_passes (ends_at (Router c.args.router))) c.link-in-loop-i.ensures.link
    ∙ sym c.ends_at.ensures ∙ c.if-ends_at.true) c.loop-i.invariant

-- It doesn't, so a link behind it does, if any.
pub loop-i-preserved : goal.loop-i-preserved
loop-i-preserved c =
    any_on _ c.args.path.now c.loop-i.i c.link.result _ c.link.ensures
    (ap (link_passes (ends_at (Router c.args.router))) c.link-in-loop-i.ensures.link
    ∙ sym c.ends_at.ensures ∙ c.if-ends_at.false) c.loop-i.invariant
