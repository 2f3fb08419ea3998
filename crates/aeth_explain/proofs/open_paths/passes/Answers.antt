use Rattle.std.proofs.Common.{◌∙◌, ◌+◌, ◌||◌, ap, drop, sym}
use Rattle.aeth_base.proofs.Lists.{drop-slice_get}
use Rattle.aeth_chip.specs.{Nodes.same_node, Paths.to_in, Paths.to_of, declared.node.Node.Node}
use Rattle.aeth_chip.specs.{declared.node.Node.TheVariants.Router}
use Rattle.aeth_paths.specs.Search.{passes}
use Rattle.aeth_explain.proofs.open_paths.passes.Goals as goal

-- This link ends there.
pub returns-then-ends_at : goal.returns-then-ends_at
returns-then-ends_at c =
    let to = to_of c.args.chip.now.links in
    let path = c.args.path.now in
    let node : Node = Router c.args.router in
    sym (ap (λ p. passes to p node) (drop-slice_get path c.loop-i.i c.link.result c.link.ensures)
    ∙ ap (λ b. b || passes to (drop (c.loop-i.i + 1) path) node)
    (ap (λ n. same_node n node) (ap to_in c.link-in-loop-i.ensures.link)
    ∙ sym c.ends_at.ensures ∙ c.if-ends_at.true)) ∙ c.loop-i.invariant
