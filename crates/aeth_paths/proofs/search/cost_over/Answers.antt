use Rattle.std.proofs.Common.{◌≡◌, ◌∙◌, List, true, ap, arith, subst, sym, slice_get}
use Rattle.aeth_base.specs.declared.ids.LinkId.{LinkId}
use Rattle.aeth_chip.specs.{Nodes.is_router, Paths.to_in, Paths.to_of, declared.node.Link.Link}
use Rattle.aeth_chip.specs.{declared.node.Node.Node}
use Rattle.aeth_paths.specs.{Least.CostsAtLeast, Search.Field, Walk.field_of}
use Rattle.aeth_paths.proofs.{LeastLemmas.paths-cost, StepLemmas.link-below}
use Rattle.aeth_paths.proofs.search.cost_over.Goals as goal

-- The link is one of the chip.
pub link-end-requires : goal.link-end-requires
link-end-requires c =
    link-below c.args.task.now.chip.now.links c.args.prefix.now.end c.args.link c.requires.link

-- Its cost, and what leads on from its end.
pub returns : goal.returns
returns c =
    let task = c.args.task.now in
    let f : Field = field_of task c.args.goal.now in
    let at = ap (λ (ls : List Link). slice_get ls c.args.link.0) c.requires.task.book
    ∙ c.link-end.ensures.link in
    let ends : c.link-end.result.to ≡ to_of task.book.now.links c.args.link = sym (ap to_in at) in
    let told = c.least_onward-onward in
    paths-cost f c.args.prefix.now.path c.args.link c.args.prefix.now.cost c.entry.result
    told.result _ _ c.requires.goes c.requires.prefix.cost
    (omega (arith, c.entry.ensures, c.requires.goal.costs c.args.link.0))
    (omega (arith, c.saturating_sub-left.ensures, c.len.ensures.len))
    (subst (λ (n : Node). is_router n ≡ true → (longer : List LinkId)
    → CostsAtLeast f n longer c.saturating_sub-left.result told.result) ends told.ensures)
    (omega arith)
