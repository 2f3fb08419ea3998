use Rattle.std.proofs.Common.{◌∙◌, List, None, Some, sym, subst, arith, le-leb}
use Rattle.std.proofs.lemmas.Bool.{both_ways}
use Rattle.aeth_base.specs.declared.ids.{LinkId.LinkId, NiId.NiId}
use Rattle.aeth_chip.specs.Paths.{IsLinkFrom, IsOnwardDistance}
use Rattle.aeth_chip.specs.declared.node.{Link.Link, Node.TheVariants.Ni, Node.TheVariants.Router}
use Rattle.aeth_paths.proofs.HopelessLemmas.{near-walk, never-walk, no-direct}
use Rattle.aeth_paths.proofs.least.may_lead.Goals as goal

-- No path leads there.
pub returns-in-None-clause-none : goal.returns-in-None-clause-none
returns-in-None-clause-none c given most path rest stands walks few =
    let task = c.args.task.now in
    let ni = c.args.ni in
    let apart : (a : NiId) (link : LinkId)
    → IsLinkFrom task.book.now.links link (Ni a) (Ni ni) → ⊥ =
    λ a link. subst (λ (ls : List Link). IsLinkFrom ls link (Ni a) (Ni ni) → ⊥)
    (sym c.requires.book) (no-direct task.chip.now c.requires.is_chip a ni link) in
    let far = subst (λ (ls : List Link). IsOnwardDistance ls c.args.router ni None)
    (c.requires.far ∙ sym c.requires.book) c.in-None.ensures.distance in
    never-walk task.book.now task.prices.now task.ask ni most apart (Router c.args.router) path far
    stands rest walks

-- The paths that lead there are longer.
pub returns-in-Some-clause-none : goal.returns-in-Some-clause-none
returns-in-Some-clause-none c given most path rest stands walks few =
    let task = c.args.task.now in
    let ni = c.args.ni in
    let more = c.in-Some.more in
    let apart : (a : NiId) (link : LinkId)
    → IsLinkFrom task.book.now.links link (Ni a) (Ni ni) → ⊥ =
    λ a link. subst (λ (ls : List Link). IsLinkFrom ls link (Ni a) (Ni ni) → ⊥)
    (sym c.requires.book) (no-direct task.chip.now c.requires.is_chip a ni link) in
    let far = subst (λ (ls : List Link). IsOnwardDistance ls c.args.router ni (Some more))
    (c.requires.far ∙ sym c.requires.book) c.in-Some.ensures.distance in
    let near = near-walk task.book.now task.prices.now task.ask ni most apart
    (Router c.args.router) path more far stands rest walks in
    both_ways _ given (le-leb more c.args.left (omega (arith, near, few)))
