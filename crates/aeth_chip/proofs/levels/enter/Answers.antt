use Rattle.std.proofs.Common.{◌<◌, ◌⊎◌, inl, inr, arith}
use Rattle.aeth_chip.proofs.OriginLemmas.{enters-set}
use Rattle.aeth_chip.proofs.levels.enter.Goals.{else-from-routers-via-then-from-routers+else-to-routers}
use Rattle.aeth_chip.proofs.levels.enter.Goals.{else-from-routers-via-else-from-routers}
use Rattle.aeth_chip.proofs.levels.enter.Goals as goal

-- The link was entered.
pub returns : goal.returns
returns c =
    let router : (c.node_place-from.result < c.args.routers)
    ⊎ (c.node_place-to.result < c.args.routers) =
    elim c.else-from-routers.branch [
      | else-from-routers-via-then-from-routers+else-to-routers w ↦ inr w.if-to-routers.false
      | else-from-routers-via-else-from-routers w ↦ inl w.if-from-routers.false
    ] in
    let begins = c.node_place-from.ensures in
    let ends = c.node_place-to.ensures in
    enters-set c.args.routers c.args.link.now c.args.origins.now c.node_place-from.result
    c.node_place-to.result begins ends router (omega (arith, ends, c.requires.to))
    (omega (arith, begins, c.requires.from))
