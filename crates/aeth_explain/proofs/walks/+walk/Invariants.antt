use Rattle.std.proofs.Common.{◌-◌, ◌++◌, ◌∷◌, [], false, take}
use Rattle.std.specs.List.{flat_map}
use Rattle.aeth_chip.specs.{Paths.to_of, declared.node.Node.TheVariants.Router}
use Rattle.aeth_paths.specs.Task.{links_from}
use Rattle.aeth_explain.specs.{Fronts.lists_below, Walks.IsWalked}
use Rattle.aeth_explain.proofs.walks.+walk.Given as goal

-- One link fewer may follow.
abbrev pub decreases-walk : goal.decreases-walk
decreases-walk l = l.left

-- No live path is among the lists over the links so far, and their shortest cuts are put down.
abbrev pub invariant-loop-port : goal.invariant-loop-port
invariant-loop-port l =
    let chip = l.listed.chip.now in
    IsWalked chip l.judge.groups l.listed.trial.now
    (flat_map (λ link. lists_below chip.links (l.left - 1) (to_of chip.links link)
    (l.front.path ++ link ∷ [])) (take l.port (links_from chip.links (Router l.front.router))))
    l.fn.cuts false l.cuts
