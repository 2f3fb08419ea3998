use Rattle.std.proofs.Common.{◌≡◌, ◌-◌, ◌++◌, ◌∷◌, [], None, take}
use Rattle.std.specs.List.{flat_map}
use Rattle.aeth_chip.specs.{Paths.to_of, declared.node.Node.TheVariants.Router}
use Rattle.aeth_paths.specs.Task.{links_from}
use Rattle.aeth_explain.specs.Fronts.{first_open, lists_below}
use Rattle.aeth_explain.proofs.open_paths.+open_below.Given as goal

-- One link fewer may follow.
abbrev pub decreases-open_below : goal.decreases-open_below
decreases-open_below l = l.left

-- Nothing is open over the links so far.
abbrev pub invariant-loop-port : goal.invariant-loop-port
invariant-loop-port l =
    let chip = l.listed.chip.now in
    first_open chip l.listed.trial.now l.listed.cuts.now
    (flat_map (λ link. lists_below chip.links (l.left - 1) (to_of chip.links link)
    (l.front.path ++ link ∷ [])) (take l.port (links_from chip.links (Router l.front.router))))
    ≡ None
