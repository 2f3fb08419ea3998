use Rattle.aeth_chip.{specs.Levels.AreLevels, specs.Levels.IsOrigin, proofs.Pushes.table-push}
use Rattle.std.proofs.Common.{◌+◌, length}
use Rattle.aeth_chip.proofs.distances.add_levels.Goals as goal

-- One more row.
pub returns : goal.returns
returns c =
    let origins = c.args.origins.now in
    rw c.in_ok-push.ensures.items
    (table-push (λ b row. AreLevels (IsOrigin origins) c.args.routers (c.args.routers + b)
    (length origins) row.items) c.args.ni c.args.rows.now.items c.in_ok-levels.levels
    c.requires.rows c.in_ok-levels.ensures)
