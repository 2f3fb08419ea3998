use Rattle.std.proofs.Common.{◌*◌}
use Rattle.aeth_base.specs.Limits.{max_path_links}
use Rattle.aeth_chip.specs.Limits.{max_links, max_routers}
use Rattle.aeth_paths.specs.{Least.field_to, Walk.costs_of}
use Rattle.aeth_paths.proofs.LeastLemmas.{zeros-least, zeros-within}
use Rattle.aeth_paths.proofs.pairs.search.Goals as goal

-- Nothing is worked out yet.
pub fill-requires-clause-costs : goal.fill-requires-clause-costs
fill-requires-clause-costs g c = zeros-within (costs_of c.args.task.now) max_links

pub fill-requires-clause-least : goal.fill-requires-clause-least
fill-requires-clause-least g c =
    zeros-least (field_to c.args.task.now c.args.target.now) (max_path_links * max_routers)
