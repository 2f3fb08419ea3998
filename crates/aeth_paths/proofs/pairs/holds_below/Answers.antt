use Rattle.std.proofs.Common.{sym}
use Rattle.aeth_paths.proofs.OnceLemmas.{none_below}
use Rattle.aeth_paths.proofs.pairs.holds_below.Goals as goal

-- All of the list are below it.
pub returns-then-ni-below : goal.returns-then-ni-below
returns-then-ni-below c =
    sym (none_below c.args.list.now c.args.below c.args.ni c.requires c.if-ni-below.true)
