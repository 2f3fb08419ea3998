use Rattle.aeth_check.specs.Masks.{is_held}
use Rattle.std.proofs.Common.{◌∷◌, []}
use Rattle.aeth_check.proofs.conflicts.line_with.Goals as goal

-- The grant alone is held.
pub line_in-requires-clause-table : goal.line_in-requires-clause-table
line_in-requires-clause-table c = (
  is_held c.args.chip.now.links c.args.groups.now (c.args.one.now ∷ []),
  c.hold.ensures [] c.requires.empty,
)
