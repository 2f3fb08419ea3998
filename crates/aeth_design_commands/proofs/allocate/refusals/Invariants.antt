use Rattle.std.proofs.Common.{◌≡◌, ◌++◌, drop, flat_map}
use Rattle.aeth_design_commands.specs.Allocate.{refusal_text}
use Rattle.aeth_design_commands.proofs.allocate.refusals.Given as goal

-- The lines of the units that are left are still to be put behind the text.
abbrev pub invariant-loop-unit : goal.invariant-loop-unit
invariant-loop-unit l =
    l.text.items ++ flat_map (refusal_text l.app) (drop l.unit-index l.refused)
    ≡ flat_map (refusal_text l.app) l.refused
