-- The grants for a side of a unit, in a plan's order. This project's own.
use Rattle.std.proofs.Common.{◌==◌, ◌&&◌, Bool}
use Rattle.aeth_base.specs.Sides.{same_side}
use Rattle.aeth_base.specs.declared.ids.{Side.Side, Unit.Unit as GroupUnit}
use Rattle.aeth_group.specs.declared.grant.Grant.{Grant}
use Rattle.aeth_plan.specs.Plan.{grant_before}

-- Whether a grant is for a side of a unit.
abbrev pub is_for : GroupUnit → Side → Grant → Bool
is_for unit side grant = grant.unit.conn.0 == unit.conn.0
    && (grant.unit.group.0 == unit.group.0 && same_side grant.side side)

-- A grant that is sought, with any path and slots.
abbrev pub sought : GroupUnit → Side → Grant → Grant
sought unit side grant =
    record { unit = unit; side = side; path = grant.path; slots = grant.slots }

-- Whether a grant comes before those for a side of a unit.
abbrev pub is_before : GroupUnit → Side → Grant → Bool
is_before unit side grant = grant_before grant (sought unit side grant)
