-- What the grants of a plan are for: units with both sides, paths between the seats of the cores,
-- and slots that suffice.
--
--   has_side      a grant for a unit's side
--   lacking_side, first_lacking      the first side without a grant
--   fits_path      whether a grant's path leads from the sender's seat to the receiver's
--   fits_slots      whether a grant's slots suffice for what the channel needs and wishes
-- Connections: after Æthereal (2005). The rest: this project's own.
use Rattle.std.proofs.Common.{ℕ, Bool, false, List, [], ◌∷◌, Option, Some, None, if◌then◌else◌}
use Rattle.std.specs.List.{list_any}
use Rattle.aeth_base.specs.declared.ids.{LinkId.LinkId, NiId.NiId, Side.Side, Side.TheVariants.Fwd}
use Rattle.aeth_base.specs.declared.ids.{Side.TheVariants.Back, Unit.Unit as GroupUnit}
use Rattle.aeth_slots.specs.Choice.{is_suitable}
use Rattle.aeth_chip.specs.Chip.{ChipData}
use Rattle.aeth_app.specs.{App.AppData, Connections.receiver, Connections.sender, Rates.need_of}
use Rattle.aeth_app.specs.{declared.connection.Connection.Connection}
use Rattle.aeth_group.specs.declared.grant.{Grant.Grant, SeatLine.SeatLine}
use Rattle.aeth_plan.specs.{Accepted.gap_for, UnitGrants.is_for, Seated.ni_of}
use Rattle.aeth_check.specs.Routes.{is_admissible}

-- ---- Units

-- Whether some grant is for a side of a unit.
abbrev pub has_side : List Grant → GroupUnit → Side → Bool
has_side grants unit side = list_any (is_for unit side) grants

-- The first side of a unit without a grant.
abbrev pub lacking_side : List Grant → GroupUnit → Option Side
lacking_side grants unit =
    if has_side grants unit Fwd
    then (if has_side grants unit Back then None else Some Back)
    else Some Fwd

-- A side of a unit, where there is one, and else what is found later.
abbrev pub side_or : GroupUnit → Option Side → Option (GroupUnit × Side)
    → Option (GroupUnit × Side)
side_or unit None later = later
side_or unit (Some side) later = Some (unit, side)

-- The first side of the units that has no grant.
abbrev pub first_lacking : List Grant → List GroupUnit → Option (GroupUnit × Side)
first_lacking grants [] = None
first_lacking grants (unit ∷ units) =
    side_or unit (lacking_side grants unit) (first_lacking grants units)

-- ---- Paths

-- Whether a path may lead from an interface to an interface, both of which may be missing.
abbrev pub leads : ChipData → ℕ → Option NiId → Option NiId → List LinkId → Bool
leads chip detour None to path = false
leads chip detour (Some a) None path = false
leads chip detour (Some a) (Some b) path = is_admissible chip detour a b path

-- Whether a grant of a connection, which may be missing, has a path from its sender's seat to its
-- receiver's.
abbrev pub fits_path : ChipData → AppData → List SeatLine → Grant → Option Connection → Bool
fits_path chip app seats grant None = false
fits_path chip app seats grant (Some connection) =
    leads chip app.detour (ni_of seats (sender connection grant.side))
    (ni_of seats (receiver connection grant.side)) grant.path

-- ---- Slots

-- Whether the slots of a grant of a connection, which may be missing, suffice.
abbrev pub fits_slots : ChipData → AppData → Grant → Option Connection → Bool
fits_slots chip app grant None = false
fits_slots chip app grant (Some connection) =
    is_suitable (need_of app.slots connection grant.side) (gap_for chip connection grant)
    grant.slots
