use Rattle.aeth_check.proofs.ChannelLaws.{fits_path-Decides, fits_slots-Decides, has_side-Decides}
use Rattle.aeth_check.proofs.ConflictLaws.{conflicts-Decides}
use Rattle.aeth_check.proofs.SeatLaws.{is_one_seat-Decides}
use Rattle.aeth_check.proofs.laws.tests.Goals as goal

-- Seats by their numbers.
pub returns-clause-seats : goal.returns-clause-seats
returns-clause-seats c = is_one_seat-Decides

-- Grants by their unit and side.
pub returns-clause-sides : goal.returns-clause-sides
returns-clause-sides c = has_side-Decides

-- Paths link by link.
pub returns-clause-paths : goal.returns-clause-paths
returns-clause-paths c = fits_path-Decides

-- Slots by their count and gap.
pub returns-clause-slots : goal.returns-clause-slots
returns-clause-slots c = fits_slots-Decides

-- Conflicts slot by slot.
pub returns-clause-conflicts : goal.returns-clause-conflicts
returns-clause-conflicts c = conflicts-Decides
