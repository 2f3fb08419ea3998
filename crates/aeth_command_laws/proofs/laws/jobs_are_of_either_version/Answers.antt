use Rattle.aeth_command_laws.proofs.VersionLemmas.{designs-same, plans-same, refusals-same}
use Rattle.aeth_command_laws.proofs.VersionLemmas.{traced-same}
use Rattle.aeth_command_laws.proofs.laws.jobs_are_of_either_version.Goals as goal

-- A command reads the chip first, and then no file of its name.
pub returns-clause-designs : goal.returns-clause-designs
returns-clause-designs c = designs-same c.versions.ensures

pub returns-clause-refusals : goal.returns-clause-refusals
returns-clause-refusals c = refusals-same c.versions.ensures

pub returns-clause-plans : goal.returns-clause-plans
returns-clause-plans c = plans-same c.versions.ensures

pub returns-clause-traced : goal.returns-clause-traced
returns-clause-traced c = traced-same c.versions.ensures
