use Rattle.aeth_paths.proofs.OpenFactLemmas.{is_open_list-Decides}
use Rattle.aeth_paths.proofs.OpenListLemmas.{open_steps-counted}
use Rattle.aeth_paths.proofs.laws.open_lists.Goals as goal

-- Link by link.
pub returns-clause-open : goal.returns-clause-open
returns-clause-open c = is_open_list-Decides

-- List by list.
pub returns-clause-steps : goal.returns-clause-steps
returns-clause-steps c = open_steps-counted
