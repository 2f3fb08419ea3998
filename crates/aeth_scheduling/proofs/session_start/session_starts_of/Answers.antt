use Rattle.std.proofs.Common.{length}
use Rattle.aeth_scheduling.proofs.EnteringLemmas.{entered-all}
use Rattle.aeth_scheduling.proofs.session_start.session_starts_of.Goals as goal

-- The rows enter known use cases.
pub push_first-requires : goal.push_first-requires
push_first-requires c =
    rw c.deref.ensures.value (entered-all (length c.args.task.now.groups.now.uses) c.args.rows.now
    c.in_ok-entered.entered.items _ c.in-len1-up.len_at_least c.requires.rows c.in_ok-entered.ensures)

pub push_later-requires-clause-rows : goal.push_later-requires-clause-rows
push_later-requires-clause-rows c =
    rw c.deref.ensures.value (entered-all (length c.args.task.now.groups.now.uses) c.args.rows.now
    c.in_ok-entered.entered.items _ c.in-len1-up.len_at_least c.requires.rows c.in_ok-entered.ensures)
