use Rattle.aeth_reconf.proofs.RowLemmas.{entries_within, is_switch}
use Rattle.aeth_reconf.proofs.laws.entries_stay_within.Goals as goal

-- A connection that both use cases have in one group has the same rows in both.
pub returns-clause-switch : goal.returns-clause-switch
returns-clause-switch c = is_switch

-- All that closes is cleared before anything opens.
pub returns-clause-within : goal.returns-clause-within
returns-clause-within c = entries_within
