use Rattle.std.proofs.Common.{◌∙◌}
use Rattle.aeth_trace.specs.{Receivers.pulls_on, declared.receivers.PullRow.PullRow}
use Rattle.aeth_trace.proofs.{OrderLemmas.until_few, PullLemmas.pull_of-first}
use Rattle.aeth_trace.proofs.receivers.Receivers.next_pull.Goals as goal

-- There are so many rows.
pub pull_of-requires : goal.pull_of-requires
pull_of-requires c =
    rw (c.next_until.ensures, c.deref.ensures.value, c.self.view_is)
    (until_few (λ (row : PullRow). row.cycle) c.args.cycle
    (pulls_on c.args.self.now c.args.channel))

-- They are the first ones of the channel.
pub returns-clause-gives : goal.returns-clause-gives
returns-clause-gives c =
    c.pull_of.ensures
    ∙ rw (c.next_until.ensures, c.deref.ensures.value, c.self.view_is)
    (pull_of-first c.args.self.now c.args.channel c.args.cycle
    (rw c.self.view_is at c.self.invariant.0))
