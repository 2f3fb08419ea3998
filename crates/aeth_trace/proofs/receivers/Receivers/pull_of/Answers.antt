use Rattle.std.proofs.Common.{◌≡◌, ◌+◌, ◌-◌, arith, sym}
use Rattle.aeth_trace.{specs.Receivers.pulls_on, proofs.PullLemmas.pull_of-last}
use Rattle.aeth_trace.proofs.receivers.Receivers.pull_of.Goals as goal

-- The row before the place is the last of so many.
pub returns : goal.returns
returns c =
    let at = rw (c.deref.ensures.value, c.self.view_is) at c.row.ensures in
    let count : c.args.count - 1 + 1 ≡ c.args.count = omega arith in
    let last = pull_of-last (pulls_on c.args.self.now c.args.channel) (c.args.count - 1)
    c.row.result at in
    sym (rw count at last)
