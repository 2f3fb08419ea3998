use Rattle.std.proofs.Common.{◌≤◌, length, arith}
use Rattle.aeth_trace.specs.{Channels.channel_number, Channels.list_at, Receivers.pulls_on}
use Rattle.aeth_trace.specs.{declared.receivers.PullRow.PullRow}
use Rattle.aeth_trace.proofs.IndexLemmas.{numbers_length}
use Rattle.aeth_trace.proofs.OrderLemmas.{until_few}
use Rattle.aeth_trace.proofs.PullLemmas.{change-last, change-later, change-steady}
use Rattle.aeth_trace.proofs.receivers.Receivers.next_change.Goals as goal

-- All rows of the channel are known.
pub returns-then-known-count-clause-last : goal.returns-then-known-count-clause-last
returns-then-known-count-clause-last c =
    let rows = c.self.inside.rows.items in
    let count = numbers_length c.self.inside.rows.items
    (pulls_on c.self.inside.rows.items c.args.channel)
    (list_at c.self.inside.index.lists.items (channel_number c.args.channel))
    (c.self.invariant.1 c.args.channel) in
    let all : length (pulls_on c.self.inside.rows.items c.args.channel) ≤ c.args.known =
    omega (arith, count, c.count.ensures, c.if-known-count.true) in
    change-last c.args.self.now c.args.channel c.args.cycle c.args.known
    (rw c.self.view_is at c.self.invariant.0) c.requires (rw c.self.view_is at all)

-- A row isn't known.
pub row-requires-clause-place : goal.row-requires-clause-place
row-requires-clause-place c =
    let count = numbers_length c.self.inside.rows.items
    (pulls_on c.self.inside.rows.items c.args.channel)
    (list_at c.self.inside.index.lists.items (channel_number c.args.channel))
    (c.self.invariant.1 c.args.channel) in
    let few = until_few (λ (row : PullRow). row.cycle) c.args.cycle
    (pulls_on c.args.self.now c.args.channel) in
    let known : c.args.known ≤ length (pulls_on c.args.self.now c.args.channel) =
    omega (arith, few, c.requires) in
    rw c.deref.ensures.value
    (omega (arith, count, c.count.ensures, c.if-known-count.false, rw (← c.self.view_is) at known))

-- It is the next one.
pub returns-clause-later : goal.returns-clause-later
returns-clause-later c =
    change-later c.args.self.now c.args.channel c.args.cycle c.args.known
    (rw c.self.view_is at c.self.invariant.0) c.requires c.row.result
    (rw (c.deref.ensures.value, c.self.view_is) at c.row.ensures)

pub returns-clause-steady : goal.returns-clause-steady
returns-clause-steady c =
    change-steady c.args.self.now c.args.channel c.args.cycle c.args.known
    (rw c.self.view_is at c.self.invariant.0) c.requires c.row.result
    (rw (c.deref.ensures.value, c.self.view_is) at c.row.ensures)
