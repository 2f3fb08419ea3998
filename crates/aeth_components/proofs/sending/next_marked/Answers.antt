use Rattle.std.proofs.Common.{◌<◌, ◌+◌, ◌-◌, ◌%◌, arith, length}
use Rattle.aeth_components.proofs.NextLemmas.{mod-further}
use Rattle.aeth_components.proofs.sending.next_marked.Goals as goal

-- Their slots are those from the first one up to the next that is marked.
pub returns-clause-none : goal.returns-clause-none
returns-clause-none c = λ cycle number over below bit.
    let slots = c.args.injecting.now.slots in
    let from = c.args.from in
    let next = c.next_slot-next.ensures in
    let own = c.slot-slot.ensures in
    let least = c.min.ensures in
    let less : from % length slots + (cycle - from) < length slots =
    omega (arith, over, below, own, least, next.from, next.end) in
    let place = mod-further (length slots) from cycle over less in
    next.none (cycle % length slots) number (omega (arith, place, own))
    (omega (arith, place, own, over, below, least, next.from)) bit
