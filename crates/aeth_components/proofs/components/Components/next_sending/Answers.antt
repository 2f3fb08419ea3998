use Rattle.aeth_components.proofs.components.Components.next_sending.Goals as goal
use Rattle.aeth_components.proofs.SeenCycle.{IsFirst-seen}

-- Who sends is the same, whatever routers and stages hold.
pub returns : goal.returns
returns c =
    let all = c.self.inside in
    rw (← c.self.view_is) (IsFirst-seen all.wires all.parts.items c.args.from c.args.to
    c.next_among.result (rw c.deref.ensures.value at c.next_among.ensures))
