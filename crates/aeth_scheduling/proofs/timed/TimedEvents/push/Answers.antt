use Rattle.std.proofs.Common.{◌≡◌, ◌++◌, ◌∷◌, [], rules}
use Rattle.aeth_scheduling.proofs.BesideLemmas.{beside-more}
use Rattle.aeth_scheduling.proofs.timed.TimedEvents.push.Goals as goal

-- One more event with its cycle.
pub returns : goal.returns
returns c =
    let cycles : c.push-2.new.self.items ≡ c.self.inside.cycles.items ++ c.args.cycle ∷ [] =
    search (rules, c.push-2.ensures.items, c.is_err.ensures.value, c.if-is_err.false) in
    rw (← c.self.view_is, c.in_ok-push.ensures.items, cycles)
    (beside-more c.self.inside.events.items c.self.inside.cycles.items c.args.event c.args.cycle
    c.self.invariant)
