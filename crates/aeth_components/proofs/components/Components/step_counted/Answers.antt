use Rattle.std.proofs.Common.{[], subst}
use Rattle.aeth_components.proofs.CycleLemmas.{Cycle-switched}
use Rattle.aeth_components.specs.Components.{ComponentsCycle, ComponentsState}
use Rattle.aeth_components.proofs.components.Components.step_counted.Goals as goal

-- All phases are done behind the events.
pub returns-then-not-rests_in-clause-cycle : goal.returns-then-not-rests_in-clause-cycle
returns-then-not-rests_in-clause-cycle g c =
    Cycle-switched c.args.events.now c.args.cycle c.args.self.now c.step_all.new.self
    (subst (λ (one : ComponentsState). ComponentsCycle [] c.args.cycle one c.step_all.new.self)
    c.prepare.ensures c.step_all.ensures.cycle)

-- Or the cycle leaves all as it is behind them.
pub returns-else-not-rests_in-clause-cycle : goal.returns-else-not-rests_in-clause-cycle
returns-else-not-rests_in-clause-cycle g c =
    Cycle-switched c.args.events.now c.args.cycle c.args.self.now c.prepare.new.self
    (subst (λ (one : ComponentsState). ComponentsCycle [] c.args.cycle one c.prepare.new.self)
    c.prepare.ensures (c.rests_in.ensures c.if-not-rests_in.false))
