use Rattle.std.proofs.Common.{◌+◌}
use Rattle.aeth_refinement.proofs.Following.{cycles, exacts, follow}
use Rattle.aeth_refinement.proofs.laws.cycles_are_cycles.Goals as goal

-- Part by part of the cycle.
pub returns-clause-cycle : goal.returns-clause-cycle
returns-clause-cycle c = λ sessions ok channel events t enqueued old new follows are cycle.
    cycles sessions ok channel events t enqueued old new c.turns_are_taken_alone.ensures.refilling
    c.turns_are_taken_alone.ensures.taking follows
    (c.switches_are_made.ensures sessions (t + 1) events old.parts enqueued old.wires _
    follows.wired_for are)
    cycle

pub returns-clause-follows : goal.returns-clause-follows
returns-clause-follows c = λ sessions ok channel events t enqueued old new follows are cycle.
    follow sessions ok channel events t enqueued old new c.turns_are_taken_alone.ensures.refilling
    c.turns_are_taken_alone.ensures.taking follows
    (c.switches_are_made.ensures sessions (t + 1) events old.parts enqueued old.wires _
    follows.wired_for are)
    cycle

pub returns-clause-exact : goal.returns-clause-exact
returns-clause-exact c = λ sessions ok channel events t enqueued old new follows are cycle.
    exacts sessions ok channel events t enqueued old new c.turns_are_taken_alone.ensures.refilling
    c.turns_are_taken_alone.ensures.taking follows
    (c.switches_are_made.ensures sessions (t + 1) events old.parts enqueued old.wires _
    follows.wired_for are)
    cycle
