use Rattle.std.proofs.Common.{◌+◌}
use Rattle.aeth_components.specs.Components.{latched_of, moment_of}
use Rattle.aeth_refinement.proofs.Notes.{notes}
use Rattle.aeth_refinement.proofs.laws.landings_are_noted.Goals as goal

-- Each word at its own place.
pub returns : goal.returns
returns c = λ sessions ok channel events t enqueued old new follows are cycle first places placed.
    let last = latched_of old.words events t new.wires (moment_of old) in
    notes sessions ok channel events t enqueued old new c.turns_are_taken_alone.ensures.refilling
    c.turns_are_taken_alone.ensures.taking follows
    (c.switches_are_made.ensures sessions (t + 1) events old.parts enqueued old.wires _
    follows.wired_for are)
    cycle first places placed
    (c.landings_are_noted_alone.ensures t last.parts last.channel_states old.landings)
