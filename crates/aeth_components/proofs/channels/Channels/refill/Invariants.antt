use Rattle.std.proofs.Common.{◌≡◌, ◌≤◌, ◌<◌, ◌-◌, length}
use Rattle.aeth_base.specs.Marks.{bit_of}
use Rattle.aeth_components.proofs.SkipLemmas.{HaveTurned}
use Rattle.aeth_components.specs.{Phases.refilled, Enqueuing.AreEnqueuing, Injecting.AreInjecting}
use Rattle.aeth_components.proofs.channels.Channels.refill.Given as goal

-- The channels so far have had their turns.
abbrev pub invariant-turns : goal.invariant-turns
invariant-turns l = record {
  turns : HaveTurned (refilled l.fn.self.words l.cycle)
      (record { parts = l.fn.parts; channel_states = l.fn.self.channel_states })
      (record { parts = l.parts; channel_states = l.self.channel_states }) l.number;
  words : l.self.words ≡ l.fn.self.words;
  within : l.number ≤ length l.self.channel_states;
  enqueuing : AreEnqueuing l.parts l.self.channel_states l.enqueuing;
  injecting : AreInjecting l.parts l.injecting;
  marked : l.number < length l.self.channel_states → bit_of l.enqueuing.marks l.number ≡ 1;
}

abbrev pub decreases-turns : goal.decreases-turns
decreases-turns l = length l.self.channel_states - l.number
