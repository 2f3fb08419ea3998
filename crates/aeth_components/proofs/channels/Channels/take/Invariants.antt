use Rattle.std.proofs.Common.{◌≡◌, ◌≤◌, ◌-◌, length}
use Rattle.aeth_components.proofs.SkipLemmas.{HaveTurned}
use Rattle.aeth_components.specs.{Injecting.AreInjecting, Phases.pulled}
use Rattle.aeth_components.proofs.channels.Channels.take.Given as goal

-- The channels so far have had their turns.
abbrev pub invariant-turns : goal.invariant-turns
invariant-turns l = record {
  turns : HaveTurned (pulled l.cycle)
      (record { parts = l.fn.parts; channel_states = l.fn.self.channel_states })
      (record { parts = l.parts; channel_states = l.self.channel_states }) l.number;
  words : l.self.words ≡ l.fn.self.words;
  within : l.number ≤ length l.self.channel_states;
  injecting : AreInjecting l.parts l.injecting;
}

abbrev pub decreases-turns : goal.decreases-turns
decreases-turns l = length l.self.channel_states - l.number
