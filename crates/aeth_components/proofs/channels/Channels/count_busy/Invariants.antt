use Rattle.std.proofs.Common.{◌≡◌, ◌≤◌, ◌-◌, ◌==◌, length}
use Rattle.aeth_components.proofs.CountedLemmas.{AreCounted}
use Rattle.aeth_components.proofs.channels.Channels.count_busy.Given as goal

-- The channels at the interface so far are counted.
abbrev pub invariant-turns : goal.invariant-turns
invariant-turns l = record {
  are : AreCounted (λ i. i == l.fn.number) l.cycle l.parts l.fn.self.channel_states l.fn.landings
      l.self.channel_states
      l.landings l.channel;
  words : l.self.words ≡ l.fn.self.words;
  within : l.channel ≤ length l.self.channel_states;
}

abbrev pub decreases-turns : goal.decreases-turns
decreases-turns l = length l.self.channel_states - l.channel
