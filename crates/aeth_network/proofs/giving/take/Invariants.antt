use Rattle.std.proofs.Common.{◌≡◌, fold, take}
use Rattle.aeth_running.specs.Network.{taking_with}
use Rattle.aeth_network.proofs.giving.take.Given as goal

-- The rows so far are done.
abbrev pub invariant-loop-one : goal.invariant-loop-one
invariant-loop-one l = l.components ≡ record l.fn.components {
  channel_states = fold taking_with l.fn.components.channel_states (take l.one-index l.takes);
}
