use Rattle.std.proofs.Common.{◌≡◌, fold, take}
use Rattle.aeth_running.specs.Network.{gone_with, until_with}
use Rattle.aeth_network.proofs.giving.start.Given as goal

-- The sessions so far have gone.
abbrev pub invariant-loop-place : goal.invariant-loop-place
invariant-loop-place l = record {
  components : l.components ≡ record l.fn.components {
    channel_states = fold gone_with l.fn.components.channel_states (take l.place l.session_starts);
  };
  untils : l.untils.items ≡ fold until_with l.fn.untils.items (take l.place l.session_starts);
}
