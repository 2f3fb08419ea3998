use Rattle.std.proofs.Common.{◌≡◌, fold, take}
use Rattle.aeth_running.specs.Network.{accepted_with, outside_with}
use Rattle.aeth_network.proofs.giving.offer.Given as goal

-- The words so far are offered.
abbrev pub invariant-loop-one : goal.invariant-loop-one
invariant-loop-one l = record {
  components : l.components ≡ record l.fn.components {
    channel_states = fold (accepted_with l.time l.untils) l.fn.components.channel_states
        (take l.one-index l.offers);
  };
  outside : l.outside.items
      ≡ fold (outside_with l.time l.untils) l.fn.outside.items (take l.one-index l.offers);
}
