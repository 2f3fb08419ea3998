use Rattle.std.proofs.Common.{rules}
use Rattle.aeth_network.proofs.state.State.of.Goals as goal

-- All is as it is before the first cycle.
pub returns : goal.returns
returns c = record {
  components = c.in_ok-components.ensures;
  untils = search rules;
  outside = search rules;
  replaced = search rules;
  capacity = search rules;
}
