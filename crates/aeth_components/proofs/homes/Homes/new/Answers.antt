use Rattle.std.proofs.Common.{arith}
use Rattle.aeth_components.proofs.homes.Homes.new.Goals as goal

-- Where the places are apart, no words are still to land.
pub returns : goal.returns
returns c = record {
  size = (
      let size = c.in_ok-vec.ensures.len in
      let own = c.in_ok-vec.field-0.ok.0 in
      omega arith);
  few = c.requires;
  at = λ apart number channel_state at waits.
      absurd (let none =
      c.await_none.ensures apart number channel_state at in omega (arith, none, waits));
}
