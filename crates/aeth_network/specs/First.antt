-- The state of a network before its first cycle.
-- This project's own.
use Rattle.std.proofs.Common.{◌≡◌, ◌≤◌, ◌*◌, [], length, replicate, vec_capacity}
use Rattle.aeth_accepted.specs.Inputs.{Inputs}
use Rattle.aeth_schedule.specs.SessionStarts.{session_starts_of}
use Rattle.aeth_running.specs.{Network.routed_components, Routing.Routing}
use Rattle.aeth_network.specs.declared.state.State.{State}

-- The components are loaded, no channel accepts words, no session has gone, and there is room to note
-- the channel of each.
pub record IsFirstState (inputs : Inputs) (routing : Routing) (state : State) : Type 0 where
  pub components : state.components ≡ routed_components inputs routing
  pub untils : state.untils.items ≡ replicate (2 * length inputs.app.connections) 0
  pub outside : state.outside.items ≡ replicate (2 * length inputs.app.connections) 0
  pub replaced : state.replaced.items ≡ []
  pub capacity : length (session_starts_of inputs) ≤ vec_capacity state.replaced
