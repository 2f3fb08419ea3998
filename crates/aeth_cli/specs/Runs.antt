-- What holds of each run of accepted inputs: each field is one sentence.
--
-- Slots, flits and paths after Æthereal (2005), due cycles after the latency-rate server (Stiliadis and
-- Varma, 1998). The sentences are this project's own.
use Rattle.std.proofs.Common.{◌≡◌, ◌≤◌, ◌<◌, ◌+◌, ℕ, Contains, IsTrue, Some, length, slice_get}
use Rattle.std.specs.Option.{option_to_list}
use Rattle.aeth_accepted.specs.Inputs.{Inputs, run_of}
use Rattle.aeth_accepted.specs.Wishes.{IsOfferedAlone, latency_at}
use Rattle.aeth_base.specs.declared.ids.Channel.{Channel}
use Rattle.aeth_clocked.specs.Wires.{flit_on}
use Rattle.aeth_group.specs.Members.{groups_of, is_kept}
use Rattle.aeth_report.specs.{Alike.IsGivenAlike, Bounds.IsLandingOf, Bounds.IsLoggedBy}
use Rattle.aeth_report.specs.{Bounds.IsLoggedInTime, Carries.carries, Flows.flow_of}
use Rattle.aeth_report.specs.{Flows.server_of, Flows.sessions_in, RunLog.channel_log}
use Rattle.aeth_report.specs.{RunLog.flow_log, declared.log.Landing.Landing}
use Rattle.aeth_report.specs.{declared.session.Session.Session}
use Rattle.aeth_running.specs.{Network.first_network, Network.played, Routing.ByHeaders}
use Rattle.aeth_server.specs.Landing.{IsDue}
use Rattle.aeth_table_network.specs.Tables.{tables_of}
use Rattle.aeth_trace.specs.declared.switches.SwitchRow.{SwitchRow}
use Rattle.aeth_cli.specs.Kept.{GoesThrough}

-- What holds of the run of inputs.
pub record HoldsOfRun (inputs : Inputs) : Type 0 where
  -- A link carries one flit at most in a slot.
  pub one_flit : (l t : ℕ) → length (carries (run_of inputs) l t) ≤ 1
  -- In the network the first wire of the link has just that flit, or none.
  pub wires : (l t : ℕ) → t < inputs.cycles → l < length inputs.chip.links
      → option_to_list (flit_on (played (t + 1) (first_network inputs ByHeaders)).components.wires l)
      ≡ carries (run_of inputs) l t
  -- So it has in the network whose routers look slot tables up.
  pub wires_by_tables : (l t : ℕ) → t < inputs.cycles → l < length inputs.chip.links
      → option_to_list
      (flit_on (played (t + 1) (first_network inputs (tables_of inputs))).components.wires l)
      ≡ carries (run_of inputs) l t
  -- Row k of a session is its word k + 1, in the cycle in which it lands on the session's private
  -- server: words land in order, and once.
  pub landings : (channel : Channel) (session : Session)
      → Contains (sessions_in (run_of inputs) channel.conn.0) session → (k : ℕ) (row : Landing)
      → slice_get (flow_log inputs.cycles (flow_of (run_of inputs) channel session)).rows k ≡ Some row
      → IsLandingOf (run_of inputs) channel session (k + 1) row
  -- The log of a channel rests on nothing but what the channel is given: in two runs that give it the
  -- same it is the same, whatever all else is.
  pub independent : (other : Inputs) (channel : Channel)
      → IsGivenAlike (run_of inputs) (run_of other) channel
      → channel_log (run_of inputs) channel ≡ channel_log (run_of other) channel
  -- A word that is due by a cycle has landed by then, and in time, while its receiver keeps its declared
  -- delay.
  pub deadline : (channel : Channel) (session : Session)
      → Contains (sessions_in (run_of inputs) channel.conn.0) session → (i t : ℕ)
      → IsDue (server_of (run_of inputs) channel session) i t → t < inputs.cycles
      → IsLoggedBy (flow_log inputs.cycles (flow_of (run_of inputs) channel session)) i t
  pub in_time : (channel : Channel) (session : Session)
      → Contains (sessions_in (run_of inputs) channel.conn.0) session → (i t : ℕ)
      → IsDue (server_of (run_of inputs) channel session) i t → t < inputs.cycles
      → IsLoggedInTime (server_of (run_of inputs) channel session)
      (flow_log inputs.cycles (flow_of (run_of inputs) channel session)) i
  -- A word that waits alone, with a credit left, lands within the latency that its channel wishes,
  -- whatever its receiver does.
  pub single_word : (channel : Channel) (session : Session)
      → Contains (sessions_in (run_of inputs) channel.conn.0) session → (i a : ℕ)
      → IsOfferedAlone (server_of (run_of inputs) channel session) i a (latency_at inputs channel)
      → a + latency_at inputs channel < inputs.cycles
      → IsLoggedBy (flow_log inputs.cycles (flow_of (run_of inputs) channel session)) i
      (a + latency_at inputs channel)
  -- A channel that a switch keeps goes through it untouched, in one session.
  pub kept : (k : ℕ) (last next : SwitchRow) (channel : Channel)
      → slice_get inputs.switches k ≡ Some last → slice_get inputs.switches (k + 1) ≡ Some next
      → IsTrue (is_kept (groups_of inputs.app) last.to.0 next.to.0 channel.conn.0)
      → GoesThrough inputs channel last.to.0 next
