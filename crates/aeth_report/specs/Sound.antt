-- What a run rests on: plain facts that an accepted plan, the spans of its switches, and switches that
-- were read with these spans give.
-- This project's own.
use Rattle.std.proofs.Common.{◌≡◌, ◌≤◌, ◌<◌, ℕ, IsTrue, List, All, Contains, Ok, Some, length}
use Rattle.std.proofs.Common.{slice_get}
use Rattle.aeth_base.specs.Limits.{max_cycles, max_path_delay}
use Rattle.aeth_base.specs.declared.ids.{Channel.Channel, LinkId.LinkId}
use Rattle.aeth_chip.specs.{Limits.max_links, Paths.path_delay, declared.node.Link.Link}
use Rattle.aeth_group.specs.{Conflict.Conflict, Members.group_at, Members.has_at}
use Rattle.aeth_group.specs.{declared.grant.Grant.Grant}
use Rattle.aeth_trace.specs.{Limits.max_rows, Spans.span_of, Switches.are_apart}
use Rattle.aeth_report.specs.{Design.Design, Design.grant_at, Flows.Run, Sessions.closes}

-- A flit is on the path for some cycles, and not for too many.
pub record HasDelay (links : List Link) (path : List LinkId) : Type 0 where
  pub some : 1 ≤ path_delay links path
  pub few : path_delay links path ≤ max_path_delay

-- What holds of the grants of an accepted plan.
pub record AreGranted (design : Design) : Type 0 where
  -- Each channel of a use case has a grant with a path in the group of the use case.
  pub paths : (u : ℕ) (channel : Channel) → IsTrue (has_at design.groups u channel.conn.0)
      → HasDelay design.chip.links (grant_at design channel (group_at design.groups u)).path
  -- Slots are of the chip's table.
  pub sizes : (grant : Grant) → Contains design.grants grant
      → grant.slots.size ≡ design.chip.slots
  -- No path has a link twice.
  pub once : (grant : Grant) (i j : ℕ) (link : LinkId) → Contains design.grants grant
      → slice_get grant.path i ≡ Some link → slice_get grant.path j ≡ Some link → i ≡ j
  -- No two grants conflict.
  pub clear : (a b : Grant) → Contains design.grants a → Contains design.grants b
      → Conflict design.groups design.chip.links a b → a ≡ b

-- What a run rests on.
pub record IsSound (run : Run) : Type 0 where
  pub granted : AreGranted run.design
  -- A switch takes long enough for what is under way on the channels that it closes.
  pub lags : (u v : ℕ) (channel : Channel) → v < length run.design.groups.uses
      → IsTrue (closes run.design.groups u v channel.conn.0)
      → path_delay run.design.chip.links
      (grant_at run.design channel (group_at run.design.groups u)).path ≤ (span_of run.spans u v).0
  -- Each switch enters a known use case.
  pub known : All (λ row. row.to.0 < length run.design.groups.uses) run.switches
  -- None begins before the one before it is done.
  pub apart : are_apart run.spans run.switches ≡ Ok tt

-- A run within the limits: its groups are of its application, and it has not too many links, words
-- and cycles.
pub record IsWithinLimits (run : Run) : Type 0 where
  pub connections : run.design.groups.connections ≡ length run.design.app.connections
  pub links : length run.design.chip.links ≤ max_links
  pub words : length run.words ≤ max_rows
  pub cycles : run.cycles ≤ max_cycles
