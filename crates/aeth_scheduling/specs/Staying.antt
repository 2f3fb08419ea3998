-- Rows among use cases that are known, and connections that no such row closes.
--
--   AreEntered      rows that enter use cases of a list
--   IsKeptThroughout      a connection is kept between any two use cases of a list
-- Channels that go on through a switch: this project's own.
use Rattle.std.proofs.Common.{◌<◌, ℕ, All, Contains, IsTrue, List}
use Rattle.aeth_base.specs.declared.ids.UseId.{UseId}
use Rattle.aeth_group.specs.Members.{GroupsData, is_kept}
use Rattle.aeth_trace.specs.declared.switches.SwitchRow.{SwitchRow}
use Rattle.aeth_scheduling.specs.Made.{AreRows}

-- Rows between so many use cases, each of which enters one of a list of these.
pub record AreEntered (uses : ℕ) (entered : List UseId) (rows : List SwitchRow) : Type 0 where
  pub rows_are : AreRows uses rows
  pub known : All (λ u. u.0 < uses) entered
  pub each : All (λ row. Contains entered row.to) rows

-- A connection is kept by each switch between two use cases of a list.
abbrev pub IsKeptThroughout : GroupsData → List UseId → ℕ → Type 0
IsKeptThroughout groups entered c =
    (u v : UseId) → Contains entered u → Contains entered v → IsTrue (is_kept groups u.0 v.0 c)
