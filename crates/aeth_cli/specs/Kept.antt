-- Channels that a switch keeps.
-- Channels that go on through a switch: this project's own.
use Rattle.std.proofs.Common.{ℕ, ◌≡◌, ◌≤◌, Contains, IfSome}
use Rattle.aeth_accepted.specs.Inputs.{Inputs, design_of, row_at, run_of}
use Rattle.aeth_base.specs.declared.ids.Channel.{Channel}
use Rattle.aeth_group.specs.Members.{group_at, groups_of}
use Rattle.aeth_ni.specs.declared.write.Write.{Write}
use Rattle.aeth_reconf.specs.Rows.{Touches, switch_program}
use Rattle.aeth_report.specs.{Flows.sessions_in, declared.session.Session.Session}
use Rattle.aeth_trace.specs.{Switches.go_after, declared.switches.SwitchRow.SwitchRow}

-- One session of a channel goes through the switch of a row, which leaves use case u: by the grants of the
-- group of u it goes by the cycle of the row, and it accepts words until the channels go that the row
-- opens, at least. No write of the switch names a slot or the queue of the channel.
pub record GoesThrough (inputs : Inputs) (channel : Channel) (u : ℕ) (row : SwitchRow) : Type 0 where
  pub session : Session
  pub has : Contains (sessions_in (run_of inputs) channel.conn.0) session
  pub group : session.group.0 ≡ group_at (groups_of inputs.app) u
  pub before : session.go ≤ row.cycle
  pub behind : IfSome session.close (λ close. go_after (run_of inputs).spans u row ≤ close.until)
  pub untouched : (write : Write)
      → Contains (switch_program (groups_of inputs.app) (row_at (design_of inputs)) u row.to.0) write
      → Touches write (row_at (design_of inputs) (group_at (groups_of inputs.app) u) channel) → ⊥
