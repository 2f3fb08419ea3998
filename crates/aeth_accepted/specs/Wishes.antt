-- What a channel wishes of the latency of its words, and a word that waits alone.
-- Latency of a single word: this project's own.
use Rattle.std.proofs.Common.{◌≡◌, ◌≤◌, ◌<◌, ℕ, ◌+◌, ◌-◌, length, slice_index}
use Rattle.aeth_base.specs.declared.ids.Channel.{Channel}
use Rattle.aeth_app.specs.App.{wish_of}
use Rattle.aeth_server.specs.PrivateServer.{PrivateServer, accepted, returned, sent}
use Rattle.aeth_report.specs.Design.{connection_at}
use Rattle.aeth_accepted.specs.Inputs.{Inputs, design_of}

-- The latency that a channel wishes.
abbrev pub latency_at : Inputs → Channel → ℕ
latency_at inputs channel =
    (wish_of (connection_at (design_of inputs) channel.conn) channel.side).latency

-- The i-th word is offered in cycle a, with all words before it sent and a credit left, and it can
-- still land within so many cycles.
pub record IsOfferedAlone (server : PrivateServer) (i a latency : ℕ) : Type 0 where
  pub least : 1 ≤ i
  pub most : i ≤ length (accepted server)
  pub offered : slice_index (accepted server) (i - 1) ≡ a
  pub alone : sent server a ≡ i - 1
  pub credit : sent server a < server.buffer + returned server (a + 1)
  pub in_time : a + latency < server.stop + server.shape.path_delay
