use Rattle.std.{proofs.Common.◌≡◌, proofs.Common.map, specs.List.range_with_len}
use Rattle.aeth_server.specs.{ChannelShape.shape_of, Progress.progress_of, Shape.channel_latency}
use Rattle.aeth_running.specs.FirstLog.{first_row, rows_of}
use Rattle.aeth_network.proofs.making_log.first_rows.Given as goal

-- The rows so far, and how far their due times are.
abbrev pub invariant-loop-place : goal.invariant-loop-place
invariant-loop-place l =
    let shape = shape_of l.session_start.shape in
    record {
      rows : l.rows.items ≡ map (first_row l.words l.session_start) (range_with_len 0 l.place);
      due : l.due ≡ progress_of shape.size shape.rate (channel_latency shape)
          (map (λ row. row.cycle) (rows_of l.words l.session_start)) l.place;
    }
