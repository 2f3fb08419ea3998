use Rattle.std.proofs.Common.{◌≡◌}
use Rattle.aeth_server.specs.{ChannelShape.shape_of, Progress.progress_of, Shape.channel_latency}
use Rattle.aeth_server.proofs.due_times.deadline.Given as goal

abbrev pub invariant-loop-word : goal.invariant-loop-word
invariant-loop-word l =
    let granted = shape_of l.shape in
    l.due ≡ progress_of granted.size granted.rate (channel_latency granted) l.arrivals l.word
