use Rattle.std.proofs.Common.{◌≡◌, [], map}
use Rattle.aeth_report.specs.Channels.{channels_of}
use Rattle.aeth_network.specs.Records.{channel_from}
use Rattle.aeth_network.proofs.making_log.first_channels.Given as goal

-- The channels so far.
abbrev pub invariant-loop-c : goal.invariant-loop-c
invariant-loop-c l = l.channels.items ≡ map (channel_from [] 0 []) (channels_of l.c)
