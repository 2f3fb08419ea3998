use Rattle.std.{proofs.Common.◌≡◌, proofs.Common.◌++◌, proofs.Common.drop, specs.List.flat_map}
use Rattle.aeth_text.specs.Spelling.{text_of_lines}
use Rattle.aeth_report.specs.LogText.{channel_lines}
use Rattle.aeth_report.proofs.text.push_channels.Given as goal

-- The channels that are left are still to be printed.
abbrev pub invariant-loop-one : goal.invariant-loop-one
invariant-loop-one l =
    l.out.items ++ text_of_lines
    (flat_map (channel_lines l.app) (drop l.one-index l.channels))
    ≡ l.fn.out.items ++ text_of_lines (flat_map (channel_lines l.app) l.channels)
