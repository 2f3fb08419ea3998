use Rattle.std.{proofs.Common.◌≡◌, proofs.Common.◌++◌, proofs.Common.drop, specs.List.flat_map}
use Rattle.aeth_text.specs.Spelling.{text_of_lines}
use Rattle.aeth_report.specs.LogText.{session_lines}
use Rattle.aeth_report.proofs.text.push_sessions.Given as goal

-- The sessions that are left are still to be printed.
abbrev pub invariant-loop-session : goal.invariant-loop-session
invariant-loop-session l =
    l.out.items ++ text_of_lines
    (flat_map (session_lines l.name l.side) (drop l.session-index l.sessions))
    ≡ l.fn.out.items ++ text_of_lines (flat_map (session_lines l.name l.side) l.sessions)
