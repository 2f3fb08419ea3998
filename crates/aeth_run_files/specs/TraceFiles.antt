-- Files of traces that a command reads and judges, one after the other: words, receivers' rows and switches.
-- This project's own.
use Rattle.std.proofs.Common.{ℕ, List, codes}
use Rattle.aeth_app.specs.App.{AppData}
use Rattle.aeth_trace.specs.{Receivers.receivers_of, Spans.SpanData, Switches.switches_of}
use Rattle.aeth_trace.specs.{Words.words_of, declared.receivers.PullRow.PullRow}
use Rattle.aeth_trace.specs.{declared.switches.SwitchRow.SwitchRow, declared.words.WordRow.WordRow}
use Rattle.aeth_machine.specs.declared.traces.Traces.{Traces}
use Rattle.aeth_answers.specs.{Files.judged_file, Task.Judging}
use Rattle.aeth_run_files.specs.declared.runs.RunFiles.{RunFiles}

-- A file of words for an application.
abbrev pub words_file : AppData → List ℕ → Judging (List WordRow)
words_file app name next = judged_file (codes "words") (words_of app) name next

-- A file of receivers' rows for an application.
abbrev pub receivers_file : AppData → List ℕ → Judging (List PullRow)
receivers_file app name next = judged_file (codes "receivers") (receivers_of app) name next

-- A file of switches for an application, whose switches take so long.
abbrev pub switches_file : AppData → SpanData → List ℕ → Judging (List SwitchRow)
switches_file app spans name next = judged_file (codes "switches") (switches_of app spans) name next

-- Words, receivers' rows and switches for an application, whose switches take so long.
abbrev pub traces_files : AppData → SpanData → RunFiles → Judging Traces
traces_files app spans files next =
    words_file app files.words (λ words.
    receivers_file app files.receivers (λ pulls.
    switches_file app spans files.switches (λ switches.
    next (record { words = words; receivers = pulls; switches = switches }))))
