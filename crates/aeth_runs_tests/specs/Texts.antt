-- Worked texts: what runs of the worked designs are to print.
use Rattle.std.proofs.Common.{◌≡◌, ℕ, List, [], ◌∷◌, ◌++◌, codes}
use Rattle.aeth_trace.specs.{Spans.SpanData, declared.receivers.PullRow.PullRow}
use Rattle.aeth_trace.specs.{declared.switches.SwitchRow.SwitchRow, declared.words.WordRow.WordRow}
use Rattle.aeth_report.specs.{Design.Design, LogText.text_of, RunLog.log_of}
use Rattle.aeth_runs_tests.specs.Designs.{one_design, one_spans, slow_design, two_design, two_spans}
use Rattle.aeth_runs_tests.specs.Traces.{five_words, holds, many_words, offers, seven_words, switch}

-- A run of a design prints this text, by the definitions.
abbrev Prints : Design → SpanData → List WordRow → List PullRow → List SwitchRow → ℕ → List ℕ → Type 0
Prints design spans words pulls switches cycles text =
    text_of design.app (log_of (record {
      design = design;
      spans = spans;
      words = words;
      pulls = pulls;
      switches = switches;
      cycles = cycles;
    })) ≡ text

-- Five words on one connection.
abbrev pub OneConnection : Type 0
OneConnection = Prints one_design one_spans five_words [] (switch 0 0 ∷ []) 20
    (codes "sim 1 20\n"
    ++ codes "chan c0 fwd 0 running 5 5 5\n"
    ++ codes "land 1 1 7 7 100\n"
    ++ codes "land 2 1 7 9 101\n"
    ++ codes "land 3 1 11 11 102\n"
    ++ codes "land 4 1 11 13 103\n"
    ++ codes "land 5 1 15 15 104\n"
    ++ codes "chan c0 back 0 running 0 0 0\n"
    ++ codes "link 0 3\nlink 1 2\nlink 2 2\nlink 3 3\nlink 4 3\nlink 5 2\n"
    ++ codes "end\n")

-- The same words over a link with a delay of 2.
abbrev pub LinkWithDelay : Type 0
LinkWithDelay = Prints slow_design one_spans five_words [] (switch 0 0 ∷ []) 20
    (codes "sim 1 20\n"
    ++ codes "chan c0 fwd 0 running 5 5 5\n"
    ++ codes "land 1 1 6 7 100\n"
    ++ codes "land 2 1 6 9 101\n"
    ++ codes "land 3 1 9 11 102\n"
    ++ codes "land 4 1 9 13 103\n"
    ++ codes "land 5 1 12 15 104\n"
    ++ codes "chan c0 back 0 running 0 0 0\n"
    ++ codes "link 0 3\nlink 1 2\nlink 2 2\nlink 3 3\nlink 4 3\nlink 5 2\n"
    ++ codes "end\n")

-- What is printed where a switch opens a second connection.
abbrev opened_text : List ℕ
opened_text = codes "sim 1 24\n"
    ++ codes "chan c0 fwd 0 running 5 5 5\n"
    ++ codes "land 1 1 7 7 100\n"
    ++ codes "land 2 1 7 9 101\n"
    ++ codes "land 3 1 11 11 102\n"
    ++ codes "land 4 1 11 13 103\n"
    ++ codes "land 5 1 15 15 104\n"
    ++ codes "chan c0 back 0 running 0 0 0\n"
    ++ codes "chan c1 fwd 10 running 1 1 1\n"
    ++ codes "land 1 10 20 20 200\n"
    ++ codes "outside c1 fwd 1\n"
    ++ codes "chan c1 back 10 running 0 0 0\n"
    ++ codes "link 0 4\nlink 1 2\nlink 2 2\nlink 3 4\nlink 4 4\nlink 5 2\n"
    ++ codes "end\n"

-- A switch opens a second connection; a word comes too early for it.
abbrev pub ConnectionOpened : Type 0
ConnectionOpened =
    Prints two_design two_spans seven_words [] (switch 0 0 ∷ switch 6 1 ∷ []) 24 opened_text

-- Switches past the last cycle change nothing.
abbrev pub SwitchesPastTheEnd : Type 0
SwitchesPastTheEnd = Prints two_design two_spans seven_words []
    (switch 0 0 ∷ switch 6 1 ∷ switch 30 0 ∷ switch 37 1 ∷ []) 24 opened_text

-- A receiver that takes nothing: its channel stalls at its buffer, and the other doesn't see it.
abbrev pub ReceiverStalls : Type 0
ReceiverStalls = Prints two_design two_spans many_words (holds 0 ∷ []) (switch 0 1 ∷ []) 30
    (codes "sim 1 30\n"
    ++ codes "chan c0 fwd 0 running 12 9 0\n"
    ++ codes "land 1 1 7 7 100\nland 2 1 7 9 101\nland 3 1 11 11 102\n"
    ++ codes "land 4 1 11 13 103\nland 5 1 15 15 104\nland 6 1 15 17 105\n"
    ++ codes "land 7 1 19 19 106\nland 8 1 19 21 107\nland 9 1 23 23 108\n"
    ++ codes "chan c0 back 0 running 0 0 0\n"
    ++ codes "chan c1 fwd 0 running 1 1 1\n"
    ++ codes "land 1 0 4 10 200\n"
    ++ codes "chan c1 back 0 running 0 0 0\n"
    ++ codes "link 0 6\nlink 1 1\nlink 2 1\nlink 3 6\nlink 4 6\nlink 5 1\n"
    ++ codes "end\n")

-- The same with a receiver that takes.
abbrev pub ReceiverTakes : Type 0
ReceiverTakes = Prints two_design two_spans many_words [] (switch 0 1 ∷ []) 30
    (codes "sim 1 30\n"
    ++ codes "chan c0 fwd 0 running 12 12 12\n"
    ++ codes "land 1 1 7 7 100\nland 2 1 7 9 101\nland 3 1 11 11 102\n"
    ++ codes "land 4 1 11 13 103\nland 5 1 15 15 104\nland 6 1 15 17 105\n"
    ++ codes "land 7 1 19 19 106\nland 8 1 19 21 107\nland 9 1 23 23 108\n"
    ++ codes "land 10 1 23 25 109\nland 11 1 27 27 110\nland 12 1 27 29 111\n"
    ++ codes "chan c0 back 0 running 0 0 0\n"
    ++ codes "chan c1 fwd 0 running 1 1 1\n"
    ++ codes "land 1 0 4 10 200\n"
    ++ codes "chan c1 back 0 running 0 0 0\n"
    ++ codes "link 0 7\nlink 1 4\nlink 2 4\nlink 3 7\nlink 4 7\nlink 5 4\n"
    ++ codes "end\n")

-- A switch closes a channel: a word that hasn't been sent is dropped, and one that wasn't taken.
abbrev pub ConnectionClosed : Type 0
ConnectionClosed = Prints two_design two_spans (offers 1 0 (200 ∷ []) ++ offers 1 2 (201 ∷ []))
    (holds 1 ∷ []) (switch 0 1 ∷ switch 3 0 ∷ []) 12
    (codes "sim 1 12\n"
    ++ codes "chan c0 fwd 0 running 0 0 0\n"
    ++ codes "chan c0 back 0 running 0 0 0\n"
    ++ codes "chan c1 fwd 0 ended 2 1 0\n"
    ++ codes "land 1 0 4 10 200\n"
    ++ codes "drop 1 1\n"
    ++ codes "chan c1 back 0 ended 0 0 0\n"
    ++ codes "drop 0 0\n"
    ++ codes "link 0 1\nlink 1 0\nlink 2 0\nlink 3 1\nlink 4 1\nlink 5 0\n"
    ++ codes "end\n")
