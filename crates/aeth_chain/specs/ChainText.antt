-- The text of a run of a chain.
--
--   bound_line, left_line      the first line, and that of the words that are left
--   chain_lines, chain_text      all lines, and the text
-- This project's own.
use Rattle.std.proofs.Common.{ℕ, List, [], ◌∷◌, ◌++◌, codes, decimal, map, slice_get, unwrap_or}
use Rattle.std.specs.List.{enumerate_from}
use Rattle.aeth_text.specs.Spelling.{text_of_lines}
use Rattle.aeth_app.specs.App.{AppData}
use Rattle.aeth_trace.specs.Switches.{use_names}
use Rattle.aeth_report.specs.LogText.{landing_line, line_of}
use Rattle.aeth_chain.specs.{ChainRun.ChainData, declared.bound.ChainBound.ChainBound}

-- `chain 1 USE RATE LATENCY`.
unfoldable pub bound_line : List ℕ → ChainBound → List ℕ
bound_line name bound =
    line_of (codes "chain" ∷ codes "1" ∷ name ∷ decimal bound.rate ∷ decimal bound.latency ∷ [])

-- `left COUNT`.
unfoldable pub left_line : ℕ → List ℕ
left_line count = line_of (codes "left" ∷ decimal count ∷ [])

-- The lines of a chain in a use case of this name: its bound, the landings on its last channel numbered
-- from 1, and how many words didn't land there.
abbrev pub chain_lines : List ℕ → ChainData → ChainBound → List (List ℕ)
chain_lines name log bound =
    bound_line name bound
    ∷ (map landing_line (enumerate_from 1 log.landings)
    ++ left_line log.left ∷ codes "end" ∷ [])

-- The text of a chain in a use case of an application.
unfoldable pub chain_text : ChainData → ChainBound → AppData → ℕ → List ℕ
chain_text log bound app u =
    text_of_lines (chain_lines (unwrap_or (slice_get (use_names app) u) []) log bound)
