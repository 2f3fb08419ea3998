use Rattle.std.proofs.Common.{◌≡◌, ◌++◌, ℕ, List, drop, take}
use Rattle.aeth_running.specs.Logged.{rows_logged}
use Rattle.aeth_network.proofs.logging.log_rows.Given as goal

-- The rows so far are logged.
abbrev pub invariant-loop-place : goal.invariant-loop-place
invariant-loop-place l = (cycles : ℕ) (all : List ℕ)
    → l.rows ≡ rows_logged cycles all (take l.place l.fn.rows) l.landings ++ drop l.place l.fn.rows
