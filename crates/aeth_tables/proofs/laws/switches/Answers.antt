use Rattle.std.proofs.Common.{ℕ, length, sym, zero-add}
use Rattle.aeth_ni.proofs.ProgramLemmas.{length-program_of}
use Rattle.aeth_tables.specs.Switching.{closing_rows, lag_of, opening_rows, spans_of, writes_of}
use Rattle.aeth_tables.proofs.GridLaws.{grid_at}
use Rattle.aeth_tables.proofs.laws.switches.Goals as goal

-- The pairs stand row by row.
pub returns-clause-each : goal.returns-clause-each
unfolding spans_of
returns-clause-each c = λ chip app groups plan u v first second.
    rw zero-add at (grid_at {X = ℕ × ℕ} (λ w x. (lag_of chip app groups plan w x, writes_of chip app groups plan w x))
    (length groups.uses) 0 (length groups.uses) u v (0, 0) first second)

-- A program has a write for each slot and one for the route, of each channel.
pub returns-clause-program : goal.returns-clause-program
returns-clause-program c = λ chip app groups plan u v.
    sym (length-program_of (closing_rows chip app groups plan u v)
    (opening_rows chip app groups plan u v))
