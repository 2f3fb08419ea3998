-- The lines of the tables of a use case, from what they say.
--
--   head_line, entry_line      the first line, and that of an entry
--   numbers_words, promise_words, queue_line      that of a queue
-- This project's own.
use Rattle.std.proofs.Common.{ℕ, List, [], ◌∷◌, codes, decimal}
use Rattle.std.specs.List.{join_with_byte}
use Rattle.aeth_ni.specs.declared.row.ChannelRow.{ChannelRow}
use Rattle.aeth_text.specs.{Limits.space, Spelling.side_word}
use Rattle.aeth_tables.specs.declared.promised.PromisedRow.{PromisedRow}

-- `tables 1 USE`.
unfoldable pub head_line : List ℕ → List ℕ
head_line name = join_with_byte space (codes "tables" ∷ codes "1" ∷ name ∷ [])

-- `entry NI SLOT QUEUE`.
unfoldable pub entry_line : List ℕ → ℕ → ℕ → List ℕ
entry_line ni slot queue =
    join_with_byte space (codes "entry" ∷ ni ∷ decimal slot ∷ decimal queue ∷ [])

-- QUEUE, ROUTE, REMOTE and CREDITS.
abbrev pub numbers_words : ChannelRow → List ℕ
numbers_words row = join_with_byte space (decimal row.queue ∷ decimal row.route
    ∷ decimal row.remote ∷ decimal row.credits ∷ [])

-- CONN, SIDE, RATE and LATENCY.
abbrev pub promise_words : List ℕ → PromisedRow → List ℕ
promise_words conn promised = join_with_byte space (conn ∷ side_word promised.row.channel.side
    ∷ decimal promised.rate ∷ decimal promised.latency ∷ [])

-- `queue NI QUEUE ROUTE REMOTE CREDITS CONN SIDE RATE LATENCY`.
unfoldable pub queue_line : List ℕ → List ℕ → PromisedRow → List ℕ
queue_line ni conn promised = join_with_byte space
    (codes "queue" ∷ ni ∷ numbers_words promised.row ∷ promise_words conn promised ∷ [])
