-- When a latency-rate server is done with each of its words.
-- Latency-rate server: after Stiliadis and Varma (1998), for whole words.
use Rattle.std.proofs.Common.{ℕ, ◌+◌, ◌*◌, max, nat_lt, List, length, filter, slice_index, zero}
use Rattle.std.proofs.Common.{suc}
use Rattle.std.specs.Int.{div_ceil}

-- How many words arrive before cycle t, of words that arrive in these cycles.
abbrev pub arrivals_before : List ℕ → ℕ → ℕ
arrivals_before arrivals t = length (filter (λ a. nat_lt a t) arrivals)

-- The rate times the time by which the first i words are done: the server waits for its latency
-- after an arrival, and then takes size / rate cycles a word.
abbrev pub finish_time : ℕ → ℕ → ℕ → List ℕ → ℕ → ℕ
finish_time size rate latency arrivals zero = 0
finish_time size rate latency arrivals (suc i) =
    max
    (rate * (slice_index arrivals i + latency))
    (finish_time size rate latency arrivals i)
    + size

-- The cycle of a finish time: the first one by which it has passed.
abbrev pub due_cycle : ℕ → ℕ → ℕ
due_cycle rate finish = div_ceil finish rate
