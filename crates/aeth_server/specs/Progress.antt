-- Due times one word after the other.
use Rattle.std.proofs.Common.{ℕ, ◌+◌, ◌*◌, ◌≤◌, max, List}
use Rattle.aeth_base.specs.Limits.{max_cycles, max_path_delay, max_slots, words_per_flit}
use Rattle.aeth_server.specs.{Limits.max_session_words, FinishTimes.finish_time}

-- How far the words of a session are: the table size, the rate and the latency, how many words
-- there were, and the finish time of the last one.
pub record Progress : Type 0 where
  pub size : ℕ
  pub rate : ℕ
  pub latency : ℕ
  pub words : ℕ
  pub finish : ℕ

-- With one more word, which arrives in this cycle.
abbrev pub after_word : Progress → ℕ → Progress
after_word before arrival = record before {
  words = before.words + 1;
  finish = max (before.rate * (arrival + before.latency)) before.finish + before.size;
}

-- After the first i words that arrive in these cycles.
abbrev pub progress_of : ℕ → ℕ → ℕ → List ℕ → ℕ → Progress
progress_of size rate latency arrivals i = record {
  size = size;
  rate = rate;
  latency = latency;
  words = i;
  finish = finish_time size rate latency arrivals i;
}

-- What holds of all these numbers within a session.
pub record IsWithinSession (size rate latency words finish : ℕ) : Type 0 where
  pub least_size : 1 ≤ size
  pub most_size : size ≤ max_slots
  pub least_rate : 1 ≤ rate
  pub most_rate : rate ≤ words_per_flit * max_slots
  pub most_latency : latency ≤ max_slots + max_path_delay
  pub most_words : words ≤ max_session_words
  pub most_finish : finish
      ≤ words_per_flit * max_slots * (max_cycles + max_slots + max_path_delay) + words * max_slots
