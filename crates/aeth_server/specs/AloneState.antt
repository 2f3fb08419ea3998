-- A private server in the memory of its last cycles.
-- This project's own.
use Rattle.std.proofs.Common.{ℕ, ◌+◌, ◌-◌, ◌<◌, ◌≤◌, ◌≡◌, nat_lt, Bool, List, ◌∷◌, slice_index}
use Rattle.std.proofs.Common.{replicate, take, All}
use Rattle.aeth_base.specs.Limits.{max_path_delay, max_queue_words}
use Rattle.aeth_server.specs.Limits.{max_session_words}
use Rattle.aeth_server.specs.Shape.{Shape, HasPaths}
use Rattle.aeth_server.specs.PrivateServer.{PrivateServer, Counts, Cycle, counts_after, arrived}
use Rattle.aeth_server.specs.PrivateServer.{sent, taken, credited, pull_at}

-- A private server between two cycles: the shape and the buffer, how many cycles there were and how
-- many words have arrived and were taken, and the words sent and the credits sent after each of the
-- last cycles, newest first, as far back as a flit is under way.
pub record AloneState : Type 0 where
  pub shape : Shape
  pub buffer : ℕ
  pub time : ℕ
  pub arrived : ℕ
  pub taken : ℕ
  pub sent : List ℕ
  pub credited : List ℕ

-- Before the first cycle.
abbrev pub first_state : Shape → ℕ → AloneState
first_state shape buffer = record {
  shape = shape;
  buffer = buffer;
  time = 0;
  arrived = 0;
  taken = 0;
  sent = replicate max_path_delay 0;
  credited = replicate max_path_delay 0;
}

-- The counts after one more cycle, in which so many words are offered.
abbrev pub next_counts : AloneState → ℕ → ℕ → Bool → Counts
next_counts s words pull may_send =
    let cycle : Cycle =
    record { time = s.time; arrived = s.arrived + words; pull = pull; may_send = may_send } in
    let before : Counts =
    record { sent = slice_index s.sent 0; taken = s.taken; credited = slice_index s.credited 0 } in
    let landed = slice_index s.sent (s.shape.path_delay - 1) in
    let returned = slice_index s.credited (s.shape.back_path_delay - 1) in
    counts_after s.shape s.buffer cycle before landed returned

-- After that cycle.
abbrev pub after_cycle : AloneState → ℕ → ℕ → Bool → AloneState
after_cycle s words pull may_send =
    let next = next_counts s words pull may_send in
    record {
      shape = s.shape;
      buffer = s.buffer;
      time = s.time + 1;
      arrived = s.arrived + words;
      taken = next.taken;
      sent = next.sent ∷ take (max_path_delay - 1) s.sent;
      credited = next.credited ∷ take (max_path_delay - 1) s.credited;
    }

-- What holds of its counts within a run.
pub record IsWithinRun (buffer arrived taken : ℕ) (sent credited : List ℕ) : Type 0 where
  pub most_buffer : buffer ≤ max_queue_words
  pub most_arrived : arrived ≤ max_session_words
  pub most_taken : taken ≤ max_session_words
  pub most_sent : All (λ n. n ≤ max_session_words) sent
  pub most_credited : All (λ n. n ≤ max_session_words) credited

-- All that is under way stays in this memory.
pub record FitsMemory (shape : Shape) : Type 0 where
  pub paths : HasPaths shape
  pub most_path : shape.path_delay ≤ max_path_delay
  pub most_back_path : shape.back_path_delay ≤ max_path_delay

-- It is the state of this private server after t cycles.
pub record IsStateAt (server : PrivateServer) (t : ℕ) (s : AloneState) : Type 0 where
  pub shape : s.shape ≡ server.shape
  pub buffer : s.buffer ≡ server.buffer
  pub time : s.time ≡ t
  pub arrived : s.arrived ≡ arrived server t
  pub taken : s.taken ≡ taken server t
  pub sent : (j : ℕ) → j < max_path_delay → slice_index s.sent j ≡ sent server (t - j)
  pub credited : (j : ℕ) → j < max_path_delay → slice_index s.credited j ≡ credited server (t - j)

-- What a cycle is given is what the private server is given in cycle t.
pub record IsGivenAt (server : PrivateServer) (t words pull : ℕ) (may_send : Bool) : Type 0 where
  pub offered : arrived server t + words ≡ arrived server (t + 1)
  pub takes : pull ≡ pull_at server t
  pub sends : may_send ≡ nat_lt t server.stop
