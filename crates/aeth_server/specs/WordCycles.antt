-- The cycle in which a private server sends each of its words, takes it and sends its credit, and how
-- these follow from the words before. Only the first cycles of the server are spoken of, as many as a
-- run has: what isn't done in them has their number for its cycle.
--
--   reached_in, IsReachedIn      the cycle in which a count comes to a number
--   sending_cycle, taking_cycle, crediting_cycle      those of the i-th word
--   IsOpenFor      what is asked of a server
--   IsReadyToGo, IsTakingFrom, IsCreditReady      from when on a word, with i before it, can be sent, is
--                                                 waited for by its receiver, and can be credited
-- This project's own.
use Rattle.std.proofs.Common.{ℕ, ◌+◌, ◌-◌, ◌<◌, ◌≤◌, ◌≡◌, ◌⊎◌, nat_le, length, slice_index}
use Rattle.std.specs.List.Sorted.{IsNonDecreasing}
use Rattle.aeth_base.specs.{Extremes.least_below, Limits.credits_per_flit, Limits.words_per_flit}
use Rattle.aeth_server.specs.PrivateServer.{PrivateServer, accepted, credited, landed, sent, taken}
use Rattle.aeth_server.specs.Shape.{HasPaths}

-- The cycle by whose end a count has come to i, of the first so many cycles; else their number.
abbrev pub reached_in : (ℕ → ℕ) → ℕ → ℕ → ℕ
reached_in count cycles i = least_below (λ u. nat_le i (count (u + 1))) cycles

-- Cycle u is the one in which a count comes to i, or all of the cycles are over before.
pub record IsReachedIn (count : ℕ → ℕ) (cycles i u : ℕ) : Type 0 where
  pub within : u ≤ cycles
  pub before : count u < i
  pub after : u < cycles → i ≤ count (u + 1)

-- When the i-th word is sent.
abbrev pub sending_cycle : PrivateServer → ℕ → ℕ → ℕ
sending_cycle server cycles i = reached_in (sent server) cycles i

-- When its receiver takes it.
abbrev pub taking_cycle : PrivateServer → ℕ → ℕ → ℕ
taking_cycle server cycles i = reached_in (taken server) cycles i

-- When its credit is sent.
abbrev pub crediting_cycle : PrivateServer → ℕ → ℕ → ℕ
crediting_cycle server cycles i = reached_in (credited server) cycles i

-- A server that sends throughout these cycles, and whose words are in the order of their offers.
pub record IsOpenFor (server : PrivateServer) (cycles : ℕ) : Type 0 where
  pub paths : HasPaths server.shape
  pub sends : cycles ≤ server.stop
  pub order : IsNonDecreasing (accepted server)

-- Before cycle t so many words were taken, none behind the first i, and the word behind these has
-- landed by its end.
pub record IsTakingFrom (server : PrivateServer) (i t had : ℕ) : Type 0 where
  pub before : taken server t ≡ had
  pub low : had ≤ i
  pub landed : i + 1 ≤ landed server (t + 1)

module _ (server : PrivateServer) (cycles : ℕ) where
  -- From cycle m on the word behind the first i can be sent, and not before: it has arrived; the
  -- credit is back of the word whose place in the buffer it takes; and the word before the last one
  -- went in an earlier cycle, since a flit carries two.
  pub record IsReadyToGo (i m : ℕ) : Type 0 where
    pub known : i < length (accepted server)
    pub arrival : slice_index (accepted server) i ≤ m
    pub credit : server.buffer ≤ i
        → crediting_cycle server cycles (i + 1 - server.buffer) + server.shape.back_path_delay ≤ m
    pub flit : words_per_flit ≤ i
        → sending_cycle server cycles (i + 1 - words_per_flit) + 1 ≤ m
    pub since : (m ≡ slice_index (accepted server) i)
        ⊎ ((server.buffer ≤ i)
        × (m ≡ crediting_cycle server cycles (i + 1 - server.buffer) + server.shape.back_path_delay))
        ⊎ ((words_per_flit ≤ i) × (m ≡ sending_cycle server cycles (i + 1 - words_per_flit) + 1))

  -- From cycle m on the credit of the word behind the first i can be sent, and not before: the word
  -- was taken in an earlier cycle, and in one went the credit of the word fifteen before it, since a
  -- flit carries fifteen.
  pub record IsCreditReady (i m : ℕ) : Type 0 where
    pub taking : taking_cycle server cycles (i + 1) + 1 ≤ m
    pub flit : credits_per_flit ≤ i
        → crediting_cycle server cycles (i + 1 - credits_per_flit) + 1 ≤ m
    pub since : (m ≡ taking_cycle server cycles (i + 1) + 1)
        ⊎ ((credits_per_flit ≤ i)
        × (m ≡ crediting_cycle server cycles (i + 1 - credits_per_flit) + 1))
