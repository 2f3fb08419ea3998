-- The latency of a slot set: how long a server that sends in these slots is late at most, against
-- one that sends without a break at its rate. Rates are in words per table.
-- Latency and rate, often theta and rho: after the latency-rate server (Stiliadis and Varma, 1998),
-- for whole words.
use Rattle.std.proofs.Common.{ℕ, ◌+◌, ◌-◌, ◌*◌, ◌<◌, ◌≤◌, List, length}
use Rattle.std.specs.Int.{div_ceil}
use Rattle.aeth_base.specs.Extremes.{greatest_below}
use Rattle.aeth_server.specs.SlotCycles.{nth_slot}

-- With the latency theta, from whatever cycle s on a server is busy, the q-th slot at or after s
-- comes in time for the first word that goes in it, where each slot carries cap words.
pub record BoundsService (size : ℕ) (slots : List ℕ) (cap rate theta : ℕ) : Type 0 where
  pub holds : (s q : ℕ) → s < size → 1 ≤ q → q ≤ length slots
      → rate * (nth_slot size slots s q - s) ≤ rate * theta + (cap * (q - 1) + 1) * size

-- The rate times how late the q-th slot at or after s comes, with no latency.
abbrev pub lateness : ℕ → List ℕ → ℕ → ℕ → ℕ → ℕ → ℕ
lateness size slots cap rate s q =
    rate * (nth_slot size slots s q - s) - (cap * (q - 1) + 1) * size

-- The greatest lateness of a slot at or after s.
abbrev pub lateness_from : ℕ → List ℕ → ℕ → ℕ → ℕ → ℕ
lateness_from size slots cap rate s =
    greatest_below (λ k. lateness size slots cap rate s (k + 1)) (length slots)

-- The latency of the slots: the greatest lateness of all, in cycles.
unfoldable pub latency_of : ℕ → List ℕ → ℕ → ℕ → ℕ
latency_of size slots cap rate =
    div_ceil (greatest_below (lateness_from size slots cap rate) size) rate
