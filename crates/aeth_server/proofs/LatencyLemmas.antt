-- The latency of a slot set is the least that bounds its service.
use Rattle.std.proofs.Common.{ℕ, ◌+◌, ◌-◌, ◌*◌, ◌<◌, ◌≤◌, ◌≡◌, List, length, ap, arith}
use Rattle.std.proofs.Math.Nat.{mul-le-mul_left}
use Rattle.aeth_base.proofs.Division.{div_ceil-le, le-div_ceil}
use Rattle.aeth_base.proofs.ExtremeLemmas.{greatest_below-above, greatest_below-least}
use Rattle.aeth_base.specs.Extremes.{greatest_below}
use Rattle.aeth_slots.specs.SlotSet.{Ascends}
use Rattle.aeth_server.specs.SlotCycles.{nth_slot}
use Rattle.aeth_server.specs.Latency.{BoundsService, lateness, lateness_from, latency_of}
use Rattle.aeth_server.proofs.SlotCycleLemmas.{nth_slot-reached}

module _ (size : ℕ) (slots : List ℕ) (cap rate : ℕ) (some : 1 ≤ rate) where
  -- how late the q-th slot at or after s comes, and how late a slot at or after s at most
  abbrev late : ℕ → ℕ → ℕ
  late s q = lateness size slots cap rate s q

  abbrev late_from : ℕ → ℕ
  late_from = lateness_from size slots cap rate

  -- the latency bounds the service
  pub latency_of-enough : BoundsService size slots cap rate (latency_of size slots cap rate)
  unfolding latency_of
  latency_of-enough = record {
    holds = λ s q start least most.
        let number : (q - 1) + 1 ≡ q = omega arith in
        let here = ap (late s) number in
        let few : q - 1 < length slots = omega arith in
        let worst = greatest_below-above (λ k. late s (k + 1)) (length slots) (q - 1) few in
        let all = greatest_below-above late_from size s start in
        let round = le-div_ceil (greatest_below late_from size) rate
        (latency_of size slots cap rate) some (omega arith) in
        let within : late s q ≤ rate * latency_of size slots cap rate =
        omega (arith, worst, all, here, round) in
        omega (arith, within);
  }

  -- no lesser number does
  pub latency_of-least : (theta : ℕ) → BoundsService size slots cap rate theta
      → latency_of size slots cap rate ≤ theta
  unfolding latency_of
  latency_of-least theta bounds =
      div_ceil-le (greatest_below late_from size) rate theta some
      (greatest_below-least late_from size (rate * theta) (λ s start.
      greatest_below-least (λ k. late s (k + 1)) (length slots) (rate * theta) (λ k low.
      let holds = bounds.holds s (k + 1) start (omega arith) (omega arith) in
      omega (arith, holds))))

  -- the table size does
  size-enough : Ascends 0 size slots → BoundsService size slots cap rate size
  size-enough ascends = record {
    holds = λ s q start least most.
        let found = nth_slot-reached size slots ascends s q least most in
        let near : nth_slot size slots s q - s ≤ size = omega (arith, found.soon) in
        let within : rate * (nth_slot size slots s q - s) ≤ rate * size =
        mul-le-mul_left rate near in
        omega (arith, within);
  }

  -- so the latency is at most the table size
  pub latency_of-within : Ascends 0 size slots → latency_of size slots cap rate ≤ size
  latency_of-within ascends = latency_of-least size (size-enough ascends)
